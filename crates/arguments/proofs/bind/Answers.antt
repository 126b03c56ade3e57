use Rattle.std.proofs.lemmas.Result.{err_from_is_err_and}
use Rattle.arguments.proofs.Bound.{none_0, few_0, bad_1, none_1, few_1, bad_2, none_2, binds}
use Rattle.arguments.proofs.Outs.{halted}
use Rattle.arguments.proofs.bind.Goals as goal

pub returns-then-wanted-eq0 : goal.returns-then-wanted-eq0
returns-then-wanted-eq0 c = λ s h row. binds s _ _ c.parameters-wanted.ensures.0 (λ n k u gs num b. none_0 s n _ _ _ gs b c.if-wanted-eq0.true (rw (c.finish.ensures s h)))

pub returns-then-many-eq0 : goal.returns-then-many-eq0
returns-then-many-eq0 c = λ s h row. binds s _ _ c.parameters-wanted.ensures.0 (λ n k u gs num b. few_0 s n _ _ _ gs b c.if-wanted-eq0.false c.if-many-eq0.true (rw (c.too_few.ensures s h)))

pub returns-in_err-fit_one : goal.returns-in_err-fit_one
returns-in_err-fit_one c =
    let p = err_from_is_err_and c.from_residual.result c.from_residual.ensures.1 in
    rw (p.1, p.2, ← c.in_err-fit_one.was)
    (λ s h row. binds s _ _ c.parameters-wanted.ensures.0 (λ n k u gs num b. bad_1 s n _ _ num _ gs b (c.fit_one.ensures.by_index s h) c.if-wanted-eq0.false c.if-many-eq0.false (halted c.in_err-fit_one.was)))

pub returns-then-wanted-eq1 : goal.returns-then-wanted-eq1
returns-then-wanted-eq1 c = λ s h row. binds s _ _ c.parameters-wanted.ensures.0 (λ n k u gs num b. none_1 s n _ _ num c.in_ok-fit_one.was _ gs b (c.fit_one.ensures.by_index s h) c.if-wanted-eq1.true c.if-many-eq0.false (rw (c.finish-then-wanted-eq1.ensures s h)))

pub returns-then-many-eq1 : goal.returns-then-many-eq1
returns-then-many-eq1 c = λ s h row. binds s _ _ c.parameters-wanted.ensures.0 (λ n k u gs num b. few_1 s n _ _ num c.in_ok-fit_one.was _ gs b (c.fit_one.ensures.by_index s h) c.if-wanted-eq0.false c.if-wanted-eq1.false c.if-many-eq1.true (rw (c.too_few-then-many-eq1.ensures s h)))

pub returns-in_err-fit_one-2 : goal.returns-in_err-fit_one-2
returns-in_err-fit_one-2 c =
    let p = err_from_is_err_and c.from_residual-in_err-fit_one-2.result c.from_residual-in_err-fit_one-2.ensures.1 in
    rw (p.1, p.2, ← c.in_err-fit_one-2.was)
    (λ s h row. binds s _ _ c.parameters-wanted.ensures.0 (λ n k u gs num b. bad_2 s n _ _ num c.in_ok-fit_one.was _ gs b (c.fit_one.ensures.by_index s h) (c.fit_one-2.ensures.by_index s h) c.if-wanted-eq0.false c.if-wanted-eq1.false c.if-many-eq0.false c.if-many-eq1.false (halted c.in_err-fit_one-2.was)))

pub returns : goal.returns
returns c = λ s h row. binds s _ _ c.parameters-wanted.ensures.0 (λ n k u gs num b. none_2 s n _ _ num c.in_ok-fit_one.was _ gs b (c.fit_one.ensures.by_index s h) (c.fit_one-2.ensures.by_index s h) c.parameters-wanted.ensures.1 c.if-wanted-eq0.false c.if-wanted-eq1.false c.if-many-eq0.false c.if-many-eq1.false c.in_ok-fit_one-2.was (rw (c.finish-2.ensures s h)))

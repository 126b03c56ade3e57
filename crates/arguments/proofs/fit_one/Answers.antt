use Rattle.std.proofs.lemmas.Result.{err_from_is_err_and}
use Rattle.arguments.proofs.Bound.{takes_value, takes_none}
use Rattle.arguments.proofs.Outs.{halted}
use Rattle.arguments.proofs.fit_one.Goals as goal

pub returns-in_err-fitted-clause-by_index : goal.returns-in_err-fitted-clause-by_index
returns-in_err-fitted-clause-by_index c =
    let p = err_from_is_err_and c.from_residual.result c.from_residual.ensures.1 in
    rw (p.1, p.2, ← c.in_err-fitted.was)
    (λ s h. takes_none s _ _ _ (c.fit.ensures.by_index s h) (c.wrong_type-otherwise.ensures s h) c.parameter_type-wanted.ensures (halted c.in_err-fitted.was))

pub returns-clause-by_index : goal.returns-clause-by_index
returns-clause-by_index c =
    rw (← c.in_ok-fitted.was)
    (λ s h. takes_value s _ _ _ (c.fit.ensures.by_index s h) (c.wrong_type-otherwise.ensures s h) c.parameter_type-wanted.ensures c.in_ok-fitted.was (c.put_part.ensures s h))

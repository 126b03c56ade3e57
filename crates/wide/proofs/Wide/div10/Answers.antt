use Rattle.std.proofs.Common.{refl, ◌∙◌, rules}
use Rattle.wide.proofs.Words.{divided, small_tenth, part_fits}
use Rattle.wide.proofs.Wide.div10.Goals as goal

pub returns-then-hi-eq0 : goal.returns-then-hi-eq0
returns-then-hi-eq0 c = let t = small_tenth _ _ c.if-hi-eq0.true in (rw c.from.ensures t.0, c.last_digit.ensures ∙ t.1)

pub overflow_add-p1 : goal.overflow_add-p1
overflow_add-p1 c = record { fits = (part_fits c.args.self.hi c.args.self.lo _ c.last_digit-2.ensures (search rules)).0 }

pub overflow_mul-rest : goal.overflow_mul-rest
overflow_mul-rest c =
    let a = c.args.self in
    record { fits = (part_fits a.hi a.lo _ c.last_digit-2.ensures (search rules)).1 }

pub returns : goal.returns
returns c =
    let a = c.args.self in
    let d = divided a.hi a.lo _ _ _ _ c.last_digit-2.ensures refl c.last_digit-3.ensures refl in
    (d.0, c.last_digit-4.ensures ∙ d.1)

use Rattle.std.proofs.Common.{refl}
use Rattle.wide.proofs.Digits.{again, finished}
use Rattle.wide.proofs.Wide.digits.Goals as goal

pub returns-then-is_zero : goal.returns-then-is_zero
returns-then-is_zero g c =
    let both = finished g.met.B.Base.two c.loop-rest.invariant refl c.divide-q.ensures c.spell.ensures c.is_zero.ensures c.if-is_zero.true in
    record { value = both.0; text_after = both.1 }

pub loop-rest-preserved : goal.loop-rest-preserved
loop-rest-preserved g c =
    again g.met.B.Base.two c.loop-rest.invariant refl c.divide-q.ensures c.spell.ensures c.is_zero.ensures c.if-is_zero.false

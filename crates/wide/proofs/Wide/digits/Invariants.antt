use Rattle.language.specs.Integers.{digits_in}
use Rattle.wide.specs.Wide.{value_of}
use Rattle.wide.proofs.Digits.{Written}
use Rattle.wide.proofs.Wide.digits.Given as goal

abbrev pub invariant-loop-rest : goal.invariant-loop-rest
invariant-loop-rest g l =
    let base = g.B.Base.BASE in
    Written base g.row.N (digits_in base g.row.N (value_of l.fn.self)) l.text (value_of l.rest) l.at

abbrev pub decreases-loop-rest : goal.decreases-loop-rest
decreases-loop-rest g l = l.at

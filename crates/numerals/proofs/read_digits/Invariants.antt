use Rattle.numerals.proofs.Digits.{Reading}
use Rattle.numerals.proofs.read_digits.Given as goal

abbrev pub invariant-loop-b : goal.invariant-loop-b
invariant-loop-b g l = Reading g.B.Base.BASE l.digits l.v l.b-index

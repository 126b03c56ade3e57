use Rattle.numerals.proofs.Quads.{Dots}
use Rattle.numerals.proofs.dotted_quad.Given as goal

abbrev pub invariant-loop-i : goal.invariant-loop-i
invariant-loop-i l = Dots l.line l.at l.i l.dots l.address

abbrev pub decreases-loop-i : goal.decreases-loop-i
decreases-loop-i l = l.dots

use mathlib.Core.List.{List}
use Rattle.judging.specs.Judging.{Passed, ArgsAt}
use Rattle.judging.proofs.Trees.{left, Unmet}
use Rattle.judging.proofs.any_named.Given as goal

abbrev pub invariant-loop-next : goal.invariant-loop-next
invariant-loop-next l = (ps : List Passed) → ArgsAt l.nodes l.i l.initial.next ps → Unmet l.nodes l.i l.next ps

abbrev pub decreases-loop-next : goal.decreases-loop-next
decreases-loop-next l = left l.i l.next

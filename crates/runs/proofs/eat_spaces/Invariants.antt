use Prim.Native.Nat.{◌-◌}
use lib.ListN.{length}
use Rattle.runs.specs.Runs.{blank_end}
use Rattle.classes.specs.Runs.{Reached}
use Rattle.runs.proofs.eat_spaces.Given as goal

abbrev pub invariant-loop-i : goal.invariant-loop-i
invariant-loop-i l = Reached blank_end l.line l.at l.i

abbrev pub decreases-loop-i : goal.decreases-loop-i
decreases-loop-i l = length l.line - l.i

use Rattle.std.proofs.Common.{◌-◌, length}
use Rattle.classes.specs.Runs.{run_end, Reached}
use Rattle.classes.proofs.past_blocks.Given as goal

abbrev pub invariant-loop-i : goal.invariant-loop-i
invariant-loop-i g l = Reached (run_end g.C.Class.member) l.line l.at l.i

abbrev pub decreases-loop-i : goal.decreases-loop-i
decreases-loop-i g l = length l.line - l.i

-- Each number ends after it starts, and there are at most four.
use Rattle.std.proofs.Common.{length, ◌≤◌, ◌-◌}
use Rattle.printing.proofs.header.rooms_of.Given as goal

abbrev pub invariant-loop-at : goal.invariant-loop-at
invariant-loop-at l = (l.at ≤ length l.line) × (l.count ≤ 4)

abbrev pub decreases-loop-at : goal.decreases-loop-at
decreases-loop-at l = length l.line - l.at

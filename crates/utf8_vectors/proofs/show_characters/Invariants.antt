-- A character ends after it starts, and within the sequence.
use Rattle.std.proofs.Common.{length, ◌≤◌, ◌-◌}
use Rattle.utf8_vectors.proofs.show_characters.Given as goal

abbrev pub invariant-loop-place : goal.invariant-loop-place
invariant-loop-place g l = l.place ≤ length l.s

abbrev pub decreases-loop-place : goal.decreases-loop-place
decreases-loop-place g l = length l.s - l.place

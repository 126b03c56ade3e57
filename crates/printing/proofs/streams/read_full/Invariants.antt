-- Each turn reads a byte or more.
use Rattle.std.proofs.Common.{length, ◌-◌}
use Rattle.printing.proofs.streams.read_full.Given as goal

abbrev pub decreases-loop-end : goal.decreases-loop-end
decreases-loop-end g l = length l.initial.buf - l.end

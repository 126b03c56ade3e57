-- The number is cut at each digit.
use Rattle.std.proofs.Common.{◌≤◌}
use Rattle.printing.proofs.header.number_of.Given as goal

abbrev pub invariant-loop-b : goal.invariant-loop-b
invariant-loop-b l = l.n ≤ 1000000

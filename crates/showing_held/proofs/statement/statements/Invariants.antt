-- What is open has room in the stack.
use Rattle.std.proofs.Common.{◌≤◌}
use Rattle.showing_held.proofs.statement.statements.Given as goal

abbrev pub invariant-loop-i : goal.invariant-loop-i
invariant-loop-i g l = l.depth ≤ 96

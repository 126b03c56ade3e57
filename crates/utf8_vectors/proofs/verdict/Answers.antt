-- The bad byte is one of the sequence, so its place has a successor.
use Rattle.std.proofs.Common.{arith, length-take}
use Rattle.utf8.proofs.Places.{bad_within}
use Rattle.utf8_vectors.proofs.verdict.Goals as goal

pub overflow_add-result : goal.overflow_add-result
overflow_add-result c = omega (arith, simp length-take at (bad_within _ _ c.in-Some.ensures))

pub returns-in-Some : goal.returns-in-Some
returns-in-Some c = omega (arith, simp length-take at (bad_within _ _ c.in-Some.ensures))

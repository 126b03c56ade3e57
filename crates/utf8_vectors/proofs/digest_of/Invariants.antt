-- The sums stay within their types: the digest is below its modulus, and the good are at most those tried.
use Rattle.std.proofs.Common.{◌≤◌, ◌<◌}
use Rattle.utf8_vectors.proofs.digest_of.Given as goal

abbrev pub invariant-loop-k : goal.invariant-loop-k
invariant-loop-k l = (l.good ≤ l.k) × (l.digest < 4294967291)

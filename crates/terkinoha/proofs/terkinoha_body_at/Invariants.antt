use Prim.Native.Nat.{◌-◌}
use Rattle.terkinoha.proofs.Bodies.{Seeking}
use Rattle.terkinoha.proofs.terkinoha_body_at.Given as goal

abbrev pub invariant-loop-n : goal.invariant-loop-n
invariant-loop-n l = Seeking l.source l.start l.end l.i (l.i - l.n) l.body

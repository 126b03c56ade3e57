use Prim.Native.Nat.{◌≤◌, ◌-◌}
use mathlib.Core.Path.{◌≡◌}
use lib.ListN.{length}
use Rattle.language.specs.Sentences.{Expr}
use Rattle.judging.specs.Judging.{RepAt, Descends}
use Rattle.judging.proofs.descend.Given as goal

abbrev pub invariant-loop-depth : goal.invariant-loop-depth
invariant-loop-depth l = (length l.rows ≡ 64) × (l.depth ≤ 64) × ((e : Expr) → RepAt l.nodes l.i e → Descends l.nodes l.rows l.i l.depth l.row e)

abbrev pub decreases-loop-depth : goal.decreases-loop-depth
decreases-loop-depth l = 64 - l.depth

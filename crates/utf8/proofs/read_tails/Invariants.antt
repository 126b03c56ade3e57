use Prim.Native.Nat.{suc, ◌+◌}
use lib.ListN.{drop}
use Rattle.language.specs.Utf8.{follow}
use Rattle.utf8.proofs.Tails.{Tails}
use Rattle.utf8.proofs.read_tails.Given as goal

abbrev pub invariant-loop-left : goal.invariant-loop-left
invariant-loop-left l =
    let d = l.fn.lead in
    Tails l.src l.at (suc d.tails) (follow (suc d.tails) d.tails d.low d.high d.bits (drop (l.at + 1) l.src)) l.low l.high l.number l.left l.next

abbrev pub decreases-loop-left : goal.decreases-loop-left
decreases-loop-left l = l.left

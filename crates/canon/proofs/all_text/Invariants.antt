use Rattle.canon.proofs.Texts.{Texting}
use Prim.Native.Nat.{◌≤◌}
use Rattle.canon.proofs.all_text.Given as goal

abbrev pub invariant-loop-i : goal.invariant-loop-i
invariant-loop-i l = (l.i ≤ l.count) × Texting l.source l.initial.text l.i l.at l.text

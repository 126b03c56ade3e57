use Rattle.writer.proofs.Laws.{Copying}
use Rattle.writer.proofs.copy.Given as goal

abbrev pub invariant-loop-i : goal.invariant-loop-i
invariant-loop-i l = Copying l.initial.text l.at l.bytes l.i l.text

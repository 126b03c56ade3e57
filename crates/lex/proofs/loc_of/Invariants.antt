use Rattle.lex.proofs.Places.{Placing}
use Rattle.lex.proofs.loc_of.Given as goal

abbrev pub invariant-loop-b : goal.invariant-loop-b
invariant-loop-b l = Placing l.source l.at l.line l.column l.b-index

use mathlib.Core.Path.{◌≡◌}
use Rattle.lex.proofs.Feeding.{Feeding}
use Rattle.lex.proofs.Lexer.lexemes.Given as goal

abbrev pub invariant-loop-found : goal.invariant-loop-found
invariant-loop-found l = (l.found-iterator.line.now ≡ l.line) × Feeding l.initial.lexer l.initial.table l.start l.line l.lexer l.table l.found-iterator.pos

use mathlib.Core.Path.{◌≡◌}
use Rattle.lex.proofs.Bodies.{Looking}
use Rattle.lex.proofs.nth_body.Given as goal

abbrev pub invariant-loop-found : goal.invariant-loop-found
invariant-loop-found l = (l.found-iterator.line.now ≡ l.text) × Looking l.text l.i l.left l.found-iterator.pos

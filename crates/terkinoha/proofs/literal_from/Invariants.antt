use mathlib.Core.Path.{◌≡◌}
use Rattle.terkinoha.proofs.Bodies.{Walking}
use Rattle.terkinoha.proofs.literal_from.Given as goal

abbrev pub invariant-loop-found : goal.invariant-loop-found
invariant-loop-found l = (l.found-iterator.line.now ≡ l.text) × Walking l.text l.at l.found-iterator.pos

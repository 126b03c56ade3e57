use mathlib.Core.Path.{◌≡◌}
use Rattle.canon.proofs.Strings.{Telling}
use Rattle.canon.proofs.literals.Given as goal

abbrev pub invariant-loop-found : goal.invariant-loop-found
invariant-loop-found l = (l.found-iterator.line.now ≡ l.part) × Telling l.part l.initial.text l.at l.text l.end l.found-iterator.pos

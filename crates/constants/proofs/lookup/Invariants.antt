use mathlib.Core.Path.{◌≡◌}
use Rattle.language.specs.Values.{lookup}
use Rattle.constants.specs.Constants.{or_zero}
use Rattle.constants.proofs.Entries.{from}
use Rattle.constants.proofs.lookup.Given as goal

abbrev pub invariant-loop-i : goal.invariant-loop-i
invariant-loop-i l = or_zero (from l.inside l.name l.i) ≡ or_zero (lookup l.inside l.name)

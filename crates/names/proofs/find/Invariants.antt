use Prim.Native.Nat.{◌+◌, ◌-◌}
use mathlib.Core.Path.{◌≡◌}
use Rattle.names.specs.Names.{place, names_in}
use Rattle.names.proofs.find.Given as goal

abbrev pub invariant-loop-i : goal.invariant-loop-i
invariant-loop-i l = l.i + place (names_in l.source l.names (l.used - l.i) l.i) l.name ≡ place (names_in l.source l.names l.used 0) l.name

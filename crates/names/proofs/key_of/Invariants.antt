use Prim.Native.Nat.{◌<◌}
use mathlib.Core.Path.{◌≡◌}
use lib.ListN.{drop}
use Rattle.language.specs.Tables.{word_limit}
use Rattle.names.specs.Names.{key_from, key_of}
use Rattle.names.proofs.key_of.Given as goal

abbrev pub invariant-loop-b : goal.invariant-loop-b
invariant-loop-b l = (key_from l.key (drop l.b-index l.name) ≡ key_of l.name) × (l.key < word_limit)

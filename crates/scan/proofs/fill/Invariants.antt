use mathlib.Core.Path.{◌≡◌}
use lib.ListN.{length}
use Rattle.scan.proofs.Filling.{Filling}
use Rattle.scan.proofs.fill.Given as goal

abbrev pub invariant-loop-found : goal.invariant-loop-found
invariant-loop-found l = (length l.table ≡ length l.initial.table) × (l.found-iterator.line.now ≡ l.line) × Filling l.line (length l.initial.table) l.table l.count l.found-iterator.pos

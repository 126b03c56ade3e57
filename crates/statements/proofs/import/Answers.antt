use mathlib.Core.Path.{ap, ◌∙◌}
use mathlib.Core.List.{List}
use Prim.Native.Nat.{ℕ}
use Rattle.names.specs.Names.{key_of}
use Rattle.constants.specs.Constants.{or_zero}
use Rattle.language.specs.Values.{lookup}
use Rattle.statements.proofs.Turns.{imports_again, imports_full, imports_found, imports_failed}
use Rattle.statements.proofs.import.Goals as goal

pub find-place-requires : goal.find-place-requires
find-place-requires c = (c.requires.modules.0, rw c.bytes.ensures c.requires.modules.1, c.key_of-key.ensures)

pub report-requires : goal.report-requires
report-requires c = c.requires.room.findings

pub returns-then-place-imported : goal.returns-then-place-imported
returns-then-place-imported c = let p = rw c.bytes.ensures at c.find-place.ensures in λ n k b u num kn. imports_again c.args.scope.now.toks.now n c.args.t k b c.args.scope.now.imports.now u c.args.diags.now c.args.counts.now kn num p.at (c.name-name.ensures _ c.at-tok.ensures) c.at-tok.ensures c.if-place-imported.true c.at.ensures c.report.ensures

pub returns-then-imported-ge-IMPORTS : goal.returns-then-imported-ge-IMPORTS
returns-then-imported-ge-IMPORTS c = let p = rw c.bytes.ensures at c.find-place.ensures in λ n k b u num kn. imports_full c.args.scope.now.toks.now n c.args.t k b c.args.scope.now.imports.now u c.args.diags.now c.args.counts.now kn num p.at (c.name-name.ensures _ c.at-tok.ensures) c.at-tok.ensures c.if-place-imported.false c.if-imported-ge-IMPORTS.true

pub report-requires-then-kind-eq0 : goal.report-requires-then-kind-eq0
report-requires-then-kind-eq0 c = c.requires.room.findings

pub returns-then-kind-eq0 : goal.returns-then-kind-eq0
returns-then-kind-eq0 c = let p = rw c.bytes.ensures at c.find-place.ensures in λ n k b u num kn. imports_failed c.args.scope.now.toks.now n c.args.t k b c.args.scope.now.imports.now u c.args.diags.now c.args.counts.now kn num p.at (c.name-name.ensures _ c.at-tok.ensures) c.at-tok.ensures c.if-place-imported.false c.if-imported-ge-IMPORTS.false (c.key_of-key.ensures ∙ ap key_of (c.name-name.ensures _ c.at-tok.ensures)) (c.module_named-kind.ensures ∙ ap (λ (w : List ℕ). or_zero (lookup 0 w)) (c.name-name.ensures _ c.at-tok.ensures)) (rw c.no_value.ensures at c.entry-e.ensures) c.if-kind-eq0.true c.at-then-kind-eq0.ensures c.report-then-kind-eq0.ensures

pub returns : goal.returns
returns c = let p = rw c.bytes.ensures at c.find-place.ensures in λ n k b u num kn. imports_found c.args.scope.now.toks.now n c.args.t k b c.args.scope.now.imports.now u c.args.diags.now c.args.counts.now kn num p.at (c.name-name.ensures _ c.at-tok.ensures) c.at-tok.ensures c.if-place-imported.false c.if-imported-ge-IMPORTS.false (c.key_of-key.ensures ∙ ap key_of (c.name-name.ensures _ c.at-tok.ensures)) (c.module_named-kind.ensures ∙ ap (λ (w : List ℕ). or_zero (lookup 0 w)) (c.name-name.ensures _ c.at-tok.ensures)) (rw c.no_value.ensures at c.entry-e.ensures) c.if-kind-eq0.false

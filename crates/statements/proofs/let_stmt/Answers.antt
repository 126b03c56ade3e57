use native.Mathlib.Omega.{arith}
use mathlib.Core.Path.{refl, ap, subst, ◌∙◌}
use Rattle.names.specs.Names.{key_of}
use Rattle.names.proofs.Names.{found_few}
use Rattle.judging.specs.Judging.{known_in}
use Rattle.judging.proofs.Trees.{at_row}
use Rattle.judging.proofs.Steps.{stepped_counts}
use Rattle.statements.specs.Checking.{Room}
use Rattle.statements.proofs.Statements.{look_most, let_looks, let_room, let_fits, fits_expr, value_room}
use Rattle.statements.proofs.StmtRows.{same_knows, same_ready, searched_number}
use Rattle.statements.proofs.Turns.{lets_again, lets_full, lets_bound}
use Rattle.statements.proofs.let_stmt.Goals as goal

pub node_word-t-requires : goal.node_word-t-requires
node_word-t-requires c = (c.requires.stmt_fits.1, omega arith)

pub find-place-requires : goal.find-place-requires
find-place-requires c = (c.requires.ready.bound, rw c.bytes.ensures c.requires.ready.keyed, c.key_of-key.ensures)

pub searched-requires : goal.searched-requires
searched-requires c = let few = found_few _ _ _ _ c.find-place.ensures in omega (arith, few, c.requires.ready.few, let_looks c.requires.stmt_fits.0)

pub word-bound-requires : goal.word-bound-requires
word-bound-requires c = (omega (arith, c.requires.ready.bound, c.if-first-used.true), omega arith)

pub bound_twice-requires : goal.bound_twice-requires
bound_twice-requires c = let_room c.requires.stmt_fits.0 _ c.searched.ensures

pub returns-then-first-used : goal.returns-then-first-used
returns-then-first-used c = let p = rw c.bytes.ensures at c.find-place.ensures in λ n k e num kn rep. lets_again c.args.scope.now.toks.now n _ _ c.node_word-t.ensures k e c.args.scope.now.bindings.now c.args.scope.now.imports.now c.args.stmts.now c.args.diags.now c.args.counts.now kn num p.at (c.name-name.ensures _ c.at-tok.ensures) c.searched.ensures p.compared c.if-first-used.true c.word-bound.ensures c.at-tok.ensures c.bound_twice.ensures

pub returns-then-used-ge-NAMES : goal.returns-then-used-ge-NAMES
returns-then-used-ge-NAMES c = let p = rw c.bytes.ensures at c.find-place.ensures in λ n k e num kn rep. (lets_full c.args.scope.now.toks.now n _ _ c.node_word-t.ensures k e c.args.scope.now.bindings.now c.args.scope.now.imports.now c.args.stmts.now c.args.diags.now c.args.counts.now kn num p.at (c.name-name.ensures _ c.at-tok.ensures) c.if-first-used.false c.if-used-ge-NAMES.true)

pub node_word-e-requires : goal.node_word-e-requires
node_word-e-requires c = (c.requires.stmt_fits.1, omega arith)

pub judge-judged-requires : goal.judge-judged-requires
judge-judged-requires c = record { ready = same_ready c.args.counts.now _ refl refl c.searched.ensures c.requires.ready; fits = fits_expr (let_fits c.requires.stmt_fits.0 c.searched.ensures (look_most _ _ _ _ (rw c.bytes.ensures at c.find-place.ensures) c.requires.ready.few)) c.node_word-e.ensures refl }

pub bind-requires : goal.bind-requires
bind-requires c = subst Room (stepped_counts _ _) (value_room (let_fits c.requires.stmt_fits.0 c.searched.ensures (look_most _ _ _ _ (rw c.bytes.ensures at c.find-place.ensures) c.requires.ready.few)) _ _ _ (c.value_of-value.ensures _) (c.judge-judged.ensures c.searched.new.counts.number (known_in c.args.scope.now.toks.now c.args.scope.now.bindings.now c.args.scope.now.imports.now c.searched.new.counts) c.requires.stmt_fits.0.tree refl (record { is = refl }) (at_row c.node_word-e.ensures c.requires.stmt_fits.0.rep)))

pub returns : goal.returns
returns c = let p = rw c.bytes.ensures at c.find-place.ensures in λ n k e num kn rep. lets_bound c.args.scope.now.toks.now n _ _ c.node_word-t.ensures k e c.args.scope.now.bindings.now c.args.scope.now.imports.now c.args.stmts.now c.args.diags.now c.args.counts.now kn num p.at (c.name-name.ensures _ c.at-tok.ensures) c.if-first-used.false c.searched.ensures p.compared c.if-used-ge-NAMES.false c.at-tok.ensures (c.key_of-key.ensures ∙ ap key_of (c.name-name.ensures _ c.at-tok.ensures)) refl ((c.judge-judged.ensures n k e (searched_number c.args.counts.now _ c.searched.ensures num) (same_knows c.args.counts.now _ refl refl c.searched.ensures refl kn) (at_row c.node_word-e.ensures rep))) (c.value_of-value.ensures _) c.bind.ensures

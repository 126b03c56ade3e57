use mathlib.Core.Path.{refl, sym, ◌∙◌}
use Rattle.rows.proofs.TokenRows.{some_row}
use Rattle.judging.proofs.Leaves.{leaf_literal, leaf_sock4, leaf_local, leaf_path}
use Rattle.judging.proofs.leaf.Goals as goal

pub local-requires : goal.local-requires
local-requires c = record { used_in_bounds = (c.requires.ready.bound, c.requires.ready.keyed); used_le_most_names = (c.requires.ready.few, c.requires.node_width_in_bounds.1) }

pub path-requires : goal.path-requires
path-requires c = (c.requires.ready.modules, c.requires.ready.keyed_modules)

pub literal-requires : goal.literal-requires
literal-requires c = some_row c.rows.ensures

pub sock4-requires : goal.sock4-requires
sock4-requires c = some_row c.rows-in-3.ensures

pub returns-in-2 : goal.returns-in-2
returns-in-2 c = λ n k e x kn rep l. leaf_literal c.args.scope.now.toks.now n k rep c.node_word-t.ensures (sym c.node_word.ensures ∙ c.in-2.is) (c.literal.ensures _ c.rows.ensures) refl refl

pub returns-in-3 : goal.returns-in-3
returns-in-3 c = λ n k e x kn rep l. leaf_sock4 c.args.scope.now.toks.now n k rep c.node_word-t.ensures (sym c.node_word.ensures ∙ c.in-3.is) (c.sock4.ensures _ c.rows-in-3.ensures) refl refl

pub returns-in-4 : goal.returns-in-4
returns-in-4 c = λ n k e x kn rep l. leaf_local c.args.scope.now.toks.now n k rep c.node_word-t.ensures kn c.requires.ready (sym c.node_word.ensures ∙ c.in-4.is) c.at.ensures c.local.ensures

pub returns-in_default : goal.returns-in_default
returns-in_default c = λ n k e x kn rep l. leaf_path c.args.scope.now.toks.now n k rep c.node_word-t.ensures kn c.requires.ready (λ q. c.in_default.in_default-own.rest.0.0.1 (c.node_word.ensures ∙ q)) (λ q. c.in_default.in_default-own.rest.0.1 (c.node_word.ensures ∙ q)) (λ q. c.in_default.in_default-own.rest.1 (c.node_word.ensures ∙ q)) l c.node_word-in_default.ensures c.path.ensures

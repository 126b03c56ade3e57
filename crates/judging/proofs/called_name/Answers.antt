use native.Mathlib.Omega.{arith}
use mathlib.Core.Path.{sym, ◌∙◌}
use Rattle.judging.proofs.Trees.{row_in, called_path, called_member, called_other}
use Rattle.judging.proofs.called_name.Goals as goal

pub node_word-t-requires : goal.node_word-t-requires
node_word-t-requires c = (row_in c.requires.rep, omega arith)

pub node_word-requires : goal.node_word-requires
node_word-requires c = (row_in c.requires.rep, omega arith)

pub node_word-requires-in-5 : goal.node_word-requires-in-5
node_word-requires-in-5 c = (row_in c.requires.rep, omega arith)

pub overflow_mul-result : goal.overflow_mul-result
overflow_mul-result c = omega (arith, (called_path c.requires.rep (sym c.node_word.ensures ∙ c.in-5.is) c.node_word-t.ensures c.node_word-in-5.ensures).0)

pub overflow_add-result : goal.overflow_add-result
overflow_add-result c = omega (arith, (called_path c.requires.rep (sym c.node_word.ensures ∙ c.in-5.is) c.node_word-t.ensures c.node_word-in-5.ensures).0)

pub node_word-requires-in-6 : goal.node_word-requires-in-6
node_word-requires-in-6 c = (row_in c.requires.rep, omega arith)

pub returns-in-5 : goal.returns-in-5
returns-in-5 c = λ e rep. (called_path rep (sym c.node_word.ensures ∙ c.in-5.is) c.node_word-t.ensures c.node_word-in-5.ensures).1

pub returns-in-6 : goal.returns-in-6
returns-in-6 c = λ e rep. called_member rep (sym c.node_word.ensures ∙ c.in-6.is) c.node_word-in-6.ensures

pub returns-in_default : goal.returns-in_default
returns-in_default c = λ e rep. called_other rep (λ q. c.in_default.in_default-own.rest.0.1 (c.node_word.ensures ∙ q)) (λ q. c.in_default.in_default-own.rest.1 (c.node_word.ensures ∙ q)) c.node_word-t.ensures

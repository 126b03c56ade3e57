use native.Mathlib.Omega.{arith}
use Rattle.rows.proofs.TokenRows.{some_row}
use Rattle.judging.proofs.Trees.{row_in, at_call, at_row}
use Rattle.judging.proofs.Calls.{no_callee, stops_named, is_callee}
use Rattle.judging.proofs.callable.Goals as goal

pub node_word-requires : goal.node_word-requires
node_word-requires c = (row_in c.requires.1.rep, omega arith)

pub called_name-name-requires : goal.called_name-name-requires
called_name-name-requires c = let p = at_call c.requires.1.rep c.requires.1.kind in record { tree = p.callee; rep = at_row c.node_word.ensures p.callee_rep }

pub returns-then-ty-ne-FUNCTION : goal.returns-then-ty-ne-FUNCTION
returns-then-ty-ne-FUNCTION c = no_callee c.type_of-ty.ensures (λ e rep. c.called_name-name.ensures e (at_row c.node_word.ensures rep)) c.if-ty-ne-FUNCTION.true c.at-tok.ensures c.at.ensures

pub node_word-requires-2 : goal.node_word-requires-2
node_word-requires-2 c = (row_in c.requires.1.rep, omega arith)

pub any_named-requires : goal.any_named-requires
any_named-requires c = let p = at_call c.requires.1.rep c.requires.1.kind in record { args = p.args; rep = rw c.node_word-2.ensures p.args_rep }

pub node_word-requires-then-any_named : goal.node_word-requires-then-any_named
node_word-requires-then-any_named c = (row_in c.requires.1.rep, omega arith)

pub returns-then-any_named : goal.returns-then-any_named
returns-then-any_named c = stops_named c.type_of-ty.ensures (λ e rep. c.called_name-name.ensures e (at_row c.node_word.ensures rep)) c.if-ty-ne-FUNCTION.false (λ ps rep. c.any_named.ensures ps (rw c.node_word-2.ensures rep)) c.if-any_named.true c.node_word-then-any_named.ensures

pub put_part-requires : goal.put_part-requires
put_part-requires c = (some_row c.rows.ensures, c.requires.0)

pub returns : goal.returns
returns c = is_callee c.type_of-ty.ensures (λ e rep. c.called_name-name.ensures e (at_row c.node_word.ensures rep)) c.if-ty-ne-FUNCTION.false (λ ps rep. c.any_named.ensures ps (rw c.node_word-2.ensures rep)) c.if-any_named.false (c.put_part.ensures _ c.rows.ensures)

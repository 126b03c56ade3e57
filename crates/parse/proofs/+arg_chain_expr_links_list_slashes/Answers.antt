use Prim.Native.Nat.{suc, ◌+◌, ◌-◌}
use mathlib.Core.Path.{refl, ◌∙◌}
use lib.ListN.{length}
use Rattle.language.specs.Sentences as grammar
use Rattle.language.specs.Sentences.{expr_at, chain_at}
use Rattle.parse.specs.Parsing.{is_named, with_expr, with_args}
use Rattle.parse.proofs.Looks.{seen, unseen, inside}
use Rattle.parse.proofs.Nodes.{member_pushed, slash_pushed, call_pushed, first_pushed, arg_pushed, none_listed}
use Rattle.parse.proofs.Answers.{no_row, a_row, handed, met_ok, met_no, met_by, list_ok, list_no, ahead_more}
use Rattle.parse.proofs.Steps.{chain_go, chain_no, expr_go, expr_no, links_stop, links_call_7, links_dot_7, links_dot_5, links_dot, links_call, links_no, slashes_stop, slashes_7, slashes_no, slashes_go, list_shut, list_open, arg_no, arg_go, args_end, args_no, args_last, args_bad, args_more}
use native.Mathlib.Omega.{arith}
use Rattle.parse.proofs.+arg_chain_expr_links_list_slashes.Goals as goal

-- ---- arg

pub arg-returns-in-None-clause-after_args : goal.arg-returns-in-None-clause-after_args
arg-returns-in-None-clause-after_args t c = λ ts ns g rep s.
    let h = c.arg_head-head.ensures.kind_value in
    let d = (c.in_ok-value.ensures.after ts (with_args ns g) rep s.long s.held).met in
    list_ok (arg_go rep _ g _ _ h.1 d.0 _ _ d.1) (first_pushed (is_named c.args.toks.now c.args.at) c.args.at s d.2 h.1 h.0 c.push.ensures (no_row c.in-None.is))

pub arg-returns-in-Some-clause-after_args : goal.arg-returns-in-Some-clause-after_args
arg-returns-in-Some-clause-after_args t c = λ ts ns g rep s.
    let h = c.arg_head-head.ensures.kind_value in
    let d = (c.in_ok-value.ensures.after ts (with_args ns g) rep s.long s.held).met in
    list_ok (arg_go rep _ g _ _ h.1 d.0 _ _ d.1) (arg_pushed (is_named c.args.toks.now c.args.at) c.args.at s d.2 h.1 h.0 c.push.ensures (λ z. omega (arith, z, a_row c.in-Some.is)) c.link.ensures)

pub arg-returns-in_err-value-clause-after_args : goal.arg-returns-in_err-value-clause-after_args
arg-returns-in_err-value-clause-after_args t c = λ ts ns g rep s.
    list_no (handed c.from_residual.ensures.1) (arg_no rep _ g _ _ c.arg_head-head.ensures.kind_value.1 _ _ _ (c.in_err-value.ensures.after ts (with_args ns g) rep s.long s.held).met)

-- ---- chain, expr

pub chain-returns-clause-after : goal.chain-returns-clause-after
chain-returns-clause-after t c = λ ts ns rep l h.
    let d = (c.in_ok-operand.ensures.after ts ns rep l h).met in
    met_by (chain_go ts _ _ _ _ _ d.0 d.1) (c.links.ensures.after_expr ts ns d.0 rep d.2)

pub chain-returns-clause-ahead : goal.chain-returns-clause-ahead
chain-returns-clause-ahead t c = let f = c.in_ok-operand.ensures.ahead.on in ahead_more f.0 (omega arith) f.3 (omega arith) c.links.ensures.ahead

pub chain-returns-in_err-operand-clause-after : goal.chain-returns-in_err-operand-clause-after
chain-returns-in_err-operand-clause-after t c = λ ts ns rep l h.
    met_no (handed c.from_residual.ensures.1) (chain_no ts _ _ _ _ _ _ (c.in_err-operand.ensures.after ts ns rep l h).met)

pub expr-returns-clause-after : goal.expr-returns-clause-after
expr-returns-clause-after t c = λ ts ns rep l h.
    let d = (c.in_ok-operand.ensures.after ts ns rep l h).met in
    met_by (expr_go ts _ _ _ _ d.0 d.1) (c.slashes.ensures.after_expr ts ns d.0 rep d.2 65 (omega (arith, c.in_ok-operand.ensures.ahead.on)))

pub expr-returns-clause-ahead : goal.expr-returns-clause-ahead
expr-returns-clause-ahead t c = let f = c.in_ok-operand.ensures.ahead.on in ahead_more f.0 (omega arith) f.3 f.4 c.slashes.ensures.ahead

pub expr-returns-in_err-operand-clause-after : goal.expr-returns-in_err-operand-clause-after
expr-returns-in_err-operand-clause-after t c = λ ts ns rep l h.
    met_no (handed c.from_residual.ensures.1) (expr_no ts _ _ _ _ _ (c.in_err-operand.ensures.after ts ns rep l h).met)

-- ---- links

pub links-loop-p-init : goal.links-loop-p-init
links-loop-p-init t c = (omega arith, omega arith, omega arith, omega arith, omega arith, refl, λ ts ns e rep s. (e, s, refl))

pub links-returns-then-more-eq0-clause-after_expr : goal.links-returns-then-more-eq0-clause-after_expr
links-returns-then-more-eq0-clause-after_expr t c = λ ts ns e rep s. let g = c.loop-p.invariant.6 ts ns e rep s in
    met_no refl (g.2 ∙ links_call_7 rep _ g.0 _ _ c.if-more-eq0.true (seen c.kind_at-t.ensures c.if-t-eq-LPAREN.true))

pub links-loop-p-preserved-then-t-eq-LPAREN : goal.links-loop-p-preserved-then-t-eq-LPAREN
links-loop-p-preserved-then-t-eq-LPAREN t c =
    let v = c.loop-p in
    let f = c.in_ok-inside.ensures.ahead_list.on in (
      omega arith,
      omega arith,
      omega arith,
      omega arith,
      omega arith,
      omega (arith, c.push.auto.nodes, c.list.auto.nodes),
      λ ts ns e₀ rep s. let g = v.invariant.6 ts ns e₀ rep s in
          let d = (c.in_ok-inside.ensures.after ts (with_expr ns g.0) rep g.1.long g.1.held).met in
          (grammar.call g.0 v.at d.0, call_pushed g.1 d.3 (rw c.row_plus-first.ensures at c.push.ensures), g.2 ∙ links_call rep _ g.0 _ _ d.1 _ d.0 c.if-more-eq0.false (seen c.kind_at-t.ensures c.if-t-eq-LPAREN.true) d.2),
    )

pub links-returns-in_err-inside-clause-after_expr : goal.links-returns-in_err-inside-clause-after_expr
links-returns-in_err-inside-clause-after_expr t c = λ ts ns e₀ rep s. let g = c.loop-p.invariant.6 ts ns e₀ rep s in
    met_no (handed c.from_residual.ensures.1) (g.2 ∙ links_no rep _ g.0 _ _ _ _ _ c.if-more-eq0.false (seen c.kind_at-t.ensures c.if-t-eq-LPAREN.true) (c.in_err-inside.ensures.after ts (with_expr ns g.0) rep g.1.long g.1.held).met)

pub links-returns-then-more-eq0-2-clause-after_expr : goal.links-returns-then-more-eq0-2-clause-after_expr
links-returns-then-more-eq0-2-clause-after_expr t c = λ ts ns e rep s. let g = c.loop-p.invariant.6 ts ns e rep s in
    met_no refl (g.2 ∙ links_dot_7 rep _ g.0 _ _ c.if-more-eq0-2.true (seen c.kind_at-t.ensures c.if-t-eq-DOT.true))

pub links-returns-then-kind_at-ne-IDENTIFIER-clause-after_expr : goal.links-returns-then-kind_at-ne-IDENTIFIER-clause-after_expr
links-returns-then-kind_at-ne-IDENTIFIER-clause-after_expr t c = λ ts ns e rep s. let g = c.loop-p.invariant.6 ts ns e rep s in
    met_no refl (g.2 ∙ links_dot_5 rep _ g.0 _ _ c.if-more-eq0-2.false (seen c.kind_at-t.ensures c.if-t-eq-DOT.true) (unseen c.kind_at.ensures c.if-kind_at-ne-IDENTIFIER.true))

pub links-loop-p-preserved : goal.links-loop-p-preserved
links-loop-p-preserved t c =
    let v = c.loop-p in
    let is13 = seen c.kind_at.ensures c.if-kind_at-ne-IDENTIFIER.false in
    let i = inside c.args.toks.now (v.at + 1) 11 is13 in (
      omega arith,
      omega arith,
      omega arith,
      omega arith,
      omega arith,
      omega (arith, c.push-then-t-eq-DOT.auto.nodes),
      λ ts ns e rep s. let g = v.invariant.6 ts ns e rep s in
          (grammar.member g.0 (v.at + 1), member_pushed g.1 c.push-then-t-eq-DOT.ensures, g.2 ∙ links_dot rep _ g.0 _ _ c.if-more-eq0-2.false (seen c.kind_at-t.ensures c.if-t-eq-DOT.true) is13),
    )

pub links-returns-else-t-eq-DOT-clause-after_expr : goal.links-returns-else-t-eq-DOT-clause-after_expr
links-returns-else-t-eq-DOT-clause-after_expr t c = λ ts ns e rep s.
    let k = c.kind_at-t in
    let g = c.loop-p.invariant.6 ts ns e rep s in
    met_ok (g.2 ∙ links_stop rep _ g.0 _ _ (unseen k.ensures c.if-t-eq-LPAREN.false) (unseen k.ensures c.if-t-eq-DOT.false)) g.1

-- ---- list

pub list-returns-then-left-eq0-clause-after : goal.list-returns-then-left-eq0-clause-after
list-returns-then-left-eq0-clause-after t c = λ ts ns rep l h. list_no refl (list_shut ts _ _ c.if-left-eq0.true)

pub list-loop-nodes-init : goal.list-loop-nodes-init
list-loop-nodes-init t c =
    let a = c.args in
    let i = inside a.toks.now a.start 0 c.requires.1 in (
      omega arith,
      omega arith,
      omega arith,
      omega arith,
      omega arith,
      refl,
      λ ts ns rep l h. (grammar.none_given, suc (length ts), none_listed l h, omega arith, list_open ts _ _ c.if-left-eq0.false),
    )

pub list-loop-nodes-preserved : goal.list-loop-nodes-preserved
list-loop-nodes-preserved t c =
    let a = c.args in
    let v = c.loop-nodes in
    let f = c.in_ok-so_far.ensures.ahead_list.on in
    let is9 = seen c.kind_at-t.ensures c.if-t-eq-COMMA.true in
    let i = inside a.toks.now c.in_ok-so_far.so_far.next 7 is9 in (
      omega arith,
      omega arith,
      omega arith,
      omega arith,
      omega arith,
      omega (arith, c.arg.auto.nodes),
      λ ts ns rep l h. let g = v.invariant.6 ts ns rep l h in
          let d = (c.in_ok-so_far.ensures.after_args ts ns g.0 rep g.2).met in
          let m = args_more rep (expr_at ts (a.left - 1)) g.0 v.at g.1 v.invariant.1 g.3 (unseen c.kind_at.ensures c.loop-nodes-test.true) d.0 _ _ d.2 is9 (omega arith) in
          (d.0, m.0, d.3, m.1, g.4 ∙ m.2),
    )

pub list-returns-then-t-eq-RPAREN : goal.list-returns-then-t-eq-RPAREN
list-returns-then-t-eq-RPAREN t c =
    let v = c.loop-nodes in
    let f = c.in_ok-so_far.ensures.ahead_list.on in
    let is3 = seen c.kind_at-t.ensures c.if-t-eq-RPAREN.true in
    let i = inside c.args.toks.now c.in_ok-so_far.so_far.next 1 is3 in record {
      ahead_list = omega arith;
      after = λ ts ns rep l h. let g = v.invariant.6 ts ns rep l h in
          let d = (c.in_ok-so_far.ensures.after_args ts ns g.0 rep g.2).met in
          list_ok (g.4 ∙ args_last rep _ g.0 _ g.1 v.invariant.1 g.3 (unseen c.kind_at.ensures c.loop-nodes-test.true) d.0 _ _ d.2 is3) d.3;
    }

pub list-returns-else-t-eq-RPAREN-clause-after : goal.list-returns-else-t-eq-RPAREN-clause-after
list-returns-else-t-eq-RPAREN-clause-after t c = λ ts ns rep l h.
    let v = c.loop-nodes in
    let k = c.kind_at-t in
    let g = v.invariant.6 ts ns rep l h in
    let d = (c.in_ok-so_far.ensures.after_args ts ns g.0 rep g.2).met in
    list_no refl (g.4 ∙ args_bad rep _ g.0 _ g.1 v.invariant.1 g.3 (unseen c.kind_at.ensures c.loop-nodes-test.true) d.0 _ _ d.2 (unseen k.ensures c.if-t-eq-COMMA.false) (unseen k.ensures c.if-t-eq-RPAREN.false))

pub list-returns-in_err-so_far-clause-after : goal.list-returns-in_err-so_far-clause-after
list-returns-in_err-so_far-clause-after t c = λ ts ns rep l h.
    let v = c.loop-nodes in
    let g = v.invariant.6 ts ns rep l h in
    list_no (handed c.from_residual.ensures.1) (g.4 ∙ args_no rep _ g.0 _ g.1 v.invariant.1 g.3 (unseen c.kind_at.ensures c.loop-nodes-test.true) _ _ _ (c.in_err-so_far.ensures.after_args ts ns g.0 rep g.2).met)

pub list-returns : goal.list-returns
list-returns t c =
    let v = c.loop-nodes in
    let is3 = seen c.kind_at.ensures c.loop-nodes-test.false in
    let i = inside c.args.toks.now v.at 1 is3 in record {
      ahead_list = omega arith;
      after = λ ts ns rep l h. let g = v.invariant.6 ts ns rep l h in
          list_ok (g.4 ∙ args_end rep _ g.0 _ g.1 g.3 is3) g.2;
    }

-- ---- slashes

pub slashes-loop-p-init : goal.slashes-loop-p-init
slashes-loop-p-init t c = (omega arith, omega arith, omega arith, omega arith, omega arith, refl, λ ts ns e rep s k lt. (e, k, s, lt, refl))

pub slashes-returns-then-more-eq0-clause-after_expr : goal.slashes-returns-then-more-eq0-clause-after_expr
slashes-returns-then-more-eq0-clause-after_expr t c = λ ts ns e rep s k lt. let g = c.loop-p.invariant.6 ts ns e rep s k lt in
    met_no refl (g.4 ∙ slashes_7 rep _ g.0 _ g.1 _ g.3 c.if-more-eq0.true (seen c.kind_at.ensures c.loop-p-test.true))

pub slashes-loop-p-preserved : goal.slashes-loop-p-preserved
slashes-loop-p-preserved t c =
    let v = c.loop-p in
    let f = c.in_ok-right.ensures.ahead.on in (
      omega arith,
      omega arith,
      omega arith,
      omega arith,
      omega arith,
      omega (arith, c.push.auto.nodes, c.chain.auto.nodes),
      λ ts ns e₀ rep s k lt. let g = v.invariant.6 ts ns e₀ rep s k lt in
          let d = (c.in_ok-right.ensures.after ts (with_expr ns g.0) rep g.2.long g.2.held).met in
          let m = slashes_go rep (chain_at ts c.args.p.lists) g.0 v.at g.1 v.more _ _ d.0 g.3 c.if-more-eq0.false (seen c.kind_at.ensures c.loop-p-test.true) d.1 f.4 in
          (grammar.slash' g.0 d.0, m.0, slash_pushed g.2 d.2 c.push.ensures, m.1, g.4 ∙ m.2),
    )

pub slashes-returns-in_err-right-clause-after_expr : goal.slashes-returns-in_err-right-clause-after_expr
slashes-returns-in_err-right-clause-after_expr t c = λ ts ns e₀ rep s k lt. let g = c.loop-p.invariant.6 ts ns e₀ rep s k lt in
    met_no (handed c.from_residual.ensures.1) (g.4 ∙ slashes_no rep _ g.0 _ g.1 _ _ _ _ g.3 c.if-more-eq0.false (seen c.kind_at.ensures c.loop-p-test.true) (c.in_err-right.ensures.after ts (with_expr ns g.0) rep g.2.long g.2.held).met)

pub slashes-returns-clause-after_expr : goal.slashes-returns-clause-after_expr
slashes-returns-clause-after_expr t c = λ ts ns e rep s k lt. let g = c.loop-p.invariant.6 ts ns e rep s k lt in
    met_ok (g.4 ∙ slashes_stop rep _ g.0 _ g.1 _ g.3 (unseen c.kind_at.ensures c.loop-p-test.false)) g.2

use Prim.Native.Nat.{suc}
use mathlib.Core.Path.{refl, ◌∙◌}
use mathlib.Core.List.{[], ◌∷◌, ◌++◌}
use lib.ListN.{length}
use Rattle.language.specs.Sentences.{nodes_from}
use Rattle.parse.proofs.Looks.{seen, unseen}
use Rattle.parse.proofs.Nodes.{no_stmt, stmt_more}
use Rattle.parse.proofs.Answers.{handed, all_ok, all_no}
use Rattle.parse.proofs.Steps.{program_is, stmts_end, stmts_no, stmts_more}
use native.Mathlib.Omega.{arith}
use Rattle.parse.proofs.program.Goals as goal

-- The invariant: the table holds the nodes of the statements so far, and those from here on make the whole program. The
-- measure is what is left of the tokens.

pub loop-nodes-init : goal.loop-nodes-init
loop-nodes-init c = (omega arith, omega arith, refl, λ ts rep h. let n = no_stmt h in ([], suc (length ts), n.0, n.1, omega arith, program_is ts))

pub loop-nodes-preserved : goal.loop-nodes-preserved
loop-nodes-preserved c =
    let v = c.loop-nodes in
    let f = c.in_ok-read.ensures.ahead.on in (
      omega arith,
      omega arith,
      omega (arith, c.stmt.auto.nodes, v.invariant.2),
      λ ts rep h. let g = v.invariant.3 ts rep h in
          let d = (c.in_ok-read.ensures.after ts (nodes_from 0 g.0) rep g.2 g.3).met in
          let m = stmts_more rep g.0 v.at g.1 _ _ d.0 v.invariant.0 g.4 (unseen c.kind_at.ensures c.loop-nodes-test.true) d.2 (omega arith) in
          let n = stmt_more g.0 d.0 d.3 d.5 in
          (g.0 ++ d.0 ∷ [], m.0, n.0, n.1, m.1, g.5 ∙ m.2),
    )

pub returns-in_err-read-clause-met_all : goal.returns-in_err-read-clause-met_all
returns-in_err-read-clause-met_all c = λ ts rep h.
    let v = c.loop-nodes in
    let g = v.invariant.3 ts rep h in
    all_no (handed c.from_residual.ensures.1) (g.5 ∙ stmts_no rep g.0 _ g.1 _ _ _ v.invariant.0 g.4 (unseen c.kind_at.ensures c.loop-nodes-test.true) (c.in_err-read.ensures.after ts (nodes_from 0 g.0) rep g.2 g.3).met)

pub returns-clause-met_all : goal.returns-clause-met_all
returns-clause-met_all c = λ ts rep h.
    let v = c.loop-nodes in
    let g = v.invariant.3 ts rep h in
    all_ok refl (g.5 ∙ stmts_end rep g.0 _ g.1 v.invariant.0 g.4 (seen c.kind_at.ensures c.loop-nodes-test.false)) g.2 g.3

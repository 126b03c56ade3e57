use Rattle.language.specs.Sentences.{expr'}
use Rattle.parse.specs.Parsing.{with_expr}
use Rattle.parse.proofs.Nodes.{expr_node}
use Rattle.parse.proofs.Answers.{handed, stmt_no, stmt_by}
use Rattle.parse.proofs.Steps.{stmt_go, stmt_bad}
use Rattle.parse.proofs.expr_stmt.Goals as goal

pub returns-in_err-value-clause-after : goal.returns-in_err-value-clause-after
returns-in_err-value-clause-after c = λ ts ns rep l h. stmt_no (handed c.from_residual.ensures.1) (stmt_bad ts _ _ _ _ (c.in_err-value.ensures.after ts ns rep l h).met)

pub returns-clause-after : goal.returns-clause-after
returns-clause-after c = λ ts ns rep l h.
    let d = (c.in_ok-value.ensures.after ts ns rep l h).met in
    stmt_by (stmt_go ts _ _ _ d.0 d.1) (c.end_stmt.ensures.after ts (with_expr ns d.0) rep d.2.long d.2.held ns (expr' d.0) (expr_node d.2))

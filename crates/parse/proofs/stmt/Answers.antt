use Rattle.parse.proofs.Looks.{seen, unseen}
use Rattle.parse.proofs.Answers.{stmt_by}
use Rattle.parse.proofs.Steps.{stmt_import, stmt_let, stmt_expr}
use Rattle.parse.proofs.stmt.Goals as goal

pub returns-in-11-clause-after : goal.returns-in-11-clause-after
returns-in-11-clause-after c = λ ts ns rep l h. stmt_by (stmt_import rep _ (seen c.kind_at.ensures c.in-11.is)) (c.import_stmt.ensures.after ts ns rep l h)

pub returns-in-12-clause-after : goal.returns-in-12-clause-after
returns-in-12-clause-after c = λ ts ns rep l h. stmt_by (stmt_let rep _ (seen c.kind_at.ensures c.in-12.is)) (c.let_stmt.ensures.after ts ns rep l h)

pub returns-in_default-clause-after : goal.returns-in_default-clause-after
returns-in_default-clause-after c = λ ts ns rep l h. let k1 = c.kind_at in
    stmt_by (stmt_expr rep _ (unseen k1.ensures c.in_default.in_default-own.rest.0.1) (unseen k1.ensures c.in_default.in_default-own.rest.1)) (c.expr_stmt.ensures.after ts ns rep l h)

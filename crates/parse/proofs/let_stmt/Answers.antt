use mathlib.Core.Path.{refl}
use Rattle.language.specs.Sentences.{let'}
use Rattle.parse.specs.Parsing.{with_expr}
use Rattle.parse.proofs.Looks.{seen, unseen}
use Rattle.parse.proofs.Nodes.{let_node}
use Rattle.parse.proofs.Answers.{handed, stmt_no, stmt_by}
use Rattle.parse.proofs.Steps.{let_bad, let_unequal, let_no, let_go}
use Rattle.parse.proofs.let_stmt.Goals as goal

pub returns-then-kind_at-ne-IDENTIFIER-clause-after : goal.returns-then-kind_at-ne-IDENTIFIER-clause-after
returns-then-kind_at-ne-IDENTIFIER-clause-after c = λ ts ns rep l h. stmt_no refl (let_bad rep _ (unseen c.kind_at.ensures c.if-kind_at-ne-IDENTIFIER.true))

pub returns-then-kind_at-ne-EQUALS-clause-after : goal.returns-then-kind_at-ne-EQUALS-clause-after
returns-then-kind_at-ne-EQUALS-clause-after c = λ ts ns rep l h. stmt_no refl (let_unequal rep _ (seen c.kind_at.ensures c.if-kind_at-ne-IDENTIFIER.false) (unseen c.kind_at-2.ensures c.if-kind_at-ne-EQUALS.true))

pub returns-in_err-value-clause-after : goal.returns-in_err-value-clause-after
returns-in_err-value-clause-after c = λ ts ns rep l h.
    stmt_no (handed c.from_residual.ensures.1) (let_no rep _ (seen c.kind_at.ensures c.if-kind_at-ne-IDENTIFIER.false) (seen c.kind_at-2.ensures c.if-kind_at-ne-EQUALS.false) _ _ _ (c.in_err-value.ensures.after ts ns rep l h).met)

pub returns-clause-after : goal.returns-clause-after
returns-clause-after c = λ ts ns rep l h.
    let d = (c.in_ok-value.ensures.after ts ns rep l h).met in
    stmt_by (let_go rep _ (seen c.kind_at.ensures c.if-kind_at-ne-IDENTIFIER.false) (seen c.kind_at-2.ensures c.if-kind_at-ne-EQUALS.false) d.0 _ _ d.1) (c.end_stmt.ensures.after ts (with_expr ns d.0) rep d.2.long d.2.held ns (let' _ d.0) (let_node d.2 _))

use mathlib.Core.Path.{refl}
use Rattle.parse.proofs.Looks.{seen, unseen}
use Rattle.parse.proofs.Nodes.{grown}
use Rattle.parse.proofs.Answers.{stmt_ok, stmt_no}
use Rattle.parse.proofs.Steps.{ended_ok, ended_no}
use Rattle.parse.proofs.end_stmt.Goals as goal

pub returns-then-kind_at-ne-SEMI_COLON-clause-after : goal.returns-then-kind_at-ne-SEMI_COLON-clause-after
returns-then-kind_at-ne-SEMI_COLON-clause-after c = λ ts ms rep l h ns s e. stmt_no refl (ended_no rep s _ (unseen c.kind_at.ensures c.if-kind_at-ne-SEMI_COLON.true))

pub returns-clause-after : goal.returns-clause-after
returns-clause-after c = λ ts ms rep l h ns s e.
    let g = grown c.push.ensures l h e in
    stmt_ok refl (ended_ok rep s _ (seen c.kind_at.ensures c.if-kind_at-ne-SEMI_COLON.false)) g.0 g.1

use mathlib.Core.Path.{refl}
use Rattle.language.specs.Sentences.{import'}
use Rattle.parse.proofs.Looks.{seen, unseen}
use Rattle.parse.proofs.Answers.{stmt_no, stmt_by}
use Rattle.parse.proofs.Steps.{import_bad, import_name_lem}
use Rattle.parse.proofs.import_stmt.Goals as goal

pub returns-then-kind_at-ne-IDENTIFIER-clause-after : goal.returns-then-kind_at-ne-IDENTIFIER-clause-after
returns-then-kind_at-ne-IDENTIFIER-clause-after c = λ ts ns rep l h. stmt_no refl (import_bad rep _ (unseen c.kind_at.ensures c.if-kind_at-ne-IDENTIFIER.true))

pub returns-clause-after : goal.returns-clause-after
returns-clause-after c = λ ts ns rep l h. stmt_by (import_name_lem rep _ (seen c.kind_at.ensures c.if-kind_at-ne-IDENTIFIER.false)) (c.end_stmt.ensures.after ts ns rep l h ns (import' _) refl)

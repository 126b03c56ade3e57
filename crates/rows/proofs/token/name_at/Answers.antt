use Rattle.rows.proofs.TokenRows.{is_named_lem, not_named}
use Rattle.rows.proofs.token.name_at.Goals as goal

pub returns-then-tok-eq-IDENTIFIER : goal.returns-then-tok-eq-IDENTIFIER
returns-then-tok-eq-IDENTIFIER c = λ t e. is_named_lem _ t e c.if-tok-eq-IDENTIFIER.true c.part.ensures

pub returns : goal.returns
returns c = λ t e. not_named _ t e c.if-tok-eq-IDENTIFIER.false c.part-2.ensures

use Rattle.rows.proofs.TokenRows.{token_in, token_past}
use Rattle.rows.proofs.token.token_at.Goals as goal

pub returns-then-i-count : goal.returns-then-i-count
returns-then-i-count c = λ s o. token_in o _ c.token_row.ensures c.if-i-count.true

pub returns : goal.returns
returns c = λ s o. token_past o _ c.token_row-2.ensures c.if-i-count.false

use Rattle.rows.proofs.TokenRows.{token_after}
use Rattle.rows.proofs.token.two_after.Goals as goal

pub returns-then-t-count : goal.returns-then-t-count
returns-then-t-count c = λ s o. c.token_at.ensures s o

pub returns : goal.returns
returns c = λ s o. token_after o _ (c.token_at-2.ensures s o) c.if-t-count.false

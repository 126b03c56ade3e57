use Rattle.rows.proofs.TokenRows.{some_row}
use Rattle.rows.proofs.tokens.Tokens.at.Goals as goal

pub token_at-requires : goal.token_at-requires
token_at-requires c = some_row c.self.invariant

pub returns : goal.returns
returns c = rw (← c.self.view_is) (c.token_at.ensures _ c.self.invariant)

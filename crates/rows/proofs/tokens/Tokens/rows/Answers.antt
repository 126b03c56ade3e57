use Rattle.rows.proofs.tokens.Tokens.rows.Goals as goal

pub returns : goal.returns
returns c = rw (← c.self.view_is) c.self.invariant

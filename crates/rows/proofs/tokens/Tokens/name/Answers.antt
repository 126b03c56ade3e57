use Rattle.rows.proofs.tokens.Tokens.name.Goals as goal

pub returns : goal.returns
returns c = rw (← c.self.view_is) (λ t e. c.name_at.ensures t e)

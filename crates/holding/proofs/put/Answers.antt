use Rattle.holding.proofs.Holding.{put_is}
use Rattle.holding.proofs.put.Goals as goal

pub returns : goal.returns
returns c = λ s h. put_is s (c.token_at-own.ensures s h) (c.token_at-place.ensures s h) c.type_of-ty.ensures c.shown-text.ensures c.put_row.ensures

use Rattle.table.proofs.Stores.{cleared}
use Rattle.table.proofs.clear.Goals as goal

pub returns : goal.returns
returns c = cleared _ (c.fill.ensures.after (λ y h. h))

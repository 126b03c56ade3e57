use Rattle.parse.proofs.Nodes.{stored}
use Rattle.parse.proofs.push.Goals as goal

pub returns : goal.returns
returns c = stored _ _ _ _ _ _ _ _ c.put_row.ensures

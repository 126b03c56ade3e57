use Rattle.checker.proofs.Entry.{at_place}
use Rattle.checker.proofs.placed.Goals as goal

pub returns : goal.returns
returns c = at_place _ _ _ c.token.ensures c.number.ensures c.at-tok.ensures c.new.ensures

use Rattle.wide.proofs.Words.{last_bits}
use Rattle.wide.proofs.last_digit.Goals as goal

pub returns : goal.returns
returns c = last_bits _ _ c.requires

use Rattle.language.specs.Integers.{hexadecimal}
use Rattle.writer.proofs.hexadecimal.Goals as goal

pub returns : goal.returns
unfolding hexadecimal
returns c = record { writes = c.number.ensures.writes; upper_bound = c.number.ensures.upper_bound }

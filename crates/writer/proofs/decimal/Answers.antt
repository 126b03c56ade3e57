use Rattle.language.specs.Integers.{decimal}
use Rattle.writer.proofs.decimal.Goals as goal

pub returns : goal.returns
unfolding decimal
returns c = record { writes = c.number.ensures.writes; upper_bound = c.number.ensures.upper_bound }

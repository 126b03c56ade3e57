use mathlib.Core.Path.{ap}
use Rattle.std.specs.Prelude.{Err}
use Rattle.values.specs.declared.Halt.TheVariants.{Found}
use Rattle.judging.proofs.Slashes.{operand_is}
use Rattle.judging.proofs.operand.Goals as goal

pub returns : goal.returns
returns c = operand_is c.at.ensures c.type_of-ty.ensures (ap (λ d. Err (Found d)) c.at-2.ensures)

use Rattle.language.specs.Integers.{hexadecimal}
use Rattle.wide.proofs.Wide.hexadecimal.Goals as goal

pub returns : goal.returns
unfolding hexadecimal
returns c = record { value = c.digits.ensures.value; text_after = c.digits.ensures.text_after }

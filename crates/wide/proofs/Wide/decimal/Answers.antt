use Rattle.std.proofs.Common.{rules}
use Rattle.language.specs.Integers.{decimal}
use Rattle.wide.specs.Wide.{value_of}
use Rattle.wide.proofs.Digits.{decimal_spelt}
use Rattle.wide.proofs.Wide.decimal.Goals as goal

pub returns : goal.returns
unfolding decimal
returns c = record { value = c.digits.ensures.value; text_after = rw (← decimal_spelt (value_of c.args.self) (search rules)) c.digits.ensures.text_after }

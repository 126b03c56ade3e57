use Rattle.std.proofs.Common.{rules}
use Rattle.wide.proofs.Digits.{below_ten, from_ten}
use Rattle.wide.proofs.spell_digit.Goals as goal

pub returns-then-d-lt10 : goal.returns-then-d-lt10
returns-then-d-lt10 c = below_ten c.args.d (search rules) (search rules)

pub returns : goal.returns
returns c = from_ten c.args.d (search rules) (search rules)

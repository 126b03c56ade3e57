use borrow.Author.Rules.{rules}
use Rattle.numerals.proofs.Numerals.{not_zero, zero_start}
use Rattle.numerals.proofs.starts_zero.Goals as goal

pub returns-then-peek-ne48 : goal.returns-then-peek-ne48
returns-then-peek-ne48 c = search (rules, not_zero)

pub returns : goal.returns
returns c = search (rules, zero_start)

use borrow.Author.Rules.{rules}
use Rattle.numerals.proofs.Numerals.{not_hex, not_x, hex_start}
use Rattle.numerals.proofs.starts_hex.Goals as goal

pub returns-then-peek-ne48 : goal.returns-then-peek-ne48
returns-then-peek-ne48 c = search (rules, not_hex)

pub returns-then-peek-ne120 : goal.returns-then-peek-ne120
returns-then-peek-ne120 c = search (rules, not_x)

pub returns : goal.returns
returns c = search (rules, hex_start)

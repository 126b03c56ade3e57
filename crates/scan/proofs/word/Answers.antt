use borrow.Author.Rules.{rules}
use Rattle.scan.proofs.Tokens.{told, word_import, word_let, word_true, word_false, word_other}
use Rattle.scan.proofs.word.Goals as goal

pub returns-then-is_key : goal.returns-then-is_key
returns-then-is_key c = search (rules, word_import, told)

pub returns-then-is_key-2 : goal.returns-then-is_key-2
returns-then-is_key-2 c = search (rules, word_let, told)

pub returns-then-is_key-3 : goal.returns-then-is_key-3
returns-then-is_key-3 c = search (rules, word_true, told)

pub returns-then-is_key-4 : goal.returns-then-is_key-4
returns-then-is_key-4 c = search (rules, word_false, told)

pub returns : goal.returns
returns c = search (rules, word_other, told)

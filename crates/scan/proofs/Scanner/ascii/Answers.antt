use mathlib.Core.Path.{sym, ap, ◌∙◌}
use Rattle.lexemes.specs.Kinds.{lexeme_as}
use Rattle.runs.proofs.Places.{run_ends}
use Rattle.scan.proofs.Starts.{ascii_digit, ascii_mark, ascii_sign, worded}
use Rattle.language.specs.Lexemes.{is_word}
use native.Mathlib.Omega.{arith}
use Rattle.scan.proofs.Scanner.ascii.Goals as goal

pub word-requires : goal.word-requires
word-requires c = let e = run_ends c.args.line.now c.args.at is_word (omega arith) in let r = c.eat_word-end.ensures in (omega arith, omega arith)

pub returns-then-is_word_start : goal.returns-then-is_word_start
returns-then-is_word_start c = worded c.args.line.now c.args.at _ _ _ c.requires (sym c.is_word_start.ensures ∙ c.if-is_word_start.true) c.eat_word-end.ensures c.word.ensures c.token.ensures

pub returns-then-is_digit : goal.returns-then-is_digit
returns-then-is_digit c = c.number.ensures ∙ ap (lexeme_as c.args.at) (ascii_digit c.args.line.now c.args.at c.requires (sym c.is_word_start.ensures ∙ c.if-is_word_start.false) (sym c.is_digit.ensures ∙ c.if-is_digit.true))

pub returns-in-Some : goal.returns-in-Some
returns-in-Some c = c.token-in-Some.ensures ∙ ascii_mark c.args.line.now c.args.at _ (c.in-Some.ensures)

pub returns : goal.returns
returns c = c.sign.ensures ∙ ap (lexeme_as c.args.at) (ascii_sign c.args.line.now c.args.at (sym c.is_word_start.ensures ∙ c.if-is_word_start.false) (sym c.is_digit.ensures ∙ c.if-is_digit.false) (c.in_default.ensures))

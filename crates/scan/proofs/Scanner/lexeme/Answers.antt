use mathlib.Core.Path.{sym, ap, ◌∙◌}
use Rattle.lexemes.specs.Kinds.{lexeme_as}
use Rattle.scan.proofs.Starts.{lexeme_blank, lexeme_ascii, lexeme_other, lexeme_none}
use Rattle.scan.proofs.Scanner.lexeme.Goals as goal

pub returns-then-is_space : goal.returns-then-is_space
returns-then-is_space c = lexeme_blank c.args.line.now c.args.at c.requires _ _ c.in-Some.ensures (sym c.is_space.ensures ∙ c.if-is_space.true) c.eat_spaces.ensures

pub returns-then-here-lt128 : goal.returns-then-here-lt128
returns-then-here-lt128 c = c.ascii.ensures ∙ ap (lexeme_as c.args.at) (lexeme_ascii c.args.line.now c.args.at c.requires _ c.in-Some.ensures (sym c.is_space.ensures ∙ c.if-is_space.false) c.if-here-lt128.true)

pub returns : goal.returns
returns c = c.unexpected-2.ensures ∙ lexeme_other c.args.line.now c.args.at c.requires _ c.in-Some.ensures (sym c.is_space.ensures ∙ c.if-is_space.false) c.if-here-lt128.false

pub returns-in_default : goal.returns-in_default
returns-in_default c = rw (c.unexpected.ensures, c.from.ensures) (lexeme_none c.args.line.now c.args.at c.requires c.in_default.ensures)

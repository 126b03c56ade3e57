use mathlib.Core.Path.{refl, sym, ap, ◌∙◌}
use Rattle.lexemes.specs.Kinds.{lexeme_as}
use Rattle.scan.proofs.Starts.{sign_hash, sign_slashes, sign_slash, sign_colons, sign_colon, sign_quote, sign_other}
use Rattle.scan.proofs.Scanner.sign.Goals as goal

pub returns-then-b-eq35 : goal.returns-then-b-eq35
returns-then-b-eq35 c = c.comment.ensures ∙ ap (lexeme_as c.args.at) (sym (sign_hash c.args.line.now c.args.at _ refl c.if-b-eq35.true))

pub returns-then-next-eq47 : goal.returns-then-next-eq47
returns-then-next-eq47 c = c.comment-then-next-eq47.ensures ∙ ap (lexeme_as c.args.at) (sym (sign_slashes c.args.line.now c.args.at _ refl c.if-b-eq35.false _ c.peek-next.ensures c.if-b-eq47.true c.if-next-eq47.true))

pub returns-then-b-eq47 : goal.returns-then-b-eq47
returns-then-b-eq47 c = c.token.ensures ∙ ap (lexeme_as c.args.at) (sym (sign_slash c.args.line.now c.args.at _ refl c.if-b-eq35.false _ c.peek-next.ensures c.if-b-eq47.true c.if-next-eq47.false))

pub returns-then-next-eq58 : goal.returns-then-next-eq58
returns-then-next-eq58 c = c.token-then-next-eq58.ensures ∙ ap (lexeme_as c.args.at) (sym (sign_colons c.args.line.now c.args.at _ refl c.if-b-eq35.false _ c.peek-next.ensures c.if-b-eq47.false c.if-b-eq58.true c.if-next-eq58.true))

pub returns-then-b-eq58 : goal.returns-then-b-eq58
returns-then-b-eq58 c = c.token-then-b-eq58.ensures ∙ ap (lexeme_as c.args.at) (sym (sign_colon c.args.line.now c.args.at _ refl c.if-b-eq35.false _ c.peek-next.ensures c.if-b-eq47.false c.if-b-eq58.true c.if-next-eq58.false))

pub returns-then-b-eq34 : goal.returns-then-b-eq34
returns-then-b-eq34 c = c.string.ensures ∙ ap (lexeme_as c.args.at) (sym (sign_quote c.args.line.now c.args.at _ refl c.if-b-eq35.false _ c.peek-next.ensures c.if-b-eq47.false c.if-b-eq58.false c.if-b-eq34.true))

pub returns : goal.returns
returns c = c.unexpected.ensures ∙ ap (lexeme_as c.args.at) (sym (sign_other c.args.line.now c.args.at _ refl c.if-b-eq35.false _ c.peek-next.ensures c.if-b-eq47.false c.if-b-eq58.false c.if-b-eq34.false))

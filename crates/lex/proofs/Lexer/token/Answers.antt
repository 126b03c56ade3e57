use Rattle.lex.proofs.States.{token_after}
use Rattle.lex.proofs.Lexer.token.Goals as goal

pub returns : goal.returns
returns c = token_after _ _ _ _ c.flush-lexer.ensures _ _ _ _ _ _ _ c.kind.ensures c.value-value.ensures c.put_row.ensures

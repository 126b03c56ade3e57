use Rattle.lex.proofs.States.{finish_after}
use Rattle.lex.proofs.Lexer.finish.Goals as goal

pub returns : goal.returns
returns c = finish_after _ _ _ _ c.flush-lexer.ensures _ _ c.put_row.ensures

use Rattle.lex.proofs.States.{flush_some}
use Rattle.lex.proofs.Lexer.flush.Goals as goal

pub returns : goal.returns
returns c = flush_some _ _ _ c.in-Some.is _ c.put_row.ensures

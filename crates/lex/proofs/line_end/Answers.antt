use Rattle.classes.specs.Runs.{run_end}
use Rattle.lex.proofs.Lines.{end_within}
use borrow.Author.Rules.{rules}
use Rattle.lex.proofs.line_end.Goals as goal

pub returns : goal.returns
unfolding run_end
returns c = record { value = c.eat_comment.ensures; lower_bound = end_within _ _ _ (search rules) c.eat_comment.ensures }

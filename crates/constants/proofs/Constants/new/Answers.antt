use borrow.Author.Rules.{rules}
use Rattle.language.specs.Values.{entries, table_text}
use Rattle.constants.specs.Constants.{table_rows}
use Rattle.constants.proofs.Constants.new.Goals as goal

pub returns : goal.returns
unfolding table_rows entries table_text
returns c = search rules

use Rattle.parse.proofs.TokenRows.{row_told}
use Rattle.parse.proofs.at_row.Goals as goal

pub returns : goal.returns
returns c = row_told c.args.toks.now _ _ c.args.i c.token_row-tok.ensures

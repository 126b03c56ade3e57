use Rattle.writer.proofs.Laws.{◌then◌}
use borrow.Author.Rules.{rules}
use Rattle.canon.proofs.hex_text.Goals as goal

pub returns : goal.returns
returns c = record { writes = c.copy-a.ensures then c.hexadecimal.ensures.writes; upper_bound = search rules }

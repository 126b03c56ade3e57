use Rattle.writer.proofs.Laws.{◌then◌}
use borrow.Author.Rules.{rules}
use Rattle.canon.proofs.quoted_text.Goals as goal

pub returns : goal.returns
returns c = record { writes = c.put-a.ensures then c.copy-b.ensures then c.put.ensures; upper_bound = search rules }

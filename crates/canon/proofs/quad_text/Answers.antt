use Rattle.writer.proofs.Laws.{◌then◌}
use borrow.Author.Rules.{rules}
use Rattle.canon.proofs.quad_text.Goals as goal

pub returns : goal.returns
returns c = record { writes = ((c.decimal_word-a.ensures.writes then c.put-b.ensures then c.decimal_word-c.ensures.writes) then c.put-d.ensures then c.decimal_word-e.ensures.writes) then c.put-f.ensures then c.decimal_word.ensures.writes; upper_bound = search rules }

use Rattle.writer.proofs.Laws.{◌then◌, bytes_are}
use borrow.Author.Tests.{eq-eqb, ne_eqb}
use borrow.Author.Rules.{rules}
use Rattle.canon.proofs.literal_text.Goals as goal

pub returns-then-at-from : goal.returns-then-at-from
returns-then-at-from c = record { writes = bytes_are _ (rw (eq-eqb _ _ c.if-at-from.true)) c.quoted_text.ensures.writes; upper_bound = search rules }

pub returns : goal.returns
returns c = record { writes = bytes_are _ (rw (ne_eqb _ _ c.if-at-from.false)) (c.put-a.ensures then c.quoted_text-2.ensures.writes); upper_bound = search rules }

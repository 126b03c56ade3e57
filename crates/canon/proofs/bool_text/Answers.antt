use Rattle.writer.proofs.Laws.{bytes_are}
use borrow.Author.Tests.{ne_eqb}
use borrow.Author.Rules.{rules}
use Rattle.canon.proofs.bool_text.Goals as goal

pub returns-then-low-eq0 : goal.returns-then-low-eq0
returns-then-low-eq0 c = record { writes = bytes_are _ (rw c.if-low-eq0.true) c.copy.ensures; upper_bound = search rules }

pub returns : goal.returns
returns c = record { writes = bytes_are _ (rw (ne_eqb _ _ c.if-low-eq0.false)) c.copy-2.ensures; upper_bound = search rules }

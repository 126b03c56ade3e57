use Rattle.writer.proofs.Laws.{none, bytes_are}
use Rattle.canon.proofs.Spelling.{no_gap, a_space}
use borrow.Author.Rules.{rules}
use Rattle.canon.proofs.separator.Goals as goal

pub returns-then-kind-eq-SEMI_COLON : goal.returns-then-kind-eq-SEMI_COLON
returns-then-kind-eq-SEMI_COLON c = record { writes = bytes_are _ (rw c.if-kind-eq-SEMI_COLON.true) c.put.ensures; upper_bound = search rules }

pub returns-then-next-eq-EOF : goal.returns-then-next-eq-EOF
returns-then-next-eq-EOF c = record { writes = bytes_are _ (no_gap _ _ c.if-kind-eq-SEMI_COLON.false c.if-next-eq-EOF.true) (none _ _); upper_bound = search rules }

pub returns : goal.returns
returns c = record { writes = bytes_are _ (a_space _ _ c.if-kind-eq-SEMI_COLON.false c.if-next-eq-EOF.false) c.put-2.ensures; upper_bound = search rules }

use Rattle.canon.specs.Spelling.{fixed_text}
use Rattle.writer.proofs.Laws.{bytes_are}
use Rattle.canon.proofs.Spelling.{only_mark}
use borrow.Author.Rules.{rules}
use Rattle.canon.proofs.fixed_text.Goals as goal

pub returns-in-5 : goal.returns-in-5
unfolding fixed_text
returns-in-5 c = record { writes = bytes_are _ (rw c.in-5.is) c.copy.ensures; upper_bound = search rules }

pub returns-in-11 : goal.returns-in-11
unfolding fixed_text
returns-in-11 c = record { writes = bytes_are _ (rw c.in-11.is) c.copy-in-11.ensures; upper_bound = search rules }

pub returns-in-12 : goal.returns-in-12
unfolding fixed_text
returns-in-12 c = record { writes = bytes_are _ (rw c.in-12.is) c.copy-in-12.ensures; upper_bound = search rules }

pub returns-in-14 : goal.returns-in-14
unfolding fixed_text
returns-in-14 c = record { writes = bytes_are _ (rw c.in-14.is) c.bool_text.ensures.writes; upper_bound = search rules }

pub returns-in_default : goal.returns-in_default
unfolding fixed_text
returns-in_default c = record { writes = bytes_are _ (only_mark _ c.args.low c.in_default.in_default-own.rest c.mark.ensures) c.put.ensures; upper_bound = search rules }

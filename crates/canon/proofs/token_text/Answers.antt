use Rattle.canon.specs.Spelling.{kind_text}
use Rattle.writer.proofs.Laws.{bytes_are}
use Rattle.canon.proofs.Spelling.{only_fixed}
use borrow.Author.Rules.{rules}
use Rattle.canon.proofs.token_text.Goals as goal

pub returns-in-13 : goal.returns-in-13
unfolding kind_text
returns-in-13 c = record { writes = bytes_are _ (rw c.in-13.is) c.copy.ensures; upper_bound = search rules }

pub returns-in-15 : goal.returns-in-15
unfolding kind_text
returns-in-15 c = record { writes = bytes_are _ (rw c.in-15.is) c.quad_text.ensures.writes; upper_bound = search rules }

pub returns-in-16 : goal.returns-in-16
unfolding kind_text
returns-in-16 c = record { writes = bytes_are _ (rw c.in-16.is) c.literals.ensures.writes; upper_bound = search rules }

pub returns-in-17 : goal.returns-in-17
unfolding kind_text
returns-in-17 c = record { writes = bytes_are _ (rw c.in-17.is) c.hex_text.ensures.writes; upper_bound = search rules }

pub returns-in-18 : goal.returns-in-18
unfolding kind_text
returns-in-18 c = record { writes = bytes_are _ (rw c.in-18.is) c.decimal.ensures.writes; upper_bound = search rules }

pub returns-in_default : goal.returns-in_default
unfolding kind_text
returns-in_default c = record { writes = bytes_are _ (only_fixed _ _ _ _ c.in_default.in_default-own.rest) c.fixed_text.ensures.writes; upper_bound = search rules }

use Rattle.canon.specs.Spelling.{mark_of}
use Rattle.canon.proofs.Spelling.{last_mark}
use Rattle.canon.proofs.mark.Goals as goal

pub returns-in-2 : goal.returns-in-2
unfolding mark_of
returns-in-2 c = rw c.in-2.is

pub returns-in-3 : goal.returns-in-3
unfolding mark_of
returns-in-3 c = rw c.in-3.is

pub returns-in-4 : goal.returns-in-4
unfolding mark_of
returns-in-4 c = rw c.in-4.is

pub returns-in-6 : goal.returns-in-6
unfolding mark_of
returns-in-6 c = rw c.in-6.is

pub returns-in-7 : goal.returns-in-7
unfolding mark_of
returns-in-7 c = rw c.in-7.is

pub returns-in-8 : goal.returns-in-8
unfolding mark_of
returns-in-8 c = rw c.in-8.is

pub returns-in-9 : goal.returns-in-9
unfolding mark_of
returns-in-9 c = rw c.in-9.is

pub returns-in_default : goal.returns-in_default
unfolding mark_of
returns-in_default c = last_mark _ c.in_default.in_default-own.rest

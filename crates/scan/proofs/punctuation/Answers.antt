use Rattle.language.specs.Lexemes.{punctuation}
use Rattle.scan.proofs.Tokens.{no_mark}
use Rattle.scan.proofs.punctuation.Goals as goal

pub returns-in-40 : goal.returns-in-40
unfolding punctuation
returns-in-40 c = rw c.in-40.is

pub returns-in-41 : goal.returns-in-41
unfolding punctuation
returns-in-41 c = rw c.in-41.is

pub returns-in-46 : goal.returns-in-46
unfolding punctuation
returns-in-46 c = rw c.in-46.is

pub returns-in-59 : goal.returns-in-59
unfolding punctuation
returns-in-59 c = rw c.in-59.is

pub returns-in-61 : goal.returns-in-61
unfolding punctuation
returns-in-61 c = rw c.in-61.is

pub returns-in-44 : goal.returns-in-44
unfolding punctuation
returns-in-44 c = rw c.in-44.is

pub returns-in_default : goal.returns-in_default
returns-in_default c = no_mark _ c.in_default.in_default-own.rest

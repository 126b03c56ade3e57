use mathlib.Core.Path.{refl}
use Rattle.language.specs.Tokens.{contents, tokens}
use Rattle.parse.proofs.TokenRows.{short_part}
use Rattle.parse.proofs.Entry.{rep_of, at_place, too_many_lem, accepted}
use Rattle.parse.proofs.trees.Goals as goal

pub program-requires : goal.program-requires
program-requires c = short_part _ _ c.requires.1 c.requires.2

pub returns-in-Err : goal.returns-in-Err
returns-in-Err c = λ s l h. at_place l _ (c.program.ensures.met_all (contents (tokens s)) (rep_of l c.requires.1) h) c.requires.1 c.in-Err.is c.verdict.ensures refl

pub returns-then-room-parsed : goal.returns-then-room-parsed
returns-then-room-parsed c = λ s l h. too_many_lem l _ (c.program.ensures.met_all (contents (tokens s)) (rep_of l c.requires.1) h) c.in-Ok.is c.if-room-parsed.true c.new.ensures refl

pub returns : goal.returns
returns c = λ s l h. accepted l _ (c.program.ensures.met_all (contents (tokens s)) (rep_of l c.requires.1) h) c.in-Ok.is c.if-room-parsed.false refl

use mathlib.Core.Path.{refl}
use Rattle.parse.proofs.Entry.{refused_as, parsed_whole}
use Rattle.parse.proofs.parse_tokens.Goals as goal

pub returns-in-Ok : goal.returns-in-Ok
returns-in-Ok c = λ s l h. parsed_whole l (c.trees.ensures s l h) c.trees.auto.nodes c.in-Ok.is c.new.ensures refl

pub returns-in-Err : goal.returns-in-Err
returns-in-Err c = λ s l h. refused_as l (c.trees.ensures s l h) c.trees.auto.nodes c.in-Err.is c.give_up.ensures

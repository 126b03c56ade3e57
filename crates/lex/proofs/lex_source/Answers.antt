use mathlib.Core.Path.{refl}
use borrow.Author.Rules.{rules}
use Rattle.lex.proofs.Answers.{refused, accepted}
use Rattle.lex.proofs.lex_source.Goals as goal

pub returns-in-Ok : goal.returns-in-Ok
returns-in-Ok c = accepted _ _ _ _ c.in-Ok.ensures _ c.new.ensures

pub returns-in-Err : goal.returns-in-Err
returns-in-Err c =
    let left = c.refused.ensures in
    rw left.answer (refused _ _ _ c.in-Err.ensures _ refl _ left.nothing_left (search rules))

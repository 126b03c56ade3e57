use Rattle.canon.proofs.Answers.{refused}
use mathlib.Core.Path.{refl}
use borrow.Author.Rules.{rules}
use Rattle.canon.proofs.canonicalise.Goals as goal

pub returns-in-Err : goal.returns-in-Err
returns-in-Err c =
    let left = c.refused.ensures in
    rw left.answer (refused _ _ _ _ c.in-Err.ensures refl _ _ left.no_token (search rules) left.no_byte (search rules))

use Prim.Native.Nat.{ℕ}
use mathlib.Core.List.{List}
use Rattle.language.specs.Lexemes.{same}
use mathlib.Core.Path.{◌∙◌, ap}
use Rattle.constants.proofs.Hits.{not_hit, hit_by}
use Rattle.constants.proofs.is_hit.Goals as goal

pub returns-then-rows-at : goal.returns-then-rows-at
returns-then-rows-at c = let a = c.args in not_hit a.rows.now a.text.now a.i a.inside a.name.now c.if-rows-at.true

pub returns : goal.returns
returns c = let a = c.args in c.same.ensures ∙ ap (λ (t : List ℕ). same t a.name.now) c.part.ensures ∙ hit_by a.rows.now a.text.now a.i a.inside a.name.now c.if-rows-at.false

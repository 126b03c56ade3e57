-- The words of a row, from what is shown of a term.
use mathlib.Core.Path.{◌≡◌, refl, ap, ◌∙◌}
use mathlib.Core.List.{List, [], ◌∷◌}
use Prim.Native.Nat.{ℕ}
use Rattle.table.specs.Table.{put_row}
use Rattle.language.specs.Terms as terms
use Rattle.language.specs.Terms.{constant, slot, atom, called, divided, term_at}
use Rattle.language.specs.Findings.{form_of, stmt_row}
use Rattle.language.specs.Numbers.{token_of}
use Rattle.rows.specs.declared.token.Token.{Token}
use Rattle.rows.specs.declared.types.Text.{Text}
use Rattle.rows.specs.declared.types.Type.{«Type»}
use Rattle.rows.specs.Tokens.{token_as}
use Rattle.values.specs.declared.Term.{Term}
use Rattle.values.specs.Values.{term_as, TypeShown, Shown}
use Rattle.holding.specs.Holding.{Puts}

pub term_form : (e : terms.Term) → (term_as e).form ≡ form_of e
term_form (atom p (constant v)) = refl
term_form (atom p (slot s t)) = refl
term_form (called p c f vs) = refl
term_form (divided p a b) = refl

pub term_at_lem : (e : terms.Term) → (term_as e).at ≡ term_at e
term_at_lem (atom p (constant v)) = refl
term_at_lem (atom p (slot s t)) = refl
term_at_lem (called p c f vs) = refl
term_at_lem (divided p a b) = refl

pub put_is : (s : List ℕ) {row at kind slot : ℕ} {v : Term} {own place : Token} {ty : «Type»} {text : Text} {x y : List ℕ}
    → own ≡ token_as (token_of s at) → place ≡ token_as (token_of s v.at) → TypeShown v ty → Shown v text
    → y ≡ put_row x row (own.line ∷ own.column ∷ kind ∷ slot ∷ v.form ∷ place.line ∷ place.column ∷ ty.kind ∷ text.from ∷ text.start ∷ text.end ∷ [])
    → Puts s row at kind slot v x y
unfolding stmt_row
put_is s {row} {v = v} {x = x} o p t h w =
    record {
      is = λ e q.
          let form : v.form ≡ form_of e = ap (λ (z : Term). z.form) q ∙ term_form e in
          let place : v.at ≡ term_at e = ap (λ (z : Term). z.at) q ∙ term_at_lem e in
          w ∙ ap (put_row x row) (rw (o, p, t.is e q, h.is e q, form, place));
    }

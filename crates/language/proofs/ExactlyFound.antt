-- What is found first is one, and none stands before it.
use mathlib.Core.Path.{◌≡◌, refl, sym, ap, ◌∙◌}
use mathlib.Core.List.{List, [], ◌∷◌, ◌++◌, Memᴰ}
use mathlib.Core.Option.{none, some}
use mathlib.Core.Logic.{◌⊎◌, inl, inr}
use Rattle.language.specs.Lexemes.{LexErrorKind}
use Rattle.language.specs.Tokens.{Piece, gap, body, token, wrong, Item, Wrong, first_wrong}
use Rattle.language.specs.Exactly.{WrongIsFirst}
use Rattle.language.proofs.ExactlyRows.{absent}

-- ---- the first wrong lexeme

-- a lexeme is wrong, or passed over
sorted : (i : Item) (p : Piece) → i.piece ≡ p
    → ((e : LexErrorKind) × (i.piece ≡ wrong e) × ((is : List Item) → first_wrong (i ∷ is) ≡ some (record { kind = e; at = i })))
    ⊎ ((is : List Item) → first_wrong (i ∷ is) ≡ first_wrong is)
unfolding first_wrong
sorted i gap k = inr (λ is. rw k)
sorted i (body b) k = inr (λ is. rw k)
sorted i (token c) k = inr (λ is. rw k)
sorted i (wrong e) k = inl (e, k, λ is. rw k)

abbrev FirstIn : List Item → Wrong → Type 0
FirstIn is w =
    (p : List Item) × (q : List Item) × (is ≡ p ++ w.at ∷ q) × (w.at.piece ≡ wrong w.kind) × (first_wrong p ≡ none)

first_wrong_lem : (is : List Item) (w : Wrong) → first_wrong is ≡ some w → FirstIn is w
unfolding first_wrong
first_wrong_lem [] w e = absurd (absent refl e)
first_wrong_lem (i ∷ is) w e =
    elim (sorted i i.piece refl) [
      | inl h ↦
          let f = h.2 is in
          let k : record { kind = h.0; at = i } ≡ w = cc in
          rw (← k) ([], is, refl, h.1, refl)
      | inr h ↦
          let f = first_wrong_lem is w (sym (h is) ∙ e) in
          (i ∷ f.0, f.1, ap (λ (xs : List Item). i ∷ xs) f.2, f.3, h f.0 ∙ f.4)
    ]

none_wrong : (i : Item) {is : List Item} → first_wrong is ≡ none → (e : LexErrorKind) → Memᴰ i is → i.piece ≡ wrong e → ⊥
unfolding first_wrong
none_wrong i z e (Memᴰ.head {x} {xs} q) k =
    let p : x.piece ≡ wrong e = rw (← q) k in
    let f : first_wrong (x ∷ xs) ≡ some (record { kind = e; at = x }) = rw p in
    absent z f
none_wrong i z e (Memᴰ.tail {x} {xs} m) k =
    elim (sorted x x.piece refl) [ inl h ↦ absent z (h.2 xs) | inr h ↦ none_wrong i (sym (h xs) ∙ z) e m k ]

pub wrong_is_first : WrongIsFirst
wrong_is_first is = (first_wrong_lem is, λ z i e m k. none_wrong i z e m k)

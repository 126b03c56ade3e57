-- The tokens of a source stand at different places: a later byte has a later place, and the end's line is past all others.
use Prim.Native.Nat.{ℕ, zero, suc, ◌+◌, ◌-◌, ◌≤◌, ◌<◌}
use mathlib.Core.Path.{◌≡◌, refl, sym, ap, ◌∙◌}
use mathlib.Core.Bool.{Bool, true, false}
use mathlib.Core.List.{List, [], ◌∷◌}
use mathlib.Core.Logic.{◌⊎◌, inl, inr}
use native.Mathlib.Omega.{arith}
use native.Mathlib.Decide.{dec_lt}
use lib.Dec.{eqb}
use lib.ListN.{length, get_or}
use Rattle.language.specs.Choice.{if'}
use Rattle.language.specs.Tokens.{Token, Line, line_at, onto, lines_from, lines, Place, place_from, Ordered, ordered_none, ordered_one, tokens, eof_token}
use Rattle.language.specs.Numbers.{token_of}
use Rattle.language.specs.Told.{TokensApart}
use Rattle.language.proofs.Tests.{each_side, both_sides}
use Rattle.language.proofs.TokenClaims.{tokens_in_order, places_right}
use Rattle.language.proofs.TokensAt.{long_tokens, before_last, last_token}

-- ---- places

-- a place at line l and column c, or after it
abbrev From : ℕ → ℕ → Place → Type 0
From l c p = (l < p.line) ⊎ ((p.line ≡ l) × (c ≤ p.column))

place_from_lem : (l c : ℕ) (s : List ℕ) (a : ℕ) → a ≤ length s → From l c (place_from l c s a)
unfolding place_from
place_from_lem l c s zero h = inr (refl, omega arith)
place_from_lem l c [] (suc a) h = absurd (omega arith)
place_from_lem l c (b ∷ s) (suc a) h =
    each_side (From l c) (eqb b 10)
    (elim (place_from_lem (suc l) 1 s a (omega arith)) [ inl g ↦ inl (omega arith) | inr g ↦ inl (omega (arith, g.0)) ])
    (elim (place_from_lem l (suc c) s a (omega arith)) [ inl g ↦ inl g | inr g ↦ inr (g.0, omega (arith, g.1)) ])

-- one place before another
abbrev Before : Place → Place → Type 0
Before p q = (p.line < q.line) ⊎ ((q.line ≡ p.line) × (p.column < q.column))

place_order : (l c : ℕ) (s : List ℕ) (a b : ℕ) → a < b → b ≤ length s → Before (place_from l c s a) (place_from l c s b)
unfolding place_from
place_order l c s a zero h k = absurd (omega arith)
place_order l c [] a (suc b) h k = absurd (omega arith)
place_order l c (x ∷ s) zero (suc b) h k =
    each_side (Before (record { line = l; column = c })) (eqb x 10)
    (elim (place_from_lem (suc l) 1 s b (omega arith)) [ inl g ↦ inl (omega arith) | inr g ↦ inl (omega (arith, g.0)) ])
    (elim (place_from_lem l (suc c) s b (omega arith)) [ inl g ↦ inl g | inr g ↦ inr (g.0, omega (arith, g.1)) ])
place_order l c (x ∷ s) (suc a) (suc b) h k =
    both_sides Before (eqb x 10) (λ _. place_order (suc l) 1 s a b (omega arith) (omega arith))
    (λ _. place_order l (suc c) s a b (omega arith) (omega arith))

-- ---- lines

onto_long : (at b : ℕ) (ls : List Line) → (0 < length (onto at b ls)) × (length ls ≤ length (onto at b ls))
onto_long at b [] = (omega arith, omega arith)
onto_long at b (l ∷ ls) = (omega arith, omega arith)

-- a byte stands in one of the lines
line_inside : (l c at : ℕ) (s : List ℕ) (a : ℕ) → a < length s → (place_from l c s a).line < l + length (lines_from at s)
unfolding place_from lines_from
line_inside l c at [] a h = absurd (omega arith)
line_inside l c at (b ∷ s) zero h = go (eqb b 10)
  where
    go : (t : Bool) → l < l + length (if' t (line_at at [] ∷ lines_from (suc at) s) (onto at b (lines_from (suc at) s)))
    go true = omega arith
    go false = omega (arith, (onto_long at b (lines_from (suc at) s)).0)
line_inside l c at (b ∷ s) (suc a) h =
    go (eqb b 10) (line_inside (suc l) 1 (suc at) s a (omega arith)) (line_inside l (suc c) (suc at) s a (omega arith))
  where
    ls : List Line
    ls = lines_from (suc at) s

    go : (t : Bool) → (place_from (suc l) 1 s a).line < suc l + length ls → (place_from l (suc c) s a).line < l + length ls
        → (if' t (place_from (suc l) 1 s a) (place_from l (suc c) s a)).line < l + length (if' t (line_at at [] ∷ ls) (onto at b ls))
    go true f g = omega arith
    go false f g = omega (arith, (onto_long at b ls).1)

-- ---- tokens

-- a later token starts where an earlier ends, or after it
starts_after : {at : ℕ} {ts : List Token} (d : Token) → Ordered at ts → (j : ℕ) → j < length ts → at ≤ (get_or ts j d).start
starts_after d ordered_none j h = absurd (omega arith)
starts_after d (ordered_one t a b o) zero h = a
starts_after d (ordered_one {at} {ts} t a b o) (suc j) h = omega (arith, starts_after d o j (omega arith))

ends_before : {at : ℕ} {ts : List Token} (d : Token) → Ordered at ts → (i j : ℕ) → i < j → j < length ts
    → (get_or ts i d).end ≤ (get_or ts j d).start
ends_before d ordered_none i j h k = absurd (omega arith)
ends_before d (ordered_one t a b o) zero (suc j) h k = starts_after d o j (omega arith)
ends_before d (ordered_one t a b o) (suc i) (suc j) h k = ends_before d o i j (omega arith) (omega arith)
ends_before d (ordered_one t a b o) i zero h k = absurd (omega arith)

module _ (s : List ℕ) where
  -- of two tokens at one place neither is the later
  not_later : (i j : ℕ) → i < j → j < length (tokens s) → (token_of s i).line ≡ (token_of s j).line → (token_of s i).column ≡ (token_of s j).column → ⊥
  not_later i j h k e f =
      let n = long_tokens s in
      let p = places_right s (token_of s i) (before_last s i (omega arith)) in
      let o = ends_before (eof_token s) (tokens_in_order s) i j h k in
      let a = (token_of s i).start in
      let b = (token_of s j).start in
      elim (dec_lt (suc j) (length (tokens s))) [
        | yes l ↦
            let q = places_right s (token_of s j) (before_last s j (omega arith)) in
            elim (place_order 1 1 s a b (omega (arith, p.2)) (omega (arith, q.2, q.3))) [
              | inl g ↦ omega (arith, p.0, q.0)
              | inr g ↦ omega (arith, p.1, q.1, g.1)
            ]
        | no l ↦
            let last : j ≡ length (tokens s) - 1 = omega arith in
            let end : (token_of s j).line ≡ suc (length (lines s)) = ap (λ (t : Token). t.line) (ap (token_of s) last ∙ last_token s) in
            omega (arith, p.0, p.2, p.3, line_inside 1 1 0 s a (omega (arith, p.2, p.3)))
      ]

pub tokens_apart : TokensApart
tokens_apart s i j h k e f =
    elim (dec_lt i j) [
      | yes l ↦ absurd (not_later s i j l k e f)
      | no l ↦ elim (dec_lt j i) [ yes m ↦ absurd (not_later s j i m h (sym e) (sym f)) | no m ↦ omega arith ]
    ]

-- Two lists compared byte by byte: what one place says of the rest from there on.
use Prim.Native.Nat.{ℕ, suc, ◌+◌, ◌≤◌, ◌<◌}
use mathlib.Core.Path.{◌≡◌, refl, ap}
use mathlib.Core.Bool.{true, false, and-false}
use mathlib.Core.List.{List, [], ◌∷◌}
use native.Mathlib.Numerals.{add-one}
use native.Mathlib.Omega.{arith}
use borrow.Author.Tests.{eq-eqb, ne_eqb}
use lib.Dec.{eqb}
use lib.ListN.{length, get_or, drop, drop_of_length-le}
use lib.Seq.{drop-cons}
use Rattle.language.specs.Lexemes.{same}

-- lists of other lengths are not the same
pub other_size : (x y : List ℕ) → (length x ≡ length y → ⊥) → same x y ≡ false
other_size [] [] h = absurd (h refl)
other_size [] (b ∷ y) h = refl
other_size (a ∷ x) [] h = refl
other_size (a ∷ x) (b ∷ y) h = rw (other_size x y (λ e. h (ap suc e))) (and-false (eqb a b))

-- of lists that are as long
module _ (x y : List ℕ) (i : ℕ) (e : length x ≡ length y) where
  -- past both
  pub same_end : length x ≤ i → same (drop i x) (drop i y) ≡ true
  same_end h =
      let g : length y ≤ i = omega (arith, e, h) in
      rw (drop_of_length-le x h, drop_of_length-le y g)

  -- a byte that is the same, and one that is not
  module _ (h : i < length x) where
    in_other : i < length y
    in_other = omega (arith, e, h)

    pub same_more : get_or x i 0 ≡ get_or y i 0 → same (drop (i + 1) x) (drop (i + 1) y) ≡ same (drop i x) (drop i y)
    same_more b = rw (add-one, drop-cons x i 0 h, drop-cons y i 0 in_other, eq-eqb _ _ b)

    pub same_stop : (get_or x i 0 ≡ get_or y i 0 → ⊥) → same (drop i x) (drop i y) ≡ false
    same_stop b = rw (drop-cons x i 0 h, drop-cons y i 0 in_other, ne_eqb _ _ b)

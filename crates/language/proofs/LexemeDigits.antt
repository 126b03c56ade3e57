-- Digits: the number that is read, or the first byte that decides.
use Prim.Native.Nat.{ℕ, ◌+◌, ◌*◌, ◌≤◌, ◌<◌}
use mathlib.Core.Path.{◌≡◌, refl, ap, subst, ◌∙◌}
use mathlib.Core.Bool.{true}
use mathlib.Core.List.{List, [], ◌∷◌, ◌++◌, map, append-nil}
use native.Mathlib.Nat.{lt_of_le_of_lt, le-mul_of_pos_right}
use native.Mathlib.Omega.{arith}
use borrow.Author.Tests.{ltb-true, ltb-false, lt-ltb, le-ltb}
use lib.Dec.{ltb}
use Rattle.language.specs.Integers.{limit, value_from}
use Rattle.language.specs.Lexemes.{digit_of, Number, value, wrong, int_out_of_range, int_invalid_suffix, read_digits, are_digits, DigitsRead, SuffixFound, RangeFound}
use Rattle.language.proofs.Tests.{both, by_cases}

-- the value of bytes after digits that give v
abbrev after : ℕ → ℕ → List ℕ → ℕ
after base v bs = value_from base v (map digit_of bs)

-- a digit more at the end
after_snoc : (base v : ℕ) (p : List ℕ) (b : ℕ) → after base v (p ++ b ∷ []) ≡ after base v p * base + digit_of b
after_snoc base v [] b = refl
after_snoc base v (c ∷ p) b = after_snoc base (v * base + digit_of c) p b

-- digits whose value, after v, is below the limit
abbrev Small : ℕ → ℕ → List ℕ → Type 0
Small base v p = (are_digits base p ≡ true) × (after base v p < limit)

module _ (base : ℕ) (h : 1 < base) where
  -- a value never falls
  rises : (v : ℕ) (ds : List ℕ) → v ≤ value_from base v ds
  rises v [] = omega arith
  rises v (d ∷ ds) = omega (arith, le-mul_of_pos_right {m = base} v (omega arith), rises (v * base + d) ds)

  -- small digits are read
  reads : (v : ℕ) (p q : List ℕ) → Small base v p → read_digits base v (p ++ q) ≡ read_digits base (after base v p) q
  unfolding read_digits
  reads v [] q k = refl
  reads v (b ∷ p) q k =
      let d = both (ltb (digit_of b) base) (are_digits base p) k.0 in
      let m = v * base + digit_of b in
      rw (d.0, lt-ltb m limit (lt_of_le_of_lt (rises m (map digit_of p)) k.1)) (reads m p q (d.1, k.1))

-- small digits, then a byte that decides: Q holds of their value and it
record Stops (base v : ℕ) (Q : ℕ → ℕ → Type 0) (bs : List ℕ) : Type 0 where
  front : List ℕ
  byte : ℕ
  rest : List ℕ
  parts : bs ≡ front ++ byte ∷ rest
  small : Small base v front
  decides : Q (after base v front) byte

-- the two ways to decide
abbrev NoDigit : ℕ → ℕ → ℕ → Type 0
NoDigit base m b = base ≤ digit_of b

abbrev TooLarge : ℕ → ℕ → ℕ → Type 0
TooLarge base m b = (digit_of b < base) × (limit ≤ m * base + digit_of b)

-- what is read, and what it says of the bytes
data Told (base v : ℕ) (bs : List ℕ) : Number → Type 0 where
  whole : Small base v bs → Told base v bs (value (after base v bs))
  suffix : Stops base v (NoDigit base) bs → Told base v bs (wrong int_invalid_suffix)
  range : Stops base v (TooLarge base) bs → Told base v bs (wrong int_out_of_range)

-- a digit more in front changes nothing
module _ (base v b : ℕ) (e : ltb (digit_of b) base ≡ true) where
  stops_more : {Q : ℕ → ℕ → Type 0} {s : List ℕ} → Stops base (v * base + digit_of b) Q s → Stops base v Q (b ∷ s)
  stops_more d =
      record {
        front = b ∷ d.front;
        byte = d.byte;
        rest = d.rest;
        parts = cc d.parts;
        small = (rw e d.small.0, d.small.1);
        decides = d.decides;
      }

  told_more : {s : List ℕ} {r : Number} → Told base (v * base + digit_of b) s r → Told base v (b ∷ s) r
  told_more (whole k) = whole (rw e k.0, k.1)
  told_more (suffix d) = suffix (stops_more d)
  told_more (range d) = range (stops_more d)

-- the first byte decides
at_once : {base v b : ℕ} {s : List ℕ} {Q : ℕ → ℕ → Type 0} → v < limit → Q v b → Stops base v Q (b ∷ s)
at_once {b = b} {s = s} h d = record { front = []; byte = b; rest = s; parts = refl; small = (refl, h); decides = d }

-- every reading is one of the three
told : (base v : ℕ) (bs : List ℕ) → v < limit → Told base v bs (read_digits base v bs)
unfolding read_digits
told base v [] h = whole (refl, h)
told base v (b ∷ s) h =
    let m = v * base + digit_of b in
    by_cases (Told base v (b ∷ s)) (ltb (digit_of b) base)
    (λ e. by_cases (Told base v (b ∷ s)) (ltb m limit)
    (λ f. told_more base v b e (told base m s (ltb-true m limit f)))
    (λ f. range (at_once h (ltb-true (digit_of b) base e, ltb-false m limit f))))
    (λ e. suffix (at_once h (ltb-false (digit_of b) base e)))

-- ---- the claims

-- from the start, where nothing was read before
told_of : (base : ℕ) (bs : List ℕ) {r : Number} → read_digits base 0 bs ≡ r → Told base 0 bs r
told_of base bs e = subst (Told base 0 bs) e (told base 0 bs (ltb-true 0 limit refl))

-- each of the three by itself
of_value : {base v n : ℕ} {bs : List ℕ} → Told base v bs (value n) → Small base v bs × (after base v bs ≡ n)
of_value (whole k) = (k, refl)

of_suffix : {base v : ℕ} {bs : List ℕ} → Told base v bs (wrong int_invalid_suffix) → Stops base v (NoDigit base) bs
of_suffix (suffix d) = d

of_range : {base v : ℕ} {bs : List ℕ} → Told base v bs (wrong int_out_of_range) → Stops base v (TooLarge base) bs
of_range (range d) = d

pub digits_read : DigitsRead
unfolding read_digits
digits_read base h bs n = (
  λ e. let d = of_value (told_of base bs e) in (d.0.0, d.1, rw d.1 at d.0.1),
  λ d e l. rw append-nil at (reads base h 0 bs [] (d, rw e l)) ∙ ap value e,
)

pub suffix_found : SuffixFound
unfolding read_digits
suffix_found base h = (
  λ bs e. let d = of_suffix (told_of base bs e) in (d.front, d.byte, d.rest, d.parts, d.small, d.decides),
  λ p b q k l. reads base h 0 p (b ∷ q) k ∙ rw (le-ltb (digit_of b) base l),
)

pub range_found : RangeFound
unfolding read_digits
range_found base h = (
  λ bs e.
      let d = of_range (told_of base bs e) in
      (d.front, d.byte, d.rest, d.parts, d.small, d.decides.0, rw after_snoc d.decides.1),
  λ p b q k l m. reads base h 0 p (b ∷ q) k ∙ rw (lt-ltb (digit_of b) base l, le-ltb _ limit (rw after_snoc at m)),
)

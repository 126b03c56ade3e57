-- A number that is spelt is read again: by one law for every base up to 16. A decimal that is read is spelt as it was.
use Prim.Native.Nat.{ℕ, zero, suc, ◌+◌, ◌-◌, ◌*◌, ◌/◌, ◌%◌, ◌^◌, ◌≤◌, ◌<◌}
use mathlib.Core.Path.{◌≡◌, refl, sym, ap, ap₂, subst, ◌∙◌}
use mathlib.Core.Bool.{Bool, true, false, ◌&&◌, not, false≢true}
use mathlib.Core.List.{List, [], ◌∷◌, ◌++◌, map, append-nil, append_assoc}
use mathlib.Core.Option.{some}
use native.Mathlib.Nat.{lt_of_lt_of_le}
use native.Mathlib.Omega.{arith}
use native.Mathlib.Decide.{dec_lt}
use borrow.Author.Tests.{eqb-true, ltb-true, lt-ltb, le-leb, leb-true, not-true}
use lib.Dec.{ltb, eqb}
use lib.ListN.{length, get_or}
use Rattle.language.specs.Choice.{within}
use Rattle.language.specs.Integers.{limit, value_from, value_of, digits, decimal}
use Rattle.language.specs.Lexemes.{all, is_digit, digit_of, value, read_digits, are_digits, positional, starts_zero, octet}
use Rattle.language.specs.Canonical.{spell_digit, spell_digits}
use Rattle.language.proofs.Tests.{inside, by_cases}
use Rattle.language.proofs.Integers.{few_in, room, has_room, Right, right, Same, same_one, same_more}
use Rattle.language.proofs.LexemeDigits.{digits_read}
use Rattle.language.proofs.SpellingRuns.{and, all_parts, up_to, up_to_lem}

-- digits of a base; past the end `get_or` answers 0
abbrev Small : ℕ → List ℕ → Type 0
Small base ds = (i : ℕ) → get_or ds i 0 < base

-- a digit's byte stands for it
digit_back : (d : ℕ) → d < 16 → digit_of (spell_digit d) ≡ d
unfolding digit_of
digit_back d h = eqb-true _ _ (up_to_lem (λ n. eqb (digit_of (spell_digit n)) n) 16 refl d h)

-- what is true of each digit's byte is true of the bytes of a number
pub all_spelt : (p : ℕ → Bool) (base : ℕ) → up_to (λ d. p (spell_digit d)) base ≡ true → (ds : List ℕ) → Small base ds
    → all p (spell_digits ds) ≡ true
all_spelt p base e [] h = refl
all_spelt p base e (d ∷ ds) h =
    and {a = p (spell_digit d)} (up_to_lem (λ n. p (spell_digit n)) base e d (h 0)) (all_spelt p base e ds (λ i. h (suc i)))

module _ (base : ℕ) (two : 1 < base) (most : base ≤ 16) where
  -- the bytes of digits are digits, and stand for them
  digits_back : (ds : List ℕ) → Small base ds → map digit_of (spell_digits ds) ≡ ds
  digits_back [] h = refl
  digits_back (d ∷ ds) h =
      ap₂ (λ (x : ℕ) (xs : List ℕ). x ∷ xs) (digit_back d (omega (arith, h 0))) (digits_back ds (λ i. h (suc i)))

  are_digits_lem : (ds : List ℕ) → Small base ds → are_digits base (spell_digits ds) ≡ true
  are_digits_lem [] h = refl
  are_digits_lem (d ∷ ds) h = rw (digit_back d (omega (arith, h 0)), lt-ltb d base (h 0)) (are_digits_lem ds (λ i. h (suc i)))

  -- the digits of a number are read as the number
  pub spelt_read : {k n : ℕ} {ds : List ℕ} → Right base k n ds → n < limit → read_digits base 0 (spell_digits ds) ≡ value n
  spelt_read {n = n} {ds = ds} r l =
      let v = ap (value_of base) (digits_back ds r.small) ∙ r.value in
      (digits_read base two (spell_digits ds) n).1 (are_digits_lem ds r.small) v l

-- ---- decimals

-- what is said of the bytes of a decimal
pub record Decimal (n : ℕ) (w : List ℕ) : Type 0 where
  pub some_digit : 0 < length w
  pub digits : all is_digit w ≡ true
  pub read : read_digits 10 0 w ≡ value n
  -- no test passes that asks for `0` and something after it
  pub no_zero : (t : List ℕ → Bool) → t (48 ∷ []) ≡ false → eqb (get_or w 0 0) 48 && t w ≡ false

-- a byte for each digit
pub length_spelt : (ds : List ℕ) → length (spell_digits ds) ≡ length ds
length_spelt [] = refl
length_spelt (d ∷ ds) = ap suc (length_spelt ds)

-- a digit that is not 0 is not spelt `0`
not_zero : (d : ℕ) → 0 < d → d < 10 → eqb (spell_digit d) 48 ≡ false
not_zero zero h k = absurd (omega arith)
not_zero (suc d) h k = not-true _ (up_to_lem (λ n. not (eqb (spell_digit (suc n)) 48)) 9 refl d (omega arith))

-- the first byte is `0` in 0 alone
zero_alone : (n k : ℕ) (ds : List ℕ) → (n ≡ 0 → ds ≡ 0 ∷ []) → Right 10 k n ds → (t : List ℕ → Bool) → t (48 ∷ []) ≡ false
    → eqb (get_or (spell_digits ds) 0 0) 48 && t (spell_digits ds) ≡ false
zero_alone zero k ds z r t e = rw (z refl) e
zero_alone (suc n) k [] z r t e = absurd (omega (arith, r.some_digit))
zero_alone (suc n) k (d ∷ ds) z r t e = rw (not_zero d (r.first (omega arith)) (r.small 0))

-- of a number that has room for its digits, and of every number below the limit
decimal_of : (k n : ℕ) → n < 10 ^ suc k → n < limit → Decimal n (spell_digits (digits (suc k) n))
unfolding is_digit
decimal_of k n h l =
    let ds = digits (suc k) n in
    let r : Right 10 (suc k) n (digits (suc k) n) = right 10 (omega arith) k n h in
    record {
      some_digit = rw length_spelt r.some_digit;
      digits = all_spelt is_digit 10 refl ds r.small;
      read = spelt_read 10 (omega arith) (omega arith) r l;
      no_zero = zero_alone n (suc k) ds (λ z. rw z (few_in 10 k 0 (omega arith))) r;
    }

pub decimal_spelt : (n : ℕ) → n < limit → Decimal n (spell_digits (decimal n))
unfolding decimal
decimal_spelt n l = decimal_of 38 n (has_room n l) l

-- ---- a number of a quad

-- it is below the limit
byte_small : (n : ℕ) → n < 256 → n < limit
byte_small n h = lt_of_lt_of_le h (leb-true 256 limit refl)

pub byte_spelt : (n : ℕ) → n < 256 → Decimal n (spell_digits (decimal n))
byte_spelt n h = decimal_spelt n (byte_small n h)

-- three digits at most, so it is read
pub octet_spelt : (n : ℕ) → n < 256 → octet (spell_digits (decimal n)) ≡ some n
unfolding octet decimal starts_zero is_digit
octet_spelt n h =
    let three : digits 39 n ≡ digits 3 n = room 10 (omega arith) 38 2 n (has_room n (byte_small n h)) (omega arith) in
    let r : Right 10 3 n (digits 3 n) = right 10 (omega arith) 2 n (omega arith) in
    let c = decimal_of 2 n (omega arith) (byte_small n h) in
    rw (
      three,
      length_spelt,
      le-leb (length (digits 3 n)) 3 r.in_room,
      c.no_zero (λ w. is_digit (get_or w 1 0)) refl,
      c.read,
      le-leb n 255 (omega arith),
    )

-- ---- a decimal that is read

-- a digit, by what it stands for
digit_low : (b : ℕ) → digit_of b < 10 → (is_digit b ≡ true) × (spell_digit (digit_of b) ≡ b)
unfolding digit_of is_digit
digit_low b =
    let P : ℕ → Type 0 = λ d. d < 10 → (within 48 57 b ≡ true) × (spell_digit d ≡ b) in
    by_cases P (within 48 57 b) (λ e l. let h = inside 48 57 b e in (e, rw (lt-ltb (b - 48) 10 l) (omega arith)))
    (λ _. by_cases P (within 97 102 b) (λ e l. let h = inside 97 102 b e in absurd (omega arith))
    (λ _. by_cases P (within 65 70 b) (λ e l. let h = inside 65 70 b e in absurd (omega arith)) (λ _ l. absurd (omega arith))))

-- the first of digits, and the others
digit_first : (b : ℕ) (w : List ℕ) → are_digits 10 (b ∷ w) ≡ true → (digit_of b < 10) × (are_digits 10 w ≡ true)
digit_first b w e = let h = all_parts (λ c. ltb (digit_of c) 10) b w e in (ltb-true (digit_of b) 10 h.0, h.1)

digits_again : (w : List ℕ) → are_digits 10 w ≡ true → spell_digits (map digit_of w) ≡ w
digits_again [] e = refl
digits_again (b ∷ w) e =
    let h = digit_first b w e in
    ap₂ (λ (x : ℕ) (xs : List ℕ). x ∷ xs) (digit_low b h.0).1 (digits_again w h.1)

-- digits after those of v
more_digits : (v : ℕ) (ds w : List ℕ) → 0 < v → are_digits 10 w ≡ true → Same 10 v ds
    → Same 10 (value_from 10 v (map digit_of w)) (ds ++ map digit_of w)
more_digits v ds [] p e r = rw (append-nil ds) r
more_digits v ds (b ∷ w) p e r =
    let h = digit_first b w e in
    let n = v * 10 + digit_of b in
    let q : n / 10 ≡ v = omega (arith, h.0) in
    let m : n % 10 ≡ digit_of b = omega (arith, h.0) in
    let one : Same 10 n (ds ++ digit_of b ∷ []) = rw m at (same_more 10 (omega arith) n ds (omega arith) (rw q r)) in
    rw append_assoc at (more_digits n (ds ++ digit_of b ∷ []) w (omega arith) h.1 one)

-- no digit follows a zero that is first
zero_only : (b : ℕ) (w : List ℕ) → digit_of b ≡ 0 → are_digits 10 w ≡ true → starts_zero (b ∷ w) ≡ false → w ≡ []
unfolding starts_zero
zero_only b [] o e z = refl
zero_only b (c ∷ w) o e z =
    let f : b ≡ 48 = sym (rw o at (digit_low b (omega arith)).1) in
    absurd (false≢true (sym (rw (f, (digit_low c (digit_first c w e).0).0) at z)))

first_digits : (b : ℕ) (w : List ℕ) → are_digits 10 (b ∷ w) ≡ true → starts_zero (b ∷ w) ≡ false
    → Same 10 (positional 10 (b ∷ w)) (map digit_of (b ∷ w))
first_digits b w e z =
    let h = digit_first b w e in
    let one = same_one 10 (omega arith) (digit_of b) h.0 in
    let v : digit_of b ≡ 0 * 10 + digit_of b = omega arith in
    subst (λ x. Same 10 (value_from 10 x (map digit_of w)) (map digit_of (b ∷ w))) v
    (elim (dec_lt 0 (digit_of b)) [
      | yes p ↦ more_digits (digit_of b) (digit_of b ∷ []) w p h.1 one
      | no q ↦ rw (zero_only b w (omega arith) h.1 z) one
    ])

pub read_again : (w : List ℕ) (n : ℕ) → 0 < length w → starts_zero w ≡ false → read_digits 10 0 w ≡ value n → spell_digits (decimal n) ≡ w
unfolding decimal
read_again [] n l z e = absurd (omega arith)
read_again (b ∷ w) n l z e =
    let h = (digits_read 10 (omega arith) (b ∷ w) n).0 e in
    let same = rw h.1 at (first_digits b w h.0 z) in
    rw (← same 38 (has_room n h.2)) (digits_again (b ∷ w) h.0)

-- The proofs of the claims of specs/Integers.antt.
use Prim.Native.Nat.{ℕ, zero, suc, ◌+◌, ◌*◌, ◌/◌, ◌%◌, ◌^◌, ◌≤◌, ◌<◌}
use mathlib.Core.Path.{◌≡◌, refl, sym, ap, subst, ◌∙◌}
use mathlib.Core.List.{List, [], ◌∷◌, ◌++◌}
use mathlib.Core.Option.{Option, none, some}
use native.Mathlib.Nat.{lt_of_lt_of_le, lt_of_le_of_lt, div-lt_iff_lt-mul, le-div_iff_mul-le, div-add-mod', div-le_self, mod-lt, pow-suc, pow-zero, one-mul}
use native.Mathlib.Decide.{dec_lt}
use native.Mathlib.Omega.{arith}
use borrow.Author.Tests.{lt-ltb, le-ltb, leb-true}
use lib.Dec.{ltb}
use lib.ListN.{length, get_or, length-append, get_or-append}
use Rattle.language.specs.Choice.{if'}
use Rattle.language.specs.Integers.{limit, value_from, value_of, digits_in, most_digits, most_hex_digits, decimal, hexadecimal, IntType, u8, u16, u32, u64, bits, smallest, DigitsRight, DecimalIsRight, HexadecimalIsRight, DecimalUnfolds, HexadecimalUnfolds, SmallestHolds}

-- ---- digits in a base, one step

module _ (base : ℕ) where
  pub few_in : (k n : ℕ) → n < base → digits_in base (suc k) n ≡ n ∷ []
  unfolding digits_in
  few_in k n h = rw (lt-ltb n base h)

  pub many_in : (k n : ℕ) → base ≤ n → digits_in base (suc k) n ≡ digits_in base k (n / base) ++ (n % base ∷ [])
  unfolding digits_in
  many_in k n h = rw (le-ltb n base h)

module _ (base : ℕ) (two : 1 < base) where
  -- what a number divided by the base has is a place fewer
  pub fewer : (k n : ℕ) → n < base ^ suc k → n / base < base ^ k
  fewer k n h = (div-lt_iff_lt-mul {k = base} {x = n} {y = base ^ k} (omega arith)).1 (rw pow-suc at h)

  -- what holds of one digit, and of a digit more, holds of the digits of every number that has room
  module _ (P : ℕ → ℕ → List ℕ → Type 0)
      (one : (k n : ℕ) → n < base → P (suc k) n (n ∷ []))
      (more : (k n : ℕ) (ds : List ℕ) → base ≤ n → P k (n / base) ds → P (suc k) n (ds ++ (n % base ∷ []))) where
    pub each_in : (k n : ℕ) → n < base ^ suc k → P (suc k) n (digits_in base (suc k) n)
    each_in zero n h =
        let l : n < base = rw (pow-suc, pow-zero, one-mul) at h in
        rw (few_in base 0 n l) (one 0 n l)
    each_in (suc k) n h =
        elim (dec_lt n base) [
          | yes lt ↦ rw (few_in base (suc k) n lt) (one (suc k) n lt)
          | no ge ↦ rw (many_in base (suc k) n (omega arith)) (more (suc k) n _ (omega arith) (each_in k (n / base) (fewer (suc k) n h)))
        ]

-- ---- what the digits say

value_snoc : (base v : ℕ) (ds : List ℕ) (d : ℕ) → value_from base v (ds ++ (d ∷ [])) ≡ value_from base v ds * base + d
value_snoc base v [] d = refl
value_snoc base v (e ∷ ds) d = value_snoc base (v * base + e) ds d

-- past the end `get_or` answers 0, so no bound on the index is asked
small_snoc : (base : ℕ) (ds : List ℕ) (d : ℕ) → ((i : ℕ) → get_or ds i 0 < base) → d < base → (i : ℕ) → get_or (ds ++ (d ∷ [])) i 0 < base
small_snoc base [] d h s zero = s
small_snoc base [] d h s (suc i) = omega arith
small_snoc base (e ∷ ds) d h s zero = h 0
small_snoc base (e ∷ ds) d h s (suc i) = small_snoc base ds d (λ j. h (suc j)) s i

pub record Right (base k n : ℕ) (ds : List ℕ) : Type 0 where
  pub value : value_of base ds ≡ n
  pub small : (i : ℕ) → get_or ds i 0 < base
  pub some_digit : 0 < length ds
  pub in_room : length ds ≤ k
  pub first : 0 < n → 0 < get_or ds 0 0

module _ (base : ℕ) (two : 1 < base) where
  right_one : (k n : ℕ) → n < base → Right base (suc k) n (n ∷ [])
  right_one k n h =
      record {
        value = omega arith;
        small = small_snoc base [] n (λ i. omega arith) h;
        some_digit = omega arith;
        in_room = omega arith;
        first = λ p. p;
      }

  right_more : (k n : ℕ) (ds : List ℕ) → base ≤ n → Right base k (n / base) ds → Right base (suc k) n (ds ++ (n % base ∷ []))
  right_more k n ds g r =
      let z : 0 < base = omega arith in
      record {
        value = rw (value_snoc, r.value) (div-add-mod' n base);
        small = small_snoc base ds (n % base) r.small (mod-lt n z);
        some_digit = simp length-append (omega arith);
        in_room = simp length-append (omega (arith, r.in_room));
        first = λ p. rw (get_or-append ds (n % base ∷ []) 0 0 r.some_digit) (r.first ((le-div_iff_mul-le z).1 (omega arith)));
      }

  pub right : (k n : ℕ) → n < base ^ suc k → Right base (suc k) n (digits_in base (suc k) n)
  right = each_in base two (Right base) right_one right_more

  zero_first : (k n : ℕ) → Right base (suc k) n (digits_in base (suc k) n) → get_or (digits_in base (suc k) n) 0 0 ≡ 0
      → digits_in base (suc k) n ≡ 0 ∷ []
  zero_first k n r e =
      elim (dec_lt 0 n) [
        | yes p ↦ absurd (omega (arith, r.first p))
        | no q ↦
            let z : n ≡ 0 = omega arith in
            few_in base k n (omega arith) ∙ ap (λ (d : ℕ). d ∷ []) z
      ]

  -- the claim of a base
  digits_right : (k n : ℕ) → n < base ^ suc k → DigitsRight base (suc k) n (digits_in base (suc k) n)
  digits_right k n h =
      let r = right k n h in
      (r.value, λ i l. r.small i, r.some_digit, r.in_room, λ e. zero_first k n r e)

-- 2^127 has 39 decimal digits, and 32 hexadecimal ones
pub has_room : (n : ℕ) → n < limit → n < 10 ^ most_digits
has_room n h = lt_of_lt_of_le h (leb-true limit (10 ^ most_digits) refl)

pub hex_room : (n : ℕ) → n < limit → n < 16 ^ most_hex_digits
hex_room n h = lt_of_lt_of_le h (leb-true limit (16 ^ most_hex_digits) refl)

pub decimal_is_right : DecimalIsRight
unfolding decimal
decimal_is_right n h = digits_right 10 (omega arith) 38 n (has_room n h)

pub hexadecimal_is_right : HexadecimalIsRight
unfolding hexadecimal
hexadecimal_is_right n h = digits_right 16 (omega arith) 31 n (hex_room n h)

-- ---- the equation without a bound

-- more places than there are digits change nothing
abbrev pub Same : ℕ → ℕ → List ℕ → Type 0
Same base n ds = (j : ℕ) → n < base ^ suc j → ds ≡ digits_in base (suc j) n

module _ (base : ℕ) (two : 1 < base) where
  pub same_one : (n : ℕ) → n < base → Same base n (n ∷ [])
  same_one n h j b = sym (few_in base j n h)

  pub same_more : (n : ℕ) (ds : List ℕ) → base ≤ n → Same base (n / base) ds → Same base n (ds ++ (n % base ∷ []))
  same_more n ds g r zero b = absurd (omega (arith, rw (pow-suc, pow-zero, one-mul) at b))
  same_more n ds g r (suc j) b = rw (many_in base (suc j) n g, r j (fewer base two (suc j) n b))

  pub room : (k j n : ℕ) → n < base ^ suc k → n < base ^ suc j → digits_in base (suc k) n ≡ digits_in base (suc j) n
  room k j n a b = each_in base two (λ k. Same base) (λ k. same_one) (λ k. same_more) k n a j b

  -- of a number with room for its digits
  unfolds : (k n : ℕ) → n < base ^ suc (suc k)
      → digits_in base (suc (suc k)) n
      ≡ if' (ltb n base) (n ∷ []) (digits_in base (suc (suc k)) (n / base) ++ (n % base ∷ []))
  unfolding digits_in
  unfolds k n b = rw (room k (suc k) (n / base) (fewer base two (suc k) n b) (lt_of_le_of_lt (div-le_self n base) b))

pub decimal_unfolds : DecimalUnfolds
unfolding decimal
decimal_unfolds n h = unfolds 10 (omega arith) 37 n (has_room n h)

pub hexadecimal_unfolds : HexadecimalUnfolds
unfolding hexadecimal
hexadecimal_unfolds n h = unfolds 16 (omega arith) 30 n (hex_room n h)

-- ---- the smallest type

-- the least number that asks for a type
abbrev pub from : IntType → ℕ
from u8 = 0
from u16 = 2 ^ 8
from u32 = 2 ^ 16
from u64 = 2 ^ 32

-- a test of `smallest` that passes, and one that does not
pass : {A : Type 0} (n b : ℕ) (x y : A) → n < b → if' (ltb n b) x y ≡ x
pass n b x y h = rw (lt-ltb n b h)

fail : {A : Type 0} (n b : ℕ) (x y : A) → b ≤ n → if' (ltb n b) x y ≡ y
fail n b x y h = rw (le-ltb n b h)

pub chosen : (t : IntType) (n : ℕ) → from t ≤ n → n < 2 ^ bits t → smallest n ≡ some t
unfolding smallest
chosen u8 n a b = pass n _ _ _ b
chosen u16 n a b = fail n _ _ _ a ∙ pass n _ _ _ b
chosen u32 n a b = fail n (2 ^ 8) _ _ (omega arith) ∙ fail n _ _ _ a ∙ pass n _ _ _ b
chosen u64 n a b = fail n (2 ^ 8) _ _ (omega arith) ∙ fail n (2 ^ 16) _ _ (omega arith) ∙ fail n _ _ _ a ∙ pass n _ _ _ b

pub none_chosen : (n : ℕ) → 2 ^ 64 ≤ n → smallest n ≡ none
unfolding smallest
none_chosen n a = fail n (2 ^ 8) _ _ (omega arith) ∙ fail n (2 ^ 16) _ _ (omega arith) ∙ fail n (2 ^ 32) _ _ (omega arith) ∙ fail n _ _ _ a

module _ (P : IntType → Type 0) (a : P u8) (b : P u16) (c : P u32) (d : P u64) where
  for_types : (t : IntType) → P t
  for_types u8 = a
  for_types u16 = b
  for_types u32 = c
  for_types u64 = d

-- a type that holds a number which asks for t is no smaller than t
Wider : IntType → IntType → Type 0
Wider t u = from t < 2 ^ bits u → bits t ≤ bits u

wider : (t u : IntType) → Wider t u
unfolding Wider
wider u8 = for_types (Wider u8) (λ h. omega arith) (λ h. omega arith) (λ h. omega arith) (λ h. omega arith)
wider u16 = for_types (Wider u16) (λ h. omega arith) (λ h. omega arith) (λ h. omega arith) (λ h. omega arith)
wider u32 = for_types (Wider u32) (λ h. omega arith) (λ h. omega arith) (λ h. omega arith) (λ h. omega arith)
wider u64 = for_types (Wider u64) (λ h. omega arith) (λ h. omega arith) (λ h. omega arith) (λ h. omega arith)

Holds : ℕ → Option IntType → Type 0
Holds n (some t) = (n < 2 ^ bits t) × ((u : IntType) → n < 2 ^ bits u → bits t ≤ bits u)
Holds n none = (u : IntType) → 2 ^ bits u ≤ n

chosen_holds : (t : IntType) (n : ℕ) → from t ≤ n → n < 2 ^ bits t → Holds n (smallest n)
unfolding Holds Wider
chosen_holds t n a b = rw (chosen t n a b) (b, λ u h. wider t u (lt_of_le_of_lt a h))

none_holds : (n : ℕ) → 2 ^ 64 ≤ n → Holds n (smallest n)
unfolding Holds
none_holds n a = rw (none_chosen n a) (for_types (λ u. 2 ^ bits u ≤ n) (omega arith) (omega arith) (omega arith) a)

holds : (n : ℕ) → Holds n (smallest n)
holds n =
    elim (dec_lt n (2 ^ 8)) [
      | yes b ↦ chosen_holds u8 n (omega arith) b
      | no a ↦
          elim (dec_lt n (2 ^ 16)) [
            | yes b ↦ chosen_holds u16 n (omega arith) b
            | no a ↦
                elim (dec_lt n (2 ^ 32)) [
                  | yes b ↦ chosen_holds u32 n (omega arith) b
                  | no a ↦
                      elim (dec_lt n (2 ^ 64)) [
                        | yes b ↦ chosen_holds u64 n (omega arith) b
                        | no a ↦ none_holds n (omega arith)
                      ]
                ]
          ]
    ]

pub smallest_holds : SmallestHolds
unfolding Holds
smallest_holds = (λ n t e. subst (Holds n) e (holds n), λ n e. subst (Holds n) e (holds n))

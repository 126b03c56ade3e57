-- Writing the digits of a number from the last to the first, in a base.
use Rattle.std.proofs.Common.{◌≡◌, ℕ, zero, suc, ◌+◌, ◌-◌, ◌/◌, ◌%◌, ◌^◌, ◌<◌, ◌≤◌, Bool, true, false, eqb, List, [], ◌∷◌, ◌++◌, length, set, replicate, sym, refl, ap, ◌∙◌, append_assoc, append-nil, mod-eq_of_lt, div-lt_iff_lt-mul, one-mul, pow-suc, le-div_iff_mul-le, arith, le-ltb, lt-ltb, eqb-true}
use native.Mathlib.Nat.{pow-zero}
use borrow.Author.Tests.{eqb-false}
use Rattle.language.specs.Integers.{AllDigits, digits_in, most_digits, decimal, ascii}
use Rattle.language.specs.Canonical.{spell_digit, spell_digits}
use Rattle.language.proofs.Integers.{few_in, many_in, fewer, right}

-- zeros before `at`, and from there `done` as it is spelt: those of the digits `all` that follow the digits of `rest`, of which
-- `at` has room
pub record Written (base places : ℕ) (all text : List ℕ) (rest at : ℕ) : Type 0 where
  pub done : List ℕ
  pub said : text ≡ replicate at 0 ++ spell_digits done
  pub whole : all ≡ digits_in base at rest ++ done
  pub room : rest < base ^ at
  pub filled : at + length done ≡ places
  pub left : 0 < at

pub start : (base places : ℕ) (n : ℕ) → n < base ^ places → 0 < places
    → Written base places (digits_in base places n) (replicate places 0) n places
start base places n h p =
    record {
      done = [];
      said = sym (append-nil _);
      whole = sym (append-nil _);
      room = h;
      filled = omega arith;
      left = p;
    }

stored : (k v : ℕ) (l : List ℕ) → set (replicate (suc k) 0 ++ l) k v ≡ replicate k 0 ++ v ∷ l
stored zero v l = refl
stored (suc k) v l = ap (λ (m : List ℕ). 0 ∷ m) (stored k v l)

two_places : (base k n : ℕ) → base ≤ n → n < base ^ suc k → 0 < k
two_places base zero n a h =
    let l : n < base = rw (pow-suc, pow-zero, one-mul) at h in
    absurd (omega arith)
two_places base (suc k) n a h = omega arith

-- one turn, as the code does it: at the place k before `at` the byte v that spells the digit d of `rest`, and q is what follows it
module _ {base places : ℕ} {all text : List ℕ} {rest at k q d v : ℕ} (two : 1 < base) (w : Written base places all text rest at)
    (e : k ≡ at - 1) (t : (q ≡ rest / base) × (d ≡ rest % base)) (byte : v ≡ spell_digit d) where
  -- `at` is not 0
  at_suc : at ≡ suc k
  at_suc = omega (arith, w.left)

  text_now : set text k v ≡ replicate k 0 ++ spell_digits (d ∷ w.done)
  text_now = rw (w.said, at_suc, ← byte) (stored k v (spell_digits w.done))

  room_now : rest < base ^ suc k
  room_now = rw at_suc at w.room

  whole_now : all ≡ digits_in base (suc k) rest ++ w.done
  whole_now = rw at_suc at w.whole

  pub again : {b : Bool} → b ≡ eqb q 0 → b ≡ false → Written base places all (set text k v) q k
  again s f =
      let z : q ≡ 0 → ⊥ = eqb-false q 0 (sym s ∙ f) in
      let p : 0 < base = omega arith in
      let r : 1 ≤ rest / base = omega (arith, t.0) in
      let g : base ≤ rest = omega (arith, (le-div_iff_mul-le p).0 r) in
      record {
        done = d ∷ w.done;
        said = text_now;
        whole = rw (whole_now, many_in base k rest g, t.0, t.1, append_assoc);
        room = rw t.0 (fewer base two k rest room_now);
        filled = omega (arith, w.filled, at_suc);
        left = two_places base k rest g room_now;
      }

  pub finished : {b : Bool} → b ≡ eqb q 0 → b ≡ true → (k ≡ places - length all) × (set text k v ≡ replicate k 0 ++ spell_digits all)
  finished s f =
      let z : q ≡ 0 = eqb-true q 0 (sym s ∙ f) in
      let p : 0 < base = omega arith in
      let r : rest / base < 1 = omega (arith, t.0) in
      let g : rest < base = omega (arith, (div-lt_iff_lt-mul p).0 r) in
      let same : rest ≡ d = sym (t.1 ∙ mod-eq_of_lt g) in
      let full : all ≡ d ∷ w.done = rw (whole_now, few_in base k rest g, same) in
      rw full (omega (arith, w.filled, at_suc), text_now)

-- ---- the byte of a digit

pub below_ten : {v : ℕ} (d : ℕ) → d < 10 → v ≡ 48 + d → v ≡ spell_digit d
below_ten d h e = rw (lt-ltb d 10 h) e

pub from_ten : {v : ℕ} (d : ℕ) → 10 ≤ d → v ≡ 87 + d → v ≡ spell_digit d
from_ten d h e = rw (le-ltb d 10 h) e

-- ---- digits below 10 are spelt as ASCII has them

pub spelt_ascii : (ds : List ℕ) → AllDigits ds → spell_digits ds ≡ ascii ds
spelt_ascii [] h = refl
spelt_ascii (d ∷ ds) h =
    let l : d < 10 = h 0 (omega arith) in
    rw (lt-ltb d 10 l, spelt_ascii ds (λ i b. h (suc i) (omega arith)))

-- those of a decimal are below 10
pub decimal_spelt : (n : ℕ) → n < 10 ^ most_digits → spell_digits (digits_in 10 most_digits n) ≡ ascii (decimal n)
unfolding decimal
decimal_spelt n room =
    let small = (right 10 (omega arith) 38 n room).small in
    spelt_ascii (digits_in 10 most_digits n) (λ i l. small i)

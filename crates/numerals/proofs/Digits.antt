-- Reading digits one by one, as the code does.
use Prim.Native.Nat.{ℕ, ◌+◌, ◌*◌, ◌-◌, ◌<◌, ◌≤◌}
use mathlib.Core.Path.{◌≡◌, refl, sym, ◌∙◌}
use mathlib.Core.Bool.{Bool, true, false}
use mathlib.Core.List.{List}
use native.Mathlib.Omega.{arith}
use borrow.Author.Tests.{lt-ltb, le-ltb}
use lib.Dec.{ltb}
use lib.ListN.{length, get_or, drop}
use Rattle.language.specs.Choice.{if'}
use Rattle.language.specs.Integers.{limit}
use Rattle.language.specs.Lexemes.{digit_of, read_digits, wrong, int_out_of_range, int_invalid_suffix}
use Rattle.language.proofs.Tests.{never, inside_test, outside_test}
use Rattle.wide.specs.declared.Wide.{Wide}
use Rattle.std.specs.Prelude.{Option, Some, None, Ok, Err, ok_or}
use Rattle.std.proofs.lemmas.List.{drop_more, drop_all}
use Rattle.wide.specs.Wide.{value_of, wide_of, fitted, scaled}
use Rattle.lexemes.specs.declared.LexErrorKind.{LexErrorKind}
use Rattle.lexemes.specs.declared.LexErrorKind.TheVariants.{IntOutOfRange, IntInvalidSuffix}
use Rattle.numerals.specs.Numerals.{number_as}

-- ---- digits

module _ (b : ℕ) where
  pub dec_digit : 48 ≤ b → b < 58 → b - 48 ≡ digit_of b
  unfolding digit_of
  dec_digit h k = rw (inside_test 48 57 b h (omega arith))

  pub small_digit : 97 ≤ b → b < 103 → b - 97 + 10 ≡ digit_of b
  unfolding digit_of
  small_digit h k = rw (outside_test 48 57 b (omega arith), inside_test 97 102 b h (omega arith)) (omega arith)

  pub large_digit : 65 ≤ b → b < 71 → b - 65 + 10 ≡ digit_of b
  unfolding digit_of
  large_digit h k =
      rw (outside_test 48 57 b (omega arith), outside_test 97 102 b (omega arith), inside_test 65 70 b h (omega arith))
      (omega arith)

  pub no_digit : 0 < (48 - b) + (b - 57) → 0 < (97 - b) + (b - 102) → 0 < (65 - b) + (b - 70) → 16 ≡ digit_of b
  unfolding digit_of
  no_digit h k l = rw (outside_test 48 57 b h, outside_test 97 102 b k, outside_test 65 70 b l)

-- ---- words

fits_said : (t : Bool) (n : ℕ) (w : Wide) → if' t (Some (wide_of n)) None ≡ Some w → (t ≡ true) × (w ≡ wide_of n)
fits_said true n w e = (refl, cc)
fits_said false n w e = never (cc)

over_said : (t : Bool) (n : ℕ) → if' t (Some (wide_of n)) None ≡ None → t ≡ false
over_said true n e = never (cc)
over_said false n e = refl

-- what `ok_or` is made of
pub none_of : (o : Option Wide) (e x : LexErrorKind) → Err x ≡ ok_or o e → (o ≡ None) × (x ≡ e)
none_of (Some w) e x h = never (cc)
none_of None e x h = (refl, cc)

pub some_of : (o : Option Wide) (e : LexErrorKind) (v : Wide) → Ok v ≡ ok_or o e → o ≡ Some v
some_of (Some w) e v h = cc
some_of None e v h = never (cc)

pub value_wide : (n : ℕ) → value_of (wide_of n) ≡ n
value_wide n = omega arith

-- ---- a step

-- v of the loop at i: the digits before i give v
pub record Reading (base : ℕ) (s : List ℕ) (v : Wide) (i : ℕ) : Type 0 where
  pub inside : i ≤ length s
  pub same : read_digits base (value_of v) (drop i s) ≡ read_digits base 0 s
  pub whole : wide_of (value_of v) ≡ v

module _ {base : ℕ} {s : List ℕ} {v : Wide} {i : ℕ} (r : Reading base s v i) where
  pub finished : length s ≤ i → Ok v ≡ number_as (read_digits base 0 s)
  unfolding read_digits
  finished h = rw (← r.same, drop_all i s h, r.whole)

  module _ (h : i < length s) (d : ℕ) (given : d ≡ digit_of (get_or s i 0)) where
    step :
        read_digits base 0 s
        ≡ if' (ltb d base)
        (if' (ltb (value_of v * base + d) limit) (read_digits base (value_of v * base + d) (drop (i + 1) s)) (wrong int_out_of_range))
        (wrong int_invalid_suffix)
    unfolding read_digits
    step = sym r.same ∙ rw (drop_more s i 0 h, given)

    pub suffix : base ≤ d → Err IntInvalidSuffix ≡ number_as (read_digits base 0 s)
    suffix l = rw (step, le-ltb d base)

    module _ (l : d < base) (o : Option Wide) (said : o ≡ scaled base (value_of v) d) where
      pub out_of_range_lem : o ≡ None → Err IntOutOfRange ≡ number_as (read_digits base 0 s)
      unfolding fitted
      out_of_range_lem k = rw (step, lt-ltb d base, over_said (ltb (value_of v * base + d) limit) (value_of v * base + d) (sym said ∙ k))

      pub again : (w : Wide) → o ≡ Some w → Reading base s w (i + 1)
      unfolding fitted
      again w k =
          let n = value_of v * base + d in
          let f = fits_said (ltb n limit) n w (sym said ∙ k) in
          let q : value_of w ≡ n = rw f.1 (value_wide n) in
          record {
            inside = omega arith;
            same = rw (q, step, lt-ltb d base, f.0);
            whole = rw q (sym f.1);
          }

-- How a numeral starts, and the integer that a word is.
use Prim.Native.Nat.{ℕ, zero, suc, ◌+◌, ◌-◌, ◌<◌, ◌≤◌, zero-le}
use mathlib.Core.Path.{◌≡◌, refl, sym, ap, ◌∙◌}
use mathlib.Core.Bool.{Bool, true, false, ◌&&◌, false≢true, or-true}
use mathlib.Core.List.{List, [], ◌∷◌}
use native.Mathlib.Nat.{add-zero}
use native.Mathlib.Omega.{arith}
use borrow.Author.Tests.{ltb-true, eqb-true, eq-eqb, ne_eqb}
use lib.Dec.{ltb, eqb}
use lib.ListN.{length, get_or, take, drop, length-drop}
use lib.Seq.{get_or-drop}
use Rattle.language.proofs.LexemeSizes.{run_fits, digit_is_word}
use Rattle.language.specs.Choice.{if', within}
use Rattle.language.specs.Lexemes as language
use Rattle.language.specs.Lexemes.{is_digit, is_word_start, is_word, run, digit_of, read_digits, value, wrong, numbered, hex_literal, dec_literal, starts_hex, starts_zero, integer}
use Rattle.language.proofs.Tests.{both, inside, inside_test}
use Rattle.wide.specs.declared.Wide.{Wide}
use Rattle.wide.specs.Wide.{wide_of}
use Rattle.rows.specs.declared.token.Tok.{Tok}
use Rattle.rows.specs.declared.token.Tok.TheVariants.{HexLiteral, DecLiteral}
use Rattle.lexemes.specs.declared.LexErrorKind.TheVariants.{IntLeadingZero}
use Rattle.lexemes.specs.declared.LexemeKind.TheVariants as kind_is
use Rattle.std.specs.Prelude.{Result, Ok, Err}
use Rattle.lexemes.specs.declared.LexErrorKind.{LexErrorKind}
use Rattle.lexemes.specs.Kinds.{kind_as, read_kind}
use Rattle.rows.specs.Tokens.{tok_as}
use Rattle.language.specs.Tokens.{between}
use Rattle.classes.specs.Runs.{run_end}
use Rattle.numerals.specs.Numerals.{number_as}
use Rattle.language.proofs.Parts.{part_cons}
use Rattle.runs.proofs.Places.{run_between}

-- ---- starts, as the code tests them

-- b1, b2 and b3 are the bytes at a place and after it
module _ (s : List ℕ) (at b1 : ℕ) (e1 : b1 ≡ get_or s at 0) where
  first : get_or (drop at s) 0 0 ≡ b1
  first = rw (get_or-drop at s 0 0, add-zero at) (sym e1)

  pub not_hex : (b1 ≡ 48 → ⊥) → false ≡ starts_hex (drop at s)
  unfolding starts_hex
  not_hex n = rw (first, ne_eqb b1 48)

  pub not_zero : (b1 ≡ 48 → ⊥) → false ≡ starts_zero (drop at s)
  unfolding starts_zero
  not_zero n = rw (first, ne_eqb b1 48)

  module _ (z : b1 ≡ 48) (b2 : ℕ) (e2 : b2 ≡ get_or s (at + 1) 0) where
    second : get_or (drop at s) 1 0 ≡ b2
    second = get_or-drop at s 1 0 ∙ sym e2

    pub not_x : (b2 ≡ 120 → ⊥) → false ≡ starts_hex (drop at s)
    unfolding starts_hex
    not_x n = rw (first, second, eq-eqb b1 48, ne_eqb b2 120)

    pub zero_start : (r : Bool) → r ≡ is_digit b2 → r ≡ starts_zero (drop at s)
    unfolding starts_zero
    zero_start r d = rw (first, second, eq-eqb b1 48) d

    pub hex_start : (b3 d : ℕ) → b2 ≡ 120 → b3 ≡ get_or s (at + 2) 0 → d ≡ digit_of b3 → ltb d 16 ≡ starts_hex (drop at s)
    unfolding starts_hex
    hex_start b3 d x e3 h = rw (first, second, get_or-drop at s 2 0, ← e3, ← h, eq-eqb b1 48, eq-eqb b2 120)

-- ---- runs

-- a test of both, where the second matters only if the first passes
both_same : (a c b d : Bool) → a ≡ c → (c ≡ true → b ≡ d) → a && b ≡ c && d
both_same a true b d e f = rw e (f refl)
both_same a false b d e f = rw e

-- a test at i says the same of the first n bytes and of all
abbrev Seen : (ℕ → Bool) → ℕ → List ℕ → ℕ → Type 0
Seen q i t n = q (get_or (take n t) i 0) ≡ q (get_or t i 0)

-- a run of bytes with p
module _ (p : ℕ → Bool) where
  -- q is a test that no byte passes without p
  module _ (q : ℕ → Bool) (only : (b : ℕ) → q b ≡ true → p b ≡ true) (none : q 0 ≡ false) where
    shut : (b : ℕ) (k : Bool) → q b ≡ k → p b ≡ false → q 0 ≡ k
    shut b true e f = absurd (false≢true (sym f ∙ only b e))
    shut b false e f = none

    -- it is as well made on the bytes of the run and the one after it
    seen : (i : ℕ) (t : List ℕ) → i ≤ run p t → Seen q i t (run p t)
    seen i [] h = refl
    seen i (b ∷ t) h = go i (p b) refl h (λ j. seen j t)
      where
        go : (i : ℕ) (k : Bool) → p b ≡ k → i ≤ if' k (suc (run p t)) 0 → ((j : ℕ) → j ≤ run p t → Seen q j t (run p t)) → Seen q i (b ∷ t) (if' k (suc (run p t)) 0)
        go zero true e l r = refl
        go (suc i) true e l r = r i (omega arith)
        go zero false e l r = shut b (q b) refl e
        go (suc i) false e l r = absurd (omega arith)

    -- a byte that passes it is in the run
    taken : (i : ℕ) (t : List ℕ) → i ≤ run p t → q (get_or t i 0) ≡ true → i < run p t
    taken i [] h e = absurd (false≢true (sym none ∙ e))
    taken i (b ∷ t) h e = go i (p b) refl h e (λ j. taken j t)
      where
        go : (i : ℕ) (k : Bool) → p b ≡ k → i ≤ if' k (suc (run p t)) 0 → q (get_or (b ∷ t) i 0) ≡ true → ((j : ℕ) → j ≤ run p t → q (get_or t j 0) ≡ true → j < run p t) → i < if' k (suc (run p t)) 0
        go zero true f l e r = omega arith
        go (suc i) true f l e r = omega (arith, r i (omega arith) e)
        go zero false f l e r = absurd (false≢true (sym f ∙ only b e))
        go (suc i) false f l e r = absurd (omega arith)

-- ---- the tests of a start

is_digit_zero : (b : ℕ) → eqb b 48 ≡ true → is_digit b ≡ true
unfolding is_digit
is_digit_zero b e = rw (eqb-true b 48 e)

is_word_x : (b : ℕ) → eqb b 120 ≡ true → is_word b ≡ true
unfolding is_word is_word_start
is_word_x b e = rw (eqb-true b 120 e)

is_word_hex : (b : ℕ) → ltb (digit_of b) 16 ≡ true → is_word b ≡ true
unfolding digit_of is_word is_word_start is_digit
is_word_hex b e = go (within 48 57 b) (within 97 102 b) (within 65 70 b) refl refl refl e
  where
    go : (x y z : Bool) → within 48 57 b ≡ x → within 97 102 b ≡ y → within 65 70 b ≡ z → ltb (if' x (b - 48) (if' y (b - 87) (if' z (b - 55) 16))) 16 ≡ true → is_word b ≡ true
    go true y z p q r e = digit_is_word b p
    go false true z p q r e =
        let h = inside 97 102 b q in
        rw (inside_test 97 122 b (omega arith) (omega arith))
    go false false true p q r e =
        let h = inside 65 70 b r in
        rw (inside_test 65 90 b (omega arith) (omega arith), or-true (within 97 122 b))
    go false false false p q r e = absurd (omega (arith, ltb-true 16 16 e))

-- ---- a start is seen in the run as in the whole rest

abbrev is0 : ℕ → Bool
is0 b = eqb b 48

abbrev is_x : ℕ → Bool
is_x b = eqb b 120

abbrev is_hex : ℕ → Bool
is_hex b = ltb (digit_of b) 16

-- where each digit has p
module _ (p : ℕ → Bool) (digits : (b : ℕ) → is_digit b ≡ true → p b ≡ true) where
  zeros : (b : ℕ) → is0 b ≡ true → p b ≡ true
  zeros b e = digits b (is_digit_zero b e)

  after_zero : (t : List ℕ) → is0 (get_or t 0 0) ≡ true → 0 < run p t
  after_zero t e = taken p is0 zeros refl 0 t zero-le e

  zero_run : (t : List ℕ) → starts_zero (take (run p t) t) ≡ starts_zero t
  unfolding starts_zero is_digit
  zero_run t = both_same _ _ _ _ (seen p is0 zeros refl 0 t zero-le) (λ e. seen p is_digit digits refl 1 t (after_zero t e))

  pub zero_between : (s : List ℕ) (at e : ℕ) → e ≡ run_end p s at → starts_zero (between s at e) ≡ starts_zero (drop at s)
  zero_between s at e k = rw (run_between p s at e k) (zero_run (drop at s))

module _ (t : List ℕ) where
  after_x : is0 (get_or t 0 0) ≡ true → is_x (get_or t 1 0) ≡ true → 1 < run is_word t
  after_x e f = taken is_word is_x is_word_x refl 1 t (after_zero is_word digit_is_word t e) f

  hex_run : starts_hex (take (run is_word t) t) ≡ starts_hex t
  unfolding starts_hex digit_of
  hex_run =
      both_same _ _ _ _ (seen is_word is0 (zeros is_word digit_is_word) refl 0 t zero-le)
      (λ e. both_same _ _ _ _ (seen is_word is_x is_word_x refl 1 t (after_zero is_word digit_is_word t e))
      (λ f. seen is_word is_hex is_word_hex refl 2 t (after_x e f)))

  two_taken : starts_hex t ≡ true → 1 < run is_word t
  unfolding starts_hex
  two_taken e =
      let h = both (is0 (get_or t 0 0)) _ e in
      after_x h.0 (both (is_x (get_or t 1 0)) _ h.1).0

-- ---- the integer that a word is

-- the code's literal of a number
abbrev literal : (Wide → Tok) → Result Wide LexErrorKind → Result Tok LexErrorKind
literal f (Ok v) = Ok (f v)
literal f (Err e) = Err e

literal_as : (f : ℕ → language.Tok) (g : Wide → Tok) → ((n : ℕ) → tok_as (f n) ≡ g (wide_of n)) → (r : language.Number) → read_kind (literal g (number_as r)) ≡ kind_as (numbered f r)
literal_as f g h (value n) = ap kind_is.Tok (sym (h n))
literal_as f g h (wrong e) = refl

-- of the word from `at` to e
module _ (s : List ℕ) (at e : ℕ) (h : (at < length s) × (e ≡ run_end is_word s at)) where
  pub word_ends : (at ≤ e) × (e ≤ length s)
  unfolding run_end
  word_ends = (omega arith, omega (arith, run_fits is_word (drop at s), length-drop at s))

  -- x and z are what its start is found to be
  module _ (x : Bool) (x-said : x ≡ starts_hex (drop at s)) where
    hex_same : starts_hex (between s at e) ≡ x
    hex_same = rw (run_between is_word s at e h.1) (hex_run (drop at s) ∙ sym x-said)

    module _ (t : x ≡ true) where
      pub two_digits : at + 2 ≤ e
      unfolding run_end
      two_digits = omega (arith, two_taken (drop at s) (sym x-said ∙ t))

      after_two : drop 2 (between s at e) ≡ between s (at + 2) e
      after_two =
          let n : at + 1 + 1 ≡ at + 2 = omega arith in
          let l = two_digits in
          let f = word_ends.1 in
          rw (part_cons s at e (omega arith) f, part_cons s (at + 1) e (omega arith) f, n)

      pub hexadecimal : (n : Result Wide LexErrorKind) → n ≡ number_as (read_digits 16 0 (between s (at + 2) e)) → read_kind (literal HexLiteral n) ≡ kind_as (integer (between s at e))
      unfolding integer
      hexadecimal n r = rw (hex_same, t, after_two, r) (literal_as hex_literal HexLiteral (λ n. refl) (read_digits 16 0 (between s (at + 2) e)))

    module _ (f : x ≡ false) (z : Bool) (z-said : z ≡ starts_zero (drop at s)) where
      zero_same : starts_zero (between s at e) ≡ z
      zero_same = zero_between is_word digit_is_word s at e h.1 ∙ sym z-said

      pub leading_zero : z ≡ true → read_kind (Err IntLeadingZero) ≡ kind_as (integer (between s at e))
      unfolding integer
      leading_zero t = rw (hex_same, f, zero_same, t)

      pub decimal : z ≡ false → (n : Result Wide LexErrorKind) → n ≡ number_as (read_digits 10 0 (between s at e)) → read_kind (literal DecLiteral n) ≡ kind_as (integer (between s at e))
      unfolding integer
      decimal g n r = rw (hex_same, f, zero_same, g, r) (literal_as dec_literal DecLiteral (λ n. refl) (read_digits 10 0 (between s at e)))

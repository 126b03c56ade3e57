-- A lexeme that is a token is spelt with its bytes, hexadecimals aside.
use Prim.Native.Nat.{ℕ, zero, suc, ◌<◌}
use mathlib.Core.Path.{◌≡◌, refl, sym, ap}
use mathlib.Core.Bool.{true, false}
use mathlib.Core.List.{List, [], ◌∷◌}
use mathlib.Core.Option.{Option, none, some}
use native.Mathlib.Omega.{arith}
use borrow.Author.Tests.{eqb-true}
use lib.Dec.{ltb, eqb}
use lib.ListN.{length, get_or, take, drop}
use Rattle.language.specs.Utf8.{Char, char, no_char, char_at}
use Rattle.language.specs.Lexemes.{Tok, hex_literal, dec_literal, Kind, trivia, str, tok, error, Lexeme, is_blank, is_digit, is_word_start, is_word, is_body, run, same, import_word, let_word, true_word, false_word, word, Number, value, wrong, read_digits, numbered, starts_hex, starts_zero, integer, Quad, quad, not_quad, quad_from, quad_lexeme, number, punctuation, ascii, lexeme_at, lexeme}
use Rattle.language.specs.Lexemes as lexemes
use Rattle.language.specs.Tokens.{content_of}
use Rattle.language.specs.Canonical.{spell_tok, spell}
use Rattle.language.proofs.Tests.{same_equal, by_cases}
use Rattle.language.proofs.LexemeSizes.{stands, digit_is_word}
use Rattle.language.proofs.SpellingDigits.{read_again}
use Rattle.language.proofs.SpellingQuads.{QuadSpelt, quad_read, quad_again}

-- a token and its bytes
abbrev Spelt : Tok → List ℕ → Type 0
Spelt t x = spell (content_of t x) ≡ x

abbrev pub AsBytes : Kind → List ℕ → Type 0
AsBytes (tok t) x = ((n : ℕ) → t ≡ hex_literal n → ⊥) → Spelt t x
AsBytes trivia x = Unit {0}
AsBytes str x = Unit {0}
AsBytes (error e) x = Unit {0}

-- of a lexeme that bytes start with
abbrev pub AsBytesAt : List ℕ → Lexeme → Type 0
AsBytesAt bs l = AsBytes l.kind (take l.size bs)

-- ---- words

word_spelt : (w : List ℕ) → Spelt (word w) w
unfolding word spell spell_tok
word_spelt w =
    let P : Tok → Type 0 = λ t. Spelt t w in
    by_cases P (same w import_word) (λ e. sym (same_equal w import_word e))
    (λ _. by_cases P (same w let_word) (λ e. sym (same_equal w let_word e))
    (λ _. by_cases P (same w true_word) (λ e. sym (same_equal w true_word e))
    (λ _. by_cases P (same w false_word) (λ e. sym (same_equal w false_word e)) (λ _. refl))))

-- ---- numbers

-- hexadecimal, or decimal
integer_spelt : (w : List ℕ) → 0 < length w → AsBytes (integer w) w
unfolding integer spell spell_tok
integer_spelt w l =
    let P : Kind → Type 0 = λ k. AsBytes k w in
    by_cases P (starts_hex w) (λ _. hex (read_digits 16 0 (drop 2 w)))
    (λ _. by_cases P (starts_zero w) (λ _. tt) (λ z. dec (read_digits 10 0 w) refl z))
  where
    hex : (r : Number) → AsBytes (numbered hex_literal r) w
    hex (value n) = λ f. absurd (f n refl)
    hex (wrong e) = tt

    dec : (r : Number) → read_digits 10 0 w ≡ r → starts_zero w ≡ false → AsBytes (numbered dec_literal r) w
    dec (value n) e z = λ _. read_again w n l z e
    dec (wrong x) e z = tt

-- what starts with a digit
number_spelt : (b : ℕ) (s : List ℕ) → is_digit b ≡ true → AsBytesAt (b ∷ s) (number (b ∷ s))
unfolding number spell spell_tok
number_spelt b s d = go (quad_from 3 (some 0) (b ∷ s)) refl (quad_read 3 (some 0) (b ∷ s))
  where
    quad_spelt : (n : ℕ) (a : Option ℕ) (more : ℕ) → QuadSpelt 3 (some 0) (b ∷ s) (quad n a) → AsBytesAt (b ∷ s) (quad_lexeme n a more)
    quad_spelt n (some a) zero h = λ _. quad_again a (take n (b ∷ s)) h
    quad_spelt n (some a) (suc more) h = tt
    quad_spelt n none more h = tt

    some_byte : 0 < length (take (run is_word (b ∷ s)) (b ∷ s))
    some_byte = rw (digit_is_word b d) (omega arith)

    go : (q : Quad) → quad_from 3 (some 0) (b ∷ s) ≡ q → QuadSpelt 3 (some 0) (b ∷ s) q → AsBytesAt (b ∷ s) (number (b ∷ s))
    go (quad n a) e h = rw (e, number) (quad_spelt n a (run is_word (drop n (b ∷ s))) h)
    go not_quad e h = rw (e, number) (integer_spelt (take (run is_word (b ∷ s)) (b ∷ s)) some_byte)

-- ---- every lexeme

abbrev SpeltOption : ℕ → Option Tok → Type 0
SpeltOption b (some t) = Spelt t (b ∷ [])
SpeltOption b none = Unit {0}

-- one byte that passes a test is that byte
this : (b c : ℕ) → eqb b c ≡ true → c ∷ [] ≡ b ∷ []
this b c e = ap (λ (x : ℕ). x ∷ []) (sym (eqb-true b c e))

punctuation_spelt : (b : ℕ) → SpeltOption b (punctuation b)
unfolding punctuation spell spell_tok
punctuation_spelt b =
    let P = SpeltOption b in
    by_cases P (eqb b 40) (this b 40)
    (λ _. by_cases P (eqb b 41) (this b 41)
    (λ _. by_cases P (eqb b 46) (this b 46)
    (λ _. by_cases P (eqb b 59) (this b 59)
    (λ _. by_cases P (eqb b 61) (this b 61)
    (λ _. by_cases P (eqb b 44) (this b 44) (λ _. tt))))))

-- `::`
two_colons : (b : ℕ) (s : List ℕ) → eqb b 58 ≡ true → eqb (get_or s 0 0) 58 ≡ true → 58 ∷ 58 ∷ [] ≡ take 2 (b ∷ s)
two_colons b [] e f = absurd (omega (arith, stands [] 0 58 refl f))
two_colons b (c ∷ s) e f = rw (eqb-true b 58 e, eqb-true c 58 f)

-- a literal, or an error
string_spelt : (b : ℕ) (s : List ℕ) → AsBytesAt (b ∷ s) (lexemes.string s)
unfolding lexemes.string
string_spelt b s = by_cases (AsBytesAt (b ∷ s)) (eqb (get_or s (run is_body s) 0) 34) (λ _. tt) (λ _. tt)

-- what an ASCII character starts
ascii_spelt : (b : ℕ) (s : List ℕ) (o : Option Tok) → punctuation b ≡ o → SpeltOption b o → AsBytesAt (b ∷ s) (ascii b s)
unfolding ascii spell spell_tok
ascii_spelt b s (some t) e h = rw (e, ascii) (λ _. h)
ascii_spelt b s none e h =
    let P = AsBytesAt (b ∷ s) in
    rw (e, ascii)
    (by_cases P (eqb b 35) (λ _. tt)
    (λ _. by_cases P (eqb b 47) (λ t. by_cases P (eqb (get_or s 0 0) 47) (λ _. tt) (λ _ _. this b 47 t))
    (λ _. by_cases P (eqb b 58) (λ t. by_cases P (eqb (get_or s 0 0) 58) (λ u _. two_colons b s t u) (λ _ _. this b 58 t))
    (λ _. by_cases P (eqb b 34) (λ _. string_spelt b s)
    (λ _. by_cases P (is_word_start b) (λ _ _. word_spelt (take (run is_word (b ∷ s)) (b ∷ s)))
    (λ _. by_cases P (is_digit b) (λ d. number_spelt b s d) (λ _. tt)))))))

pub lexeme_spelt : (bs : List ℕ) → AsBytesAt bs (lexeme bs)
unfolding lexeme
lexeme_spelt [] = tt
lexeme_spelt (b ∷ s) = go (char_at (b ∷ s))
  where
    go : (c : Char) → AsBytesAt (b ∷ s) (lexeme_at c b s)
    go no_char = tt
    go (char c size) =
        let P = AsBytesAt (b ∷ s) in
        by_cases P (is_blank c) (λ _. tt)
        (λ _. by_cases P (ltb c 128) (λ _. ascii_spelt b s (punctuation b) refl (punctuation_spelt b)) (λ _. tt))

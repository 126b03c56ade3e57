-- A part of a source is good if its spelling, before the end of a line or a space, is read as that part. So are the tokens
-- that are spelt in one way, names and literals.
use Prim.Native.Nat.{ℕ, suc, ◌+◌, ◌-◌, ◌<◌}
use mathlib.Core.Path.{◌≡◌, refl, sym, ap, ◌∙◌}
use mathlib.Core.Bool.{Bool, true, false, ◌&&◌, ◌||◌, not, false≢true}
use mathlib.Core.List.{List, [], ◌∷◌, ◌++◌, append_assoc}
use mathlib.Core.Option.{Option, none, some}
use native.Mathlib.Omega.{arith}
use native.Mathlib.Decide.{dec_lt}
use borrow.Author.Tests.{lt-ltb, ne_eqb, not-true}
use lib.Dec.{eqb, ltb}
use lib.ListN.{length, take, length-append}
use lib.Seq.{take-append_seam, get_or-append_seam}
use Rattle.language.specs.Choice.{if', within}
use Rattle.language.specs.Utf8.{char, char_at, lead_of, follow, Encoded}
use Rattle.language.specs.Lexemes.{Tok, l_paren, r_paren, dot, double_colon, colon, semi_colon, equals, comma, slash, import_keyword, let_keyword, identifier, boolean_literal, ipv4_literal, hex_literal, dec_literal, unexpected_char, Kind, str, tok, error, Lexeme, lexeme_of, is_blank, is_digit, is_word_start, is_word, not_newline, is_body, run, all, word, number, punctuation, ascii, lexeme}
use Rattle.language.specs.Lexemes as lexemes
use Rattle.language.specs.Tokens.{Content, plain, name, string, Piece, body, token, piece_of}
use Rattle.language.specs.Tables.{tok_kind}
use Rattle.language.specs.Canonical.{spell_tok, quoted, spell}
use Rattle.language.proofs.Tests.{both, inside, inside_test, outside_test}
use Rattle.language.proofs.LexemeSizes.{start_is_word, digit_is_word}
use Rattle.language.proofs.SpellingRuns.{and, all_parts, all_append, all_also, run_all, up_to_lem, implied}
use Rattle.language.proofs.CanonicalUtf8.{is_ascii, encoded_append, ascii_encoded}

-- ---- parts

-- a lexeme that is a literal, a name or another token
pub data Part : Type 0 where
  literal : List ℕ → Part
  named : List ℕ → Part
  other : Tok → Part

abbrev pub piece_for : Part → Piece
piece_for (literal b) = body b
piece_for (named bs) = token (name bs)
piece_for (other t) = token (plain t)

abbrev pub content_for : Part → Content
content_for (literal b) = string b []
content_for (named bs) = name bs
content_for (other t) = plain t

-- what ends a token in a canonical text: the end of the line, or a space
pub data Ends : List ℕ → Type 0 where
  end : Ends []
  space : {r : List ℕ} → Ends (32 ∷ r)

-- ASCII, not blank and no control
abbrev pub is_visible : ℕ → Bool
is_visible b = within 33 126 b

pub record Good (p : Part) : Type 0 where
  pub front : ℕ
  pub back : List ℕ
  pub kind : Kind
  pub is : spell (content_for p) ≡ front ∷ back
  pub starts : is_visible front ≡ true
  pub clean : all not_newline (front ∷ back) ≡ true
  pub whole : Encoded (front ∷ back)
  pub piece : piece_of kind (front ∷ back) ≡ piece_for p
  pub reads : (r : List ℕ) → Ends r → lexeme (front ∷ back ++ r) ≡ lexeme_of kind (suc (length back))

-- so no newline, and ASCII
visible_clean : (b : ℕ) → is_visible b ≡ true → not_newline b ≡ true
unfolding not_newline
visible_clean b e = let h = inside 33 126 b e in rw (ne_eqb b 10 (λ z. omega arith))

visible_ascii : (b : ℕ) → is_visible b ≡ true → is_ascii b ≡ true
visible_ascii b e = let h = inside 33 126 b e in lt-ltb b 128 (omega arith)

-- a part that is spelt with visible bytes
pub good_visible : (p : Part) (front : ℕ) (back : List ℕ) (k : Kind) → spell (content_for p) ≡ front ∷ back
    → all is_visible (front ∷ back) ≡ true → piece_of k (front ∷ back) ≡ piece_for p
    → ((r : List ℕ) → Ends r → lexeme (front ∷ back ++ r) ≡ lexeme_of k (suc (length back))) → Good p
good_visible p front back k is a piece reads =
    record {
      front = front;
      back = back;
      kind = k;
      is = is;
      starts = (all_parts is_visible front back a).0;
      clean = all_also is_visible not_newline visible_clean (front ∷ back) a;
      whole = ascii_encoded (front ∷ back) (all_also is_visible is_ascii visible_ascii (front ∷ back) a);
      piece = piece;
      reads = reads;
    }

-- ---- tokens that are spelt in one way

-- what holds of either end
pub by_end : (P : List ℕ → Type 0) → P [] → ((r : List ℕ) → P (32 ∷ r)) → (r : List ℕ) → Ends r → P r
by_end P e s r end = e
by_end P e s r (space {r = q}) = s q

-- punctuation, keywords and booleans, by the number of the kind
abbrev pub is_fixed : Tok → Bool
is_fixed t = ltb (tok_kind t) 13 || eqb (tok_kind t) 14

-- by what is read before either end
fixed : (t : Tok) (front : ℕ) (back : List ℕ) → spell_tok t ≡ front ∷ back → all is_visible (front ∷ back) ≡ true
    → piece_of (tok t) (front ∷ back) ≡ token (plain t)
    → lexeme (front ∷ back ++ []) ≡ lexeme_of (tok t) (suc (length back))
    → ((r : List ℕ) → lexeme (front ∷ back ++ 32 ∷ r) ≡ lexeme_of (tok t) (suc (length back))) → Good (other t)
unfolding spell
fixed t front back is a piece e s =
    good_visible (other t) front back (tok t) is a piece
    (by_end (λ (r : List ℕ). lexeme (front ∷ back ++ r) ≡ lexeme_of (tok t) (suc (length back))) e s)

pub good_fixed : (t : Tok) → is_fixed t ≡ true → Good (other t)
unfolding spell_tok lexeme char_at lead_of follow is_blank punctuation ascii is_word_start is_digit is_word word
good_fixed l_paren e = fixed l_paren 40 [] refl refl refl refl (λ r. refl)
good_fixed r_paren e = fixed r_paren 41 [] refl refl refl refl (λ r. refl)
good_fixed dot e = fixed dot 46 [] refl refl refl refl (λ r. refl)
good_fixed double_colon e = fixed double_colon 58 (58 ∷ []) refl refl refl refl (λ r. refl)
good_fixed colon e = fixed colon 58 [] refl refl refl refl (λ r. refl)
good_fixed semi_colon e = fixed semi_colon 59 [] refl refl refl refl (λ r. refl)
good_fixed equals e = fixed equals 61 [] refl refl refl refl (λ r. refl)
good_fixed comma e = fixed comma 44 [] refl refl refl refl (λ r. refl)
good_fixed slash e = fixed slash 47 [] refl refl refl refl (λ r. refl)
good_fixed import_keyword e = fixed import_keyword 105 (109 ∷ 112 ∷ 111 ∷ 114 ∷ 116 ∷ []) refl refl refl refl (λ r. refl)
good_fixed let_keyword e = fixed let_keyword 108 (101 ∷ 116 ∷ []) refl refl refl refl (λ r. refl)
good_fixed identifier e = absurd (false≢true e)
good_fixed (boolean_literal true) e = fixed (boolean_literal true) 116 (114 ∷ 117 ∷ 101 ∷ []) refl refl refl refl (λ r. refl)
good_fixed (boolean_literal false) e = fixed (boolean_literal false) 102 (97 ∷ 108 ∷ 115 ∷ 101 ∷ []) refl refl refl refl (λ r. refl)
good_fixed (ipv4_literal n) e = absurd (false≢true e)
good_fixed (hex_literal n) e = absurd (false≢true e)
good_fixed (dec_literal n) e = absurd (false≢true e)

-- ---- words and numbers, by their first byte

-- no punctuation
is_none : Option Tok → Bool
is_none none = true
is_none (some t) = false

none_of : (o : Option Tok) → is_none o ≡ true → o ≡ none
unfolding is_none
none_of none e = refl
none_of (some t) e = absurd (false≢true e)

-- none of the tests that come before those of words and numbers
abbrev is_late : ℕ → Bool
is_late b =
    not (is_blank b)
    && (is_none (punctuation b) && (not (eqb b 35) && (not (eqb b 47) && (not (eqb b 58) && not (eqb b 34)))))

-- what is in none of the ranges of letters starts no word
no_start : (b : ℕ) → 0 < (97 - b) + (b - 122) → 0 < (65 - b) + (b - 90) → 0 < (95 - b) + (b - 95) → is_word_start b ≡ false
unfolding is_word_start
no_start b h i j = rw (outside_test 97 122 b h, outside_test 65 90 b i, outside_test 95 95 b j)

-- a byte that a word can have is ASCII
word_low : (b : ℕ) → is_word b ≡ true → b < 128
unfolding is_word is_digit
word_low b e =
    elim (dec_lt b 128) [
      | yes l ↦ l
      | no g ↦
          let n : is_word b ≡ false = rw (no_start b (omega arith) (omega arith) (omega arith), outside_test 48 57 b (omega arith)) in
          absurd (false≢true (sym n ∙ e))
    ]

-- the tests of a byte that a word can have
word_tests : (b : ℕ) → is_word b ≡ true → (is_visible b ≡ true) × (is_late b ≡ true)
unfolding is_none is_word is_word_start is_digit is_blank punctuation
word_tests b e =
    both (is_visible b) (is_late b)
    (implied (is_word b) _ e (up_to_lem (λ n. not (is_word n) || (is_visible n && is_late n)) 128 refl b (word_low b e)))

-- words are visible
pub words_visible : (w : List ℕ) → all is_word w ≡ true → all is_visible w ≡ true
words_visible = all_also is_word is_visible (λ b e. (word_tests b e).0)

-- an ASCII byte is a character
pub ascii_char : (b : ℕ) (s : List ℕ) → b < 128 → char_at (b ∷ s) ≡ char b 1
unfolding char_at lead_of follow
ascii_char b s l = rw (inside_test 0x00 0x7F b (omega arith) (omega arith))

abbrev word_lexeme : List ℕ → Lexeme
word_lexeme s = lexeme_of (tok (word (take (run is_word s) s))) (run is_word s)

-- what it starts
late : (b : ℕ) (s : List ℕ) → is_word b ≡ true
    → lexeme (b ∷ s)
    ≡ if' (is_word_start b) (word_lexeme (b ∷ s)) (if' (is_digit b) (number (b ∷ s)) (lexeme_of (error (unexpected_char b)) 1))
unfolding lexeme ascii
late b s e =
    let t1 = both (not (is_blank b)) _ (word_tests b e).1 in
    let t2 = both (is_none (punctuation b)) _ t1.1 in
    let t3 = both (not (eqb b 35)) _ t2.1 in
    let t4 = both (not (eqb b 47)) _ t3.1 in
    let t5 = both (not (eqb b 58)) _ t4.1 in
    let l = word_low b e in
    rw (
      ascii_char b s l,
      not-true (is_blank b) t1.0,
      lt-ltb b 128 l,
      none_of (punctuation b) t2.0,
      ascii,
      not-true (eqb b 35) t3.0,
      not-true (eqb b 47) t4.0,
      not-true (eqb b 58) t5.0,
      not-true (eqb b 34) t5.1,
    )

-- a letter starts a word, and a digit a number
word_starts : (b : ℕ) (s : List ℕ) → is_word_start b ≡ true → lexeme (b ∷ s) ≡ word_lexeme (b ∷ s)
unfolding is_word
word_starts b s e = late b s (start_is_word b e) ∙ rw e

-- a digit starts no word
digit_no_start : (b : ℕ) → is_digit b ≡ true → is_word_start b ≡ false
unfolding is_digit
digit_no_start b e = let h = inside 48 57 b e in no_start b (omega arith) (omega arith) (omega arith)

pub number_starts : (b : ℕ) (s : List ℕ) → is_digit b ≡ true → lexeme (b ∷ s) ≡ number (b ∷ s)
number_starts b s e = late b s (digit_is_word b e) ∙ rw (digit_no_start b e, e)

-- a run stops at an end
pub ends_run : (p : ℕ → Bool) → p 32 ≡ false → (r : List ℕ) → Ends r → run p r ≡ 0
ends_run p e = by_end (λ (r : List ℕ). run p r ≡ 0) refl (λ r. rw e)

-- a word is read to its end
pub word_run : (w r : List ℕ) → all is_word w ≡ true → Ends r → run is_word (w ++ r) ≡ length w
unfolding is_word is_word_start is_digit
word_run w r a k = run_all is_word w r a (ends_run is_word refl r k)

-- ---- names

pub good_name : (b : ℕ) (w : List ℕ) → is_word_start b ≡ true → all is_word w ≡ true → word (b ∷ w) ≡ identifier → Good (named (b ∷ w))
unfolding spell
good_name b w e h i =
    let a : all is_word (b ∷ w) ≡ true = and {a = is_word b} (start_is_word b e) h in
    good_visible (named (b ∷ w)) b w (tok identifier) refl (words_visible (b ∷ w) a) refl
    (λ r k. word_starts b (w ++ r) e ∙ rw (word_run (b ∷ w) r a k, take-append_seam (b ∷ w) r, i))

-- ---- literals

-- what stands between quotes, and is read to the second
unquotes : (x : List ℕ) → take (length (quoted x) - 2) (x ++ 34 ∷ []) ≡ x
unquotes x = let z : length (quoted x) - 2 ≡ length x = simp length-append (omega arith) in rw (z, take-append_seam)

string_reads : (x r : List ℕ) → all is_body x ≡ true → lexemes.string (x ++ 34 ∷ r) ≡ lexeme_of str (length x + 2)
unfolding lexemes.string is_body
string_reads x r a = rw (run_all is_body x (34 ∷ r) a refl, get_or-append_seam)

body_clean : (b : ℕ) → is_body b ≡ true → not_newline b ≡ true
unfolding is_body not_newline
body_clean b e = (both (not (eqb b 34)) (not (eqb b 10)) e).1

pub good_literal : (x : List ℕ) → all is_body x ≡ true → Encoded x → Good (literal x)
unfolding spell not_newline lexeme char_at lead_of follow is_blank ascii punctuation
good_literal x a v =
    let quote = ascii_encoded (34 ∷ []) refl in
    record {
      front = 34;
      back = x ++ 34 ∷ [];
      kind = str;
      is = refl;
      starts = refl;
      clean = all_append not_newline x (34 ∷ []) (all_also is_body not_newline body_clean x a) refl;
      whole = encoded_append (x ++ 34 ∷ []) quote (encoded_append (34 ∷ []) v quote);
      piece = ap body (unquotes x);
      reads = λ r k. rw append_assoc (string_reads x r a ∙ ap (lexeme_of str) (simp length-append (omega arith)));
    }

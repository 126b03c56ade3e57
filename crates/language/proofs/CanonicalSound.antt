-- What a lexeme is: a gap, an error, or a good part.
use Prim.Native.Nat.{ℕ, zero, suc, ◌+◌, ◌-◌, ◌*◌, ◌<◌}
use mathlib.Core.Path.{◌≡◌, refl, ap, subst, ◌∙◌}
use mathlib.Core.Bool.{true, false, ◌&&◌, not}
use mathlib.Core.List.{List, ◌∷◌, ◌++◌, append_assoc}
use mathlib.Core.Option.{Option, none, some}
use native.Mathlib.Omega.{arith}
use borrow.Author.Tests.{leb-true, eqb-true}
use lib.Dec.{ltb, leb, eqb}
use lib.ListN.{length, get_or, take, drop}
use lib.Seq.{split_at, take-take, length-take-le}
use Rattle.language.specs.Choice.{if'}
use Rattle.language.specs.Integers.{limit}
use Rattle.language.specs.Utf8.{Char, char, no_char, char_at, Encoded}
use Rattle.language.specs.Lexemes.{Tok, l_paren, r_paren, dot, double_colon, colon, semi_colon, equals, comma, slash, import_keyword, let_keyword, boolean_literal, ipv4_literal, hex_literal, dec_literal, LexErrorKind, Kind, Lexeme, is_blank, is_digit, is_word_start, is_word, is_body, run, all, same, import_word, let_word, true_word, false_word, word, Number, value, wrong, read_digits, numbered, starts_hex, starts_zero, integer, octet, Quad, quad, not_quad, joined, further, quad_from, quad_lexeme, number, punctuation, ascii, lexeme_at, lexeme}
use Rattle.language.specs.Lexemes as lexemes
use Rattle.language.specs.Tokens.{plain, Piece, gap, body, token, content_of, unquoted, piece_of}
use Rattle.language.specs.Tokens as tokens
use Rattle.language.proofs.Tests.{by_cases}
use Rattle.language.proofs.LexemeSizes.{stands, start_is_word}
use Rattle.language.proofs.LexemeDigits.{digits_read}
use Rattle.language.proofs.SpellingRuns.{all_run}
use Rattle.language.proofs.CanonicalUtf8.{is_ascii, cut}
use Rattle.language.proofs.CanonicalGood.{Part, literal, named, other, piece_for, Good, is_fixed, good_fixed, good_name, good_literal}
use Rattle.language.proofs.CanonicalNumbers.{good_dec, good_hex, good_quad}

pub data Fine : Piece → Type 0 where
  a_gap : Fine gap
  an_error : (e : LexErrorKind) → Fine (tokens.wrong e)
  a_part : {q : Piece} (p : Part) → q ≡ piece_for p → Good p → Fine q

-- of a lexeme that bytes start with
abbrev pub FineAt : List ℕ → Lexeme → Type 0
FineAt bs l = Fine (piece_of l.kind (take l.size bs))

-- a token, whatever its bytes
abbrev FineTok : Tok → Type 0
FineTok t = (bs : List ℕ) → Fine (token (content_of t bs))

-- a token that is spelt in one way
fixed_fine : (t : Tok) → is_fixed t ≡ true → Fine (token (plain t))
fixed_fine t e = a_part (other t) refl (good_fixed t e)

-- ---- numbers

-- a number below m, or none
abbrev Under : ℕ → Option ℕ → Type 0
Under m none = Unit {0}
Under m (some n) = n < m

abbrev UnderQuad : ℕ → Quad → Type 0
UnderQuad m (quad n a) = Under m a
UnderQuad m not_quad = Unit {0}

-- a number of a quad, and one more after an address so far
octet_under : (ds : List ℕ) → Under 256 (octet ds)
unfolding octet
octet_under ds = by_cases (Under 256) (leb (length ds) 3 && not (starts_zero ds)) (λ _. go (read_digits 10 0 ds)) (λ _. tt)
  where
    go : (r : Number) → Under 256 (elim r [ value n ↦ if' (leb n 255) (some n) none | wrong e ↦ none ])
    go (value n) = by_cases (Under 256) (leb n 255) (λ e. let l = leb-true n 255 e in omega arith) (λ _. tt)
    go (wrong e) = tt

joined_under : (m : ℕ) (a : Option ℕ) (ds : List ℕ) → Under m a → Under (m * 256) (joined a (octet ds))
joined_under m a ds h = go a (octet ds) h (octet_under ds)
  where
    go : (a o : Option ℕ) → Under m a → Under 256 o → Under (m * 256) (joined a o)
    go none o h k = tt
    go (some a) none h k = tt
    go (some a) (some n) h k = omega arith

-- bytes before a quad
further_under : (m n : ℕ) (q : Quad) → UnderQuad m q → UnderQuad m (further n q)
further_under m n (quad k a) h = h
further_under m n not_quad h = h

-- the bound of an address, after numbers that give one below m
abbrev scaled : ℕ → ℕ → ℕ
scaled zero m = m * 256
scaled (suc dots) m = scaled dots (m * 256)

-- an address is below its bound
quad_under : (dots m : ℕ) (a : Option ℕ) (s : List ℕ) → Under m a → UnderQuad (scaled dots m) (quad_from dots a s)
unfolding quad_from
quad_under zero m a s h =
    let n = run is_digit s in
    by_cases (UnderQuad (m * 256)) (eqb n 0) (λ _. tt) (λ _. joined_under m a (take n s) h)
quad_under (suc dots) m a s h =
    let n = run is_digit s in
    let o = joined a (octet (take n s)) in
    let r = drop (suc n) s in
    let P = UnderQuad (scaled dots (m * 256)) in
    by_cases P (eqb n 0) (λ _. tt)
    (λ _. by_cases P (eqb (get_or s n 0) 46)
    (λ _. further_under _ (suc n) (quad_from dots o r) (quad_under dots (m * 256) o r (joined_under m a (take n s) h)))
    (λ _. tt))

-- the token of a number below the limit is fine
numbered_fine : (f : ℕ → Tok) → ((n : ℕ) → n < limit → FineTok (f n)) → (base : ℕ) → 1 < base → (ds bs : List ℕ)
    → Fine (piece_of (numbered f (read_digits base 0 ds)) bs)
numbered_fine f g base two ds bs = go (read_digits base 0 ds) refl
  where
    go : (r : Number) → read_digits base 0 ds ≡ r → Fine (piece_of (numbered f r) bs)
    go (value n) e = g n ((digits_read base two ds n).0 e).2 bs
    go (wrong x) e = an_error x

-- hexadecimal, or decimal
integer_fine : (w bs : List ℕ) → Fine (piece_of (integer w) bs)
unfolding integer
integer_fine w bs =
    by_cases (λ (k : Kind). Fine (piece_of k bs)) (starts_hex w)
    (λ _. numbered_fine hex_literal (λ n l x. a_part (other (hex_literal n)) refl (good_hex n l)) 16 (omega arith) (drop 2 w) bs)
    (λ _. by_cases (λ (k : Kind). Fine (piece_of k bs)) (starts_zero w) (λ _. an_error _)
    (λ _. numbered_fine dec_literal (λ n l x. a_part (other (dec_literal n)) refl (good_dec n l)) 10 (omega arith) w bs))

-- what starts with a digit
number_fine : (s : List ℕ) → FineAt s (number s)
unfolding number
number_fine s = go (quad_from 3 (some 0) s) refl (quad_under 3 1 (some 0) s (omega arith))
  where
    quad_fine : (n : ℕ) (a : Option ℕ) (more : ℕ) → Under (scaled 3 1) a → FineAt s (quad_lexeme n a more)
    quad_fine n (some a) zero h = a_part (other (ipv4_literal a)) refl (good_quad a h)
    quad_fine n (some a) (suc more) h = an_error _
    quad_fine n none more h = an_error _

    go : (q : Quad) → quad_from 3 (some 0) s ≡ q → UnderQuad (scaled 3 1) q → FineAt s (number s)
    go (quad n a) e h = rw (e, number) (quad_fine n a (run is_word (drop n s)) h)
    go not_quad e h = rw (e, number) (integer_fine _ _)

-- ---- words

-- one of the reserved words, or a name
word_fine : (b : ℕ) (w : List ℕ) → is_word_start b ≡ true → all is_word w ≡ true → Fine (token (content_of (word (b ∷ w)) (b ∷ w)))
unfolding word
word_fine b w e a =
    let v = b ∷ w in
    let P : Tok → Type 0 = λ t. Fine (token (content_of t v)) in
    by_cases P (same v import_word) (λ _. fixed_fine import_keyword refl)
    (λ h. by_cases P (same v let_word) (λ _. fixed_fine let_keyword refl)
    (λ i. by_cases P (same v true_word) (λ _. fixed_fine (boolean_literal true) refl)
    (λ j. by_cases P (same v false_word) (λ _. fixed_fine (boolean_literal false) refl)
    (λ k. a_part (named v) refl (good_name b w e a (rw (h, i, j, k)))))))

-- ---- literals

module _ (b : ℕ) (s : List ℕ) (n : ℕ) (l : n < length s) where
  -- what stands between the quotes
  unquotes : unquoted (take (n + 2) (b ∷ s)) ≡ take n s
  unquotes =
      let t : n + 2 ≡ suc (suc n) = omega arith in
      let z : suc (length (take (suc n) s)) - 2 ≡ n = omega (arith, length-take-le (suc n) s l) in
      rw (t, z) (take-take n (suc n) s (omega arith))

  -- and is encoded
  encoded_body : (p q : List ℕ) → is_ascii b ≡ true → get_or s n 0 ≡ 34 → Encoded (p ++ (b ∷ (s ++ q))) → Encoded (take n s)
  encoded_body p q e f w =
      let r = drop (suc n) s in
      let j : s ≡ take n s ++ 34 ∷ r = split_at s n 0 l ∙ ap (λ (c : ℕ). take n s ++ c ∷ r) f in
      let k : s ++ q ≡ take n s ++ 34 ∷ (r ++ q) = ap (λ (x : List ℕ). x ++ q) j ∙ append_assoc (take n s) (34 ∷ r) q in
      (cut (take n s) 34 (r ++ q) refl (subst Encoded k (cut p b (s ++ q) e w).1)).0

-- what a quote starts, before the rest s of its line and q after it
string_fine : (b : ℕ) (s p q : List ℕ) → is_ascii b ≡ true → Encoded (p ++ (b ∷ (s ++ q))) → FineAt (b ∷ s) (lexemes.string s)
unfolding lexemes.string
string_fine b s p q e w =
    let n = run is_body s in
    by_cases (FineAt (b ∷ s)) (eqb (get_or s n 0) 34)
    (λ h.
    let f = eqb-true (get_or s n 0) 34 h in
    let l = stands s n 34 refl h in
    let v = encoded_body b s n l p q e f w in
    a_part (literal (take n s)) (ap body (unquotes b s n l)) (good_literal (take n s) (all_run is_body s) v))
    (λ _. an_error _)

-- ---- every lexeme

abbrev FineOption : Option Tok → Type 0
FineOption none = Unit {0}
FineOption (some t) = FineTok t

-- a byte that is a token
punctuation_fine : (b : ℕ) → FineOption (punctuation b)
unfolding punctuation
punctuation_fine b =
    by_cases FineOption (eqb b 40) (λ _ bs. fixed_fine l_paren refl)
    (λ _. by_cases FineOption (eqb b 41) (λ _ bs. fixed_fine r_paren refl)
    (λ _. by_cases FineOption (eqb b 46) (λ _ bs. fixed_fine dot refl)
    (λ _. by_cases FineOption (eqb b 59) (λ _ bs. fixed_fine semi_colon refl)
    (λ _. by_cases FineOption (eqb b 61) (λ _ bs. fixed_fine equals refl)
    (λ _. by_cases FineOption (eqb b 44) (λ _ bs. fixed_fine comma refl) (λ _. tt))))))

module _ (b : ℕ) (s p q : List ℕ) (w : Encoded (p ++ (b ∷ (s ++ q)))) where
  -- what an ASCII character starts
  ascii_fine : (o : Option Tok) → punctuation b ≡ o → FineOption o → FineAt (b ∷ s) (ascii b s)
  unfolding ascii
  ascii_fine (some t) e h = rw (e, ascii) (h _)
  ascii_fine none e h =
      let P = FineAt (b ∷ s) in
      rw (e, ascii)
      (by_cases P (eqb b 35) (λ _. a_gap)
      (λ _. by_cases P (eqb b 47)
      (λ _. by_cases P (eqb (get_or s 0 0) 47) (λ _. a_gap) (λ _. fixed_fine slash refl))
      (λ _. by_cases P (eqb b 58)
      (λ _. by_cases P (eqb (get_or s 0 0) 58) (λ _. fixed_fine double_colon refl)
      (λ _. fixed_fine colon refl))
      (λ _. by_cases P (eqb b 34) (λ t. string_fine b s p q (ap is_ascii (eqb-true b 34 t)) w)
      (λ _. by_cases P (is_word_start b) (λ t. rw (start_is_word b t) (word_fine b (take (run is_word s) s) t (all_run is_word s)))
      (λ _. by_cases P (is_digit b) (λ _. number_fine (b ∷ s))
      (λ _. an_error _)))))))

  -- a lexeme of a line, the bytes of which stand in an encoded text
  pub lexeme_fine : FineAt (b ∷ s) (lexeme (b ∷ s))
  unfolding lexeme
  lexeme_fine = go (char_at (b ∷ s))
    where
      go : (c : Char) → FineAt (b ∷ s) (lexeme_at c b s)
      go no_char = an_error _
      go (char c size) =
          by_cases (FineAt (b ∷ s)) (is_blank c) (λ _. a_gap)
          (λ _. by_cases (FineAt (b ∷ s)) (ltb c 128) (λ _. ascii_fine (punctuation b) refl (punctuation_fine b)) (λ _. an_error _))

-- Numbers and addresses are good parts, each below its bound.
use Prim.Native.Nat.{ℕ, ◌/◌, ◌%◌, ◌<◌}
use mathlib.Core.Path.{◌≡◌, refl, ap, ◌∙◌}
use mathlib.Core.Bool.{Bool, true, false, ◌&&◌, false≢true}
use mathlib.Core.List.{List, [], ◌∷◌, ◌++◌, append_assoc}
use mathlib.Core.Option.{some}
use native.Mathlib.Omega.{arith}
use lib.Dec.{ltb, eqb}
use lib.ListN.{length, get_or, get_or-append}
use lib.Seq.{take-append_seam, drop-append_seam}
use Rattle.language.specs.Integers.{limit, decimal, hexadecimal}
use Rattle.language.specs.Lexemes.{Tok, ipv4_literal, hex_literal, dec_literal, Kind, tok, lexeme_of, is_digit, is_word_start, is_word, all, digit_of, starts_hex, starts_zero, integer, not_quad, quad_from, number}
use Rattle.language.specs.Tokens.{plain, token, piece_of}
use Rattle.language.specs.Canonical.{spell_digits, spell_quad, spell_tok, spell}
use Rattle.language.proofs.LexemeSizes.{digit_is_word}
use Rattle.language.proofs.Integers.{Right, right, hex_room}
use Rattle.language.proofs.SpellingRuns.{all_parts, all_append, all_also}
use Rattle.language.proofs.SpellingDigits.{all_spelt, length_spelt, spelt_read, Decimal, decimal_spelt, byte_spelt}
use Rattle.language.proofs.SpellingQuads.{quad_none, quad_spelt}
use Rattle.language.proofs.CanonicalGood.{other, Ends, is_visible, Good, good_visible, by_end, number_starts, ends_run, word_run, words_visible}

-- a token that is spelt with a digit first
good_number : (t : Tok) (w : List ℕ) → spell_tok t ≡ w → all is_visible w ≡ true → is_digit (get_or w 0 0) ≡ true
    → piece_of (tok t) w ≡ token (plain t) → ((r : List ℕ) → Ends r → number (w ++ r) ≡ lexeme_of (tok t) (length w)) → Good (other t)
unfolding spell is_digit
good_number t [] is a d piece reads = absurd (false≢true d)
good_number t (b ∷ w) is a d piece reads =
    good_visible (other t) b w (tok t) is a piece (λ r k. number_starts b (w ++ r) d ∙ reads r k)

-- the first byte of a list that is not empty
first_byte : (p : ℕ → Bool) (w : List ℕ) → 0 < length w → all p w ≡ true → p (get_or w 0 0) ≡ true
first_byte p [] l a = absurd (omega arith)
first_byte p (b ∷ w) l a = (all_parts p b w a).0

-- digits are word characters
digits_word : (w : List ℕ) → all is_digit w ≡ true → all is_word w ≡ true
digits_word = all_also is_digit is_word digit_is_word

-- a word that is no quad is an integer
number_word : (w r : List ℕ) → all is_word w ≡ true → Ends r → quad_from 3 (some 0) (w ++ r) ≡ not_quad
    → number (w ++ r) ≡ lexeme_of (integer w) (length w)
unfolding number
number_word w r a k e = rw (e, number, word_run w r a k, take-append_seam)

-- ---- decimals

-- no dot ends one
no_dot : (r : List ℕ) → Ends r → eqb (get_or r 0 0) 46 ≡ false
no_dot = by_end (λ (r : List ℕ). eqb (get_or r 0 0) 46 ≡ false) refl (λ r. refl)

-- the bytes of a decimal are no quad, no hexadecimal, and have no leading zero
dec_reads : (n : ℕ) (w r : List ℕ) → Decimal n w → Ends r → number (w ++ r) ≡ lexeme_of (tok (dec_literal n)) (length w)
unfolding integer starts_hex starts_zero is_digit
dec_reads n w r c k =
    let x = c.no_zero (λ v. eqb (get_or v 1 0) 120 && ltb (digit_of (get_or v 2 0)) 16) refl in
    let z = c.no_zero (λ v. is_digit (get_or v 1 0)) refl in
    let q = quad_none (some 0) w c.some_digit c.digits 2 r (ends_run is_digit refl r k) (no_dot r k) in
    number_word w r (digits_word w c.digits) k q ∙ rw (x, z, c.read)

pub good_dec : (n : ℕ) → n < limit → Good (other (dec_literal n))
unfolding spell_tok
good_dec n l =
    let c = decimal_spelt n l in
    let w = spell_digits (decimal n) in
    let d = first_byte is_digit w c.some_digit c.digits in
    good_number (dec_literal n) w refl (words_visible w (digits_word w c.digits)) d refl (λ r k. dec_reads n w r c k)

-- ---- hexadecimals

-- the digits, and their bytes
hex_right : (n : ℕ) → n < limit → Right 16 32 n (hexadecimal n)
unfolding hexadecimal
hex_right n l = right 16 (omega arith) 31 n (hex_room n l)

hex_word : (n : ℕ) → n < limit → all is_word (spell_digits (hexadecimal n)) ≡ true
unfolding is_word is_word_start is_digit
hex_word n l = all_spelt is_word 16 refl (hexadecimal n) (hex_right n l).small

-- one stands after `0x`
hex_first : (n : ℕ) → n < limit → ltb (digit_of (get_or (spell_digits (hexadecimal n)) 0 0)) 16 ≡ true
unfolding digit_of
hex_first n l =
    let ds = hexadecimal n in
    first_byte (λ b. ltb (digit_of b) 16) (spell_digits ds) (rw length_spelt (hex_right n l).some_digit)
    (all_spelt (λ b. ltb (digit_of b) 16) 16 refl ds (hex_right n l).small)

hex_integer : (n : ℕ) → n < limit → integer (48 ∷ 120 ∷ spell_digits (hexadecimal n)) ≡ tok (hex_literal n)
unfolding integer starts_hex
hex_integer n l = rw (hex_first n l, spelt_read 16 (omega arith) (omega arith) (hex_right n l) l)

pub good_hex : (n : ℕ) → n < limit → Good (other (hex_literal n))
unfolding spell_tok is_digit is_word is_word_start quad_from
good_hex n l =
    let w : List ℕ = 48 ∷ 120 ∷ spell_digits (hexadecimal n) in
    let a : all is_word w ≡ true = hex_word n l in
    good_number (hex_literal n) w refl (words_visible w a) refl refl
    (λ r k. number_word w r a k refl ∙ ap (λ (x : Kind). lexeme_of x (length w)) (hex_integer n l))

-- ---- addresses

-- the numbers of an address are visible
byte_visible : (m : ℕ) → m < 256 → all is_visible (spell_digits (decimal m)) ≡ true
byte_visible m l = let w = spell_digits (decimal m) in words_visible w (digits_word w (byte_spelt m l).digits)

-- a dot and a number more
dotted : (v : List ℕ) (m : ℕ) → m < 256 → all is_visible v ≡ true → all is_visible (v ++ 46 ∷ spell_digits (decimal m)) ≡ true
dotted v m l a = all_append is_visible v (46 ∷ spell_digits (decimal m)) a (byte_visible m l)

quad_visible : (n : ℕ) → all is_visible (spell_quad n) ≡ true
quad_visible n =
    let v1 = spell_digits (decimal (n / 0x1000000 % 0x100)) in
    let v2 = v1 ++ 46 ∷ spell_digits (decimal (n / 0x10000 % 0x100)) in
    let v3 = v2 ++ 46 ∷ spell_digits (decimal (n / 0x100 % 0x100)) in
    dotted v3 (n % 0x100) (omega arith)
    (dotted v2 (n / 0x100 % 0x100) (omega arith)
    (dotted v1 (n / 0x10000 % 0x100) (omega arith) (byte_visible (n / 0x1000000 % 0x100) (omega arith))))

-- its first byte is a digit
byte_first : (m : ℕ) → m < 256 → (v : List ℕ) → is_digit (get_or (spell_digits (decimal m) ++ v) 0 0) ≡ true
byte_first m l v =
    let c = byte_spelt m l in
    let w = spell_digits (decimal m) in
    rw (get_or-append w v 0 0 c.some_digit) (first_byte is_digit w c.some_digit c.digits)

quad_first : (n : ℕ) → is_digit (get_or (spell_quad n) 0 0) ≡ true
quad_first n = simp append_assoc (byte_first (n / 0x1000000 % 0x100) (omega arith) _)

pub good_quad : (n : ℕ) → n < 0x100000000 → Good (other (ipv4_literal n))
unfolding spell_tok number is_digit is_word is_word_start
good_quad n l =
    good_number (ipv4_literal n) (spell_quad n) refl (quad_visible n) (quad_first n) refl
    (λ r k. rw (quad_spelt n r l (ends_run is_digit refl r k), number, drop-append_seam, ends_run is_word refl r k))

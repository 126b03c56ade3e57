-- What stands at a place of a line (01, "Lexemes"). Everything is said of the rest of the line from that place on: the
-- lexeme that starts there, and how many bytes it takes.
use Rattle.std.specs.Prelude.{ℕ, zero, suc, ◌+◌, ◌-◌, ◌*◌, ◌≤◌, ◌<◌, ◌≡◌, Bool, true, false, ◌&&◌, ◌||◌, not, leb, ltb, eqb, length, get_or, take, drop}
use mathlib.Core.List.{List, [], ◌∷◌, ◌++◌, map, Memᴰ}
use Rattle.std.proofs.Math.Option.{Option, none, some}
use Rattle.language.specs.Choice.{if', within}
use Rattle.language.specs.Integers.{limit, value_of}
use Rattle.language.specs.Utf8.{Range, to, Char, char, no_char, char_at}

-- ---- the names of lex.rs

pub data Tok : Type 0 where
  l_paren : Tok
  r_paren : Tok
  dot : Tok
  double_colon : Tok
  colon : Tok
  semi_colon : Tok
  equals : Tok
  comma : Tok
  slash : Tok
  import_keyword : Tok
  let_keyword : Tok
  -- its bytes are its span
  identifier : Tok
  boolean_literal : Bool → Tok
  -- the address as one number of 32 bits
  ipv4_literal : ℕ → Tok
  hex_literal : ℕ → Tok
  dec_literal : ℕ → Tok

pub data LexErrorKind : Type 0 where
  unexpected_char : ℕ → LexErrorKind
  unterminated_string : LexErrorKind
  int_out_of_range : LexErrorKind
  int_leading_zero : LexErrorKind
  int_invalid_suffix : LexErrorKind
  bad_ipv4_literal : LexErrorKind

-- "each is trivia, a token, a string literal or an error"
pub data Kind : Type 0 where
  trivia : Kind
  str : Kind
  tok : Tok → Kind
  error : LexErrorKind → Kind

pub record Lexeme : Type 0 where
  pub kind : Kind
  pub size : ℕ

abbrev pub lexeme_of : Kind → ℕ → Lexeme
lexeme_of k n = record { kind = k; size = n }

-- ---- characters

abbrev pub in_one : List Range → ℕ → Bool
in_one [] n = false
in_one (r ∷ rs) n = within r.low r.high n || in_one rs n

-- "Blank: U+0009 to 000D without 000A, 0020, 0085, 00A0, 1680, 2000 to 200A, 2028, 2029, 202F, 205F, 3000"
abbrev pub blanks : List Range
blanks =
    to 0x09 0x09 ∷ to 0x0B 0x0D ∷ to 0x20 0x20 ∷ to 0x85 0x85 ∷ to 0xA0 0xA0 ∷ to 0x1680 0x1680 ∷ to 0x2000 0x200A
    ∷ to 0x2028 0x2029 ∷ to 0x202F 0x202F ∷ to 0x205F 0x205F ∷ to 0x3000 0x3000 ∷ []

unfoldable pub is_blank : ℕ → Bool
is_blank n = in_one blanks n

unfoldable pub is_digit : ℕ → Bool
is_digit b = within 48 57 b

-- "ASCII letter or `_`"
unfoldable pub is_word_start : ℕ → Bool
is_word_start b = in_one (to 97 122 ∷ to 65 90 ∷ to 95 95 ∷ []) b

-- "then letters, digits, `_`"
unfoldable pub is_word : ℕ → Bool
is_word b = is_word_start b || is_digit b

unfoldable pub not_newline : ℕ → Bool
not_newline b = not (eqb b 10)

-- "A string body ends before `"` or byte 10"
unfoldable pub is_body : ℕ → Bool
is_body b = not (eqb b 34) && not (eqb b 10)

-- how many bytes with p a list begins with
abbrev pub run : (ℕ → Bool) → List ℕ → ℕ
run p [] = 0
run p (b ∷ s) = if' (p b) (suc (run p s)) 0

-- how many bytes of blank characters a list begins with, after `skip` bytes of one that began before
unfoldable pub blank_run : ℕ → List ℕ → ℕ
blank_run skip [] = 0
blank_run (suc skip) (b ∷ s) = suc (blank_run skip s)
blank_run zero (b ∷ s) = elim (char_at (b ∷ s)) [ char n size ↦ if' (is_blank n) (suc (blank_run (size - 1) s)) 0 | no_char ↦ 0 ]

-- ---- words

abbrev pub same : List ℕ → List ℕ → Bool
same [] [] = true
same [] (y ∷ ys) = false
same (x ∷ xs) [] = false
same (x ∷ xs) (y ∷ ys) = eqb x y && same xs ys

abbrev pub import_word : List ℕ
import_word = 105 ∷ 109 ∷ 112 ∷ 111 ∷ 114 ∷ 116 ∷ []

abbrev pub let_word : List ℕ
let_word = 108 ∷ 101 ∷ 116 ∷ []

abbrev pub true_word : List ℕ
true_word = 116 ∷ 114 ∷ 117 ∷ 101 ∷ []

abbrev pub false_word : List ℕ
false_word = 102 ∷ 97 ∷ 108 ∷ 115 ∷ 101 ∷ []

-- "`import`, `let`, `true`, `false` are reserved"
unfoldable pub word : List ℕ → Tok
word w =
    if' (same w import_word) import_keyword
    (if' (same w let_word) let_keyword
    (if' (same w true_word) (boolean_literal true)
    (if' (same w false_word) (boolean_literal false) identifier)))

-- ---- numbers

-- what a digit stands for, 16 where a byte is no digit of any base
unfoldable pub digit_of : ℕ → ℕ
digit_of b = if' (within 48 57 b) (b - 48) (if' (within 97 102 b) (b - 87) (if' (within 65 70 b) (b - 55) 16))

pub data Number : Type 0 where
  value : ℕ → Number
  wrong : LexErrorKind → Number

-- "Digits are read left to right. At each character a non-digit gives `IntInvalidSuffix`, and is tested before a value
-- of 2^127 or more gives `IntOutOfRange`": after digits that give v
unfoldable pub read_digits : ℕ → ℕ → List ℕ → Number
read_digits base v [] = value v
read_digits base v (b ∷ s) =
    if' (ltb (digit_of b) base)
    (if' (ltb (v * base + digit_of b) limit) (read_digits base (v * base + digit_of b) s) (wrong int_out_of_range))
    (wrong int_invalid_suffix)

abbrev pub numbered : (ℕ → Tok) → Number → Kind
numbered f (value n) = tok (f n)
numbered f (wrong e) = error e

-- "`0x` and a hex digit first"
unfoldable pub starts_hex : List ℕ → Bool
starts_hex s = eqb (get_or s 0 0) 48 && (eqb (get_or s 1 0) 120 && ltb (digit_of (get_or s 2 0)) 16)

-- "`0` and another digit first"
unfoldable pub starts_zero : List ℕ → Bool
starts_zero s = eqb (get_or s 0 0) 48 && is_digit (get_or s 1 0)

-- the integer that a word is: "hexadecimal. Else decimal"
unfoldable pub integer : List ℕ → Kind
integer w =
    if' (starts_hex w) (numbered hex_literal (read_digits 16 0 (drop 2 w)))
    (if' (starts_zero w) (error int_leading_zero)
    (numbered dec_literal (read_digits 10 0 w)))

-- a number of a quad: "0 to 255, each at most three digits and without a leading zero unless it is `0`"
unfoldable pub octet : List ℕ → Option ℕ
octet ds =
    if' (leb (length ds) 3 && not (starts_zero ds))
    (elim (read_digits 10 0 ds) [ value n ↦ if' (leb n 255) (some n) none | wrong e ↦ none ]) none

-- digits with dots between: how many bytes, and the address so far, where its numbers are right
pub data Quad : Type 0 where
  quad : ℕ → Option ℕ → Quad
  not_quad : Quad

abbrev pub joined : Option ℕ → Option ℕ → Option ℕ
joined none o = none
joined (some a) none = none
joined (some a) (some n) = some (a * 256 + n)

abbrev pub further : ℕ → Quad → Quad
further n (quad m a) = quad (n + m) a
further n not_quad = not_quad

-- "digits, then three times a dot with digits": `dots` more of them, after numbers that give the address a
unfoldable pub quad_from : ℕ → Option ℕ → List ℕ → Quad
quad_from zero a s =
    let n = run is_digit s in
    if' (eqb n 0) not_quad (quad n (joined a (octet (take n s))))
quad_from (suc dots) a s =
    let n = run is_digit s in
    if' (eqb n 0) not_quad
    (if' (eqb (get_or s n 0) 46) (further (suc n) (quad_from dots (joined a (octet (take n s))) (drop (suc n) s))) not_quad)

-- a quad of n bytes, and the word characters after it: right where there are none
abbrev pub quad_lexeme : ℕ → Option ℕ → ℕ → Lexeme
quad_lexeme n (some a) zero = lexeme_of (tok (ipv4_literal a)) n
quad_lexeme n (some a) (suc more) = lexeme_of (error bad_ipv4_literal) (n + suc more)
quad_lexeme n none more = lexeme_of (error bad_ipv4_literal) (n + more)

-- what starts with a digit: a quad, "otherwise go back to the start. Then take all word characters"
unfoldable pub number : List ℕ → Lexeme
number s =
    elim (quad_from 3 (some 0) s) [
      | quad n a ↦ quad_lexeme n a (run is_word (drop n s))
      | not_quad ↦ lexeme_of (integer (take (run is_word s) s)) (run is_word s)
    ]

-- ---- strings and comments

-- after a quote: the body, and a quote where there is one
unfoldable pub string : List ℕ → Lexeme
string s =
    let n = run is_body s in
    if' (eqb (get_or s n 0) 34) (lexeme_of str (n + 2)) (lexeme_of (error unterminated_string) (n + 1))

-- "run to before byte 10 or the end": a comment that starts with n bytes
abbrev pub comment : ℕ → List ℕ → Lexeme
comment n s = lexeme_of trivia (n + run not_newline s)

-- ---- the lexeme

-- `(` `)` `.` `;` `=` `,`
unfoldable pub punctuation : ℕ → Option Tok
punctuation b =
    if' (eqb b 40) (some l_paren)
    (if' (eqb b 41) (some r_paren)
    (if' (eqb b 46) (some dot)
    (if' (eqb b 59) (some semi_colon)
    (if' (eqb b 61) (some equals)
    (if' (eqb b 44) (some comma) none)))))

-- what starts with an ASCII character that is not blank: its byte b, and the rest s after it
unfoldable pub ascii : ℕ → List ℕ → Lexeme
ascii b s =
    elim (punctuation b) [
      | some t ↦ lexeme_of (tok t) 1
      | none ↦
          if' (eqb b 35) (comment 1 s)
          (if' (eqb b 47) (if' (eqb (get_or s 0 0) 47) (comment 1 s) (lexeme_of (tok slash) 1))
          (if' (eqb b 58) (if' (eqb (get_or s 0 0) 58) (lexeme_of (tok double_colon) 2) (lexeme_of (tok colon) 1))
          (if' (eqb b 34) (string s)
          (if' (is_word_start b) (lexeme_of (tok (word (take (run is_word (b ∷ s)) (b ∷ s)))) (run is_word (b ∷ s)))
          (if' (is_digit b) (number (b ∷ s))
          (lexeme_of (error (unexpected_char b)) 1))))))
    ]

-- what starts with the character c of `size` bytes: "any other character is `UnexpectedChar`, one character long"
abbrev pub lexeme_at : Char → ℕ → List ℕ → Lexeme
lexeme_at (char c size) b s =
    if' (is_blank c) (lexeme_of trivia (blank_run 0 (b ∷ s)))
    (if' (ltb c 128) (ascii b s) (lexeme_of (error (unexpected_char c)) size))
-- never met in a call: number 2 goes first
lexeme_at no_char b s = lexeme_of (error (unexpected_char b)) 1

-- the lexeme that the rest of a line starts with; an empty rest has none
unfoldable pub lexeme : List ℕ → Lexeme
lexeme [] = lexeme_of trivia 0
lexeme (b ∷ s) = lexeme_at (char_at (b ∷ s)) b s

-- ---- a line

pub record Placed : Type 0 where
  pub start : ℕ
  pub end : ℕ
  pub kind : Kind

abbrev pub placed : ℕ → Lexeme → Placed
placed at l = record { start = at; end = at + l.size; kind = l.kind }

-- the lexemes of a line, one after the other. `skip` bytes are left of one that began before, and `at` is the place of
-- the first byte.
unfoldable pub scan_from : ℕ → ℕ → List ℕ → List Placed
scan_from skip at [] = []
scan_from (suc skip) at (b ∷ s) = scan_from skip (suc at) s
scan_from zero at (b ∷ s) = placed at (lexeme (b ∷ s)) ∷ scan_from ((lexeme (b ∷ s)).size - 1) (suc at) s

abbrev pub scan : List ℕ → List Placed
scan line = scan_from 0 0 line

-- ---- the claims

-- each lexeme has a byte at least, and ends within the line
abbrev pub SizeFits : Type 0
SizeFits = (b : ℕ) (s : List ℕ) → (0 < (lexeme (b ∷ s)).size) × ((lexeme (b ∷ s)).size ≤ length (b ∷ s))

-- spans one after the other from `at` to e, none empty
pub data Join : ℕ → ℕ → List Placed → Type 0 where
  joined_none : {at : ℕ} → Join at at []
  joined_one : {e : ℕ} {ps : List Placed} (p : Placed) → p.start < p.end → Join p.end e ps → Join p.start e (p ∷ ps)

-- "Non-empty spans, joined in order, give the line", "within as many steps as the line has bytes"
abbrev pub SpansJoin : Type 0
SpansJoin = (line : List ℕ) → Join 0 (length line) (scan line) × (length (scan line) ≤ length line)

-- each lexeme of a line is the one that its rule gives at its start
abbrev pub EachByItsRule : Type 0
EachByItsRule =
    (line : List ℕ) (p : Placed) → Memᴰ p (scan line)
    → (p.start < length line) × (p ≡ placed p.start (lexeme (drop p.start line)))

-- the equations that a reader expects: no lexeme of nothing; else the first, and then those of what is left
abbrev pub ScanUnfolds : Type 0
ScanUnfolds =
    (at : ℕ) → (scan_from 0 at [] ≡ [])
    × ((b : ℕ) (s : List ℕ)
    → scan_from 0 at (b ∷ s)
    ≡ placed at (lexeme (b ∷ s)) ∷ scan_from 0 (at + (lexeme (b ∷ s)).size) (drop (lexeme (b ∷ s)).size (b ∷ s)))

abbrev pub all : (ℕ → Bool) → List ℕ → Bool
all p [] = true
all p (b ∷ s) = p b && all p s

-- bytes that are digits of a base, and the value that they have in plain positional notation
abbrev pub are_digits : ℕ → List ℕ → Bool
are_digits base bs = all (λ b. ltb (digit_of b) base) bs

abbrev pub positional : ℕ → List ℕ → ℕ
positional base bs = value_of base (map digit_of bs)

-- a number is read exactly where all are digits and their value is below 2^127, and it is that value
abbrev pub DigitsRead : Type 0
DigitsRead =
    (base : ℕ) → 1 < base → (bs : List ℕ) (n : ℕ)
    → (read_digits base 0 bs ≡ value n → (are_digits base bs ≡ true) × (positional base bs ≡ n) × (n < limit))
    × (are_digits base bs ≡ true → positional base bs ≡ n → n < limit → read_digits base 0 bs ≡ value n)

-- what stands before the first byte that decides: digits whose value is below 2^127
abbrev pub Before : ℕ → List ℕ → Type 0
Before base p = (are_digits base p ≡ true) × (positional base p < limit)

-- `IntInvalidSuffix` exactly where the byte after them is no digit
abbrev pub SuffixFound : Type 0
SuffixFound =
    (base : ℕ) → 1 < base
    → ((bs : List ℕ) → read_digits base 0 bs ≡ wrong int_invalid_suffix
    → (p : List ℕ) × (b : ℕ) × (q : List ℕ) × (bs ≡ p ++ b ∷ q) × Before base p × (base ≤ digit_of b))
    × ((p : List ℕ) (b : ℕ) (q : List ℕ) → Before base p → base ≤ digit_of b → read_digits base 0 (p ++ b ∷ q) ≡ wrong int_invalid_suffix)

-- `IntOutOfRange` exactly where it is one, and with it the value is 2^127 or more
abbrev pub RangeFound : Type 0
RangeFound =
    (base : ℕ) → 1 < base
    → ((bs : List ℕ) → read_digits base 0 bs ≡ wrong int_out_of_range
    → (p : List ℕ) × (b : ℕ) × (q : List ℕ) × (bs ≡ p ++ b ∷ q) × Before base p × (digit_of b < base) × (limit ≤ positional base (p ++ b ∷ [])))
    × ((p : List ℕ) (b : ℕ) (q : List ℕ) → Before base p → digit_of b < base → limit ≤ positional base (p ++ b ∷ [])
    → read_digits base 0 (p ++ b ∷ q) ≡ wrong int_out_of_range)

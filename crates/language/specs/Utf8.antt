-- UTF-8 as RFC 3629 has it. Section 3 gives the bytes of each character number, section 4 the grammar of the bytes;
-- `char_at` reads the first character of a list of bytes. The claims below say that all three are the same thing.
use Rattle.std.specs.Prelude.{ℕ, zero, suc, ◌+◌, ◌-◌, ◌*◌, ◌/◌, ◌%◌, ◌<◌, ◌≡◌, Bool, true, false, ◌&&◌, ◌||◌, not, List, [], ◌∷◌, ◌++◌, leb, length}
use Rattle.std.proofs.Math.Option.{Option, none, some}
use Rattle.language.specs.Choice.{if', within}

-- ---- section 3: the encoding of a character number

-- 0 to 10FFFF, without the surrogates
unfoldable pub is_scalar : ℕ → Bool
is_scalar n = leb n 0x10FFFF && not (within 0xD800 0xDFFF n)

-- "Octet sequence" in the section's table: how many octets, the bits of the first, then six bits in each that follows
unfoldable pub encode : ℕ → List ℕ
encode n =
    if' (leb n 0x7F) (n ∷ [])
    (if' (leb n 0x7FF) ((0xC0 + n / 0x40) ∷ (0x80 + n % 0x40) ∷ [])
    (if' (leb n 0xFFFF) ((0xE0 + n / 0x1000) ∷ (0x80 + n / 0x40 % 0x40) ∷ (0x80 + n % 0x40) ∷ [])
    ((0xF0 + n / 0x40000) ∷ (0x80 + n / 0x1000 % 0x40) ∷ (0x80 + n / 0x40 % 0x40) ∷ (0x80 + n % 0x40) ∷ [])))

-- ---- section 4: the grammar of the bytes of one character

pub record Range : Type 0 where
  pub low : ℕ
  pub high : ℕ

abbrev pub to : ℕ → ℕ → Range
to a z = record { low = a; high = z }

abbrev pub utf8_tail : Range
utf8_tail = to 0x80 0xBF

abbrev pub utf8_1 : List (List Range)
utf8_1 = (to 0x00 0x7F ∷ []) ∷ []

abbrev pub utf8_2 : List (List Range)
utf8_2 = (to 0xC2 0xDF ∷ utf8_tail ∷ []) ∷ []

abbrev pub utf8_3 : List (List Range)
utf8_3 =
    (to 0xE0 0xE0 ∷ to 0xA0 0xBF ∷ utf8_tail ∷ [])
    ∷ (to 0xE1 0xEC ∷ utf8_tail ∷ utf8_tail ∷ [])
    ∷ (to 0xED 0xED ∷ to 0x80 0x9F ∷ utf8_tail ∷ [])
    ∷ (to 0xEE 0xEF ∷ utf8_tail ∷ utf8_tail ∷ [])
    ∷ []

abbrev pub utf8_4 : List (List Range)
utf8_4 =
    (to 0xF0 0xF0 ∷ to 0x90 0xBF ∷ utf8_tail ∷ utf8_tail ∷ [])
    ∷ (to 0xF1 0xF3 ∷ utf8_tail ∷ utf8_tail ∷ utf8_tail ∷ [])
    ∷ (to 0xF4 0xF4 ∷ to 0x80 0x8F ∷ utf8_tail ∷ utf8_tail ∷ [])
    ∷ []

abbrev pub utf8_char : List (List Range)
utf8_char = utf8_1 ++ utf8_2 ++ utf8_3 ++ utf8_4

-- the bytes are one of each range, in order, and no more
abbrev pub derives : List Range → List ℕ → Bool
derives [] [] = true
derives [] (b ∷ s) = false
derives (r ∷ rs) [] = false
derives (r ∷ rs) (b ∷ s) = within r.low r.high b && derives rs s

abbrev pub derives_one : List (List Range) → List ℕ → Bool
derives_one [] s = false
derives_one (rs ∷ more) s = derives rs s || derives_one more s

unfoldable pub is_char : List ℕ → Bool
is_char s = derives_one utf8_char s

-- ---- reading the first character

-- a character's number and how many bytes it takes, or no character
pub data Char : Type 0 where
  char : ℕ → ℕ → Char
  no_char : Char

-- what a first byte says: how many bytes follow, the bounds of the next one, and its own bits of the number
pub record Lead : Type 0 where
  pub tails : ℕ
  pub low : ℕ
  pub high : ℕ
  pub bits : ℕ

abbrev pub lead : ℕ → ℕ → ℕ → ℕ → Option Lead
lead t l h b = some (record { tails = t; low = l; high = h; bits = b })

-- the rows of section 4
unfoldable pub lead_of : ℕ → Option Lead
lead_of b =
    if' (within 0x00 0x7F b) (lead 0 0x80 0xBF b)
    (if' (within 0xC2 0xDF b) (lead 1 0x80 0xBF (b - 0xC0))
    (if' (within 0xE0 0xE0 b) (lead 2 0xA0 0xBF (b - 0xE0))
    (if' (within 0xE1 0xEC b) (lead 2 0x80 0xBF (b - 0xE0))
    (if' (within 0xED 0xED b) (lead 2 0x80 0x9F (b - 0xE0))
    (if' (within 0xEE 0xEF b) (lead 2 0x80 0xBF (b - 0xE0))
    (if' (within 0xF0 0xF0 b) (lead 3 0x90 0xBF (b - 0xF0))
    (if' (within 0xF1 0xF3 b) (lead 3 0x80 0xBF (b - 0xF0))
    (if' (within 0xF4 0xF4 b) (lead 3 0x80 0x8F (b - 0xF0)) none))))))))

-- `left` bytes follow, the next within bounds and the others 80 to BF, six bits of the number in each. The character
-- takes `size` bytes in all.
unfoldable pub follow : ℕ → ℕ → ℕ → ℕ → ℕ → List ℕ → Char
follow size zero low high bits s = char bits size
follow size (suc left) low high bits [] = no_char
follow size (suc left) low high bits (b ∷ s) = if' (within low high b) (follow size left 0x80 0xBF (bits * 0x40 + (b - 0x80)) s) no_char

abbrev pub begun : Option Lead → List ℕ → Char
begun none s = no_char
begun (some l) s = follow (suc l.tails) l.tails l.low l.high l.bits s

-- the character that a list of bytes begins with
unfoldable pub char_at : List ℕ → Char
char_at [] = no_char
char_at (b ∷ s) = begun (lead_of b) s

-- ---- a whole list

-- 01, number 2: "first byte, stepping by whole characters, where no well-formed one starts". `skip` bytes are left of a
-- character that began before, and `at` is the position of the first of the list.
unfoldable pub bad_from : ℕ → ℕ → List ℕ → Option ℕ
bad_from skip at [] = none
bad_from (suc skip) at (b ∷ s) = bad_from skip (suc at) s
bad_from zero at (b ∷ s) = elim (char_at (b ∷ s)) [ char n size ↦ bad_from (size - 1) (suc at) s | no_char ↦ some at ]

abbrev pub first_bad : List ℕ → Option ℕ
first_bad s = bad_from 0 0 s

-- a list of bytes is the encodings of scalar values, one after the other
pub data Encoded : List ℕ → Type 0 where
  nothing : Encoded []
  another : {s : List ℕ} (n : ℕ) → is_scalar n ≡ true → Encoded s → Encoded (encode n ++ s)

-- ---- the claims

-- sections 3 and 4 describe the same sequences
abbrev pub SameSequences : Type 0
SameSequences =
    ((n : ℕ) → is_scalar n ≡ true → is_char (encode n) ≡ true)
    × ((s : List ℕ) → is_char s ≡ true → (n : ℕ) × (is_scalar n ≡ true) × (encode n ≡ s))

-- two numbers have different encodings
abbrev pub EncodingInjective : Type 0
EncodingInjective = (m n : ℕ) → is_scalar m ≡ true → is_scalar n ≡ true → encode m ≡ encode n → m ≡ n

-- at most one character starts at a place
abbrev pub OneAtAPlace : Type 0
OneAtAPlace = (m n : ℕ) (s t : List ℕ) → is_scalar m ≡ true → is_scalar n ≡ true → encode m ++ s ≡ encode n ++ t → m ≡ n

-- no encoding is a proper prefix of another
abbrev pub NoProperPrefix : Type 0
NoProperPrefix = (m n : ℕ) (s : List ℕ) → is_scalar m ≡ true → is_scalar n ≡ true → encode m ++ s ≡ encode n → s ≡ []

-- `char_at` finds a character exactly where the encoding of one stands, and that one
abbrev pub ReadsEncodings : Type 0
ReadsEncodings =
    ((n : ℕ) (s : List ℕ) → is_scalar n ≡ true → char_at (encode n ++ s) ≡ char n (length (encode n)))
    × ((s : List ℕ) (n size : ℕ) → char_at s ≡ char n size
    → (is_scalar n ≡ true) × (length (encode n) ≡ size) × ((t : List ℕ) × (s ≡ encode n ++ t)))

-- no bad byte is found exactly in what is encoded whole
abbrev pub GoodIsEncoded : Type 0
GoodIsEncoded = ((s : List ℕ) → first_bad s ≡ none → Encoded s) × ((s : List ℕ) → Encoded s → first_bad s ≡ none)

-- the bad byte that is found comes after whole characters, and none starts at it
abbrev pub BadIsFirst : Type 0
BadIsFirst =
    ((s : List ℕ) (at : ℕ) → first_bad s ≡ some at
    → (p : List ℕ) × (t : List ℕ) × (s ≡ p ++ t) × Encoded p × (length p ≡ at) × (at < length s) × (char_at t ≡ no_char))
    × ((p t : List ℕ) → Encoded p → 0 < length t → char_at t ≡ no_char → first_bad (p ++ t) ≡ some (length p))

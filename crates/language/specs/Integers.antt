-- The integers of the language: 0 to 2^127 - 1 (01, "What must change shape"), their digits and their types.
use Rattle.std.specs.Prelude.{ℕ, zero, suc, ◌+◌, ◌*◌, ◌/◌, ◌%◌, ◌^◌, ◌≤◌, ◌<◌, ◌≡◌, Bool, not, List, [], ◌∷◌, ◌++◌, ltb, eqb, length, get_or}
use Rattle.std.proofs.Math.Option.{Option, none, some}
use Rattle.language.specs.Choice.{if'}

-- 2^127
abbrev pub limit : ℕ
limit = 0x80000000000000000000000000000000

-- ---- digits

-- plain positional notation: the value of digits, the first counting most, after those that give v
abbrev pub value_from : ℕ → ℕ → List ℕ → ℕ
value_from base v [] = v
value_from base v (d ∷ ds) = value_from base (v * base + d) ds

abbrev pub value_of : ℕ → List ℕ → ℕ
value_of base ds = value_from base 0 ds

-- the digits in a base of a number that has `most` at the most
unfoldable pub digits_in : ℕ → ℕ → ℕ → List ℕ
digits_in base zero n = []
digits_in base (suc most) n = if' (ltb n base) (n ∷ []) (digits_in base most (n / base) ++ (n % base ∷ []))

abbrev pub digits : ℕ → ℕ → List ℕ
digits most n = digits_in 10 most n

-- 2^127 has 39
abbrev pub most_digits : ℕ
most_digits = 39

unfoldable pub decimal : ℕ → List ℕ
decimal n = digits most_digits n

-- the hexadecimal digits; 2^127 has 32
abbrev pub most_hex_digits : ℕ
most_hex_digits = 32

unfoldable pub hexadecimal : ℕ → List ℕ
hexadecimal n = digits_in 16 most_hex_digits n

-- digits as ASCII
abbrev pub ascii : List ℕ → List ℕ
ascii [] = []
ascii (d ∷ ds) = (48 + d) ∷ ascii ds

-- ---- types (01, "Judgements")

pub data IntType : Type 0 where
  u8 : IntType
  u16 : IntType
  u32 : IntType
  u64 : IntType

abbrev pub bits : IntType → ℕ
bits u8 = 8
bits u16 = 16
bits u32 = 32
bits u64 = 64

-- "the smallest of u8, u16, u32, u64 that holds it"
unfoldable pub smallest : ℕ → Option IntType
smallest n =
    if' (ltb n (2 ^ 8)) (some u8)
    (if' (ltb n (2 ^ 16)) (some u16)
    (if' (ltb n (2 ^ 32)) (some u32)
    (if' (ltb n (2 ^ 64)) (some u64) none)))

-- the low bits that a type holds: "taken modulo 2^16" for u16
abbrev pub low_bits : IntType → ℕ → ℕ
low_bits t n = n % 2 ^ bits t

-- "`Truncated` if that changes it"
abbrev pub is_truncated : IntType → ℕ → Bool
is_truncated t n = not (eqb (low_bits t n) n)

-- ---- the claims

-- digits of a base
abbrev pub AllBelow : ℕ → List ℕ → Type 0
AllBelow base ds = (i : ℕ) → i < length ds → get_or ds i 0 < base

abbrev pub AllDigits : List ℕ → Type 0
AllDigits ds = AllBelow 10 ds

-- the digits of a number in a base: they have it as their value, are digits, one at the least and `most` at the most, and
-- the first is 0 for the number 0 alone
abbrev pub DigitsRight : ℕ → ℕ → ℕ → List ℕ → Type 0
DigitsRight base most n ds =
    (value_of base ds ≡ n) × AllBelow base ds × (0 < length ds) × (length ds ≤ most) × ((get_or ds 0 0 ≡ 0) → ds ≡ 0 ∷ [])

abbrev pub DecimalIsRight : Type 0
DecimalIsRight = (n : ℕ) → n < limit → DigitsRight 10 most_digits n (decimal n)

-- "no leading zeros (zero is `0x0`)"
abbrev pub HexadecimalIsRight : Type 0
HexadecimalIsRight = (n : ℕ) → n < limit → DigitsRight 16 most_hex_digits n (hexadecimal n)

-- the equations without a bound that a reader expects of digits
abbrev pub DecimalUnfolds : Type 0
DecimalUnfolds = (n : ℕ) → n < limit → decimal n ≡ if' (ltb n 10) (n ∷ []) (decimal (n / 10) ++ (n % 10 ∷ []))

abbrev pub HexadecimalUnfolds : Type 0
HexadecimalUnfolds = (n : ℕ) → n < limit → hexadecimal n ≡ if' (ltb n 16) (n ∷ []) (hexadecimal (n / 16) ++ (n % 16 ∷ []))

-- the type that is found holds the number, and none that is smaller does; none is found where none holds it
abbrev pub SmallestHolds : Type 0
SmallestHolds =
    ((n : ℕ) (t : IntType) → smallest n ≡ some t → (n < 2 ^ bits t) × ((u : IntType) → n < 2 ^ bits u → bits t ≤ bits u))
    × ((n : ℕ) → smallest n ≡ none → (u : IntType) → 2 ^ bits u ≤ n)

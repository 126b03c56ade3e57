-- How two words stand for a number of the language, and the code's answers for the language's.
use Rattle.std.specs.Prelude.{ℕ, ◌+◌, ◌*◌, ◌/◌, ◌%◌, nat_lt, Option, Some, None}
use Rattle.std.proofs.Math.Option as math
use Rattle.std.proofs.Math.Option.{none, some}
use Rattle.language.specs.Choice.{if'}
use Rattle.language.specs.Tables.{word_limit}
use Rattle.language.specs.Integers.{limit, IntType, u8, u16, u32, u64}
use Rattle.wide.specs.declared.Wide.{Wide}
use Rattle.wide.specs.declared.Size.{Size}
use Rattle.wide.specs.declared.Size.TheVariants.{U8, U16, U32, U64}

-- the number that two words are
abbrev pub value_of : Wide → ℕ
value_of w = w.hi * word_limit + w.lo

-- a number of one word
abbrev pub word : ℕ → Wide
word n = record { hi = 0; lo = n }

-- the two words of a number
abbrev pub wide_of : ℕ → Wide
wide_of n = record { hi = n / word_limit; lo = n % word_limit }

-- a number below 2^127 as its words
unfoldable pub fitted : ℕ → Option Wide
fitted n = if' (nat_lt n limit) (Some (wide_of n)) None

-- a digit read after those that give v
abbrev pub scaled : ℕ → ℕ → ℕ → Option Wide
scaled base v d = fitted (v * base + d)

abbrev pub size_of : math.Option IntType → Option Size
size_of (some u8) = Some U8
size_of (some u16) = Some U16
size_of (some u32) = Some U32
size_of (some u64) = Some U64
size_of none = None

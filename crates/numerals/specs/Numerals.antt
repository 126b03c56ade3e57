-- How the code's numbers and quads stand for the language's.
use Rattle.std.specs.Prelude.{ℕ, ◌+◌, ◌*◌, ◌<◌, Option, Some, None, Result, Ok, Err}
use Rattle.std.proofs.Math.Option as math
use Rattle.std.proofs.Math.Option.{none, some}
use Rattle.wide.specs.declared.Wide.{Wide}
use Rattle.wide.specs.Wide.{wide_of}
use Rattle.language.specs.Lexemes as language
use Rattle.language.specs.Lexemes.{value, wrong, quad, not_quad}
use Rattle.lexemes.specs.declared.LexErrorKind.{LexErrorKind}
use Rattle.lexemes.specs.Kinds.{error_as}
use Rattle.numerals.specs.declared.Quad.{Quad}

abbrev pub number_as : language.Number → Result Wide LexErrorKind
number_as (value n) = Ok (wide_of n)
number_as (wrong e) = Err (error_as e)

abbrev pub octet_as : math.Option ℕ → Option ℕ
octet_as (some n) = Some n
octet_as none = None

-- a number that an address takes in, and an address that has room for one more
abbrev pub Below : ℕ → Option ℕ → Type 0
Below most (Some n) = n < most
Below most None = Unit {0}

abbrev pub joined_as : Option ℕ → Option ℕ → Option ℕ
joined_as (Some a) (Some n) = Some (a * 256 + n)
joined_as (Some a) None = None
joined_as None n = None

abbrev pub quad_as : ℕ → language.Quad → Option Quad
quad_as at (quad n a) = Some (record { end = at + n; address = octet_as a })
quad_as at not_quad = None

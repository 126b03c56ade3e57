-- An error that no arm names carries nothing.
use mathlib.Core.Path.{◌≡◌, refl}
use mathlib.Core.List.{[], ◌∷◌}
use types.Run.{OneOf}
use denote.Enum.Declared.{tag_of}
use Rattle.rows.proofs.Plain.{strange}
use Rattle.lexemes.specs.declared.LexErrorKind.{LexErrorKind}
use Rattle.lexemes.specs.declared.LexErrorKind.TheVariants as error_is
use Rattle.lexemes.specs.Kinds.{error_char}
use Rattle.lexemes.specs.contracts.LexErrorKind as error

pub other_error : (e : LexErrorKind) → OneOf (1 ∷ 2 ∷ 3 ∷ 4 ∷ 5 ∷ []) (tag_of error.the_type e) → 0 ≡ error_char e
other_error (error_is.UnexpectedChar c) h = absurd (strange (1 ∷ 2 ∷ 3 ∷ 4 ∷ 5 ∷ []) 0 refl h)
other_error error_is.UnterminatedString h = refl
other_error error_is.IntOutOfRange h = refl
other_error error_is.IntLeadingZero h = refl
other_error error_is.IntInvalidSuffix h = refl
other_error error_is.IPv4Literal h = refl

-- Definitions run on examples, so that a slip shows before any proof. RFC 3629, section 7, and the edges of its grammar.
use mathlib.Core.Path.{◌≡◌, refl}
use mathlib.Core.Bool.{false}
use mathlib.Core.List.{[], ◌∷◌, ◌++◌}
use mathlib.Core.Option.{none, some}
use Rattle.language.specs.Utf8.{is_scalar, encode, is_char, char_at, char, no_char, lead_of, follow, first_bad, bad_from}

-- "A<NOT IDENTICAL TO><ALPHA>."
not_identical : encode 0x41 ++ encode 0x2262 ++ encode 0x391 ++ encode 0x2E ≡ 0x41 ∷ 0xE2 ∷ 0x89 ∷ 0xA2 ∷ 0xCE ∷ 0x91 ∷ 0x2E ∷ []
unfolding encode
not_identical = refl

not_identical_read : char_at (0xE2 ∷ 0x89 ∷ 0xA2 ∷ 0xCE ∷ []) ≡ char 0x2262 3
unfolding char_at lead_of follow
not_identical_read = refl

-- "hangugeo"
korean : first_bad (0xED ∷ 0x95 ∷ 0x9C ∷ 0xEA ∷ 0xB5 ∷ 0xAD ∷ 0xEC ∷ 0x96 ∷ 0xB4 ∷ []) ≡ none
unfolding bad_from char_at lead_of follow
korean = refl

-- "stump of tree", after the signature
stump : encode 0xFEFF ++ encode 0x233B4 ≡ 0xEF ∷ 0xBB ∷ 0xBF ∷ 0xF0 ∷ 0xA3 ∷ 0x8E ∷ 0xB4 ∷ []
unfolding encode
stump = refl

-- section 10: C0 80 is no way to write 0
overlong : is_char (0xC0 ∷ 0x80 ∷ []) ≡ false
unfolding is_char
overlong = refl

surrogate : first_bad (0x41 ∷ 0xCE ∷ 0x91 ∷ 0xED ∷ 0xA0 ∷ 0x80 ∷ []) ≡ some 3
unfolding bad_from char_at lead_of follow
surrogate = refl

last_before_surrogates : char_at (0xED ∷ 0x9F ∷ 0xBF ∷ []) ≡ char 0xD7FF 3
unfolding char_at lead_of follow
last_before_surrogates = refl

greatest : char_at (0xF4 ∷ 0x8F ∷ 0xBF ∷ 0xBF ∷ []) ≡ char 0x10FFFF 4
unfolding char_at lead_of follow
greatest = refl

too_great : char_at (0xF4 ∷ 0x90 ∷ 0x80 ∷ 0x80 ∷ []) ≡ no_char
unfolding char_at lead_of follow
too_great = refl

not_scalar : is_scalar 0xDFFF ≡ false
unfolding is_scalar
not_scalar = refl

-- the end of the list comes before the end of the character
truncated : first_bad (0x41 ∷ 0xE2 ∷ 0x89 ∷ []) ≡ some 1
unfolding bad_from char_at lead_of follow
truncated = refl

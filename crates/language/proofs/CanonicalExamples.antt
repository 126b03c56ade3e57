-- Canonical text of an example, of nothing, and of a source that is not its own text.
use mathlib.Core.Path.{◌≡◌, refl}
use mathlib.Core.List.{List, [], ◌∷◌}
use Prim.Native.Nat.{ℕ}
use native.Mathlib.Omega.{arith}
use Rattle.language.specs.Integers.{digits_in, decimal, hexadecimal}
use Rattle.language.specs.Utf8.{char_at, lead_of, follow, bad_from}
use Rattle.language.specs.Lexemes.{lexeme, scan_from, is_blank, is_digit, is_word_start, is_word, is_body, not_newline, blank_run, word, digit_of, read_digits, starts_hex, starts_zero, integer, octet, quad_from, number, punctuation, ascii}
use Rattle.language.specs.Lexemes as lexemes
use Rattle.language.specs.Tokens.{lines_from, items_from, items, first_wrong, tokens_from, tokens}
use Rattle.language.specs.Canonical.{spell_tok, spell, canonical, text, Lexes, NotACopy}
use Rattle.language.proofs.Tests.{never}

source : List ℕ
source = 108 ∷ 101 ∷ 116 ∷ 32 ∷ 97 ∷ 61 ∷ 48 ∷ 120 ∷ 48 ∷ 48 ∷ 70 ∷ 70 ∷ 59 ∷ 49 ∷ 46 ∷ 50 ∷ 46 ∷ 51 ∷ 46 ∷ 52 ∷ 58 ∷ 56 ∷ 48 ∷ 32 ∷ 58 ∷ 32 ∷ 58 ∷ 34 ∷ 120 ∷ 34 ∷ 32 ∷ 35 ∷ 32 ∷ 99 ∷ 10 ∷ 34 ∷ 121 ∷ 34 ∷ 122 ∷ []

-- 'let a=0x00FF;1.2.3.4:80 : :"x" # c\n"y"z' gives 'let a = 0xff ;\n1.2.3.4 : 80 : : "x" "y" z'
example : text source ≡ 108 ∷ 101 ∷ 116 ∷ 32 ∷ 97 ∷ 32 ∷ 61 ∷ 32 ∷ 48 ∷ 120 ∷ 102 ∷ 102 ∷ 32 ∷ 59 ∷ 10 ∷ 49 ∷ 46 ∷ 50 ∷ 46 ∷ 51 ∷ 46 ∷ 52 ∷ 32 ∷ 58 ∷ 32 ∷ 56 ∷ 48 ∷ 32 ∷ 58 ∷ 32 ∷ 58 ∷ 32 ∷ 34 ∷ 120 ∷ 34 ∷ 32 ∷ 34 ∷ 121 ∷ 34 ∷ 32 ∷ 122 ∷ []
unfolding canonical spell spell_tok decimal hexadecimal digits_in source tokens tokens_from items items_from lines_from scan_from lexeme char_at lead_of follow is_blank is_digit is_word_start is_word is_body not_newline blank_run word punctuation ascii lexemes.string number quad_from octet read_digits digit_of starts_hex starts_zero integer
example = refl

nothing : text [] ≡ []
unfolding canonical spell spell_tok decimal hexadecimal digits_in source tokens tokens_from items items_from lines_from scan_from lexeme char_at lead_of follow is_blank is_digit is_word_start is_word is_body not_newline blank_run word punctuation ascii lexemes.string number quad_from octet read_digits digit_of starts_hex starts_zero integer
nothing = refl

-- `;` gives `;\n`
one_more_lem : text (59 ∷ []) ≡ 59 ∷ 10 ∷ []
unfolding canonical spell spell_tok tokens tokens_from items items_from lines_from scan_from lexeme char_at lead_of follow is_blank punctuation ascii
one_more_lem = refl

pub not_a_copy : NotACopy
unfolding bad_from first_wrong items items_from lines_from scan_from lexeme char_at lead_of follow is_blank punctuation ascii
not_a_copy =
    let lexes : Lexes (59 ∷ []) = record { short = omega arith; whole = refl; good = refl } in
    (59 ∷ [], record { lexes = lexes; short = rw one_more_lem (omega arith) }, λ e. never (cc one_more_lem), λ e. never (cc one_more_lem))

-- Tokens of a source of three lines.
use mathlib.Core.Path.{◌≡◌, refl}
use mathlib.Core.List.{List, [], ◌∷◌}
use Prim.Native.Nat.{ℕ}
use Rattle.language.specs.Utf8.{char_at, lead_of, follow, bad_from}
use Rattle.language.specs.Lexemes.{let_keyword, equals, semi_colon, lexeme, scan_from, is_blank, is_digit, is_word_start, is_word, is_body, not_newline, blank_run, word, punctuation, ascii}
use Rattle.language.specs.Lexemes as lexemes
use Rattle.language.specs.Tokens.{Content, eof, plain, name, string, Token, lines_from, items_from, items, tokens_from, tokens, first_wrong}
use Rattle.language.specs.Numbers.{lex_answer, lexed, verdict}

abbrev at : Content → ℕ → ℕ → ℕ → ℕ → Token
at c l k s e = record { content = c; line = l; column = k; start = s; end = e }

source : List ℕ
source = 108 ∷ 101 ∷ 116 ∷ 32 ∷ 97 ∷ 32 ∷ 61 ∷ 32 ∷ 34 ∷ 120 ∷ 34 ∷ 32 ∷ 35 ∷ 32 ∷ 99 ∷ 10 ∷ 32 ∷ 32 ∷ 34 ∷ 121 ∷ 34 ∷ 59 ∷ 10 ∷ []

-- let a = "x" # c / "y";
three_lines : tokens source
    ≡ at (plain let_keyword) 1 1 0 3
    ∷ at (name (97 ∷ [])) 1 5 4 5
    ∷ at (plain equals) 1 7 6 7
    ∷ at (string (120 ∷ []) ((121 ∷ []) ∷ [])) 1 9 8 21
    ∷ at (plain semi_colon) 2 6 21 22
    ∷ at eof 3 1 23 23
    ∷ []
unfolding source tokens tokens_from items items_from lines_from scan_from lexeme char_at lead_of follow is_blank is_digit is_word_start is_word is_body not_newline blank_run word punctuation ascii lexemes.string
three_lines = refl

counted : lex_answer source 6 ≡ lexed (verdict 0 0 0) 6
unfolding source lex_answer bad_from first_wrong tokens tokens_from items items_from lines_from scan_from lexeme char_at lead_of follow is_blank is_digit is_word_start is_word is_body not_newline blank_run word punctuation ascii lexemes.string
counted = refl

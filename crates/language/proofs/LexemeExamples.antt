-- Lexemes of 01's samples.
use Prim.Native.Nat.{ℕ}
use mathlib.Core.Path.{◌≡◌, refl}
use mathlib.Core.List.{List, [], ◌∷◌, ◌++◌, map}
use Rattle.language.specs.Utf8.{char_at, lead_of, follow}
use Rattle.language.specs.Lexemes.{Lexeme, lexeme_of, lexeme, trivia, str, tok, error, let_keyword, identifier, double_colon, ipv4_literal, dec_literal, hex_literal, unexpected_char, unterminated_string, int_out_of_range, int_leading_zero, int_invalid_suffix, bad_ipv4_literal, is_blank, is_digit, is_word_start, is_word, is_body, not_newline, blank_run, word, digit_of, read_digits, starts_hex, starts_zero, integer, octet, quad_from, number, string, punctuation, ascii}

-- all but the last digit of 2^127
abbrev near : List ℕ
near =
    49 ∷ 55 ∷ 48 ∷ 49 ∷ 52 ∷ 49 ∷ 49 ∷ 56 ∷ 51 ∷ 52 ∷ 54 ∷ 48 ∷ 52 ∷ 54 ∷ 57 ∷ 50 ∷ 51 ∷ 49 ∷ 55
    ∷ 51 ∷ 49 ∷ 54 ∷ 56 ∷ 55 ∷ 51 ∷ 48 ∷ 51 ∷ 55 ∷ 49 ∷ 53 ∷ 56 ∷ 56 ∷ 52 ∷ 49 ∷ 48 ∷ 53 ∷ 55 ∷ 50 ∷ []

-- what the rest of a line starts with: its text, its bytes and the lexeme
abbrev samples : List (List ℕ × Lexeme)
samples =
    -- 1.2.3.4abc
    (49 ∷ 46 ∷ 50 ∷ 46 ∷ 51 ∷ 46 ∷ 52 ∷ 97 ∷ 98 ∷ 99 ∷ [], lexeme_of (error bad_ipv4_literal) 10)
    -- 1.2
    ∷ (49 ∷ 46 ∷ 50 ∷ [], lexeme_of (tok (dec_literal 1)) 1)
    -- 1.2.3.4.5
    ∷ (49 ∷ 46 ∷ 50 ∷ 46 ∷ 51 ∷ 46 ∷ 52 ∷ 46 ∷ 53 ∷ [], lexeme_of (tok (ipv4_literal 0x01020304)) 7)
    -- 255.0.0.0
    ∷ (50 ∷ 53 ∷ 53 ∷ 46 ∷ 48 ∷ 46 ∷ 48 ∷ 46 ∷ 48 ∷ [], lexeme_of (tok (ipv4_literal 0xFF000000)) 9)
    -- 256.0.0.0
    ∷ (50 ∷ 53 ∷ 54 ∷ 46 ∷ 48 ∷ 46 ∷ 48 ∷ 46 ∷ 48 ∷ [], lexeme_of (error bad_ipv4_literal) 9)
    -- 01.2.3.4
    ∷ (48 ∷ 49 ∷ 46 ∷ 50 ∷ 46 ∷ 51 ∷ 46 ∷ 52 ∷ [], lexeme_of (error bad_ipv4_literal) 8)
    -- 0
    ∷ (48 ∷ [], lexeme_of (tok (dec_literal 0)) 1)
    -- 0x0
    ∷ (48 ∷ 120 ∷ 48 ∷ [], lexeme_of (tok (hex_literal 0)) 3)
    -- 00
    ∷ (48 ∷ 48 ∷ [], lexeme_of (error int_leading_zero) 2)
    -- 0x
    ∷ (48 ∷ 120 ∷ [], lexeme_of (error int_invalid_suffix) 2)
    -- 0X1
    ∷ (48 ∷ 88 ∷ 49 ∷ [], lexeme_of (error int_invalid_suffix) 3)
    -- 1_0
    ∷ (49 ∷ 95 ∷ 48 ∷ [], lexeme_of (error int_invalid_suffix) 3)
    -- 170141183460469231731687303715884105727
    ∷ (near ++ (55 ∷ []), lexeme_of (tok (dec_literal 0x7FFFFFFFFFFFFFFFFFFFFFFFFFFFFFFF)) 39)
    -- 170141183460469231731687303715884105728
    ∷ (near ++ (56 ∷ []), lexeme_of (error int_out_of_range) 39)
    -- 170141183460469231731687303715884105727z
    ∷ (near ++ (55 ∷ 122 ∷ []), lexeme_of (error int_invalid_suffix) 40)
    -- //80 x
    ∷ (47 ∷ 47 ∷ 56 ∷ 48 ∷ 32 ∷ 120 ∷ [], lexeme_of trivia 6)
    -- "a b" c
    ∷ (34 ∷ 97 ∷ 32 ∷ 98 ∷ 34 ∷ 32 ∷ 99 ∷ [], lexeme_of str 5)
    -- "a b
    ∷ (34 ∷ 97 ∷ 32 ∷ 98 ∷ [], lexeme_of (error unterminated_string) 4)
    -- let x
    ∷ (108 ∷ 101 ∷ 116 ∷ 32 ∷ 120 ∷ [], lexeme_of (tok let_keyword) 3)
    -- lets
    ∷ (108 ∷ 101 ∷ 116 ∷ 115 ∷ [], lexeme_of (tok identifier) 4)
    -- ::a
    ∷ (58 ∷ 58 ∷ 97 ∷ [], lexeme_of (tok double_colon) 2)
    -- é
    ∷ (195 ∷ 169 ∷ [], lexeme_of (error (unexpected_char 0xE9)) 2)
    -- U+2003, U+00A0, a tab and x
    ∷ (226 ∷ 128 ∷ 131 ∷ 194 ∷ 160 ∷ 9 ∷ 120 ∷ [], lexeme_of trivia 6)
    -- @
    ∷ (64 ∷ [], lexeme_of (error (unexpected_char 64)) 1)
    ∷ []

-- each is right
right : map (λ (s : List ℕ × Lexeme). lexeme s.0) samples ≡ map (λ (s : List ℕ × Lexeme). s.1) samples
unfolding lexeme char_at lead_of follow is_blank is_digit is_word_start is_word is_body not_newline blank_run word digit_of read_digits starts_hex starts_zero integer octet quad_from number string punctuation ascii
right = refl

-- The rows of the lent tables: which words each has, and the number of each kind. docs/TABLES.md says the same in prose.
use Rattle.std.specs.Prelude.{ℕ, suc, ◌/◌, ◌%◌, length, Bool, true, false, ◌≡◌, List, [], ◌∷◌, map}
use Rattle.language.specs.Lexemes.{Tok, l_paren, r_paren, dot, double_colon, colon, semi_colon, equals, comma, slash, import_keyword, let_keyword, identifier, boolean_literal, ipv4_literal, hex_literal, dec_literal, LexErrorKind, unexpected_char, unterminated_string, int_out_of_range, int_leading_zero, int_invalid_suffix, bad_ipv4_literal, Kind, trivia, str, tok, error, Placed}
use Rattle.language.specs.Tokens.{Content, eof, plain, name, string, Token, contents}

-- ---- kinds

-- the kinds of tokens, in the order of lex.rs; 1 is `Eof` and 16 `StringLiteral`, which no lexeme is
abbrev pub tok_kind : Tok → ℕ
tok_kind l_paren = 2
tok_kind r_paren = 3
tok_kind dot = 4
tok_kind double_colon = 5
tok_kind colon = 6
tok_kind semi_colon = 7
tok_kind equals = 8
tok_kind comma = 9
tok_kind slash = 10
tok_kind import_keyword = 11
tok_kind let_keyword = 12
tok_kind identifier = 13
tok_kind (boolean_literal b) = 14
tok_kind (ipv4_literal n) = 15
tok_kind (hex_literal n) = 17
tok_kind (dec_literal n) = 18

abbrev pub bit : Bool → ℕ
bit true = 1
bit false = 0

-- 2^64: a number takes two words, the low one first
abbrev pub word_limit : ℕ
word_limit = 0x10000000000000000

-- the value that a token carries, 0 where it carries none
abbrev pub tok_low : Tok → ℕ
tok_low l_paren = 0
tok_low r_paren = 0
tok_low dot = 0
tok_low double_colon = 0
tok_low colon = 0
tok_low semi_colon = 0
tok_low equals = 0
tok_low comma = 0
tok_low slash = 0
tok_low import_keyword = 0
tok_low let_keyword = 0
tok_low identifier = 0
tok_low (boolean_literal b) = bit b
tok_low (ipv4_literal n) = n
tok_low (hex_literal n) = n % word_limit
tok_low (dec_literal n) = n % word_limit

abbrev pub tok_high : Tok → ℕ
tok_high l_paren = 0
tok_high r_paren = 0
tok_high dot = 0
tok_high double_colon = 0
tok_high colon = 0
tok_high semi_colon = 0
tok_high equals = 0
tok_high comma = 0
tok_high slash = 0
tok_high import_keyword = 0
tok_high let_keyword = 0
tok_high identifier = 0
tok_high (boolean_literal b) = 0
tok_high (ipv4_literal n) = 0
tok_high (hex_literal n) = n / word_limit
tok_high (dec_literal n) = n / word_limit

-- the kinds of lexical errors, in the order of lex.rs without its `StringLiteral`
abbrev pub error_kind : LexErrorKind → ℕ
error_kind (unexpected_char c) = 1
error_kind unterminated_string = 2
error_kind int_out_of_range = 3
error_kind int_leading_zero = 4
error_kind int_invalid_suffix = 5
error_kind bad_ipv4_literal = 6

-- the character of an `UnexpectedChar`
abbrev pub error_char : LexErrorKind → ℕ
error_char (unexpected_char c) = c
error_char unterminated_string = 0
error_char int_out_of_range = 0
error_char int_leading_zero = 0
error_char int_invalid_suffix = 0
error_char bad_ipv4_literal = 0

-- ---- a lexeme's row: start, end, class, kind, and its value in two words

abbrev pub lexeme_width : ℕ
lexeme_width = 6

abbrev pub class_of : Kind → ℕ
class_of trivia = 1
class_of str = 2
class_of (tok t) = 3
class_of (error e) = 4

abbrev pub kind_of : Kind → ℕ
kind_of trivia = 0
kind_of str = 0
kind_of (tok t) = tok_kind t
kind_of (error e) = error_kind e

abbrev pub low_of : Kind → ℕ
low_of trivia = 0
low_of str = 0
low_of (tok t) = tok_low t
low_of (error e) = error_char e

abbrev pub high_of : Kind → ℕ
high_of trivia = 0
high_of str = 0
high_of (tok t) = tok_high t
high_of (error e) = 0

unfoldable pub lexeme_row : Placed → List ℕ
lexeme_row p = p.start ∷ p.end ∷ class_of p.kind ∷ kind_of p.kind ∷ low_of p.kind ∷ high_of p.kind ∷ []

-- ---- a token's row: kind, line, column, start, end, and its value in two words

abbrev pub token_width : ℕ
token_width = 7

abbrev pub content_kind : Content → ℕ
content_kind eof = 1
content_kind (plain t) = tok_kind t
content_kind (name bs) = 13
content_kind (string b bs) = 16

-- of a string how many bodies it has
abbrev pub content_low : Content → ℕ
content_low eof = 0
content_low (plain t) = tok_low t
content_low (name bs) = 0
content_low (string b bs) = suc (length bs)

abbrev pub content_high : Content → ℕ
content_high eof = 0
content_high (plain t) = tok_high t
content_high (name bs) = 0
content_high (string b bs) = 0

unfoldable pub token_row : Token → List ℕ
token_row t =
    content_kind t.content ∷ t.line ∷ t.column ∷ t.start ∷ t.end ∷ content_low t.content ∷ content_high t.content ∷ []

-- a token's row without its place and its span
abbrev pub unplaced : Content → List ℕ
unplaced c = content_kind c ∷ content_low c ∷ content_high c ∷ []

-- the contents alone decide how many rows there are, and all of a row but the place and the span
abbrev pub ContentsDecide : Type 0
ContentsDecide =
    (ts us : List Token) → contents ts ≡ contents us
    → (length ts ≡ length us) × (map (λ t. unplaced t.content) ts ≡ map (λ t. unplaced t.content) us)

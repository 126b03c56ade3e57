-- How the code's lexemes stand for the language's, and their kinds as numbers.
use Rattle.std.specs.Prelude.{ℕ, ◌+◌, List, [], ◌∷◌, Result, Ok, Err}
use Rattle.wide.specs.declared.Wide.{Wide}
use Rattle.language.specs.Lexemes as language
use Rattle.language.specs.Lexemes.{unexpected_char, unterminated_string, int_out_of_range, int_leading_zero, int_invalid_suffix, bad_ipv4_literal, trivia, str, tok, error}
use Rattle.rows.specs.declared.token.Tok.{Tok}
use Rattle.rows.specs.Tokens.{tok_as, tok_number, zeros, tok_value}
use Rattle.lexemes.specs.declared.LexErrorKind.{LexErrorKind}
use Rattle.lexemes.specs.declared.LexErrorKind.TheVariants as error_is
use Rattle.lexemes.specs.declared.LexemeKind.{LexemeKind}
use Rattle.lexemes.specs.declared.LexemeKind.TheVariants as kind_is
use Rattle.lexemes.specs.declared.Lexeme.{Lexeme}

-- ---- values

abbrev pub error_as : language.LexErrorKind → LexErrorKind
error_as (unexpected_char c) = error_is.UnexpectedChar c
error_as unterminated_string = error_is.UnterminatedString
error_as int_out_of_range = error_is.IntOutOfRange
error_as int_leading_zero = error_is.IntLeadingZero
error_as int_invalid_suffix = error_is.IntInvalidSuffix
error_as bad_ipv4_literal = error_is.IPv4Literal

abbrev pub kind_as : language.Kind → LexemeKind
kind_as trivia = kind_is.Trivia
kind_as str = kind_is.Str
kind_as (tok t) = kind_is.Tok (tok_as t)
kind_as (error e) = kind_is.Error (error_as e)

-- what reading a token came to
abbrev pub read_kind : Result Tok LexErrorKind → LexemeKind
read_kind (Ok t) = kind_is.Tok t
read_kind (Err e) = kind_is.Error e

-- a lexeme that starts at `at`
abbrev pub lexeme_as : ℕ → language.Lexeme → Lexeme
lexeme_as at l = record { start = at; end = at + l.size; kind = kind_as l.kind }

-- ---- rows: the code's kinds as numbers

abbrev pub error_number : LexErrorKind → ℕ
error_number (error_is.UnexpectedChar c) = 1
error_number error_is.UnterminatedString = 2
error_number error_is.IntOutOfRange = 3
error_number error_is.IntLeadingZero = 4
error_number error_is.IntInvalidSuffix = 5
error_number error_is.IPv4Literal = 6

abbrev pub error_char : LexErrorKind → ℕ
error_char (error_is.UnexpectedChar c) = c
error_char error_is.UnterminatedString = 0
error_char error_is.IntOutOfRange = 0
error_char error_is.IntLeadingZero = 0
error_char error_is.IntInvalidSuffix = 0
error_char error_is.IPv4Literal = 0

abbrev pub class_number : LexemeKind → ℕ
class_number kind_is.Trivia = 1
class_number kind_is.Str = 2
class_number (kind_is.Tok t) = 3
class_number (kind_is.Error e) = 4

abbrev pub kind_number : LexemeKind → ℕ
kind_number kind_is.Trivia = 0
kind_number kind_is.Str = 0
kind_number (kind_is.Tok t) = tok_number t
kind_number (kind_is.Error e) = error_number e

abbrev pub kind_value : LexemeKind → Wide
kind_value kind_is.Trivia = zeros
kind_value kind_is.Str = zeros
kind_value (kind_is.Tok t) = tok_value t
kind_value (kind_is.Error e) = record { hi = 0; lo = error_char e }

-- a lexeme's six words
abbrev pub row_of : Lexeme → List ℕ
row_of l = l.start ∷ l.end ∷ class_number l.kind ∷ kind_number l.kind ∷ (kind_value l.kind).lo ∷ (kind_value l.kind).hi ∷ []

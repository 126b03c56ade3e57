-- How the scanner's answers stand for the language's.
use Rattle.std.specs.Prelude as code
use Rattle.std.specs.Prelude.{◌≡◌, ℕ, ◌+◌, ◌-◌, List, [], ltb, leb, eqb, length, get_or, drop, Some, None}
use Rattle.std.proofs.Math.Option.{Option, none, some}
use Rattle.language.specs.Choice.{if'}
use Rattle.language.specs.Lexemes as language
use Rattle.language.specs.Numbers as numbers
use Rattle.language.specs.Lexemes.{double_colon, colon, slash, unexpected_char, tok, error, word, lexeme_of, comment, string, lexeme}
use Rattle.rows.specs.declared.token.Tok.{Tok}
use Rattle.lexemes.specs.declared.Lexeme.{Lexeme}
use Rattle.lexemes.specs.Kinds.{lexeme_as}
use Rattle.rows.specs.Tokens.{tok_as}
use Rattle.language.specs.Tokens.{between}
use Rattle.scan.specs.declared.Scanner.{Scanner}
use Rattle.scan.specs.declared.ScanError.{ScanError}
use Rattle.scan.specs.declared.ScanError.TheVariants as error_is
use Rattle.rows.specs.Rows.{verdict_as}
use Rattle.scan.specs.declared.Scanned.{Scanned}

abbrev pub word_at : List ℕ → ℕ → ℕ → Tok
word_at s at e = tok_as (word (between s at e))

abbrev pub mark_as : Option language.Tok → code.Option Tok
mark_as (some t) = Some (tok_as t)
mark_as none = None

-- ---- the scanner

-- what starts with a byte that begins neither a word nor a number and is no punctuation that is always one byte long
unfoldable pub sign_of : List ℕ → ℕ → language.Lexeme
sign_of s at =
    let b = get_or s at 0 in
    let next = get_or s (at + 1) 0 in
    let rest = drop (at + 1) s in
    if' (eqb b 35) (comment 1 rest)
    (if' (eqb b 47) (if' (eqb next 47) (comment 1 rest) (lexeme_of (tok slash) 1))
    (if' (eqb b 58) (if' (eqb next 58) (lexeme_of (tok double_colon) 2) (lexeme_of (tok colon) 1))
    (if' (eqb b 34) (string rest)
    (lexeme_of (error (unexpected_char b)) 1))))

-- the lexeme that stands at a place, or none at the end of the line
unfoldable pub step_at : List ℕ → ℕ → code.Option Lexeme
step_at s at = if' (ltb at (length s)) (Some (lexeme_as at (lexeme (drop at s)))) None

-- where a scanner goes on from `at`: past the lexeme that it gave
abbrev pub after : ℕ → code.Option Lexeme → ℕ
after at (Some l) = l.end
after at None = at

-- a call of `next` at x gave r, and left y
pub record GivesLexeme (x : Scanner) (r : code.Option Lexeme) (y : Scanner) : Type 0 where
  pub found : r ≡ step_at x.line.now x.pos
  pub line : y.line.now ≡ x.line.now
  pub goes : y.pos ≡ after x.pos r

-- the body of a string literal that starts at `at` and ends at e: between its quotes; nothing where no literal fits
unfoldable pub body_of : List ℕ → ℕ → ℕ → List ℕ
body_of s at e = if' (leb (at + 2) e) (if' (leb e (length s)) (between s (at + 1) (e - 1)) []) []

-- ---- the answer

abbrev pub scanned_as : numbers.Scanned → Scanned
scanned_as a = record { verdict = verdict_as a.verdict; lexemes = a.count }

-- what a refusal is for the language
abbrev pub refusal_of : ScanError → numbers.Verdict
refusal_of error_is.TooLong = numbers.verdict 1 0 0
refusal_of (error_is.NotUtf8 column) = numbers.verdict 2 1 column
refusal_of error_is.TableRoom = numbers.verdict 4 0 0

-- What the entry promises.
use Rattle.std.specs.Prelude.{◌≡◌, List, ℕ, ◌/◌, ◌≤◌, length, eqb, false, Result, Ok, Err}
use Rattle.table.specs.Table.{tabled}
use Rattle.language.specs.Tables.{token_row, token_width}
use Rattle.language.specs.Tokens.{tokens, most_bytes}
use Rattle.language.specs.Numbers as numbers
use Rattle.language.specs.Numbers.{verdict, lexed, lex_answer}
use Rattle.rows.specs.Rows.{verdict_as}
use Rattle.lex.specs.declared.LexError.{LexError}
use Rattle.language.specs.Entries.{LexPromise}
use Rattle.lex.specs.declared.Lexed.{Lexed}
use Rattle.lex.specs.Lexing.{lexed_as, verdict_of, body_at}

-- of a source and a table of n words: the answer r, and what is left in the table
abbrev pub LexSource : List ℕ → ℕ → Lexed → List ℕ → Type 0
LexSource source n r left = LexPromise lexed_as source n r left

-- a source is refused, and e says why
abbrev pub Refuses : List ℕ → ℕ → LexError → Type 0
Refuses source n e = (v : numbers.Verdict) × (eqb v.number 0 ≡ false) × (lex_answer source (n / token_width) ≡ lexed v 0) × (verdict_of e ≡ verdict_as v)

-- the same before the answer is made up and a refusal clears the table
abbrev pub LexesInto : List ℕ → ℕ → Result ℕ LexError → List ℕ → Type 0
LexesInto source n (Ok count) left = (lex_answer source (n / token_width) ≡ lexed (verdict 0 0 0) count) × (left ≡ tabled token_row token_width n (tokens source))
LexesInto source n (Err e) left = Refuses source n e

-- what it leaves where it refuses nothing: a table of the tokens, `count` of them
pub record Lexes (source toks : List ℕ) (count : ℕ) : Type 0 where
  pub answer : lex_answer source (length toks / token_width) ≡ lexed (verdict 0 0 0) count
  pub counted : count ≡ length (tokens source)
  pub table : toks ≡ tabled token_row token_width (length toks) (tokens source)
  pub room : count ≤ length toks / token_width
  pub short : length source ≤ most_bytes

-- of `string_body`: the bytes r of body i of the string token that spans a source from `start` up to e
abbrev pub StringBody : List ℕ → ℕ → ℕ → ℕ → List ℕ → Type 0
StringBody source start e i r = r ≡ body_at source start e i

-- What the entry promises.
use Rattle.std.specs.Prelude.{◌≡◌, ◌≤◌, ◌/◌, List, [], ℕ, false, eqb, length, Result, Ok, Err}
use Rattle.table.specs.Table.{pad_to}
use Rattle.language.specs.Tables.{token_width}
use Rattle.language.specs.Tokens.{contents, tokens}
use Rattle.language.specs.Sentences.{Stmt, ok, program, nodes, node_width}
use Rattle.language.specs.Numbers.{parsed, parse_answer}
use Rattle.language.specs.Numbers as numbers
use Rattle.language.specs.Entries.{ParsePromise}
use Rattle.rows.specs.declared.verdict.Verdict.{Verdict}
use Rattle.rows.specs.Rows.{verdict_as}
pub use Rattle.lex.specs.Entry.{Lexes}
use Rattle.parse.specs.declared.ParseAnswer.{ParseAnswer}
use Rattle.parse.specs.Parsing.{Holds}

abbrev pub parsed_as : numbers.Parsed → ParseAnswer
parsed_as a = record { verdict = verdict_as a.verdict; tokens = a.tokens; nodes = a.nodes }

-- the answer of a refusal: no counts
abbrev pub refusal : Verdict → ParseAnswer
refusal v = record { verdict = v; tokens = 0; nodes = 0 }

-- a refusal that leaves two tables, of t and n words, all zero
pub record GivesUp (v : Verdict) (t n : ℕ) (r : ParseAnswer) (toks left : List ℕ) : Type 0 where
  pub answer : r ≡ refusal v
  pub tokens : toks ≡ pad_to t []
  pub nodes : left ≡ pad_to n []

-- of a source, tables of t and n words, and an answer: its trees, as many nodes as the table that is left holds of
-- them, or the verdict that refuses it
abbrev pub TreesOf : List ℕ → ℕ → ℕ → Result ℕ Verdict → List ℕ → Type 0
TreesOf s t n (Ok k) left = (ss : List Stmt) × (next : ℕ) × (x : ℕ) × (program (contents (tokens s)) ≡ ok ss next x) × (length (nodes ss) ≡ k) × (k ≤ n / node_width) × Holds left (nodes ss)
TreesOf s t n (Err w) left = (v : numbers.Verdict) × (parse_answer s (t / token_width) (n / node_width) ≡ parsed v 0 0) × (eqb v.number 0 ≡ false) × (w ≡ verdict_as v)

pub record Trees (s : List ℕ) (t n : ℕ) (r : Result ℕ Verdict) (left : List ℕ) : Type 0 where
  pub met : TreesOf s t n r left

-- of a source, a token table of t words and a node table of n words: the answer r, and what is left in both
abbrev pub ParseSource : List ℕ → ℕ → ℕ → ParseAnswer → List ℕ → List ℕ → Type 0
ParseSource source t n r toks left = ParsePromise parsed_as source t n r toks left

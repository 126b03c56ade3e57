-- What the entry promises.
use Rattle.std.specs.Prelude.{◌≡◌, List, [], ℕ, ◌/◌, length, Result, Ok, Err}
use Rattle.table.specs.Table.{pad_to, tabled}
use Rattle.language.specs.Tables.{token_row, token_width}
use Rattle.language.specs.Tokens.{tokens, contents}
use Rattle.language.specs.Sentences.{program, node_row, node_width}
use Rattle.language.specs.Numbers as numbers
use Rattle.language.specs.Numbers.{verdict, parsed, parse_answer, parsed_nodes}
use Rattle.language.specs.Entries.{CheckPromise}
use Rattle.rows.specs.declared.verdict.Verdict.{Verdict}
use Rattle.rows.specs.Rows.{verdict_as}
use Rattle.checker.specs.declared.CheckAnswer.{CheckAnswer}

abbrev pub checked_as : numbers.Checked → CheckAnswer
checked_as a =
    record {
      verdict = verdict_as a.verdict;
      tokens = a.tokens;
      nodes = a.nodes;
      errors = a.errors;
      warnings = a.warnings;
      statements = a.statements;
      comparisons = a.comparisons;
    }

-- the answer of a refusal: no counts
abbrev pub refusal : Verdict → CheckAnswer
refusal v = record { verdict = v; tokens = 0; nodes = 0; errors = 0; warnings = 0; statements = 0; comparisons = 0 }

-- a refusal that leaves four tables, of t, n, d and k words, all zero
pub record GivesUp (v : Verdict) (t n d k : ℕ) (r : CheckAnswer) (toks tree found held : List ℕ) : Type 0 where
  pub answer : r ≡ refusal v
  pub tokens : toks ≡ pad_to t []
  pub nodes : tree ≡ pad_to n []
  pub diags : found ≡ pad_to d []
  pub stmts : held ≡ pad_to k []

-- what parsing leaves where it refuses nothing: a table of the tokens, `count` of them, and one of the nodes, in `rows` rows
pub record Parses (source toks tree : List ℕ) (count rows : ℕ) : Type 0 where
  pub answer : parse_answer source (length toks / token_width) (length tree / node_width) ≡ parsed (verdict 0 0 0) count rows
  pub table : toks ≡ tabled token_row token_width (length toks) (tokens source)
  pub nodes : tree ≡ tabled node_row node_width (length tree) (parsed_nodes (program (contents (tokens source))))
  pub counted : count ≡ length (tokens source)
  pub rowed : rows ≡ length (parsed_nodes (program (contents (tokens source))))

-- of a source and tables of t, n, d and k words (of tokens, nodes, diagnostics and statements): the answer r, and what is
-- left in each
abbrev pub CheckSource : List ℕ → ℕ → ℕ → ℕ → ℕ → CheckAnswer → List ℕ → List ℕ → List ℕ → List ℕ → Type 0
CheckSource source t n d k r toks tree found held = CheckPromise checked_as source t n d k r toks tree found held

-- what judging a parsed source comes to: an answer with what is left in the four tables; or a refusal, which still has to leave nothing
-- in any of them
abbrev pub Concludes : List ℕ → List ℕ → List ℕ → ℕ → ℕ → Result CheckAnswer Verdict → List ℕ → List ℕ → Type 0
Concludes source toks tree d k (Ok r) found held = CheckSource source (length toks) (length tree) d k r toks tree found held
Concludes source toks tree d k (Err v) found held =
    (r : CheckAnswer) (a b e f : List ℕ) → GivesUp v (length toks) (length tree) d k r a b e f → CheckSource source (length toks) (length tree) d k r a b e f

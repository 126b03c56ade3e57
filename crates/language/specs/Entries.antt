-- What each call promises: its answer, in the form that its caller gets it in, and what it leaves in each lent table. One
-- equation for each, of the bytes and the tables' sizes alone.
use Rattle.std.specs.Prelude.{◌≡◌, List, ℕ, ◌/◌}
use Rattle.language.specs.Tables.{lexeme_width, token_width}
use Rattle.language.specs.Sentences.{node_width}
use Rattle.language.specs.Findings.{stmt_width}
use Rattle.language.specs.Numbers.{Scanned, scan_answer, scan_table, Lexed, lex_answer, lex_table, Parsed, parse_answer, parse_tokens, parse_nodes, Canonised, canon_answer, canon_tokens, canon_text, Checked, check_answer, check_tokens, check_nodes, check_diags, check_stmts}

-- of a line and a table of n words
pub record ScanPromise {A : Type 0} (form : Scanned → A) (line : List ℕ) (n : ℕ) (r : A) (left : List ℕ) : Type 0 where
  pub answer : r ≡ form (scan_answer line (n / lexeme_width))
  pub table : left ≡ scan_table line n

-- of a source and a table of n words
pub record LexPromise {A : Type 0} (form : Lexed → A) (source : List ℕ) (n : ℕ) (r : A) (left : List ℕ) : Type 0 where
  pub answer : r ≡ form (lex_answer source (n / token_width))
  pub table : left ≡ lex_table source n

-- of a source, a token table of t words and a node table of n words
pub record ParsePromise {A : Type 0} (form : Parsed → A) (source : List ℕ) (t n : ℕ) (r : A) (toks left : List ℕ) : Type 0 where
  pub answer : r ≡ form (parse_answer source (t / token_width) (n / node_width))
  pub tokens : toks ≡ parse_tokens source t n
  pub nodes : left ≡ parse_nodes source t n

-- of a source, a token table of t words and a text of n bytes
pub record CanonPromise {A : Type 0} (form : Canonised → A) (source : List ℕ) (t n : ℕ) (r : A) (toks left : List ℕ) : Type 0 where
  pub answer : r ≡ form (canon_answer source (t / token_width) n)
  pub table : toks ≡ canon_tokens source t n
  pub text : left ≡ canon_text source t n

-- of a source and tables of t, n, d and k words (of tokens, nodes, diagnostics and statements)
pub record CheckPromise {A : Type 0} (form : Checked → A) (source : List ℕ) (t n d k : ℕ) (r : A) (toks tree found held : List ℕ) : Type 0 where
  pub answer : r ≡ form (check_answer source (t / token_width) (n / node_width) (k / stmt_width))
  pub tokens : toks ≡ check_tokens source t n k
  pub nodes : tree ≡ check_nodes source t n k
  pub diags : found ≡ check_diags source t n k d
  pub stmts : held ≡ check_stmts source t n k

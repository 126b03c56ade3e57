-- The number of its statement on each finding (02, E7): "Each diagnostic row gets the number of its statement, from 1, in source
-- order. Numbers in the table never fall, and each statement has at most one error." Said of the words of the table and of tokens.
use Rattle.std.specs.Prelude.{ℕ, suc, ◌+◌, ◌*◌, ◌/◌, ◌≤◌, ◌<◌, ◌≡◌, List, [], ◌∷◌, eqb, length, get_or, take}
use Rattle.language.specs.Choice.{if'}
use Rattle.language.specs.Lexemes.{semi_colon}
use Rattle.language.specs.Tokens.{Content, plain, tokens, contents}
use Rattle.language.specs.Tables.{content_kind, token_width}
use Rattle.language.specs.Sentences.{Stmt, ok, program, node_width}
use Rattle.language.specs.Findings.{diag_width, stmt_width}
use Rattle.language.specs.Numbers.{statements_of, token_of, check_answer, check_diags}

-- ---- the statement that holds a token, by tokens alone: a statement ends with its `;`, and has no other

-- how many statements end among these tokens
unfoldable pub ends : List Content → ℕ
ends [] = 0
ends (c ∷ cs) = if' (eqb (content_kind c) (content_kind (plain semi_colon))) 1 0 + ends cs

-- the number of the statement that holds the token t
abbrev pub statement_at : List Content → ℕ → ℕ
statement_at ts t = suc (ends (take t ts))

-- ---- the table

-- word j of row i of a table of findings
abbrev pub finding_word : List ℕ → ℕ → ℕ → ℕ
finding_word found i j = get_or found (diag_width * i + j) 0

abbrev pub severity_in : List ℕ → ℕ → ℕ
severity_in found i = finding_word found i 2

abbrev pub statement_in : List ℕ → ℕ → ℕ
statement_in found i = finding_word found i 11

-- a token that stands at the place of row i, and is held by the statement that the row names
pub record InStatement (s found : List ℕ) (i : ℕ) : Type 0 where
  pub token : ℕ
  pub there : token < length (tokens s)
  pub line : finding_word found i 0 ≡ (token_of s token).line
  pub column : finding_word found i 1 ≡ (token_of s token).column
  pub statement : statement_in found i ≡ statement_at (contents (tokens s)) token

-- the first rows of a table, as many as `rows`, of what is found in s
pub record Numbered (s : List ℕ) (rows : ℕ) (found : List ℕ) : Type 0 where
  -- "Numbers in the table never fall"
  pub ascend : (i j : ℕ) → i ≤ j → j < rows → statement_in found i ≤ statement_in found j
  -- "each statement has at most one error"
  pub one_error : (i j : ℕ) → i < j → j < rows → statement_in found i ≡ statement_in found j → severity_in found i ≡ 1
      → severity_in found j ≡ 1 → ⊥
  -- "from 1", and up to the number of statements
  pub least : (i : ℕ) → i < rows → 1 ≤ statement_in found i
  pub most : (i : ℕ) → i < rows → statement_in found i ≤ length (statements_of (program (contents (tokens s))))
  -- "the number of its statement": of the one that holds its token. No two tokens stand at one place (`TokensApart`: Told.antt)
  pub own : (i : ℕ) → i < rows → InStatement s found i

-- ---- the claims

-- of the rows that check keeps: those of its findings that fit
abbrev pub FindingsNumbered : Type 0
FindingsNumbered =
    (s : List ℕ) (t n d k rows : ℕ)
    → let a = check_answer s (t / token_width) (n / node_width) (k / stmt_width) in
    rows ≤ a.errors + a.warnings → rows ≤ d / diag_width → Numbered s rows (check_diags s t n k d)

-- a source that parses has as many statements as ends of statements
abbrev pub StatementsEnd : Type 0
StatementsEnd =
    (s : List ℕ) (ss : List Stmt) (next x : ℕ) → program (contents (tokens s)) ≡ ok ss next x → length ss ≡ ends (contents (tokens s))

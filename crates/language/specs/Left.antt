-- What calls count and leave, read back word by word: "on refusal every lent table is zero", counts that are true, the first rows
-- of a list and zeros after them. Of the words alone, so that a slip in `Numbers.antt` is seen.
use Rattle.std.specs.Prelude.{ℕ, ◌+◌, ◌*◌, ◌/◌, ◌≤◌, ◌<◌, ◌≡◌, List, [], ◌∷◌, ◌++◌, ◌⊎◌, eqb, length, get_or}
use Rattle.language.specs.Choice.{if'}
use Rattle.language.specs.Lexemes.{scan}
use Rattle.language.specs.Tokens.{tokens}
use Rattle.language.specs.Canonical.{text}
use Rattle.language.specs.Tables.{lexeme_row, lexeme_width, token_row, token_width}
use Rattle.language.specs.Sentences.{node_row, node_width}
use Rattle.language.specs.Judgements.{Diag}
use Rattle.language.specs.Findings.{diag_row, diag_width, stmt_row, stmt_width}
use Rattle.language.specs.Numbers.{scan_answer, scan_table, lex_answer, lex_table, parsed_nodes, parse_answer, parse_tokens, parse_nodes, canon_answer, canon_tokens, canon_text, token_of, checked, found_by, rows_by, comparisons, check_answer, check_tokens, check_nodes, check_diags, check_stmts}
use Rattle.language.specs.Exactly.{parse}

-- ---- one table

abbrev pub AllZero : List ℕ → Type 0
AllZero t = (i : ℕ) → get_or t i 0 ≡ 0

-- the rows of xs in n words: of those that fit, word j of each is at its place; all after them, and after the last that fits, is
-- zero
pub record Rows {A : Type 0} (row : A → List ℕ) (width n : ℕ) (xs : List A) (t : List ℕ) : Type 0 where
  pub word : (p q : List A) (x : A) → xs ≡ p ++ x ∷ q → length p < n / width → (j : ℕ) → j < width
      → get_or t (width * length p + j) 0 ≡ get_or (row x) j 0
  pub past : (i j : ℕ) → (length xs ≤ i) ⊎ (n / width ≤ i) → get_or t (width * i + j) 0 ≡ 0

-- what a call with the number `number` leaves of a list in n words, and how many it counts
pub record Leaves {A : Type 0} (row : A → List ℕ) (width n : ℕ) (xs : List A) (number count : ℕ) (t : List ℕ) : Type 0 where
  pub size : length t ≡ n
  pub refused : (number ≡ 0 → ⊥) → (count ≡ 0) × AllZero t
  pub counted : number ≡ 0 → count ≡ length xs
  pub rows : number ≡ 0 → Rows row width n xs t

-- a text is rows of one byte
abbrev pub byte_row : ℕ → List ℕ
byte_row b = b ∷ []

-- ---- the tables of each call: its number and counts, and each table as it is left

abbrev pub ScanLeaves : List ℕ → ℕ → ℕ → ℕ → List ℕ → Type 0
ScanLeaves line n number count left = Leaves lexeme_row lexeme_width n (scan line) number count left

abbrev pub LexLeaves : List ℕ → ℕ → ℕ → ℕ → List ℕ → Type 0
LexLeaves s n number count left = Leaves token_row token_width n (tokens s) number count left

pub record ParseLeaves (s : List ℕ) (t n number counted rows : ℕ) (toks tree : List ℕ) : Type 0 where
  pub tokens : LexLeaves s t number counted toks
  pub nodes : Leaves node_row node_width n (parsed_nodes (parse s)) number rows tree

pub record CanonLeaves (s : List ℕ) (t n number counted bytes : ℕ) (toks left : List ℕ) : Type 0 where
  pub tokens : LexLeaves s t number counted toks
  pub text : Leaves byte_row 1 n (text s) number bytes left

-- how many findings have a row with a severity: 1 an error, 2 a warning
unfoldable pub severe : List ℕ → ℕ → List Diag → ℕ
severe s k [] = 0
severe s k (d ∷ ds) = if' (eqb (get_or (diag_row (token_of s) d) 2 0) k) 1 0 + severe s k ds

-- "Its first rows, as many as fit, are kept, and errors and warnings are counted in full. If errors were counted, the statement
-- table is all zero and its count 0"
pub record CheckLeaves (s : List ℕ) (t n d k number counted rows errors warnings statements compared : ℕ) (toks tree found held : List ℕ) : Type 0 where
  pub tokens : LexLeaves s t number counted toks
  pub nodes : Leaves node_row node_width n (parsed_nodes (parse s)) number rows tree
  pub diags : Leaves (diag_row (token_of s)) diag_width d (found_by (checked s)) number (errors + warnings) found
  pub wrong : number ≡ 0 → errors ≡ severe s 1 (found_by (checked s))
  pub warned : number ≡ 0 → warnings ≡ severe s 2 (found_by (checked s))
  pub stmts : errors ≡ 0 → Leaves (stmt_row (token_of s)) stmt_width k (rows_by (checked s)) number statements held
  pub none_held : (errors ≡ 0 → ⊥) → (statements ≡ 0) × AllZero held
  -- "It joins the answer of check, is 0 on refusal" (02, E8), and no room is in it
  pub compares : number ≡ 0 → compared ≡ comparisons s
  pub none_compared : (number ≡ 0 → ⊥) → compared ≡ 0

-- ---- the claims

abbrev pub ScanLeft : Type 0
ScanLeft = (line : List ℕ) (n : ℕ) → let a = scan_answer line (n / lexeme_width) in ScanLeaves line n a.verdict.number a.count (scan_table line n)

abbrev pub LexLeft : Type 0
LexLeft = (s : List ℕ) (n : ℕ) → let a = lex_answer s (n / token_width) in LexLeaves s n a.verdict.number a.count (lex_table s n)

abbrev pub ParseLeft : Type 0
ParseLeft =
    (s : List ℕ) (t n : ℕ)
    → let a = parse_answer s (t / token_width) (n / node_width) in
    ParseLeaves s t n a.verdict.number a.tokens a.nodes (parse_tokens s t n) (parse_nodes s t n)

abbrev pub CanonLeft : Type 0
CanonLeft =
    (s : List ℕ) (t n : ℕ)
    → let a = canon_answer s (t / token_width) n in
    CanonLeaves s t n a.verdict.number a.tokens a.bytes (canon_tokens s t n) (canon_text s t n)

abbrev pub CheckLeft : Type 0
CheckLeft =
    (s : List ℕ) (t n d k : ℕ)
    → let a = check_answer s (t / token_width) (n / node_width) (k / stmt_width) in
    CheckLeaves s t n d k a.verdict.number a.tokens a.nodes a.errors a.warnings a.statements a.comparisons (check_tokens s t n k)
    (check_nodes s t n k) (check_diags s t n k d) (check_stmts s t n k)

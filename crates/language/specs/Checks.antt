-- Checking goes by contents alone, so a source and its canonical text are checked alike (demand 3, its last sentence):
-- "checking the text with the same rooms gives the same answer (refusals too, with the same number and kind), the same
-- counts, and the same diagnostics and statements in the same order, places aside, names and string bodies compared by
-- their bytes".
use Rattle.std.specs.Prelude.{ℕ, ◌≤◌, ◌<◌, ◌≡◌, eqb, length, get_or, take, drop}
use mathlib.Core.List.{List, [], ◌∷◌, Memᴰ}
use Rattle.std.proofs.Math.Option.{none, some}
use Rattle.table.specs.Table.{tabled}
use Rattle.language.specs.Choice.{if'}
use Rattle.language.specs.Tokens.{string, tokens, contents, between, bodies_in}
use Rattle.language.specs.Canonical.{text, Lexes, Fits}
use Rattle.language.specs.Values.{Value, is_string, is_function, Ty, Param, table_text, entry_at}
use Rattle.language.specs.Terms.{constant, Term, Terms, atom, called}
use Rattle.language.specs.Judgements.{What, unknown_item, already_bound, arg_type, Diag, errors_in, name_at}
use Rattle.language.specs.Findings.{Detail, detail, diag_row, diag_width, value_text, shown_low, shown_high, Row, stmt_row, stmt_width}
use Rattle.language.specs.Numbers.{Checked, check_answer, check_nodes, check_diags, check_stmts, checked, found_by, rows_by, token_of, where_done, SameVerdict}

-- ---- answers

-- "the same answer (refusals too, with the same number and kind), the same counts"; a refusal names the same token
pub record SameCheck (s u : List ℕ) (a b : Checked) : Type 0 where
  pub verdict : SameVerdict s u a.verdict b.verdict
  pub tokens : a.tokens ≡ b.tokens
  pub nodes : a.nodes ≡ b.nodes
  pub errors : a.errors ≡ b.errors
  pub warnings : a.warnings ≡ b.warnings
  pub statements : a.statements ≡ b.statements
  pub comparisons : a.comparisons ≡ b.comparisons

-- ---- findings

-- the first two numbers are the place of a token
abbrev pub TokenShown : List ℕ → Detail → ℕ → Type 0
TokenShown s a t = (a.first ≡ (token_of s t).line) × (a.second ≡ (token_of s t).column)

-- "the same diagnostics .., places aside, names .. compared by their bytes": what two rows of one kind say after their
-- places. Where the text is 1 it is a name of the source, else a part of the constant table's text or none; a name bound
-- twice shows where it was bound first, which is the same token in each source.
pub record SameDetail (s u : List ℕ) (w : What) (a b : Detail) : Type 0 where
  pub severity : a.severity ≡ b.severity
  pub kind : a.kind ≡ b.kind
  pub text : a.text ≡ b.text
  pub name : a.text ≡ 1 → between s a.start a.end ≡ between u b.start b.end
  pub start : (a.text ≡ 1 → ⊥) → a.start ≡ b.start
  pub end : (a.text ≡ 1 → ⊥) → a.end ≡ b.end
  pub type : a.type ≡ b.type
  pub bound : (t : ℕ) → w ≡ already_bound t → TokenShown s a t × TokenShown u b t
  pub first : ((t : ℕ) → w ≡ already_bound t → ⊥) → a.first ≡ b.first
  pub second : ((t : ℕ) → w ≡ already_bound t → ⊥) → a.second ≡ b.second
  pub third : a.third ≡ b.third

-- a finding, by its rows for both sources. The last word is compared too (02, E7): "Demand 3's 'places aside' does not remove it:
-- canonical text must give the same statement numbers."
pub record SameFinding (s u : List ℕ) (d : Diag) : Type 0 where
  pub detail : SameDetail s u d.what (detail (token_of s) d.at d.what) (detail (token_of u) d.at d.what)
  pub statement : get_or (diag_row (token_of s) d) 11 0 ≡ get_or (diag_row (token_of u) d) 11 0

-- ---- statements

-- the bodies in the span of a token
abbrev pub bodies_at : List ℕ → ℕ → List (List ℕ)
bodies_at s t = bodies_in (between s (token_of s t).start (token_of s t).end)

-- "the same .. statements .., places aside, .. string bodies compared by their bytes": a row is the same but for both lines and
-- columns, and the string that it names has the same bodies
pub record SameStatement (s u : List ℕ) (r : Row) : Type 0 where
  pub does : take 3 (drop 2 (stmt_row (token_of s) r)) ≡ take 3 (drop 2 (stmt_row (token_of u) r))
  pub says : drop 7 (stmt_row (token_of s) r) ≡ drop 7 (stmt_row (token_of u) r)
  pub bodies : (p t : ℕ) → r.term ≡ atom p (constant (is_string t)) → bodies_at s t ≡ bodies_at u t

-- ---- the claims

-- the findings and the rows of statements that checking with tables of t, n and k words leaves
abbrev pub diags_left : List ℕ → ℕ → ℕ → ℕ → List Diag
diags_left s t n k = where_done s t n k (found_by (checked s))

abbrev pub stmts_left : List ℕ → ℕ → ℕ → ℕ → List Row
stmts_left s t n k = where_done s t n k (if' (eqb (errors_in (found_by (checked s))) 0) (rows_by (checked s)) [])

-- the table of diagnostics, of m words, has the rows of ds; the table of statements has the rows rs
abbrev pub DiagsAre : List ℕ → ℕ → ℕ → ℕ → ℕ → List Diag → Type 0
DiagsAre s t n k m ds = check_diags s t n k m ≡ tabled (diag_row (token_of s)) diag_width m ds

abbrev pub StmtsAre : List ℕ → ℕ → ℕ → ℕ → List Row → Type 0
StmtsAre s t n k rs = check_stmts s t n k ≡ tabled (stmt_row (token_of s)) stmt_width k rs

-- the whole sentence. Findings and statements name tokens by their index, so "the same .. in the same order" is that the
-- lists are equal: both tables have the rows of one list, and each of its members is the same, places aside.
pub record CheckedAlike (s u : List ℕ) : Type 0 where
  pub answer : (t n k : ℕ) → SameCheck s u (check_answer s t n k) (check_answer u t n k)
  pub nodes : (t n k : ℕ) → check_nodes s t n k ≡ check_nodes u t n k
  pub outcome : checked s ≡ checked u
  pub diags : (t n k m : ℕ) → DiagsAre s t n k m (diags_left s t n k) × DiagsAre u t n k m (diags_left s t n k)
  pub stmts : (t n k : ℕ) → StmtsAre s t n k (stmts_left s t n k) × StmtsAre u t n k (stmts_left s t n k)
  pub finding : (d : Diag) → Memᴰ d (found_by (checked s)) → SameFinding s u d
  pub statement : (r : Row) → Memᴰ r (rows_by (checked s)) → SameStatement s u r

-- sources that lex to the same contents are checked alike
abbrev pub CheckedByContents : Type 0
CheckedByContents = (s u : List ℕ) → Lexes s → Lexes u → contents (tokens s) ≡ contents (tokens u) → CheckedAlike s u

-- and so are a source and its canonical text: "for sources that lex without refusal and whose canonical text fits"
abbrev pub TextChecked : Type 0
TextChecked = (s : List ℕ) → Fits s → CheckedAlike (text s) s

-- ---- names that are shown

-- from one place of a text to a later one
abbrev pub PartOf : List ℕ → ℕ → ℕ → Type 0
PartOf text start end = (start < end) × (end ≤ length text)

-- an entry of the constant table that is a module: it has a name and no value
pub record ModuleEntry (k : ℕ) : Type 0 where
  pub named : PartOf table_text (entry_at k).start (entry_at k).end
  pub plain : (entry_at k).value ≡ none

-- one that is a function: it has a name and is its own value, and so many parameters, which have names
pub record FunctionEntry (k : ℕ) : Type 0 where
  pub named : PartOf table_text (entry_at k).start (entry_at k).end
  pub itself : (entry_at k).value ≡ some (is_function k)
  pub params : (p : Param) → Memᴰ p (entry_at k).params → PartOf table_text p.start p.end

-- "A name shown in a diagnostic is a part of the source or of the table's text": in the source it is the name of the token
-- where the finding stands. An unknown item's first number is the entry of its module, whose name is in the table's text; of an argument of the wrong type
-- the first is the entry of the function, and the second the number of its parameter.
pub record NameShown (s : List ℕ) (d : Diag) (a : Detail) : Type 0 where
  pub known : a.text ≤ 2
  pub source : a.text ≡ 1 → PartOf s a.start a.end × (between s a.start a.end ≡ name_at (contents (tokens s)) d.at)
  pub table : a.text ≡ 2 → PartOf table_text a.start a.end
  pub inside : (m : ℕ) → d.what ≡ unknown_item m → ModuleEntry a.first
  pub argument : (f i : ℕ) (t u : Ty) → d.what ≡ arg_type f i t u
      → FunctionEntry a.first × (a.second < length (entry_at a.first).params)

-- a statement's text: in the source a string by its token, whose span lies there and holds its bodies; else a part of the
-- table's text, the bytes or the function's name
pub record TextShown (s : List ℕ) (v : Value) : Type 0 where
  pub known : value_text v ≤ 2
  pub source : value_text v ≡ 1
      → (b : List ℕ) × (bs : List (List ℕ)) × ((token_of s (shown_low v)).content ≡ string b bs) × (bodies_at s (shown_low v) ≡ b ∷ bs)
      × PartOf s (token_of s (shown_low v)).start (token_of s (shown_low v)).end
  pub table : value_text v ≡ 2 → PartOf table_text (shown_low v) (shown_high v)

-- of every finding, and of every row of a statement; a call's row names a function
abbrev pub NamesShown : Type 0
NamesShown =
    (s : List ℕ)
    → ((d : Diag) → Memᴰ d (found_by (checked s)) → NameShown s d (detail (token_of s) d.at d.what))
    × ((r : Row) → Memᴰ r (rows_by (checked s)) → (p : ℕ) (v : Value) → r.term ≡ atom p (constant v) → TextShown s v)
    × ((r : Row) → Memᴰ r (rows_by (checked s)) → (p f : ℕ) (c : Term) (vs : Terms) → r.term ≡ called p c f vs → FunctionEntry f)

-- How the checker's counts, entries, tables and answers stand for the language's.
use Rattle.std.specs.Prelude.{ℕ, ◌+◌, ◌*◌, ◌≤◌, ◌<◌, ◌≡◌, eqb, length, Result, Ok, Err}
use mathlib.Core.List.{List, [], ◌∷◌, ◌++◌, Memᴰ}
use Rattle.std.proofs.Math.Option.{Option}
use Rattle.language.specs.Choice.{if'}
use Rattle.language.specs.Tokens as tokens
use Rattle.language.specs.Tokens.{Content, contents, between}
use Rattle.language.specs.Sentences.{Expr, Stmt, import', let', expr', expr_size, program_size, node_width}
use Rattle.language.specs.Terms as terms
use Rattle.language.specs.Terms.{Atom, atom_of, term_type}
use Rattle.language.specs.Judgements as judgements
use Rattle.language.specs.Judgements.{Diag, diag, errors_in, val, err, poisoned, stopped, Held, Known, known, already_bound, most_names, most_imports, narrowed, used, deed_of, goes, refuses, and_then, does, sized, bound_as, bound, name_at, judge}
use Rattle.language.specs.Findings.{rows_of}
use Rattle.language.specs.Numbers.{token_of}
use Rattle.language.specs.Sound.{SoundStmt}
use Rattle.rows.specs.Rows.{node_word}
use Rattle.rows.specs.declared.token.Token.{Token}
use Rattle.rows.specs.Tokens.{token_as}
use Rattle.names.specs.declared.Entry.{Entry}
use Rattle.names.specs.Names.{key_of}
use Rattle.findings.specs.declared.Counts.{Counts}
use Rattle.findings.specs.Findings.{most_compared, Adds}
use Rattle.values.specs.declared.Term.{Term}
use Rattle.values.specs.Values.{form_of, kind_of, low_of, high_of}
use Rattle.paths.specs.Paths.{or_none}
use Rattle.holding.specs.Holding.{Step}
use Rattle.holding.specs.Holding.{most_rows, put_held, Agrees}
use Rattle.judging.specs.Judging.{most_findings, RepAt, Left}
use Rattle.statements.specs.Turned.{Turn}
use Rattle.statements.specs.Turned as turn
use Rattle.statements.specs.declared.Refusal.{Refusal}
use Rattle.statements.specs.declared.Refusal.TheVariants.{Calls, Names}

-- ---- counts

abbrev pub no_counts : Counts
no_counts = record { used = 0; imported = 0; slots = 0; errors = 0; warnings = 0; statements = 0; number = 0; comparisons = 0 }

-- the next statement
abbrev pub plus_number : Counts → Counts
plus_number c =
    record {
      used = c.used;
      imported = c.imported;
      slots = c.slots;
      errors = c.errors;
      warnings = c.warnings;
      statements = c.statements;
      number = c.number + 1;
      comparisons = c.comparisons;
    }

-- the rows up to `next` are held
abbrev pub held_to : Counts → ℕ → Counts
held_to c next =
    record {
      used = c.used;
      imported = c.imported;
      slots = c.slots;
      errors = c.errors;
      warnings = c.warnings;
      statements = next;
      number = c.number;
      comparisons = c.comparisons;
    }

-- a slot more, and the rows up to `next` are held
abbrev pub plus_slot : Counts → ℕ → Counts
plus_slot c next =
    record {
      used = c.used;
      imported = c.imported;
      slots = c.slots + 1;
      errors = c.errors;
      warnings = c.warnings;
      statements = next;
      number = c.number;
      comparisons = c.comparisons;
    }

-- a name more is bound
abbrev pub plus_name : Counts → Counts
plus_name c =
    record {
      used = c.used + 1;
      imported = c.imported;
      slots = c.slots;
      errors = c.errors;
      warnings = c.warnings;
      statements = c.statements;
      number = c.number;
      comparisons = c.comparisons;
    }

-- a name more is imported
abbrev pub plus_import : Counts → Counts
plus_import c =
    record {
      used = c.used;
      imported = c.imported + 1;
      slots = c.slots;
      errors = c.errors;
      warnings = c.warnings;
      statements = c.statements;
      number = c.number;
      comparisons = c.comparisons;
    }

-- all counts but those of slots and of what is held
abbrev pub unheld : Counts → Counts
unheld c =
    record {
      used = c.used;
      imported = c.imported;
      slots = 0;
      errors = c.errors;
      warnings = c.warnings;
      statements = 0;
      number = c.number;
      comparisons = c.comparisons;
    }

-- the counts of findings and comparisons alone
abbrev pub unnamed : Counts → Counts
unnamed c =
    record {
      used = 0;
      imported = 0;
      slots = 0;
      errors = c.errors;
      warnings = c.warnings;
      statements = 0;
      number = 0;
      comparisons = c.comparisons;
    }

-- one finding, one row and one slot more can be counted
pub record Room (c : Counts) : Type 0 where
  pub findings : c.errors + c.warnings < most_findings
  pub held : c.statements < most_rows
  pub slots : c.slots < most_findings

-- ---- entries

-- the entry is of the name at the token t
pub record Named (s : List ℕ) (t : ℕ) (e : Entry) : Type 0 where
  pub name : between s e.start e.end ≡ name_at (contents (tokens.tokens s)) t
  pub key : e.key ≡ key_of (name_at (contents (tokens.tokens s)) t)
  pub token : e.token ≡ t

-- and stands for a term
pub record Stands (v : Term) (e : Entry) : Type 0 where
  pub form : e.form ≡ v.form
  pub kind : e.kind ≡ v.kind
  pub low : e.lo ≡ v.lo
  pub high : e.hi ≡ v.hi

pub record Enters (tok : Token) (t key : ℕ) (v : Term) (e : Entry) : Type 0 where
  pub named : (s : List ℕ) → tok ≡ token_as (token_of s t) → key ≡ key_of (name_at (contents (tokens.tokens s)) t) → Named s t e
  pub stands : Stands v e

-- what no value is bound to: of a name that failed the kind is 0, of an import it is the number of its module
abbrev pub no_value : ℕ → Term
no_value kind = record { at = 0; form = 0; kind = kind; lo = 0; hi = 0 }

-- ---- what a statement does

-- the kind of its row, by the number of its value's type
unfoldable pub deed_number : ℕ → ℕ
deed_number k = if' (eqb k 10) 2 (if' (eqb k 11) 2 (if' (eqb k 12) 3 (if' (eqb k 1) 4 5)))

-- ---- turns

abbrev pub IsVal : {A : Type 0} → judgements.Judged A → Type 0
IsVal (val v) = Unit {0}
IsVal (err at w) = ⊥
IsVal poisoned = ⊥
IsVal (stopped t) = ⊥

-- a statement's expression comes to a value
abbrev pub Valued : List Content → ℕ → Known → Stmt → Type 0
Valued ts n k (import' t) = Unit {0}
Valued ts n k (let' t e) = IsVal (and_then (judge ts n k e) used).out
Valued ts n k (expr' e) = IsVal (judge ts n k e).out

-- what a statement adds and holds, after which k is known: the tables of findings and of what is held from x and u to y and v. Of the
-- latter nothing is said but where P holds: where the expression comes to a value.
pub record Grows (s : List ℕ) (P : Type 0) (c : Counts) (x u : List ℕ) (c' : Counts) (y v : List ℕ) (k : Known) (ds : List Diag) (hs : List Held) (ls : List ℕ) : Type 0 where
  pub adds : Adds s (unheld c) x (unheld c') y ds ls
  pub slots : c'.slots ≡ k.slots
  pub statements : c'.statements ≡ c.statements + length (rows_of hs)
  pub stmts : P → v ≡ put_held s u c.statements (rows_of hs)

-- the number of a refusal, and the token where it stands
abbrev pub refusal_number : Refusal → ℕ
refusal_number (Calls t) = 8
refusal_number (Names t) = 9

abbrev pub refusal_token : Refusal → ℕ
refusal_token (Calls t) = t
refusal_token (Names t) = t

-- it goes on, and no name is more
abbrev pub GoesOf : List ℕ → Type 0 → Known → Counts → List ℕ → List ℕ → Counts → List ℕ → List ℕ → judgements.Turn → Type 0
GoesOf s P k c x u c' y v (goes k' ds hs ls) = (k' ≡ k) × Grows s P c x u c' y v k' ds hs ls
GoesOf s P k c x u c' y v (refuses m t) = ⊥

-- an expression statement at the token t, of which the value v stays
pub record Does (s : List ℕ) (t : ℕ) (v : Term) (next : ℕ) (c : Counts) (x u : List ℕ) (c' : Counts) (y w : List ℕ) : Type 0 where
  pub is : (n : ℕ) (k : Known) (e : terms.Term) (h : List ℕ) → n ≡ c.number → c.slots ≡ k.slots → Left s h u c.statements e v next
      → GoesOf s (Unit {0}) k c x h c' y w (does (contents (tokens.tokens s)) n k t e (deed_of (term_type e)) [] [])

-- a value that is told of
pub record Tells (s : List ℕ) (t : ℕ) (v : Term) (next : ℕ) (c : Counts) (x u : List ℕ) (c' : Counts) (y w : List ℕ) : Type 0 where
  pub is : (n : ℕ) (k : Known) (e : terms.Term) (h : List ℕ) → n ≡ c.number → c.slots ≡ k.slots → Left s h u c.statements e v next
      → GoesOf s (Unit {0}) k c x h c' y w (sized (contents (tokens.tokens s)) n k t (narrowed e) [] [])

-- a name that is bound, with what it stands for or with nothing
pub record BindsName (s : List ℕ) (k : Known) (c : Counts) (e : Entry) (k' : Known) : Type 0 where
  pub token : ℕ
  pub value : Option Atom
  pub slots : ℕ
  pub named : Named s token e
  pub form : e.form ≡ form_of value
  pub kind : e.kind ≡ kind_of value
  pub low : e.lo ≡ low_of value
  pub high : e.hi ≡ high_of value
  pub known : k' ≡ known k.imports (k.bindings ++ record { name = name_at (contents (tokens.tokens s)) token; tok = token; value = value } ∷ []) slots
  pub room : c.used < most_names

-- a name that is imported, with its module or with none
pub record ImportsName (s : List ℕ) (k : Known) (c : Counts) (e : Entry) (k' : Known) : Type 0 where
  pub token : ℕ
  pub named : Named s token e
  pub known : k' ≡ known (k.imports ++ record { name = name_at (contents (tokens.tokens s)) token; found = or_none e.kind } ∷ []) k.bindings k.slots
  pub room : c.imported < most_imports

abbrev pub TurnOf : List ℕ → Type 0 → Known → Counts → List ℕ → List ℕ → Result Turn Refusal → List ℕ → List ℕ → judgements.Turn → Type 0
TurnOf s P k c x u (Ok (turn.Went c')) y v (goes k' ds hs ls) = (k' ≡ k) × Grows s P c x u c' y v k' ds hs ls
TurnOf s P k c x u (Ok (turn.Binds c' e)) y v (goes k' ds hs ls) = BindsName s k c e k' × Grows s P c x u c' y v k' ds hs ls
TurnOf s P k c x u (Ok (turn.Imports c' e)) y v (goes k' ds hs ls) = ImportsName s k c e k' × Grows s P c x u c' y v k' ds hs ls
TurnOf s P k c x u (Err r) y v (goes k' ds hs ls) = ⊥
TurnOf s P k c x u (Ok (turn.Went c')) y v (refuses m t) = ⊥
TurnOf s P k c x u (Ok (turn.Binds c' e)) y v (refuses m t) = ⊥
TurnOf s P k c x u (Ok (turn.Imports c' e)) y v (refuses m t) = ⊥
TurnOf s P k c x u (Err r) y v (refuses m t) = (refusal_number r ≡ m) × (refusal_token r ≡ t)

pub record Turns (s : List ℕ) (n : ℕ) (k : Known) (st : Stmt) (c : Counts) (x u : List ℕ) (r : Result Turn Refusal) (y v : List ℕ) : Type 0 where
  pub turn : TurnOf s (Valued (contents (tokens.tokens s)) n k st) k c x u r y v (judgements.stmt (contents (tokens.tokens s)) n k st)

-- the expression of the statement in row i can be judged, and a finding, a row and a slot more be counted
pub record StmtFits (ws : List ℕ) (i : ℕ) (c : Counts) : Type 0 where
  pub tree : Expr
  pub rep : RepAt ws (node_word ws i 2) tree
  pub room : c.errors + c.warnings + expr_size tree + 2 ≤ most_findings
  pub held : c.statements + expr_size tree ≤ most_rows
  pub slots : c.slots < most_findings
  pub looks : c.comparisons + most_names * (expr_size tree + 1) ≤ most_compared

-- a step whose value must not be void
pub record Values (s : List ℕ) (step r : Step) : Type 0 where
  pub is : (x y u v : List ℕ) (c : Counts) (at : ℕ) (j : judgements.Judgement terms.Term) → Agrees s step x y u v c at j
      → Agrees s r x y u v c at (and_then j used)

-- a `let` of the value v, which was judged from the counts c on
pub record BindsValue (s : List ℕ) (tok : Token) (t key : ℕ) (v : Term) (next : ℕ) (c' : Counts) (u : List ℕ) (r : Result Turn Refusal) (w : List ℕ) : Type 0 where
  pub is : (x y h : List ℕ) (n : ℕ) (k : Known) (c : Counts) (e : terms.Term) (ws : List Diag) (ls : List ℕ) → c.used < most_names → c.slots ≡ k.slots
      → tok ≡ token_as (token_of s t) → key ≡ key_of (name_at (contents (tokens.tokens s)) t) → Adds s c x c' y ws ls → Left s h u c.statements e v next
      → TurnOf s (Unit {0}) k c x h r y w (bound_as (contents (tokens.tokens s)) n k t e (atom_of e) ws ls)

-- a `let` after its value was judged: what that came to, and what was added on the way there
pub record Binds (s : List ℕ) (tok : Token) (t key : ℕ) (step : Step) (x' u' : List ℕ) (r : Result Turn Refusal) (y w : List ℕ) : Type 0 where
  pub is : (x u : List ℕ) (n : ℕ) (k : Known) (c : Counts) (j : judgements.Judgement terms.Term) → n ≡ c.number → c.used < most_names → c.slots ≡ k.slots
      → tok ≡ token_as (token_of s t) → key ≡ key_of (name_at (contents (tokens.tokens s)) t) → Agrees s step x x' u u' c c.statements j
      → TurnOf s (IsVal j.out) k c x u r y w (bound (contents (tokens.tokens s)) n k t j.out j.warns j.looks)

-- a name that was bound before, at the token `first`
pub record BoundTwice (s : List ℕ) (tok : Token) (first : ℕ) (c : Counts) (x : List ℕ) (c' : Counts) (y : List ℕ) : Type 0 where
  pub adds : (n t : ℕ) → n ≡ c.number → tok ≡ token_as (token_of s t) → Adds s c x c' y (diag n t (already_bound first) ∷ []) []

-- ---- statements in the node table: the loop goes over all rows

pub data StmtsAt (ws : List ℕ) : ℕ → List Stmt → Type 0 where
  at_end : {i : ℕ} → length ws ≤ node_width * i → StmtsAt ws i []
  -- a row of an expression
  no_stmt : {i : ℕ} {ss : List Stmt} → node_width * i + node_width ≤ length ws → node_word ws i 0 < 11 → StmtsAt ws (i + 1) ss → StmtsAt ws i ss
  an_import : {i : ℕ} {ss : List Stmt} → node_width * i + node_width ≤ length ws → node_word ws i 0 ≡ 11 → StmtsAt ws (i + 1) ss
      → StmtsAt ws i (import' (node_word ws i 1) ∷ ss)
  a_let : {i : ℕ} {e : Expr} {ss : List Stmt} → node_width * i + node_width ≤ length ws → node_word ws i 0 ≡ 12 → RepAt ws (node_word ws i 2) e
      → StmtsAt ws (i + 1) ss → StmtsAt ws i (let' (node_word ws i 1) e ∷ ss)
  an_expr : {i : ℕ} {e : Expr} {ss : List Stmt} → node_width * i + node_width ≤ length ws → node_word ws i 0 ≡ 13 → RepAt ws (node_word ws i 2) e
      → StmtsAt ws (i + 1) ss → StmtsAt ws i (expr' e ∷ ss)

-- the statements from row i on can be judged, and what they find and hold be counted: a statement has as many rows as it can
-- have findings, or more
pub record RowFits (ws : List ℕ) (i : ℕ) (c : Counts) : Type 0 where
  pub list : List Stmt
  pub stands : StmtsAt ws i list
  pub room : c.errors + c.warnings + program_size list + 1 ≤ most_findings
  pub held : c.statements + program_size list ≤ most_rows
  pub slots : c.slots + program_size list ≤ most_findings
  pub begun : c.number + program_size list ≤ most_findings
  pub looks : c.comparisons + most_names * program_size list ≤ most_compared

-- row i of the statements ss that are left: it passes a row of an expression, or takes a turn with the first. Before, the
-- tables were x and u.
pub data RowTurns (s ws : List ℕ) (i n : ℕ) (k : Known) (c : Counts) (x u : List ℕ) (r : Result Turn Refusal) (y v : List ℕ) : List Stmt → Type 0 where
  passes : {ss : List Stmt} → StmtsAt ws (i + 1) ss → r ≡ Ok (turn.Went c) → y ≡ x → v ≡ u → RowTurns s ws i n k c x u r y v ss
  takes : {st : Stmt} {ss : List Stmt} → StmtsAt ws (i + 1) ss → Turns s n k st (plus_number c) x u r y v → RowTurns s ws i n k c x u r y v (st ∷ ss)

-- ---- the run

-- each statement names tokens that are there and of their kinds
abbrev pub AllSound : List Content → List Stmt → Type 0
AllSound ts ss = (a : Stmt) → Memᴰ a ss → SoundStmt ts a

-- what the statements found and held, whatever names they bound: where there is no error, the table of what is held has just their
-- rows
pub record Found (s x u : List ℕ) (c : Counts) (y v : List ℕ) (ds : List Diag) (hs : List Held) (ls : List ℕ) : Type 0 where
  pub adds : Adds s no_counts x (unnamed c) y ds ls
  pub statements : c.statements ≡ length (rows_of hs)
  pub stmts : errors_in ds ≡ 0 → v ≡ put_held s u 0 (rows_of hs)

abbrev pub ComesTo : List ℕ → List ℕ → List ℕ → Result Counts Refusal → List ℕ → List ℕ → judgements.Outcome → Type 0
ComesTo s x u (Ok c) y v (judgements.judged ds hs ls) = Found s x u c y v ds hs ls
ComesTo s x u (Ok c) y v (judgements.refused m t) = ⊥
ComesTo s x u (Err r) y v (judgements.judged ds hs ls) = ⊥
ComesTo s x u (Err r) y v (judgements.refused m t) = (refusal_number r ≡ m) × (refusal_token r ≡ t)

-- the tables of findings and of what is held were x and u, and are y and v after the run
pub record Comes (s x u : List ℕ) (r : Result Counts Refusal) (y v : List ℕ) (o : judgements.Outcome) : Type 0 where
  pub come : ComesTo s x u r y v o

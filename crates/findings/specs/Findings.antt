-- How the code's findings stand for the language's: the finding at a token, its row, and what one adds to the counts and the
-- table.
use Rattle.std.specs.Prelude.{ℕ, ◌+◌, ◌≡◌, Bool, ◌||◌, List, [], ◌∷◌, eqb, leb}
use Rattle.table.specs.Table.{put_row}
use Rattle.wide.specs.Wide.{wide_of}
use Rattle.rows.specs.declared.layout.DiagnosticRow.{DiagnosticRow}
use Rattle.rows.specs.declared.token.Token.{Token}
use Rattle.rows.specs.declared.types.Text.{Text}
use Rattle.rows.specs.declared.types.Type.{«Type»}
use Rattle.rows.specs.Tokens.{token_as}
use Rattle.language.specs.Choice.{if'}
use Rattle.language.specs.Tokens as tokens
use Rattle.language.specs.Values.{Ty, ty_kind, entry_at}
use Rattle.language.specs.Judgements as judgements
use Rattle.language.specs.Judgements.{Diag, errors_in, warnings_in}
use Rattle.language.specs.Findings.{ty_entry, diag_row}
use Rattle.language.specs.Numbers.{token_of, sum}
use Rattle.findings.specs.declared.Side.{Side}
use Rattle.findings.specs.declared.Side.TheVariants as side_is
use Rattle.findings.specs.declared.What.{What}
use Rattle.findings.specs.declared.What.TheVariants as what_is
use Rattle.findings.specs.declared.Diagnostic.{Diagnostic}
use Rattle.findings.specs.declared.Counts.{Counts}

-- ---- kinds

abbrev pub side_number : Side → ℕ
side_number side_is.Left = 1
side_number side_is.Right = 2

abbrev pub kind_number : What → ℕ
kind_number what_is.UnknownName = 1
kind_number (what_is.UnknownItem m) = 2
kind_number what_is.UnknownModule = 4
kind_number what_is.NotImported = 5
kind_number what_is.NotAModule = 6
kind_number what_is.NotAValue = 7
kind_number (what_is.AlreadyBound l c) = 8
kind_number (what_is.NoMembers t) = 9
kind_number (what_is.OperandType s w t) = 10
kind_number (what_is.NotCallable t) = 11
kind_number (what_is.TooManyArgs f a b) = 12
kind_number (what_is.TooFewArgs f a b) = 13
kind_number (what_is.ArgType f i w t) = 19
kind_number what_is.VoidValue = 21
kind_number what_is.IntegralTooLarge = 22
kind_number what_is.MultipleImports = 23
kind_number (what_is.DiscardedValue t) = 24
kind_number (what_is.Truncated n t) = 25
kind_number (what_is.Overflow t w) = 26

-- of a kind: 1 an error, 2 a warning
unfoldable pub severity_number : ℕ → ℕ
severity_number k = if' (((eqb k 23 || eqb k 24) || eqb k 25) || eqb k 26) 2 1

-- whether a kind shows the name of its token
unfoldable pub shows_name : ℕ → Bool
shows_name k = leb k 8 || eqb k 23

-- ---- the language's findings

-- a type's number, and a function's entry
abbrev pub type_as : Ty → «Type»
type_as t = record { kind = ty_kind t; entry = ty_entry t }

abbrev pub side_as : judgements.Side → Side
side_as judgements.left = side_is.Left
side_as judgements.right = side_is.Right

abbrev pub what_as : (ℕ → tokens.Token) → judgements.What → What
what_as token_at judgements.unknown_name = what_is.UnknownName
what_as token_at (judgements.unknown_item m) = what_is.UnknownItem m
what_as token_at judgements.unknown_module = what_is.UnknownModule
what_as token_at judgements.not_imported = what_is.NotImported
what_as token_at judgements.not_a_module = what_is.NotAModule
what_as token_at judgements.not_a_value = what_is.NotAValue
what_as token_at (judgements.already_bound t) = what_is.AlreadyBound (token_at t).line (token_at t).column
what_as token_at (judgements.no_members ty) = what_is.NoMembers (type_as ty)
what_as token_at (judgements.operand_type s wanted found) = what_is.OperandType (side_as s) (ty_kind wanted) (type_as found)
what_as token_at (judgements.not_callable ty) = what_is.NotCallable (type_as ty)
what_as token_at (judgements.too_many_args f many wanted) = what_is.TooManyArgs f many wanted
what_as token_at (judgements.too_few_args f many wanted) = what_is.TooFewArgs f many wanted
what_as token_at (judgements.arg_type f i wanted found) = what_is.ArgType f i (ty_kind wanted) (type_as found)
what_as token_at judgements.void_value = what_is.VoidValue
what_as token_at judgements.integral_too_large = what_is.IntegralTooLarge
what_as token_at judgements.multiple_imports = what_is.MultipleImports
what_as token_at (judgements.discarded_value ty) = what_is.DiscardedValue (type_as ty)
what_as token_at (judgements.truncated n ty) = what_is.Truncated (wide_of n) (type_as ty)
what_as token_at (judgements.overflow found wanted) = what_is.Overflow (type_as found) (ty_kind wanted)

-- what was found at a place, with the span of the name where the kind shows one
unfoldable pub placed : ℕ → ℕ → ℕ → ℕ → What → Diagnostic
placed line column start end w =
    if' (shows_name (kind_number w)) (record { line = line; column = column; start = start; end = end; what = w })
    (record { line = line; column = column; start = 0; end = 0; what = w })

abbrev pub at_token : Token → What → Diagnostic
at_token tok w = placed tok.line tok.column tok.start tok.end w

-- of a source, at the token with that index
abbrev pub diagnostic_as : List ℕ → ℕ → judgements.What → Diagnostic
diagnostic_as s at w = at_token (token_as (token_of s at)) (what_as (token_of s) w)

-- ---- rows

-- the text that a type shows: a function's name
unfoldable pub type_text : «Type» → Text
type_text t =
    if' (eqb t.kind 14) (record { from = 2; start = (entry_at t.entry).start; end = (entry_at t.entry).end })
    (record { from = 0; start = 0; end = 0 })

-- the type of a function, by its entry
abbrev pub function_type : ℕ → «Type»
function_type f = record { kind = 14; entry = f }

-- a row by the text, the type and the numbers that it shows
abbrev pub shown_row : Diagnostic → Text → ℕ → ℕ → ℕ → ℕ → DiagnosticRow
shown_row d text ty a b c =
    record {
      line = d.line;
      column = d.column;
      severity = severity_number (kind_number d.what);
      kind = kind_number d.what;
      text = text.from;
      start = text.start;
      end = text.end;
      ty = ty;
      first = a;
      second = b;
      third = c;
      statement = 0;
    }

abbrev pub named_row : Diagnostic → ℕ → ℕ → DiagnosticRow
named_row d a b = shown_row d (record { from = 1; start = d.start; end = d.end }) 0 a b 0

abbrev pub typed_row : Diagnostic → «Type» → ℕ → ℕ → ℕ → DiagnosticRow
typed_row d ty a b c = shown_row d (type_text ty) ty.kind a b c

abbrev pub bare_row : Diagnostic → DiagnosticRow
bare_row d = shown_row d (record { from = 0; start = 0; end = 0 }) 0 0 0 0

-- what a finding shows, by its kind
abbrev pub row_by : Diagnostic → What → DiagnosticRow
row_by d what_is.UnknownName = named_row d 0 0
row_by d (what_is.UnknownItem m) = named_row d m 0
row_by d what_is.UnknownModule = named_row d 0 0
row_by d what_is.NotImported = named_row d 0 0
row_by d what_is.NotAModule = named_row d 0 0
row_by d what_is.NotAValue = named_row d 0 0
row_by d (what_is.AlreadyBound l c) = named_row d l c
row_by d (what_is.NoMembers t) = typed_row d t 0 0 0
row_by d (what_is.OperandType s w t) = typed_row d t (side_number s) w 1
row_by d (what_is.NotCallable t) = typed_row d t 0 0 0
row_by d (what_is.TooManyArgs f many wanted) = typed_row d (function_type f) many wanted 0
row_by d (what_is.TooFewArgs f many wanted) = typed_row d (function_type f) many wanted 0
row_by d (what_is.ArgType f i wanted t) = typed_row d t f i wanted
row_by d what_is.VoidValue = bare_row d
row_by d what_is.IntegralTooLarge = bare_row d
row_by d what_is.MultipleImports = named_row d 0 0
row_by d (what_is.DiscardedValue t) = typed_row d t 0 0 0
row_by d (what_is.Truncated n t) = typed_row d t n.lo n.hi 0
row_by d (what_is.Overflow t wanted) = typed_row d t wanted 0 0

unfoldable pub row_of : Diagnostic → DiagnosticRow
row_of d = row_by d d.what

-- a row with the number of a statement
abbrev pub numbered : ℕ → DiagnosticRow → DiagnosticRow
numbered n r =
    record {
      line = r.line;
      column = r.column;
      severity = r.severity;
      kind = r.kind;
      text = r.text;
      start = r.start;
      end = r.end;
      ty = r.ty;
      first = r.first;
      second = r.second;
      third = r.third;
      statement = n;
    }

-- the words of a row, in their order
abbrev pub row_words : DiagnosticRow → List ℕ
row_words r =
    r.line ∷ r.column ∷ r.severity ∷ r.kind ∷ r.text ∷ r.start ∷ r.end ∷ r.ty ∷ r.first ∷ r.second ∷ r.third ∷ r.statement
    ∷ []

-- of a finding of the statement numbered n
abbrev pub diagnostic_row : ℕ → Diagnostic → List ℕ
diagnostic_row n d = row_words (numbered n (row_of d))

-- rows stored from the row k on; one that does not fit is lost
unfoldable pub put_rows : {A : Type 0} → (A → List ℕ) → List ℕ → ℕ → List A → List ℕ
put_rows row t k [] = t
put_rows row t k (x ∷ xs) = put_rows row (put_row t k (row x)) (k + 1) xs

-- ---- counts

-- one error or one warning more, by its kind
unfoldable pub plus_finding : Counts → What → Counts
plus_finding c w =
    if' (eqb (severity_number (kind_number w)) 1)
    (record {
      used = c.used;
      imported = c.imported;
      slots = c.slots;
      errors = c.errors + 1;
      warnings = c.warnings;
      statements = c.statements;
      number = c.number;
      comparisons = c.comparisons;
    })
    (record {
      used = c.used;
      imported = c.imported;
      slots = c.slots;
      errors = c.errors;
      warnings = c.warnings + 1;
      statements = c.statements;
      number = c.number;
      comparisons = c.comparisons;
    })

-- so many names can be compared: 512 for each of 2^32 searches
abbrev pub most_compared : ℕ
most_compared = 2199023255552

-- one search more
abbrev pub plus_search : Counts → ℕ → Counts
plus_search c l =
    record {
      used = c.used;
      imported = c.imported;
      slots = c.slots;
      errors = c.errors;
      warnings = c.warnings;
      statements = c.statements;
      number = c.number;
      comparisons = c.comparisons + l;
    }

-- the counts after these findings and searches
unfoldable pub added : Counts → List Diag → List ℕ → Counts
added c ds ls =
    record {
      used = c.used;
      imported = c.imported;
      slots = c.slots;
      errors = c.errors + errors_in ds;
      warnings = c.warnings + warnings_in ds;
      statements = c.statements;
      number = c.number;
      comparisons = c.comparisons + sum ls;
    }

-- ---- what is added

-- one finding of the statement that is judged: the counts from c to c', the table from x to y
pub record Reports (c : Counts) (d : Diagnostic) (x : List ℕ) (c' : Counts) (y : List ℕ) : Type 0 where
  pub counted : c' ≡ plus_finding c d.what
  pub table : y ≡ put_row x (c.errors + c.warnings) (diagnostic_row c.number d)

-- what a step adds, from a leaf to the program: its findings and its searches, to the counts and to the table of diagnostics, from x
-- to y
pub record Adds (s : List ℕ) (c : Counts) (x : List ℕ) (c' : Counts) (y : List ℕ) (ds : List Diag) (ls : List ℕ) : Type 0 where
  pub counted : c' ≡ added c ds ls
  pub diags : y ≡ put_rows (diag_row (token_of s)) x (c.errors + c.warnings) ds

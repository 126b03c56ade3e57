-- What a row of the diagnostic table was: which findings rows can show, and the one that a row shows.
use Rattle.std.specs.Prelude.{ℕ, ◌≡◌, Bool, true, ◌&&◌, ◌||◌, eqb, ltb, leb, Option, Some, None}
use Rattle.rows.specs.declared.layout.DiagnosticRow.{DiagnosticRow}
use Rattle.rows.specs.declared.types.Type.{«Type»}
use Rattle.language.specs.Choice.{if'}
use Rattle.constants.specs.Constants.{is_module, is_function_entry, function_named}
use Rattle.findings.specs.declared.Side.TheVariants as side_is
use Rattle.findings.specs.declared.What.{What}
use Rattle.findings.specs.declared.What.TheVariants as what_is
use Rattle.findings.specs.declared.Diagnostic.{Diagnostic}
use Rattle.findings.specs.Findings.{kind_number, shows_name, placed, row_of, numbered}

-- ---- which findings rows can show

-- the number of a type that shows no entry
unfoldable pub is_plain : ℕ → Bool
is_plain n = (leb 1 n && leb n 12) || eqb n 16

-- the number of a type
unfoldable pub is_type : ℕ → Bool
is_type n = is_plain n || eqb n 14

-- a function's type has its entry, any other none
unfoldable pub sound_type : «Type» → Bool
sound_type t = if' (eqb t.kind 14) (is_function_entry t.entry) (is_plain t.kind && eqb t.entry 0)

-- an unknown item is missed in a module, what is called with arguments is a function, and an integer is below 2^127
abbrev pub sound_what : What → Bool
sound_what what_is.UnknownName = true
sound_what (what_is.UnknownItem m) = is_module m
sound_what what_is.UnknownModule = true
sound_what what_is.NotImported = true
sound_what what_is.NotAModule = true
sound_what what_is.NotAValue = true
sound_what (what_is.AlreadyBound l c) = true
sound_what (what_is.NoMembers t) = sound_type t
sound_what (what_is.OperandType s w t) = is_type w && sound_type t
sound_what (what_is.NotCallable t) = sound_type t
sound_what (what_is.TooManyArgs f a b) = is_function_entry f
sound_what (what_is.TooFewArgs f a b) = is_function_entry f
sound_what (what_is.ArgType f i w t) = (is_function_entry f && is_type w) && sound_type t
sound_what what_is.VoidValue = true
sound_what what_is.IntegralTooLarge = true
sound_what what_is.MultipleImports = true
sound_what (what_is.DiscardedValue t) = sound_type t
sound_what (what_is.Truncated n t) = ltb n.hi 9223372036854775808 && sound_type t
sound_what (what_is.Overflow t w) = sound_type t && is_type w

-- and where the kind shows no name there is no span
unfoldable pub sound_diagnostic : Diagnostic → Bool
sound_diagnostic d = sound_what d.what && (shows_name (kind_number d.what) || (eqb d.start 0 && eqb d.end 0))

-- ---- what a row was

-- the same but for the number of the statement, which can be any
unfoldable pub same_row : DiagnosticRow → DiagnosticRow → Bool
same_row a b =
    (((((((((eqb a.line b.line && eqb a.column b.column) && eqb a.severity b.severity) && eqb a.kind b.kind)
    && eqb a.text b.text) && eqb a.start b.start) && eqb a.end b.end) && eqb a.ty b.ty) && eqb a.first b.first)
    && eqb a.second b.second) && eqb a.third b.third

-- the type that a row shows, a function by its name
unfoldable pub type_in : DiagnosticRow → «Type»
type_in r = record { kind = r.ty; entry = if' (eqb r.ty 14) (function_named r.start r.end) 0 }

-- an operand's finding, by its side
unfoldable pub operand_in : DiagnosticRow → Option What
operand_in r =
    if' (eqb r.first 1) (Some (what_is.OperandType side_is.Left r.second (type_in r)))
    (if' (eqb r.first 2) (Some (what_is.OperandType side_is.Right r.second (type_in r))) None)

unfoldable pub truncated_in : DiagnosticRow → Option What
truncated_in r = Some (what_is.Truncated (record { hi = r.second; lo = r.first }) (type_in r))

-- what a row can have been, by its kind
unfoldable pub guess_by : ℕ → DiagnosticRow → Option What
guess_by kind r =
    if' (eqb kind 1) (Some what_is.UnknownName)
    (if' (eqb kind 2) (Some (what_is.UnknownItem r.first))
    (if' (eqb kind 4) (Some what_is.UnknownModule)
    (if' (eqb kind 5) (Some what_is.NotImported)
    (if' (eqb kind 6) (Some what_is.NotAModule)
    (if' (eqb kind 7) (Some what_is.NotAValue)
    (if' (eqb kind 8) (Some (what_is.AlreadyBound r.first r.second))
    (if' (eqb kind 9) (Some (what_is.NoMembers (type_in r)))
    (if' (eqb kind 10) (operand_in r)
    (if' (eqb kind 11) (Some (what_is.NotCallable (type_in r)))
    (if' (eqb kind 12) (Some (what_is.TooManyArgs (type_in r).entry r.first r.second))
    (if' (eqb kind 13) (Some (what_is.TooFewArgs (type_in r).entry r.first r.second))
    (if' (eqb kind 19) (Some (what_is.ArgType r.first r.second r.third (type_in r)))
    (if' (eqb kind 21) (Some what_is.VoidValue)
    (if' (eqb kind 22) (Some what_is.IntegralTooLarge)
    (if' (eqb kind 23) (Some what_is.MultipleImports)
    (if' (eqb kind 24) (Some (what_is.DiscardedValue (type_in r)))
    (if' (eqb kind 25) (truncated_in r)
    (if' (eqb kind 26) (Some (what_is.Overflow (type_in r) r.first)) None))))))))))))))))))

abbrev pub guess_of : DiagnosticRow → Option What
guess_of r = guess_by r.kind r

abbrev pub found_in : DiagnosticRow → What → Diagnostic
found_in r w = placed r.line r.column r.start r.end w

-- a finding that rows can show and that has this row
unfoldable pub confirmed : DiagnosticRow → Diagnostic → Option Diagnostic
confirmed r d = if' (sound_diagnostic d && same_row (row_of d) r) (Some d) None

abbrev pub read_by : DiagnosticRow → Option What → Option Diagnostic
read_by r (Some w) = confirmed r (found_in r w)
read_by r None = None

unfoldable pub read_of : DiagnosticRow → Option Diagnostic
read_of r = read_by r (guess_of r)

-- ---- the claims

-- the row of a finding that rows can show is read as it, whatever the number of its statement
abbrev pub ReadsBack : Type 0
ReadsBack = (n : ℕ) (d : Diagnostic) → sound_diagnostic d ≡ true → read_of (numbered n (row_of d)) ≡ Some d

-- what is read has that row, and rows can show it: so what is read as nothing is the row of none
abbrev pub ReadsOnly : Type 0
ReadsOnly =
    (r : DiagnosticRow) (d : Diagnostic) → read_of r ≡ Some d → (numbered r.statement (row_of d) ≡ r) × (sound_diagnostic d ≡ true)

abbrev pub ReadsNothing : Type 0
ReadsNothing =
    (r : DiagnosticRow) (d : Diagnostic) → read_of r ≡ None → sound_diagnostic d ≡ true → numbered r.statement (row_of d) ≡ r → ⊥

-- Rows that are read, and some that no finding has.
use mathlib.Core.Path.{◌≡◌, refl}
use Prim.Native.Nat.{ℕ}
use Rattle.std.specs.Prelude.{Some, None}
use Rattle.rows.specs.declared.layout.DiagnosticRow.{DiagnosticRow}
use Rattle.language.specs.Values.{entries}
use Rattle.constants.specs.Constants.{is_module, is_function_entry, has_span, function_from, function_named}
use Rattle.findings.specs.declared.What.TheVariants.{UnknownItem, DiscardedValue, Overflow}
use Rattle.findings.specs.Findings.{severity_number, shows_name, placed, type_text, row_of}
use Rattle.findings.specs.Reading.{is_plain, is_type, sound_type, sound_diagnostic, same_row, type_in, guess_by, confirmed, read_of}

-- a row at line 7, column 8, of statement 9, by its severity, its kind, its text, its type and its first number
row : ℕ → ℕ → ℕ → ℕ → ℕ → ℕ → ℕ → DiagnosticRow
row severity kind text start end type first =
    record {
      line = 7;
      column = 8;
      severity = severity;
      kind = kind;
      text = text;
      start = start;
      end = end;
      ty = type;
      first = first;
      second = 0;
      third = 0;
      statement = 9;
    }

-- `bench::deep::x`: the module is entry 8
item : read_of (row 1 2 1 80 81 0 8) ≡ Some (record { line = 7; column = 8; start = 80; end = 81; what = UnknownItem 8 })
unfolding row read_of guess_by placed shows_name confirmed sound_diagnostic is_module entries same_row row_of severity_number
item = refl

-- entry 2 is no module, and a warning has no such kind
no_item : (read_of (row 1 2 1 80 81 0 2) ≡ None) × (read_of (row 2 2 1 80 81 0 8) ≡ None)
unfolding row read_of guess_by placed shows_name confirmed sound_diagnostic is_module entries same_row row_of severity_number
no_item = (refl, refl)

-- `bench::ping;`: a function is shown by its name
function : read_of (row 2 24 2 26 30 14 0) ≡ Some (record { line = 7; column = 8; start = 0; end = 0; what = DiscardedValue (record { kind = 14; entry = 7 }) })
unfolding row read_of guess_by placed shows_name confirmed sound_diagnostic sound_type is_function_entry has_span function_from function_named type_in type_text entries same_row row_of severity_number
function = refl

-- `deep` is no function
no_function : read_of (row 2 24 2 30 34 14 0) ≡ None
unfolding row read_of guess_by placed shows_name confirmed sound_diagnostic sound_type is_function_entry has_span function_from function_named type_in type_text entries same_row row_of severity_number
no_function = refl

-- `bench::pick(bench::pick(1));`: a u32 is passed for a u16, which is a warning and no error
overflow : (read_of (row 2 26 0 0 0 5 4) ≡ Some (record { line = 7; column = 8; start = 0; end = 0; what = Overflow (record { kind = 5; entry = 0 }) 4 })) × (read_of (row 1 26 0 0 0 5 4) ≡ None)
unfolding row read_of guess_by placed shows_name confirmed sound_diagnostic is_plain is_type sound_type type_in type_text same_row row_of severity_number
overflow = (refl, refl)

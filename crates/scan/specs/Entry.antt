-- What the entry promises.
use Rattle.std.specs.Prelude.{◌≡◌, List, ℕ, ◌/◌, Result, Ok, Err}
use Rattle.table.specs.Table.{tabled}
use Rattle.language.specs.Entries.{ScanPromise}
use Rattle.language.specs.Lexemes.{scan}
use Rattle.language.specs.Numbers.{verdict, scanned, scan_answer}
use Rattle.language.specs.Tables.{lexeme_row, lexeme_width}
use Rattle.scan.specs.declared.Scanned.{Scanned}
use Rattle.scan.specs.declared.ScanError.{ScanError}
use Rattle.scan.specs.Scanning.{scanned_as, refusal_of}

-- of a line and a table of n words: the answer r, and what is left in the table
abbrev pub ScanLine : List ℕ → ℕ → Scanned → List ℕ → Type 0
ScanLine line n r left = ScanPromise scanned_as line n r left

-- the same before the answer is made up and a refusal clears the table
abbrev pub Scans : List ℕ → ℕ → Result ℕ ScanError → List ℕ → Type 0
Scans line n (Ok count) left = (scan_answer line (n / lexeme_width) ≡ scanned (verdict 0 0 0) count) × (left ≡ tabled lexeme_row lexeme_width n (scan line))
Scans line n (Err e) left = scan_answer line (n / lexeme_width) ≡ scanned (refusal_of e) 0

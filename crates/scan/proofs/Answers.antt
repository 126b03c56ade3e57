-- What scanning a line answers and leaves, for each way that it goes.
use mathlib.Core.Path.{◌≡◌, refl, sym, ◌∙◌}
use mathlib.Core.Bool.{false}
use mathlib.Core.List.{List, []}
use Prim.Native.Nat.{ℕ, ◌+◌, ◌≤◌, ◌<◌, ◌/◌}
use native.Mathlib.Numerals.{add-one}
use borrow.Author.Tests.{lt-ltb, le-ltb}
use lib.Dec.{eqb}
use lib.ListN.{length}
use Rattle.table.specs.Table.{pad_to, tabled}
use Rattle.table.proofs.Laws.{pad_own, tabled_none}
use Rattle.language.specs.Utf8.{first_bad}
use Rattle.language.specs.Lexemes.{scan}
use Rattle.language.specs.Tables.{lexeme_row, lexeme_width}
use Rattle.language.specs.Numbers.{verdict, scanned, scan_answer, scan_table}
use Rattle.utf8.specs.Decoding.{bad_of}
use Rattle.std.specs.Prelude.{Some, None}
use Rattle.utf8.proofs.Places.{bad_at, bad_nowhere}
use Rattle.rows.specs.declared.verdict.Verdict.{Verdict}
use Rattle.scan.specs.declared.Scanned.{Scanned}
use Rattle.scan.specs.declared.ScanError.{ScanError}
use Rattle.scan.specs.declared.ScanError.TheVariants as error_is
use Rattle.scan.specs.Scanning.{refusal_of}
use Rattle.rows.specs.Rows.{verdict_as}
use Rattle.scan.specs.Entry.{ScanLine}

module _ (line : List ℕ) (room : ℕ) where
  pub too_long : 65536 < length line → scan_answer line room ≡ scanned (verdict 1 0 0) 0
  unfolding scan_answer
  too_long h = rw (lt-ltb _ _ h)

  module _ (h : length line ≤ 65536) where
    pub bad_byte : (at : ℕ) → Some at ≡ bad_of (first_bad line) → scan_answer line room ≡ scanned (verdict 2 1 (at + 1)) 0
    unfolding scan_answer
    bad_byte at e = rw (le-ltb _ _ h, bad_at (first_bad line) at e, add-one, scan_answer)

    pub full : None ≡ bad_of (first_bad line) → (k : ℕ) → k ≡ length (scan line) → room < k → scan_answer line room ≡ scanned (verdict 4 0 0) 0
    unfolding scan_answer
    full e k c m = rw (le-ltb _ _ h, bad_nowhere (first_bad line) e, scan_answer, ← c, lt-ltb _ _ m)

    pub fits : None ≡ bad_of (first_bad line) → (k : ℕ) → k ≡ length (scan line) → k ≤ room → scan_answer line room ≡ scanned (verdict 0 0 0) k
    unfolding scan_answer
    fits e k c m = rw (le-ltb _ _ h, bad_nowhere (first_bad line) e, scan_answer, ← c, le-ltb _ _ m)

abbrev pub result : Verdict → ℕ → Scanned
result v k = record { verdict = v; lexemes = k }

refuses : (e : ScanError) → eqb (refusal_of e).number 0 ≡ false
refuses error_is.TooLong = refl
refuses (error_is.NotUtf8 column) = refl
refuses error_is.TableRoom = refl

module _ (line : List ℕ) (n : ℕ) where
  -- a refusal leaves a table of zeros
  pub refused : (e : ScanError) → scan_answer line (n / lexeme_width) ≡ scanned (refusal_of e) 0
      → (w : Verdict) → w ≡ verdict_as (refusal_of e) → {t : List ℕ} (k : ℕ) → t ≡ pad_to k [] → length t ≡ n
      → ScanLine line n (result w 0) t
  unfolding scan_table
  refused e h w d k z l =
      record { answer = rw (h, d); table = pad_own k n [] z l ∙ rw (h, refuses e) (sym (tabled_none lexeme_row lexeme_width n)) }

  -- what is done leaves every lexeme's row
  pub accepted : (count : ℕ) → scan_answer line (n / lexeme_width) ≡ scanned (verdict 0 0 0) count
      → (w : Verdict) → w ≡ verdict_as (verdict 0 0 0) → {t : List ℕ} → t ≡ tabled lexeme_row lexeme_width n (scan line)
      → ScanLine line n (result w count) t
  unfolding scan_table
  accepted count e w d z =
      record { answer = rw (e, d); table = z ∙ rw e }

-- The tables of findings and of held statements after the run, and the parts of the others that the rows take.
use mathlib.Core.Path.{◌≡◌, refl}
use mathlib.Core.List.{List, []}
use Prim.Native.Nat.{ℕ}
use native.Mathlib.Omega.{arith}
use lib.ListN.{length}
use Rattle.table.specs.Table.{pad_to, tabled}
use Rattle.language.specs.Tokens.{Token}
use Rattle.language.specs.Judgements.{Diag}
use Rattle.language.specs.Findings.{diag_row, diag_width, Row, stmt_row, stmt_width}
use Rattle.findings.specs.Findings.{put_rows}
use Rattle.findings.proofs.Rows.{all_rows}

module _ (token_at : ℕ → Token) where
  finding_long : (d : Diag) → length (diag_row token_at d) ≡ diag_width
  unfolding diag_row
  finding_long d = refl

  held_long : (r : Row) → length (stmt_row token_at r) ≡ stmt_width
  unfolding stmt_row
  held_long r = refl

  pub all_findings : (n : ℕ) (ds : List Diag) → put_rows (diag_row token_at) (pad_to n []) 0 ds ≡ tabled (diag_row token_at) diag_width n ds
  all_findings = all_rows (diag_row token_at) diag_width finding_long (omega arith)

  pub all_held : (n : ℕ) (rs : List Row) → put_rows (stmt_row token_at) (pad_to n []) 0 rs ≡ tabled (stmt_row token_at) stmt_width n rs
  all_held = all_rows (stmt_row token_at) stmt_width held_long (omega arith)

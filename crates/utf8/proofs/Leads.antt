-- What `lead_of` says of an octet by the rows of the language's table, as the code has it, and that it is small.
use mathlib.Core.Path.{◌≡◌, refl}
use mathlib.Core.Bool.{true}
use Prim.Native.Nat.{ℕ, ◌+◌, ◌-◌, ◌≤◌, ◌<◌}
use native.Mathlib.Nat.{sub-zero}
use native.Mathlib.Omega.{arith}
use Rattle.language.specs.Choice.{within}
use Rattle.language.specs.Utf8.{lead_of}
use Rattle.language.proofs.Tests.{inside, never}
use Rattle.language.proofs.Each.{All}
use Rattle.language.proofs.Utf8Rows.{Row, rows, base, At, here, at, Bounds, bounds, row_said, by_rows}
use Rattle.utf8.specs.declared.Lead.{Lead}
use Rattle.std.specs.Prelude.{Option, Some, None}
use Rattle.utf8.specs.Decoding.{leading, Small}

-- what `lead` gives
abbrev pub starts : ℕ → ℕ → ℕ → ℕ → Option Lead
starts t l h n = Some (record { tails = t; low = l; high = h; bits = n })

-- ---- the rows: `w` is the octet, widened

module _ (b w : ℕ) (same : w ≡ b) where
  pub row_in : {r : Row} → At rows r → r.low ≤ b → b ≤ r.high
      → starts r.tails r.next r.last (w - base r.tails) ≡ leading (lead_of b)
  row_in a l h = rw (same, row_said a b l h)

  pub row_ascii : b < 0x80 → starts 0 0x80 0xBF w ≡ leading (lead_of b)
  row_ascii h = rw sub-zero at (row_in here (omega arith) (omega arith))

-- an octet that no row has
pub no_row : (b : ℕ) → All (λ r. r.low ≤ b → b ≤ r.high → ⊥) rows → None ≡ leading (lead_of b)
no_row b f =
    by_rows (λ o. None ≡ leading o) b
    (λ r a e. let i = inside r.low r.high b e in absurd (at (λ r. r.low ≤ b → b ≤ r.high → ⊥) f a i.0 i.1)) refl

-- ---- what a row says is small, the ASCII one aside

abbrev Few : Row → Type 0
Few r = (r.tails ≤ 3) × (0x80 ≤ r.high → r.high < base r.tails + 0x20)

few : All Few rows
few = omega arith

pub small : (b : ℕ) (l : Lead) → 0x80 ≤ b → Some l ≡ leading (lead_of b) → Small l.tails l.low l.high l.bits
small b l k = by_rows (λ o. Some l ≡ leading o → Small l.tails l.low l.high l.bits) b of_row (λ e. never (cc))
  where
    of_row : (r : Row) → At rows r → within r.low r.high b ≡ true
        → Some l ≡ starts r.tails r.next r.last (b - base r.tails) → Small l.tails l.low l.high l.bits
    of_row r a i e =
        let u = (inside r.low r.high b i).1 in
        let f = at Few few a in
        let g = at Bounds bounds a in
        let m = f.1 (omega arith) in
        let p : l ≡ record { tails = r.tails; low = r.next; high = r.last; bits = b - base r.tails } = cc in
        rw p (record { few = omega arith; tail = omega arith; octet = omega arith; start = omega arith })

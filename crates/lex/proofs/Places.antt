-- The place of a byte, by a loop that goes from byte to byte.
use Prim.Native.Nat.{ℕ, suc, ◌+◌, ◌-◌, ◌≤◌, ◌<◌}
use mathlib.Core.Path.{◌≡◌, sym, ap, ◌∙◌}
use mathlib.Core.List.{List, ◌∷◌}
use native.Mathlib.Numerals.{add-one}
use native.Mathlib.Omega.{arith}
use borrow.Author.Tests.{eq-eqb, ne_eqb}
use lib.ListN.{length, get_or, drop}
use lib.Seq.{drop-cons}
use Rattle.language.specs.Tokens.{place_from, place_of}
use Rattle.lex.specs.declared.Loc.{Loc}
use Rattle.lex.specs.Lexing.{loc_as}

-- byte i stands in this line and this column
pub record Placing (s : List ℕ) (at line column i : ℕ) : Type 0 where
  pub same : place_from line column (drop i s) (at - i) ≡ place_of s at
  pub within : i ≤ at
  pub few_lines : line ≤ i + 1
  pub few_columns : column ≤ i + 1

pub start : (s : List ℕ) (at : ℕ) → Placing s at 1 1 0
start s at =
    let z : at - 0 ≡ at = omega arith in
    record { same = rw z; within = omega arith; few_lines = omega arith; few_columns = omega arith }

module _ (s : List ℕ) (at line column i : ℕ) (p : Placing s at line column i) where
  module _ (l : i < at) (h : at ≤ length s) where
    here : (drop i s ≡ get_or s i 0 ∷ drop (i + 1) s) × (at - i ≡ suc (at - (i + 1)))
    here = let k : i < length s = omega arith in (rw (add-one, drop-cons s i 0), omega arith)

    pub next_line : get_or s i 0 ≡ 10 → Placing s at (line + 1) 1 (i + 1)
    unfolding place_from
    next_line e =
        let k = here in
        let a : place_from line column (drop i s) (at - i) ≡ place_from (line + 1) 1 (drop (i + 1) s) (at - (i + 1)) = rw (k.0, k.1, eq-eqb (get_or s i 0) 10 e, add-one line) in
        record { same = sym a ∙ p.same; within = omega arith; few_lines = omega (arith, p.few_lines); few_columns = omega arith }

    pub next_column : (get_or s i 0 ≡ 10 → ⊥) → Placing s at line (column + 1) (i + 1)
    unfolding place_from
    next_column e =
        let k = here in
        let a : place_from line column (drop i s) (at - i) ≡ place_from line (column + 1) (drop (i + 1) s) (at - (i + 1)) = rw (k.0, k.1, ne_eqb (get_or s i 0) 10 e, add-one column) in
        record { same = sym a ∙ p.same; within = omega arith; few_lines = omega (arith, p.few_lines); few_columns = omega (arith, p.few_columns) }

  pub arrived : at ≤ i → ◌≡◌ {A = Loc} (record { line = line; column = column }) (loc_as (place_of s at))
  unfolding place_from
  arrived h =
      let z : at - i ≡ 0 = omega arith in
      let a : place_from line column (drop i s) 0 ≡ place_of s at = rw z at p.same in
      ap loc_as a

-- An entry is the one that is looked for, or is not.
use Prim.Native.Nat.{ℕ, ◌+◌, ◌*◌}
use mathlib.Core.Path.{◌≡◌, sym}
use mathlib.Core.Bool.{false}
use mathlib.Core.List.{List}
use native.Mathlib.Omega.{arith}
use borrow.Author.Tests.{eq-eqb, ne_eqb}
use lib.ListN.{get_or}
use Rattle.language.specs.Lexemes.{same}
use Rattle.language.specs.Tokens.{between}
use Rattle.constants.specs.Constants.{is_hit}

pub not_hit : (rows text : List ℕ) (i m : ℕ) (bs : List ℕ) → (get_or rows (i * 6) 0 ≡ m → ⊥) → false ≡ is_hit rows text i m bs
not_hit rows text i m bs h =
    let e : i * 6 ≡ 6 * i = omega arith in
    rw (sym e, ne_eqb (get_or rows (i * 6) 0) m h)

pub hit_by : (rows text : List ℕ) (i m : ℕ) (bs : List ℕ) → get_or rows (i * 6) 0 ≡ m
    → same (between text (get_or rows (i * 6 + 1) 0) (get_or rows (i * 6 + 2) 0)) bs ≡ is_hit rows text i m bs
hit_by rows text i m bs h =
    let e : i * 6 ≡ 6 * i = omega arith in
    rw (sym e, eq-eqb (get_or rows (i * 6) 0) m h)

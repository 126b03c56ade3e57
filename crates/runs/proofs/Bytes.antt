-- What is no blank character, by 01's list.
--     none_of         x is none of several numbers
--     not_blank_lem   a number that is none of the single ones and in none of the ranges
use Prim.Native.Nat.{ℕ, ◌+◌, ◌-◌, ◌<◌}
use mathlib.Core.Path.{◌≡◌}
use mathlib.Core.Bool.{Bool, false}
use mathlib.Core.List.{List, [], ◌∷◌}
use mathlib.Core.Logic.{inl, inr}
use native.Mathlib.Omega.{arith}
use types.Run.{OneOf}
use Rattle.language.specs.Choice.{within}
use Rattle.language.specs.Lexemes.{is_blank}
use Rattle.language.proofs.Tests.{outside_test}

-- x is none of these
abbrev Off : List ℕ → ℕ → Type 0
Off [] x = Unit {0}
Off (k ∷ ks) x = (within k k x ≡ false) × Off ks x

apart : (k x : ℕ) → (x ≡ k → ⊥) → within k k x ≡ false
apart k x h = outside_test k k x (omega arith)

none_of : (ks : List ℕ) (x : ℕ) → (OneOf ks x → ⊥) → Off ks x
none_of [] x h = tt
none_of (k ∷ []) x h = (apart k x h, tt)
none_of (k ∷ j ∷ ks) x h = (apart k x (λ e. h (inl e)), none_of (j ∷ ks) x (λ e. h (inr e)))

module _ (n : ℕ) where
  pub not_blank_lem :
      (Unit {0} × (OneOf (0x09 ∷ 0x20 ∷ 0x85 ∷ 0xA0 ∷ 0x1680 ∷ []) n → ⊥)) × (OneOf (0x202F ∷ 0x205F ∷ 0x3000 ∷ []) n → ⊥)
      → 0 < (0x0B - n) + (n - 0x0D)
      → 0 < (0x2000 - n) + (n - 0x200A)
      → 0 < (0x2028 - n) + (n - 0x2029)
      → false ≡ is_blank n
  unfolding is_blank
  not_blank_lem r a b c =
      let u = none_of (0x09 ∷ 0x20 ∷ 0x85 ∷ 0xA0 ∷ 0x1680 ∷ []) n r.0.1 in
      let v = none_of (0x202F ∷ 0x205F ∷ 0x3000 ∷ []) n r.1 in
      rw (
        u.0,
        outside_test 0x0B 0x0D n a,
        u.1.0,
        u.1.1.0,
        u.1.1.1.0,
        u.1.1.1.1.0,
        outside_test 0x2000 0x200A n b,
        outside_test 0x2028 0x2029 n c,
        v.0,
        v.1.0,
        v.1.1.0,
      )

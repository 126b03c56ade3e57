-- Tests, and what they say.
use Prim.Native.Nat.{ℕ, ◌+◌, ◌-◌, ◌≤◌, ◌<◌}
use mathlib.Core.Path.{◌≡◌, refl, sym, ◌∙◌}
use mathlib.Core.Bool.{Bool, true, false, ◌&&◌, ◌||◌, false≢true, and-false}
use mathlib.Core.List.{List, [], ◌∷◌}
use mathlib.Core.Logic.{◌⊎◌, inl, inr}
use native.Mathlib.Omega.{arith}
use native.Mathlib.Decide.{dec_le}
use types.Run.{OneOf}
use borrow.Author.Tests.{eqb-true, leb-true, le-leb, lt-leb}
use lib.Dec.{leb, eqb}
use Rattle.language.specs.Choice.{if', within}
use Rattle.language.specs.Lexemes.{same, all}

-- what would make 0 and 1 equal cannot be
pub never : {A : Type 0} → ◌≡◌ {A = ℕ} 0 1 → A
never e = absurd (omega (arith, e))

-- what a test of both says
pub both : (a b : Bool) → a && b ≡ true → (a ≡ true) × (b ≡ true)
both true b e = (refl, e)
both false b e = absurd (false≢true e)

-- what a test of one of two says
pub either : (a b : Bool) → a || b ≡ true → (a ≡ true) ⊎ (b ≡ true)
either true b e = inl refl
either false b e = inr e

-- what holds of every key of an arm holds of one of them
pub of_each : (f : ℕ → Bool) (ks : List ℕ) (x : ℕ) → all f ks ≡ true → OneOf ks x → f x ≡ true
of_each f [] x a h = absurd h
of_each f (k ∷ []) x a h = rw h (both (f k) true a).0
of_each f (k ∷ j ∷ ks) x a (inl e) = rw e (both (f k) (all f (j ∷ ks)) a).0
of_each f (k ∷ j ∷ ks) x a (inr h) = of_each f (j ∷ ks) x (both (f k) (all f (j ∷ ks)) a).1 h

-- lists that pass the test are equal
pub same_equal : (v w : List ℕ) → same v w ≡ true → v ≡ w
same_equal [] [] e = refl
same_equal [] (y ∷ ys) e = absurd (false≢true e)
same_equal (x ∷ xs) [] e = absurd (false≢true e)
same_equal (x ∷ xs) (y ∷ ys) e =
    let h = both (eqb x y) (same xs ys) e in
    rw (eqb-true x y h.0, same_equal xs ys h.1)

-- what holds of both branches holds of the choice
pub each_side : {A : Type 0} (P : A → Type 0) (t : Bool) {a b : A} → P a → P b → P (if' t a b)
each_side P true x y = x
each_side P false x y = y

-- and where the test is used
pub by_cases : {A : Type 0} (P : A → Type 0) (t : Bool) {a b : A} → (t ≡ true → P a) → (t ≡ false → P b) → P (if' t a b)
by_cases P true f g = f refl
by_cases P false f g = g refl

-- where two tests are the same, what holds of both branches holds of both choices
pub both_sides : {A : Type 0} (P : A → A → Type 0) (t : Bool) {a b c d : A} → (t ≡ true → P a c) → (t ≡ false → P b d)
    → P (if' t a b) (if' t c d)
both_sides P true f g = f refl
both_sides P false f g = g refl

-- b is in a range, or below a or past z
module _ (a z b : ℕ) where
  pub inside : within a z b ≡ true → (a ≤ b) × (b ≤ z)
  inside e = let h = both (leb a b) (leb b z) e in (leb-true a b h.0, leb-true b z h.1)

  pub inside_test : a ≤ b → b ≤ z → within a z b ≡ true
  inside_test h k = rw (le-leb a b, le-leb b z)

  pub outside : within a z b ≡ false → 0 < (a - b) + (b - z)
  outside e =
      elim (dec_le a b) [
        | no below ↦ omega arith
        | yes from ↦ elim (dec_le b z) [ no past ↦ omega arith | yes upto ↦ absurd (false≢true (sym e ∙ inside_test from upto)) ]
      ]

  pub outside_test : 0 < (a - b) + (b - z) → within a z b ≡ false
  outside_test h =
      elim (dec_le a b) [ no below ↦ rw (lt-leb a b (omega arith)) | yes from ↦ rw (lt-leb b z (omega arith)) (and-false (leb a b)) ]

-- What holds of each member of a list, and of each two of them, in their order.
use Prim.Native.Nat.{ℕ, zero, suc, ◌<◌}
use mathlib.Core.Path.{refl}
use mathlib.Core.List.Memᴰ
use mathlib.Core.List.{List, [], ◌∷◌, ◌++◌, Memᴰ}
use mathlib.Core.Logic.{inl, inr}
use native.Mathlib.Omega.{arith}
use lib.ListN.{length, get_or}

pub record Each {A : Type 0} (P : A → Type 0) (xs : List A) : Type 0 where
  pub holds : (x : A) → Memᴰ x xs → P x

-- the same of a list that is there
abbrev pub All : {A : Type 0} → (A → Type 0) → List A → Type 0
All P [] = Unit {0}
All P (x ∷ xs) = P x × All P xs

module _ {A : Type 0} {P : A → Type 0} where
  pub of_none : Each P []
  of_none = record { holds = λ x m. absurd (Memᴰ.not-nil m) }

  pub of_one : {a : A} → P a → Each P (a ∷ [])
  of_one h = record { holds = λ x m. rw (Memᴰ.eq_of_singleton m) h }

  pub of_both : {xs ys : List A} → Each P xs → Each P ys → Each P (xs ++ ys)
  of_both {xs} h l =
      record { holds = λ x m. elim (Memᴰ.append_cases xs m) [ inl a ↦ h.holds x a | inr b ↦ l.holds x b ] }

  pub each_cons : {a : A} {xs : List A} → P a → Each P xs → Each P (a ∷ xs)
  each_cons {a} h l = of_both {xs = a ∷ []} (of_one h) l

pub each_also : {A : Type 0} {P Q : A → Type 0} {xs : List A} → Each P xs → ((x : A) → P x → Q x) → Each Q xs
each_also h f = record { holds = λ x m. f x (h.holds x m) }

pub each_all : {A : Type 0} {P : A → Type 0} (xs : List A) → All P xs → Each P xs
each_all [] h = of_none
each_all {P = P} (x ∷ xs) h = of_both {P = P} {xs = x ∷ []} (of_one h.0) (each_all xs h.1)

-- the member at a place
pub mem_at : {A : Type 0} (xs : List A) (i : ℕ) (d : A) → i < length xs → Memᴰ (get_or xs i d) xs
mem_at [] i d h = absurd (omega arith)
mem_at (x ∷ xs) zero d h = Memᴰ.head refl
mem_at (x ∷ xs) (suc i) d h = Memᴰ.tail (mem_at xs i d (omega arith))

-- ---- two members, of which one is before the other

pub data Pairs {A : Type 0} (R : A → A → Type 0) : List A → Type 0 where
  no_pair : Pairs R []
  pairs : {x : A} {xs : List A} → Each (R x) xs → Pairs R xs → Pairs R (x ∷ xs)

module _ {A : Type 0} {R : A → A → Type 0} where
  pub pairs_both : {xs ys : List A} → Pairs R xs → Pairs R ys → Each (λ x. Each (R x) ys) xs → Pairs R (xs ++ ys)
  pairs_both no_pair l f = l
  pairs_both (pairs {x} h t) l f =
      pairs (of_both h (f.holds x (Memᴰ.head refl))) (pairs_both t l (record { holds = λ y m. f.holds y (Memᴰ.tail m) }))

  pub pairs_at : {xs : List A} (i j : ℕ) (d : A) → Pairs R xs → i < j → j < length xs → R (get_or xs i d) (get_or xs j d)
  pairs_at i j d no_pair l m = absurd (omega arith)
  pairs_at i zero d (pairs h t) l m = absurd (omega arith)
  pairs_at zero (suc j) d (pairs {xs = xs} h t) l m = h.holds (get_or xs j d) (mem_at xs j d (omega arith))
  pairs_at (suc i) (suc j) d (pairs h t) l m = pairs_at i j d t (omega arith) (omega arith)

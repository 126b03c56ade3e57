-- Which bytes a row of the token table stands for, by the number of its kind.
use Prim.Native.Nat.{ℕ}
use mathlib.Core.Path.{◌≡◌}
use mathlib.Core.List.{List, [], ◌∷◌}
use borrow.Author.Tests.{ne_eqb}
use Rattle.canon.specs.Spelling.{mark_of, fixed_text, kind_text, gap_text}

-- none of some keys
abbrev pub NoneOf : List ℕ → ℕ → Type 0
NoneOf [] k = Unit {0}
NoneOf (x ∷ xs) k = NoneOf xs k × (k ≡ x → ⊥)

module _ (k : ℕ) where
  -- the arms that are left
  pub last_mark : NoneOf (9 ∷ 8 ∷ 7 ∷ 6 ∷ 4 ∷ 3 ∷ 2 ∷ []) k → 47 ≡ mark_of k
  unfolding mark_of
  last_mark (((((((u, a), b), c), d), e), f), g) =
      rw (ne_eqb k 2 a, ne_eqb k 3 b, ne_eqb k 4 c, ne_eqb k 6 d, ne_eqb k 7 e, ne_eqb k 8 f, ne_eqb k 9 g)

  pub only_mark : (low : ℕ) → NoneOf (14 ∷ 12 ∷ 11 ∷ 5 ∷ []) k → {b : ℕ} → b ≡ mark_of k → b ∷ [] ≡ fixed_text k low
  unfolding fixed_text
  only_mark low ((((u, a), b), c), d) e = rw (e, ne_eqb k 5 a, ne_eqb k 11 b, ne_eqb k 12 c, ne_eqb k 14 d)

  pub only_fixed : (low high : ℕ) (bytes : List ℕ) → NoneOf (18 ∷ 17 ∷ 16 ∷ 15 ∷ 13 ∷ []) k → fixed_text k low ≡ kind_text k low high bytes
  unfolding kind_text
  only_fixed low high bytes (((((u, a), b), c), d), e) = rw (ne_eqb k 13 a, ne_eqb k 15 b, ne_eqb k 16 c, ne_eqb k 17 d, ne_eqb k 18 e)

-- what stands between two tokens
pub no_gap : (k next : ℕ) → (k ≡ 7 → ⊥) → next ≡ 1 → [] ≡ gap_text k next
no_gap k next h e = rw (ne_eqb k 7 h, e)

pub a_space : (k next : ℕ) → (k ≡ 7 → ⊥) → (next ≡ 1 → ⊥) → 32 ∷ [] ≡ gap_text k next
a_space k next h e = rw (ne_eqb k 7 h, ne_eqb next 1 e)

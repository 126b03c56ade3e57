-- A word and a key that are as long, compared pair by pair.
use Rattle.std.proofs.Common.{◌≡◌, ◌==◌, ℕ, List, [], ◌∷◌, Bool, ◌&&◌, length, refl, ap, arith}
use Rattle.std.specs.List.{list_all, zip}
use lib.Dec.{eqb}
use Rattle.language.specs.Lexemes.{same}

pub same_pairs : (v w : List ℕ) → length v ≡ length w → list_all (λ (pair : ℕ × ℕ). pair.0 == pair.1) (zip v w) ≡ same v w
same_pairs [] [] h = refl
same_pairs [] (y ∷ w) h = absurd (omega arith)
same_pairs (x ∷ v) [] h = absurd (omega arith)
same_pairs (x ∷ v) (y ∷ w) h = ap (λ (b : Bool). eqb x y && b) (same_pairs v w (omega arith))

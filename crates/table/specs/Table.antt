-- The shape of every lent table: rows of a fixed number of words, one after the other, and zeros after them.
use Rattle.std.specs.Prelude.{ℕ, zero, suc, ◌+◌, ◌*◌, ◌/◌, true, false, List, [], ◌∷◌, ◌++◌, leb, length, take}
use Rattle.std.proofs.lemmas.List.Edits.{sets}

-- the first n words of xs, with zeros where it has no more
unfoldable pub pad_to : ℕ → List ℕ → List ℕ
pad_to zero xs = []
pad_to (suc n) [] = 0 ∷ pad_to n []
pad_to (suc n) (x ∷ xs) = x ∷ pad_to n xs

module _ {A : Type 0} (row : A → List ℕ) where
  -- the rows of a list, one after the other
  abbrev pub flat : List A → List ℕ
  flat [] = []
  flat (x ∷ xs) = row x ++ flat xs

  -- n words as they hold the rows of xs, each of `width` words: as many whole rows as fit, the first ones, and zeros
  unfoldable pub tabled : ℕ → ℕ → List A → List ℕ
  tabled width n xs = pad_to n (flat (take (n / width) xs))

-- the words of the row numbered k, stored where the whole row has room, else nothing
unfoldable pub put_row : List ℕ → ℕ → List ℕ → List ℕ
put_row table k words =
    elim (leb (k * length words + length words) (length table)) [ true ↦ sets table (k * length words) words | false ↦ table ]

-- Rows that are stored one after the other.
use mathlib.Core.Path.{◌≡◌, refl, sym, ap, ◌∙◌}
use mathlib.Core.List.{List, [], ◌∷◌, ◌++◌, append-nil, append_assoc}
use Prim.Native.Nat.{ℕ, suc, ◌+◌, ◌<◌}
use native.Mathlib.Omega.{arith}
use lib.ListN.{length, length-append}
use Rattle.table.specs.Table.{pad_to, tabled, put_row}
use Rattle.table.proofs.Laws.{tabled_none, put_next}
use Rattle.findings.specs.Findings.{put_rows}

module _ {A : Type 0} (row : A → List ℕ) (width : ℕ) (each : (x : A) → length (row x) ≡ width) (pos : 0 < width) (n : ℕ) where
  all_more : (xs ys : List A) → put_rows row (tabled row width n xs) (length xs) ys ≡ tabled row width n (xs ++ ys)
  unfolding put_rows
  all_more xs [] = rw append-nil
  all_more xs (y ∷ ys) =
      let long : length xs + 1 ≡ length (xs ++ y ∷ []) = sym (length-append xs (y ∷ [])) in
      rw (put_next row width each pos n xs y, long) (all_more (xs ++ y ∷ []) ys ∙ ap (tabled row width n) (append_assoc xs (y ∷ []) ys))

  -- rows stored in a table that holds nothing
  pub all_rows : (xs : List A) → put_rows row (pad_to n []) 0 xs ≡ tabled row width n xs
  all_rows xs = rw (← tabled_none row width n) (all_more [] xs)

module _ {A : Type 0} (row : A → List ℕ) where
  pub no_rows : (t : List ℕ) (k : ℕ) → t ≡ put_rows row t k []
  unfolding put_rows
  no_rows t k = refl

  pub one_row : (t : List ℕ) (k : ℕ) (x : A) → put_row t k (row x) ≡ put_rows row t k (x ∷ [])
  unfolding put_rows
  one_row t k x = refl

  pub more_rows : (t : List ℕ) (k : ℕ) (xs ys : List A) → put_rows row (put_rows row t k xs) (k + length xs) ys ≡ put_rows row t k (xs ++ ys)
  unfolding put_rows
  more_rows t k [] ys = let e : k + 0 ≡ k = omega arith in rw e
  more_rows t k (x ∷ xs) ys =
      let e : k + suc (length xs) ≡ k + 1 + length xs = omega arith in
      rw e (more_rows (put_row t k (row x)) (k + 1) xs ys)

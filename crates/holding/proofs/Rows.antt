-- Rows that are stored out of order: one that was kept free is written after those behind it.
use mathlib.Core.Path.{◌≡◌, refl, sym, ap, ◌∙◌}
use mathlib.Core.List.{List, [], ◌∷◌, ◌++◌}
use Prim.Native.Nat.{ℕ, suc, ◌+◌, ◌*◌, ◌≤◌, ◌<◌}
use native.Mathlib.Nat.{mul-le-mul_right, suc-mul}
use native.Mathlib.Omega.{arith}
use native.Mathlib.Decide.{dec_le}
use lib.ListN.{length, set}
use lib.Seq.{sets, length-sets, set_comm}
use Rattle.table.specs.Table.{put_row}
use Rattle.table.proofs.Laws.{put_fits, put_full}
use Rattle.language.specs.Findings as rows
use Rattle.language.specs.Findings.{stmt_row, stmt_width}
use Rattle.language.specs.Numbers.{token_of}
use Rattle.findings.specs.Findings.{put_rows}
use Rattle.findings.proofs.Rows.{more_rows}
use Rattle.holding.specs.Holding.{put_held}

-- ---- stores before stores

set_sets : (vs t : List ℕ) (i j a : ℕ) → i < j → set (sets t j vs) i a ≡ sets (set t i a) j vs
set_sets [] t i j a h = refl
set_sets (v ∷ vs) t i j a h =
    set_sets vs (set t j v) i (suc j) a (omega arith) ∙ ap (λ (l : List ℕ). sets l (suc j) vs) (set_comm t j i v a (λ e. omega arith))

sets_sets : (us vs t : List ℕ) (i j : ℕ) → i + length us ≤ j → sets (sets t j vs) i us ≡ sets (sets t i us) j vs
sets_sets [] vs t i j h = refl
sets_sets (u ∷ us) vs t i j h =
    ap (λ (l : List ℕ). sets l (suc i) us) (set_sets vs t i j u (omega arith)) ∙ sets_sets us vs (set t i u) (suc i) j (omega arith)

-- ---- a row before a row

module _ (width : ℕ) where
  put_long : (t : List ℕ) (k : ℕ) (ws : List ℕ) → length ws ≡ width → length (put_row t k ws) ≡ length t
  put_long t k ws e = elim (dec_le (k * width + width) (length t)) [
    | yes h ↦ ap length (put_fits t k width ws e h) ∙ length-sets t (k * width) ws
    | no h ↦ ap length (put_full t k width ws e (omega arith))
  ]

  -- whichever is stored first: where the later row has room, so has the one before
  row_back : (t : List ℕ) (j k : ℕ) (us vs : List ℕ) → length us ≡ width → length vs ≡ width → j < k
      → put_row (put_row t k vs) j us ≡ put_row (put_row t j us) k vs
  row_back t j k us vs p q h = elim (dec_le (k * width + width) (length t)) [
    | yes room ↦
        let near : j * width + width ≤ k * width = omega (arith, suc-mul j width, mul-le-mul_right width h) in
        put_fits (put_row t k vs) j width us p (omega (arith, put_long t k vs q))
        ∙ ap (λ (l : List ℕ). sets l (j * width) us) (put_fits t k width vs q room)
        ∙ sets_sets us vs t (j * width) (k * width) (omega arith)
        ∙ ap (λ (l : List ℕ). sets l (k * width) vs) (sym (put_fits t j width us p (omega arith)))
        ∙ sym (put_fits (put_row t j us) k width vs q (omega (arith, put_long t j us p)))
    | no full ↦
        ap (λ (l : List ℕ). put_row l j us) (put_full t k width vs q (omega arith))
        ∙ sym (put_full (put_row t j us) k width vs q (omega (arith, put_long t j us p)))
  ]

-- ---- a row before rows

module _ {A : Type 0} (row : A → List ℕ) (width : ℕ) (each : (x : A) → length (row x) ≡ width) where
  pub rows_back : (t : List ℕ) (j k : ℕ) (x : A) (xs : List A) → j < k → put_row (put_rows row t k xs) j (row x) ≡ put_rows row (put_row t j (row x)) k xs
  unfolding put_rows
  rows_back t j k x [] h = refl
  rows_back t j k x (y ∷ ys) h =
      rows_back (put_row t k (row y)) j (k + 1) x ys (omega arith)
      ∙ ap (λ (l : List ℕ). put_rows row l (k + 1) ys) (row_back width t j k (row x) (row y) (each x) (each y) h)

  -- a row of its own, stored once those of its parts are
  pub own_row : (t : List ℕ) (k : ℕ) (x : A) (xs : List A) → put_row (put_rows row t (k + 1) xs) k (row x) ≡ put_rows row t k (x ∷ xs)
  unfolding put_rows
  own_row t k x xs = rows_back t k (k + 1) x xs (omega arith)

  -- two of them, the later one behind the rows of the first one's parts
  pub two_rows : (t : List ℕ) (j k : ℕ) (x y : A) (xs ys : List A) → k ≡ j + 1 + length xs
      → put_row (put_row (put_rows row (put_rows row t (j + 1) xs) (k + 1) ys) j (row x)) k (row y) ≡ put_rows row t j (x ∷ xs ++ y ∷ ys)
  two_rows t j k x y xs ys e =
      let m : k ≡ j + length (x ∷ xs) = omega arith in
      ap (λ (l : List ℕ). put_row l k (row y))
      (rows_back (put_rows row t (j + 1) xs) j (k + 1) x ys (omega arith) ∙ ap (λ (l : List ℕ). put_rows row l (k + 1) ys) (own_row t j x xs))
      ∙ own_row (put_rows row t j (x ∷ xs)) k y ys
      ∙ ap (λ (n : ℕ). put_rows row (put_rows row t j (x ∷ xs)) n (y ∷ ys)) m
      ∙ more_rows row t j (x ∷ xs) (y ∷ ys)

-- ---- of what is held

module _ (s : List ℕ) where
  pub held_long : (r : rows.Row) → length (stmt_row (token_of s) r) ≡ stmt_width
  unfolding stmt_row
  held_long r = refl

  pub held_back : (t : List ℕ) (j k : ℕ) (r : rows.Row) (rs : List rows.Row) → j < k
      → put_row (put_held s t k rs) j (stmt_row (token_of s) r) ≡ put_held s (put_row t j (stmt_row (token_of s) r)) k rs
  held_back = rows_back (stmt_row (token_of s)) stmt_width held_long

  pub held_own : (t : List ℕ) (k : ℕ) (r : rows.Row) (rs : List rows.Row)
      → put_row (put_held s t (k + 1) rs) k (stmt_row (token_of s) r) ≡ put_held s t k (r ∷ rs)
  held_own = own_row (stmt_row (token_of s)) stmt_width held_long

  pub held_two : (t : List ℕ) (j k : ℕ) (r q : rows.Row) (rs qs : List rows.Row) → k ≡ j + 1 + length rs
      → put_row (put_row (put_held s (put_held s t (j + 1) rs) (k + 1) qs) j (stmt_row (token_of s) r)) k (stmt_row (token_of s) q)
      ≡ put_held s t j (r ∷ rs ++ q ∷ qs)
  held_two = two_rows (stmt_row (token_of s)) stmt_width held_long

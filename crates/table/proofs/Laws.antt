-- What holds of tables: a table keeps its length, a row stored at the count is one row more, all is zero before the first,
-- and the words read back are those of the rows.
use mathlib.Core.Path.{◌≡◌, refl, sym, ap, ◌∙◌}
use mathlib.Core.List.{List, [], ◌∷◌, ◌++◌, append_assoc, append-nil}
use Prim.Native.Nat.{ℕ, zero, suc, ◌+◌, ◌-◌, ◌*◌, ◌/◌, ◌≤◌, ◌<◌}
use native.Mathlib.Nat.{le_trans, le-div_iff_mul-le, div-lt_iff_lt-mul, div-mul-le_self, mul_comm, mul-suc, mul-le-mul_right, suc-mul}
use native.Mathlib.Omega.{arith}
use native.Mathlib.Decide.{dec_le}
use borrow.Author.Tests.{le-leb, lt-leb}
use lib.ListN.{length, get_or, set, take, replicate, length-append, get_or-append, get_or-eq_default}
use lib.Seq.{sets, take_all, take-append-le, take-append-add, take-nil, get_or-append-add}
use Rattle.table.specs.Table.{pad_to, flat, tabled, put_row}

-- ---- padding

pub length_pad : (n : ℕ) (xs : List ℕ) → length (pad_to n xs) ≡ n
unfolding pad_to
length_pad zero xs = refl
length_pad (suc n) [] = ap suc (length_pad n [])
length_pad (suc n) (x ∷ xs) = ap suc (length_pad n xs)

pub pad_none : (n : ℕ) → pad_to n [] ≡ replicate n 0
unfolding pad_to
pad_none zero = refl
pad_none (suc n) = ap (λ (l : List ℕ). 0 ∷ l) (pad_none n)

-- what is there and fits, then zeros
pub pad_split : (n : ℕ) (xs : List ℕ) → pad_to (length xs + n) xs ≡ xs ++ replicate n 0
unfolding pad_to
pad_split n [] = let e : 0 + n ≡ n = omega arith in rw e (pad_none n)
pad_split n (x ∷ xs) = let e : suc (length xs) + n ≡ suc (length xs + n) = omega arith in rw e (ap (λ (l : List ℕ). x ∷ l) (pad_split n xs))

-- a list's own length is the one that it is padded to
pub pad_own : {t : List ℕ} (k n : ℕ) (xs : List ℕ) → t ≡ pad_to k xs → length t ≡ n → t ≡ pad_to n xs
pad_own k n xs e l = e ∙ ap (λ (m : ℕ). pad_to m xs) (sym (length_pad k xs) ∙ sym (ap length e) ∙ l)

-- what is read back, also past the end
pub pad_word : (n : ℕ) (xs : List ℕ) (i : ℕ) → length xs ≤ n → get_or (pad_to n xs) i 0 ≡ get_or xs i 0
unfolding pad_to
pad_word zero [] i h = refl
pad_word zero (x ∷ xs) i h = absurd (omega arith)
pad_word (suc n) [] zero h = refl
pad_word (suc n) [] (suc i) h = pad_word n [] i (omega arith)
pad_word (suc n) (x ∷ xs) zero h = refl
pad_word (suc n) (x ∷ xs) (suc i) h = pad_word n xs i (omega arith)

-- what is there is kept where it fits
pub pad_prefix : (n : ℕ) (xs : List ℕ) → length xs ≤ n → take (length xs) (pad_to n xs) ≡ xs
unfolding pad_to
pad_prefix n [] h = refl
pad_prefix zero (x ∷ xs) h = absurd (omega arith)
pad_prefix (suc n) (x ∷ xs) h = ap (λ (l : List ℕ). x ∷ l) (pad_prefix n xs (omega arith))

-- a store after what is there, also where that is past the end
pub put_end : (n : ℕ) (xs : List ℕ) (a : ℕ) → set (pad_to n xs) (length xs) a ≡ pad_to n (xs ++ a ∷ [])
unfolding pad_to
put_end zero xs a = refl
put_end (suc n) [] a = refl
put_end (suc n) (x ∷ xs) a = ap (λ (l : List ℕ). x ∷ l) (put_end n xs a)

-- a store over what is there
pub put_over : (n : ℕ) (xs ys : List ℕ) (a b : ℕ) → set (pad_to n (xs ++ a ∷ ys)) (length xs) b ≡ pad_to n (xs ++ b ∷ ys)
unfolding pad_to
put_over zero xs ys a b = refl
put_over (suc n) [] ys a b = refl
put_over (suc n) (x ∷ xs) ys a b = ap (λ (l : List ℕ). x ∷ l) (put_over n xs ys a b)

-- several stores after what is there
pub puts_end : (n : ℕ) (xs ws : List ℕ) → sets (pad_to n xs) (length xs) ws ≡ pad_to n (xs ++ ws)
puts_end n xs [] = rw append-nil
puts_end n xs (a ∷ ws) =
    let long : suc (length xs) ≡ length (xs ++ a ∷ []) = simp length-append (omega arith) in
    rw (put_end n xs a, long, puts_end n (xs ++ a ∷ []) ws, append_assoc)

-- ---- rows

-- a row that has room, and one that has none
module _ (t : List ℕ) (k width : ℕ) (ws : List ℕ) (each : length ws ≡ width) where
  pub put_fits : k * width + width ≤ length t → put_row t k ws ≡ sets t (k * width) ws
  unfolding put_row
  put_fits h = rw (← each) (rw (le-leb _ _ (rw (← each) at h), put_row))

  pub put_full : length t < k * width + width → put_row t k ws ≡ t
  unfolding put_row
  put_full h = rw (lt-leb _ _ (rw (← each) at h), put_row)

module _ {A : Type 0} (row : A → List ℕ) where
  pub flat_append : (xs ys : List A) → flat row (xs ++ ys) ≡ flat row xs ++ flat row ys
  flat_append [] ys = refl
  flat_append (x ∷ xs) ys = rw (flat_append xs ys, append_assoc)

  pub length_tabled : (width n : ℕ) (xs : List A) → length (tabled row width n xs) ≡ n
  unfolding tabled
  length_tabled width n xs = length_pad n (flat row (take (n / width) xs))

  -- a table's own length is the one that its rows are laid out for
  pub tabled_own : {t : List ℕ} (width k n : ℕ) (xs : List A) → t ≡ tabled row width k xs → length t ≡ n → t ≡ tabled row width n xs
  tabled_own width k n xs e l = e ∙ ap (λ (m : ℕ). tabled row width m xs) (sym (length_tabled width k xs) ∙ sym (ap length e) ∙ l)

  -- a table that holds no row is zero from end to end
  pub tabled_none : (width n : ℕ) → tabled row width n [] ≡ pad_to n []
  unfolding tabled
  tabled_none width n = rw take-nil

  -- where all rows fit, none is lost
  pub tabled_all : (width n : ℕ) (xs : List A) → length xs ≤ n / width → tabled row width n xs ≡ pad_to n (flat row xs)
  unfolding tabled
  tabled_all width n xs h = rw (take_all (n / width) xs h)

  -- for rows of one width
  module _ (width : ℕ) (each : (x : A) → length (row x) ≡ width) where
    pub length_flat : (xs : List A) → length (flat row xs) ≡ length xs * width
    length_flat [] = omega arith
    length_flat (x ∷ xs) =
        let e : length (flat row (x ∷ xs)) ≡ length (row x) + length (flat row xs) = length-append (row x) (flat row xs) in
        omega (arith, e, each x, length_flat xs, suc-mul (length xs) width)

    -- a row stored at the count is one row more, or is lost where the table is full
    pub put_next : 0 < width → (n : ℕ) (xs : List A) (x : A)
        → put_row (tabled row width n xs) (length xs) (row x) ≡ tabled row width n (xs ++ x ∷ [])
    unfolding tabled
    put_next pos n xs x =
        let m = suc-mul (length xs) width in
        let l = length_tabled width n xs in
        elim (dec_le (length xs * width + width) n) [
          | yes h ↦
              let fits : suc (length xs) ≤ n / width = (le-div_iff_mul-le pos).1 (omega arith) in
              let all : length xs ≤ n / width = omega arith in
              let one : length (xs ++ x ∷ []) ≤ n / width = simp length-append (omega arith) in
              put_fits (tabled row width n xs) (length xs) width (row x) (each x) (omega arith)
              ∙ rw (take_all (n / width) xs all, take_all (n / width) (xs ++ x ∷ []) one, ← length_flat xs, puts_end n (flat row xs) (row x), flat_append xs (x ∷ []), append-nil)
          | no h ↦
              let under : n / width < suc (length xs) = (div-lt_iff_lt-mul pos).1 (omega arith) in
              let full : n / width ≤ length xs = omega arith in
              put_full (tabled row width n xs) (length xs) width (row x) (each x) (omega arith)
              ∙ rw (take-append-le (n / width) xs (x ∷ []) full)
        ]

    -- the words of rows among which one has a word w
    words_there : (xs ys : List A) (z : A) (us vs : List ℕ) (w m more : ℕ) → m ≡ length xs + suc more → row z ≡ us ++ w ∷ vs
        → flat row (take m (xs ++ z ∷ ys)) ≡ (flat row xs ++ us) ++ w ∷ (vs ++ flat row (take more ys))
    words_there xs ys z us vs w m more e q = rw (e, take-append-add, flat_append xs, q) (simp append_assoc)

    -- a row and another in its place
    module _ (pos : 0 < width) (n : ℕ) (xs ys : List A) (x y : A) where
      -- which differ in one word: that word is stored, where the row has room
      pub put_in : (us vs : List ℕ) (a b : ℕ) → row x ≡ us ++ a ∷ vs → row y ≡ us ++ b ∷ vs → length xs * width + width ≤ n
          → set (tabled row width n (xs ++ x ∷ ys)) (length xs * width + length us) b ≡ tabled row width n (xs ++ y ∷ ys)
      unfolding tabled
      put_in us vs a b p q h =
          let fits : suc (length xs) ≤ n / width = (le-div_iff_mul-le pos).1 (omega (arith, suc-mul (length xs) width)) in
          let more = n / width - suc (length xs) in
          let room : n / width ≡ length xs + suc more = omega arith in
          let long : length xs * width + length us ≡ length (flat row xs ++ us) = simp length-append (omega (arith, length_flat xs)) in
          rw (words_there xs ys x us vs a (n / width) more room p, words_there xs ys y us vs b (n / width) more room q, long)
          (put_over n (flat row xs ++ us) (vs ++ flat row (take more ys)) a b)

      -- without room neither is there
      pub put_lost : n < length xs * width + width → tabled row width n (xs ++ x ∷ ys) ≡ tabled row width n (xs ++ y ∷ ys)
      unfolding tabled
      put_lost h =
          let under : n / width < suc (length xs) = (div-lt_iff_lt-mul pos).1 (omega (arith, suc-mul (length xs) width)) in
          let full : n / width ≤ length xs = omega arith in
          rw (take-append-le (n / width) xs (x ∷ ys) full, take-append-le (n / width) xs (y ∷ ys) full)

    -- the words of the row numbered i, one after the other
    pub flat_word : (xs : List A) (i j : ℕ) → i < length xs → j < width → (d : A) → get_or (flat row xs) (width * i + j) 0 ≡ get_or (row (get_or xs i d)) j 0
    flat_word [] i j h l d = absurd (omega arith)
    flat_word (x ∷ xs) zero j h l d =
        let e : width * 0 + j ≡ j = omega arith in
        rw e (get_or-append (row x) (flat row xs) 0 j (omega (arith, each x)))
    flat_word (x ∷ xs) (suc i) j h l d =
        let e : width * suc i + j ≡ length (row x) + (width * i + j) = omega (arith, each x, mul-suc width i) in
        rw (e, get_or-append-add) (flat_word xs i j (omega arith) l d)

    -- as many rows as fit are as many words as fit
    flat_fits : (n : ℕ) (xs : List A) → length xs ≤ n / width → length (flat row xs) ≤ n
    flat_fits n xs h = rw length_flat (le_trans (mul-le-mul_right width h) (div-mul-le_self n width))

    -- a word of a row, read back
    pub tabled_word : (n : ℕ) (xs : List A) → length xs ≤ n / width → (i j : ℕ) → i < length xs → j < width → (d : A)
        → get_or (tabled row width n xs) (width * i + j) 0 ≡ get_or (row (get_or xs i d)) j 0
    tabled_word n xs h i j a b d =
        rw (tabled_all width n xs h, pad_word n (flat row xs) (width * i + j) (flat_fits n xs h)) (flat_word xs i j a b d)

    -- past the last row all is zero
    pub tabled_past : (n : ℕ) (xs : List A) → length xs ≤ n / width → (i j : ℕ) → length xs ≤ i
        → get_or (tabled row width n xs) (width * i + j) 0 ≡ 0
    tabled_past n xs h i j a =
        let past : length xs * width ≤ i * width = mul-le-mul_right width a in
        let under : length (flat row xs) ≤ width * i + j = omega (arith, length_flat xs, mul_comm i width) in
        rw (tabled_all width n xs h, pad_word n (flat row xs) (width * i + j) (flat_fits n xs h)) (get_or-eq_default (flat row xs) 0 under)

    -- the part of a table that the rows take holds just them
    pub tabled_rows : (n : ℕ) (xs : List A) → length xs ≤ n / width → take (width * length xs) (tabled row width n xs) ≡ flat row xs
    tabled_rows n xs h =
        rw (tabled_all width n xs h, mul_comm, ← length_flat xs) (pad_prefix n (flat row xs) (flat_fits n xs h))

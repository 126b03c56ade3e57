-- What the stores leave.
use mathlib.Core.Path.{◌≡◌, refl, sym, ◌∙◌}
use mathlib.Core.List.{List, [], ◌∷◌, ◌++◌, append_assoc}
use Prim.Native.Nat.{ℕ, suc, ◌+◌, ◌*◌, ◌≤◌, ◌<◌}
use native.Mathlib.Nat.{le_trans, mul-le-mul_left, mul-le-mul_right}
use native.Mathlib.Numerals.{add-one}
use native.Mathlib.Omega.{arith}
use borrow.Rule.Slice.PartMut.{put_mid}
use lib.ListN.{length, set, get_or, take, replicate}
use lib.Seq.{sets, sets-eq, take-suc, length-take-le}
use Rattle.std.proofs.lemmas.List.Edits.{paste_all}
use Rattle.std.proofs.lemmas.Slice.{put_mid-paste}
use Rattle.table.specs.Table.{pad_to, put_row}
use Rattle.table.proofs.Laws.{pad_none, put_fits}

-- zeros alone are what an empty list is padded to
pub cleared : {t : List ℕ} (n : ℕ) → t ≡ replicate n 0 → t ≡ pad_to n []
cleared n e = e ∙ sym (pad_none n)

-- the part of a row with the row's words in it
pub copied : (l ws : List ℕ) (k n : ℕ) {new : List ℕ} → k * length ws + length ws ≤ length l → new ≡ ws → length ws ≡ n → put_mid (k * length ws) n l new ≡ put_row l k ws
copied l ws k n {new} h e q =
    put_mid-paste (k * length ws) n l new ws (length ws) e q refl
    ∙ paste_all l (k * length ws) ws (length ws) refl
    ∙ sym (append_assoc (take (k * length ws) l) ws _)
    ∙ sym (sets-eq ws l (k * length ws) h)
    ∙ sym (put_fits l k (length ws) ws refl h)

-- one store more in a run of them
sets_more : (l : List ℕ) (at : ℕ) (vs : List ℕ) (a : ℕ) → set (sets l at vs) (at + length vs) a ≡ sets l at (vs ++ a ∷ [])
sets_more l at [] a = let e : at + 0 ≡ at = omega arith in rw e
sets_more l at (v ∷ vs) a = let e : at + suc (length vs) ≡ suc at + length vs = omega arith in rw e (sets_more (set l at v) (suc at) vs a)

-- a loop that copies one after the other: one more
pub copy_more : (l ws t : List ℕ) (at i : ℕ) → i < length ws → t ≡ sets l at (take i ws) → set t (at + i) (get_or ws i 0) ≡ sets l at (take (i + 1) ws)
copy_more l ws t at i h e =
    let long : length (take i ws) ≡ i = length-take-le i ws (omega arith) in
    let one : set (sets l at (take i ws)) (at + length (take i ws)) (get_or ws i 0) ≡ sets l at (take i ws ++ (get_or ws i 0 ∷ [])) = sets_more l at (take i ws) (get_or ws i 0) in
    rw (e, add-one, take-suc ws i 0) (rw long at one)

-- a row's first word lies below 2^44
pub row_start : (k w : ℕ) → k ≤ 4294967296 → w ≤ 4096 → k * w ≤ 17592186044416
row_start k w a b = le_trans (mul-le-mul_left k b) (mul-le-mul_right {m = k} {n = 4294967296} 4096 a)

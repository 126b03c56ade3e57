-- Runs of bytes with p.
--     all_tested  bytes that are tested one after the other
--     run_first   a run is as long as the place of the first byte without p says
--     begin       a place is reached from itself
--     onward      and from a place that is reached, another from which f says the same
--     arrive      where the end is here, it is the end
--     run_more    a byte more with p; run_stop the first without; run_end_lem the end of the line
--     run_block   a block of bytes with p is passed
--     refused, passed   what `if !f(b)` says of what f tests
use Rattle.std.proofs.Common.{◌≡◌, ℕ, zero, suc, ◌+◌, ◌≤◌, ◌<◌, Bool, true, false, not, ◌&&◌, cond, List, [], ◌∷◌, refl, sym, ap, ◌∙◌, Some, None, length, take, drop, arith}
use Rattle.std.specs.List.{fold, list_all, position, position_or_len}
use mathlib.Core.Bool.{and-true, and_assoc}
use Rattle.std.proofs.Math.Bool.{and_comm}
use Rattle.std.proofs.Math.Seq.{drop-drop}
use Rattle.std.proofs.Math.ListN.{length-drop}
use Rattle.std.proofs.lemmas.List.Recursion.{is_position_or_len}
use borrow.Author.Tests.{ltb-false, not-true, not-false}
use native.Mathlib.Numerals.{add-one}
use lib.ListN.{get_or, drop_of_length-le}
use lib.Seq.{drop-cons}
use Rattle.language.proofs.LexemeSizes.{run_fits}
use Rattle.language.specs.Choice.{if'}
use Rattle.language.specs.Lexemes.{run}
use Rattle.language.proofs.Tests.{both, never}
use Rattle.classes.specs.Runs.{run_end, Reached}

module _ {f : List ℕ → ℕ → ℕ} {s : List ℕ} where
  pub begin : {at : ℕ} → at ≤ length s → Reached f s at at
  begin h = record { in_line = h; same = refl }

  pub onward : {at i next : ℕ} → Reached f s at i → next ≤ length s → f s next ≡ f s i → Reached f s at next
  onward r h e = record { in_line = h; same = e ∙ r.same }

  pub arrive : {at i : ℕ} → Reached f s at i → f s i ≡ i → i ≡ f s at
  arrive r e = sym e ∙ r.same

-- ---- a run, byte by byte

module _ (p : ℕ → Bool) {s : List ℕ} {at i : ℕ} (r : Reached (run_end p) s at i) where
  pub run_more : i < length s → p (get_or s i 0) ≡ true → Reached (run_end p) s at (i + 1)
  unfolding run_end
  run_more h e = onward r (omega arith) (rw (add-one, drop-cons s i 0, e) (omega arith))

  pub run_stop : i < length s → p (get_or s i 0) ≡ false → i ≡ run_end p s at
  unfolding run_end
  run_stop h e = arrive r (rw (drop-cons s i 0, e) (omega arith))

  pub run_end_lem : length s ≤ i → i ≡ run_end p s at
  unfolding run_end
  run_end_lem h = arrive r (rw drop_of_length-le (omega arith))

pub refused : {t u : Bool} → t ≡ u → not t ≡ true → u ≡ false
refused e h = sym e ∙ not-true _ h

pub passed : {t u : Bool} → t ≡ u → not t ≡ false → u ≡ true
passed e h = sym e ∙ not-false _ h

-- ---- by blocks

module _ (p : ℕ → Bool) where
  tested : (t : List ℕ) (a : Bool) → fold (λ (all : Bool) (b : ℕ). p b && all) a t ≡ (a && list_all p t)
  tested [] a = sym (and-true a)
  tested (b ∷ t) a = tested t (p b && a) ∙ ap (λ (x : Bool). x && list_all p t) (and_comm (p b) a) ∙ and_assoc a (p b) (list_all p t)

  run_size : (t : List ℕ) → run p t ≡ position_or_len (λ b. not (p b)) t
  run_size = is_position_or_len (run p) (λ b. not (p b)) refl (λ b t. one_more (p b) (run p t))
    where
      one_more : (x : Bool) (n : ℕ) → if' x (suc n) 0 ≡ cond (not x) 0 (1 + n)
      one_more true n = omega arith
      one_more false n = refl

  over : (n : ℕ) (t : List ℕ) → n ≤ length t → list_all p (take n t) ≡ true → run p t ≡ n + run p (drop n t)
  over zero t h e = omega arith
  over (suc n) [] h e = absurd (omega arith)
  over (suc n) (b ∷ t) h e =
      let k = both (p b) (list_all p (take n t)) e in
      let more = over n t (omega arith) k.1 in
      rw k.0 (omega arith)

  pub run_block : {s : List ℕ} {at i : ℕ} (n : ℕ) → Reached (run_end p) s at i → i + n ≤ length s
      → fold (λ (all : Bool) (b : ℕ). p b && all) true (take n (drop i s)) ≡ true → Reached (run_end p) s at (i + n)
  unfolding run_end
  run_block {s} {at} {i} n r h e =
      let k = over n (drop i s) (omega (arith, length-drop i s)) (sym (tested (take n (drop i s)) true) ∙ e) in
      let d : run p (drop n (drop i s)) ≡ run p (drop (i + n) s) = rw drop-drop in
      onward r h (omega (arith, k, d))

  at_some : (t : Bool) {n k : ℕ} → Some n ≡ cond t (Some k) None → n ≡ k
  at_some true e = cc
  at_some false e = never (cc)

  at_none : (t : Bool) (k : ℕ) → None ≡ cond t (Some k) None → t ≡ false
  at_none true k e = never (cc)
  at_none false k e = refl

  -- where the first byte without p is in the part from `at` on, and where there is none
  module _ (s : List ℕ) (at : ℕ) (h : at ≤ length s) where
    pub run_some : {n : ℕ} → Some n ≡ position (λ b. not (p b)) (drop at s) → at + n ≡ run_end p s at
    unfolding run_end
    run_some e = ap (λ (n : ℕ). at + n) (at_some _ e ∙ sym (run_size (drop at s)))

    pub run_none : None ≡ position (λ b. not (p b)) (drop at s) → length s ≡ run_end p s at
    unfolding run_end
    run_none e =
        let k = ltb-false _ _ (at_none _ _ e) in
        omega (arith, k, run_size (drop at s), run_fits p (drop at s), length-drop at s)

-- The lexemes of a line: one after the other, each by its rule.
use Prim.Native.Nat.{ℕ, zero, suc, ◌+◌, ◌-◌, ◌≤◌, ◌<◌}
use mathlib.Core.Path.{◌≡◌, refl, ap}
use mathlib.Core.List.Memᴰ
use mathlib.Core.List.{List, [], ◌∷◌, Memᴰ}
use mathlib.Core.Logic.{inl, inr}
use native.Mathlib.Omega.{arith}
use lib.ListN.{length, drop, length-drop}
use lib.Seq.{drop-drop}
use Rattle.language.specs.Lexemes.{lexeme, Placed, placed, scan_from, Join, joined_none, joined_one, SpansJoin, EachByItsRule, ScanUnfolds}
use Rattle.language.proofs.LexemeSizes.{size_fits}

-- the bytes left of a lexeme are stepped over
skips : (skip at to : ℕ) (s : List ℕ) → at + skip ≡ to → scan_from skip at s ≡ scan_from 0 to (drop skip s)
unfolding scan_from
skips zero at to s e = let z : at ≡ to = omega arith in rw z
skips (suc skip) at to [] e = refl
skips (suc skip) at to (b ∷ s) e = skips skip (suc at) to s (omega arith)

-- the byte that was read and those left of its lexeme are stepped over
next : (at b n : ℕ) (s : List ℕ) → 0 < n → scan_from (n - 1) (suc at) s ≡ scan_from 0 (at + n) (drop n (b ∷ s))
next at b zero s h = absurd (omega arith)
next at b (suc n) s h = let z : suc n - 1 ≡ n = omega arith in rw z (skips n (suc at) (at + suc n) s (omega arith))

-- one lexeme, and those of what is left
pub scan_unfolds : ScanUnfolds
unfolding scan_from
scan_unfolds at =
    (refl, λ b s. ap (λ (ps : List Placed). placed at (lexeme (b ∷ s)) ∷ ps) (next at b (lexeme (b ∷ s)).size s (size_fits b s).0))

-- P, of a place, the bytes from it on and their lexemes, passes from what follows a lexeme to what starts with it
abbrev Another : (ℕ → List ℕ → List Placed → Type 0) → Type 0
Another P =
    (at b : ℕ) (s : List ℕ) (ps : List Placed) → P (at + (lexeme (b ∷ s)).size) (drop (lexeme (b ∷ s)).size (b ∷ s)) ps
    → P at (b ∷ s) (placed at (lexeme (b ∷ s)) ∷ ps)

-- then it holds everywhere, where it holds at the end
module _ (P : ℕ → List ℕ → List Placed → Type 0) (ends : (at : ℕ) → P at [] []) (another : Another P) where
  -- bytes fewer than `fuel`
  bounded : (fuel at : ℕ) (s : List ℕ) → length s < fuel → P at s (scan_from 0 at s)
  unfolding scan_from
  bounded zero at s l = absurd (omega arith)
  bounded (suc fuel) at [] l = ends at
  bounded (suc fuel) at (b ∷ s) l =
      let n = (lexeme (b ∷ s)).size in
      let h = size_fits b s in
      rw ((scan_unfolds at).1 b s) (another at b s _ (bounded fuel (at + n) (drop n (b ∷ s)) (rw length-drop (omega arith))))

  -- a whole line
  everywhere : (s : List ℕ) → P 0 s (scan_from 0 0 s)
  everywhere s = bounded (suc (length s)) 0 s (omega arith)

-- ---- spans

-- spans from `at` to the end e of s, no more than s has bytes
abbrev Spans : ℕ → List ℕ → List Placed → Type 0
Spans at s ps = (e : ℕ) → at + length s ≡ e → Join at e ps × (length ps ≤ length s)

-- no span at the end
no_span : (at : ℕ) → Spans at [] []
no_span at e h = let z : at ≡ e = omega arith in rw z (joined_none, omega arith)

-- a span and those after it
another_span : Another Spans
another_span at b s ps more e h =
    let k = size_fits b s in
    let l = length-drop (lexeme (b ∷ s)).size (b ∷ s) in
    let d = more e (omega arith) in
    (joined_one (placed at (lexeme (b ∷ s))) (omega arith) d.0, omega (arith, d.1))

pub spans_join : SpansJoin
spans_join line = everywhere Spans no_span another_span line (length line) (omega arith)

-- ---- rules

module _ (line : List ℕ) where
  -- where s is what the line has from `at` on, each lexeme is the one that its rule gives
  abbrev Ruled : ℕ → List ℕ → List Placed → Type 0
  Ruled at s ps =
      drop at line ≡ s → (p : Placed) → Memᴰ p ps
      → (p.start < length line) × (p ≡ placed p.start (lexeme (drop p.start line)))

  -- no lexeme at the end
  no_rule : (at : ℕ) → Ruled at [] []
  no_rule at e p m = absurd (Memᴰ.not-nil m)

  -- the first is by its rule, and those after it are
  another_rule : Another Ruled
  another_rule at b s ps more e p m =
      elim (Memᴰ.cases_cons m) [
        | inl q ↦ rw (q, e) (omega (arith, rw length-drop at (ap length e)), refl)
        | inr n ↦ more (rw (← e, drop-drop)) p n
      ]

pub each_by_its_rule : EachByItsRule
each_by_its_rule line = everywhere (Ruled line) (no_rule line) (another_rule line) line refl

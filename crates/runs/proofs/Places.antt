-- Places of a line: the byte there, and where a run from there ends.
use Prim.Native.Nat.{ℕ, ◌+◌, ◌-◌, ◌<◌, ◌≤◌}
use mathlib.Core.Path.{◌≡◌}
use mathlib.Core.Bool.{Bool}
use mathlib.Core.List.{List, ◌∷◌}
use native.Mathlib.Numerals.{add-one}
use native.Mathlib.Omega.{arith}
use lib.ListN.{length, get_or, take, drop, length-drop}
use lib.Seq.{drop-cons}
use Rattle.language.specs.Lexemes.{run}
use Rattle.language.specs.Tokens.{between}
use Rattle.language.proofs.LexemeSizes.{run_fits}
use Rattle.classes.specs.Runs.{run_end}

module _ (line : List ℕ) (at : ℕ) where
  -- where the line has a byte here, the rest begins with it
  pub here : at < length line → drop at line ≡ get_or line at 0 ∷ drop (at + 1) line
  here h = rw (add-one, drop-cons line at 0)

  -- a run that starts here ends within the line
  pub run_ends : (p : ℕ → Bool) → at ≤ length line → (at ≤ run_end p line at) × (run_end p line at ≤ length line)
  unfolding run_end
  run_ends p h = (omega arith, omega (arith, run_fits p (drop at line), length-drop at line))

-- a run of bytes with p
module _ (p : ℕ → Bool) where
  pub run_starts : (s : List ℕ) (at e : ℕ) → at < e → e ≡ run_end p s at → (at < length s) × (e ≤ length s)
  unfolding run_end
  run_starts s at e h k =
      let l = run_fits p (drop at s) in
      let d = length-drop at s in
      (omega arith, omega arith)

  pub run_between : (s : List ℕ) (at e : ℕ) → e ≡ run_end p s at → between s at e ≡ take (run p (drop at s)) (drop at s)
  unfolding run_end
  run_between s at e k =
      let n : e - at ≡ run p (drop at s) = omega arith in
      rw n

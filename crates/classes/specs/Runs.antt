-- Runs of bytes with one property.
use Rattle.std.specs.Prelude.{ℕ, ◌+◌, ◌≤◌, ◌≡◌, Bool, List, drop, length}
use Rattle.language.specs.Lexemes.{run}

-- where a run of bytes with p that starts at `at` ends
unfoldable pub run_end : (ℕ → Bool) → List ℕ → ℕ → ℕ
run_end p s at = at + run p (drop at s)

-- a place of the line from which f says the same as from `at`
pub record Reached (f : List ℕ → ℕ → ℕ) (s : List ℕ) (at i : ℕ) : Type 0 where
  pub in_line : i ≤ length s
  pub same : f s i ≡ f s at

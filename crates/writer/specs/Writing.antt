-- What it is to write bytes into a lent text that may be too short for them.
use Rattle.std.specs.Prelude.{ℕ, ◌+◌, ◌≡◌, List, length}
use Rattle.std.proofs.lemmas.List.Edits.{sets}

-- bytes written at the place `at` of a text: t before, u after, and r the place after them. They are stored one by one from `at`
-- on; one past the end is counted, and its store is none.
pub record Writes (t : List ℕ) (at : ℕ) (bytes : List ℕ) (r : ℕ) (u : List ℕ) : Type 0 where
  pub answer : r ≡ at + length bytes
  pub text : u ≡ sets t at bytes

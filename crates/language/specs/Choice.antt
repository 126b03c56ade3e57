-- How the definitions choose. Assumes nothing.
use Rattle.std.specs.Prelude.{ℕ, Bool, true, false, ◌&&◌, leb}

-- a where the test passes, else b
abbrev pub if' : {A : Type 0} → Bool → A → A → A
if' true a b = a
if' false a b = b

-- low to high, both included
abbrev pub within : ℕ → ℕ → ℕ → Bool
within low high n = leb low n && leb n high

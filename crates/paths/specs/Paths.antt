-- How the number of a module stands for one that was found.
use Rattle.std.specs.Prelude.{ℕ, zero, suc}
use Rattle.std.proofs.Math.Option.{Option, none, some}

-- none where the number is 0
abbrev pub or_none : ℕ → Option ℕ
or_none zero = none
or_none (suc k) = some (suc k)

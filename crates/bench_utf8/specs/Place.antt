use Rattle.std.specs.Prelude.{ℕ, List, length}
use Rattle.std.proofs.Math.Option.{Option, none, some}
use Rattle.language.specs.Utf8.{first_bad}

-- a place, or the end where there is none
abbrev pub place_or : ℕ → Option ℕ → ℕ
place_or end (some at) = at
place_or end none = end

-- the first place where no character starts, or the end
unfoldable pub bad_or_end : List ℕ → ℕ
bad_or_end s = place_or (length s) (first_bad s)

-- What the code says of places in a line: where a run ends, and whether a key stands there.
use Rattle.std.specs.Prelude.{ℕ, ◌+◌, Bool, List, drop}
use Rattle.language.specs.Lexemes.{blank_run, same}
use Rattle.language.specs.Tokens.{between}

-- where a run of blank characters that starts at `at` ends
unfoldable pub blank_end : List ℕ → ℕ → ℕ
blank_end s at = at + blank_run 0 (drop at s)

abbrev pub spelled : List ℕ → ℕ → ℕ → List ℕ → Bool
spelled s at e key = same (between s at e) key

use Rattle.std.specs.Prelude.{ℕ, Bool, ltb}

unfoldable pub is_ascii : ℕ → Bool
is_ascii b = ltb b 0x80

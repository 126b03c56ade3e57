-- The version of the C face: another one wherever a host has to be compiled anew.
use Rattle.std.specs.Prelude.{ℕ}

abbrev pub version : ℕ
version = 2

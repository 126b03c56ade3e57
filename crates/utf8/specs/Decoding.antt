-- How the code's answers stand for the language's.
use Rattle.std.specs.Prelude as code
use Rattle.std.specs.Prelude.{ℕ, ◌+◌, ◌≤◌, ◌<◌, ◌≡◌, List, length, drop, Some, None}
use Rattle.std.proofs.Math.Option.{Option, none, some}
use Rattle.language.specs.Utf8 as language
use Rattle.language.specs.Utf8.{Char, char, no_char, bad_from}
use Rattle.utf8.specs.declared.Decoded.{Decoded}
use Rattle.utf8.specs.declared.Lead.{Lead}

-- a character that starts at `at`
abbrev pub placed : ℕ → Char → code.Option Decoded
placed at (char n size) = Some (record { number = n; next = at + size })
placed at no_char = None

abbrev pub bad_of : Option ℕ → code.Option ℕ
bad_of (some at) = Some at
bad_of none = None

-- what a first octet says
abbrev pub leading : Option language.Lead → code.Option Lead
leading (some l) = Some (record { tails = l.tails; low = l.low; high = l.high; bits = l.bits })
leading none = None

-- what a first octet that is not ASCII says is small: with at most three more, the number has at most 23 bits
pub record Small (tails low high bits : ℕ) : Type 0 where
  pub few : tails ≤ 3
  pub tail : 0x80 ≤ low
  pub octet : high ≤ 0xBF
  pub start : bits < 0x20

-- a place further on, from which the first place where no character starts is the same
pub record Passed (s : List ℕ) (at next : ℕ) : Type 0 where
  pub further : at ≤ next
  pub in_source : next ≤ length s
  pub same : bad_from 0 next (drop next s) ≡ bad_from 0 at (drop at s)

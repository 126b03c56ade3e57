-- The body of a string literal, as the code cuts it out.
use Prim.Native.Nat.{ℕ, ◌+◌, ◌-◌, ◌≤◌, ◌<◌}
use mathlib.Core.Path.{◌≡◌}
use mathlib.Core.List.{List, []}
use native.Mathlib.Omega.{arith}
use native.Mathlib.Decide.{dec_le}
use borrow.Author.Tests.{le-leb, lt-leb}
use lib.ListN.{length}
use Rattle.language.specs.Tokens.{between}
use Rattle.scan.specs.Scanning.{body_of}

module _ (s : List ℕ) (at e : ℕ) where
  pub some_body : e ≤ length s → at + 1 < e → between s (at + 1) (e - 1) ≡ body_of s at e
  unfolding body_of
  some_body h k = rw (le-leb (at + 2) e (omega arith), le-leb e (length s) h)

  pub no_body : 0 < (at + 2 - e) + (e - length s) → [] ≡ body_of s at e
  unfolding body_of
  no_body h =
      elim (dec_le (at + 2) e) [
        | no below ↦ rw (lt-leb (at + 2) e (omega arith))
        | yes from ↦ rw (le-leb (at + 2) e from, lt-leb e (length s) (omega arith))
      ]

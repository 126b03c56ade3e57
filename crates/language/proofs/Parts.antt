-- Parts of a list of bytes: from one place up to another.
use Prim.Native.Nat.{ℕ, suc, ◌+◌, ◌-◌, ◌≤◌, ◌<◌}
use mathlib.Core.Path.{◌≡◌, sym, ◌∙◌}
use mathlib.Core.List.{List, [], ◌∷◌}
use native.Mathlib.Numerals.{add-one}
use native.Mathlib.Omega.{arith}
use lib.ListN.{length, get_or, take, drop, length-drop, drop_of_length-le}
use lib.Seq.{length-take-le, drop-cons, take_all, take-nil}
use Rattle.language.specs.Tokens.{between}

module _ (s : List ℕ) (at e : ℕ) where
  pub part_size : e ≤ length s → length (between s at e) ≡ e - at
  part_size h = length-take-le (e - at) (drop at s) (omega (arith, length-drop at s))

  -- its first byte apart
  pub part_cons : at < e → e ≤ length s → between s at e ≡ get_or s at 0 ∷ between s (at + 1) e
  part_cons h f =
      let n : e - at ≡ suc (e - (at + 1)) = omega arith in
      rw (n, drop-cons s at 0 (omega arith), add-one)

  -- nothing where the end does not come after the start
  pub part_none : e ≤ at → between s at e ≡ []
  part_none h =
      let n : e - at ≡ 0 = omega arith in
      rw n

  -- and nothing past the end of the list
  pub part_past : length s ≤ at → between s at e ≡ []
  part_past h =
      let d : drop at s ≡ [] = drop_of_length-le s h in
      rw (d, take-nil {A = ℕ} (e - at))

  -- all the list has where the end is past its end
  pub part_rest : length s ≤ e → take (length s - at) (drop at s) ≡ between s at e
  part_rest h =
      let n : length (drop at s) ≡ length s - at = length-drop at s in
      take_all (length s - at) (drop at s) (omega (arith, n)) ∙ sym (take_all (e - at) (drop at s) (omega (arith, n, h)))

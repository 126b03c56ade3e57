-- The octets after the first: what holds in the loop of `read_tails`.
--     start     as the loop begins
--     more      one more octet within the bounds
--     ended     the source ends too early
--     low, high an octet out of the bounds
--     done      no octet is left
--     fits      the number stays within 32 bits
use mathlib.Core.Path.{◌≡◌, refl, sym, ap, ◌∙◌}
use mathlib.Core.Bool.{true, false}
use mathlib.Core.List.{List, [], ◌∷◌}
use Prim.Native.Nat.{ℕ, zero, suc, ◌+◌, ◌-◌, ◌*◌, ◌≤◌, ◌<◌}
use native.Mathlib.Numerals.{add-one}
use native.Mathlib.Omega.{arith}
use lib.ListN.{length, get_or, drop, drop_of_length-le}
use lib.Seq.{drop-cons}
use Rattle.language.specs.Choice.{within}
use Rattle.language.specs.Utf8.{Char, char, no_char, follow}
use Rattle.std.specs.Prelude.{Some, None}
use Rattle.utf8.specs.Decoding.{placed, Small}
use Rattle.language.proofs.Tests.{inside_test, outside_test}

-- the number is below this while so many octets are left: six bits less for each
abbrev pub room : ℕ → ℕ
room zero = 0x800000
room (suc zero) = 0x20000
room (suc (suc zero)) = 0x800
room (suc (suc (suc k))) = 0x20

six_bits : (left bits w : ℕ) → 0 < left → left ≤ 3 → bits < room left → w < 64 → bits * 64 + w < room (left - 1)
six_bits zero bits w p h r l = absurd (omega arith)
six_bits (suc zero) bits w p h r l = omega arith
six_bits (suc (suc zero)) bits w p h r l = omega arith
six_bits (suc (suc (suc zero))) bits w p h r l = omega arith
six_bits (suc (suc (suc (suc k)))) bits w p h r l = absurd (omega arith)

room_start : (k bits : ℕ) → bits < 0x20 → bits < room k
room_start zero bits h = omega arith
room_start (suc zero) bits h = omega arith
room_start (suc (suc zero)) bits h = omega arith
room_start (suc (suc (suc k))) bits h = h

room_most : (k : ℕ) → 0 < k → room k ≤ 0x20000
room_most zero h = absurd (omega arith)
room_most (suc zero) h = omega arith
room_most (suc (suc zero)) h = omega arith
room_most (suc (suc (suc k))) h = omega arith

-- ---- the clauses of `follow`, for any number of octets that are left

follow_done : (size left low high bits : ℕ) (s : List ℕ) → left ≤ 0 → follow size left low high bits s ≡ char bits size
unfolding follow
follow_done size zero low high bits s h = refl
follow_done size (suc left) low high bits s h = absurd (omega arith)

follow_none : (size left low high bits : ℕ) → 0 < left → follow size left low high bits [] ≡ no_char
unfolding follow
follow_none size zero low high bits h = absurd (omega arith)
follow_none size (suc left) low high bits h = refl

follow_out :
    (size left low high bits b : ℕ) (s : List ℕ) → 0 < left → within low high b ≡ false → follow size left low high bits (b ∷ s) ≡ no_char
unfolding follow
follow_out size zero low high bits b s h e = absurd (omega arith)
follow_out size (suc left) low high bits b s h e = rw e

follow_in :
    (size left low high bits b : ℕ) (s : List ℕ)
    → 0 < left
    → within low high b ≡ true
    → follow size left low high bits (b ∷ s) ≡ follow size (left - 1) 0x80 0xBF (bits * 64 + (b - 0x80)) s
unfolding follow
follow_in size zero low high bits b s h e = absurd (omega arith)
follow_in size (suc left) low high bits b s h e = let p : suc left - 1 ≡ left = omega arith in rw (e, p)

-- the character that is promised is what is read from here
pub record Tails (s : List ℕ) (at size : ℕ) (promised : Char) (low high bits left i : ℕ) : Type 0 where
  pub rest : follow size left low high bits (drop i s) ≡ promised
  pub place : i + left ≡ at + size
  pub few : left ≤ 3
  pub tail : 0x80 ≤ low
  pub octet : high ≤ 0xBF
  pub small : bits < room left

pub start :
    (s : List ℕ) (at tails low high bits : ℕ)
    → Small tails low high bits
    → Tails s at (suc tails) (follow (suc tails) tails low high bits (drop (at + 1) s)) low high bits tails (at + 1)
start s at tails low high bits h =
    record {
      rest = refl;
      place = omega arith;
      few = h.few;
      tail = h.tail;
      octet = h.octet;
      small = room_start tails bits h.start;
    }

module _ (s : List ℕ) (at size : ℕ) (promised : Char) (low high bits left i : ℕ) (here : Tails s at size promised low high bits left i) where
  pub done : left ≤ 0 → Some (record { number = bits; next = i }) ≡ placed at promised
  done h =
      let p : i ≡ at + size = omega (arith, here.place) in
      rw (← here.rest, follow_done size left low high bits (drop i s) h, p)

  module _ (some_left : 0 < left) where
    pub fits : bits < 0x20000
    fits = omega (arith, room_most left some_left, here.small)

    pub ended : length s ≤ i → None ≡ placed at promised
    ended h = rw (← here.rest, drop_of_length-le s h, follow_none size left low high bits some_left)

    module _ (in_source : i < length s) where
      pub too_low : get_or s i 0 < low → None ≡ placed at promised
      too_low h = rw (← here.rest, drop-cons s i 0 in_source, follow_out size left low high bits _ _ some_left (outside_test low high (get_or s i 0) (omega arith)))

      pub too_high : high < get_or s i 0 → None ≡ placed at promised
      too_high h = rw (← here.rest, drop-cons s i 0 in_source, follow_out size left low high bits _ _ some_left (outside_test low high (get_or s i 0) (omega arith)))

      pub more :
          (w : ℕ)
          → w ≡ get_or s i 0 - 0x80
          → low ≤ get_or s i 0
          → get_or s i 0 ≤ high
          → Tails s at size promised 0x80 0xBF (bits * 64 + w) (left - 1) (i + 1)
      more w e h k =
          let w6 : w < 64 = omega (arith, here.octet) in
          record {
            rest =
                rw (e, add-one)
                (sym (follow_in size left low high bits _ _ some_left (inside_test low high _ h k))
                ∙ ap (follow size left low high bits) (sym (drop-cons s i 0 in_source))
                ∙ here.rest);
            place = omega (arith, here.place);
            few = omega (arith, here.few);
            tail = omega arith;
            octet = omega arith;
            small = six_bits left bits w some_left here.few here.small w6;
          }

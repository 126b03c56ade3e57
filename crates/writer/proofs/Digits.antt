-- Digits that stand at the end of a buffer.
use Prim.Native.Nat.{ℕ, zero, suc, ◌+◌, ◌-◌, ◌^◌, ◌≤◌, ◌<◌}
use mathlib.Core.Path.{◌≡◌, ap, ◌∙◌}
use mathlib.Core.List.{List, ◌++◌}
use native.Mathlib.Omega.{arith}
use lib.ListN.{length, take, drop, replicate, length-append, length-drop, length-replicate}
use lib.Seq.{take_all, drop_at}
use Rattle.language.specs.Integers.{digits_in, decimal}
use Rattle.language.specs.Canonical.{spell_digits}
use Rattle.language.proofs.Integers.{right}
use Rattle.language.proofs.SpellingDigits.{length_spelt}
use Rattle.wide.specs.declared.Wide.{Wide}
use Rattle.wide.specs.Wide.{value_of, word}
use Rattle.writer.specs.Writing.{Writes}
use Rattle.writer.proofs.Laws.{bytes_are}

-- a buffer of n bytes that ends with these, from r on
pub record Buffer (n : ℕ) (b : List ℕ) (r : ℕ) (xs : List ℕ) : Type 0 where
  pub size : n ≡ length b
  pub bytes : drop r b ≡ xs
  pub few : length xs ≤ n

-- the digits in a base of a number that has `places` at the most
pub buffer : (base places n : ℕ) → 1 < base → 0 < places → n < base ^ places → {b : List ℕ} {r : ℕ} → r ≡ places - length (digits_in base places n)
    → b ≡ replicate r 0 ++ spell_digits (digits_in base places n) → Buffer places b r (spell_digits (digits_in base places n))
buffer base zero n two p room e d = absurd (omega arith)
buffer base (suc most) n two p room {b} {r} e d =
    let ds = digits_in base (suc most) n in
    let h = (right base two most n room).in_room in
    let l = length_spelt ds in
    record {
      size = omega (arith, simp (length-append, length-replicate) at (ap length d));
      bytes = rw d (drop_at (replicate r 0) (spell_digits ds) r (length-replicate r 0));
      few = omega arith;
    }

-- a number in the lower word
pub lower : (n : ℕ) (v : Wide) → v ≡ word n → spell_digits (decimal (value_of v)) ≡ spell_digits (decimal n)
lower n v e =
    let q : value_of v ≡ n = rw e (omega arith) in
    rw q

-- what a buffer ends with is written whole
pub all_digits : {n : ℕ} {b : List ℕ} {from : ℕ} {xs : List ℕ} → Buffer n b from xs
    → {t u : List ℕ} {at r : ℕ} → Writes t at (take (length b - from) (drop from b)) r u → Writes t at xs r u × (r ≤ at + n)
all_digits {n} {b} {from} {xs} d w =
    let e : take (length b - from) (drop from b) ≡ xs =
    take_all (length b - from) (drop from b) (omega (arith, length-drop from b)) ∙ d.bytes in
    let a = bytes_are xs e w in
    (a, omega (arith, a.answer, d.few))

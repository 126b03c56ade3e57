-- Where a run of blank characters ends, for a loop that goes from place to place.
--     arrive      where the end is here, it is the end
--     blank_..    what stands here: a blank, another character, no character, the end of the line
use Prim.Native.Nat.{ℕ, zero, suc, ◌+◌, ◌-◌, ◌≤◌, ◌<◌}
use mathlib.Core.Path.{◌≡◌, refl, sym, ◌∙◌}
use mathlib.Core.Bool.{true, false}
use mathlib.Core.List.{List, [], ◌∷◌}
use native.Mathlib.Omega.{arith}
use lib.ListN.{length, get_or, drop, drop_of_length-le, length-drop}
use lib.Seq.{drop-cons, drop-drop}
use Rattle.language.specs.Choice.{if'}
use Rattle.language.specs.Utf8.{Char, char, no_char, char_at}
use Rattle.language.specs.Lexemes.{blank_run, is_blank}
use Rattle.std.specs.Prelude.{Some, None}
use Rattle.utf8.specs.declared.Decoded.{Decoded}
use Rattle.utf8.specs.Decoding.{placed}
use Rattle.utf8.proofs.Chars.{ascii_place}
use Rattle.utf8.proofs.Places.{bad_char}
use Rattle.classes.specs.Runs.{Reached}
use Rattle.classes.proofs.Runs.{onward}
use Rattle.language.proofs.Tests.{never}
use Rattle.runs.specs.Runs.{blank_end}

arrive : {f : List ℕ → ℕ → ℕ} {s : List ℕ} {at i : ℕ} → Reached f s at i → f s i ≡ i → i ≡ f s at
arrive r e = sym e ∙ r.same

-- ---- a run of blank characters

-- what is left of a character is passed over
skipped : (k : ℕ) (s : List ℕ) → k ≤ length s → blank_run k s ≡ k + blank_run 0 (drop k s)
unfolding blank_run
skipped zero s h = omega arith
skipped (suc k) [] h = absurd (omega arith)
skipped (suc k) (b ∷ s) h = let e = skipped k s (omega arith) in omega arith

-- the run that starts with the character c, before s
abbrev blank_from : Char → List ℕ → ℕ
blank_from c s = elim c [ char n size ↦ if' (is_blank n) (suc (blank_run (size - 1) s)) 0 | no_char ↦ 0 ]

-- what `decode` says of it
module _ (at : ℕ) (s : List ℕ) where
  starts_none : (c : Char) → None ≡ placed at c → blank_from c s ≡ 0
  starts_none (char n m) e = never (cc)
  starts_none no_char e = refl

  module _ (d : Decoded) where
    starts_other : (c : Char) → Some d ≡ placed at c → is_blank d.number ≡ false → blank_from c s ≡ 0
    starts_other (char k m) e h =
        let p : d ≡ record { number = k; next = at + m } = cc in
        let q : is_blank k ≡ false = rw p at h in
        rw q
    starts_other no_char e h = refl

    starts_blank : (c : Char) → Some d ≡ placed at c → is_blank d.number ≡ true → blank_from c s ≡ suc (blank_run (d.next - at - 1) s)
    starts_blank (char k m) e h =
        let p : d ≡ record { number = k; next = at + m } = cc in
        let q : is_blank k ≡ true = rw p at h in
        let n : d.next ≡ at + m = rw p in
        let z : m - 1 ≡ d.next - at - 1 = omega arith in
        rw (q, z)
    starts_blank no_char e h = never (cc)

module _ {s : List ℕ} {at i : ℕ} (r : Reached blank_end s at i) where
  pub blank_end_lem : length s ≤ i → i ≡ blank_end s at
  unfolding blank_end blank_run
  blank_end_lem h = arrive r (rw drop_of_length-le (omega arith))

  module _ (h : i < length s) where
    here : blank_run 0 (drop i s) ≡ blank_from (char_at (drop i s)) (drop (suc i) s)
    unfolding blank_run
    here = rw (drop-cons s i 0 h)

    pub blank_none : None ≡ placed i (char_at (drop i s)) → i ≡ blank_end s at
    unfolding blank_end
    blank_none e = arrive r (omega (arith, here, starts_none i (drop (suc i) s) (char_at (drop i s)) e))

    pub blank_other : (d : Decoded) → Some d ≡ placed i (char_at (drop i s)) → is_blank d.number ≡ false → i ≡ blank_end s at
    unfolding blank_end
    blank_other d e b = arrive r (omega (arith, here, starts_other i (drop (suc i) s) d (char_at (drop i s)) e b))

    pub blank_more : (d : Decoded) → Some d ≡ placed i (char_at (drop i s)) → is_blank d.number ≡ true → Reached blank_end s at d.next
    unfolding blank_end
    blank_more c e b =
        let next = c.next in
        let o = bad_char s i h c e in
        let k = next - i - 1 in
        let l : k ≤ length (drop (suc i) s) = omega (arith, o.in_source, length-drop (suc i) s) in
        let p : suc i + k ≡ next = omega (arith, o.further) in
        let d : drop k (drop (suc i) s) ≡ drop next s = rw (drop-drop, p) in
        let first = starts_blank i (drop (suc i) s) c (char_at (drop i s)) e b in
        let rest = rw d at (skipped k (drop (suc i) s) l) in
        onward r o.in_source (omega (arith, here, first, rest, p))

    pub blank_space : get_or s i 0 ≡ 32 → Reached blank_end s at (i + 1)
    unfolding is_blank
    blank_space e = blank_more (record { number = 32; next = i + 1 }) (ascii_place s i h 32 (sym e) (omega arith)) refl

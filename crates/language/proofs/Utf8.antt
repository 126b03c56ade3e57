-- The proofs of the claims of specs/Utf8.antt.
use Prim.Native.Nat.{ℕ, zero, suc, ◌+◌, ◌-◌, ◌<◌}
use mathlib.Core.Path.{◌≡◌, refl, sym, ap, subst, ◌∙◌}
use mathlib.Core.List.{List, [], ◌∷◌, ◌++◌, append_assoc, append-nil}
use mathlib.Core.Option.{none, some}
use mathlib.Core.Logic.{◌⊎◌, inl, inr}
use native.Mathlib.Omega.{arith}
use lib.ListN.{length, length-append}
use Rattle.language.specs.Utf8.{encode, Char, char, no_char, char_at, bad_from, first_bad, Encoded, nothing, another, SameSequences, EncodingInjective, OneAtAPlace, NoProperPrefix, ReadsEncodings, GoodIsEncoded, BadIsFirst}
use Rattle.language.proofs.Tests.{never}
use Rattle.language.proofs.Utf8Rows.{not_empty, character_at, encoding_at, in_grammar, adds_none, of_grammar}

-- ---- one character

pub same_sequences : SameSequences
same_sequences = (in_grammar, of_grammar)

pub reads_encodings : ReadsEncodings
reads_encodings = (encoding_at, character_at)

pub one_at_a_place : OneAtAPlace
one_at_a_place m n s t h k e = cc (encoding_at m s h, encoding_at n t k)

pub encoding_injective : EncodingInjective
encoding_injective m n h k e = one_at_a_place m n [] [] h k (cc)

pub no_proper_prefix : NoProperPrefix
no_proper_prefix m n s h k e =
    let z : m ≡ n = one_at_a_place m n s [] h k (rw append-nil e) in
    adds_none (encode m) s (cc)

-- ---- a whole list

-- the bytes left of a character are stepped over
skips : (p s : List ℕ) (at to : ℕ) → at + length p ≡ to → bad_from (length p) at (p ++ s) ≡ bad_from 0 to s
unfolding bad_from
skips [] s at to e = let z : at ≡ to = omega arith in rw z
skips (b ∷ p) s at to e = skips p s (suc at) to (omega arith)

-- a character is stepped over
steps : (n : ℕ) (p s : List ℕ) (at to : ℕ) → char_at (p ++ s) ≡ char n (length p) → at + length p ≡ to
    → bad_from 0 at (p ++ s) ≡ bad_from 0 to s
unfolding bad_from
steps n [] s at to e h = skips [] s at to h
steps n (b ∷ p) s at to e h =
    let z : suc (length p) - 1 ≡ length p = omega arith in
    rw (e, bad_from, z) (skips p s (suc at) to (omega arith))

-- what is encoded is stepped over
walks : {p : List ℕ} → Encoded p → (t : List ℕ) (at to : ℕ) → at + length p ≡ to → bad_from 0 at (p ++ t) ≡ bad_from 0 to t
walks nothing t at to e = skips [] t at to e
walks (another {s} n h w) t at to e =
    let z = simp length-append at e in
    let m = at + length (encode n) in
    rw append_assoc (steps n (encode n) (s ++ t) at m (encoding_at n (s ++ t) h) refl ∙ walks w t m to (omega arith))

-- the walk stops where no character starts
stops : (t : List ℕ) (at : ℕ) → 0 < length t → char_at t ≡ no_char → bad_from 0 at t ≡ some at
unfolding bad_from
stops [] at l e = absurd (omega arith)
stops (b ∷ t) at l e = rw (e, bad_from)

-- no bad byte is found in what is encoded
encoded_good : (s : List ℕ) → Encoded s → first_bad s ≡ none
unfolding bad_from
encoded_good s w = rw append-nil at (walks w [] 0 (length s) (omega arith))

-- after what is encoded, a bad byte is found where no character starts
rest_bad : (p t : List ℕ) → Encoded p → 0 < length t → char_at t ≡ no_char → first_bad (p ++ t) ≡ some (length p)
rest_bad p t w l e = walks w t 0 (length p) (omega arith) ∙ stops t (length p) l e

-- whole characters, and a rest that begins with none
record Split (s : List ℕ) : Type 0 where
  front : List ℕ
  rest : List ℕ
  parts : s ≡ front ++ rest
  good : Encoded front
  bad : char_at rest ≡ no_char

-- every list is split so
split : (fuel : ℕ) (s : List ℕ) → length s < fuel → Split s
split zero s l = absurd (omega arith)
split (suc fuel) s l = go (char_at s) refl (split fuel)
  where
    go : (c : Char) → char_at s ≡ c → ((r : List ℕ) → length r < fuel → Split r) → Split s
    go no_char e f = record { front = []; rest = s; parts = refl; good = nothing; bad = e }
    go (char n size) e f =
        let k = character_at s n size e in
        let z = not_empty n k.0 in
        let d = f k.2.0 (omega (arith, simp length-append at (ap length k.2.1))) in
        record {
          front = encode n ++ d.front;
          rest = d.rest;
          parts = rw append_assoc (cc (k.2.1, d.parts));
          good = another n k.0 d.good;
          bad = d.bad;
        }

-- a bad byte comes after whole characters
abbrev BadAt : List ℕ → ℕ → Type 0
BadAt s at = (p : List ℕ) × (t : List ℕ) × (s ≡ p ++ t) × Encoded p × (length p ≡ at) × (at < length s) × (char_at t ≡ no_char)

-- a list is encoded whole, or a bad byte is found
ends : (s : List ℕ) → Encoded s ⊎ ((at : ℕ) × (first_bad s ≡ some at) × BadAt s at)
ends s = let d = split (suc (length s)) s (omega arith) in go d.front d.rest d.parts d.good d.bad
  where
    go : (p t : List ℕ) → s ≡ p ++ t → Encoded p → char_at t ≡ no_char → Encoded s ⊎ ((at : ℕ) × (first_bad s ≡ some at) × BadAt s at)
    go p [] e w k = inl (subst Encoded (sym (e ∙ append-nil p)) w)
    go p (b ∷ t) e w k =
        let l = simp length-append at (ap length e) in
        inr (length p, ap first_bad e ∙ rest_bad p (b ∷ t) w (omega arith) k, (p, b ∷ t, e, w, refl, omega arith, k))

not_both : {n : ℕ} → none ≡ some n → ⊥
not_both e = never (cc)

-- a list with no bad byte is encoded
good_encoded : (s : List ℕ) → first_bad s ≡ none → Encoded s
good_encoded s e = elim (ends s) [ inl w ↦ w | inr d ↦ absurd (not_both (sym e ∙ d.1)) ]

-- the bad byte that is found comes after whole characters
bad_first : (s : List ℕ) (at : ℕ) → first_bad s ≡ some at → BadAt s at
bad_first s at e =
    elim (ends s) [
      | inl w ↦ absurd (not_both (sym (encoded_good s w) ∙ e))
      | inr d ↦ let z : d.0 ≡ at = cc d.1 in subst (BadAt s) z d.2
    ]

pub good_is_encoded : GoodIsEncoded
good_is_encoded = (good_encoded, encoded_good)

pub bad_is_first : BadIsFirst
bad_is_first = (bad_first, rest_bad)

-- Where no character starts first, for a loop that goes by places.
--     bad_ascii  an ASCII byte is passed
--     bad_char   a character is passed: it ends within the source
--     bad_here   no character starts
--     bad_end    the source is at its end
--     ascii_passed  a run of ASCII is passed; block_passed a block of it
use mathlib.Core.Path.{◌≡◌, refl, sym, ap, ◌∙◌}
use mathlib.Core.Bool.{Bool, true, false, ◌&&◌}
use mathlib.Core.List.{List, [], ◌∷◌}
use mathlib.Core.Option.{Option, none, some}
use Rattle.std.specs.Prelude.{Some, None}
use Rattle.std.specs.List.{fold}
use Prim.Native.Nat.{ℕ, zero, suc, ◌+◌, ◌-◌, ◌*◌, ◌≤◌, ◌<◌}
use native.Mathlib.Nat.{add-zero}
use native.Mathlib.Omega.{arith}
use borrow.Author.Tests.{ltb-true}
use lib.ListN.{length, get_or, take, drop, drop_of_length-le, length-drop}
use lib.Seq.{drop-cons, drop-drop}
use Rattle.language.specs.Choice.{if', within}
use Rattle.language.specs.Utf8.{Lead, Char, char, no_char, lead_of, follow, begun, char_at, bad_from, first_bad}
use Rattle.utf8.specs.declared.Decoded.{Decoded}
use Rattle.utf8.specs.Decoding.{placed, bad_of, Passed}
use Rattle.utf8.specs.Ascii.{is_ascii}
use Rattle.language.specs.Lexemes.{run}
use Rattle.language.proofs.LexemeSizes.{run_fits}
use Rattle.classes.specs.Runs.{run_end}
use Rattle.classes.proofs.Runs.{begin, run_block}
use native.Mathlib.Numerals.{add-one}
use Rattle.language.proofs.Tests.{both, inside, inside_test, never}
use Rattle.language.proofs.Utf8Rows.{here, later}
use Rattle.utf8.proofs.Leads.{row_in}
use Rattle.utf8.proofs.Chars.{ascii_char, longer_char}

-- ---- a character's octets are all there

enough :
    (size left low high bits : ℕ) (s : List ℕ) (n m : ℕ) → follow size left low high bits s ≡ char n m → (m ≡ size) × (left ≤ length s)
unfolding follow
enough size zero low high bits s n m e = (cc, omega arith)
enough size (suc left) low high bits [] n m e = never (cc)
enough size (suc left) low high bits (b ∷ s) n m e =
    go (within low high b) e (enough size left 0x80 0xBF (bits * 0x40 + (b - 0x80)) s n m)
  where
    go :
        (p : Bool) {r : Char}
        → if' p r no_char ≡ char n m
        → (r ≡ char n m → (m ≡ size) × (left ≤ length s))
        → (m ≡ size) × (suc left ≤ length (b ∷ s))
    go true h f = let k = f h in (k.0, omega (arith, k.1))
    go false h f = never (cc)

begun_enough : (o : Option Lead) (s : List ℕ) (n m : ℕ) → begun o s ≡ char n m → (0 < m) × (m ≤ suc (length s))
begun_enough none s n m e = never (cc)
begun_enough (some l) s n m e =
    let k = enough (suc l.tails) l.tails l.low l.high l.bits s n m e in
    (omega (arith, k.0), omega (arith, k.0, k.1))

-- ---- going by places

-- what is left of a character is passed over
passed : (k at : ℕ) (s : List ℕ) → k ≤ length s → bad_from k at s ≡ bad_from 0 (at + k) (drop k s)
unfolding bad_from
passed zero at s h = rw add-zero
passed (suc k) at [] h = absurd (omega arith)
passed (suc k) at (b ∷ s) h =
    let p : suc at + k ≡ at + suc k = omega arith in
    passed k (suc at) s (omega arith) ∙ ap (λ (n : ℕ). bad_from 0 n (drop k s)) p

one_bad : (at b : ℕ) (s : List ℕ) → char_at (b ∷ s) ≡ no_char → bad_from 0 at (b ∷ s) ≡ some at
unfolding bad_from
one_bad at b s e = rw (e, bad_from)

one_good : (at b : ℕ) (s : List ℕ) (n m : ℕ) → char_at (b ∷ s) ≡ char n m → bad_from 0 at (b ∷ s) ≡ bad_from (m - 1) (suc at) s
unfolding bad_from
one_good at b s n m e = rw (e, bad_from)

no_place : (at : ℕ) (c : Char) → None ≡ placed at c → c ≡ no_char
no_place at (char n m) e = never (cc)
no_place at no_char e = refl

pub some_place : (at : ℕ) (c : Char) (d : Decoded) → Some d ≡ placed at c → (m : ℕ) × (c ≡ char d.number m) × (d.next ≡ at + m)
some_place at (char k m) d e =
    let p : d ≡ record { number = k; next = at + m } = cc in
    (m, rw p, rw p)
some_place at no_char d e = never (cc)

-- a place further on, from which the answer is the same
pub record Onward (s : List ℕ) (i next : ℕ) : Type 0 where
  pub further : i < next
  pub in_source : next ≤ length s
  pub same : bad_from 0 next (drop next s) ≡ bad_from 0 i (drop i s)

module _ (s : List ℕ) (i : ℕ) where
  pub bad_end : length s ≤ i → None ≡ bad_of (bad_from 0 i (drop i s))
  unfolding bad_from
  bad_end h = rw drop_of_length-le

  module _ (in_source : i < length s) where
    pub bad_here : None ≡ placed i (char_at (drop i s)) → Some i ≡ bad_of (bad_from 0 i (drop i s))
    bad_here e =
        let c = rw (drop-cons s i 0 in_source) at (no_place i (char_at (drop i s)) e) in
        rw (drop-cons s i 0 in_source, one_bad i (get_or s i 0) (drop (suc i) s) c)

    over_char : (n m : ℕ) → char_at (drop i s) ≡ char n m → Onward s i (i + m)
    unfolding char_at
    over_char n m e =
        let c = rw (drop-cons s i 0 in_source) at e in
        let k = begun_enough (lead_of (get_or s i 0)) (drop (suc i) s) n m c in
        let p : suc i + (m - 1) ≡ i + m = omega (arith, k.0) in
        let l : m - 1 ≤ length (drop (suc i) s) = omega (arith, k.1) in
        record {
          further = omega (arith, k.0);
          in_source = omega (arith, k.1, length-drop (suc i) s);
          same =
              sym
              (ap (bad_from 0 i) (drop-cons s i 0 in_source)
              ∙ one_good i (get_or s i 0) (drop (suc i) s) n m c
              ∙ passed (m - 1) (suc i) (drop (suc i) s) l
              ∙ rw (drop-drop, p));
        }

    pub bad_char : (d : Decoded) → Some d ≡ placed i (char_at (drop i s)) → Onward s i d.next
    bad_char d e =
        let k = some_place i (char_at (drop i s)) d e in
        rw k.2 (over_char d.number k.0 k.1)

    pub bad_ascii : get_or s i 0 < 0x80 → Onward s i (i + 1)
    bad_ascii h = over_char (get_or s i 0) 1 (ascii_char s i in_source h)

-- ---- two octets

one_tail : (b : ℕ) (s : List ℕ) (n : ℕ) → 0x80 ≤ b → b ≤ 0xBF → (m : ℕ) × (follow 2 1 0x80 0xBF n (b ∷ s) ≡ char m 2)
unfolding follow
one_tail b s n h k = (n * 0x40 + (b - 0x80), rw (inside_test 0x80 0xBF b h k))

pub two_passed :
    (s : List ℕ) (i : ℕ)
    → i + 1 < length s
    → (within 0xC2 0xDF (get_or s i 0) && within 0x80 0xBF (get_or s (i + 1) 0)) ≡ true
    → Passed s i (i + 2)
two_passed s i h e =
    let q = both (within 0xC2 0xDF (get_or s i 0)) (within 0x80 0xBF (get_or s (i + 1) 0)) e in
    let a = inside 0xC2 0xDF (get_or s i 0) q.0 in
    let b = inside 0x80 0xBF (get_or s (i + 1) 0) q.1 in
    let l : i < length s = omega arith in
    let d = longer_char s i l (record { tails = 1; low = 0x80; high = 0xBF; bits = get_or s i 0 - 0xC0 }) (row_in (get_or s i 0) (get_or s i 0) refl (later here) a.0 (omega (arith, a.1))) in
    let t = one_tail (get_or s (i + 1) 0) (drop (suc (i + 1)) s) (get_or s i 0 - 0xC0) b.0 b.1 in
    let o = over_char s i l t.0 2 (d ∙ ap (follow 2 1 0x80 0xBF (get_or s i 0 - 0xC0)) (drop-cons s (i + 1) 0 h) ∙ t.1) in
    record { further = omega (arith, o.further); in_source = o.in_source; same = o.same }

-- ---- a run of ASCII

pub stay : (s : List ℕ) (at : ℕ) → at ≤ length s → Passed s at at
stay s at h = record { further = omega arith; in_source = h; same = refl }

pub pass_on : {s : List ℕ} {at i next : ℕ} → Passed s at i → Passed s i next → Passed s at next
pass_on o p = record { further = omega (arith, o.further, p.further); in_source = p.in_source; same = p.same ∙ o.same }

first_in : (t : Bool) (m n : ℕ) → if' t (suc m) 0 ≡ suc n → (t ≡ true) × (m ≡ n)
first_in true m n e = (refl, omega arith)
first_in false m n e = absurd (omega arith)

-- a run of n bytes that are ASCII is passed
ascii_run : (s : List ℕ) (at n : ℕ) → at ≤ length s → run is_ascii (drop at s) ≡ n → Passed s at (at + n)
unfolding is_ascii
ascii_run s at zero h e = let p : at ≡ at + zero = omega arith in rw (← p) (stay s at h)
ascii_run s at (suc n) h e =
    let l : at < length s = omega (arith, run_fits is_ascii (drop at s), length-drop at s) in
    let b = get_or s at 0 in
    let k = first_in (is_ascii b) (run is_ascii (drop (suc at) s)) n (rw (drop-cons s at 0 l) at e) in
    let o = bad_ascii s at l (ltb-true b 0x80 k.0) in
    let p : suc at + n ≡ at + suc n = omega arith in
    let r = rw p at (ascii_run s (suc at) n (omega arith) k.1) in
    pass_on (record { further = omega arith; in_source = omega arith; same = rw add-one at o.same }) r

pub ascii_passed : (s : List ℕ) (at : ℕ) → at ≤ length s → Passed s at (run_end is_ascii s at)
unfolding run_end
ascii_passed s at h = ascii_run s at _ h refl

-- a block of n ASCII bytes is passed
pub block_passed :
    {s : List ℕ} {at i : ℕ} (n : ℕ)
    → Passed s at i
    → i + n ≤ length s
    → fold (λ (all : Bool) (b : ℕ). is_ascii b && all) true (take n (drop i s)) ≡ true
    → Passed s at (i + n)
block_passed {s} {at} {i} n p h e =
    let r = run_block is_ascii n (begin p.in_source) h e in
    let before = ascii_passed s i p.in_source in
    let after = ascii_passed s (i + n) h in
    pass_on p (record { further = omega arith; in_source = h; same = sym after.same ∙ rw r.same before.same })

-- ---- a bad byte is one of the source's

from_within : (skip at : ℕ) (s : List ℕ) (p : ℕ) → bad_from skip at s ≡ some p → p < at + length s
unfolding bad_from
from_within skip at [] p e = never (cc)
from_within (suc skip) at (b ∷ s) p e = let k = from_within skip (suc at) s p e in omega arith
from_within zero at (b ∷ s) p e = go (char_at (b ∷ s)) (λ k. from_within k (suc at) s p) e
  where
    go :
        (c : Char)
        → ((k : ℕ) → bad_from k (suc at) s ≡ some p → p < suc at + length s)
        → elim c [ char n size ↦ bad_from (size - 1) (suc at) s | no_char ↦ some at ] ≡ some p
        → p < at + length (b ∷ s)
    go (char n size) f h = let k = f (size - 1) h in omega arith
    go no_char f h = let k : at ≡ p = cc in omega arith

-- the place that is answered, and no place
pub bad_at : (o : Option ℕ) (i : ℕ) → Some i ≡ bad_of o → o ≡ some i
bad_at none i e = never (cc)
bad_at (some k) i e = cc

pub bad_nowhere : (o : Option ℕ) → None ≡ bad_of o → o ≡ none
bad_nowhere none e = refl
bad_nowhere (some k) e = never (cc)

pub bad_within : (s : List ℕ) (i : ℕ) → Some i ≡ bad_of (first_bad s) → i < length s
bad_within s i e = let k = from_within 0 0 s i (bad_at (first_bad s) i e) in omega arith

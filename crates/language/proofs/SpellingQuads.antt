-- An address that is spelt is read again, one that is read is spelt as it was, and a decimal before a space is no address.
use Prim.Native.Nat.{ℕ, zero, suc, ◌+◌, ◌*◌, ◌/◌, ◌%◌, ◌<◌}
use mathlib.Core.Path.{◌≡◌, refl, ap₂, ◌∙◌}
use mathlib.Core.Bool.{true, false, ◌&&◌, not}
use mathlib.Core.List.{List, [], ◌∷◌, ◌++◌, append_assoc}
use mathlib.Core.Option.{Option, none, some}
use native.Mathlib.Omega.{arith}
use borrow.Author.Tests.{leb-true, eqb-true, eqb-false, ne_eqb, not-true}
use lib.Dec.{leb, eqb}
use lib.ListN.{length, get_or, take, drop, length-append}
use lib.Seq.{length-take-le, take-suc, take-add, take-append_seam, drop-append-add, get_or-append-add, get_or-append_seam}
use native.Mathlib.Nat.{add-zero}
use native.Mathlib.Numerals.{add-one}
use Rattle.language.specs.Choice.{if'}
use Rattle.language.specs.Integers.{decimal}
use Rattle.language.specs.Lexemes.{run, all, is_digit, Number, value, wrong, read_digits, starts_zero, octet, joined, Quad, quad, not_quad, further, quad_from}
use Rattle.language.specs.Canonical.{spell_digits, spell_quad}
use Rattle.language.proofs.Tests.{both, by_cases}
use Rattle.language.proofs.LexemeSizes.{run_fits, stands}
use Rattle.language.proofs.SpellingRuns.{run_all}
use Rattle.language.proofs.SpellingDigits.{byte_spelt, octet_spelt, read_again}

module _ (a : Option ℕ) (w : List ℕ) (l : 0 < length w) (h : all is_digit w ≡ true) where
  -- a list that is not empty has a length that is not 0
  some_byte : eqb (length w) 0 ≡ false
  some_byte = ne_eqb (length w) 0 (λ e. omega arith)

  -- the last number
  quad_last : (r : List ℕ) → run is_digit r ≡ 0 → quad_from 0 a (w ++ r) ≡ quad (length w) (joined a (octet w))
  unfolding quad_from
  quad_last r e = rw (run_all is_digit w r h e, some_byte, take-append_seam)

  -- a number, a dot and more
  quad_more : (dots : ℕ) (s : List ℕ) → quad_from (suc dots) a (w ++ 46 ∷ s) ≡ further (suc (length w)) (quad_from dots (joined a (octet w)) s)
  unfolding quad_from is_digit
  quad_more dots s =
      let d : drop (suc (length w)) (w ++ 46 ∷ s) ≡ s = rw (← add-one (length w), drop-append-add) in
      rw (run_all is_digit w (46 ∷ s) h refl, some_byte, get_or-append_seam, take-append_seam, d)

  -- no dot
  pub quad_none : (dots : ℕ) (r : List ℕ) → run is_digit r ≡ 0 → eqb (get_or r 0 0) 46 ≡ false
      → quad_from (suc dots) a (w ++ r) ≡ not_quad
  unfolding quad_from
  quad_none dots r e f =
      let d : get_or (w ++ r) (length w) 0 ≡ get_or r 0 0 = rw add-zero at (get_or-append-add w r 0 0) in
      rw (run_all is_digit w r h e, some_byte, d, f)

-- a number below 256 as it is spelt, after numbers that give a
module _ (a m : ℕ) (l : m < 256) where
  byte_last : (r : List ℕ) → run is_digit r ≡ 0
      → quad_from 0 (some a) (spell_digits (decimal m) ++ r) ≡ quad (length (spell_digits (decimal m))) (some (a * 256 + m))
  byte_last r e = let c = byte_spelt m l in quad_last (some a) (spell_digits (decimal m)) c.some_digit c.digits r e ∙ rw (octet_spelt m l)

  byte_more : (dots : ℕ) (s : List ℕ)
      → quad_from (suc dots) (some a) (spell_digits (decimal m) ++ 46 ∷ s)
      ≡ further (suc (length (spell_digits (decimal m)))) (quad_from dots (some (a * 256 + m)) s)
  byte_more dots s = let c = byte_spelt m l in quad_more (some a) (spell_digits (decimal m)) c.some_digit c.digits dots s ∙ rw (octet_spelt m l)

-- the four numbers of an address
pub quad_spelt : (n : ℕ) (r : List ℕ) → n < 0x100000000 → run is_digit r ≡ 0
    → quad_from 3 (some 0) (spell_quad n ++ r) ≡ quad (length (spell_quad n)) (some n)
quad_spelt n r l e =
    let i = n / 0x1000000 % 0x100 in
    let j = n / 0x10000 % 0x100 in
    let k = n / 0x100 % 0x100 in
    let two = (0 * 256 + i) * 256 + j in
    let v : two * 256 + k ≡ n / 0x100 = omega arith in
    let z : (two * 256 + k) * 256 + n % 0x100 ≡ n = omega arith in
    simp append_assoc
    (rw (
      byte_more 0 i (omega arith) 2,
      byte_more (0 * 256 + i) j (omega arith) 1,
      byte_more two k (omega arith) 0,
      byte_last (two * 256 + k) (n % 0x100) (omega arith) r e,
    )
    (ap₂ (λ (m x : ℕ). quad m (some x)) (simp length-append (omega arith)) z))

-- ---- an address that is read

-- the numbers of an address after those that give p, spelt with dots between
pub data Octets : ℕ → ℕ → ℕ → List ℕ → Type 0 where
  last : {p : ℕ} (m : ℕ) → m < 256 → Octets 0 p (p * 256 + m) (spell_digits (decimal m))
  more : {dots p a : ℕ} {w : List ℕ} (m : ℕ) → m < 256 → Octets dots (p * 256 + m) a w
      → Octets (suc dots) p a (spell_digits (decimal m) ++ 46 ∷ w)

-- a number that is read is spelt as it was
abbrev OctetSpelt : List ℕ → Option ℕ → Type 0
OctetSpelt w (some m) = (m < 256) × (spell_digits (decimal m) ≡ w)
OctetSpelt w none = Unit {0}

octet_again : (w : List ℕ) → 0 < length w → OctetSpelt w (octet w)
unfolding octet
octet_again w l =
    by_cases (OctetSpelt w) (leb (length w) 3 && not (starts_zero w))
    (λ e. go (read_digits 10 0 w) refl (not-true _ (both (leb (length w) 3) (not (starts_zero w)) e).1)) (λ _. tt)
  where
    go : (r : Number) → read_digits 10 0 w ≡ r → starts_zero w ≡ false
        → OctetSpelt w (elim r [ value n ↦ if' (leb n 255) (some n) none | wrong e ↦ none ])
    go (value n) e z =
        by_cases (OctetSpelt w) (leb n 255) (λ f. let h = leb-true n 255 f in (omega arith, read_again w n l z e)) (λ _. tt)
    go (wrong x) e z = tt

-- a run that is not empty
some_digits : (s : List ℕ) → eqb (run is_digit s) 0 ≡ false → 0 < length (take (run is_digit s) s)
some_digits s e = rw (length-take-le (run is_digit s) s (run_fits is_digit s)) (omega (arith, eqb-false (run is_digit s) 0 e))

-- an address after numbers that give o: none where these are wrong
abbrev pub After : ℕ → Option ℕ → ℕ → List ℕ → Type 0
After dots (some p) a w = Octets dots p a w
After dots none a w = ⊥

abbrev pub AddressSpelt : ℕ → Option ℕ → List ℕ → Option ℕ → Type 0
AddressSpelt dots o w (some a) = After dots o a w
AddressSpelt dots o w none = Unit {0}

abbrev pub QuadSpelt : ℕ → Option ℕ → List ℕ → Quad → Type 0
QuadSpelt dots o s (quad n a) = AddressSpelt dots o (take n s) a
QuadSpelt dots o s not_quad = Unit {0}

last_again : (w : List ℕ) (o x : Option ℕ) → OctetSpelt w x → AddressSpelt 0 o w (joined o x)
last_again w none x h = tt
last_again w (some p) none h = tt
last_again w (some p) (some m) h = rw h.1 at (last {p = p} m h.0)

-- a number, a dot and more
more_again : (dots n : ℕ) (s : List ℕ) (o x : Option ℕ) (q : Quad) → eqb (get_or s n 0) 46 ≡ true → OctetSpelt (take n s) x
    → QuadSpelt dots (joined o x) (drop (suc n) s) q → QuadSpelt (suc dots) o s (further (suc n) q)
more_again dots n s o x not_quad e h i = tt
more_again dots n s o x (quad m none) e h i = tt
more_again dots n s none x (quad m (some a)) e h i = absurd i
more_again dots n s (some p) none (quad m (some a)) e h i = absurd i
more_again dots n s (some p) (some k) (quad m (some a)) e h i =
    let d : get_or s n 0 ≡ 46 = eqb-true (get_or s n 0) 46 e in
    let t : take (suc n) s ≡ take n s ++ 46 ∷ [] = rw (← d) (take-suc s n 0 (stands s n 46 refl e)) in
    rw (take-add (suc n) m s, t, append_assoc, ← h.1) (more k h.0 i)

-- what starts as a quad
pub quad_read : (dots : ℕ) (o : Option ℕ) (s : List ℕ) → QuadSpelt dots o s (quad_from dots o s)
unfolding quad_from
quad_read zero o s =
    by_cases (QuadSpelt 0 o s) (eqb (run is_digit s) 0) (λ _. tt) (λ e. last_again _ o _ (octet_again _ (some_digits s e)))
quad_read (suc dots) o s =
    let n = run is_digit s in
    let x = octet (take n s) in
    let q = quad_from dots (joined o x) (drop (suc n) s) in
    by_cases (QuadSpelt (suc dots) o s) (eqb n 0) (λ _. tt)
    (λ e. by_cases (QuadSpelt (suc dots) o s) (eqb (get_or s n 0) 46)
    (λ f. more_again dots n s o x q f (octet_again _ (some_digits s e)) (quad_read dots (joined o x) (drop (suc n) s)))
    (λ _. tt))

-- what the last of an address's numbers says
record Last (p a : ℕ) (w : List ℕ) : Type 0 where
  pub number : ℕ
  pub small : number < 256
  pub is : a ≡ p * 256 + number
  pub spelt : w ≡ spell_digits (decimal number)

last_of : {p a : ℕ} {w : List ℕ} → Octets 0 p a w → Last p a w
last_of (last m e) = record { number = m; small = e; is = refl; spelt = refl }

-- the four numbers of an address
four_spelt : (a i j k m : ℕ) (w : List ℕ) → i < 256 → j < 256 → k < 256 → m < 256 → a ≡ (((0 * 256 + i) * 256 + j) * 256 + k) * 256 + m
    → w ≡ spell_digits (decimal m)
    → spell_quad a ≡ spell_digits (decimal i) ++ 46 ∷ (spell_digits (decimal j) ++ 46 ∷ (spell_digits (decimal k) ++ 46 ∷ w))
four_spelt a i j k m w b c d e h s =
    let p = ((0 * 256 + i) * 256 + j) * 256 + k in
    let v : (p * 256 + m) / 0x1000000 % 0x100 ≡ i = omega arith in
    let x : (p * 256 + m) / 0x10000 % 0x100 ≡ j = omega arith in
    let y : (p * 256 + m) / 0x100 % 0x100 ≡ k = omega arith in
    let z : (p * 256 + m) % 0x100 ≡ m = omega arith in
    rw (h, s, v, x, y, z) (simp append_assoc refl)

pub quad_again : (a : ℕ) (w : List ℕ) → Octets 3 0 a w → spell_quad a ≡ w
quad_again a w (more i b (more j c (more k d l))) =
    let o = last_of l in four_spelt a i j k o.number _ b c d o.small o.is o.spelt

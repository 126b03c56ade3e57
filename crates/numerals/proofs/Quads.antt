-- Quads: four numbers with dots between.
use Prim.Native.Nat.{ℕ, zero, suc, ◌+◌, ◌-◌, ◌*◌, ◌<◌, ◌≤◌}
use mathlib.Core.Path.{◌≡◌, refl, sym, ap, ◌∙◌}
use mathlib.Core.Bool.{Bool, true, false, ◌&&◌, not}
use mathlib.Core.List.{List}
use mathlib.Core.Option.{none, some}
use mathlib.Core.Option as math
use Rattle.std.specs.Prelude.{Option, Some, None, Result, Ok, Err}
use native.Mathlib.Decide.{dec_lt}
use native.Mathlib.Omega.{arith}
use borrow.Author.Tests.{le-leb, lt-leb, leb-true, eq-eqb, ne_eqb}
use lib.Dec.{leb}
use lib.ListN.{length, get_or, take, drop, get_or-eq_default}
use lib.Seq.{get_or-drop, drop-drop}
use Rattle.language.specs.Choice.{if'}
use Rattle.language.specs.Lexemes as language
use Rattle.language.specs.Lexemes.{is_digit, run, read_digits, value, wrong, starts_zero, octet, quad, not_quad, joined, further, quad_from}
use Rattle.language.proofs.Tests.{never}
use Rattle.wide.specs.declared.Wide.{Wide}
use Rattle.wide.specs.Wide.{value_of, wide_of}
use Rattle.lexemes.specs.declared.LexErrorKind.{LexErrorKind}
use Rattle.numerals.specs.declared.Quad.{Quad}
use Rattle.language.specs.Tokens.{between}
use Rattle.classes.specs.Runs.{run_end}
use Rattle.numerals.specs.Numerals.{number_as, octet_as, Below, joined_as, quad_as}
use Rattle.numerals.proofs.Digits.{value_wide}
use Rattle.language.proofs.Parts.{part_size}
use Rattle.runs.proofs.Places.{run_starts, run_between}
use Rattle.numerals.proofs.Numerals.{zero_between}

-- ---- a number of a quad

-- what digits that are read come to
abbrev up_to255 : language.Number → math.Option ℕ
up_to255 (value n) = if' (leb n 255) (some n) none
up_to255 (wrong e) = none

wrong_case : (r : language.Number) (x : LexErrorKind) → number_as r ≡ Err x → None ≡ octet_as (up_to255 r)
wrong_case (value n) x e = never (cc)
wrong_case (wrong y) x e = refl

value_case : (r : language.Number) (v : Wide) → number_as r ≡ Ok v → up_to255 r ≡ if' (leb (value_of v) 255) (some (value_of v)) none
value_case (value n) v e =
    let w : v ≡ wide_of n = cc in
    let q : value_of v ≡ n = rw w (value_wide n) in
    rw q
value_case (wrong y) v e = never (cc)

-- of the digits from `at` to e
module _ (s : List ℕ) (at e : ℕ) (h : (at < e) × (e ≡ run_end is_digit s at)) where
  pub part_ends : (at < length s) × (e ≤ length s)
  part_ends = run_starts is_digit s at e h.0 h.1

  size : length (between s at e) ≡ e - at
  size = part_size s at e part_ends.1

  pub too_long : 3 < e - at → None ≡ octet_as (octet (between s at e))
  unfolding octet
  too_long l = rw (size, lt-leb (e - at) 3)

  -- z is whether they start with a zero and another digit
  module _ (few : e - at ≤ 3) (z : Bool) (z-said : z ≡ starts_zero (drop at s)) where
    zero_same : starts_zero (between s at e) ≡ z
    zero_same = zero_between is_digit (λ b i. i) s at e h.1 ∙ sym z-said

    pub zero_first : z ≡ true → None ≡ octet_as (octet (between s at e))
    unfolding octet
    zero_first t = rw (size, le-leb (e - at) 3, zero_same, t)

    -- o is what reading them comes to
    module _ (f : z ≡ false) (o : Result Wide LexErrorKind) (o-said : o ≡ number_as (read_digits 10 0 (between s at e))) where
      read : octet (between s at e) ≡ up_to255 (read_digits 10 0 (between s at e))
      unfolding octet
      read = rw (size, le-leb (e - at) 3, zero_same, f)

      pub not_number : (x : LexErrorKind) → o ≡ Err x → None ≡ octet_as (octet (between s at e))
      not_number x w = rw read (wrong_case (read_digits 10 0 (between s at e)) x (sym o-said ∙ w))

      module _ (v : Wide) (w : o ≡ Ok v) where
        read_value_lem : octet (between s at e) ≡ if' (leb (value_of v) 255) (some (value_of v)) none
        read_value_lem = read ∙ value_case (read_digits 10 0 (between s at e)) v (sym o-said ∙ w)

        pub byte : v.hi ≡ 0 → v.lo ≤ 255 → Some v.lo ≡ octet_as (octet (between s at e))
        byte a b =
            let q : value_of v ≡ v.lo = omega arith in
            rw (read_value_lem, q, le-leb v.lo 255)

        pub not_byte : 255 < value_of v → None ≡ octet_as (octet (between s at e))
        not_byte l = rw (read_value_lem, lt-leb (value_of v) 255)

-- ---- addresses

below_le : (m k : ℕ) (o : Option ℕ) → m ≤ k → Below m o → Below k o
below_le m k (Some n) l b = omega arith
below_le m k None l b = tt

below_joined : (m : ℕ) (a n : Option ℕ) → Below m a → Below 256 n → Below (m * 256) (joined_as a n)
below_joined m (Some a) (Some n) x y = omega arith
below_joined m (Some a) None x y = tt
below_joined m None n x y = tt

joined_as_lem : (a n : math.Option ℕ) → joined_as (octet_as a) (octet_as n) ≡ octet_as (joined a n)
joined_as_lem none n = refl
joined_as_lem (some a) none = refl
joined_as_lem (some a) (some n) = refl

up_to_below : (r : language.Number) → Below 256 (octet_as (up_to255 r))
up_to_below (value n) = go (leb n 255) refl
  where
    go : (t : Bool) → leb n 255 ≡ t → Below 256 (octet_as (if' t (some n) none))
    go true e = omega (arith, leb-true n 255 e)
    go false e = tt
up_to_below (wrong e) = tt

octet_below : (ds : List ℕ) → Below 256 (octet_as (octet ds))
unfolding octet
octet_below ds = go (leb (length ds) 3 && not (starts_zero ds))
  where
    go : (t : Bool) → Below 256 (octet_as (if' t (up_to255 (read_digits 10 0 ds)) none))
    go true = up_to_below (read_digits 10 0 ds)
    go false = tt

-- what an address with so many dots to come is below
abbrev room_of : ℕ → ℕ
room_of zero = 16777216
room_of (suc zero) = 65536
room_of (suc (suc zero)) = 256
room_of (suc (suc (suc zero))) = 1
room_of (suc (suc (suc (suc d)))) = 0

room_falls : (d : ℕ) → room_of (suc d) * 256 ≤ room_of d
room_falls zero = omega arith
room_falls (suc zero) = omega arith
room_falls (suc (suc zero)) = omega arith
room_falls (suc (suc (suc d))) = omega arith

room_most : (d : ℕ) → room_of d ≤ 16777216
room_most zero = omega arith
room_most (suc zero) = omega arith
room_most (suc (suc zero)) = omega arith
room_most (suc (suc (suc zero))) = omega arith
room_most (suc (suc (suc (suc d)))) = omega arith

-- ---- dots

module _ (t : List ℕ) where
  no_run : (d : ℕ) (a : math.Option ℕ) → run is_digit t ≡ 0 → quad_from d a t ≡ not_quad
  unfolding quad_from
  no_run zero a e = rw e
  no_run (suc d) a e = rw e

  module _ (a : math.Option ℕ) (m : run is_digit t ≡ 0 → ⊥) where
    last_run : quad_from 0 a t ≡ quad (run is_digit t) (joined a (octet (take (run is_digit t) t)))
    unfolding quad_from
    last_run = rw (ne_eqb (run is_digit t) 0 m)

    module _ (d : ℕ) where
      run_no_dot : (get_or t (run is_digit t) 0 ≡ 46 → ⊥) → quad_from (suc d) a t ≡ not_quad
      unfolding quad_from
      run_no_dot n = rw (ne_eqb (run is_digit t) 0 m, ne_eqb (get_or t (run is_digit t) 0) 46 n)

      run_dot :
          get_or t (run is_digit t) 0 ≡ 46
          → quad_from (suc d) a t ≡ further (suc (run is_digit t)) (quad_from d (joined a (octet (take (run is_digit t) t))) (drop (suc (run is_digit t)) t))
      unfolding quad_from
      run_dot n = rw (ne_eqb (run is_digit t) 0 m, eq-eqb (get_or t (run is_digit t) 0) 46 n)

abbrev quad_at : ℕ → Option ℕ → Option Quad
quad_at e a = Some (record { end = e; address = a })

further_as : (i n m : ℕ) → m ≡ i + suc n → (q : language.Quad) → quad_as i (further (suc n) q) ≡ quad_as m q
further_as i n m e (quad k a) =
    let p : i + (suc n + k) ≡ m + k = omega arith in
    ap (λ (x : ℕ). quad_at x (octet_as a)) p
further_as i n m e not_quad = refl

-- a byte that is not zero stands in the list
pub stands : (s : List ℕ) (e b : ℕ) → b ≡ get_or s e 0 → 0 < b → e < length s
stands s e b h l =
    elim (dec_lt e (length s)) [ yes i ↦ i | no o ↦ absurd (omega (arith, get_or-eq_default s 0 {n = e} (omega arith))) ]

-- i, dots and address of the loop: so many dots are to come from i on, after numbers that give the address
pub record Dots (s : List ℕ) (at i dots : ℕ) (address : Option ℕ) : Type 0 where
  pub so_far : math.Option ℕ
  pub said : address ≡ octet_as so_far
  pub inside : i ≤ length s
  pub room : Below (room_of dots) address
  pub same : quad_as i (quad_from dots so_far (drop i s)) ≡ quad_as at (quad_from 3 (some 0) (drop at s))

pub earlier : (n : ℕ) → (n ≡ 0 → ⊥) → n ≡ suc (n - 1)
earlier n z = omega arith

pub start : (s : List ℕ) (at : ℕ) → at < length s → Dots s at at 3 (Some 0)
start s at h = record { so_far = some 0; said = refl; inside = omega arith; room = omega arith; same = refl }

-- e is where the digits from i on end
module _ {s : List ℕ} {at i dots : ℕ} {address : Option ℕ} (q : Dots s at i dots address) (e : ℕ) (k : e ≡ run_end is_digit s i) where
  pub no_digits : e ≡ i → None ≡ quad_as at (quad_from 3 (some 0) (drop at s))
  unfolding run_end
  no_digits z =
      let n : run is_digit (drop i s) ≡ 0 = omega arith in
      rw (← q.same, no_run (drop i s) dots q.so_far n)

  module _ (m : e ≡ i → ⊥) where
    pub digits : (i < e) × (e ≡ run_end is_digit s i)
    unfolding run_end
    digits = (omega arith, k)

    pub ends : e ≤ length s
    ends = (run_starts is_digit s i e digits.0 k).1

    some_run : run is_digit (drop i s) ≡ 0 → ⊥
    unfolding run_end
    some_run z = m (omega arith)

    place : i + run is_digit (drop i s) ≡ e
    unfolding run_end
    place = sym k

    -- b is the byte after the digits
    module _ (d : ℕ) (more : dots ≡ suc d) (b : ℕ) (b-said : b ≡ get_or s e 0) where
      byte_after : get_or (drop i s) (run is_digit (drop i s)) 0 ≡ b
      byte_after = rw (get_or-drop, place) (sym b-said)

      pub no_dot : (b ≡ 46 → ⊥) → None ≡ quad_as at (quad_from 3 (some 0) (drop at s))
      no_dot n = rw (← q.same, more, run_no_dot (drop i s) q.so_far some_run d (λ z. n (sym byte_after ∙ z)))

    -- n is their number, and a the address with it
    module _ (n : Option ℕ) (n-said : n ≡ octet_as (octet (between s i e))) where
      pub fits : Below 16777216 address × Below 256 n
      fits = (below_le (room_of dots) 16777216 address (room_most dots) q.room, rw n-said (octet_below (between s i e)))

      module _ (a : Option ℕ) (a-said : a ≡ joined_as address n) where
        joined_now : octet_as (joined q.so_far (octet (take (run is_digit (drop i s)) (drop i s)))) ≡ a
        joined_now = rw (← run_between is_digit s i e k, a-said, q.said, n-said) (sym (joined_as_lem q.so_far (octet (between s i e))))

        pub whole : dots ≡ 0 → quad_at e a ≡ quad_as at (quad_from 3 (some 0) (drop at s))
        whole z = rw (← q.same, z, last_run (drop i s) q.so_far some_run, joined_now, place)

        module _ (d : ℕ) (more : dots ≡ suc d) (b : ℕ) (b-said : b ≡ get_or s e 0) where
          pub next : b ≡ 46 → Dots s at (e + 1) d a
          next z =
              let o = joined q.so_far (octet (take (run is_digit (drop i s)) (drop i s))) in
              let p : i + suc (run is_digit (drop i s)) ≡ e + 1 = omega (arith, place) in
              let l : drop (suc (run is_digit (drop i s))) (drop i s) ≡ drop (e + 1) s = rw (drop-drop, p) in
              record {
                so_far = o;
                said = sym joined_now;
                inside = omega (arith, stands s e b b-said (omega arith));
                room = below_le (room_of dots * 256) (room_of d) a (rw more (room_falls d)) (rw a-said (below_joined (room_of dots) address n q.room fits.1));
                same = rw (← q.same, more, run_dot (drop i s) q.so_far some_run d (byte_after d more b b-said ∙ z), further_as i (run is_digit (drop i s)) (e + 1) (sym p), l);
              }

-- Types by their numbers, and numbers cut to them.
use Prim.Native.Nat.{ℕ, ◌+◌, ◌*◌, ◌/◌, ◌%◌, ◌<◌}
use mathlib.Core.Path.{◌≡◌, refl, sym, ap, ◌∙◌}
use mathlib.Core.Bool.{Bool, true, false, not, ◌&&◌, ◌||◌, false≢true}
use native.Mathlib.Omega.{arith}
use borrow.Author.Tests.{eqb-true, eq-eqb, ne_eqb}
use lib.Dec.{eqb, leb}
use Rattle.language.specs.Integers.{IntType, u8, u16, u32, u64, low_bits, is_truncated}
use Rattle.language.specs.Tables.{word_limit}
use Rattle.language.specs.Values as values
use Rattle.language.specs.Values.{Ty, ty_void, ty_bool, ty_int, ty_ip4, ty_sock4, ty_bytes, ty_pkt, ty_pkt_gen, ty_time_jump, ty_function, ty_integer, int_kind, ty_kind, bits_of}
use Rattle.language.specs.Findings.{ty_entry}
use Rattle.language.proofs.Tests.{never, both}
use Rattle.wide.specs.Wide.{wide_of}
use Rattle.values.specs.Values.{ty_of, is_integral}
use Rattle.values.proofs.Values.{ty_of_lem, integral_type}
use Rattle.fitting.specs.Fitting.{bits_by, low_by, fits_by}

-- ---- bits

pub bits_as : (t : Ty) → bits_by (ty_kind t) ≡ bits_of t
unfolding bits_by
bits_as ty_void = refl
bits_as ty_bool = refl
bits_as (ty_int u8) = refl
bits_as (ty_int u16) = refl
bits_as (ty_int u32) = refl
bits_as (ty_int u64) = refl
bits_as ty_ip4 = refl
bits_as ty_sock4 = refl
bits_as ty_bytes = refl
bits_as ty_pkt = refl
bits_as ty_pkt_gen = refl
bits_as ty_time_jump = refl
bits_as (ty_function k) = refl
bits_as ty_integer = refl

-- ---- low bits

-- the upper word never counts
pub low_as : (t : IntType) (hi lo : ℕ) → lo < word_limit → low_bits t (hi * word_limit + lo) ≡ low_by (int_kind t) lo
unfolding low_by
low_as u8 hi lo h = omega arith
low_as u16 hi lo h = omega arith
low_as u32 hi lo h = omega arith
low_as u64 hi lo h = omega arith

low_small : (t : IntType) (n : ℕ) → low_bits t n < word_limit
low_small u8 n = omega arith
low_small u16 n = omega arith
low_small u32 n = omega arith
low_small u64 n = omega arith

-- a number is changed exactly where its upper word is not 0, or its lower one is changed
module _ (t : IntType) (hi lo : ℕ) {low : ℕ} (l : low ≡ low_bits t (hi * word_limit + lo)) where
  pub unchanged : eqb hi 0 && eqb low lo ≡ true → is_truncated t (hi * word_limit + lo) ≡ false
  unchanged h =
      let b = both (eqb hi 0) (eqb low lo) h in
      let z : hi ≡ 0 = eqb-true hi 0 b.0 in
      let e : low ≡ lo = eqb-true low lo b.1 in
      let q : low ≡ hi * word_limit + lo = omega arith in
      ap not (eq-eqb _ _ (sym l ∙ q))

  pub changed : eqb hi 0 && eqb low lo ≡ false → is_truncated t (hi * word_limit + lo) ≡ true
  changed h = ap not (ne_eqb _ _ different)
    where
      different : low_bits t (hi * word_limit + lo) ≡ hi * word_limit + lo → ⊥
      different e =
          let s = low_small t (hi * word_limit + lo) in
          let z : hi ≡ 0 = omega arith in
          let q : low ≡ lo = omega arith in
          false≢true (sym h ∙ rw (eq-eqb hi 0 z, eq-eqb low lo q))

-- the words of a number
pub words_of : (hi lo : ℕ) → lo < word_limit → wide_of (hi * word_limit + lo) ≡ record { hi = hi; lo = lo }
words_of hi lo h =
    let a : (hi * word_limit + lo) / word_limit ≡ hi = omega arith in
    let b : (hi * word_limit + lo) % word_limit ≡ lo = omega arith in
    rw (a, b)

-- ---- what fits

pub fits_as : (t u : Ty) → fits_by (ty_kind t) (ty_kind u) ≡ values.fits t u
unfolding fits_by is_integral
fits_as ty_bool u = integral_type u
fits_as (ty_int u8) u = integral_type u
fits_as (ty_int u16) u = integral_type u
fits_as (ty_int u32) u = integral_type u
fits_as (ty_int u64) u = integral_type u
fits_as ty_bytes u = ap (λ (c : Bool). c || (eqb 9 (ty_kind u) || (eqb 10 (ty_kind u) || eqb 7 (ty_kind u)))) (integral_type u)
fits_as ty_pkt_gen u = refl
fits_as ty_ip4 u = refl
fits_as ty_sock4 u = refl
fits_as ty_pkt u = refl
fits_as ty_time_jump u = refl
fits_as ty_void u = refl
fits_as (ty_function k) u = refl
fits_as ty_integer u = refl

-- ---- types that are found by their numbers

pub is_bool_lem : (t : Ty) → 2 ≡ ty_kind t → t ≡ ty_bool
unfolding ty_of
is_bool_lem t e = sym (ty_of_lem t) ∙ ap (λ (k : ℕ). ty_of k (ty_entry t)) (sym e)

pub is_bytes : (t : Ty) → 9 ≡ ty_kind t → t ≡ ty_bytes
unfolding ty_of
is_bytes t e = sym (ty_of_lem t) ∙ ap (λ (k : ℕ). ty_of k (ty_entry t)) (sym e)

pub is_int : (t : Ty) → leb 3 (ty_kind t) && leb (ty_kind t) 6 ≡ true → (u : IntType) × (t ≡ ty_int u)
is_int (ty_int u) e = (u, refl)
is_int ty_void e = never (cc)
is_int ty_bool e = never (cc)
is_int ty_ip4 e = never (cc)
is_int ty_sock4 e = never (cc)
is_int ty_bytes e = never (cc)
is_int ty_pkt e = never (cc)
is_int ty_pkt_gen e = never (cc)
is_int ty_time_jump e = never (cc)
is_int (ty_function k) e = never (cc)
is_int ty_integer e = never (cc)

pub not_int : (u : IntType) → leb 3 (int_kind u) && leb (int_kind u) 6 ≡ false → ⊥
not_int u8 e = never (cc)
not_int u16 e = never (cc)
not_int u32 e = never (cc)
not_int u64 e = never (cc)

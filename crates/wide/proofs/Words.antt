-- What two words say of their number. 2^127 has 39 digits, one more than omega takes, so two laws carry it.
use Rattle.std.proofs.Common.{◌≡◌, ℕ, ◌+◌, ◌*◌, ◌/◌, ◌%◌, ◌^◌, ◌<◌, ◌≤◌, true, ◌&&◌, eqb, ltb, refl, le_trans, lt_of_lt_of_le, mul-le-mul_right, mul_right_comm, arith, ltb-true, le-ltb, lt-ltb, eqb-true, Some, None}
use mathlib.Core.Option.{some}
use Rattle.language.specs.Integers.{limit, IntType, bits, smallest}
use Rattle.language.proofs.Integers.{from, chosen, none_chosen}
use Rattle.language.proofs.Tests.{both}
use Rattle.language.specs.Tables.{word_limit}
use Rattle.wide.specs.Wide.{fitted, scaled, size_of}

-- ---- a number is below 2^127 where its upper word is below 2^63

-- 2^63
abbrev half : ℕ
half = 0x8000000000000000

-- 2^61
abbrev eighth : ℕ
eighth = 0x2000000000000000

below : (n h : ℕ) → n < (h + 1) * word_limit → h < half → n < limit
below n h a b = lt_of_lt_of_le a (mul-le-mul_right {m = h + 1} {n = half} word_limit (omega arith))

above : (n h : ℕ) → h * word_limit ≤ n → half ≤ h → limit ≤ n
above n h a b = le_trans (mul-le-mul_right {m = half} {n = h} word_limit b) a

pub fits_case : (n h l : ℕ) → n ≡ h * word_limit + l → l < word_limit → h < half → Some (record { hi = h; lo = l }) ≡ fitted n
unfolding fitted
fits_case n h l e a b =
    let q : n / word_limit ≡ h = omega arith in
    let r : n % word_limit ≡ l = omega arith in
    simp (q, r, lt-ltb n limit (below n h (omega arith) b))

pub over_case : (n h : ℕ) → h * word_limit ≤ n → half ≤ h → None ≡ fitted n
unfolding fitted
over_case n h a b = simp (le-ltb n limit (above n h a b))

-- the upper word alone may say so before anything is multiplied
pub over_early : (base hi lo d : ℕ) → half ≤ hi * base → None ≡ scaled base (hi * word_limit + lo) d
over_early base hi lo d h =
    let m : hi * word_limit * base ≤ (hi * word_limit + lo) * base = mul-le-mul_right base (omega arith) in
    over_case ((hi * word_limit + lo) * base + d) (hi * base) (rw mul_right_comm (omega arith)) h

-- ---- numbers that the lower word is

lower : (hi lo : ℕ) → hi ≤ 0 → hi * word_limit + lo ≡ lo
lower hi lo z = omega arith

pub size_case : (t : IntType) (hi lo : ℕ) → hi ≤ 0 → from t ≤ lo → lo < 2 ^ bits t → size_of (some t) ≡ size_of (smallest (hi * word_limit + lo))
size_case t hi lo z a b = rw (lower hi lo z, chosen t lo a b)

pub too_large_lem : (n : ℕ) → 2 ^ 64 ≤ n → None ≡ size_of (smallest n)
too_large_lem n a = rw (none_chosen n a)

-- ---- ten times

-- a number is small by the test of its words and of t, which is twice the lower word and the digit, modulo 2^64
module _ (hi lo d w t : ℕ) (test : eqb hi 0 && (ltb lo eighth && ltb t eighth) ≡ true) (digit : d < 10) (twice : w ≡ (lo + lo) % 2 ^ 64)
    (more : t ≡ (w + d) % 2 ^ 64) where
  upper : hi ≡ 0
  upper = eqb-true hi 0 (both (eqb hi 0) (ltb lo eighth && ltb t eighth) test).0

  words : (ltb lo eighth ≡ true) × (ltb t eighth ≡ true)
  words = both (ltb lo eighth) (ltb t eighth) (both (eqb hi 0) (ltb lo eighth && ltb t eighth) test).1

  bounds : (lo < eighth) × (t < eighth)
  bounds = (ltb-true lo eighth words.0, ltb-true t eighth words.1)

  pub small_fits : (lo * 8 < word_limit) × (lo * 8 + t < word_limit)
  small_fits = omega (arith, bounds.0, bounds.1)

  pub small_tenfold : Some (record { hi = 0; lo = lo * 8 + t }) ≡ scaled 10 (hi * word_limit + lo) d
  small_tenfold = fits_case ((hi * word_limit + lo) * 10 + d) 0 (lo * 8 + t) (omega (arith, upper, bounds.0)) small_fits.1 (omega arith)

le_add : (h l : ℕ) → h * word_limit ≤ h * word_limit + l
le_add h l = omega arith

-- the upper words of the copies, and of the lesser one with the digit
pub under : {h : ℕ} → h ≤ 1152921504606846975 → h < 1152921504606846976
under a = omega arith

pub copy_under : {h : ℕ} → h < eighth → h < half
copy_under a = omega arith

pub sum_under : {h k : ℕ} → h < eighth → k ≤ h + 0 + 1 → k < half
sum_under a b = omega arith

-- h and l are eight times v, and what twice v and the digit come to
module _ (v d two eight more h l : ℕ) (p : two ≡ v * 2) (q : eight ≡ v * 8) (r : more ≡ two + (0 * word_limit + d)) (s : h * word_limit + l ≡ eight + more) where
  copies : v * 10 + d ≡ h * word_limit + l
  copies = omega arith

  pub copies_fit : l < word_limit → h < half → Some (record { hi = h; lo = l }) ≡ scaled 10 v d
  copies_fit a b = fits_case (v * 10 + d) h l copies a b

  pub copies_over : half ≤ h → None ≡ scaled 10 v d
  copies_over a = over_case (v * 10 + d) h (rw copies (le_add h l)) a

-- ---- a tenth

-- 2^32
abbrev quarter : ℕ
quarter = 0x100000000

-- what differs by sixteens has the same lowest bits
sixteens : (a m t r : ℕ) → a + 16 * m ≡ 16 * t + r → r < 16 → a % 16 ≡ r
sixteens a m t r e h = omega arith

-- the last digit by the lowest bits
pub last_bits : (n t : ℕ) → t ≡ n / 10 → (n % 16 + t % 16 * 6) % 16 ≡ n % 10
last_bits n t e = sixteens (n % 16 + t % 16 * 6) (n / 16 + t / 16 * 6) t (n % 10) (omega arith) (omega arith)

pub part_fits : (hi lo x : ℕ) → x ≡ hi % 10 → lo < word_limit → (x * quarter + lo / quarter < word_limit) × ((x * quarter + lo / quarter) / 10 * quarter < word_limit)
part_fits hi lo x e h = omega arith

quotient : (n q d : ℕ) → n ≡ q * 10 + d → d < 10 → (q ≡ n / 10) × (d ≡ n % 10)
quotient n q d e h = (omega arith, omega arith)

-- the parts of a long division: p1 and p0 are what is left of the part before, x and y, with a half of the lower word
pub divided :
    (hi lo x p1 y p0 : ℕ) → x ≡ hi % 10 → p1 ≡ x * quarter + lo / quarter → y ≡ p1 % 10 → p0 ≡ y * quarter + lo % quarter
    → (hi / 10 * word_limit + (p1 / 10 * quarter + p0 / 10) ≡ (hi * word_limit + lo) / 10) × (p0 % 10 ≡ (hi * word_limit + lo) % 10)
divided hi lo x p1 y p0 a b c d =
    quotient (hi * word_limit + lo) (hi / 10 * word_limit + (p1 / 10 * quarter + p0 / 10)) (p0 % 10) (omega arith) (omega arith)

pub small_tenth : (hi lo : ℕ) → hi ≡ 0 → (0 * word_limit + lo / 10 ≡ (hi * word_limit + lo) / 10) × (lo % 10 ≡ (hi * word_limit + lo) % 10)
small_tenth hi lo z =
    let e : hi * word_limit + lo ≡ lo = omega arith in
    rw e (omega arith, refl)

-- ---- a sixteenth

pub lower_fits : (hi lo : ℕ) → lo < word_limit → hi % 16 * 0x1000000000000000 + lo / 16 < word_limit
lower_fits hi lo h = omega arith

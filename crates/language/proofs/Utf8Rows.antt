-- One character. The nine rows of RFC 3629, section 4, as a table: what is said of all rows is proved by one computation,
-- and what a row reads is then the same argument for each.
use Prim.Native.Nat.{ℕ, zero, suc, ◌+◌, ◌-◌, ◌*◌, ◌/◌, ◌%◌, ◌≤◌, ◌<◌}
use mathlib.Core.Path.{◌≡◌, refl, ap, ◌∙◌}
use mathlib.Core.Bool.{Bool, true, false, not, false≢true, or-true}
use mathlib.Core.List.{List, [], ◌∷◌, ◌++◌, append-nil}
use mathlib.Core.Option.{Option, none}
use mathlib.Core.Logic.{inl, inr}
use native.Mathlib.Omega.{arith}
use native.Mathlib.Decide.{dec_le}
use native.Mathlib.Nat.{sub-zero, zero-add}
use borrow.Author.Tests.{leb-true, not-true, le-leb, lt-leb}
use lib.Dec.{leb}
use lib.ListN.{length, get_or, length-append}
use Rattle.language.specs.Choice.{if', within}
use Rattle.language.specs.Utf8.{is_scalar, encode, Range, to, derives, derives_one, is_char, Char, char, no_char, Lead, lead, lead_of, follow, begun, char_at}
use Rattle.language.proofs.Each.{All}
use Rattle.language.proofs.Tests.{both, either, inside, inside_test, outside, outside_test, never, by_cases}

-- a first byte from `low` to `high`, then `tails` bytes, the next one from `next` to `last`: the numbers `first` to `final`
pub record Row : Type 0 where
  pub low : ℕ
  pub high : ℕ
  pub tails : ℕ
  pub next : ℕ
  pub last : ℕ
  first : ℕ
  final : ℕ

abbrev row : ℕ → ℕ → ℕ → ℕ → ℕ → ℕ → ℕ → Row
row a z t l h m n = record { low = a; high = z; tails = t; next = l; last = h; first = m; final = n }

abbrev pub rows : List Row
rows =
    row 0x00 0x7F 0 0x80 0xBF 0x0 0x7F
    ∷ row 0xC2 0xDF 1 0x80 0xBF 0x80 0x7FF
    ∷ row 0xE0 0xE0 2 0xA0 0xBF 0x800 0xFFF
    ∷ row 0xE1 0xEC 2 0x80 0xBF 0x1000 0xCFFF
    ∷ row 0xED 0xED 2 0x80 0x9F 0xD000 0xD7FF
    ∷ row 0xEE 0xEF 2 0x80 0xBF 0xE000 0xFFFF
    ∷ row 0xF0 0xF0 3 0x90 0xBF 0x10000 0x3FFFF
    ∷ row 0xF1 0xF3 3 0x80 0xBF 0x40000 0xFFFFF
    ∷ row 0xF4 0xF4 3 0x80 0x8F 0x100000 0x10FFFF
    ∷ []

-- what the first byte has beside its bits of the number
abbrev pub base : ℕ → ℕ
base zero = 0
base (suc zero) = 0xC0
base (suc (suc zero)) = 0xE0
base (suc (suc (suc t))) = 0xF0

-- ---- the definitions have these rows

-- what a first byte of the row says
abbrev pub said_by : Row → ℕ → Option Lead
said_by r b = lead r.tails r.next r.last (b - base r.tails)

-- by the first row that has b among its first bytes
abbrev lookup : List Row → ℕ → Option Lead
lookup [] b = none
lookup (r ∷ rs) b = if' (within r.low r.high b) (said_by r b) (lookup rs b)

-- `lead_of` looks in these rows
leads : (b : ℕ) → lead_of b ≡ lookup rows b
unfolding lead_of
leads b = rw sub-zero refl

-- the ranges of the bytes that follow
abbrev ranges : ℕ → ℕ → ℕ → List Range
ranges zero low high = []
ranges (suc t) low high = to low high ∷ ranges t 0x80 0xBF

abbrev ranges_of : Row → List Range
ranges_of r = to r.low r.high ∷ ranges r.tails r.next r.last

abbrev grammar : List Row → List (List Range)
grammar [] = []
grammar (r ∷ rs) = ranges_of r ∷ grammar rs

-- the grammar has these rows
derived : (s : List ℕ) → is_char s ≡ derives_one (grammar rows) s
unfolding is_char
derived s = refl

-- ---- a number's bytes, by how many follow the first

-- the number without the bits of the last t bytes
abbrev top : ℕ → ℕ → ℕ
top zero n = n
top (suc t) n = top t n / 0x40

-- the last t bytes, six bits of the number in each
abbrev tails_of : ℕ → ℕ → List ℕ
tails_of zero n = []
tails_of (suc t) n = (0x80 + top t n % 0x40) ∷ tails_of t n

abbrev bytes : ℕ → ℕ → List ℕ
bytes t n = (base t + top t n) ∷ tails_of t n

length_tails : (t n : ℕ) → length (tails_of t n) ≡ t
length_tails zero n = refl
length_tails (suc t) n = ap suc (length_tails t n)

-- the numbers that take t bytes after the first
abbrev Sized : ℕ → ℕ → Type 0
Sized zero n = n ≤ 0x7F
Sized (suc zero) n = (0x7F < n) × (n ≤ 0x7FF)
Sized (suc (suc zero)) n = (0x7FF < n) × (n ≤ 0xFFFF)
Sized (suc (suc (suc zero))) n = 0xFFFF < n
Sized (suc (suc (suc (suc t)))) n = ⊥

-- such a number is encoded so
encoded : (t n : ℕ) → Sized t n → encode n ≡ bytes t n
unfolding encode
encoded zero n h = rw (le-leb n 0x7F, zero-add)
encoded (suc zero) n h = rw (lt-leb n 0x7F h.0, le-leb n 0x7FF h.1)
encoded (suc (suc zero)) n h =
    let d : n / 0x1000 ≡ n / 0x40 / 0x40 = omega arith in
    rw (lt-leb n 0x7F (omega arith), lt-leb n 0x7FF h.0, le-leb n 0xFFFF h.1, d)
encoded (suc (suc (suc zero))) n h =
    let d : n / 0x1000 ≡ n / 0x40 / 0x40 = omega arith in
    let e : n / 0x40000 ≡ n / 0x40 / 0x40 / 0x40 = omega arith in
    rw (lt-leb n 0x7F (omega arith), lt-leb n 0x7FF (omega arith), lt-leb n 0xFFFF, d, e)
encoded (suc (suc (suc (suc t)))) n h = absurd h

-- at most 10FFFF, and below D800 or past DFFF
abbrev Scalar : ℕ → Type 0
Scalar n = (n ≤ 0x10FFFF) × (0 < (0xD800 - n) + (n - 0xDFFF))

-- what the test `is_scalar` says, and the other way
scalar : (n : ℕ) → is_scalar n ≡ true → Scalar n
unfolding is_scalar
scalar n e =
    let h = both (leb n 0x10FFFF) (not (within 0xD800 0xDFFF n)) e in
    (leb-true n 0x10FFFF h.0, outside 0xD800 0xDFFF n (not-true _ h.1))

is_scalar_lem : (n : ℕ) → Scalar n → is_scalar n ≡ true
unfolding is_scalar
is_scalar_lem n h = rw (le-leb n 0x10FFFF h.0, outside_test 0xD800 0xDFFF n h.1)

-- ---- what holds of the rows (`omega` takes at most 64 statements at once, so some are proved in parts)

-- the second byte of a number, where it has one, is within bounds
abbrev Second : ℕ → ℕ → ℕ → ℕ → Type 0
Second zero low high n = Unit {0}
Second (suc t) low high n = (low ≤ 0x80 + top t n % 0x40) × (0x80 + top t n % 0x40 ≤ high)

-- the number's bytes are of the row
record Holds (r : Row) (n : ℕ) : Type 0 where
  from : r.low ≤ base r.tails + top r.tails n
  upto : base r.tails + top r.tails n ≤ r.high
  second : Second r.tails r.next r.last n

-- no first byte is below the base, and a next byte is one that may follow
pub record Bounds (r : Row) : Type 0 where
  least : base r.tails ≤ r.low
  pub tail_least : 0x80 ≤ r.next
  pub tail_most : r.last ≤ 0xBF

pub bounds : All Bounds rows
bounds = omega arith

-- a row has scalar values only, and none that is shorter in another way
abbrev Sound : Row → Type 0
Sound r = (n : ℕ) → Holds r n → Scalar n × Sized r.tails n

sound : All Sound rows
sound = (omega arith, (omega arith, (omega arith, omega arith)))

-- it has all from its first to its final number
abbrev Complete : Row → Type 0
Complete r = (n : ℕ) → r.first ≤ n → n ≤ r.final → Holds r n

complete : All Complete rows
complete = (omega arith, (omega arith, (omega arith, omega arith)))

-- its first bytes are below those of the rows after it
abbrev Ordered : List Row → Type 0
Ordered [] = Unit {0}
Ordered (r ∷ rs) = All (λ (q : Row). r.high < q.low) rs × Ordered rs

ordered : Ordered rows
ordered = (omega arith, (omega arith, omega arith))

-- the first row begins at the number or before
abbrev Begins : List Row → ℕ → Type 0
Begins [] n = ⊥
Begins (r ∷ rs) n = r.first ≤ n

-- a scalar value past a row is not before the next one
abbrev Linked : List Row → Type 0
Linked [] = Unit {0}
Linked (r ∷ rs) = ((n : ℕ) → Scalar n → r.final < n → Begins rs n) × Linked rs

linked : Linked rows
linked = omega arith

-- the row is one of the list
pub data At : List Row → Row → Type 0 where
  here : {r : Row} {rs : List Row} → At (r ∷ rs) r
  later : {q r : Row} {rs : List Row} → At rs r → At (q ∷ rs) r

-- the row numbered i is
pub numbered : (rs : List Row) (i : ℕ) → i < length rs → At rs (get_or rs i (row 0 0 0 0 0 0 0))
numbered [] i h = absurd (omega arith)
numbered (r ∷ rs) zero h = here
numbered (r ∷ rs) (suc i) h = later (numbered rs i (omega arith))

-- what holds of all rows holds of one of them
pub at : {rs : List Row} {r : Row} (P : Row → Type 0) → All P rs → At rs r → P r
at P h here = h.0
at P h (later a) = at P h.1 a

-- a first byte of a row finds that row
finds : {rs : List Row} {r : Row} → Ordered rs → At rs r → (b : ℕ) → r.low ≤ b → b ≤ r.high → lookup rs b ≡ said_by r b
finds {r = r} o here b l h = rw (inside_test r.low r.high b)
finds {r = r} o (later {q = q} a) b l h =
    let k = at (λ (p : Row). q.high < p.low) o.0 a in
    rw (outside_test q.low q.high b (omega arith)) (finds o.1 a b l h)

pub row_said : {r : Row} → At rows r → (b : ℕ) → r.low ≤ b → b ≤ r.high → lead_of b ≡ said_by r b
row_said a b l h = leads b ∙ finds ordered a b l h

-- what holds of what each row says of its first bytes, and of none, holds of what is said of a byte
lookup_each : (P : Option Lead → Type 0) (b : ℕ) (rs : List Row)
    → ((r : Row) → At rs r → within r.low r.high b ≡ true → P (said_by r b)) → P none → P (lookup rs b)
lookup_each P b [] f z = z
lookup_each P b (r ∷ rs) f z =
    by_cases P (within r.low r.high b) (λ e. f r here e) (λ _. lookup_each P b rs (λ q a e. f q (later a) e) z)

pub by_rows : (P : Option Lead → Type 0) (b : ℕ)
    → ((r : Row) → At rows r → within r.low r.high b ≡ true → P (said_by r b)) → P none → P (lead_of b)
by_rows P b f z = rw leads (lookup_each P b rows f z)

-- one of the rows has a scalar value between its first and its final number
between : (n : ℕ) → Scalar n → (rs : List Row) → Linked rs → Begins rs n → (r : Row) × At rs r × (r.first ≤ n) × (n ≤ r.final)
between n h [] l b = absurd b
between n h (r ∷ rs) l b =
    elim (dec_le n r.final) [
      | yes le ↦ (r, here, b, le)
      | no gt ↦ let d = between n h rs l.1 (l.0 n h (omega arith)) in (d.0, later d.1, d.2, d.3)
    ]

-- the encoding of a scalar value is of a row
row_of : (n : ℕ) → is_scalar n ≡ true → (r : Row) × At rows r × Holds r n × (encode n ≡ bytes r.tails n)
row_of n e =
    let d = between n (scalar n e) rows linked (omega arith) in
    let h = at Complete complete d.1 n d.2 d.3 in
    (d.0, d.1, h, encoded d.0.tails n (at Sound sound d.1 n h).1)

-- every encoding has a byte
pub not_empty : (n : ℕ) → is_scalar n ≡ true → 0 < length (encode n)
not_empty n h = rw (row_of n h).3 (omega arith)

-- ---- the bytes after the first

not_found : {n k : ℕ} → no_char ≡ char n k → ⊥
not_found e = never (cc)

-- a character is found past a test only where the test passes
passed : (w : Bool) (c : Char) {n k : ℕ} → if' w c no_char ≡ char n k → (w ≡ true) × (c ≡ char n k)
passed true c e = (refl, e)
passed false c e = absurd (not_found e)

passes : (w : Bool) (c : Char) → w ≡ true → if' w c no_char ≡ c
passes w c e = rw e

-- six bits after 80 are within 80 and BF
any_tail : (t n : ℕ) → Second t 0x80 0xBF n
any_tail zero n = tt
any_tail (suc t) n = omega arith

-- the byte that adds the last six bits to a number. Over plain numbers `omega` takes a tenth of the time that it takes below.
six_bits : (low high b bits m : ℕ) → 0x80 ≤ low → high ≤ 0xBF → low ≤ b → b ≤ high → m ≡ bits * 0x40 + (b - 0x80)
    → (b ≡ 0x80 + m % 0x40) × (m / 0x40 ≡ bits) × ((low ≤ 0x80 + m % 0x40) × (0x80 + m % 0x40 ≤ high))
six_bits low high b bits m l h i j e = omega arith

-- bytes that are read as a number are the number's own
followed : (size t low high bits : ℕ) (s : List ℕ) (n k : ℕ) → 0x80 ≤ low → high ≤ 0xBF → follow size t low high bits s ≡ char n k
    → (k ≡ size) × (top t n ≡ bits) × Second t low high n × ((r : List ℕ) × (s ≡ tails_of t n ++ r))
unfolding follow
followed size zero low high bits s n k l h e = (cc, cc, tt, (s, refl))
followed size (suc t) low high bits [] n k l h e = absurd (not_found e)
followed size (suc t) low high bits (b ∷ s) n k l h e =
    let p = passed (within low high b) (follow size t 0x80 0xBF (bits * 0x40 + (b - 0x80)) s) e in
    let i = inside low high b p.0 in
    let d = followed size t 0x80 0xBF (bits * 0x40 + (b - 0x80)) s n k (omega arith) (omega arith) p.1 in
    let c = six_bits low high b bits (top t n) l h i.0 i.1 d.1 in
    (d.0, c.1, c.2, (d.3.0, cc (c.0, d.3.1)))

-- the number's own bytes are read as the number
follows : (size t low high bits : ℕ) (s : List ℕ) (n : ℕ) → top t n ≡ bits → Second t low high n
    → follow size t low high bits (tails_of t n ++ s) ≡ char n size
unfolding follow
follows size zero low high bits s n e h = rw e
follows size (suc t) low high bits s n e h =
    rw (inside_test low high (0x80 + top t n % 0x40) h.0 h.1)
    (follows size t 0x80 0xBF (bits * 0x40 + (0x80 + top t n % 0x40 - 0x80)) s n (omega arith) (any_tail t n))

-- the grammar has the number's own bytes
derives_tails : (t low high n : ℕ) → Second t low high n → derives (ranges t low high) (tails_of t n) ≡ true
derives_tails zero low high n h = refl
derives_tails (suc t) low high n h =
    rw (inside_test low high (0x80 + top t n % 0x40) h.0 h.1) (derives_tails t 0x80 0xBF n (any_tail t n))

-- bytes that the grammar has are read to their end
read_whole : (size t low high bits : ℕ) (s : List ℕ) → derives (ranges t low high) s ≡ true
    → (length s ≡ t) × ((n : ℕ) × (follow size t low high bits s ≡ char n size))
unfolding follow
read_whole size zero low high bits [] e = (refl, (bits, refl))
read_whole size zero low high bits (b ∷ s) e = absurd (false≢true e)
read_whole size (suc t) low high bits [] e = absurd (false≢true e)
read_whole size (suc t) low high bits (b ∷ s) e =
    let h = both (within low high b) (derives (ranges t 0x80 0xBF) s) e in
    let d = read_whole size t 0x80 0xBF (bits * 0x40 + (b - 0x80)) s h.1 in
    (ap suc d.0, (d.1.0, passes _ _ h.0 ∙ d.1.1))

-- ---- reading by the rows

-- what follows a first byte of the row
abbrev read_by : Row → ℕ → List ℕ → Char
read_by r b s = follow (suc r.tails) r.tails r.next r.last (b - base r.tails) s

-- the list begins with the encoding of n, of `size` bytes
abbrev pub Reads : List ℕ → ℕ → ℕ → Type 0
Reads s n size = (is_scalar n ≡ true) × (length (encode n) ≡ size) × ((t : List ℕ) × (s ≡ encode n ++ t))

-- what a row reads is an encoding
read_row : {r : Row} → At rows r → (b : ℕ) (s : List ℕ) (n k : ℕ) → within r.low r.high b ≡ true → read_by r b s ≡ char n k
    → Reads (b ∷ s) n k
read_row {r} a b s n k i e =
    let t = r.tails in
    let l = at Bounds bounds a in
    let j = inside r.low r.high b i in
    let d = followed (suc t) t r.next r.last (b - base t) s n k l.tail_least l.tail_most e in
    let c : b ≡ base t + top t n = omega arith in
    let h = at Sound sound a n (record { from = omega arith; upto = omega arith; second = d.2 }) in
    let f = encoded t n h.1 in
    (is_scalar_lem n h.0, rw f (cc (length_tails t n)), (d.3.0, rw f (cc d.3.1)))

-- what the grammar has is of a row
derived_by : (rs : List Row) (s : List ℕ) → derives_one (grammar rs) s ≡ true → (r : Row) × At rs r × (derives (ranges_of r) s ≡ true)
derived_by [] s e = absurd (false≢true e)
derived_by (r ∷ rs) s e =
    elim (either (derives (ranges_of r) s) (derives_one (grammar rs) s) e) [
      | inl d ↦ (r, here, d)
      | inr d ↦ let f = derived_by rs s d in (f.0, later f.1, f.2)
    ]

-- what is of a row is in the grammar
derives_one_lem : {rs : List Row} {r : Row} → At rs r → (s : List ℕ) → derives (ranges_of r) s ≡ true → derives_one (grammar rs) s ≡ true
derives_one_lem here s e = rw e
derives_one_lem (later {q = q} a) s e = rw (derives_one_lem a s e) (or-true (derives (ranges_of q) s))

-- ---- the encoding, the grammar and the reading of one character

-- a character that is read is an encoding
pub character_at : (s : List ℕ) (n size : ℕ) → char_at s ≡ char n size → Reads s n size
unfolding char_at
character_at [] n size e = absurd (not_found e)
character_at (b ∷ s) n size e =
    by_rows (λ o. begun o s ≡ char n size → Reads (b ∷ s) n size) b (λ r a i f. read_row a b s n size i f) (λ f. absurd (not_found f)) e

-- an encoding is read
pub encoding_at : (n : ℕ) (s : List ℕ) → is_scalar n ≡ true → char_at (encode n ++ s) ≡ char n (length (encode n))
unfolding char_at
encoding_at n s e =
    let d = row_of n e in
    let t = d.0.tails in
    let h = d.2 in
    let f = follows (suc t) t d.0.next d.0.last (base t + top t n - base t) s n (omega arith) h.second in
    rw (d.3, row_said d.1 (base t + top t n) h.from h.upto, length_tails) f

-- the grammar has every encoding
pub in_grammar : (n : ℕ) → is_scalar n ≡ true → is_char (encode n) ≡ true
in_grammar n e =
    let d = row_of n e in
    let t = d.0.tails in
    let h = d.2 in
    let i = inside_test d.0.low d.0.high (base t + top t n) h.from h.upto in
    rw (derived, d.3) (derives_one_lem d.1 (bytes t n) (rw i (derives_tails t d.0.next d.0.last n h.second)))

-- a list that adds nothing to the length is empty
pub adds_none : (p s : List ℕ) → length (p ++ s) ≡ length p → s ≡ []
adds_none p [] e = refl
adds_none p (b ∷ s) e = absurd (omega (arith, simp length-append at e))

-- the grammar has nothing but encodings
pub of_grammar : (s : List ℕ) → is_char s ≡ true → (n : ℕ) × (is_scalar n ≡ true) × (encode n ≡ s)
of_grammar s e = go s (derived_by rows s (rw derived at e))
  where
    go : (s : List ℕ) → (r : Row) × At rows r × (derives (ranges_of r) s ≡ true) → (n : ℕ) × (is_scalar n ≡ true) × (encode n ≡ s)
    go [] d = absurd (false≢true d.2)
    go (b ∷ s) d =
        let r = d.0 in
        let t = r.tails in
        let h = both (within r.low r.high b) (derives (ranges t r.next r.last) s) d.2 in
        let f = read_whole (suc t) t r.next r.last (b - base t) s h.1 in
        let n = f.1.0 in
        let k = read_row d.1 b s n (suc t) h.0 f.1.1 in
        let z = adds_none (encode n) k.2.0 (cc (f.0, k.1, ap length k.2.1)) in
        (n, k.0, cc (append-nil (encode n), k.2.1))

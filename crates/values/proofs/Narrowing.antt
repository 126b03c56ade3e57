-- Narrowing an integer, and what is shown of a term.
use mathlib.Core.Path.{◌≡◌, refl, sym, ap, ◌∙◌}
use mathlib.Core.Option.{Option, none, some}
use Prim.Native.Nat.{ℕ, ◌+◌, ◌*◌, ◌%◌, ◌^◌, ◌<◌}
use native.Mathlib.Omega.{arith}
use Rattle.std.specs.Prelude as code
use Rattle.std.specs.Prelude.{Some, None}
use Rattle.wide.specs.Wide.{size_of}
use Rattle.wide.specs.declared.Size.{Size}
use Rattle.wide.specs.declared.Size.TheVariants.{U8, U16, U32, U64}
use Rattle.language.specs.Integers.{IntType, u8, u16, u32, u64, bits, smallest}
use Rattle.language.specs.Tables as tables
use Rattle.language.specs.Values as values
use Rattle.language.specs.Values.{is_integer, is_bool, is_sized, is_ip4, is_sock4, is_string, is_text, is_function, int_kind}
use Rattle.language.specs.Terms as terms
use Rattle.language.specs.Terms.{constant, slot, atom, called, divided}
use Rattle.language.specs.Judgements.{narrowed}
use Rattle.language.specs.Findings.{value_kind, value_low, value_high, value_text, shown_low, shown_high}
use Rattle.language.proofs.Integers.{smallest_holds}
use Rattle.language.proofs.Forms.{ValueOf, of_integer, value_form}
use Rattle.language.proofs.Tests.{never}
use Rattle.rows.specs.declared.types.Text.{Text}
use Rattle.findings.specs.Findings.{type_text}
use Rattle.values.specs.declared.Term.{Term}
use Rattle.values.specs.Values.{constant_as, term_as, shown_constant, narrowed_as, shown_as}
use Rattle.values.proofs.Values.{TermOf, of_constant, of_slot, term_form, whole}

-- ---- narrowing

-- a value that is not known before the run
run_narrowed : (e : terms.Term) → ((term_as e).form ≡ 1 → ⊥) → Some (term_as e) ≡ narrowed_as (narrowed e)
unfolding narrowed
run_narrowed (atom p (constant v)) h = absurd (h refl)
run_narrowed (atom p (slot s t)) h = refl
run_narrowed (called p c f vs) h = refl
run_narrowed (divided p a b) h = refl

-- a constant that has a size, or is no integer
sized_narrowed : (p : ℕ) (v : values.Value) → (value_kind v ≡ 16 → ⊥) → Some (constant_as p v) ≡ narrowed_as (narrowed (atom p (constant v)))
unfolding narrowed
sized_narrowed p (is_integer n) h = absurd (h refl)
sized_narrowed p (is_bool b) h = refl
sized_narrowed p (is_sized t n) h = refl
sized_narrowed p (is_ip4 n) h = refl
sized_narrowed p (is_sock4 n m) h = refl
sized_narrowed p (is_string t) h = refl
sized_narrowed p (is_text a b) h = refl
sized_narrowed p (is_function k) h = refl

constant_narrowed : {e : terms.Term} → TermOf 1 e → ((term_as e).kind ≡ 16 → ⊥) → Some (term_as e) ≡ narrowed_as (narrowed e)
constant_narrowed (of_constant {p = p} {v = v}) h = sized_narrowed p v h

module _ {v : Term} (e : terms.Term) (q : v ≡ term_as e) where
  pub narrow_run : (v.form ≡ 1 → ⊥) → Some v ≡ narrowed_as (narrowed e)
  narrow_run h = ap Some q ∙ run_narrowed e (λ z. h (ap (λ (w : Term). w.form) q ∙ z))

  pub narrow_same : v.form ≡ 1 → (v.kind ≡ 16 → ⊥) → Some v ≡ narrowed_as (narrowed e)
  narrow_same f h = ap Some q ∙ constant_narrowed (term_form e q f) (λ z. h (ap (λ (w : Term). w.kind) q ∙ z))

is_u8 : (o : Option IntType) → Some U8 ≡ size_of o → o ≡ some u8
is_u8 (some u8) e = refl
is_u8 (some u16) e = never (cc)
is_u8 (some u32) e = never (cc)
is_u8 (some u64) e = never (cc)
is_u8 none e = never (cc)

is_u16 : (o : Option IntType) → Some U16 ≡ size_of o → o ≡ some u16
is_u16 (some u8) e = never (cc)
is_u16 (some u16) e = refl
is_u16 (some u32) e = never (cc)
is_u16 (some u64) e = never (cc)
is_u16 none e = never (cc)

is_u32 : (o : Option IntType) → Some U32 ≡ size_of o → o ≡ some u32
is_u32 (some u8) e = never (cc)
is_u32 (some u16) e = never (cc)
is_u32 (some u32) e = refl
is_u32 (some u64) e = never (cc)
is_u32 none e = never (cc)

is_u64 : (o : Option IntType) → Some U64 ≡ size_of o → o ≡ some u64
is_u64 (some u8) e = never (cc)
is_u64 (some u16) e = never (cc)
is_u64 (some u32) e = never (cc)
is_u64 (some u64) e = refl
is_u64 none e = never (cc)

is_large : (o : Option IntType) → None ≡ size_of o → o ≡ none
is_large (some u8) e = never (cc)
is_large (some u16) e = never (cc)
is_large (some u32) e = never (cc)
is_large (some u64) e = never (cc)
is_large none e = refl

-- every type holds less than 2^64
small : (t : IntType) (n : ℕ) → n < 2 ^ bits t → n < tables.word_limit
small u8 n h = omega arith
small u16 n h = omega arith
small u32 n h = omega arith
small u64 n h = omega arith

module _ (p n : ℕ) where
  abbrev sized_as : Option IntType → Option terms.Term
  sized_as o = elim o [ some t ↦ some (atom p (constant (is_sized t n))) | none ↦ none ]

  narrowed_by_lem : {o : Option IntType} → smallest n ≡ o → narrowed_as (sized_as o) ≡ narrowed_as (narrowed (atom p (constant (is_integer n))))
  unfolding narrowed
  narrowed_by_lem e = ap (λ (o : Option IntType). narrowed_as (sized_as o)) (sym e)

  sized : (t : IntType) → smallest n ≡ some t
      → Some (record { at = p; form = 1; kind = int_kind t; lo = n % tables.word_limit; hi = 0 }) ≡ narrowed_as (narrowed (atom p (constant (is_integer n))))
  sized t e =
      let l : n < tables.word_limit = small t n (smallest_holds.0 n t e).0 in
      let q : n % tables.word_limit ≡ n = omega (arith, l) in
      ap (λ (m : ℕ). Some (record { at = p; form = 1; kind = int_kind t; lo = m; hi = 0 })) q ∙ narrowed_by_lem e

module _ {v : Term} {z : code.Option Size} (f : v.form ≡ 1) (k : v.kind ≡ 16) (o : z ≡ size_of (smallest (v.hi * tables.word_limit + v.lo))) where
  -- the number that such a term is
  number : (p n : ℕ) → v ≡ constant_as p (is_integer n) → smallest n ≡ smallest (v.hi * tables.word_limit + v.lo)
  number p n e = ap smallest (sym (whole n)) ∙ ap (λ (w : Term). smallest (w.hi * tables.word_limit + w.lo)) (sym e)

  fits_value : (t : IntType) → smallest (v.hi * tables.word_limit + v.lo) ≡ some t → (p : ℕ) (u : values.Value) → v ≡ constant_as p u → ValueOf 16 u
      → Some (record { at = v.at; form = 1; kind = int_kind t; lo = v.lo; hi = 0 }) ≡ narrowed_as (narrowed (atom p (constant u)))
  fits_value t q p u e (of_integer {n = n}) =
      ap (λ (w : Term). Some (record { at = w.at; form = 1; kind = int_kind t; lo = w.lo; hi = 0 })) e ∙ sized p n t (number p n e ∙ q)

  large_value : z ≡ None → (p : ℕ) (u : values.Value) → v ≡ constant_as p u → ValueOf 16 u → None ≡ narrowed_as (narrowed (atom p (constant u)))
  large_value q p u e (of_integer {n = n}) = narrowed_by_lem p n (number p n e ∙ is_large _ (sym q ∙ o))

  -- what holds of an integer constant holds of this term
  of_integers : (P : terms.Term → Type 0) → ((p : ℕ) (u : values.Value) → v ≡ constant_as p u → ValueOf 16 u → P (atom p (constant u)))
      → (e : terms.Term) → v ≡ term_as e → P e
  of_integers P h e q = by q (term_form e q f)
    where
      by : {e : terms.Term} → v ≡ term_as e → TermOf 1 e → P e
      by q (of_constant {p = p} {v = u}) = h p u q (value_form u (ap (λ (w : Term). w.kind) (sym q) ∙ k))

  module _ (e : terms.Term) (q : v ≡ term_as e) {w : Term} where
    fits_by : (t : IntType) → smallest (v.hi * tables.word_limit + v.lo) ≡ some t
        → w ≡ record { at = v.at; form = 1; kind = int_kind t; lo = v.lo; hi = 0 } → Some w ≡ narrowed_as (narrowed e)
    fits_by t h r =
        ap Some r
        ∙ of_integers (λ e. Some (record { at = v.at; form = 1; kind = int_kind t; lo = v.lo; hi = 0 }) ≡ narrowed_as (narrowed e)) (fits_value t h) e q

    pub narrow_u8 : z ≡ Some U8 → w ≡ record { at = v.at; form = 1; kind = 3; lo = v.lo; hi = 0 } → Some w ≡ narrowed_as (narrowed e)
    narrow_u8 h r = fits_by u8 (is_u8 _ (sym h ∙ o)) r

    pub narrow_u16 : z ≡ Some U16 → w ≡ record { at = v.at; form = 1; kind = 4; lo = v.lo; hi = 0 } → Some w ≡ narrowed_as (narrowed e)
    narrow_u16 h r = fits_by u16 (is_u16 _ (sym h ∙ o)) r

    pub narrow_u32 : z ≡ Some U32 → w ≡ record { at = v.at; form = 1; kind = 5; lo = v.lo; hi = 0 } → Some w ≡ narrowed_as (narrowed e)
    narrow_u32 h r = fits_by u32 (is_u32 _ (sym h ∙ o)) r

    pub narrow_u64 : z ≡ Some U64 → w ≡ record { at = v.at; form = 1; kind = 6; lo = v.lo; hi = 0 } → Some w ≡ narrowed_as (narrowed e)
    narrow_u64 h r = fits_by u64 (is_u64 _ (sym h ∙ o)) r

  pub narrow_large : (e : terms.Term) → v ≡ term_as e → z ≡ None → None ≡ narrowed_as (narrowed e)
  narrow_large e q h = of_integers (λ e. None ≡ narrowed_as (narrowed e)) (large_value h) e q

-- ---- what is shown of a constant

value_shown : (v : values.Value) → shown_constant (value_kind v) (value_low v) (value_high v) ≡ record { from = value_text v; start = shown_low v; end = shown_high v }
unfolding shown_constant type_text
value_shown (is_integer n) = refl
value_shown (is_bool b) = refl
value_shown (is_sized u8 n) = refl
value_shown (is_sized u16 n) = refl
value_shown (is_sized u32 n) = refl
value_shown (is_sized u64 n) = refl
value_shown (is_ip4 n) = refl
value_shown (is_sock4 n p) = refl
value_shown (is_string t) = refl
value_shown (is_text a b) = refl
value_shown (is_function k) = refl

-- ---- and of a term

constant_shown : {e : terms.Term} → TermOf 1 e → shown_constant (term_as e).kind (term_as e).lo (term_as e).hi ≡ shown_as e
constant_shown (of_constant {v = v}) = value_shown v

slot_shown : {e : terms.Term} → TermOf 2 e → record { from = 0; start = (term_as e).lo; end = 0 } ≡ shown_as e
slot_shown of_slot = refl

other_shown : (e : terms.Term) → ((term_as e).form ≡ 1 → ⊥) → ((term_as e).form ≡ 2 → ⊥) → record { from = 0; start = (term_as e).lo; end = (term_as e).hi } ≡ shown_as e
other_shown (atom p (constant v)) h g = absurd (h refl)
other_shown (atom p (slot s t)) h g = absurd (g refl)
other_shown (called p c f vs) h g = refl
other_shown (divided p a b) h g = refl

module _ {v : Term} (e : terms.Term) (q : v ≡ term_as e) where
  pub shown_constant_lem : {r : Text} → r ≡ shown_constant v.kind v.lo v.hi → v.form ≡ 1 → r ≡ shown_as e
  shown_constant_lem p h = p ∙ rw q (constant_shown (term_form e q h))

  pub shown_slot : v.form ≡ 2 → record { from = 0; start = v.lo; end = 0 } ≡ shown_as e
  shown_slot h = rw q (slot_shown (term_form e q h))

  pub shown_other : (v.form ≡ 1 → ⊥) → (v.form ≡ 2 → ⊥) → record { from = 0; start = v.lo; end = v.hi } ≡ shown_as e
  shown_other h g = rw q (other_shown e (λ z. h (ap (λ (w : Term). w.form) q ∙ z)) (λ z. g (ap (λ (w : Term). w.form) q ∙ z)))

-- Each way through fitting a value, as the code takes it.
use Prim.Native.Nat.{ℕ, ◌+◌, ◌≤◌, ◌<◌}
use mathlib.Core.Path.{◌≡◌, refl, sym, ap, subst, ◌∙◌}
use mathlib.Core.Bool.{Bool, true, false, not, ◌&&◌, false≢true}
use mathlib.Core.List.{List, [], ◌∷◌}
use mathlib.Core.Option.{Option, none, some}
use native.Mathlib.Omega.{arith}
use borrow.Author.Tests.{eqb-true, eq-eqb, ne_eqb, lt-ltb, le-ltb}
use lib.Dec.{eqb, leb}
use Rattle.std.specs.Prelude as prelude
use Rattle.std.specs.Prelude.{Some, None, Ok, Err}
use Rattle.language.specs.Choice.{if'}
use Rattle.language.specs.Integers.{IntType, low_bits}
use Rattle.language.specs.Tables.{word_limit, bit}
use Rattle.language.specs.Values as values
use Rattle.language.specs.Values.{is_integer, is_sized, Ty, ty_void, ty_bool, ty_int, ty_ip4, ty_sock4, ty_bytes, ty_pkt, ty_pkt_gen, ty_time_jump, ty_function, ty_integer, int_kind, ty_kind}
use Rattle.language.specs.Terms as terms
use Rattle.language.specs.Terms.{constant, slot, atom, called, divided, term_type}
use Rattle.language.specs.Judgements as judgements
use Rattle.language.specs.Judgements.{val, diag, judgement, fine, wrong, integral_too_large, truncated, overflow, unsized_of, narrowed, as_bool, as_it_is, as_bytes, narrow_to, fit}
use Rattle.language.specs.Findings.{value_kind}
use Rattle.language.specs.Numbers.{token_of}
use Rattle.language.proofs.Forms.{ValueOf, of_integer, value_form}
use Rattle.language.proofs.Tests.{never, both, each_side}
use Rattle.rows.specs.declared.token.Token.{Token}
use Rattle.rows.specs.declared.types.Type.{«Type»}
use Rattle.rows.specs.Tokens.{token_as}
use Rattle.findings.specs.declared.Counts.{Counts}
use Rattle.findings.specs.declared.Diagnostic.{Diagnostic}
use Rattle.findings.specs.declared.What.{What}
use Rattle.findings.specs.declared.What.TheVariants.{Truncated, Overflow, IntegralTooLarge}
use Rattle.findings.specs.Findings.{kind_number, severity_number, at_token, plus_finding, Reports}
use Rattle.findings.proofs.Texts.{at_token_lem}
use Rattle.findings.proofs.Adds.{adds_none, adds_reported}
use Rattle.values.specs.declared.Term.{Term}
use Rattle.values.specs.declared.Halt.TheVariants.{Found}
use Rattle.values.specs.Values.{Judgement}
use Rattle.values.specs.Values.{Judged, constant_as, term_as, is_integral, is_number, TypeShown, Narrow, narrowed_as, judged_as}
use Rattle.values.proofs.Values.{TermOf, of_constant, term_form, kind_as_lem, judged_err, number_as, whole, unsized_not, integer_is, integer_not, integral_type}
use Rattle.holding.specs.Holding.{Judges}
use Rattle.fitting.specs.Fitting.{bits_by, low_by, fits_by, is_unsized, number_of, Warns, Cuts, Widens, Narrows, Unsized, Kept, Plain, Fits}
use Rattle.fitting.proofs.Numbers.{bits_as, low_as, unchanged, changed, words_of, fits_as, is_bool_lem, is_bytes, is_int, not_int}

-- ---- warnings

pub warned : (s : List ℕ) (t : ℕ) {what : What} {c c' : Counts} {x y : List ℕ} {tok : Token} {d : Diagnostic} → tok ≡ token_as (token_of s t)
    → d ≡ at_token tok what → Reports c d x c' y → Warns s t what c x c' y
warned s t p q r = record { is = λ n w e o. adds_reported s n t w e (q ∙ at_token_lem s t w p o) r }

-- that is one finding more
pub one_more_lem : {c c' : Counts} {d : Diagnostic} {x y : List ℕ} → Reports c d x c' y → c'.errors + c'.warnings ≤ c.errors + c.warnings + 1
unfolding plus_finding
one_more_lem {c} {d = d} r =
    rw r.counted (each_side (λ (n : Counts). n.errors + n.warnings ≤ c.errors + c.warnings + 1) (eqb (severity_number (kind_number d.what)) 1) (omega arith) (omega arith))

-- a step that adds nothing
quiet : (s : List ℕ) {r : Judgement} {x : List ℕ} {c : Counts} (j : judgements.Judgement terms.Term) → r.out ≡ judged_as s j.out → r.counts ≡ c
    → j.warns ≡ [] → j.looks ≡ [] → Judges s r x x c j
quiet s {x = x} {c} j o e w l = record { out = o; adds = rw (e, w, l) (adds_none s c x) }

-- ---- a number that is known

module _ (s : List ℕ) (wanted t : ℕ) (v : Term) (small : v.lo < word_limit) {low : ℕ} (l : low ≡ low_by wanted v.lo)
    {w : Term} (k : w ≡ record { at = v.at; form = 1; kind = wanted; lo = low; hi = 0 }) where
  low_is : (ty : IntType) → wanted ≡ int_kind ty → low ≡ low_bits ty (number_of v)
  low_is ty e = l ∙ ap (λ (n : ℕ). low_by n v.lo) e ∙ sym (low_as ty v.hi v.lo small)

  cut_out : (ty : IntType) → wanted ≡ int_kind ty → Ok w ≡ judged_as s (val (atom v.at (constant (is_sized ty (low_bits ty (number_of v))))))
  cut_out ty e = ap Ok (k ∙ rw (e, low_is ty e))

  pub cut_same : {c : Counts} {x : List ℕ} {r : Judgement} → eqb v.hi 0 && eqb low v.lo ≡ true → r.out ≡ Ok w → r.counts ≡ c → Cuts s wanted t v c x r x
  cut_same h o e =
      record {
        is = λ n ty m q.
            let none-cut : judgements.cut n t ty (number_of v) ≡ [] = rw (unchanged ty v.hi v.lo (low_is ty q) h) in
            quiet s _ (o ∙ cut_out ty q) e none-cut refl;
      }

  pub cut_more : {c c' : Counts} {x y : List ℕ} {r : Judgement} → eqb v.hi 0 && eqb low v.lo ≡ false
      → Warns s t (Truncated (record { hi = v.hi; lo = v.lo }) (record { kind = wanted; entry = 0 })) c x c' y → r.out ≡ Ok w → r.counts ≡ c'
      → Cuts s wanted t v c x r y
  cut_more h g o e =
      record {
        is = λ n ty m q.
            let one-cut : judgements.cut n t ty (number_of v) ≡ diag n t (truncated (number_of v) (ty_int ty)) ∷ [] = rw (changed ty v.hi v.lo (low_is ty q) h) in
            record { out = o ∙ cut_out ty q; adds = rw (e, one-cut) (g.is n (truncated (number_of v) (ty_int ty)) m (rw (q, words_of v.hi v.lo small))) };
      }

-- ---- one that is not known

module _ (s : List ℕ) (wanted t : ℕ) {v : Term} {ty : «Type»} (p : TypeShown v ty) {a b : ℕ} (w : a ≡ bits_by wanted) (f : b ≡ bits_by ty.kind) where
  wanted_bits : (u : IntType) → wanted ≡ int_kind u → a ≡ values.bits_of (ty_int u)
  wanted_bits u e = w ∙ ap bits_by e ∙ bits_as (ty_int u)

  found_bits : (e : terms.Term) → v ≡ term_as e → b ≡ values.bits_of (term_type e)
  found_bits e q = f ∙ ap (λ (y : «Type»). bits_by y.kind) (p.is e q) ∙ bits_as (term_type e)

  pub widen_same : {c : Counts} {x : List ℕ} {r : Judgement} → b ≤ a → r.out ≡ Ok v → r.counts ≡ c → Widens s wanted t v c x r x
  widen_same h o i =
      record {
        is = λ n u e m z q.
            let l : values.bits_of (term_type e) ≤ values.bits_of (ty_int u) = rw (← wanted_bits u z, ← found_bits e q) h in
            let none-wide : judgements.widened n t u (term_type e) ≡ [] = rw (le-ltb _ _ l) in
            quiet s _ (o ∙ ap Ok q) i none-wide refl;
      }

  pub widen_more : {c c' : Counts} {x y : List ℕ} {r : Judgement} → a < b → Warns s t (Overflow ty wanted) c x c' y → r.out ≡ Ok v → r.counts ≡ c'
      → Widens s wanted t v c x r y
  widen_more h g o i =
      record {
        is = λ n u e m z q.
            let l : values.bits_of (ty_int u) < values.bits_of (term_type e) = rw (← wanted_bits u z, ← found_bits e q) h in
            let one-wide : judgements.widened n t u (term_type e) ≡ diag n t (overflow (term_type e) (ty_int u)) ∷ [] = rw (lt-ltb _ _ l) in
            record { out = o ∙ ap Ok q; adds = rw (i, one-wide) (g.is n (overflow (term_type e) (ty_int u)) m (rw (p.is e q, z))) };
      }

-- ---- to an integer type

module _ (n : ℕ) (ty : IntType) (t : ℕ) (j : judgements.Judgement terms.Term) where
  abbrev by_number : ℕ → Option ℕ → judgements.Judgement terms.Term
  by_number p c = elim c [ some i ↦ judgement (val (atom p (constant (is_sized ty (low_bits ty i))))) (judgements.cut n t ty i) | none ↦ j ]

  known_number : (p : ℕ) (u : values.Value) → is_number (value_kind u) ≡ true
      → judgement (val (atom p (constant (is_sized ty (low_bits ty (number_as u)))))) (judgements.cut n t ty (number_as u)) ≡ narrow_to n ty t j (atom p (constant u))
  unfolding narrow_to
  known_number p u h = ap (by_number p) (sym (integer_is u h))

  known_other : (p : ℕ) (u : values.Value) → is_number (value_kind u) ≡ false → j ≡ narrow_to n ty t j (atom p (constant u))
  unfolding narrow_to
  known_other p u h = ap (by_number p) (sym (integer_not u h))

  -- a value that is not known before the run
  run_is : (e : terms.Term) → ((term_as e).form ≡ 1 → ⊥)
      → if' (values.is_integral (term_type e)) (judgement (val e) (judgements.widened n t ty (term_type e))) j ≡ narrow_to n ty t j e
  unfolding narrow_to
  run_is (atom p (constant u)) h = absurd (h refl)
  run_is (atom p (slot i u)) h = refl
  run_is (called p c f vs) h = refl
  run_is (divided p a b) h = refl

  run_integral : (e : terms.Term) → ((term_as e).form ≡ 1 → ⊥) → is_integral (term_as e).kind ≡ true
      → judgement (val e) (judgements.widened n t ty (term_type e)) ≡ narrow_to n ty t j e
  run_integral e h k =
      let i : values.is_integral (term_type e) ≡ true = sym (integral_type (term_type e)) ∙ ap is_integral (sym (kind_as_lem e h)) ∙ k in
      sym (rw i refl) ∙ run_is e h

  run_other : (e : terms.Term) → ((term_as e).form ≡ 1 → ⊥) → is_integral (term_as e).kind ≡ false → j ≡ narrow_to n ty t j e
  run_other e h k =
      let i : values.is_integral (term_type e) ≡ false = sym (integral_type (term_type e)) ∙ ap is_integral (sym (kind_as_lem e h)) ∙ k in
      sym (rw i refl) ∙ run_is e h

form_not : {v : Term} (e : terms.Term) → v ≡ term_as e → (v.form ≡ 1 → ⊥) → (term_as e).form ≡ 1 → ⊥
form_not e q f z = f (ap (λ (w : Term). w.form) q ∙ z)

module _ (s : List ℕ) (wanted t : ℕ) {v : Term} (otherwise : Judged) {c : Counts} {x : List ℕ} {r : Judgement} {b : Bool} where
  pub narrow_cut : {y : List ℕ} → v.form ≡ 1 → b ≡ is_number v.kind → b ≡ true → Cuts s wanted t v c x r y → Narrows s wanted t v otherwise c x r y
  narrow_cut {y} f p h g = record { is = λ n ty e o m z q i. by n ty m z q (judgement o []) (term_form e q f) }
    where
      by : (n : ℕ) (ty : IntType) → n ≡ c.number → wanted ≡ int_kind ty → {e : terms.Term} → v ≡ term_as e → (j : judgements.Judgement terms.Term) → TermOf 1 e
          → Judges s r x y c (narrow_to n ty t j e)
      by n ty m z q j (of_constant {p = place} {v = u}) =
          let k : is_number (value_kind u) ≡ true = ap (λ (w : Term). is_number w.kind) (sym q) ∙ sym p ∙ h in
          subst (Judges s r x y c) (known_number n ty t j place u k) (rw q at (g.is n ty m z))

  pub narrow_other : v.form ≡ 1 → b ≡ is_number v.kind → b ≡ false → r.out ≡ otherwise → r.counts ≡ c → Narrows s wanted t v otherwise c x r x
  narrow_other f p h g i = record { is = λ n ty e o m z q l. by n ty q o l (term_form e q f) }
    where
      by : (n : ℕ) (ty : IntType) {e : terms.Term} → v ≡ term_as e → (o : judgements.Judged terms.Term) → otherwise ≡ judged_as s o → TermOf 1 e
          → Judges s r x x c (narrow_to n ty t (judgement o []) e)
      by n ty q o l (of_constant {p = place} {v = u}) =
          let k : is_number (value_kind u) ≡ false = ap (λ (w : Term). is_number w.kind) (sym q) ∙ sym p ∙ h in
          subst (Judges s r x x c) (known_other n ty t (judgement o []) place u k) (quiet s _ (g ∙ l) i refl refl)

  module _ (f : v.form ≡ 1 → ⊥) (p : b ≡ is_integral v.kind) where
    pub narrow_wide : {y : List ℕ} → b ≡ true → Widens s wanted t v c x r y → Narrows s wanted t v otherwise c x r y
    narrow_wide {y} h g =
        record {
          is = λ n ty e o m z q i.
              subst (Judges s r x y c) (run_integral n ty t (judgement o []) e (form_not e q f) (ap (λ (w : Term). is_integral w.kind) (sym q) ∙ sym p ∙ h))
              (g.is n ty e m z q);
        }

    pub narrow_none : b ≡ false → r.out ≡ otherwise → r.counts ≡ c → Narrows s wanted t v otherwise c x r x
    narrow_none h g l =
        record {
          is = λ n ty e o m z q i.
              subst (Judges s r x x c) (run_other n ty t (judgement o []) e (form_not e q f) (ap (λ (w : Term). is_integral w.kind) (sym q) ∙ sym p ∙ h))
              (quiet s _ (g ∙ i) l refl refl);
        }

-- ---- integers with no size

-- what holds of every integer constant holds of such a term
of_unsized : {v : Term} (P : terms.Term → Type 0) → is_unsized v ≡ true → ((p i : ℕ) → v ≡ constant_as p (is_integer i) → P (atom p (constant (is_integer i))))
    → (e : terms.Term) → v ≡ term_as e → P e
of_unsized {v} P h f e q = by q (term_form e q (eqb-true v.form 1 b.0))
  where
    b : (eqb v.form 1 ≡ true) × (eqb v.kind 16 ≡ true)
    b = both (eqb v.form 1) (eqb v.kind 16) h

    inner : (p : ℕ) {u : values.Value} → v ≡ constant_as p u → ValueOf 16 u → P (atom p (constant u))
    inner p q (of_integer {n = i}) = f p i q

    by : {e : terms.Term} → v ≡ term_as e → TermOf 1 e → P e
    by q (of_constant {p = p} {v = u}) = inner p q (value_form u (ap (λ (w : Term). w.kind) (sym q) ∙ eqb-true v.kind 16 b.1))

number_as_lem : {v : Term} (p i : ℕ) → v ≡ constant_as p (is_integer i) → number_of v ≡ i
number_as_lem p i q = ap (λ (w : Term). number_of w) q ∙ whole i

-- the bool of a number
bool_as : (s : List ℕ) (n t p i : ℕ) (b : Bool) (j : judgements.Judgement terms.Term) → eqb i 0 ≡ b
    → Ok (record { at = p; form = 1; kind = 2; lo = bit (not b); hi = 0 }) ≡ judged_as s (fit n ty_bool t j (atom p (constant (is_integer i)))).out
unfolding fit
bool_as s n t p i b j e = rw e

module _ (s : List ℕ) (t : ℕ) {v : Term} {w : Term} where
  bool_by : (b : Bool) → ((i : ℕ) → number_of v ≡ i → eqb i 0 ≡ b) → w ≡ record { at = v.at; form = 1; kind = 2; lo = bit (not b); hi = 0 } → Unsized s 2 t v (Ok w)
  bool_by b f k =
      record {
        is = λ n ty e o z q h.
            rw (is_bool_lem ty z)
            (of_unsized (λ e. Ok w ≡ judged_as s (fit n ty_bool t (judgement o []) e).out) h (λ p i q'.
            ap Ok (k ∙ ap (λ (y : Term). record { at = y.at; form = 1; kind = 2; lo = bit (not b); hi = 0 }) q') ∙ bool_as s n t p i b (judgement o []) (f i (number_as_lem p i q'))) e q);
      }

  pub bool_false : eqb v.hi 0 && eqb v.lo 0 ≡ true → w ≡ record { at = v.at; form = 1; kind = 2; lo = 0; hi = 0 } → Unsized s 2 t v (Ok w)
  bool_false h k =
      let b = both (eqb v.hi 0) (eqb v.lo 0) h in
      let hi = eqb-true v.hi 0 b.0 in
      let lo = eqb-true v.lo 0 b.1 in
      bool_by true (λ i e. eq-eqb i 0 (omega arith)) k

  pub bool_true : eqb v.hi 0 && eqb v.lo 0 ≡ false → w ≡ record { at = v.at; form = 1; kind = 2; lo = 1; hi = 0 } → Unsized s 2 t v (Ok w)
  bool_true h k = bool_by false (λ i e. ne_eqb i 0 (λ z. other i e z)) k
    where
      other : (i : ℕ) → number_of v ≡ i → i ≡ 0 → ⊥
      other i e z =
          let a : v.hi ≡ 0 = omega arith in
          let b : v.lo ≡ 0 = omega arith in
          false≢true (sym h ∙ rw (eq-eqb v.hi 0 a, eq-eqb v.lo 0 b))

-- bytes
module _ (t : ℕ) where
  abbrev bytes_by : Option terms.Term → judgements.Judgement terms.Term
  bytes_by o = elim o [ some w ↦ fine w | none ↦ wrong t integral_too_large ]

bytes_are : (n t : ℕ) (j : judgements.Judgement terms.Term) (p i : ℕ) → as_bytes t (atom p (constant (is_integer i))) ≡ fit n ty_bytes t j (atom p (constant (is_integer i)))
unfolding fit
bytes_are n t j p i = refl

module _ (s : List ℕ) (t : ℕ) {v : Term} {z : prelude.Option Term} (p : Narrow v z) {r : Judged} where
  bytes_by_lem : ((o : Option terms.Term) → z ≡ narrowed_as o → r ≡ judged_as s (bytes_by t o).out) → Unsized s 9 t v r
  bytes_by_lem f =
      record {
        is = λ n ty e o k q h.
            rw (is_bytes ty k)
            (of_unsized (λ e. (z ≡ narrowed_as (narrowed e)) → r ≡ judged_as s (fit n ty_bytes t (judgement o []) e).out) h (λ a i q' g.
            f (narrowed (atom a (constant (is_integer i)))) g
            ∙ ap (λ (y : judgements.Judgement terms.Term). judged_as s y.out) (bytes_are n t (judgement o []) a i)) e q (p.is e q));
      }

  pub bytes_fit : {w : Term} → z ≡ Some w → r ≡ Ok w → Unsized s 9 t v r
  bytes_fit {w} e k = bytes_by_lem by
    where
      by : (o : Option terms.Term) → z ≡ narrowed_as o → r ≡ judged_as s (bytes_by t o).out
      by (some d) g = let q : w ≡ term_as d = cc in k ∙ ap Ok q
      by none g = never (cc)

  pub bytes_large : {tok : Token} → tok ≡ token_as (token_of s t) → z ≡ None → r ≡ Err (Found (at_token tok IntegralTooLarge)) → Unsized s 9 t v r
  bytes_large g e k = bytes_by_lem by
    where
      by : (o : Option terms.Term) → z ≡ narrowed_as o → r ≡ judged_as s (bytes_by t o).out
      by (some d) h = never (cc)
      by none h = k ∙ judged_err s t integral_too_large g refl

-- ---- a value as it is

module _ (s : List ℕ) (wanted : ℕ) {v : Term} (otherwise : Judged) {ty : «Type»} {b : Bool} (p : TypeShown v ty) (f : b ≡ fits_by wanted ty.kind) where
  fits_is : (t : Ty) (e : terms.Term) → wanted ≡ ty_kind t → v ≡ term_as e → b ≡ values.fits t (term_type e)
  fits_is t e k q = f ∙ rw (k, p.is e q) (fits_as t (term_type e))

  pub kept_fits : b ≡ true → Kept s wanted v otherwise (Ok v)
  kept_fits h = record { is = λ t e o k q i. ap Ok q ∙ rw (sym (fits_is t e k q) ∙ h) }

  pub kept_not : b ≡ false → Kept s wanted v otherwise otherwise
  kept_not h = record { is = λ t e o k q i. i ∙ rw (sym (fits_is t e k q) ∙ h) }

-- ---- to a type that is no integer's

-- by what the integer is, if it is one with no size
module _ (t : ℕ) (j : judgements.Judgement terms.Term) (e : terms.Term) where
  abbrev bool_or : Option ℕ → judgements.Judgement terms.Term
  bool_or u = elim u [ some i ↦ as_bool e i | none ↦ as_it_is ty_bool j e ]

  abbrev bytes_or : Option ℕ → judgements.Judgement terms.Term
  bytes_or u = elim u [ some i ↦ as_bytes t e | none ↦ as_it_is ty_bytes j e ]

-- where no integer with no size is made a bool or bytes, a value is taken as it is
fit_plain : (n t : ℕ) (j : judgements.Judgement terms.Term) (e : terms.Term) (ty : Ty) → leb 3 (ty_kind ty) && leb (ty_kind ty) 6 ≡ false
    → (ty_kind ty ≡ 2 → unsized_of e ≡ none) → (ty_kind ty ≡ 9 → unsized_of e ≡ none) → as_it_is ty j e ≡ fit n ty t j e
unfolding fit
fit_plain n t j e (ty_int u) h a b = absurd (not_int u h)
fit_plain n t j e ty_bool h a b = ap (bool_or t j e) (sym (a refl))
fit_plain n t j e ty_bytes h a b = ap (bytes_or t j e) (sym (b refl))
fit_plain n t j e ty_void h a b = refl
fit_plain n t j e ty_ip4 h a b = refl
fit_plain n t j e ty_sock4 h a b = refl
fit_plain n t j e ty_pkt h a b = refl
fit_plain n t j e ty_pkt_gen h a b = refl
fit_plain n t j e ty_time_jump h a b = refl
fit_plain n t j e (ty_function k) h a b = refl
fit_plain n t j e ty_integer h a b = refl

sized_is : {v : Term} (e : terms.Term) → v ≡ term_as e → is_unsized v ≡ false → unsized_of e ≡ none
sized_is (atom p (constant u)) q h =
    unsized_not u (λ k. false≢true (sym h ∙ ap (λ (w : Term). is_unsized w) q ∙ rw k))
sized_is (atom p (slot i u)) q h = refl
sized_is (called p c f vs) q h = refl
sized_is (divided p a b) q h = refl

module _ (s : List ℕ) (wanted t : ℕ) {v : Term} {otherwise : Judged} {b : Bool} (u : b ≡ is_unsized v) {r : Judged} where
  pub plain_bool : b ≡ true → wanted ≡ 2 → Unsized s 2 t v r → Plain s wanted t v otherwise r
  plain_bool h k g = record { is = λ n ty e o z q i l. g.is n ty e o (sym k ∙ z) q (sym u ∙ h) }

  pub plain_bytes : b ≡ true → wanted ≡ 9 → Unsized s 9 t v r → Plain s wanted t v otherwise r
  plain_bytes h k g = record { is = λ n ty e o z q i l. g.is n ty e o (sym k ∙ z) q (sym u ∙ h) }

  kept_plain : Kept s wanted v otherwise r → ((e : terms.Term) → v ≡ term_as e → wanted ≡ 2 → unsized_of e ≡ none)
      → ((e : terms.Term) → v ≡ term_as e → wanted ≡ 9 → unsized_of e ≡ none) → Plain s wanted t v otherwise r
  kept_plain g a d =
      record {
        is = λ n ty e o z q i l.
            g.is ty e o z q i
            ∙ ap (λ (y : judgements.Judgement terms.Term). judged_as s y.out)
            (fit_plain n t (judgement o []) e ty (rw z at l) (λ k. a e q (z ∙ k)) (λ k. d e q (z ∙ k)));
      }

  pub plain_other : (wanted ≡ 2 → ⊥) → (wanted ≡ 9 → ⊥) → Kept s wanted v otherwise r → Plain s wanted t v otherwise r
  plain_other h k g = kept_plain g (λ e q z. absurd (h z)) (λ e q z. absurd (k z))

  pub plain_sized : b ≡ false → Kept s wanted v otherwise r → Plain s wanted t v otherwise r
  plain_sized h g = kept_plain g (λ e q z. sized_is e q (sym u ∙ h)) (λ e q z. sized_is e q (sym u ∙ h))

-- ---- to the type of a parameter

fit_sized : (n : ℕ) (u : IntType) (t : ℕ) (j : judgements.Judgement terms.Term) (e : terms.Term) → fit n (ty_int u) t j e ≡ narrow_to n u t j e
unfolding fit
fit_sized n u t j e = refl

-- only a type of integers warns
abbrev Quiet : judgements.Judgement terms.Term → Type 0
Quiet j = (j.warns ≡ []) × (j.looks ≡ [])

module _ (n t : ℕ) (o : judgements.Judged terms.Term) (e : terms.Term) where
  kept_quiet : (ty : Ty) → Quiet (as_it_is ty (judgement o []) e)
  kept_quiet ty = each_side Quiet (values.fits ty (term_type e)) {a = fine e} {b = judgement o []} (refl, refl) (refl, refl)

  bool_quiet : (u : Option ℕ) → Quiet (bool_or t (judgement o []) e u)
  bool_quiet (some i) = (refl, refl)
  bool_quiet none = kept_quiet ty_bool

  large_quiet : (u : Option terms.Term) → Quiet (bytes_by t u)
  large_quiet (some w) = (refl, refl)
  large_quiet none = (refl, refl)

  bytes_quiet : (u : Option ℕ) → Quiet (bytes_or t (judgement o []) e u)
  bytes_quiet (some i) = large_quiet (narrowed e)
  bytes_quiet none = kept_quiet ty_bytes

  fit_quiet : (ty : Ty) → leb 3 (ty_kind ty) && leb (ty_kind ty) 6 ≡ false → Quiet (fit n ty t (judgement o []) e)
  unfolding fit
  fit_quiet (ty_int u) h = absurd (not_int u h)
  fit_quiet ty_bool h = bool_quiet (unsized_of e)
  fit_quiet ty_bytes h = bytes_quiet (unsized_of e)
  fit_quiet ty_void h = kept_quiet ty_void
  fit_quiet ty_ip4 h = kept_quiet ty_ip4
  fit_quiet ty_sock4 h = kept_quiet ty_sock4
  fit_quiet ty_pkt h = kept_quiet ty_pkt
  fit_quiet ty_pkt_gen h = kept_quiet ty_pkt_gen
  fit_quiet ty_time_jump h = kept_quiet ty_time_jump
  fit_quiet (ty_function k) h = kept_quiet (ty_function k)
  fit_quiet ty_integer h = kept_quiet ty_integer

module _ (s : List ℕ) (wanted t : ℕ) {v : Term} {otherwise : Judged} {c : Counts} {x : List ℕ} {r : Judgement} where
  pub fit_int : {y : List ℕ} → leb 3 wanted && leb wanted 6 ≡ true → Narrows s wanted t v otherwise c x r y → Fits s wanted t v otherwise c x r y
  fit_int {y} h g =
      record {
        is = λ n ty e o m z q i.
            let u = is_int ty (rw z at h) in
            rw (u.1, fit_sized n u.0 t (judgement o []) e) (g.is n u.0 e o m (z ∙ ap ty_kind u.1) q i);
      }

  pub fit_other : leb 3 wanted && leb wanted 6 ≡ false → Plain s wanted t v otherwise r.out → r.counts ≡ c → Fits s wanted t v otherwise c x r x
  fit_other h g k =
      record {
        is = λ n ty e o m z q i.
            let w = fit_quiet n t o e ty (rw z at h) in
            quiet s _ (g.is n ty e o z q i h) k w.0 w.1;
      }

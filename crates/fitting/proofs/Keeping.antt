-- What fitting keeps of a value: its place and its parts. It adds one warning at the most, and looks for no name.
use Prim.Native.Nat.{ℕ, ◌≤◌}
use mathlib.Core.Path.{◌≡◌, refl, sym}
use mathlib.Core.Bool.{Bool, true, false}
use mathlib.Core.List.{List, [], ◌∷◌}
use mathlib.Core.Option.{Option, none, some}
use native.Mathlib.Omega.{arith}
use lib.Dec.{ltb}
use lib.ListN.{length}
use Rattle.language.specs.Choice.{if'}
use Rattle.language.specs.Integers.{IntType, bits, smallest, low_bits, is_truncated}
use Rattle.language.specs.Values.{Value, is_sized, Ty, ty_void, ty_bool, ty_int, ty_ip4, ty_sock4, ty_bytes, ty_pkt, ty_pkt_gen, ty_time_jump, ty_function, ty_integer, bits_of, is_integral, fits}
use Rattle.language.specs.Terms.{Atom, constant, Term, atom, called, divided, term_at, term_type, constant_of}
use Rattle.language.specs.Judgements.{What, Diag, Judged, val, err, Judgement, judgement, fine, wrong, integral_too_large, integer_of, unsized_of, narrowed, cut, widened, as_bool, as_bytes, as_it_is, narrow_to, fit}
use Rattle.language.specs.Findings.{parts}
use Rattle.language.proofs.Tests.{never, each_side}

-- what a value e that is fitted comes to, where what fits not comes to o
data Comes (o : Judged Term) (e : Term) : Judgement Term → Type 0 where
  as_it_was : (ws : List Diag) → length ws ≤ 1 → Comes o e (judgement (val e) ws)
  -- a constant in the place of one
  another : (a : Atom) (ws : List Diag) → parts e ≡ [] → length ws ≤ 1 → Comes o e (judgement (val (atom (term_at e) a)) ws)
  failed : (at : ℕ) (w : What) → Comes o e (judgement (err at w) [])
  other : Comes o e (judgement o [])

-- a constant has no parts
no_parts : (e : Term) {v : Value} → constant_of e ≡ some v → parts e ≡ []
unfolding parts
no_parts (atom p a) q = refl
no_parts (called p c f vs) q = never (cc)
no_parts (divided p a b) q = never (cc)

one_or_none : (b : Bool) (d : Diag) → length (if' b (d ∷ []) []) ≤ 1
one_or_none true d = omega arith
one_or_none false d = omega arith

module _ (n : ℕ) (at : ℕ) (o : Judged Term) (e : Term) where
  narrow_comes : (t : IntType) → Comes o e (narrow_to n t at (judgement o []) e)
  unfolding narrow_to
  narrow_comes t = by (constant_of e) refl
    where
      whole : (c : Option ℕ) → parts e ≡ [] → Comes o e (elim c [
        | some m ↦ judgement (val (atom (term_at e) (constant (is_sized t (low_bits t m))))) (cut n at t m)
        | none ↦ judgement o []
      ])
      whole (some m) h = another (constant (is_sized t (low_bits t m))) (cut n at t m) h (one_or_none (is_truncated t m) _)
      whole none h = other

      by : (c : Option Value) → constant_of e ≡ c → Comes o e (elim c [
        | some c ↦ elim (integer_of c) [
          | some m ↦ judgement (val (atom (term_at e) (constant (is_sized t (low_bits t m))))) (cut n at t m)
          | none ↦ judgement o []
        ]
        | none ↦ if' (is_integral (term_type e)) (judgement (val e) (widened n at t (term_type e))) (judgement o [])
      ])
      by (some c) q = whole (integer_of c) (no_parts e q)
      by none q = each_side (Comes o e) (is_integral (term_type e)) (as_it_was (widened n at t (term_type e)) (one_or_none (ltb (bits t) (bits_of (term_type e))) _)) other

  kept_comes : (t : Ty) → Comes o e (as_it_is t (judgement o []) e)
  kept_comes t = each_side (Comes o e) (fits t (term_type e)) (as_it_was [] (omega arith)) other

  -- an integer with no size is a constant
  unsized_parts : (c : Option Value) (i : ℕ) → constant_of e ≡ c → unsized_of e ≡ some i → parts e ≡ []
  unsized_parts (some v) i q h = no_parts e q
  unsized_parts none i q h = never (cc)

  abbrev sized_to : ℕ → Option IntType → Option Term
  sized_to i u = elim u [ some t ↦ some (atom (term_at e) (constant (is_sized t i))) | none ↦ none ]

  abbrev narrowed_by : Option ℕ → Option Term
  narrowed_by u = elim u [ some i ↦ sized_to i (smallest i) | none ↦ some e ]

  abbrev bytes_by : Option Term → Judgement Term
  bytes_by u = elim u [ some w ↦ fine w | none ↦ wrong at integral_too_large ]

  bytes_comes : parts e ≡ [] → Comes o e (as_bytes at e)
  unfolding narrowed
  bytes_comes h = by (unsized_of e)
    where
      sized : (i : ℕ) (u : Option IntType) → Comes o e (bytes_by (sized_to i u))
      sized i (some t) = another (constant (is_sized t i)) [] h (omega arith)
      sized i none = failed at integral_too_large

      by : (u : Option ℕ) → Comes o e (bytes_by (narrowed_by u))
      by (some i) = sized i (smallest i)
      by none = as_it_was [] (omega arith)

  fit_comes : (t : Ty) → Comes o e (fit n t at (judgement o []) e)
  unfolding fit
  fit_comes (ty_int t) = narrow_comes t
  fit_comes ty_bool = by (unsized_of e) refl
    where
      by : (u : Option ℕ) → unsized_of e ≡ u → Comes o e (elim u [ some i ↦ as_bool e i | none ↦ as_it_is ty_bool (judgement o []) e ])
      by (some i) q = another _ [] (unsized_parts (constant_of e) i refl q) (omega arith)
      by none q = kept_comes ty_bool
  fit_comes ty_bytes = by (unsized_of e) refl
    where
      by : (u : Option ℕ) → unsized_of e ≡ u → Comes o e (elim u [ some i ↦ as_bytes at e | none ↦ as_it_is ty_bytes (judgement o []) e ])
      by (some i) q = bytes_comes (unsized_parts (constant_of e) i refl q)
      by none q = kept_comes ty_bytes
  fit_comes ty_void = kept_comes ty_void
  fit_comes ty_ip4 = kept_comes ty_ip4
  fit_comes ty_sock4 = kept_comes ty_sock4
  fit_comes ty_pkt = kept_comes ty_pkt
  fit_comes ty_pkt_gen = kept_comes ty_pkt_gen
  fit_comes ty_time_jump = kept_comes ty_time_jump
  fit_comes (ty_function k) = kept_comes (ty_function k)
  fit_comes ty_integer = kept_comes ty_integer

-- ---- what that says

keeps : {p : ℕ} {w : What} {e d : Term} {j : Judgement Term} → Comes (err p w) e j → j.out ≡ val d → (parts d ≡ parts e) × (term_at d ≡ term_at e)
unfolding parts
keeps {e = e} {d} (as_it_was ws l) q = let z : e ≡ d = cc in rw z (refl, refl)
keeps {e = e} {d} (another a ws h l) q = let z : atom (term_at e) a ≡ d = cc in rw (← z) (sym h, refl)
keeps (failed at v) q = never (cc)
keeps other q = never (cc)

few : {o : Judged Term} {e : Term} {j : Judgement Term} → Comes o e j → length j.warns ≤ 1
few (as_it_was ws l) = l
few (another a ws h l) = l
few (failed at v) = omega arith
few other = omega arith

still : {o : Judged Term} {e : Term} {j : Judgement Term} → Comes o e j → j.looks ≡ []
still (as_it_was ws l) = refl
still (another a ws h l) = refl
still (failed at v) = refl
still other = refl

module _ (n : ℕ) (at : ℕ) where
  pub narrow_keeps : (t : IntType) (p : ℕ) (w : What) (e : Term) {d : Term} → (narrow_to n t at (wrong p w) e).out ≡ val d
      → (parts d ≡ parts e) × (term_at d ≡ term_at e)
  narrow_keeps t p w e q = keeps (narrow_comes n at (err p w) e t) q

  pub fit_keeps : (t : Ty) (p : ℕ) (w : What) (e : Term) {d : Term} → (fit n t at (wrong p w) e).out ≡ val d
      → (parts d ≡ parts e) × (term_at d ≡ term_at e)
  fit_keeps t p w e q = keeps (fit_comes n at (err p w) e t) q

  module _ (o : Judged Term) (e : Term) where
    pub narrow_few : (t : IntType) → length (narrow_to n t at (judgement o []) e).warns ≤ 1
    narrow_few t = few (narrow_comes n at o e t)

    pub fit_few : (t : Ty) → length (fit n t at (judgement o []) e).warns ≤ 1
    fit_few t = few (fit_comes n at o e t)

    pub narrow_looks : (t : IntType) → (narrow_to n t at (judgement o []) e).looks ≡ []
    narrow_looks t = still (narrow_comes n at o e t)

    pub fit_looks : (t : Ty) → (fit n t at (judgement o []) e).looks ≡ []
    fit_looks t = still (fit_comes n at o e t)

-- Number 8 is given exactly where a call with a named argument is met.
use Prim.Native.Nat.{ℕ, zero, suc, ◌+◌}
use mathlib.Core.Path.{◌≡◌, refl}
use mathlib.Core.Bool.{Bool, true, false}
use mathlib.Core.List.{List, [], ◌∷◌}
use mathlib.Core.Option.{Option, none, some}
use mathlib.Core.Logic.{◌⊎◌, inl, inr}
use native.Mathlib.Omega.{arith}
use borrow.Author.Tests.{ltb-true, lt-ltb, eqb-true}
use lib.Dec.{ltb}
use lib.ListN.{length}
use Rattle.language.specs.Choice.{if'}
use Rattle.language.specs.Integers.{u8, u16, u32, u64}
use Rattle.language.specs.Tokens.{Content}
use Rattle.language.specs.Sentences.{Expr, literal, sock4, local, path, member, call, slash', Args, none_given, given, named, Stmt, import', let', expr', first_of}
use Rattle.language.specs.Values.{Value, Ty, ty_void, ty_bool, ty_int, ty_ip4, ty_sock4, ty_bytes, ty_pkt, ty_pkt_gen, ty_time_jump, ty_function, ty_integer, ty_kind, same_ty, entry_at, lookup}
use Rattle.language.specs.Terms.{Atom, Term, atom, called, term_at, term_type, atom_of, function_of}
use Rattle.language.specs.Judgements.{named_number, names_number, void_value, unknown_item, operand_type, left, Diag, Judged, val, err, poisoned, stopped, Judgement, fine, wrong, and_then, goes_on, Known, known, Import, Binding, Held, Turn, goes, refuses, refused, find, find_import, most_imports, most_names, name_at, narrowed, last_item, inner_item, walk, below, bound_to, used, Arg, next_arg, any_named, called_name, bind_all, of_function, applied, left_operand, right_operand, over, judge, judge_args, imported, import_stmt, bound_as, bound, let_stmt, sized, told, stmt, onward, run}
use Rattle.language.specs.Named.{IsFunction, Judges, itself, object, left_operand_lem, right_operand_lem, callee, argument, JudgesArg, last, before, Met, Reaches, here, next, Holds, of_expr, of_let, StopsWhere, NamedRefused}
use Rattle.language.proofs.Tests.{never, each_side}
use Rattle.language.proofs.Each.{Each}
use Rattle.language.proofs.Judging.{Rules, Fine, alone, then_fine, Given, used_fine, narrow_fine, bind_all_fine, membered_fine}

-- ---- what never stops

abbrev pub Goes : {A : Type 0} → Judgement A → Type 0
Goes {A} j = Fine (λ at w. Unit {0}) (λ t. ⊥) (λ d. Unit {0}) {A = A} (λ v. Unit {0}) j

pub goes_on_lem : {A : Type 0} (j : Judgement A) (t : ℕ) → Goes j → j.out ≡ stopped t → ⊥
goes_on_lem j t h e = rw e at h.out

pub anything : (n : ℕ) → Rules n (λ t. Unit {0}) (λ v. Unit {0}) (λ at w. Unit {0}) (λ d. Unit {0}) (λ f. Unit {0})
anything n =
    record {
      place = λ v h. tt;
      sized = λ p t i h. tt;
      bool = λ p b h. tt;
      sock = λ p i j h. tt;
      called = λ p c f vs h i j k. tt;
      divided = λ p a b h i j. tt;
      function = λ c f h e. tt;
      cut = λ p t i h. tt;
      wide = λ p v t h i. tt;
      void = λ p h. tt;
      large = λ p h. tt;
      many = λ p f a b h i. tt;
      few = λ p f a b h i. tt;
      argument = λ p f i v h j k l. tt;
      no_function = λ p v h i. tt;
      no_members_lem = λ p v h i. tt;
      left_type = λ p v h i. tt;
      right_type = λ p v h i. tt;
    }

-- ---- one after the other

module _ {A B : Type 0} (j : Judgement A) (f : A → Judgement B) (t : ℕ) where
  pub then_stopped : (and_then j f).out ≡ stopped t → (j.out ≡ stopped t) ⊎ ((v : A) × (j.out ≡ val v) × ((f v).out ≡ stopped t))
  unfolding and_then
  then_stopped e = by j.out refl e
    where
      by : (o : Judged A) → j.out ≡ o → (goes_on o j.warns j.looks f).out ≡ stopped t
          → (j.out ≡ stopped t) ⊎ ((v : A) × (j.out ≡ val v) × ((f v).out ≡ stopped t))
      by (val v) q d = inr (v, q, d)
      by (err at w) q d = never (cc)
      by poisoned q d = never (cc)
      by (stopped u) q d = let z : u ≡ t = cc in inl (rw z at q)

  stops_first : j.out ≡ stopped t → (and_then j f).out ≡ stopped t
  unfolding and_then
  stops_first e = rw e

  stops_then : (v : A) → j.out ≡ val v → (f v).out ≡ stopped t → (and_then j f).out ≡ stopped t
  unfolding and_then
  stops_then v e d = rw e d

abbrev out_of : Judgement Term → Judged Term
out_of j = j.out

-- ---- values that are used

used_val : (v w : Term) → (used v).out ≡ val w → v ≡ w
unfolding used
used_val v w e = by (same_ty ty_void (term_type v)) e
  where
    by : (b : Bool) → out_of (if' b (wrong (term_at v) void_value) (fine v)) ≡ val w → v ≡ w
    by true d = never (cc)
    by false d = cc

use_val : (v : Term) → same_ty ty_void (term_type v) ≡ false → (used v).out ≡ val v
unfolding used
use_val v e = rw e

-- a function is not void, nor is an address
function_used : (t : Ty) (f : ℕ) → function_of t ≡ some f → same_ty ty_void t ≡ false
function_used (ty_function k) f e = refl
function_used ty_void f e = never (cc)
function_used ty_bool f e = refl
function_used (ty_int u8) f e = refl
function_used (ty_int u16) f e = refl
function_used (ty_int u32) f e = refl
function_used (ty_int u64) f e = refl
function_used ty_ip4 f e = refl
function_used ty_sock4 f e = refl
function_used ty_bytes f e = refl
function_used ty_pkt f e = refl
function_used ty_pkt_gen f e = refl
function_used ty_time_jump f e = refl
function_used ty_integer f e = refl

address_used : (t : Ty) → same_ty ty_ip4 t ≡ true → same_ty ty_void t ≡ false
address_used t e = let k : 7 ≡ ty_kind t = eqb-true 7 (ty_kind t) e in rw (← k)

all_given : (gs : List Arg) → Each (Given (λ t. Unit {0}) (λ v. Unit {0})) gs
all_given gs = record { holds = λ a m. (tt, tt) }

module _ (n : ℕ) where
  pub used_goes : (v : Term) → Goes (used v)
  used_goes v = used_fine (anything n) v tt

  left_goes : (v : Term) → Goes (left_operand v)
  left_goes v =
      each_side Goes (same_ty ty_ip4 (term_type v)) (alone _ _ _ tt) (alone _ _ _ tt)

  left_val : (v w : Term) → (left_operand v).out ≡ val w → (v ≡ w) × (same_ty ty_ip4 (term_type v) ≡ true)
  left_val v w e = by (same_ty ty_ip4 (term_type v)) refl e
    where
      by : (b : Bool) → same_ty ty_ip4 (term_type v) ≡ b
          → out_of (if' b (fine v) (wrong (term_at v) (operand_type left ty_ip4 (term_type v)))) ≡ val w
          → (v ≡ w) × (same_ty ty_ip4 (term_type v) ≡ true)
      by true q d = (cc, q)
      by false q d = never (cc)

  -- ---- the forms

  pub over_stopped : (at p : ℕ) (j : Judgement Term) (a : Term) (t : ℕ) → (over n at p j a).out ≡ stopped t
      → (j.out ≡ stopped t) × (same_ty ty_ip4 (term_type a) ≡ true)
  unfolding over
  over_stopped at p j a t e =
      elim (then_stopped (used a) _ t e) [
        | inl d ↦ absurd (goes_on_lem (used a) t (used_goes a) d)
        | inr d ↦ elim (then_stopped (left_operand d.0) _ t d.2) [
          | inl c ↦ absurd (goes_on_lem (left_operand d.0) t (left_goes d.0) c)
          | inr c ↦
              let same = used_val a d.0 d.1 in
              let ip = (left_val d.0 c.0 c.1).1 in
              elim (then_stopped j _ t c.2) [
                | inl b ↦ (b, rw same ip)
                | inr b ↦ absurd (goes_on_lem _ t (then_fine _ _ _ (used b.0) _ (used_goes b.0) (λ w h.
                    then_fine _ _ _ (right_operand n p w) _ (narrow_fine (anything n) _ p _ w tt tt (alone _ _ _ tt)) (λ port i. alone _ _ _ tt))) b.2)
              ]
        ]
      ]

  pub applied_stopped : (at p : ℕ) (g : Args) (j : Judgement (List Arg)) (c : Term) (t : ℕ) → (applied n at p g j c).out ≡ stopped t
      → (f : ℕ) × (function_of (term_type c) ≡ some f) × (((any_named g ≡ true) × (p ≡ t)) ⊎ ((any_named g ≡ false) × (j.out ≡ stopped t)))
  unfolding applied
  applied_stopped at p g j c t e =
      elim (then_stopped (used c) _ t e) [
        | inl d ↦ absurd (goes_on_lem (used c) t (used_goes c) d)
        | inr d ↦ let same = used_val c d.0 d.1 in rw same (by d.0 (function_of (term_type d.0)) refl d.2)
      ]
    where
      bound : (d : Term) (f : ℕ) → (and_then j (λ gs. and_then (bind_all n at f gs) (λ vs. fine (called at d f vs)))).out ≡ stopped t → j.out ≡ stopped t
      bound d f q =
          elim (then_stopped j _ t q) [
            | inl b ↦ b
            | inr b ↦ absurd (goes_on_lem _ t (then_fine _ _ _ (bind_all n at f b.0) _ (bind_all_fine (anything n) at f b.0 tt tt (all_given b.0)) (λ vs i. alone _ _ _ tt)) b.2)
          ]

      named_or : (d : Term) (f : ℕ) (b : Bool) → any_named g ≡ b
          → out_of (if' b (record { out = stopped p; warns = []; looks = [] }) (and_then j (λ gs. and_then (bind_all n at f gs) (λ vs. fine (called at d f vs))))) ≡ stopped t
          → ((any_named g ≡ true) × (p ≡ t)) ⊎ ((any_named g ≡ false) × (j.out ≡ stopped t))
      named_or d f true q x = inl (q, cc)
      named_or d f false q x = inr (q, bound d f x)

      by : (d : Term) (o : Option ℕ) → function_of (term_type d) ≡ o → (of_function n at p g j d o).out ≡ stopped t
          → (f : ℕ) × (function_of (term_type d) ≡ some f) × (((any_named g ≡ true) × (p ≡ t)) ⊎ ((any_named g ≡ false) × (j.out ≡ stopped t)))
      by d none q x = never (cc)
      by d (some f) q x = (f, q, named_or d f (any_named g) refl x)

module _ (ts : List Content) (n : ℕ) (k : Known) where
  -- ---- names and paths never stop

  abbrev pub Unstopped : Judged Term → Type 0
  Unstopped (val v) = Unit {0}
  Unstopped (err at w) = Unit {0}
  Unstopped poisoned = Unit {0}
  Unstopped (stopped t) = ⊥

  pub unstopped : (o : Judged Term) (t : ℕ) → Unstopped o → o ≡ stopped t → ⊥
  unstopped o t h e = rw e at h

  pub bound_goes : (t : ℕ) (o : Option Binding) → Unstopped (bound_to ts t o)
  bound_goes t none = tt
  bound_goes t (some b) = elim b.value as (λ o. Unstopped (elim o [ some a ↦ val (atom t a) | none ↦ poisoned ])) [ some a ↦ tt | none ↦ tt ]

  last_goes : (p t : ℕ) (o : Option Value) → Unstopped (last_item ts p t o)
  last_goes p t (some v) = tt
  last_goes p t none = tt

  inner_goes : (t : ℕ) (o : Option Value) (j : Judged Term) → Unstopped j → Unstopped (inner_item ts t o j)
  inner_goes t (some v) j h = tt
  inner_goes t none j h = h

  walk_goes : (p i m t : ℕ) → Unstopped (walk ts p i m t)
  unfolding walk
  walk_goes p zero m t = tt
  walk_goes p (suc zero) m t =
      elim (lookup m (name_at ts (t + 2)))
      as (λ o. Unstopped (elim o [ none ↦ err (t + 2) (unknown_item m) | some j ↦ last_item ts p (t + 2) (entry_at j).value ])) [
        | none ↦ tt
        | some j ↦ last_goes p (t + 2) (entry_at j).value
      ]
  walk_goes p (suc (suc i)) m t = by (lookup m (name_at ts (t + 2))) (λ j. walk_goes p (suc i) j (t + 2))
    where
      by : (o : Option ℕ) → ((j : ℕ) → Unstopped (walk ts p (suc i) j (t + 2)))
          → Unstopped (elim o [
            | none ↦ err (t + 2) (unknown_item m)
            | some j ↦ inner_item ts (t + 2) (entry_at j).value (walk ts p (suc i) j (t + 2))
          ])
      by none h = tt
      by (some j) h = inner_goes (t + 2) (entry_at j).value _ (h j)

  pub below_goes : (t m : ℕ) (o : Option Import) → Unstopped (below ts t m o)
  below_goes t m none = tt
  below_goes t m (some i) =
      elim i.found as (λ o. Unstopped (elim o [ none ↦ poisoned | some j ↦ walk ts t m j t ])) [ none ↦ tt | some j ↦ walk_goes t m j t ]

  -- ---- where an expression stops

  -- the same among the arguments of a call
  record MetIn (g : Args) (t : ℕ) : Type 0 where
    callee : Expr
    args : Args
    judged : JudgesArg ts n k g (call callee t args)
    function : IsFunction ts n k callee
    named : any_named args ≡ true

  met_object : {e : Expr} {u t : ℕ} → Met ts n k e t → Met ts n k (member e u) t
  met_object m = record { callee = m.callee; args = m.args; judged = object m.judged; function = m.function; named = m.named }

  met_left : {a b : Expr} {t : ℕ} → Met ts n k a t → Met ts n k (slash' a b) t
  met_left m = record { callee = m.callee; args = m.args; judged = left_operand_lem m.judged; function = m.function; named = m.named }

  met_right : {a b : Expr} {t : ℕ} (v : Term) → (judge ts n k a).out ≡ val v → same_ty ty_ip4 (term_type v) ≡ true → Met ts n k b t
      → Met ts n k (slash' a b) t
  met_right v q i m =
      record { callee = m.callee; args = m.args; judged = right_operand_lem v q i m.judged; function = m.function; named = m.named }

  met_callee : {c : Expr} {u t : ℕ} {g : Args} → Met ts n k c t → Met ts n k (call c u g) t
  met_callee m = record { callee = m.callee; args = m.args; judged = callee m.judged; function = m.function; named = m.named }

  met_argument : {c : Expr} {u t : ℕ} {g : Args} → IsFunction ts n k c → any_named g ≡ false → MetIn g t → Met ts n k (call c u g) t
  met_argument f q m =
      record { callee = m.callee; args = m.args; judged = argument f q m.judged; function = m.function; named = m.named }

  met_last : {g : Args} {e : Expr} {t : ℕ} (vs : List Arg) → (judge_args ts n k g).out ≡ val vs → Met ts n k e t → MetIn (given g e) t
  met_last vs q m = record { callee = m.callee; args = m.args; judged = last vs q m.judged; function = m.function; named = m.named }

  met_before : {g : Args} {e : Expr} {t : ℕ} → MetIn g t → MetIn (given g e) t
  met_before m = record { callee = m.callee; args = m.args; judged = before m.judged; function = m.function; named = m.named }

  pub next_stopped : (at : ℕ) (j : Judgement Term) (gs : List Arg) (t : ℕ) → (next_arg at j gs).out ≡ stopped t → j.out ≡ stopped t
  unfolding next_arg
  next_stopped at j gs t e =
      elim (then_stopped j _ t e) [
        | inl d ↦ d
        | inr d ↦ absurd (goes_on_lem _ t (then_fine _ _ _ (used d.0) _ (used_goes n d.0) (λ w h. alone _ _ _ tt)) d.2)
      ]

  mutual
    unfolding judge judge_args

    stop_met : (e : Expr) (t : ℕ) → (judge ts n k e).out ≡ stopped t → Met ts n k e t
    stop_met (literal u) t e = never (cc)
    stop_met (sock4 u) t e = never (cc)
    stop_met (local u) t e = absurd (unstopped _ t (bound_goes u (find k.bindings (name_at ts u))) e)
    stop_met (path u m) t e = absurd (unstopped _ t (below_goes u m (find_import k.imports (name_at ts u))) e)
    stop_met (member o u) t e =
        elim (then_stopped (judge ts n k o) _ t e) [
          | inl d ↦ met_object (stop_met o t d)
          | inr d ↦ absurd (goes_on_lem _ t (membered_fine (anything n) u d.0 tt tt) d.2)
        ]
    stop_met (slash' a b) t e =
        elim (then_stopped (judge ts n k a) _ t e) [
          | inl d ↦ met_left (stop_met a t d)
          | inr d ↦
              let x = over_stopped n (first_of a) (first_of b) (judge ts n k b) d.0 t d.2 in
              met_right d.0 d.1 x.1 (stop_met b t x.0)
        ]
    stop_met (call c u g) t e =
        elim (then_stopped (judge ts n k c) _ t e) [
          | inl d ↦ met_callee (stop_met c t d)
          | inr d ↦
              let x = applied_stopped n (called_name c) u g (judge_args ts n k g) d.0 t d.2 in
              let f : IsFunction ts n k c = record { value = d.0; entry = x.0; judged = d.1; function = x.1 } in
              elim x.2 [
                | inl y ↦ rw y.1 (record { callee = c; args = g; judged = itself; function = f; named = y.0 })
                | inr y ↦ met_argument f y.0 (stop_in g t y.0 y.1)
              ]
        ]

    stop_in : (g : Args) (t : ℕ) → any_named g ≡ false → (judge_args ts n k g).out ≡ stopped t → MetIn g t
    stop_in none_given t q e = never (cc)
    stop_in (given g a) t q e =
        elim (then_stopped (judge_args ts n k g) _ t e) [
          | inl d ↦ met_before (stop_in g t q d)
          | inr d ↦ met_last d.0 d.1 (stop_met a t (next_stopped (first_of a) (judge ts n k a) d.0 t d.2))
        ]
    stop_in (named g u a) t q e = never (cc)

  -- ---- and the other way

  over_stops : (at p : ℕ) (j : Judgement Term) (v : Term) (t : ℕ) → same_ty ty_ip4 (term_type v) ≡ true → j.out ≡ stopped t
      → (over n at p j v).out ≡ stopped t
  unfolding over
  over_stops at p j v t h e =
      stops_then (used v) _ t v (use_val v (address_used (term_type v) h))
      (stops_then (left_operand v) _ t v (rw h) (stops_first j _ t e))

  applied_stops : (at p : ℕ) (g : Args) (j : Judgement (List Arg)) (v : Term) (f t : ℕ) → function_of (term_type v) ≡ some f
      → ((any_named g ≡ true) × (p ≡ t)) ⊎ ((any_named g ≡ false) × (j.out ≡ stopped t)) → (applied n at p g j v).out ≡ stopped t
  unfolding applied
  applied_stops at p g j v f t q h =
      stops_then (used v) _ t v (use_val v (function_used (term_type v) f q)) (rw q (by h))
    where
      by : ((any_named g ≡ true) × (p ≡ t)) ⊎ ((any_named g ≡ false) × (j.out ≡ stopped t)) → (of_function n at p g j v (some f)).out ≡ stopped t
      by (inl x) = rw (x.0, x.1)
      by (inr x) = rw x.0 (stops_first j _ t x.1)

  next_stops : (at : ℕ) (j : Judgement Term) (gs : List Arg) (t : ℕ) → j.out ≡ stopped t → (next_arg at j gs).out ≡ stopped t
  unfolding next_arg
  next_stops at j gs t e = stops_first j _ t e

  mutual
    unfolding judge judge_args

    passes : {e x : Expr} (t : ℕ) → Judges ts n k e x → (judge ts n k x).out ≡ stopped t → (judge ts n k e).out ≡ stopped t
    passes t itself h = h
    passes t (object {e = e} d) h = stops_first (judge ts n k e) _ t (passes t d h)
    passes t (left_operand_lem {a = a} d) h = stops_first (judge ts n k a) _ t (passes t d h)
    passes t (right_operand_lem {a = a} {b} v q i d) h =
        stops_then (judge ts n k a) _ t v q (over_stops (first_of a) (first_of b) (judge ts n k b) v t i (passes t d h))
    passes t (callee {c = c} d) h = stops_first (judge ts n k c) _ t (passes t d h)
    passes t (argument {c = c} {t = u} {g} f q d) h =
        stops_then (judge ts n k c) _ t f.value f.judged
        (applied_stops (called_name c) u g (judge_args ts n k g) f.value f.entry t f.function (inr (q, passes_arg t d h)))

    passes_arg : {g : Args} {x : Expr} (t : ℕ) → JudgesArg ts n k g x → (judge ts n k x).out ≡ stopped t → (judge_args ts n k g).out ≡ stopped t
    passes_arg t (last {g = g} {e} vs q d) h =
        stops_then (judge_args ts n k g) _ t vs q (next_stops (first_of e) (judge ts n k e) vs t (passes t d h))
    passes_arg t (before {g = g} d) h = stops_first (judge_args ts n k g) _ t (passes_arg t d h)

  met_stops : (e : Expr) (t : ℕ) → Met ts n k e t → (judge ts n k e).out ≡ stopped t
  unfolding judge
  met_stops e t m =
      let f = m.function in
      passes t m.judged
      (stops_then (judge ts n k m.callee) _ t f.value f.judged
      (applied_stops (called_name m.callee) t m.args (judge_args ts n k m.args) f.value f.entry t f.function (inl (m.named, refl))))

pub stops_where : StopsWhere
stops_where ts n k e t = (stop_met ts n k e t, met_stops ts n k e t)

-- ---- statements

-- a refusal that is not 8
abbrev NotNamed : Turn → Type 0
NotNamed (goes k ds hs ls) = Unit {0}
NotNamed (refuses m t) = m ≡ names_number

not_named : (o : Turn) (t : ℕ) → NotNamed o → o ≡ refuses named_number t → ⊥
not_named o t h e = let z : named_number ≡ names_number = rw e at h in omega (arith, z)

module _ (ts : List Content) (n : ℕ) (k : Known) where
  imported_not : (t : ℕ) (o : Option ℕ) → NotNamed (imported ts n k t o)
  imported_not t (some m) = tt
  imported_not t none = tt

  import_not : (t : ℕ) (o : Option Import) → NotNamed (import_stmt ts n k t o)
  import_not t (some i) = tt
  import_not t none = each_side NotNamed (ltb (length k.imports) most_imports) (imported_not t (lookup 0 (name_at ts t))) refl

  as_not : (t : ℕ) (v : Term) (o : Option Atom) (ws : List Diag) (ls : List ℕ) → NotNamed (bound_as ts n k t v o ws ls)
  as_not t v (some a) ws ls = tt
  as_not t v none ws ls = tt

  bound_stopped : (t : ℕ) (o : Judged Term) (ws : List Diag) (ls : List ℕ) (u : ℕ) → bound ts n k t o ws ls ≡ refuses named_number u → o ≡ stopped u
  bound_stopped t (val v) ws ls u e = absurd (not_named _ u (as_not t v (atom_of v) ws ls) e)
  bound_stopped t (err at w) ws ls u e = never (cc)
  bound_stopped t poisoned ws ls u e = never (cc)
  bound_stopped t (stopped p) ws ls u e = cc

  sized_not : (at : ℕ) (o : Option Term) (ws : List Diag) (ls : List ℕ) → NotNamed (sized ts n k at o ws ls)
  sized_not at (some v) ws ls = tt
  sized_not at none ws ls = tt

  told_stopped : (at : ℕ) (o : Judged Term) (ws : List Diag) (ls : List ℕ) (u : ℕ) → told ts n k at o ws ls ≡ refuses named_number u → o ≡ stopped u
  told_stopped at (val v) ws ls u e = absurd (not_named _ u (sized_not at (narrowed v) ws ls) e)
  told_stopped at (err p w) ws ls u e = never (cc)
  told_stopped at poisoned ws ls u e = never (cc)
  told_stopped at (stopped p) ws ls u e = cc

  value_stopped : (e : Expr) (t : ℕ) → (and_then (judge ts n k e) used).out ≡ stopped t → (judge ts n k e).out ≡ stopped t
  value_stopped e t q =
      elim (then_stopped (judge ts n k e) _ t q) [ inl d ↦ d | inr d ↦ absurd (goes_on_lem _ t (used_goes n d.0) d.2) ]

  abbrev pub Stopping : Stmt → ℕ → Type 0
  Stopping s t = (e : Expr) × Holds ts k s e × ((judge ts n k e).out ≡ stopped t)

  let_stopped : (t : ℕ) (e : Expr) (l : ℕ) (o : Option Binding) (u : ℕ) → find k.bindings (name_at ts t) ≡ o
      → let_stmt ts n k t e l o ≡ refuses named_number u → Stopping (let' t e) u
  let_stopped t e l (some b) u q d = never (cc)
  let_stopped t e l none u q d = by (ltb (length k.bindings) most_names) refl d
    where
      by : (b : Bool) → ltb (length k.bindings) most_names ≡ b
          → (let j = and_then (judge ts n k e) used in if' b (bound ts n k t j.out j.warns (l ∷ j.looks)) (refuses names_number t)) ≡ refuses named_number u
          → Stopping (let' t e) u
      by true r x =
          (e, of_let q (ltb-true (length k.bindings) most_names r), value_stopped e u (bound_stopped t _ _ _ u x))
      by false r x = absurd (not_named (refuses names_number t) u refl x)

  pub stmt_stopped : (s : Stmt) (t : ℕ) → stmt ts n k s ≡ refuses named_number t → Stopping s t
  unfolding stmt
  stmt_stopped (import' u) t e = absurd (not_named _ t (import_not u (find_import k.imports (name_at ts u))) e)
  stmt_stopped (let' u x) t e = let_stopped u x _ (find k.bindings (name_at ts u)) t refl e
  stmt_stopped (expr' x) t e = (x, of_expr, told_stopped (first_of x) _ _ _ t e)

  stmt_stops : (s : Stmt) (e : Expr) (t : ℕ) → Holds ts k s e → (judge ts n k e).out ≡ stopped t → stmt ts n k s ≡ refuses named_number t
  unfolding stmt
  stmt_stops s e t of_expr q = rw q
  stmt_stops s e t (of_let f l) q =
      let v : (and_then (judge ts n k e) used).out ≡ stopped t = stops_first (judge ts n k e) _ t q in
      rw (f, lt-ltb (length k.bindings) most_names l, v)

-- ---- the run

module _ (ts : List Content) where
  record Stops (n : ℕ) (k : Known) (ss : List Stmt) (t : ℕ) : Type 0 where
    number : ℕ
    known' : Known
    this : Stmt
    after : List Stmt
    reached : Reaches ts n k ss number known' (this ∷ after)
    stopping : Stopping ts number known' this t

  run_stops : (ss : List Stmt) (n : ℕ) (k : Known) (ds : List Diag) (hs : List Held) (ls : List ℕ) (t : ℕ)
      → run ts ss n k ds hs ls ≡ refused named_number t → Stops n k ss t
  unfolding run
  run_stops [] n k ds hs ls t e = never (cc)
  run_stops (s ∷ ss) n k ds hs ls t e = by (stmt ts n k s) refl e (λ k' es gs ms. run_stops ss (suc n) k' es gs ms t)
    where
      by : (o : Turn) → stmt ts n k s ≡ o → onward ts o ds hs ls (λ k' es gs ms. run ts ss (suc n) k' es gs ms) ≡ refused named_number t
          → ((k' : Known) (es : List Diag) (gs : List Held) (ms : List ℕ) → run ts ss (suc n) k' es gs ms ≡ refused named_number t → Stops (suc n) k' ss t)
          → Stops n k (s ∷ ss) t
      by (goes k' es gs ms) q d rest =
          let r = rest k' _ _ _ d in
          record { number = r.number; known' = r.known'; this = r.this; after = r.after; reached = next q r.reached; stopping = r.stopping }
      by (refuses m u) q d rest =
          let x : m ≡ named_number = cc in
          let y : u ≡ t = cc in
          record { number = n; known' = k; this = s; after = ss; reached = here; stopping = stmt_stopped ts n k s t (rw (x, y) at q) }

  reached_stops : {n m : ℕ} {k j : Known} {ss rs : List Stmt} (this : Stmt) (after : List Stmt) (t : ℕ) → Reaches ts n k ss m j rs
      → rs ≡ this ∷ after → stmt ts m j this ≡ refuses named_number t → (ds : List Diag) (hs : List Held) (ls : List ℕ)
      → run ts ss n k ds hs ls ≡ refused named_number t
  unfolding run
  reached_stops this after t here q e ds hs ls = rw (q, e)
  reached_stops this after t (next d r) q e ds hs ls = rw d (reached_stops this after t r q e _ _ _)

pub named_refused : NamedRefused
named_refused ts ss t = (
  λ e. let r = run_stops ts ss 1 (known [] [] 0) [] [] [] t e in
      let s = r.stopping in
      record {
        number = r.number;
        before = r.known';
        this = r.this;
        after = r.after;
        reached = r.reached;
        expr = s.0;
        holds = s.1;
        met = stop_met ts r.number r.known' s.0 t s.2;
      },
  λ c. reached_stops ts c.this c.after t c.reached refl
      (stmt_stops ts c.number c.before c.this c.expr t c.holds (met_stops ts c.number c.before c.expr t c.met)) [] [] [],
)

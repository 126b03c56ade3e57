-- What holds of judgements, form by form: of the value that they come to, of an error, of the `(` where they stop, and of each
-- warning. Who uses it says what is to hold (`Rules`), and of which tokens.
use Prim.Native.Nat.{ℕ, suc, ◌+◌, ◌<◌}
use mathlib.Core.Path.{◌≡◌, refl, sym}
use mathlib.Core.Bool.{Bool, false}
use mathlib.Core.List.Memᴰ
use mathlib.Core.List.{List, [], ◌∷◌}
use mathlib.Core.Option.{Option, none, some}
use native.Mathlib.Omega.{arith}
use lib.Dec.{ltb}
use lib.ListN.{length, get_or}
use Rattle.language.specs.Choice.{if'}
use Rattle.language.specs.Integers.{IntType, u16, bits, smallest, low_bits, is_truncated}
use Rattle.language.specs.Sentences.{Args}
use Rattle.language.specs.Values.{Value, is_bool, is_sized, is_sock4, Ty, ty_void, ty_bool, ty_int, ty_ip4, ty_sock4, ty_bytes, ty_pkt, ty_pkt_gen, ty_time_jump, ty_function, ty_integer, same_ty, bits_of, is_integral, fits, Param, param, entry_at}
use Rattle.language.specs.Terms.{constant, Term, atom, called, divided, Terms, no_more, more, term_at, term_type, constant_of, function_of}
use Rattle.language.specs.Judgements.{left, right, What, operand_type, not_callable, too_many_args, too_few_args, arg_type, void_value, integral_too_large, no_members, truncated, overflow, Diag, diag, Judged, val, err, poisoned, stopped, Judgement, judgement, fine, wrong, goes_on, and_then, integer_of, unsized_of, narrowed, used, cut, widened, narrow_to, as_bool, as_bytes, as_it_is, fit, Arg, next_arg, any_named, fitted, bind_from, bind_all, of_function, applied, left_operand, right_operand, folded, known_ip4, known_integer, joined, over, membered}
use Rattle.language.proofs.Tests.{each_side, by_cases}
use Rattle.language.proofs.Each.{Each, of_none, of_one, of_both}

-- no parameter
abbrev pub no_param : Param
no_param = param 0 0 ty_void

-- of each of some expressions
abbrev pub AllTerms : (Term → Type 0) → Terms → Type 0
AllTerms T no_more = Unit {0}
AllTerms T (more v vs) = T v × AllTerms T vs

-- an argument, and its token
abbrev pub Given : (ℕ → Type 0) → (Term → Type 0) → Arg → Type 0
Given In T a = In a.at × T a.term

module _ (E : ℕ → What → Type 0) (S : ℕ → Type 0) (W : Diag → Type 0) where
  abbrev pub Sound : {A : Type 0} → (A → Type 0) → Judged A → Type 0
  Sound P (val v) = P v
  Sound P (err at w) = E at w
  Sound P poisoned = Unit {0}
  Sound P (stopped t) = S t

  pub record Fine {A : Type 0} (P : A → Type 0) (j : Judgement A) : Type 0 where
    pub out : Sound P j.out
    pub warns : Each W j.warns

  pub alone : {A : Type 0} {P : A → Type 0} {o : Judged A} {ls : List ℕ} → Sound P o → Fine P (record { out = o; warns = []; looks = ls })
  alone h = record { out = h; warns = of_none }

  pub then_fine : {A B : Type 0} {P : A → Type 0} {Q : B → Type 0} (j : Judgement A) (f : A → Judgement B) → Fine P j
      → ((v : A) → P v → Fine Q (f v)) → Fine Q (and_then j f)
  unfolding and_then
  then_fine {A} {B} {P} {Q} j f h g = by j.out h.out
    where
      by : (o : Judged A) → Sound P o → Fine Q (goes_on o j.warns j.looks f)
      by (val v) r = record { out = (g v r).out; warns = of_both h.warns (g v r).warns }
      by (err at w) r = record { out = r; warns = h.warns }
      by poisoned r = record { out = tt; warns = h.warns }
      by (stopped t) r = record { out = r; warns = h.warns }

-- what is asked of tokens (In), of expressions (T), errors (E), warnings (W) and functions (F), in the statement numbered n
pub record Rules (n : ℕ) (In : ℕ → Type 0) (T : Term → Type 0) (E : ℕ → What → Type 0) (W : Diag → Type 0) (F : ℕ → Type 0) : Type 0 where
  pub place : (v : Term) → T v → In (term_at v)
  pub sized : (p : ℕ) (t : IntType) (i : ℕ) → In p → T (atom p (constant (is_sized t i)))
  pub bool : (p : ℕ) (b : Bool) → In p → T (atom p (constant (is_bool b)))
  pub sock : (p i j : ℕ) → In p → T (atom p (constant (is_sock4 i j)))
  pub called : (p : ℕ) (c : Term) (f : ℕ) (vs : Terms) → In p → T c → F f → AllTerms T vs → T (called p c f vs)
  pub divided : (p : ℕ) (a b : Term) → In p → T a → T b → T (divided p a b)
  pub function : (c : Term) (f : ℕ) → T c → function_of (term_type c) ≡ some f → F f
  pub cut : (p : ℕ) (t : IntType) (i : ℕ) → In p → W (diag n p (truncated i (ty_int t)))
  pub wide : (p : ℕ) (v : Term) (t : IntType) → In p → T v → W (diag n p (overflow (term_type v) (ty_int t)))
  pub void : (p : ℕ) → In p → E p void_value
  pub large : (p : ℕ) → In p → E p integral_too_large
  pub many : (p f a b : ℕ) → In p → F f → E p (too_many_args f a b)
  pub few : (p f a b : ℕ) → In p → F f → E p (too_few_args f a b)
  pub argument : (p f i : ℕ) (v : Term) → In p → F f → i < length (entry_at f).params → T v
      → E p (arg_type f i (get_or (entry_at f).params i no_param).type (term_type v))
  pub no_function : (p : ℕ) (v : Term) → In p → T v → E p (not_callable (term_type v))
  pub no_members_lem : (p : ℕ) (v : Term) → In p → T v → E p (no_members (term_type v))
  pub left_type : (p : ℕ) (v : Term) → In p → T v → E p (operand_type left ty_ip4 (term_type v))
  pub right_type : (p : ℕ) (v : Term) → In p → T v → E p (operand_type right (ty_int u16) (term_type v))

-- a function's parameters from the first on
from_first : (f j : ℕ) → j < length (entry_at f).params
    → (0 + j < length (entry_at f).params) × (get_or (entry_at f).params j no_param ≡ get_or (entry_at f).params (0 + j) no_param)
from_first f j h = let e : 0 + j ≡ j = omega arith in rw e (h, refl)

-- of what is found, if anything is
abbrev pub If : {A : Type 0} → (A → Type 0) → Option A → Type 0
If P (some a) = P a
If P none = Unit {0}

module _ {n : ℕ} {In : ℕ → Type 0} {T : Term → Type 0} {E : ℕ → What → Type 0} {W : Diag → Type 0} {F : ℕ → Type 0}
    (r : Rules n In T E W F) where
  pub narrowed_fine : (v : Term) → T v → If T (narrowed v)
  unfolding narrowed
  narrowed_fine v h = by (unsized_of v)
    where
      sized : (i : ℕ) (o : Option IntType) → If T (elim o [ some t ↦ some (atom (term_at v) (constant (is_sized t i))) | none ↦ none ])
      sized i (some t) = r.sized (term_at v) t i (r.place v h)
      sized i none = tt

      by : (o : Option ℕ) → If T (elim o [
        | some i ↦ elim (smallest i) [ some t ↦ some (atom (term_at v) (constant (is_sized t i))) | none ↦ none ]
        | none ↦ some v
      ])
      by (some i) = sized i (smallest i)
      by none = h

  joined_fine : (at : ℕ) (a b : Term) → In at → T a → T b → T (joined at a b)
  joined_fine at a b i x y = by (known_ip4 a) (known_integer b)
    where
      by : (o q : Option ℕ) → T (folded at a b o q)
      by (some ip) (some port) = r.sock at ip port i
      by (some ip) none = r.divided at a b i x y
      by none q = r.divided at a b i x y

module _ {n : ℕ} {In : ℕ → Type 0} {T : Term → Type 0} {E : ℕ → What → Type 0} {S : ℕ → Type 0} {W : Diag → Type 0} {F : ℕ → Type 0}
    (r : Rules n In T E W F) where
  pub used_fine : (v : Term) → T v → Fine E S W T (used v)
  unfolding used
  used_fine v h = each_side (Fine E S W T) (same_ty ty_void (term_type v)) (alone E S W (r.void (term_at v) (r.place v h))) (alone E S W h)

  -- ---- a type wanted

  pub narrow_fine : (t : IntType) (at : ℕ) (o : Judgement Term) (v : Term) → In at → T v → Fine E S W T o → Fine E S W T (narrow_to n t at o v)
  unfolding narrow_to
  narrow_fine t at o v i h g = by (constant_of v)
    where
      whole : (c : Option ℕ) → Fine E S W T (elim c [
        | some m ↦ judgement (val (atom (term_at v) (constant (is_sized t (low_bits t m))))) (cut n at t m)
        | none ↦ o
      ])
      whole (some m) =
          record {
            out = r.sized (term_at v) t (low_bits t m) (r.place v h);
            warns = each_side (Each W) (is_truncated t m) (of_one (r.cut at t m i)) of_none;
          }
      whole none = g

      wide : Fine E S W T (judgement (val v) (widened n at t (term_type v)))
      wide = record { out = h; warns = each_side (Each W) (ltb (bits t) (bits_of (term_type v))) (of_one (r.wide at v t i h)) of_none }

      by : (c : Option Value) → Fine E S W T (elim c [
        | some c ↦ elim (integer_of c) [
          | some m ↦ judgement (val (atom (term_at v) (constant (is_sized t (low_bits t m))))) (cut n at t m)
          | none ↦ o
        ]
        | none ↦ if' (is_integral (term_type v)) (judgement (val v) (widened n at t (term_type v))) o
      ])
      by (some c) = whole (integer_of c)
      by none = each_side (Fine E S W T) (is_integral (term_type v)) wide g

  as_it_is_lem : (t : Ty) (o : Judgement Term) (v : Term) → T v → Fine E S W T o → Fine E S W T (as_it_is t o v)
  as_it_is_lem t o v h g = each_side (Fine E S W T) (fits t (term_type v)) (alone E S W h) g

  as_bytes_lem : (at : ℕ) (v : Term) → In at → T v → Fine E S W T (as_bytes at v)
  as_bytes_lem at v i h = by (narrowed v) (narrowed_fine r v h)
    where
      by : (o : Option Term) → If T o → Fine E S W T (elim o [ some w ↦ fine w | none ↦ wrong at integral_too_large ])
      by (some w) l = alone E S W l
      by none l = alone E S W (r.large at i)

  pub fit_fine : (t : Ty) (at : ℕ) (o : Judgement Term) (v : Term) → In at → T v → Fine E S W T o → Fine E S W T (fit n t at o v)
  unfolding fit
  fit_fine (ty_int t) at o v i h g = narrow_fine t at o v i h g
  fit_fine ty_bool at o v i h g =
      elim (unsized_of v) as (λ u. Fine E S W T (elim u [ some m ↦ as_bool v m | none ↦ as_it_is ty_bool o v ])) [
        | some m ↦ alone E S W (r.bool (term_at v) _ (r.place v h))
        | none ↦ as_it_is_lem ty_bool o v h g
      ]
  fit_fine ty_bytes at o v i h g =
      elim (unsized_of v) as (λ u. Fine E S W T (elim u [ some m ↦ as_bytes at v | none ↦ as_it_is ty_bytes o v ])) [
        | some m ↦ as_bytes_lem at v i h
        | none ↦ as_it_is_lem ty_bytes o v h g
      ]
  fit_fine ty_void at o v i h g = as_it_is_lem ty_void o v h g
  fit_fine ty_ip4 at o v i h g = as_it_is_lem ty_ip4 o v h g
  fit_fine ty_sock4 at o v i h g = as_it_is_lem ty_sock4 o v h g
  fit_fine ty_pkt at o v i h g = as_it_is_lem ty_pkt o v h g
  fit_fine ty_pkt_gen at o v i h g = as_it_is_lem ty_pkt_gen o v h g
  fit_fine ty_time_jump at o v i h g = as_it_is_lem ty_time_jump o v h g
  fit_fine (ty_function k) at o v i h g = as_it_is_lem (ty_function k) o v h g
  fit_fine ty_integer at o v i h g = as_it_is_lem ty_integer o v h g

  -- ---- calls

  -- the parameters ps are those of f from the one numbered i on
  bind_fine : (at f many wanted i : ℕ) (ps : List Param) (gs : List Arg) → In at → F f
      → ((j : ℕ) → j < length ps → (i + j < length (entry_at f).params) × (get_or ps j no_param ≡ get_or (entry_at f).params (i + j) no_param))
      → Each (Given In T) gs → Fine E S W (AllTerms T) (bind_from n at f many wanted i ps gs)
  unfolding bind_from
  bind_fine at f many wanted i [] [] p h l g = alone E S W tt
  bind_fine at f many wanted i [] (a ∷ gs) p h l g = alone E S W (r.many a.at f many wanted (g.holds a (Memᴰ.head refl)).0 h)
  bind_fine at f many wanted i (q ∷ ps) [] p h l g = alone E S W (r.few at f many wanted p h)
  bind_fine at f many wanted i (q ∷ ps) (a ∷ gs) p h l g =
      then_fine E S W (fitted n at f many wanted i q a) _ first (λ v t.
      then_fine E S W (bind_from n at f many wanted (suc i) ps gs) _
      (bind_fine at f many wanted (suc i) ps gs p h rest (record { holds = λ b m. g.holds b (Memᴰ.tail m) })) (λ vs ts. alone E S W (t, ts)))
    where
      own : Given In T a
      own = g.holds a (Memᴰ.head refl)

      first : Fine E S W T (fitted n at f many wanted i q a)
      first =
          let z = l 0 (omega arith) in
          let e : i + 0 ≡ i = omega arith in
          let y : get_or (entry_at f).params i no_param ≡ q = rw e at (sym z.1) in
          let x = r.argument a.at f i a.term own.0 h (omega (arith, z.0)) own.1 in
          fit_fine q.type a.at _ a.term own.0 own.1 (alone E S W (rw y at x))

      rest : (j : ℕ) → j < length ps → (suc i + j < length (entry_at f).params) × (get_or ps j no_param ≡ get_or (entry_at f).params (suc i + j) no_param)
      rest j k =
          let z = l (suc j) (omega arith) in
          let e : i + suc j ≡ suc i + j = omega arith in
          (omega (arith, z.0), rw e at z.1)

  pub bind_all_fine : (at f : ℕ) (gs : List Arg) → In at → F f → Each (Given In T) gs → Fine E S W (AllTerms T) (bind_all n at f gs)
  bind_all_fine at f gs i h g = bind_fine at f _ _ 0 (entry_at f).params gs i h (from_first f) g

  pub next_fine : (at : ℕ) (j : Judgement Term) (gs : List Arg) → In at → Fine E S W T j → Each (Given In T) gs
      → Fine E S W (Each (Given In T)) (next_arg at j gs)
  unfolding next_arg
  next_fine at j gs i h g =
      then_fine E S W j _ h (λ v t. then_fine E S W (used v) _ (used_fine v t) (λ w u. alone E S W (of_both g (of_one (i, u)))))

  pub applied_fine : (at p : ℕ) (g : Args) (j : Judgement (List Arg)) (c : Term) → In at → S p → (any_named g ≡ false → Fine E S W (Each (Given In T)) j)
      → T c → Fine E S W T (applied n at p g j c)
  unfolding applied
  applied_fine at p g j c i s h t = then_fine E S W (used c) _ (used_fine c t) (λ d u. by d u (function_of (term_type d)) refl)
    where
      bound : (d : Term) (f : ℕ) → T d → F f → Fine E S W (Each (Given In T)) j
          → Fine E S W T (and_then j (λ gs. and_then (bind_all n at f gs) (λ vs. fine (called at d f vs))))
      bound d f u k l =
          then_fine E S W j _ l (λ gs m.
          then_fine E S W (bind_all n at f gs) _ (bind_all_fine at f gs i k m)
          (λ vs y. alone E S W (r.called at d f vs i u k y)))

      by : (d : Term) → T d → (o : Option ℕ) → function_of (term_type d) ≡ o → Fine E S W T (of_function n at p g j d o)
      by d u none e = alone E S W (r.no_function at d i u)
      by d u (some f) e =
          by_cases (Fine E S W T) (any_named g) (λ _. alone E S W s) (λ x. bound d f u (r.function d f u e) (h x))

  -- ---- `/` and `.`

  pub over_fine : (at p : ℕ) (j : Judgement Term) (a : Term) → In at → In p → Fine E S W T j → T a → Fine E S W T (over n at p j a)
  unfolding over
  over_fine at p j a i q h t =
      then_fine E S W (used a) _ (used_fine a t) (λ v u. then_fine E S W (left_operand v) _ (left v u) (λ ip x.
      then_fine E S W j _ h (λ b y. then_fine E S W (used b) _ (used_fine b y) (λ w z.
      then_fine E S W (right_operand n p w) _ (right w z) (λ port m. alone E S W (joined_fine r at ip port i x m))))))
    where
      left : (v : Term) → T v → Fine E S W T (left_operand v)
      left v u = each_side (Fine E S W T) (same_ty ty_ip4 (term_type v)) (alone E S W u) (alone E S W (r.left_type (term_at v) v (r.place v u) u))

      right : (w : Term) → T w → Fine E S W T (right_operand n p w)
      right w z = narrow_fine u16 p _ w q z (alone E S W (r.right_type (term_at w) w (r.place w z) z))

  pub membered_fine : (t : ℕ) (o : Term) → In t → T o → Fine E S W T (membered t o)
  unfolding membered
  membered_fine t o i h = then_fine E S W (used o) _ (used_fine o h) (λ v u. alone E S W (r.no_members_lem t v i u))

-- An expression has no more warnings than nodes.
use Prim.Native.Nat.{ℕ, suc, ◌+◌, ◌≤◌}
use mathlib.Core.Path.{◌≡◌, refl, ap}
use mathlib.Core.Bool.{Bool, true, false}
use mathlib.Core.List.{List, [], ◌∷◌, ◌++◌}
use mathlib.Core.Option.{Option, none, some}
use native.Mathlib.Omega.{arith}
use lib.Dec.{ltb}
use lib.ListN.{length, length-append}
use Rattle.language.specs.Choice.{if'}
use Rattle.language.specs.Integers.{IntType, u16, bits, low_bits, is_truncated}
use Rattle.language.specs.Tokens.{Content}
use Rattle.language.specs.Sentences.{Expr, literal, sock4, local, path, member, call, slash', Args, none_given, given, named, first_of, expr_size, args_size}
use Rattle.language.specs.Values.{Value, is_sized, Ty, ty_void, ty_bool, ty_int, ty_ip4, ty_sock4, ty_bytes, ty_pkt, ty_pkt_gen, ty_time_jump, ty_function, ty_integer, same_ty, bits_of, is_integral, fits, Param, entry_at}
use Rattle.language.specs.Terms.{constant, Term, atom, called, term_at, term_type, constant_of, function_of}
use Rattle.language.specs.Judgements.{Diag, Judged, val, err, poisoned, stopped, Judgement, judgement, fine, wrong, and_then, goes_on, Known, integer_of, unsized_of, narrowed, used, cut, widened, narrow_to, as_bool, as_bytes, as_it_is, integral_too_large, fit, Arg, arg, next_arg, any_named, called_name, fitted, bind_from, bind_all, of_function, applied, left_operand, right_operand, over, membered, judge, judge_args}
use Rattle.language.proofs.Tests.{never, each_side}

-- a judgement has at most b warnings, and where it comes to a value that many fewer as the value saves
pub record Spends {A : Type 0} (saves : A → ℕ) (b : ℕ) (j : Judgement A) : Type 0 where
  pub few : length j.warns ≤ b
  pub saved : (v : A) → j.out ≡ val v → length j.warns + saves v ≤ b

abbrev nothing : {A : Type 0} → A → ℕ
nothing v = 0

-- one with no warning
quiet : {A : Type 0} (saves : A → ℕ) (b : ℕ) (o : Judged A) (ls : List ℕ) → ((v : A) → o ≡ val v → saves v ≤ b)
    → Spends saves b (record { out = o; warns = []; looks = ls })
quiet saves b o ls h = record { few = omega arith; saved = λ v e. omega (arith, h v e) }

silent : {A : Type 0} (b : ℕ) (o : Judged A) (ls : List ℕ) → Spends nothing b (record { out = o; warns = []; looks = ls })
silent b o ls = quiet nothing b o ls (λ v e. omega arith)

-- one that goes on spends what the first saved, and m more
then_spends : {A B : Type 0} {s : A → ℕ} {t : B → ℕ} (a m : ℕ) (j : Judgement A) (f : A → Judgement B) → Spends s a j
    → ((v : A) → Spends t (s v + m) (f v)) → Spends t (a + m) (and_then j f)
unfolding and_then
then_spends {A} {B} {s} {t} a m j f h g = by j.out h.saved
  where
    by : (o : Judged A) → ((v : A) → o ≡ val v → length j.warns + s v ≤ a) → Spends t (a + m) (goes_on o j.warns j.looks f)
    by (val v) l =
        let z = l v refl in
        record {
          few = omega (arith, z, (g v).few, length-append j.warns (f v).warns);
          saved = λ w e. omega (arith, z, (g v).saved w e, length-append j.warns (f v).warns);
        }
    by (err at w) l = record { few = omega (arith, h.few); saved = λ v e. never (cc) }
    by poisoned l = record { few = omega (arith, h.few); saved = λ v e. never (cc) }
    by (stopped p) l = record { few = omega (arith, h.few); saved = λ v e. never (cc) }

more_spends : {A : Type 0} {s : A → ℕ} {a b : ℕ} {j : Judgement A} → a ≤ b → Spends s a j → Spends s b j
more_spends h g = record { few = omega (arith, h, g.few); saved = λ v e. omega (arith, h, g.saved v e) }

-- the same where the first saves nothing
then_more : {A B : Type 0} {t : B → ℕ} (a m : ℕ) (j : Judgement A) (f : A → Judgement B) → Spends nothing a j → ((v : A) → Spends t m (f v))
    → Spends t (a + m) (and_then j f)
then_more a m j f h g = then_spends a m j f h (λ v. more_spends (omega arith) (g v))

-- and where what follows has no warning
then_no_more : {A B : Type 0} {s : A → ℕ} (a : ℕ) (j : Judgement A) (f : A → Judgement B) → Spends s a j → ((v : A) → Spends nothing (s v) (f v))
    → Spends nothing a (and_then j f)
then_no_more a j f h g = more_spends (omega arith) (then_spends a 0 j f h (λ v. more_spends (omega arith) (g v)))

-- ---- one value

used_spends : (v : Term) → Spends nothing 0 (used v)
unfolding used
used_spends v = each_side (Spends nothing 0) (same_ty ty_void (term_type v)) (silent 0 _ []) (silent 0 (val v) [])

-- at most one warning
one_spends : {A : Type 0} (o : Judged A) (b : Bool) (d : Diag) → Spends nothing 1 (judgement o (if' b (d ∷ []) []))
one_spends o true d = record { few = omega arith; saved = λ v e. omega arith }
one_spends o false d = record { few = omega arith; saved = λ v e. omega arith }

module _ (n : ℕ) where
  pub narrow_spends : (t : IntType) (at : ℕ) (o : Judged Term) (v : Term) → Spends nothing 1 (narrow_to n t at (judgement o []) v)
  unfolding narrow_to
  narrow_spends t at o v = by (constant_of v)
    where
      whole : (c : Option ℕ) → Spends {A = Term} nothing 1 (elim c [
        | some m ↦ judgement (val (atom (term_at v) (constant (is_sized t (low_bits t m))))) (cut n at t m)
        | none ↦ judgement o []
      ])
      whole (some m) = one_spends _ (is_truncated t m) _
      whole none = silent 1 o []

      by : (c : Option Value) → Spends {A = Term} nothing 1 (elim c [
        | some c ↦ elim (integer_of c) [
          | some m ↦ judgement (val (atom (term_at v) (constant (is_sized t (low_bits t m))))) (cut n at t m)
          | none ↦ judgement o []
        ]
        | none ↦ if' (is_integral (term_type v)) (judgement (val v) (widened n at t (term_type v))) (judgement o [])
      ])
      by (some c) = whole (integer_of c)
      by none = each_side (Spends nothing 1) (is_integral (term_type v)) (one_spends _ (ltb (bits t) (bits_of (term_type v))) _) (silent 1 o [])

  it_is_spends : (t : Ty) (o : Judged Term) (v : Term) → Spends nothing 1 (as_it_is t (judgement o []) v)
  it_is_spends t o v = each_side (Spends nothing 1) (fits t (term_type v)) (silent 1 (val v) []) (silent 1 o [])

  bytes_spends : (at : ℕ) (v : Term) → Spends nothing 1 (as_bytes at v)
  bytes_spends at v =
      elim (narrowed v) as (λ o. Spends {A = Term} nothing 1 (elim o [ some w ↦ fine w | none ↦ wrong at integral_too_large ])) [
        | some w ↦ silent 1 (val w) []
        | none ↦ silent 1 (err at integral_too_large) []
      ]

  pub fit_spends : (t : Ty) (at : ℕ) (o : Judged Term) (v : Term) → Spends nothing 1 (fit n t at (judgement o []) v)
  unfolding fit
  fit_spends (ty_int t) at o v = narrow_spends t at o v
  fit_spends ty_bool at o v =
      elim (unsized_of v) as (λ u. Spends {A = Term} nothing 1 (elim u [ some m ↦ as_bool v m | none ↦ as_it_is ty_bool (judgement o []) v ])) [
        | some m ↦ silent 1 _ []
        | none ↦ it_is_spends ty_bool o v
      ]
  fit_spends ty_bytes at o v =
      elim (unsized_of v) as (λ u. Spends {A = Term} nothing 1 (elim u [ some m ↦ as_bytes at v | none ↦ as_it_is ty_bytes (judgement o []) v ])) [
        | some m ↦ bytes_spends at v
        | none ↦ it_is_spends ty_bytes o v
      ]
  fit_spends ty_void at o v = it_is_spends ty_void o v
  fit_spends ty_ip4 at o v = it_is_spends ty_ip4 o v
  fit_spends ty_sock4 at o v = it_is_spends ty_sock4 o v
  fit_spends ty_pkt at o v = it_is_spends ty_pkt o v
  fit_spends ty_pkt_gen at o v = it_is_spends ty_pkt_gen o v
  fit_spends ty_time_jump at o v = it_is_spends ty_time_jump o v
  fit_spends (ty_function k) at o v = it_is_spends (ty_function k) o v
  fit_spends ty_integer at o v = it_is_spends ty_integer o v

  -- ---- arguments

  bind_spends : (at f many wanted i : ℕ) (ps : List Param) (gs : List Arg) → Spends nothing (length gs) (bind_from n at f many wanted i ps gs)
  unfolding bind_from
  bind_spends at f many wanted i [] [] = silent 0 _ []
  bind_spends at f many wanted i [] (a ∷ gs) = silent (suc (length gs)) _ []
  bind_spends at f many wanted i (p ∷ ps) [] = silent 0 _ []
  bind_spends at f many wanted i (p ∷ ps) (a ∷ gs) =
      more_spends (omega arith) (then_more 1 (length gs) (fitted n at f many wanted i p a) _ (fit_spends p.type a.at _ a.term) (λ v.
      then_no_more (length gs) (bind_from n at f many wanted (suc i) ps gs) _ (bind_spends at f many wanted (suc i) ps gs) (λ vs. silent 0 _ [])))

  next_spends : (at b : ℕ) (j : Judgement Term) (gs : List Arg) → Spends nothing b j → Spends length (length gs + (b + 1)) (next_arg at j gs)
  unfolding next_arg
  next_spends at b j gs h =
      more_spends (omega arith) (then_more b (0 + (length gs + 1)) j _ h (λ v.
      then_more 0 (length gs + 1) (used v) _ (used_spends v) (λ w.
      quiet length (length gs + 1) (val (gs ++ arg at w ∷ [])) [] (λ hs e.
      let q : gs ++ arg at w ∷ [] ≡ hs = cc in omega (arith, ap length q, length-append gs (arg at w ∷ []))))))

  applied_spends : (at p : ℕ) (g : Args) (j : Judgement (List Arg)) (c : Term) (b : ℕ) → Spends length b j → Spends nothing b (applied n at p g j c)
  unfolding applied
  applied_spends at p g j c b h = more_spends (omega arith) (then_more 0 b (used c) _ (used_spends c) (λ d. by d (function_of (term_type d))))
    where
      all : (d : Term) (f : ℕ) → Spends nothing b (and_then j (λ gs. and_then (bind_all n at f gs) (λ vs. fine (called at d f vs))))
      all d f = then_no_more b j _ h (λ gs. then_no_more (length gs) (bind_all n at f gs) _ (bind_spends at f _ _ 0 (entry_at f).params gs) (λ vs. silent 0 _ []))

      by : (d : Term) (o : Option ℕ) → Spends nothing b (of_function n at p g j d o)
      by d none = silent b _ []
      by d (some f) = each_side (Spends nothing b) (any_named g) (silent b _ []) (all d f)

  -- ---- `/` and `.`

  over_spends : (at p : ℕ) (j : Judgement Term) (a : Term) (b : ℕ) → Spends nothing b j → Spends nothing (b + 1) (over n at p j a)
  unfolding over
  over_spends at p j a b h =
      more_spends (omega arith) (then_more 0 (0 + (b + (0 + (1 + 0)))) (used a) _ (used_spends a) (λ v.
      then_more 0 (b + (0 + (1 + 0))) (left_operand v) _ (each_side (Spends nothing 0) (same_ty ty_ip4 (term_type v)) (silent 0 (val v) []) (silent 0 _ [])) (λ ip.
      then_more b (0 + (1 + 0)) j _ h (λ y.
      then_more 0 (1 + 0) (used y) _ (used_spends y) (λ w.
      then_more 1 0 (right_operand n p w) _ (narrow_spends u16 p _ w) (λ port. silent 0 _ []))))))

  membered_spends : (t : ℕ) (o : Term) → Spends nothing 0 (membered t o)
  unfolding membered
  membered_spends t o = more_spends (omega arith) (then_more 0 0 (used o) _ (used_spends o) (λ v. silent 0 _ []))

module _ (ts : List Content) (n : ℕ) (k : Known) where
  mutual
    unfolding judge judge_args

    judge_spends : (e : Expr) → Spends nothing (expr_size e) (judge ts n k e)
    judge_spends (literal t) = silent 1 _ []
    judge_spends (sock4 t) = silent 1 _ []
    judge_spends (local t) = silent 1 _ _
    judge_spends (path t m) = silent (m + 1) _ []
    judge_spends (member e t) =
        then_more (expr_size e) 1 (judge ts n k e) _ (judge_spends e) (λ v. more_spends (omega arith) (membered_spends n t v))
    judge_spends (slash' a b) =
        more_spends (omega arith) (then_more (expr_size a) (expr_size b + 1) (judge ts n k a) _ (judge_spends a)
        (λ v. over_spends n (first_of a) (first_of b) (judge ts n k b) v (expr_size b) (judge_spends b)))
    judge_spends (call e t g) =
        more_spends (omega arith) (then_more (expr_size e) (args_size g + 1) (judge ts n k e) _ (judge_spends e)
        (λ v. more_spends (omega arith) (applied_spends n (called_name e) t g (judge_args ts n k g) v (args_size g) (args_spends g))))

    args_spends : (g : Args) → Spends length (args_size g) (judge_args ts n k g)
    args_spends none_given = quiet length 0 (val []) [] (λ v e. let q : [] ≡ v = cc in omega (arith, ap length q))
    args_spends (given g e) =
        more_spends (omega arith) (then_spends (args_size g) (expr_size e + 1) (judge_args ts n k g) _ (args_spends g) (λ gs. next_spends n (first_of e) (expr_size e) (judge ts n k e) gs (judge_spends e)))
    args_spends (named g t e) =
        more_spends (omega arith) (then_spends (args_size g) (expr_size e + 1) (judge_args ts n k g) _ (args_spends g) (λ gs. next_spends n (first_of e) (expr_size e) (judge ts n k e) gs (judge_spends e)))

  pub judge_warns : (e : Expr) → length (judge ts n k e).warns ≤ expr_size e
  judge_warns e = (judge_spends e).few

  pub args_warns : (g : Args) → length (judge_args ts n k g).warns ≤ args_size g
  args_warns g = (args_spends g).few

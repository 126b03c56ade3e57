-- Where no name has failed, an expression is not poisoned; and where a statement has no error, no name fails. The one expression that
-- is poisoned by itself is a path with no name to look up, which no program has.
use Prim.Native.Nat.{ℕ, zero, suc, ◌+◌}
use mathlib.Core.Path.{◌≡◌, refl, subst}
use mathlib.Core.Bool.{true}
use mathlib.Core.List.{List, [], ◌∷◌, ◌++◌}
use mathlib.Core.Option.{Option, none, some}
use native.Mathlib.Omega.{arith}
use lib.Dec.{ltb}
use lib.ListN.{length}
use Rattle.language.specs.Choice.{if'}
use Rattle.language.specs.Integers.{IntType, u16, low_bits}
use Rattle.language.specs.Tokens.{Content}
use Rattle.language.specs.Sentences.{Expr, literal, sock4, local, path, member, call, slash', Args, none_given, given, named, Stmt, import', let', expr', first_of}
use Rattle.language.specs.Values.{Value, is_sized, Ty, ty_void, ty_bool, ty_int, ty_ip4, ty_sock4, ty_bytes, ty_pkt, ty_pkt_gen, ty_time_jump, ty_function, ty_integer, same_ty, is_integral, fits, Param, entry_at, lookup}
use Rattle.language.specs.Terms.{Atom, constant, Term, atom, term_at, term_type, atom_of, constant_of, function_of}
use Rattle.language.specs.Judgements.{What, unknown_module, already_bound, integral_too_large, unknown_item, Diag, diag, is_error, errors_in, Judged, val, err, poisoned, stopped, Judgement, judgement, fine, wrong, and_then, goes_on, Known, Import, Binding, Held, Turn, goes, refuses, find, find_import, compared, most_imports, most_names, name_at, integer_of, unsized_of, narrowed, last_item, inner_item, walk, below, bound_to, used, cut, widened, narrow_to, as_bool, as_bytes, as_it_is, fit, Arg, next_arg, any_named, called_name, fitted, bind_from, bind_all, of_function, applied, left_operand, right_operand, over, membered, judge, judge_args, imported, import_stmt, bound_as, bound, let_stmt, sized, told, stmt}
use Rattle.language.specs.Sound.{SoundExpr, SoundArgs, SoundStmt}
use Rattle.language.proofs.Tests.{each_side}
use Rattle.language.proofs.Each.{Each, of_one, of_both}
use Rattle.language.proofs.Judging.{If}
use Rattle.language.proofs.FindingTokens.{find_each}
use Rattle.language.proofs.JudgementClaims.{errors_append}
use Rattle.statements.specs.Checking.{IsVal, Valued}

-- something is there
abbrev There : {A : Type 0} → Option A → Type 0
There (some a) = Unit {0}
There none = ⊥

-- no import and no `let` has failed
pub record Unfailed (k : Known) : Type 0 where
  pub imports : Each (λ i. There i.found) k.imports
  pub bindings : Each (λ b. There b.value) k.bindings

-- ---- judgements that are not poisoned, and whose errors are errors

abbrev Clear : {A : Type 0} → Judged A → Type 0
Clear (val v) = Unit {0}
Clear (err at w) = is_error w ≡ true
Clear poisoned = ⊥
Clear (stopped t) = Unit {0}

abbrev Calm : {A : Type 0} → Judgement A → Type 0
Calm j = Clear j.out

then_calm : {A B : Type 0} (j : Judgement A) (f : A → Judgement B) → Calm j → ((v : A) → Calm (f v)) → Calm (and_then j f)
unfolding and_then
then_calm {A} j f h g = by j.out h
  where
    by : (o : Judged A) → Clear o → Calm (goes_on o j.warns j.looks f)
    by (val v) c = g v
    by (err at w) c = c
    by poisoned c = c
    by (stopped t) c = tt

used_calm : (v : Term) → Calm (used v)
unfolding used
used_calm v = each_side Calm (same_ty ty_void (term_type v)) refl tt

module _ (n : ℕ) where
  narrow_calm : (t : IntType) (at : ℕ) (o : Judgement Term) (v : Term) → Calm o → Calm (narrow_to n t at o v)
  unfolding narrow_to
  narrow_calm t at o v h = by (constant_of v)
    where
      whole : (c : Option ℕ) → Calm {A = Term} (elim c [
        | some m ↦ judgement (val (atom (term_at v) (constant (is_sized t (low_bits t m))))) (cut n at t m)
        | none ↦ o
      ])
      whole (some m) = tt
      whole none = h

      by : (c : Option Value) → Calm {A = Term} (elim c [
        | some c ↦ elim (integer_of c) [
          | some m ↦ judgement (val (atom (term_at v) (constant (is_sized t (low_bits t m))))) (cut n at t m)
          | none ↦ o
        ]
        | none ↦ if' (is_integral (term_type v)) (judgement (val v) (widened n at t (term_type v))) o
      ])
      by (some c) = whole (integer_of c)
      by none = each_side Calm (is_integral (term_type v)) tt h

  it_is_calm : (t : Ty) (o : Judgement Term) (v : Term) → Calm o → Calm (as_it_is t o v)
  it_is_calm t o v h = each_side Calm (fits t (term_type v)) tt h

  bytes_calm : (at : ℕ) (v : Term) → Calm (as_bytes at v)
  bytes_calm at v =
      elim (narrowed v) as (λ w. Calm {A = Term} (elim w [ some x ↦ fine x | none ↦ wrong at integral_too_large ])) [ some x ↦ tt | none ↦ refl ]

  fit_calm : (t : Ty) (at : ℕ) (o : Judgement Term) (v : Term) → Calm o → Calm (fit n t at o v)
  unfolding fit
  fit_calm (ty_int t) at o v h = narrow_calm t at o v h
  fit_calm ty_bool at o v h =
      elim (unsized_of v) as (λ u. Calm {A = Term} (elim u [ some m ↦ as_bool v m | none ↦ as_it_is ty_bool o v ])) [
        | some m ↦ tt
        | none ↦ it_is_calm ty_bool o v h
      ]
  fit_calm ty_bytes at o v h =
      elim (unsized_of v) as (λ u. Calm {A = Term} (elim u [ some m ↦ as_bytes at v | none ↦ as_it_is ty_bytes o v ])) [
        | some m ↦ bytes_calm at v
        | none ↦ it_is_calm ty_bytes o v h
      ]
  fit_calm ty_void at o v h = it_is_calm ty_void o v h
  fit_calm ty_ip4 at o v h = it_is_calm ty_ip4 o v h
  fit_calm ty_sock4 at o v h = it_is_calm ty_sock4 o v h
  fit_calm ty_pkt at o v h = it_is_calm ty_pkt o v h
  fit_calm ty_pkt_gen at o v h = it_is_calm ty_pkt_gen o v h
  fit_calm ty_time_jump at o v h = it_is_calm ty_time_jump o v h
  fit_calm (ty_function k) at o v h = it_is_calm (ty_function k) o v h
  fit_calm ty_integer at o v h = it_is_calm ty_integer o v h

  bind_calm : (at f many wanted i : ℕ) (ps : List Param) (gs : List Arg) → Calm (bind_from n at f many wanted i ps gs)
  unfolding bind_from
  bind_calm at f many wanted i [] [] = tt
  bind_calm at f many wanted i [] (a ∷ gs) = refl
  bind_calm at f many wanted i (p ∷ ps) [] = refl
  bind_calm at f many wanted i (p ∷ ps) (a ∷ gs) =
      then_calm (fitted n at f many wanted i p a) _ (fit_calm p.type a.at _ a.term refl)
      (λ v. then_calm (bind_from n at f many wanted (suc i) ps gs) _ (bind_calm at f many wanted (suc i) ps gs) (λ vs. tt))

  next_calm : (at : ℕ) (j : Judgement Term) (gs : List Arg) → Calm j → Calm (next_arg at j gs)
  unfolding next_arg
  next_calm at j gs h = then_calm j _ h (λ v. then_calm (used v) _ (used_calm v) (λ w. tt))

  applied_calm : (at p : ℕ) (g : Args) (j : Judgement (List Arg)) (c : Term) → Calm j → Calm (applied n at p g j c)
  unfolding applied
  applied_calm at p g j c h = then_calm (used c) _ (used_calm c) (λ d. by d (function_of (term_type d)))
    where
      by : (d : Term) (o : Option ℕ) → Calm (of_function n at p g j d o)
      by d none = refl
      by d (some f) =
          each_side Calm (any_named g) tt
          (then_calm j _ h (λ gs. then_calm (bind_all n at f gs) _ (bind_calm at f _ _ 0 (entry_at f).params gs) (λ vs. tt)))

  over_calm : (at p : ℕ) (j : Judgement Term) (a : Term) → Calm j → Calm (over n at p j a)
  unfolding over
  over_calm at p j a h =
      then_calm (used a) _ (used_calm a) (λ v.
      then_calm (left_operand v) _ (each_side Calm (same_ty ty_ip4 (term_type v)) tt refl) (λ ip.
      then_calm j _ h (λ b. then_calm (used b) _ (used_calm b) (λ w.
      then_calm (right_operand n p w) _ (narrow_calm u16 p _ w refl) (λ port. tt)))))

  membered_calm : (t : ℕ) (o : Term) → Calm (membered t o)
  unfolding membered
  membered_calm t o = then_calm (used o) _ (used_calm o) (λ v. refl)

-- ---- expressions

module _ (ts : List Content) where
  last_clear : (p t : ℕ) (o : Option Value) → Clear (last_item ts p t o)
  last_clear p t (some v) = tt
  last_clear p t none = refl

  inner_clear : (t : ℕ) (o : Option Value) (on : Judged Term) → Clear on → Clear (inner_item ts t o on)
  inner_clear t (some v) on h = refl
  inner_clear t none on h = h

  -- a path has a name to look up
  walk_clear : (p n m t : ℕ) → Clear (walk ts p (suc n) m t)
  unfolding walk
  walk_clear p zero m t =
      elim (lookup m (name_at ts (t + 2))) as (λ o. Clear {A = Term} (elim o [ none ↦ err (t + 2) (unknown_item m) | some k ↦ last_item ts p (t + 2) (entry_at k).value ])) [
        | none ↦ refl
        | some k ↦ last_clear p (t + 2) (entry_at k).value
      ]
  walk_clear p (suc n) m t =
      elim (lookup m (name_at ts (t + 2))) as (λ o. Clear {A = Term} (elim o [
        | none ↦ err (t + 2) (unknown_item m)
        | some k ↦ inner_item ts (t + 2) (entry_at k).value (walk ts p (suc n) k (t + 2))
      ])) [
        | none ↦ refl
        | some k ↦ inner_clear (t + 2) (entry_at k).value _ (walk_clear p n k (t + 2))
      ]

  below_clear : (t n : ℕ) (o : Option Import) → If (λ i. There i.found) o → Clear (below ts t (suc n) o)
  below_clear t n none h = refl
  below_clear t n (some i) h = by i.found h
    where
      by : (o : Option ℕ) → There o → Clear {A = Term} (elim o [ none ↦ poisoned | some m ↦ walk ts t (suc n) m t ])
      by none h = absurd h
      by (some m) h = walk_clear t n m t

  bound_clear : (t : ℕ) (o : Option Binding) → If (λ b. There b.value) o → Clear (bound_to ts t o)
  bound_clear t none h = refl
  bound_clear t (some b) h = by b.value h
    where
      by : (o : Option Atom) → There o → Clear {A = Term} (elim o [ some a ↦ val (atom t a) | none ↦ poisoned ])
      by none h = absurd h
      by (some a) h = tt

module _ (ts : List Content) (n : ℕ) {k : Known} (u : Unfailed k) where
  mutual
    unfolding judge judge_args

    judge_calm : (e : Expr) → SoundExpr ts e → Calm (judge ts n k e)
    judge_calm (literal t) h = tt
    judge_calm (sock4 t) h = tt
    judge_calm (local t) h = bound_clear ts t (find k.bindings (name_at ts t)) (find_each (λ b. b.name) k.bindings (name_at ts t) u.bindings)
    judge_calm (path t zero) h = absurd (omega (arith, h.0))
    judge_calm (path t (suc m)) h =
        below_clear ts t m (find_import k.imports (name_at ts t)) (find_each (λ i. i.name) k.imports (name_at ts t) u.imports)
    judge_calm (member e t) h = then_calm (judge ts n k e) _ (judge_calm e h.0) (membered_calm n t)
    judge_calm (slash' a b) h =
        then_calm (judge ts n k a) _ (judge_calm a h.0) (λ v. over_calm n (first_of a) (first_of b) (judge ts n k b) v (judge_calm b h.1))
    judge_calm (call e t g) h =
        then_calm (judge ts n k e) _ (judge_calm e h.0) (λ v. applied_calm n (called_name e) t g (judge_args ts n k g) v (args_calm g h.2))

    args_calm : (g : Args) → SoundArgs ts g → Calm (judge_args ts n k g)
    args_calm none_given h = tt
    args_calm (given g e) h =
        then_calm (judge_args ts n k g) _ (args_calm g h.0) (λ gs. next_calm n (first_of e) (judge ts n k e) gs (judge_calm e h.1))
    args_calm (named g t e) h =
        then_calm (judge_args ts n k g) _ (args_calm g h.0) (λ gs. next_calm n (first_of e) (judge ts n k e) gs (judge_calm e h.2))

  -- ---- statements

  -- where a turn has no error, no name failed and its expression came to a value
  abbrev Fair : Type 0 → Turn → Type 0
  Fair P (goes k' ds hs ls) = errors_in ds ≡ 0 → Unfailed k' × P
  Fair P (refuses m t) = Unit {0}

  -- an error is counted
  one_error : (d : Diag) → is_error d.what ≡ true → errors_in (d ∷ []) ≡ 1
  unfolding errors_in
  one_error d h = rw h

  imported_fair : (t : ℕ) (o : Option ℕ) → Fair (Unit {0}) (imported ts n k t o)
  imported_fair t (some m) = λ e. (record { imports = of_both u.imports (of_one tt); bindings = u.bindings }, tt)
  imported_fair t none = λ e. absurd (omega (arith, e, one_error (diag n t unknown_module) refl))

  import_fair : (t : ℕ) (o : Option Import) → Fair (Unit {0}) (import_stmt ts n k t o)
  import_fair t (some i) = λ e. (u, tt)
  import_fair t none = each_side (Fair (Unit {0})) (ltb (length k.imports) most_imports) (imported_fair t (lookup 0 (name_at ts t))) tt

  as_fair : (t : ℕ) (v : Term) (o : Option Atom) (ws : List Diag) (ls : List ℕ) → Fair (Unit {0}) (bound_as ts n k t v o ws ls)
  as_fair t v (some a) ws ls = λ e. (record { imports = u.imports; bindings = of_both u.bindings (of_one tt) }, tt)
  as_fair t v none ws ls = λ e. (record { imports = u.imports; bindings = of_both u.bindings (of_one tt) }, tt)

  last_error : (ws : List Diag) (at : ℕ) (w : What) → is_error w ≡ true → errors_in (ws ++ diag n at w ∷ []) ≡ 0 → ⊥
  last_error ws at w h e = absurd (omega (arith, e, errors_append ws (diag n at w ∷ []), one_error (diag n at w) h))

  bound_fair : (t : ℕ) (o : Judged Term) (ws : List Diag) (ls : List ℕ) → Clear o → Fair (IsVal o) (bound ts n k t o ws ls)
  bound_fair t (val v) ws ls h = as_fair t v (atom_of v) ws ls
  bound_fair t (err at w) ws ls h = λ e. absurd (last_error ws at w h e)
  bound_fair t poisoned ws ls h = absurd h
  bound_fair t (stopped p) ws ls h = tt

  let_fair : (t : ℕ) (e : Expr) (l : ℕ) (o : Option Binding) → SoundExpr ts e → Fair (Valued ts n k (let' t e)) (let_stmt ts n k t e l o)
  let_fair t e l (some b) h = λ z. absurd (omega (arith, z, one_error (diag n t (already_bound b.tok)) refl))
  let_fair t e l none h =
      let j = and_then (judge ts n k e) used in
      each_side (Fair (Valued ts n k (let' t e))) (ltb (length k.bindings) most_names)
      (bound_fair t j.out j.warns (l ∷ j.looks) (then_calm (judge ts n k e) used (judge_calm e h) used_calm)) tt

  sized_fair : (at : ℕ) (o : Option Term) (ws : List Diag) (ls : List ℕ) → Fair (Unit {0}) (sized ts n k at o ws ls)
  sized_fair at (some v) ws ls = λ e. (u, tt)
  sized_fair at none ws ls = λ e. (u, tt)

  told_fair : (at : ℕ) (o : Judged Term) (ws : List Diag) (ls : List ℕ) → Clear o → Fair (IsVal o) (told ts n k at o ws ls)
  told_fair at (val v) ws ls h = sized_fair at (narrowed v) ws ls
  told_fair at (err p w) ws ls h = λ e. absurd (last_error ws p w h e)
  told_fair at poisoned ws ls h = absurd h
  told_fair at (stopped p) ws ls h = tt

  stmt_fair : (s : Stmt) → SoundStmt ts s → Fair (Valued ts n k s) (stmt ts n k s)
  unfolding stmt
  stmt_fair (import' t) h = import_fair t (find_import k.imports (name_at ts t))
  stmt_fair (let' t e) h = let_fair t e (compared k.bindings (name_at ts t)) (find k.bindings (name_at ts t)) h.1
  stmt_fair (expr' e) h = told_fair (first_of e) (judge ts n k e).out (judge ts n k e).warns (judge ts n k e).looks (judge_calm e h)

  pub none_fails : (s : Stmt) {k' : Known} {ds : List Diag} {hs : List Held} {ls : List ℕ} → SoundStmt ts s → stmt ts n k s ≡ goes k' ds hs ls
      → errors_in ds ≡ 0 → Unfailed k' × Valued ts n k s
  none_fails s h e = subst (Fair (Valued ts n k s)) e (stmt_fair s h)

-- A search compares no more names than are bound, and there are no more searches than lets and local uses.
use Prim.Native.Nat.{ℕ, suc, ◌+◌, ◌*◌, ◌≤◌}
use mathlib.Core.Path.{◌≡◌, refl, subst}
use mathlib.Core.List.Memᴰ
use mathlib.Core.List.{List, [], ◌∷◌, ◌++◌, append_assoc}
use mathlib.Core.Option.{Option, none, some}
use native.Mathlib.Nat.{suc-mul}
use native.Mathlib.Omega.{arith}
use lib.Dec.{ltb}
use lib.ListN.{length, length-append}
use Rattle.language.specs.Choice.{if'}
use Rattle.language.specs.Lexemes.{same}
use Rattle.language.specs.Tokens.{Content, tokens, contents}
use Rattle.language.specs.Integers.{IntType, u16, low_bits}
use Rattle.language.specs.Sentences.{Expr, literal, sock4, local, path, member, call, slash', Args, none_given, given, named, Stmt, import', let', expr', first_of, expr_size, args_size, stmt_size, program}
use Rattle.language.specs.Values.{Value, is_sized, Ty, ty_void, ty_bool, ty_int, ty_ip4, ty_sock4, ty_bytes, ty_pkt, ty_pkt_gen, ty_time_jump, ty_function, ty_integer, same_ty, is_integral, fits, Param, entry_at, lookup}
use Rattle.language.specs.Terms.{Atom, constant, Term, atom, term_at, term_type, atom_of, constant_of, function_of}
use Rattle.language.specs.Judgements.{integral_too_large, Diag, Judged, val, err, poisoned, stopped, Judgement, judgement, fine, wrong, and_then, goes_on, Known, known, Import, Binding, Held, Turn, goes, refuses, find, find_import, compared, most_imports, most_names, name_at, integer_of, unsized_of, narrowed, used, cut, widened, narrow_to, as_bool, as_bytes, as_it_is, fit, Arg, next_arg, any_named, called_name, fitted, bind_from, bind_all, of_function, applied, left_operand, right_operand, over, membered, judge, judge_args, imported, import_stmt, bound_as, bound, let_stmt, sized, told, stmt, onward, run, judge_all}
use Rattle.language.specs.Names.{let_names, distinct}
use Rattle.language.specs.Numbers.{statements_of, checked, looks_by, sum, comparisons}
use Rattle.language.specs.Comparisons.{uses_in, arg_uses, stmt_uses, all_uses, ComparisonsFew, SearchesFew}
use Rattle.language.proofs.Tests.{each_side}
use Rattle.language.proofs.Each.{Each, of_none, of_one, of_both, each_also}
use Rattle.language.proofs.DistinctNames.{counted, distinct_grows}
use Rattle.language.proofs.Names.{Knows, After, stmt_after, none_known, lets_append}

compared_most : (bs : List Binding) (w : List ℕ) → compared bs w ≤ length bs
unfolding compared
compared_most [] w = omega arith
compared_most (b ∷ bs) w = each_side (λ n. n ≤ suc (length bs)) (same b.name w) (omega arith) (omega (arith, compared_most bs w))

sum_most : (m : ℕ) (ls : List ℕ) → Each (λ l. l ≤ m) ls → sum ls ≤ length ls * m
unfolding sum
sum_most m [] h = omega arith
sum_most m (l ∷ ls) h =
    rw (suc-mul (length ls) m)
    (omega (arith, h.holds l (Memᴰ.head refl), sum_most m ls (record { holds = λ x i. h.holds x (Memᴰ.tail i) })))

-- searches that compare m names at the most, and of which there are no more than u
pub record Looked (m u : ℕ) (ls : List ℕ) : Type 0 where
  pub each : Each (λ l. l ≤ m) ls
  pub few : length ls ≤ u

no_look : {m u : ℕ} → Looked m u []
no_look = record { each = of_none; few = omega arith }

one_look : {m l : ℕ} → l ≤ m → Looked m 1 (l ∷ [])
one_look h = record { each = of_one h; few = omega arith }

looked_both : {m a b : ℕ} {xs ys : List ℕ} → Looked m a xs → Looked m b ys → Looked m (a + b) (xs ++ ys)
looked_both {xs = xs} {ys} h l = record { each = of_both h.each l.each; few = omega (arith, length-append xs ys, h.few, l.few) }

looked_more : {m n a b : ℕ} {ls : List ℕ} → m ≤ n → a ≤ b → Looked m a ls → Looked n b ls
looked_more h l k = record { each = each_also k.each (λ x i. omega (arith, i)); few = omega (arith, k.few) }

-- ---- expressions

module _ (ts : List Content) (n : ℕ) where
  then_looked : {A B : Type 0} {m a b : ℕ} (j : Judgement A) (f : A → Judgement B) → Looked m a j.looks → ((v : A) → Looked m b (f v).looks)
      → Looked m (a + b) (and_then j f).looks
  unfolding and_then
  then_looked {A} {B} {m} {a} {b} j f h g = by j.out
    where
      by : (o : Judged A) → Looked m (a + b) (goes_on o j.warns j.looks f).looks
      by (val v) = looked_both h (g v)
      by (err at w) = looked_more (omega arith) (omega arith) h
      by poisoned = looked_more (omega arith) (omega arith) h
      by (stopped t) = looked_more (omega arith) (omega arith) h

  -- what is added looks for no name
  then_none : {A B : Type 0} {m a : ℕ} (j : Judgement A) (f : A → Judgement B) → Looked m a j.looks → ((v : A) → (f v).looks ≡ [])
      → Looked m a (and_then j f).looks
  then_none j f h g = looked_more (omega arith) (omega arith) (then_looked {b = 0} j f h (λ v. rw (g v) no_look))

  -- and what goes on from nothing looks as often as it goes on
  then_on : {A B : Type 0} {m b : ℕ} (j : Judgement A) (f : A → Judgement B) → j.looks ≡ [] → ((v : A) → Looked m b (f v).looks)
      → Looked m b (and_then j f).looks
  then_on j f h g = looked_more (omega arith) (omega arith) (then_looked {a = 0} j f (rw h no_look) g)

  -- ---- no form looks for a name itself

  abbrev Still : Judgement Term → Type 0
  Still j = j.looks ≡ []

  used_still : (v : Term) → (used v).looks ≡ []
  unfolding used
  used_still v = each_side Still (same_ty ty_void (term_type v)) refl refl

  still_then : {A B : Type 0} (j : Judgement A) (f : A → Judgement B) → j.looks ≡ [] → ((v : A) → (f v).looks ≡ []) → (and_then j f).looks ≡ []
  unfolding and_then
  still_then {A} j f h g = by j.out
    where
      by : (o : Judged A) → (goes_on o j.warns j.looks f).looks ≡ []
      by (val v) = rw (h, g v)
      by (err at w) = h
      by poisoned = h
      by (stopped t) = h

  narrow_still : (t : IntType) (at : ℕ) (o : Judgement Term) (v : Term) → o.looks ≡ [] → (narrow_to n t at o v).looks ≡ []
  unfolding narrow_to
  narrow_still t at o v h = by (constant_of v)
    where
      whole : (c : Option ℕ) → Still (elim c [
        | some m ↦ judgement (val (atom (term_at v) (constant (is_sized t (low_bits t m))))) (cut n at t m)
        | none ↦ o
      ])
      whole (some m) = refl
      whole none = h

      by : (c : Option Value) → Still (elim c [
        | some c ↦ elim (integer_of c) [
          | some m ↦ judgement (val (atom (term_at v) (constant (is_sized t (low_bits t m))))) (cut n at t m)
          | none ↦ o
        ]
        | none ↦ if' (is_integral (term_type v)) (judgement (val v) (widened n at t (term_type v))) o
      ])
      by (some c) = whole (integer_of c)
      by none = each_side Still (is_integral (term_type v)) refl h

  it_is_still : (t : Ty) (o : Judgement Term) (v : Term) → o.looks ≡ [] → (as_it_is t o v).looks ≡ []
  it_is_still t o v h = each_side Still (fits t (term_type v)) refl h

  fit_still : (t : Ty) (at : ℕ) (o : Judgement Term) (v : Term) → o.looks ≡ [] → (fit n t at o v).looks ≡ []
  unfolding fit
  fit_still (ty_int t) at o v h = narrow_still t at o v h
  fit_still ty_bool at o v h =
      elim (unsized_of v) as (λ u. Still (elim u [ some m ↦ as_bool v m | none ↦ as_it_is ty_bool o v ])) [
        | some m ↦ refl
        | none ↦ it_is_still ty_bool o v h
      ]
  fit_still ty_bytes at o v h =
      elim (unsized_of v) as (λ u. Still (elim u [ some m ↦ as_bytes at v | none ↦ as_it_is ty_bytes o v ])) [
        | some m ↦ elim (narrowed v) as (λ w. Still (elim w [ some x ↦ fine x | none ↦ wrong at integral_too_large ])) [ some x ↦ refl | none ↦ refl ]
        | none ↦ it_is_still ty_bytes o v h
      ]
  fit_still ty_void at o v h = it_is_still ty_void o v h
  fit_still ty_ip4 at o v h = it_is_still ty_ip4 o v h
  fit_still ty_sock4 at o v h = it_is_still ty_sock4 o v h
  fit_still ty_pkt at o v h = it_is_still ty_pkt o v h
  fit_still ty_pkt_gen at o v h = it_is_still ty_pkt_gen o v h
  fit_still ty_time_jump at o v h = it_is_still ty_time_jump o v h
  fit_still (ty_function k) at o v h = it_is_still (ty_function k) o v h
  fit_still ty_integer at o v h = it_is_still ty_integer o v h

  bind_still : (at f many wanted i : ℕ) (ps : List Param) (gs : List Arg) → (bind_from n at f many wanted i ps gs).looks ≡ []
  unfolding bind_from
  bind_still at f many wanted i [] [] = refl
  bind_still at f many wanted i [] (a ∷ gs) = refl
  bind_still at f many wanted i (p ∷ ps) [] = refl
  bind_still at f many wanted i (p ∷ ps) (a ∷ gs) =
      still_then (fitted n at f many wanted i p a) _ (fit_still p.type a.at _ a.term refl)
      (λ v. still_then (bind_from n at f many wanted (suc i) ps gs) _ (bind_still at f many wanted (suc i) ps gs) (λ vs. refl))

  membered_still : (t : ℕ) (o : Term) → (membered t o).looks ≡ []
  unfolding membered
  membered_still t o = still_then (used o) _ (used_still o) (λ v. refl)

  -- ---- expressions

  over_looked : {m u : ℕ} (at p : ℕ) (j : Judgement Term) (a : Term) → Looked m u j.looks → Looked m u (over n at p j a).looks
  unfolding over
  over_looked at p j a h =
      then_on (used a) _ (used_still a) (λ v.
      then_on (left_operand v) _ (each_side Still (same_ty ty_ip4 (term_type v)) refl refl) (λ ip.
      then_none j _ h (λ b. still_then (used b) _ (used_still b) (λ w.
      still_then (right_operand n p w) _ (narrow_still u16 p _ w refl) (λ port. refl)))))

  applied_looked : {m u : ℕ} (at p : ℕ) (g : Args) (j : Judgement (List Arg)) (c : Term) → Looked m u j.looks
      → Looked m u (applied n at p g j c).looks
  unfolding applied
  applied_looked {m} {u} at p g j c h = then_on (used c) _ (used_still c) (λ d. by d (function_of (term_type d)))
    where
      by : (d : Term) (o : Option ℕ) → Looked m u (of_function n at p g j d o).looks
      by d none = no_look
      by d (some f) =
          each_side (λ (i : Judgement Term). Looked m u i.looks) (any_named g) no_look
          (then_none j _ h (λ gs. still_then (bind_all n at f gs) _ (bind_still at f _ _ 0 (entry_at f).params gs) (λ vs. refl)))

  next_looked : {m u : ℕ} (at : ℕ) (j : Judgement Term) (gs : List Arg) → Looked m u j.looks → Looked m u (next_arg at j gs).looks
  unfolding next_arg
  next_looked at j gs h = then_none j _ h (λ v. still_then (used v) _ (used_still v) (λ w. refl))

  mutual
    unfolding judge judge_args uses_in arg_uses

    pub judge_looked : (k : Known) (e : Expr) → Looked (length k.bindings) (uses_in e) (judge ts n k e).looks
    judge_looked k (literal t) = no_look
    judge_looked k (sock4 t) = no_look
    judge_looked k (local t) = one_look (compared_most k.bindings (name_at ts t))
    judge_looked k (path t m) = no_look
    judge_looked k (member e t) = then_none (judge ts n k e) _ (judge_looked k e) (membered_still t)
    judge_looked k (slash' a b) =
        then_looked (judge ts n k a) _ (judge_looked k a) (λ v. over_looked (first_of a) (first_of b) (judge ts n k b) v (judge_looked k b))
    judge_looked k (call e t g) =
        then_looked (judge ts n k e) _ (judge_looked k e) (λ v. applied_looked (called_name e) t g (judge_args ts n k g) v (args_looked k g))

    args_looked : (k : Known) (g : Args) → Looked (length k.bindings) (arg_uses g) (judge_args ts n k g).looks
    args_looked k none_given = no_look
    args_looked k (given g e) =
        then_looked (judge_args ts n k g) _ (args_looked k g) (λ gs. next_looked (first_of e) (judge ts n k e) gs (judge_looked k e))
    args_looked k (named g t e) =
        then_looked (judge_args ts n k g) _ (args_looked k g) (λ gs. next_looked (first_of e) (judge ts n k e) gs (judge_looked k e))

  value_looked : (k : Known) (e : Expr) → Looked (length k.bindings) (uses_in e) (and_then (judge ts n k e) used).looks
  value_looked k e = then_none (judge ts n k e) _ (judge_looked k e) used_still

  -- ---- statements

  abbrev Turned : ℕ → ℕ → Turn → Type 0
  Turned m u (goes k ds hs ls) = Looked m u ls
  Turned m u (refuses v t) = Unit

  module _ (k : Known) {m u : ℕ} where
    as_looked : (t : ℕ) (v : Term) (o : Option Atom) (ws : List Diag) (ls : List ℕ) → Looked m u ls → Turned m u (bound_as ts n k t v o ws ls)
    as_looked t v (some a) ws ls h = h
    as_looked t v none ws ls h = h

    bound_looked : (t : ℕ) (o : Judged Term) (ws : List Diag) (ls : List ℕ) → Looked m u ls → Turned m u (bound ts n k t o ws ls)
    bound_looked t (val v) ws ls h = as_looked t v (atom_of v) ws ls h
    bound_looked t (err at w) ws ls h = h
    bound_looked t poisoned ws ls h = h
    bound_looked t (stopped p) ws ls h = tt

    sized_looked : (at : ℕ) (o : Option Term) (ws : List Diag) (ls : List ℕ) → Looked m u ls → Turned m u (sized ts n k at o ws ls)
    sized_looked at (some v) ws ls h = h
    sized_looked at none ws ls h = h

    told_looked : (at : ℕ) (o : Judged Term) (ws : List Diag) (ls : List ℕ) → Looked m u ls → Turned m u (told ts n k at o ws ls)
    told_looked at (val v) ws ls h = sized_looked at (narrowed v) ws ls h
    told_looked at (err p w) ws ls h = h
    told_looked at poisoned ws ls h = h
    told_looked at (stopped p) ws ls h = tt

  module _ (k : Known) (m u : ℕ) where
    imported_looked : (t : ℕ) (o : Option ℕ) → Turned m u (imported ts n k t o)
    imported_looked t (some i) = no_look
    imported_looked t none = no_look

    import_looked : (t : ℕ) (o : Option Import) → Turned m u (import_stmt ts n k t o)
    import_looked t (some i) = no_look
    import_looked t none = each_side (Turned m u) (ltb (length k.imports) most_imports) (imported_looked t (lookup 0 (name_at ts t))) tt

  let_looked : (k : Known) (t : ℕ) (e : Expr) (l : ℕ) (o : Option Binding) → l ≤ length k.bindings
      → Turned (length k.bindings) (1 + uses_in e) (let_stmt ts n k t e l o)
  let_looked k t e l (some b) h = looked_more (omega arith) (omega arith) (one_look h)
  let_looked k t e l none h =
      each_side (Turned (length k.bindings) (1 + uses_in e)) (ltb (length k.bindings) most_names)
      (let j = and_then (judge ts n k e) used in
      bound_looked k t j.out j.warns (l ∷ j.looks) (looked_both (one_look h) (value_looked k e))) tt

  stmt_looked : (k : Known) (s : Stmt) → Turned (length k.bindings) (stmt_uses s) (stmt ts n k s)
  unfolding stmt
  stmt_looked k (import' t) = import_looked k _ _ t (find_import k.imports (name_at ts t))
  stmt_looked k (let' t e) =
      let_looked k t e (compared k.bindings (name_at ts t)) (find k.bindings (name_at ts t)) (compared_most k.bindings (name_at ts t))
  stmt_looked k (expr' e) =
      told_looked k (first_of e) (judge ts n k e).out (judge ts n k e).warns (judge ts n k e).looks (judge_looked k e)

-- ---- what they compare, by the nodes of a tree

mutual
  unfolding uses_in arg_uses

  uses_few : (e : Expr) → uses_in e ≤ expr_size e
  uses_few (literal t) = omega arith
  uses_few (sock4 t) = omega arith
  uses_few (local t) = omega arith
  uses_few (path t m) = omega arith
  uses_few (member e t) = omega (arith, uses_few e)
  uses_few (slash' a b) = omega (arith, uses_few a, uses_few b)
  uses_few (call e t g) = omega (arith, uses_few e, arg_uses_few g)

  arg_uses_few : (g : Args) → arg_uses g ≤ args_size g
  arg_uses_few none_given = omega arith
  arg_uses_few (given g e) = omega (arith, arg_uses_few g, uses_few e)
  arg_uses_few (named g t e) = omega (arith, arg_uses_few g, uses_few e)

stmt_uses_few : (s : Stmt) → stmt_uses s ≤ stmt_size s
stmt_uses_few (import' t) = omega arith
stmt_uses_few (let' t e) = omega (arith, uses_few e)
stmt_uses_few (expr' e) = omega (arith, uses_few e)

-- at the most 512 for each node
most_compared_lem : {m u size : ℕ} {ls : List ℕ} → Looked m u ls → m ≤ most_names → u ≤ size → sum ls ≤ most_names * size
most_compared_lem {ls = ls} l h k =
    omega (arith, l.few, sum_most most_names ls (each_also l.each (λ x i. omega (arith, i))))

pub judge_compares : (ts : List Content) (n : ℕ) (k : Known) (e : Expr) → length k.bindings ≤ most_names
    → sum (judge ts n k e).looks ≤ most_names * expr_size e
judge_compares ts n k e h = most_compared_lem (judge_looked ts n k e) h (uses_few e)

pub stmt_compares : (ts : List Content) (n : ℕ) (k : Known) (s : Stmt) {k' : Known} {ds : List Diag} {hs : List Held} {ls : List ℕ}
    → stmt ts n k s ≡ goes k' ds hs ls → length k.bindings ≤ most_names → sum ls ≤ most_names * stmt_size s
stmt_compares ts n k s e h = most_compared_lem (subst (Turned ts n (length k.bindings) (stmt_uses s)) e (stmt_looked ts n k s)) h (stmt_uses_few s)

-- ---- the run

module _ (ts : List Content) where
  -- the names that are bound after statements
  abbrev names_after : List Stmt → ℕ
  names_after ss = length (distinct (let_names ts ss))

  names_grow : (us vs : List Stmt) → names_after us ≤ names_after (us ++ vs)
  names_grow us vs = rw (lets_append ts us vs) (distinct_grows (let_names ts us) (let_names ts vs))

  run_looked : (ss us : List Stmt) (n : ℕ) (k : Known) (ds : List Diag) (hs : List Held) (ls : List ℕ) (a : ℕ) → Knows ts us k
      → Looked (names_after (us ++ ss)) a ls → Looked (names_after (us ++ ss)) (a + all_uses ss) (looks_by (run ts ss n k ds hs ls))
  unfolding run all_uses After
  run_looked [] us n k ds hs ls a h l = looked_more (omega arith) (omega arith) l
  run_looked (s ∷ ss) us n k ds hs ls a h l =
      by (stmt ts n k s) (stmt_after ts us k h n s) (stmt_looked ts n k s)
      (λ k' es gs ms b i j. run_looked ss (us ++ s ∷ []) (suc n) k' es gs ms b i j)
    where
      at_end : (us ++ s ∷ []) ++ ss ≡ us ++ s ∷ ss
      at_end = append_assoc us (s ∷ []) ss

      here : length k.bindings ≤ names_after (us ++ s ∷ ss)
      here = omega (arith, counted _ h.lets, names_grow us (s ∷ ss))

      by : (t : Turn) → After ts us s t → Turned ts n (length k.bindings) (stmt_uses s) t
          → ((k' : Known) (es : List Diag) (gs : List Held) (ms : List ℕ) (b : ℕ) → Knows ts (us ++ s ∷ []) k'
          → Looked (names_after ((us ++ s ∷ []) ++ ss)) b ms
          → Looked (names_after ((us ++ s ∷ []) ++ ss)) (b + all_uses ss) (looks_by (run ts ss (suc n) k' es gs ms)))
          → Looked (names_after (us ++ s ∷ ss)) (a + (stmt_uses s + all_uses ss)) (looks_by (onward ts t ds hs ls (λ k' es gs ms. run ts ss (suc n) k' es gs ms)))
      by (refuses v t) p q rest = no_look
      by (goes k' es gs ms) p q rest =
          let now : Looked (names_after (us ++ s ∷ ss)) (a + stmt_uses s) (ls ++ ms) = looked_both l (looked_more here (omega arith) q) in
          looked_more (omega arith) (omega arith) (rw at_end at (rest k' (ds ++ es) (hs ++ gs) (ls ++ ms) (a + stmt_uses s) p.0 (rw at_end now)))

  all_looked : (ss : List Stmt) → Looked (names_after ss) (all_uses ss) (looks_by (judge_all ts ss))
  all_looked ss = looked_more (omega arith) (omega arith) (run_looked ss [] 1 (known [] [] 0) [] [] [] 0 (none_known ts) no_look)

pub comparisons_few : ComparisonsFew
unfolding comparisons checked
comparisons_few s =
    let cs = contents (tokens s) in
    sum_most (names_after cs (statements_of (program cs))) (looks_by (judge_all cs (statements_of (program cs)))) (all_looked cs (statements_of (program cs))).each

pub searches_few : SearchesFew
unfolding checked
searches_few s = let cs = contents (tokens s) in (all_looked cs (statements_of (program cs))).few

pub sum_append : (xs ys : List ℕ) → sum (xs ++ ys) ≡ sum xs + sum ys
unfolding sum
sum_append [] ys = omega arith
sum_append (x ∷ xs) ys = rw (sum_append xs ys) (omega arith)

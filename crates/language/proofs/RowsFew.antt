-- A statement has no more rows than nodes.
use Prim.Native.Nat.{ℕ, zero, suc, ◌+◌, ◌≤◌}
use mathlib.Core.Path.{◌≡◌, refl, subst}
use mathlib.Core.Bool.{not}
use mathlib.Core.List.{List, [], ◌∷◌, ◌++◌}
use mathlib.Core.Option.{Option, none, some}
use native.Mathlib.Omega.{arith}
use lib.Dec.{ltb, eqb}
use lib.ListN.{length, length-append}
use Rattle.language.specs.Choice.{if'}
use Rattle.language.specs.Integers.{IntType, u16, smallest, low_bits}
use Rattle.language.specs.Tokens.{Content}
use Rattle.language.specs.Tables.{content_low}
use Rattle.language.specs.Sentences.{Expr, literal, sock4, local, path, member, call, slash', Args, none_given, given, named, Stmt, import', let', expr', first_of, expr_size, args_size, stmt_size, program_size}
use Rattle.language.specs.Values.{Value, is_bool, is_sized, is_sock4, Ty, ty_void, ty_bool, ty_int, ty_ip4, ty_sock4, ty_bytes, ty_pkt, ty_pkt_gen, ty_time_jump, ty_function, ty_integer, same_ty, is_integral, fits, Param, entry_at, lookup}
use Rattle.language.specs.Terms.{Atom, constant, Term, atom, called, divided, Terms, no_more, more, term_at, term_type, atom_of, constant_of, function_of}
use Rattle.language.specs.Judgements.{integral_too_large, unknown_item, Diag, Judged, val, err, poisoned, stopped, Judgement, judgement, fine, wrong, and_then, goes_on, Known, known, Import, Binding, lets, deed_of, Held, held, Turn, goes, refuses, Outcome, judged, refused, find, find_import, compared, most_imports, most_names, name_at, content, literal_at, integer_of, unsized_of, narrowed, last_item, inner_item, walk, below, bound_to, used, cut, widened, narrow_to, as_bool, as_bytes, as_it_is, fit, Arg, arg, next_arg, any_named, called_name, fitted, bind_from, bind_all, of_function, applied, left_operand, right_operand, folded, known_ip4, known_integer, joined, over, membered, judge, judge_args, imported, import_stmt, bound_as, bound, let_stmt, sized, told, stmt, onward, run}
use Rattle.language.specs.Findings.{part, parts, arg_parts, rows_of}
use Rattle.language.specs.Slots.{RowsFew}
use Rattle.language.proofs.Tests.{never, each_side}

-- ---- how many rows

abbrev rows : Term → ℕ
rows v = suc (length (parts v))

abbrev rows_all : Terms → ℕ
rows_all no_more = 0
rows_all (more v vs) = rows v + rows_all vs

rows_given : List Arg → ℕ
rows_given [] = 0
rows_given (a ∷ gs) = rows a.term + rows_given gs

given_append : (gs : List Arg) (a : Arg) → rows_given (gs ++ a ∷ []) ≡ rows_given gs + rows a.term
unfolding rows_given
given_append [] a = omega arith
given_append (b ∷ gs) a = omega (arith, given_append gs a)

args_rows : (i : ℕ) (vs : Terms) → length (arg_parts i vs) ≡ rows_all vs
unfolding parts arg_parts
args_rows i no_more = refl
args_rows i (more v vs) = omega (arith, length-append (parts v) (arg_parts (suc i) vs), args_rows (suc i) vs)

atom_rows : (p : ℕ) (a : Atom) → rows (atom p a) ≡ 1
unfolding parts arg_parts
atom_rows p a = refl

called_rows : (p : ℕ) (c : Term) (f : ℕ) (vs : Terms) → rows (called p c f vs) ≡ 1 + rows c + rows_all vs
unfolding parts arg_parts
called_rows p c f vs = omega (arith, length-append (parts c) (arg_parts 0 vs), args_rows 0 vs)

divided_rows : (p : ℕ) (a b : Term) → rows (divided p a b) ≡ 1 + rows a + rows b
unfolding parts arg_parts
divided_rows p a b = omega (arith, length-append (parts a) (part 9 0 b ∷ parts b))

-- ---- what a judgement comes to, if to a value

abbrev Holding : {C : Type 0} → (C → Type 0) → Judged C → Type 0
Holding R (val v) = R v
Holding R (err at w) = Unit {0}
Holding R poisoned = Unit {0}
Holding R (stopped t) = Unit {0}

then_holds : {A B : Type 0} (P : A → Type 0) (Q : B → Type 0) (j : Judgement A) (f : A → Judgement B) → Holding P j.out
    → ((v : A) → P v → Holding Q (f v).out) → Holding Q (and_then j f).out
unfolding and_then
then_holds {A} P Q j f h g = by j.out h
  where
    by : (o : Judged A) → Holding P o → Holding Q (goes_on o j.warns j.looks f).out
    by (val v) r = g v r
    by (err at w) r = tt
    by poisoned r = tt
    by (stopped t) r = tt

-- no more rows than b
abbrev Few : ℕ → Term → Type 0
Few b v = rows v ≤ b

abbrev Most : ℕ → Judgement Term → Type 0
Most b j = Holding (Few b) j.out

used_most : (b : ℕ) (v : Term) → rows v ≤ b → Most b (used v)
unfolding used
used_most b v h = each_side (Most b) (same_ty ty_void (term_type v)) tt h

narrowed_most : (b : ℕ) (v : Term) → rows v ≤ b → (w : Term) → narrowed v ≡ some w → rows w ≤ b
unfolding narrowed
narrowed_most b v h w e = by (unsized_of v) e
  where
    sized' : (i : ℕ) (o : Option IntType) → (elim o [ some t ↦ some (atom (term_at v) (constant (is_sized t i))) | none ↦ none ]) ≡ some w → rows w ≤ b
    sized' i (some t) q =
        let z : atom (term_at v) (constant (is_sized t i)) ≡ w = cc in
        rw (← z) (omega (arith, atom_rows (term_at v) (constant (is_sized t i))))
    sized' i none q = never (cc)

    by : (o : Option ℕ) → (elim o [
      | some i ↦ elim (smallest i) [ some t ↦ some (atom (term_at v) (constant (is_sized t i))) | none ↦ none ]
      | none ↦ some v
    ]) ≡ some w → rows w ≤ b
    by (some i) q = sized' i (smallest i) q
    by none q = let z : v ≡ w = cc in rw (← z) h

module _ (n b : ℕ) where
  narrow_most : (t : IntType) (at : ℕ) (o : Judgement Term) (v : Term) → rows v ≤ b → Most b o → Most b (narrow_to n t at o v)
  unfolding narrow_to
  narrow_most t at o v h g = by (constant_of v)
    where
      whole : (c : Option ℕ) → Most b (elim c [
        | some m ↦ judgement (val (atom (term_at v) (constant (is_sized t (low_bits t m))))) (cut n at t m)
        | none ↦ o
      ])
      whole (some m) = omega (arith, atom_rows (term_at v) (constant (is_sized t (low_bits t m))))
      whole none = g

      by : (c : Option Value) → Most b (elim c [
        | some c ↦ elim (integer_of c) [
          | some m ↦ judgement (val (atom (term_at v) (constant (is_sized t (low_bits t m))))) (cut n at t m)
          | none ↦ o
        ]
        | none ↦ if' (is_integral (term_type v)) (judgement (val v) (widened n at t (term_type v))) o
      ])
      by (some c) = whole (integer_of c)
      by none = each_side (Most b) (is_integral (term_type v)) h g

  it_is_most : (t : Ty) (o : Judgement Term) (v : Term) → rows v ≤ b → Most b o → Most b (as_it_is t o v)
  it_is_most t o v h g = each_side (Most b) (fits t (term_type v)) h g

  bytes_most : (at : ℕ) (v : Term) → rows v ≤ b → Most b (as_bytes at v)
  bytes_most at v h = by (narrowed v) (narrowed_most b v h)
    where
      by : (o : Option Term) → ((w : Term) → o ≡ some w → rows w ≤ b) → Most b (elim o [ some w ↦ fine w | none ↦ wrong at integral_too_large ])
      by (some w) f = f w refl
      by none f = tt

  fit_most : (t : Ty) (at : ℕ) (o : Judgement Term) (v : Term) → rows v ≤ b → Most b o → Most b (fit n t at o v)
  unfolding fit
  fit_most (ty_int t) at o v h g = narrow_most t at o v h g
  fit_most ty_bool at o v h g =
      elim (unsized_of v) as (λ u. Most b (elim u [ some m ↦ as_bool v m | none ↦ as_it_is ty_bool o v ])) [
        | some m ↦ omega (arith, atom_rows (term_at v) (constant (is_bool (not (eqb m 0)))))
        | none ↦ it_is_most ty_bool o v h g
      ]
  fit_most ty_bytes at o v h g =
      elim (unsized_of v) as (λ u. Most b (elim u [ some m ↦ as_bytes at v | none ↦ as_it_is ty_bytes o v ])) [
        | some m ↦ bytes_most at v h
        | none ↦ it_is_most ty_bytes o v h g
      ]
  fit_most ty_void at o v h g = it_is_most ty_void o v h g
  fit_most ty_ip4 at o v h g = it_is_most ty_ip4 o v h g
  fit_most ty_sock4 at o v h g = it_is_most ty_sock4 o v h g
  fit_most ty_pkt at o v h g = it_is_most ty_pkt o v h g
  fit_most ty_pkt_gen at o v h g = it_is_most ty_pkt_gen o v h g
  fit_most ty_time_jump at o v h g = it_is_most ty_time_jump o v h g
  fit_most (ty_function k) at o v h g = it_is_most (ty_function k) o v h g
  fit_most ty_integer at o v h g = it_is_most ty_integer o v h g

module _ (n : ℕ) where
  bind_most : (at f many wanted i : ℕ) (ps : List Param) (gs : List Arg)
      → Holding (λ vs. rows_all vs ≤ rows_given gs) (bind_from n at f many wanted i ps gs).out
  unfolding bind_from rows_given
  bind_most at f many wanted i [] [] = omega arith
  bind_most at f many wanted i [] (a ∷ gs) = tt
  bind_most at f many wanted i (p ∷ ps) [] = tt
  bind_most at f many wanted i (p ∷ ps) (a ∷ gs) =
      then_holds (Few (rows a.term)) (λ vs. rows_all vs ≤ rows a.term + rows_given gs) (fitted n at f many wanted i p a) _
      (fit_most n (rows a.term) p.type a.at _ a.term (omega arith) tt) (λ v h.
      then_holds (λ vs. rows_all vs ≤ rows_given gs) (λ vs. rows_all vs ≤ rows a.term + rows_given gs) (bind_from n at f many wanted (suc i) ps gs) _
      (bind_most at f many wanted (suc i) ps gs) (λ vs l. omega (arith, h, l)))

  applied_most : (at p : ℕ) (g : Args) (j : Judgement (List Arg)) (c : Term) (a b : ℕ) → rows c ≤ a → Holding (λ gs. rows_given gs ≤ b) j.out
      → Most (a + b + 1) (applied n at p g j c)
  unfolding applied
  applied_most at p g j c a b h l = then_holds (Few a) (Few (a + b + 1)) (used c) _ (used_most a c h) (λ d k. by d k (function_of (term_type d)))
    where
      by : (d : Term) → rows d ≤ a → (o : Option ℕ) → Most (a + b + 1) (of_function n at p g j d o)
      by d k none = tt
      by d k (some f) =
          each_side (Most (a + b + 1)) (any_named g) tt
          (then_holds (λ gs. rows_given gs ≤ b) (Few (a + b + 1)) j _ l (λ gs m.
          then_holds (λ vs. rows_all vs ≤ rows_given gs) (Few (a + b + 1)) (bind_all n at f gs) _ (bind_most at f _ _ 0 (entry_at f).params gs)
          (λ vs y. omega (arith, called_rows at d f vs, k, m, y))))

  joined_most : (at : ℕ) (x y : Term) (a b : ℕ) → rows x ≤ a → rows y ≤ b → rows (joined at x y) ≤ a + b + 1
  joined_most at x y a b h l = by (known_ip4 x) (known_integer y)
    where
      by : (o q : Option ℕ) → rows (folded at x y o q) ≤ a + b + 1
      by (some ip) (some port) = omega (arith, atom_rows at (constant (is_sock4 ip port)))
      by (some ip) none = omega (arith, divided_rows at x y, h, l)
      by none q = omega (arith, divided_rows at x y, h, l)

  over_most : (at p : ℕ) (j : Judgement Term) (c : Term) (a b : ℕ) → rows c ≤ a → Most b j → Most (a + b + 1) (over n at p j c)
  unfolding over
  over_most at p j c a b h l =
      then_holds (Few a) (Few (a + b + 1)) (used c) _ (used_most a c h) (λ v k.
      then_holds (Few a) (Few (a + b + 1)) (left_operand v) _ (each_side (Most a) (same_ty ty_ip4 (term_type v)) k tt) (λ ip i.
      then_holds (Few b) (Few (a + b + 1)) j _ l (λ y m.
      then_holds (Few b) (Few (a + b + 1)) (used y) _ (used_most b y m) (λ w z.
      then_holds (Few b) (Few (a + b + 1)) (right_operand n p w) _ (narrow_most n b u16 p _ w z tt) (λ port q. joined_most at ip port a b i q)))))

  next_most : (at : ℕ) (j : Judgement Term) (gs : List Arg) (a b : ℕ) → rows_given gs ≤ a → Most b j
      → Holding (λ hs. rows_given hs ≤ a + b + 1) (next_arg at j gs).out
  unfolding next_arg
  next_most at j gs a b h l =
      then_holds (Few b) (λ hs. rows_given hs ≤ a + b + 1) j _ l (λ v k.
      then_holds (Few b) (λ hs. rows_given hs ≤ a + b + 1) (used v) _ (used_most b v k) (λ w m. omega (arith, given_append gs (arg at w), h, m)))

module _ (ts : List Content) (n : ℕ) (k : Known) where
  bound_most : (t : ℕ) (o : Option Binding) (b : ℕ) → 1 ≤ b → Holding (Few b) (bound_to ts t o)
  bound_most t none b h = tt
  bound_most t (some c) b h =
      elim c.value as (λ o. Holding (Few b) (elim o [ some a ↦ val (atom t a) | none ↦ poisoned ])) [
        | some a ↦ omega (arith, atom_rows t a)
        | none ↦ tt
      ]

  last_most : (b p t : ℕ) (o : Option Value) → 1 ≤ b → Holding (Few b) (last_item ts p t o)
  last_most b p t (some v) h = omega (arith, atom_rows p (constant v))
  last_most b p t none h = tt

  inner_most : (b t : ℕ) (o : Option Value) (j : Judged Term) → Holding (Few b) j → Holding (Few b) (inner_item ts t o j)
  inner_most b t (some v) j h = tt
  inner_most b t none j h = h

  walk_most : (b p i m t : ℕ) → 1 ≤ b → Holding (Few b) (walk ts p i m t)
  unfolding walk
  walk_most b p zero m t h = tt
  walk_most b p (suc zero) m t h =
      elim (lookup m (name_at ts (t + 2)))
      as (λ o. Holding (Few b) (elim o [ none ↦ err (t + 2) (unknown_item m) | some j ↦ last_item ts p (t + 2) (entry_at j).value ])) [
        | none ↦ tt
        | some j ↦ last_most b p (t + 2) (entry_at j).value h
      ]
  walk_most b p (suc (suc i)) m t h = by (lookup m (name_at ts (t + 2))) (λ j. walk_most b p (suc i) j (t + 2) h)
    where
      by : (o : Option ℕ) → ((j : ℕ) → Holding (Few b) (walk ts p (suc i) j (t + 2)))
          → Holding (Few b) (elim o [
            | none ↦ err (t + 2) (unknown_item m)
            | some j ↦ inner_item ts (t + 2) (entry_at j).value (walk ts p (suc i) j (t + 2))
          ])
      by none f = tt
      by (some j) f = inner_most b (t + 2) (entry_at j).value _ (f j)

  below_most : (b t m : ℕ) (o : Option Import) → 1 ≤ b → Holding (Few b) (below ts t m o)
  below_most b t m none h = tt
  below_most b t m (some i) h =
      elim i.found as (λ o. Holding (Few b) (elim o [ none ↦ poisoned | some j ↦ walk ts t m j t ])) [
        | none ↦ tt
        | some j ↦ walk_most b t m j t h
      ]

  membered_most : (b t : ℕ) (o : Term) → Most b (membered t o)
  unfolding membered
  membered_most b t o = then_holds (λ v. Unit {0}) (Few b) (used o) _ (any (used o).out) (λ v h. tt)
    where
      any : (q : Judged Term) → Holding (λ v. Unit {0}) q
      any (val v) = tt
      any (err at w) = tt
      any poisoned = tt
      any (stopped u) = tt

  mutual
    unfolding judge judge_args rows_given

    judge_most : (e : Expr) → Most (expr_size e) (judge ts n k e)
    judge_most (literal t) = omega (arith, atom_rows t (constant (literal_at ts t)))
    judge_most (sock4 t) = omega (arith, atom_rows t (constant (is_sock4 (content_low (content ts t)) (content_low (content ts (t + 2))))))
    judge_most (local t) = bound_most t (find k.bindings (name_at ts t)) 1 (omega arith)
    judge_most (path t m) = below_most (m + 1) t m (find_import k.imports (name_at ts t)) (omega arith)
    judge_most (member e t) =
        then_holds (Few (expr_size e)) (Few (expr_size e + 1)) (judge ts n k e) _ (judge_most e) (λ v h. membered_most (expr_size e + 1) t v)
    judge_most (slash' a b) =
        then_holds (Few (expr_size a)) (Few (expr_size a + expr_size b + 1)) (judge ts n k a) _ (judge_most a)
        (λ v h. over_most n (first_of a) (first_of b) (judge ts n k b) v (expr_size a) (expr_size b) h (judge_most b))
    judge_most (call e t g) =
        then_holds (Few (expr_size e)) (Few (expr_size e + args_size g + 1)) (judge ts n k e) _ (judge_most e)
        (λ v h. applied_most n (called_name e) t g (judge_args ts n k g) v (expr_size e) (args_size g) h (args_most g))

    args_most : (g : Args) → Holding (λ gs. rows_given gs ≤ args_size g) (judge_args ts n k g).out
    args_most none_given = omega arith
    args_most (given g e) =
        then_holds (λ gs. rows_given gs ≤ args_size g) (λ gs. rows_given gs ≤ args_size g + expr_size e + 1) (judge_args ts n k g) _ (args_most g)
        (λ gs h. next_most n (first_of e) (judge ts n k e) gs (args_size g) (expr_size e) h (judge_most e))
    args_most (named g t e) =
        then_holds (λ gs. rows_given gs ≤ args_size g) (λ gs. rows_given gs ≤ args_size g + expr_size e + 1) (judge_args ts n k g) _ (args_most g)
        (λ gs h. next_most n (first_of e) (judge ts n k e) gs (args_size g) (expr_size e) h (judge_most e))

  -- an expression that comes to a value has no more rows than nodes, its own among them
  pub judge_rows : (e : Expr) {v : Term} → (judge ts n k e).out ≡ val v → suc (length (parts v)) ≤ expr_size e
  judge_rows e q = subst (Holding (Few (expr_size e))) q (judge_most e)

  -- and a path has its own alone
  pub path_rows : (t m : ℕ) {v : Term} → (judge ts n k (path t m)).out ≡ val v → length (parts v) ≤ 0
  unfolding judge
  path_rows t m q = let z = subst (Holding (Few 1)) q (below_most 1 t m (find_import k.imports (name_at ts t)) (omega arith)) in omega (arith, z)

  -- ---- statements

  abbrev Turned : ℕ → Turn → Type 0
  Turned b (goes j ds hs ls) = length (rows_of hs) ≤ b
  Turned b (refuses m t) = Unit {0}

  one_row : (h : Held) (b : ℕ) → rows h.term ≤ b → length (rows_of (h ∷ [])) ≤ b
  unfolding rows_of
  one_row h b l = omega (arith, length-append (parts h.term) [])

  imported_turned : (t : ℕ) (o : Option ℕ) → Turned 1 (imported ts n k t o)
  unfolding rows_of
  imported_turned t (some m) = omega arith
  imported_turned t none = omega arith

  import_turned : (t : ℕ) (o : Option Import) → Turned 1 (import_stmt ts n k t o)
  unfolding rows_of
  import_turned t (some i) = omega arith
  import_turned t none = each_side (Turned 1) (ltb (length k.imports) most_imports) (imported_turned t (lookup 0 (name_at ts t))) tt

  as_turned : (b t : ℕ) (v : Term) (o : Option Atom) (ws : List Diag) (ls : List ℕ) → rows v ≤ b → Turned b (bound_as ts n k t v o ws ls)
  unfolding rows_of
  as_turned b t v (some a) ws ls h = omega arith
  as_turned b t v none ws ls h = one_row (held t (lets k.slots) v) b h

  bound_turned : (b t : ℕ) (o : Judged Term) (ws : List Diag) (ls : List ℕ) → Holding (Few b) o → Turned b (bound ts n k t o ws ls)
  unfolding rows_of
  bound_turned b t (val v) ws ls h = as_turned b t v (atom_of v) ws ls h
  bound_turned b t (err at w) ws ls h = omega arith
  bound_turned b t poisoned ws ls h = omega arith
  bound_turned b t (stopped p) ws ls h = tt

  let_turned : (t : ℕ) (e : Expr) (l : ℕ) (o : Option Binding) → Turned (expr_size e + 1) (let_stmt ts n k t e l o)
  unfolding rows_of
  let_turned t e l (some b) = omega arith
  let_turned t e l none =
      let j = and_then (judge ts n k e) used in
      let m : Most (expr_size e + 1) j =
      then_holds (Few (expr_size e)) (Few (expr_size e + 1)) (judge ts n k e) _ (judge_most e) (λ v h. used_most (expr_size e + 1) v (omega (arith, h)))
      in each_side (Turned (expr_size e + 1)) (ltb (length k.bindings) most_names) (bound_turned (expr_size e + 1) t j.out j.warns (l ∷ j.looks) m) tt

  sized_turned : (b at : ℕ) (o : Option Term) (ws : List Diag) (ls : List ℕ) → ((w : Term) → o ≡ some w → rows w ≤ b) → Turned b (sized ts n k at o ws ls)
  unfolding rows_of
  sized_turned b at (some v) ws ls h = one_row (held at (deed_of (term_type v)) v) b (h v refl)
  sized_turned b at none ws ls h = omega arith

  told_turned : (b at : ℕ) (o : Judged Term) (ws : List Diag) (ls : List ℕ) → Holding (Few b) o → Turned b (told ts n k at o ws ls)
  unfolding rows_of
  told_turned b at (val v) ws ls h = sized_turned b at (narrowed v) ws ls (narrowed_most b v h)
  told_turned b at (err p w) ws ls h = omega arith
  told_turned b at poisoned ws ls h = omega arith
  told_turned b at (stopped p) ws ls h = tt

  turned_more : (a b : ℕ) (o : Turn) → a ≤ b → Turned a o → Turned b o
  turned_more a b (goes j ds hs ls) h l = omega (arith, h, l)
  turned_more a b (refuses m t) h l = tt

  stmt_turned : (s : Stmt) → Turned (stmt_size s) (stmt ts n k s)
  unfolding stmt
  stmt_turned (import' t) = import_turned t (find_import k.imports (name_at ts t))
  stmt_turned (let' t e) = let_turned t e (compared k.bindings (name_at ts t)) (find k.bindings (name_at ts t))
  stmt_turned (expr' e) =
      turned_more (expr_size e) (expr_size e + 1) (told ts n k (first_of e) (judge ts n k e).out (judge ts n k e).warns (judge ts n k e).looks) (omega arith)
      (told_turned (expr_size e) (first_of e) (judge ts n k e).out (judge ts n k e).warns (judge ts n k e).looks (judge_most e))

  pub stmt_rows : (s : Stmt) {k' : Known} {ds : List Diag} {hs : List Held} {ls : List ℕ} → stmt ts n k s ≡ goes k' ds hs ls → length (rows_of hs) ≤ stmt_size s
  stmt_rows s e = subst (Turned (stmt_size s)) e (stmt_turned s)

-- ---- the run

rows_append : (hs gs : List Held) → length (rows_of (hs ++ gs)) ≡ length (rows_of hs) + length (rows_of gs)
unfolding rows_of
rows_append [] gs = omega arith
rows_append (h ∷ hs) gs =
    omega (arith, length-append (parts h.term) (rows_of (hs ++ gs)), length-append (parts h.term) (rows_of hs), rows_append hs gs)

abbrev Within : ℕ → Outcome → Type 0
Within b (judged ds hs ls) = length (rows_of hs) ≤ b
Within b (refused m t) = Unit {0}

module _ (ts : List Content) where
  run_within : (ss : List Stmt) (n : ℕ) (k : Known) (ds : List Diag) (hs : List Held) (ls : List ℕ) (b : ℕ) → length (rows_of hs) + program_size ss ≤ b
      → Within b (run ts ss n k ds hs ls)
  unfolding run
  run_within [] n k ds hs ls b h = omega (arith, h)
  run_within (s ∷ ss) n k ds hs ls b h = by (stmt ts n k s) (stmt_turned ts n k s) (λ k' es gs ms. run_within ss (suc n) k' es gs ms b)
    where
      by : (o : Turn) → Turned ts n k (stmt_size s) o
          → ((k' : Known) (es : List Diag) (gs : List Held) (ms : List ℕ) → length (rows_of gs) + program_size ss ≤ b → Within b (run ts ss (suc n) k' es gs ms))
          → Within b (onward ts o ds hs ls (λ k' es gs ms. run ts ss (suc n) k' es gs ms))
      by (goes k' es gs ms) t rest = rest k' _ (hs ++ gs) _ (omega (arith, h, t, rows_append hs gs))
      by (refuses m u) t rest = tt

pub rows_few : RowsFew
unfolding rows_of
rows_few ts ss ds hs ls e =
    let w = run_within ts ss 1 (known [] [] 0) [] [] [] (program_size ss) (omega arith) in
    subst (Within (program_size ss)) e w

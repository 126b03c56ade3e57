-- What statements give: at most one error, at most one statement that is held.
use Prim.Native.Nat.{ℕ, suc, ◌+◌, ◌≤◌}
use mathlib.Core.Path.{◌≡◌, refl, ap, subst}
use mathlib.Core.Bool.{true, false}
use mathlib.Core.List.Memᴰ
use mathlib.Core.List.{List, [], ◌∷◌, ◌++◌}
use mathlib.Core.Option.{Option, none, some}
use native.Mathlib.Omega.{arith}
use lib.Dec.{ltb}
use lib.ListN.{length, length-append}
use Rattle.language.specs.Choice.{if'}
use Rattle.language.specs.Tokens.{Content}
use Rattle.language.specs.Sentences.{Expr, literal, sock4, local, path, member, call, slash', Args, none_given, given, named, Stmt, import', let', expr', first_of}
use Rattle.language.specs.Values.{lookup}
use Rattle.language.specs.Terms.{Atom, Term, term_type, atom_of}
use Rattle.language.specs.Judgements.{Diag, is_error, errors_in, warnings_in, Judged, val, err, poisoned, stopped, Judgement, and_then, Known, known, Import, Binding, Deed, lets, emits, waits, evals, discards, deed_of, Held, Turn, goes, refuses, Outcome, judged, refused, find, find_import, compared, most_imports, most_names, name_at, narrowed, used, called_name, judge, judge_args, imported, import_stmt, bound_as, bound, let_stmt, does, sized, told, stmt, onward, run, judge_all, OneError, StatementsFew, AllCounted, BoundFirst}
use Rattle.language.proofs.Tests.{each_side}
use Rattle.language.proofs.Each.{Each, of_none}
use Rattle.language.proofs.Judging.{Rules, Fine, then_fine, Given, used_fine, next_fine, applied_fine, over_fine, membered_fine}

pub all_counted : AllCounted
unfolding errors_in warnings_in
all_counted [] = refl
all_counted (d ∷ ds) = elim (is_error d.what) as (λ b. if' b 1 0 + errors_in ds + (if' b 0 1 + warnings_in ds) ≡ suc (length ds)) [
  | true ↦ omega (arith, all_counted ds)
  | false ↦ omega (arith, all_counted ds)
]

pub errors_append : (xs ys : List Diag) → errors_in (xs ++ ys) ≡ errors_in xs + errors_in ys
unfolding errors_in
errors_append [] ys = omega arith
errors_append (x ∷ xs) ys = rw (errors_append xs ys) (omega arith)

-- ---- warnings alone come with a judgement

abbrev Warning : Diag → Type 0
Warning d = is_error d.what ≡ false

abbrev Silent : {A : Type 0} → Judgement A → Type 0
Silent {A} j = Fine (λ at w. Unit {0}) (λ t. Unit {0}) Warning {A = A} (λ v. Unit {0}) j

no_errors : (ds : List Diag) → Each Warning ds → errors_in ds ≡ 0
unfolding errors_in
no_errors [] h = refl
no_errors (d ∷ ds) h =
    rw (h.holds d (Memᴰ.head refl)) (omega (arith, no_errors ds (record { holds = λ e m. h.holds e (Memᴰ.tail m) })))

-- of all else nothing is asked
rules : (n : ℕ) → Rules n (λ t. Unit {0}) (λ v. Unit {0}) (λ at w. Unit {0}) Warning (λ f. Unit {0})
rules n =
    record {
      place = λ v h. tt;
      sized = λ p t i h. tt;
      bool = λ p b h. tt;
      sock = λ p i j h. tt;
      called = λ p c f vs h i j k. tt;
      divided = λ p a b h i j. tt;
      function = λ c f h e. tt;
      cut = λ p t i h. refl;
      wide = λ p v t h i. refl;
      void = λ p h. tt;
      large = λ p h. tt;
      many = λ p f a b h i. tt;
      few = λ p f a b h i. tt;
      argument = λ p f i v h j k l. tt;
      no_function = λ p v h i. tt;
      no_members_lem = λ p v h i. tt;
      left_type = λ p v h i. tt;
      right_type = λ p v h i. tt;
    }

module _ (ts : List Content) (n : ℕ) (k : Known) where
  quiet : {A : Type 0} (o : Judged A) (ls : List ℕ) → Silent (record { out = o; warns = []; looks = ls })
  quiet (val v) ls = record { out = tt; warns = of_none }
  quiet (err at w) ls = record { out = tt; warns = of_none }
  quiet poisoned ls = record { out = tt; warns = of_none }
  quiet (stopped t) ls = record { out = tt; warns = of_none }

  mutual
    unfolding judge judge_args

    judge_silent : (e : Expr) → Silent (judge ts n k e)
    judge_silent (literal t) = quiet _ _
    judge_silent (sock4 t) = quiet _ _
    judge_silent (local t) = quiet _ _
    judge_silent (path t m) = quiet _ _
    judge_silent (member e t) = then_fine _ _ _ (judge ts n k e) _ (judge_silent e) (λ v h. membered_fine (rules n) t v tt tt)
    judge_silent (slash' a b) =
        then_fine _ _ _ (judge ts n k a) _ (judge_silent a) (λ v h. over_fine (rules n) (first_of a) (first_of b) (judge ts n k b) v tt tt (judge_silent b) tt)
    judge_silent (call e t g) =
        then_fine _ _ _ (judge ts n k e) _ (judge_silent e)
        (λ v h. applied_fine (rules n) (called_name e) t g (judge_args ts n k g) v tt tt (λ _. args_silent g) tt)

    args_silent : (g : Args) → Fine (λ at w. Unit {0}) (λ t. Unit {0}) Warning (Each (Given (λ t. Unit {0}) (λ v. Unit {0}))) (judge_args ts n k g)
    args_silent none_given = record { out = of_none; warns = of_none }
    args_silent (given g e) =
        then_fine _ _ _ (judge_args ts n k g) _ (args_silent g) (λ gs h. next_fine (rules n) (first_of e) (judge ts n k e) gs tt (judge_silent e) h)
    args_silent (named g t e) =
        then_fine _ _ _ (judge_args ts n k g) _ (args_silent g) (λ gs h. next_fine (rules n) (first_of e) (judge ts n k e) gs tt (judge_silent e) h)

  value_silent : (e : Expr) → Silent (and_then (judge ts n k e) used)
  value_silent e = then_fine _ _ _ (judge ts n k e) _ (judge_silent e) (λ v h. used_fine (rules n) v tt)

-- ---- what a statement adds to the warnings of its expression

pub data Adds (ws : List Diag) : List Diag → List Held → Type 0 where
  nothing : Adds ws ws []
  alone : (d : Diag) → Adds ws (d ∷ []) []
  finding : (d : Diag) → Adds ws (ws ++ d ∷ []) []
  binding : (h : Held) → Adds ws ws (h ∷ [])
  holding : (h : Held) → Adds ws (ws ++ []) (h ∷ [])
  discarding : (d : Diag) (h : Held) → Adds ws (ws ++ d ∷ []) (h ∷ [])

abbrev pub AddsTo : List Diag → Turn → Type 0
AddsTo ws (goes k ds hs ls) = Adds ws ds hs
AddsTo ws (refuses m t) = Unit

module _ (ts : List Content) (n : ℕ) (k : Known) where
  abbrev pub warns_of : Stmt → List Diag
  warns_of (import' t) = []
  warns_of (let' t e) = (and_then (judge ts n k e) used).warns
  warns_of (expr' e) = (judge ts n k e).warns

  imported_adds : (t : ℕ) (o : Option ℕ) → AddsTo [] (imported ts n k t o)
  imported_adds t (some m) = nothing
  imported_adds t none = alone _

  import_adds : (t : ℕ) (o : Option Import) → AddsTo [] (import_stmt ts n k t o)
  import_adds t (some i) = alone _
  import_adds t none = each_side (AddsTo []) (ltb (length k.imports) most_imports) (imported_adds t (lookup 0 (name_at ts t))) tt

  as_adds : (t : ℕ) (v : Term) (o : Option Atom) (ws : List Diag) (ls : List ℕ) → AddsTo ws (bound_as ts n k t v o ws ls)
  as_adds t v (some a) ws ls = nothing
  as_adds t v none ws ls = binding _

  bound_adds : (t : ℕ) (o : Judged Term) (ws : List Diag) (ls : List ℕ) → AddsTo ws (bound ts n k t o ws ls)
  bound_adds t (val v) ws ls = as_adds t v (atom_of v) ws ls
  bound_adds t (err at w) ws ls = finding _
  bound_adds t poisoned ws ls = nothing
  bound_adds t (stopped p) ws ls = tt

  let_adds : (t : ℕ) (e : Expr) (l : ℕ) (o : Option Binding) → AddsTo (and_then (judge ts n k e) used).warns (let_stmt ts n k t e l o)
  let_adds t e l (some b) = alone _
  let_adds t e l none =
      let j = and_then (judge ts n k e) used in
      each_side (AddsTo j.warns) (ltb (length k.bindings) most_names) (bound_adds t j.out j.warns (l ∷ j.looks)) tt

  does_adds : (at : ℕ) (v : Term) (d : Deed) (ws : List Diag) (ls : List ℕ) → AddsTo ws (does ts n k at v d ws ls)
  does_adds at v discards ws ls = discarding _ _
  does_adds at v (lets m) ws ls = holding _
  does_adds at v emits ws ls = holding _
  does_adds at v waits ws ls = holding _
  does_adds at v evals ws ls = holding _

  sized_adds : (at : ℕ) (o : Option Term) (ws : List Diag) (ls : List ℕ) → AddsTo ws (sized ts n k at o ws ls)
  sized_adds at (some v) ws ls = does_adds at v (deed_of (term_type v)) ws ls
  sized_adds at none ws ls = finding _

  told_adds : (at : ℕ) (o : Judged Term) (ws : List Diag) (ls : List ℕ) → AddsTo ws (told ts n k at o ws ls)
  told_adds at (val v) ws ls = sized_adds at (narrowed v) ws ls
  told_adds at (err p w) ws ls = finding _
  told_adds at poisoned ws ls = nothing
  told_adds at (stopped p) ws ls = tt

  pub adds : (s : Stmt) → AddsTo (warns_of s) (stmt ts n k s)
  unfolding stmt
  adds (import' t) = import_adds t (find_import k.imports (name_at ts t))
  adds (let' t e) = let_adds t e (compared k.bindings (name_at ts t)) (find k.bindings (name_at ts t))
  adds (expr' e) = told_adds (first_of e) (judge ts n k e).out (judge ts n k e).warns (judge ts n k e).looks

-- as many errors as one at the most, and as many statements
Few : Turn → Type 0
Few (goes k ds hs ls) = (errors_in ds ≤ 1) × (length hs ≤ 1)
Few (refuses m t) = Unit

one_at_most : (d : Diag) → errors_in (d ∷ []) ≤ 1
unfolding errors_in
one_at_most d = elim (is_error d.what) as (λ b. if' b 1 0 + 0 ≤ 1) [ true ↦ omega arith | false ↦ omega arith ]

-- warnings, and one finding more
one_more_lem : (ws : List Diag) (d : Diag) → errors_in ws ≡ 0 → errors_in (ws ++ d ∷ []) ≤ 1
one_more_lem ws d h = rw (errors_append ws (d ∷ [])) (omega (arith, h, one_at_most d))

few_added : {ws ds : List Diag} {hs : List Held} → errors_in ws ≡ 0 → Adds ws ds hs → (errors_in ds ≤ 1) × (length hs ≤ 1)
unfolding errors_in
few_added h nothing = (omega (arith, h), omega arith)
few_added h (alone d) = (one_at_most d, omega arith)
few_added {ws} h (finding d) = (one_more_lem ws d h, omega arith)
few_added h (binding x) = (omega (arith, h), omega arith)
few_added {ws} h (holding x) = (rw (errors_append ws []) (omega (arith, h)), omega arith)
few_added {ws} h (discarding d x) = (one_more_lem ws d h, omega arith)

few_turn : (ws : List Diag) (t : Turn) → errors_in ws ≡ 0 → AddsTo ws t → Few t
unfolding Few
few_turn ws (goes k ds hs ls) h a = few_added h a
few_turn ws (refuses m t) h a = tt

module _ (ts : List Content) (n : ℕ) (k : Known) where
  silent : (s : Stmt) → errors_in (warns_of ts n k s) ≡ 0
  unfolding errors_in
  silent (import' t) = refl
  silent (let' t e) = no_errors _ (value_silent ts n k e).warns
  silent (expr' e) = no_errors _ (judge_silent ts n k e).warns

  few : (s : Stmt) → Few (stmt ts n k s)
  few s = few_turn (warns_of ts n k s) (stmt ts n k s) (silent s) (adds ts n k s)

pub one_error : OneError
unfolding Few
one_error ts n k k' s ds hs ls e = (subst Few e (few ts n k s)).0

-- ---- the run

Fewer : ℕ → Outcome → Type 0
Fewer m (judged ds hs ls) = length hs ≤ m
Fewer m (refused v t) = Unit

at_most : (m n : ℕ) (o : Outcome) → m ≤ n → Fewer m o → Fewer n o
unfolding Fewer
at_most m n (judged ds hs ls) h f = omega (arith, h, f)
at_most m n (refused v t) h f = tt

module _ (ts : List Content) where
  -- one statement, and those that follow
  onward_fewer : (m : ℕ) (t : Turn) (ds : List Diag) (hs : List Held) (ls : List ℕ) (f : Known → List Diag → List Held → List ℕ → Outcome) → Few t
      → ((k : Known) (es : List Diag) (gs : List Held) (ms : List ℕ) → Fewer (length gs + m) (f k es gs ms))
      → Fewer (length hs + suc m) (onward ts t ds hs ls f)
  unfolding Few Fewer
  onward_fewer m (refuses v t) ds hs ls f h g = tt
  onward_fewer m (goes k es gs ms) ds hs ls f h g =
      let l : length (hs ++ gs) + m ≤ length hs + suc m = omega (arith, length-append hs gs, h.1) in
      at_most (length (hs ++ gs) + m) (length hs + suc m) (f k (ds ++ es) (hs ++ gs) (ls ++ ms)) l (g k (ds ++ es) (hs ++ gs) (ls ++ ms))

  run_fewer : (ss : List Stmt) (n : ℕ) (k : Known) (ds : List Diag) (hs : List Held) (ls : List ℕ) → Fewer (length hs + length ss) (run ts ss n k ds hs ls)
  unfolding run Fewer
  run_fewer [] n k ds hs ls = omega arith
  run_fewer (s ∷ ss) n k ds hs ls =
      onward_fewer (length ss) (stmt ts n k s) ds hs ls _ (few ts n k s) (λ k' es gs ms. run_fewer ss _ k' es gs ms)

pub statements_few : StatementsFew
unfolding Fewer
statements_few ts ss ds hs ls e =
    let l : 0 + length ss ≤ length ss = omega arith in
    subst (Fewer (length ss)) e (at_most (0 + length ss) (length ss) (judge_all ts ss) l (run_fewer ts ss _ (known [] [] 0) [] [] []))

pub bound_first : BoundFirst
unfolding stmt
bound_first ts n k t e b h = ap (let_stmt ts n k t e (compared k.bindings (name_at ts t))) h

-- No value that stands for what cannot happen is asked for: the trees of a program are sound, and a call is refused before.
use Prim.Native.Nat.{ℕ, zero, suc, ◌+◌, ◌*◌, ◌<◌}
use mathlib.Core.Path.{◌≡◌, refl, ap, fun_ext}
use mathlib.Core.Bool.{Bool, true, false}
use mathlib.Core.List.Memᴰ
use mathlib.Core.List.{List, [], ◌∷◌, ◌++◌, Memᴰ}
use mathlib.Core.Option.{Option, none, some}
use native.Mathlib.Omega.{arith}
use Rattle.language.specs.Lexemes.{ipv4_literal, dec_literal}
use Rattle.language.specs.Tokens.{Content, plain, tokens, contents}
use Rattle.language.specs.Tables.{content_low}
use Rattle.language.specs.Sentences.{Expr, literal, sock4, local, path, member, call, slash', Args, none_given, given, named, Stmt, import', let', expr', Out, ok, no, program}
use Rattle.language.specs.Values.{entry_at, lookup}
use Rattle.language.specs.Terms.{Atom, Term, term_type, atom_of, function_of}
use Rattle.language.specs.Judgements.{unknown_item, Diag, Judged, val, err, poisoned, stopped, Judgement, and_then, Import, Binding, Known, known, find, find_import, compared, Held, Turn, goes, refuses, content, name_at, literal_at, inner_item, walk, below, used, Arg, any_named, called_name, of_function, applied, judge, judge_args, imported, import_stmt, bound_as, bound, let_stmt, stmt, onward, run, judge_all}
use Rattle.language.specs.Numbers.{statements_of, checked}
use Rattle.language.specs.Sound.{NameStands, AddressStands, PortStands, PathStands, LiteralStands, a_bool, a_string, a_hex, a_dec, an_address, SoundExpr, SoundArgs, SoundStmt, MadeUp, name_or, literal_or, number_or, walk_or, below_or, judge_or, judge_args_or, imported_or, import_stmt_or, bound_as_or, bound_or, let_stmt_or, stmt_or, run_or, judge_all_or, NothingMadeUp}
use Rattle.language.proofs.Tests.{never}
use Rattle.language.proofs.Sound.{trees_sound}

-- where an argument is named, nothing depends on what the arguments come to
named_same : (n at p : ℕ) (g : Args) (i j : Judgement (List Arg)) (c : Term) → any_named g ≡ true → applied n at p g i c ≡ applied n at p g j c
unfolding applied
named_same n at p g i j c h = ap (and_then (used c)) (fun_ext (λ d. by d (function_of (term_type d))))
  where
    by : (d : Term) (o : Option ℕ) → of_function n at p g i d o ≡ of_function n at p g j d o
    by d none = refl
    by d (some f) = rw h

applied_same : (n at p : ℕ) (g : Args) (i j : Judgement (List Arg)) (c : Term) (b : Bool) → any_named g ≡ b → (any_named g ≡ false → i ≡ j)
    → applied n at p g i c ≡ applied n at p g j c
applied_same n at p g i j c false q h = rw (h q)
applied_same n at p g i j c true q h = named_same n at p g i j c q

module _ (ts : List Content) (x : MadeUp) where
  -- ---- tokens

  name_same : (t : ℕ) → NameStands ts t → name_or ts x t ≡ name_at ts t
  unfolding name_or
  name_same t h = rw h.1.1

  literal_same : (t : ℕ) → LiteralStands ts t → literal_or ts x t ≡ literal_at ts t
  unfolding literal_or
  literal_same t (a_bool b h) = rw h.1
  literal_same t (a_string b bs h) = rw h.1
  literal_same t (a_hex n h) = rw h.1
  literal_same t (a_dec n h) = rw h.1
  literal_same t (an_address n h) = rw h.1

  address_same : (t : ℕ) → AddressStands ts t → number_or ts x (plain (ipv4_literal 0)) t ≡ content_low (content ts t)
  unfolding number_or
  address_same t h = rw h.1.1

  port_same : (t : ℕ) → PortStands ts t → number_or ts x (plain (dec_literal 0)) t ≡ content_low (content ts t)
  unfolding number_or
  port_same t h = rw h.1.1

  -- ---- paths

  walk_same : (p n m t : ℕ) → ((j : ℕ) → j < suc n → NameStands ts (t + 2 * suc j)) → walk_or ts x p (suc n) m t ≡ walk ts p (suc n) m t
  unfolding walk_or walk
  walk_same p zero m t h = rw (name_same (t + 2) (h 0 (omega arith)), walk_or)
  walk_same p (suc n) m t h =
      rw (name_same (t + 2) (h 0 (omega arith)), walk_or)
      (by (lookup m (name_at ts (t + 2))) (λ k. walk_same p n k (t + 2) (λ j i.
      let on : t + 2 * suc (suc j) ≡ t + 2 + 2 * suc j = omega arith in rw on at (h (suc j) (omega arith)))))
    where
      by : (o : Option ℕ) → ((k : ℕ) → walk_or ts x p (suc n) k (t + 2) ≡ walk ts p (suc n) k (t + 2))
          → ◌≡◌ {A = Judged Term} (elim o [
            | none ↦ err (t + 2) (unknown_item m)
            | some k ↦ inner_item ts (t + 2) (entry_at k).value (walk_or ts x p (suc n) k (t + 2))
          ]) (elim o [
            | none ↦ err (t + 2) (unknown_item m)
            | some k ↦ inner_item ts (t + 2) (entry_at k).value (walk ts p (suc n) k (t + 2))
          ])
      by none on = refl
      by (some k) on = ap (inner_item ts (t + 2) (entry_at k).value) (on k)

  below_same : (t n : ℕ) (o : Option Import) → PathStands ts t n → below_or ts x t n o ≡ below ts t n o
  below_same t n none h = refl
  below_same t zero (some i) h = absurd (omega (arith, h.0))
  below_same t (suc n) (some i) h = by i.found (λ m. walk_same t n m t (λ j l. h.1 (suc j) (omega arith)))
    where
      by : (o : Option ℕ) → ((m : ℕ) → walk_or ts x t (suc n) m t ≡ walk ts t (suc n) m t)
          → ◌≡◌ {A = Judged Term} (elim o [ none ↦ poisoned | some m ↦ walk_or ts x t (suc n) m t ]) (elim o [ none ↦ poisoned | some m ↦ walk ts t (suc n) m t ])
      by none f = refl
      by (some m) f = f m

  -- ---- expressions

  first_name : (t n : ℕ) → PathStands ts t n → NameStands ts t
  first_name t n h = let e : t + 2 * 0 ≡ t = omega arith in rw e at (h.1 0 (omega arith))

  module _ (n : ℕ) (k : Known) where
    mutual
      unfolding judge_or judge judge_args_or judge_args

      judge_same : (e : Expr) → SoundExpr ts e → judge_or ts x n k e ≡ judge ts n k e
      judge_same (literal t) h = rw (literal_same t h)
      judge_same (sock4 t) h = rw (address_same t h.0, port_same (t + 2) h.1)
      judge_same (local t) h = rw (name_same t h)
      judge_same (path t m) h =
          rw (name_same t (first_name t m h), below_same t m (find_import k.imports (name_at ts t)) h)
      judge_same (member e t) h = rw (judge_same e h.0)
      judge_same (slash' a b) h = rw (judge_same a h.0, judge_same b h.1)
      judge_same (call e t g) h =
          rw (judge_same e h.0) (ap (and_then (judge ts n k e)) (fun_ext (λ c. applied_same n (called_name e) t g _ _ c (any_named g) refl (λ q. args_same g h.2 q))))

      args_same : (g : Args) → SoundArgs ts g → any_named g ≡ false → judge_args_or ts x n k g ≡ judge_args ts n k g
      args_same none_given h q = refl
      args_same (given g e) h q = rw (args_same g h.0 q, judge_same e h.1)
      args_same (named g t e) h q = never (cc)

    -- ---- statements

    imported_same : (t : ℕ) (o : Option ℕ) → NameStands ts t → imported_or ts x n k t o ≡ imported ts n k t o
    imported_same t none h = rw (name_same t h)
    imported_same t (some m) h = rw (name_same t h)

    import_same : (t : ℕ) (o : Option Import) → NameStands ts t → import_stmt_or ts x n k t o ≡ import_stmt ts n k t o
    import_same t none h = rw (name_same t h, imported_same t (lookup 0 (name_at ts t)) h)
    import_same t (some i) h = refl

    as_same : (t : ℕ) (v : Term) (o : Option Atom) (ws : List Diag) (ls : List ℕ) → NameStands ts t
        → bound_as_or ts x n k t v o ws ls ≡ bound_as ts n k t v o ws ls
    as_same t v (some a) ws ls h = rw (name_same t h)
    as_same t v none ws ls h = rw (name_same t h)

    bound_same : (t : ℕ) (o : Judged Term) (ws : List Diag) (ls : List ℕ) → NameStands ts t → bound_or ts x n k t o ws ls ≡ bound ts n k t o ws ls
    bound_same t (val v) ws ls h = as_same t v (atom_of v) ws ls h
    bound_same t (err at w) ws ls h = rw (name_same t h)
    bound_same t poisoned ws ls h = rw (name_same t h)
    bound_same t (stopped p) ws ls h = refl

    let_same : (t : ℕ) (e : Expr) (l : ℕ) (o : Option Binding) → NameStands ts t → judge_or ts x n k e ≡ judge ts n k e
        → let_stmt_or ts x n k t e l o ≡ let_stmt ts n k t e l o
    let_same t e l none h f =
        let j = and_then (judge ts n k e) used in
        rw (f, bound_same t j.out j.warns (l ∷ j.looks) h)
    let_same t e l (some b) h f = refl

    stmt_same : (s : Stmt) → SoundStmt ts s → stmt_or ts x n k s ≡ stmt ts n k s
    unfolding stmt_or stmt
    stmt_same (import' t) h = rw (name_same t h) (import_same t (find_import k.imports (name_at ts t)) h)
    stmt_same (let' t e) h =
        rw (name_same t h.0) (let_same t e (compared k.bindings (name_at ts t)) (find k.bindings (name_at ts t)) h.0 (judge_same e h.1))
    stmt_same (expr' e) h = rw (judge_same e h)

  -- ---- the run

  run_same : (ss : List Stmt) (n : ℕ) (k : Known) (ds : List Diag) (hs : List Held) (ls : List ℕ)
      → ((s : Stmt) → Memᴰ s ss → SoundStmt ts s) → run_or ts x ss n k ds hs ls ≡ run ts ss n k ds hs ls
  unfolding run_or run
  run_same [] n k ds hs ls h = refl
  run_same (s ∷ ss) n k ds hs ls h =
      rw (stmt_same n k s (h s (Memᴰ.head refl)))
      (on (stmt ts n k s) (λ k' es gs ms. run_same ss (suc n) k' es gs ms (λ a m. h a (Memᴰ.tail m))))
    where
      on : (t : Turn)
          → ((k' : Known) (es : List Diag) (gs : List Held) (ms : List ℕ) → run_or ts x ss (suc n) k' es gs ms ≡ run ts ss (suc n) k' es gs ms)
          → onward ts t ds hs ls (λ k' es gs ms. run_or ts x ss (suc n) k' es gs ms) ≡ onward ts t ds hs ls (λ k' es gs ms. run ts ss (suc n) k' es gs ms)
      on (goes k' es gs ms) f = f k' (ds ++ es) (hs ++ gs) (ls ++ ms)
      on (refuses m t) f = refl

pub nothing_made_up : NothingMadeUp
unfolding checked
nothing_made_up s x = by (program (contents (tokens s))) refl
  where
    by : (o : Out (List Stmt)) → program (contents (tokens s)) ≡ o
        → judge_all_or (contents (tokens s)) x (statements_of o) ≡ judge_all (contents (tokens s)) (statements_of o)
    by (ok ss next y) p = run_same (contents (tokens s)) x ss 1 (known [] [] 0) [] [] [] (trees_sound s ss next y p)
    by (no n k at) p = run_same (contents (tokens s)) x [] 1 (known [] [] 0) [] [] [] (λ a m. absurd (Memᴰ.not-nil m))

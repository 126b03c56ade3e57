-- A program finds as much as it has nodes at the most, and what it holds has as many rows at the most: each statement warns of as much as
-- its expression has nodes, and finds one thing more.
use Prim.Native.Nat.{ℕ, suc, ◌+◌, ◌≤◌}
use mathlib.Core.Path.{◌≡◌, refl, subst}
use mathlib.Core.List.{List, [], ◌∷◌, ◌++◌}
use mathlib.Core.Option.{Option, none, some}
use native.Mathlib.Omega.{arith}
use lib.Dec.{ltb}
use lib.ListN.{length, length-append}
use Rattle.language.specs.Tokens.{Content}
use Rattle.language.specs.Sentences.{Expr, Stmt, import', let', expr', first_of, expr_size, stmt_size, program_size, nodes}
use Rattle.language.specs.Values.{ty_void, same_ty, lookup}
use Rattle.language.specs.Terms.{Atom, Term, term_type, atom_of}
use Rattle.language.specs.Judgements.{most_names, most_imports, integral_too_large, Diag, diag, Judged, val, err, poisoned, stopped, Judgement, and_then, Import, Binding, Known, known, find, find_import, compared, Deed, lets, emits, waits, evals, discards, deed_of, Held, Turn, goes, refuses, Outcome, judged, refused, name_at, used, narrowed, judge, imported, import_stmt, bound_as, bound, let_stmt, discarded, does, sized, told, stmt, onward, run, judge_all}
use Rattle.language.specs.Findings.{rows_of}
use Rattle.language.proofs.Tests.{each_side}
use Rattle.language.proofs.NodeClaims.{all_long}
use Rattle.language.proofs.WarnsFew.{judge_warns}
use Rattle.language.proofs.RowsFew.{rows_few}

-- as much as b is found, at the most
abbrev Finds : ℕ → Turn → Type 0
Finds b (goes k ds hs ls) = length ds ≤ b
Finds b (refuses m t) = Unit

-- a value that is used warns of nothing more
used_warns : (v : Term) → length (used v).warns ≤ 0
unfolding used
used_warns v = each_side (λ (j : Judgement Term). length j.warns ≤ 0) (same_ty ty_void (term_type v)) (omega arith) (omega arith)

then_used : (j : Judgement Term) → length (and_then j used).warns ≤ length j.warns
unfolding and_then
then_used j = by j.out refl
  where
    by : (o : Judged Term) → j.out ≡ o → length (and_then j used).warns ≤ length j.warns
    by (val v) e = rw e (omega (arith, length-append j.warns (used v).warns, used_warns v))
    by (err at w) e = rw e (omega arith)
    by poisoned e = rw e (omega arith)
    by (stopped t) e = rw e (omega arith)

module _ (ts : List Content) (n : ℕ) (k : Known) where
  import_finds : (t : ℕ) (o : Option Import) → Finds 1 (import_stmt ts n k t o)
  import_finds t (some i) = omega arith
  import_finds t none = each_side (Finds 1) (ltb (length k.imports) most_imports) (by (lookup 0 (name_at ts t))) tt
    where
      by : (o : Option ℕ) → Finds 1 (imported ts n k t o)
      by (some m) = omega arith
      by none = omega arith

  bound_finds : (b t : ℕ) (o : Judged Term) (ws : List Diag) (ls : List ℕ) → length ws ≤ b → Finds (b + 1) (bound ts n k t o ws ls)
  bound_finds b t (val v) ws ls h = by (atom_of v)
    where
      by : (o : Option Atom) → Finds (b + 1) (bound_as ts n k t v o ws ls)
      by (some a) = omega (arith, h)
      by none = omega (arith, h)
  bound_finds b t (err at w) ws ls h = omega (arith, length-append ws (diag n at w ∷ []), h)
  bound_finds b t poisoned ws ls h = omega (arith, h)
  bound_finds b t (stopped p) ws ls h = tt

  let_finds : (t : ℕ) (e : Expr) (l : ℕ) (o : Option Binding) → Finds (expr_size e + 1) (let_stmt ts n k t e l o)
  let_finds t e l (some b) = omega arith
  let_finds t e l none =
      let j = and_then (judge ts n k e) used in
      each_side (Finds (expr_size e + 1)) (ltb (length k.bindings) most_names)
      (bound_finds (expr_size e) t j.out j.warns (l ∷ j.looks) (omega (arith, then_used (judge ts n k e), judge_warns ts n k e))) tt

  does_finds : (b at : ℕ) (v : Term) (d : Deed) (ws : List Diag) (ls : List ℕ) → length ws ≤ b → Finds (b + 1) (does ts n k at v d ws ls)
  does_finds b at v d ws ls h = omega (arith, length-append ws (discarded ts n at (term_type v) d), by d, h)
    where
      by : (d : Deed) → length (discarded ts n at (term_type v) d) ≤ 1
      by (lets s) = omega arith
      by emits = omega arith
      by waits = omega arith
      by evals = omega arith
      by discards = omega arith

  sized_finds : (b at : ℕ) (o : Option Term) (ws : List Diag) (ls : List ℕ) → length ws ≤ b → Finds (b + 1) (sized ts n k at o ws ls)
  sized_finds b at (some v) ws ls h = does_finds b at v (deed_of (term_type v)) ws ls h
  sized_finds b at none ws ls h = omega (arith, length-append ws (diag n at integral_too_large ∷ []), h)

  told_finds : (b at : ℕ) (o : Judged Term) (ws : List Diag) (ls : List ℕ) → length ws ≤ b → Finds (b + 1) (told ts n k at o ws ls)
  told_finds b at (val v) ws ls h = sized_finds b at (narrowed v) ws ls h
  told_finds b at (err p w) ws ls h = omega (arith, length-append ws (diag n p w ∷ []), h)
  told_finds b at poisoned ws ls h = omega (arith, h)
  told_finds b at (stopped p) ws ls h = tt

  stmt_finds : (s : Stmt) → Finds (stmt_size s) (stmt ts n k s)
  unfolding stmt
  stmt_finds (import' t) = import_finds t (find_import k.imports (name_at ts t))
  stmt_finds (let' t e) = let_finds t e (compared k.bindings (name_at ts t)) (find k.bindings (name_at ts t))
  stmt_finds (expr' e) =
      told_finds (expr_size e) (first_of e) (judge ts n k e).out (judge ts n k e).warns (judge ts n k e).looks (judge_warns ts n k e)

-- ---- the run

abbrev Within : ℕ → Outcome → Type 0
Within b (judged ds hs ls) = length ds ≤ b
Within b (refused m t) = Unit

module _ (ts : List Content) where
  run_within : (ss : List Stmt) (n : ℕ) (k : Known) (ds : List Diag) (hs : List Held) (ls : List ℕ) (b : ℕ) → length ds + program_size ss ≤ b
      → Within b (run ts ss n k ds hs ls)
  unfolding run
  run_within [] n k ds hs ls b h = omega (arith, h)
  run_within (s ∷ ss) n k ds hs ls b h = by (stmt ts n k s) (stmt_finds ts n k s) (λ k' es gs ms. run_within ss (suc n) k' es gs ms b)
    where
      by : (o : Turn) → Finds (stmt_size s) o
          → ((k' : Known) (es : List Diag) (gs : List Held) (ms : List ℕ) → length es + program_size ss ≤ b → Within b (run ts ss (suc n) k' es gs ms))
          → Within b (onward ts o ds hs ls (λ k' es gs ms. run ts ss (suc n) k' es gs ms))
      by (goes k' es gs ms) t rest = rest k' (ds ++ es) _ _ (omega (arith, h, t, length-append ds es))
      by (refuses m u) t rest = tt

  pub found_few : (ss : List Stmt) {ds : List Diag} {hs : List Held} {ls : List ℕ} → judge_all ts ss ≡ judged ds hs ls
      → (length ds ≤ length (nodes ss)) × (length (rows_of hs) ≤ length (nodes ss))
  found_few ss {ds} {hs} {ls} e =
      let w = subst (Within (program_size ss)) e (run_within ss 1 (known [] [] 0) [] [] [] (program_size ss) (omega arith)) in
      let l = all_long 0 ss in
      (omega (arith, w, l), omega (arith, rows_few ts ss ds hs ls e, l))

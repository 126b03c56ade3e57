-- Parsing goes on: no outcome stands before the token that it started from.
use mathlib.Core.Bool.{Bool, true, false}
use mathlib.Core.List.{List, []}
use Prim.Native.Nat.{ℕ, zero, suc, ◌+◌, ◌≤◌, ◌<◌}
use native.Mathlib.Omega.{arith}
use lib.ListN.{length}
use Rattle.language.specs.Choice.{if'}
use Rattle.language.specs.Tokens.{Content}
use Rattle.language.specs.Sentences.{Expr, Args, none_given, Stmt, Out, ok, no, and_then, names_from, links, chain_of, slashes, args_of, ended}
use Rattle.language.specs.Bounds.{expr_in, list_in, whole_in, stmts_in, reached}
use Rattle.language.proofs.SentenceWalk.{Walk, Walked, found, refused, Split, names_walked, links_walked, chain_walked, slashes_walked, expr_walked, args_walked, ended_walked, stmts_walked}

-- an outcome stands at the token m or after it
pub record On {A : Type 0} (m : ℕ) (o : Out A) : Type 0 where
  pub reaches : m ≤ reached o

pub went : {A : Type 0} {a : A} {m at s : ℕ} → m ≤ at → On m (ok a at s)
went h = record { reaches = h }

pub halted : {A : Type 0} {m n k at : ℕ} → m ≤ at → On {A = A} m (no n k at)
halted h = record { reaches = h }

pub either : {A : Type 0} {m : ℕ} (b : Bool) {o q : Out A} → On m o → On m q → On m (if' b o q)
either true h l = h
either false h l = l

pub both : {A B : Type 0} {m : ℕ} {o : Out A} {f : A → ℕ → ℕ → Out B} → On m o
    → ((a : A) (at s : ℕ) → m ≤ at → On m (f a at s)) → On m (and_then o f)
both {o = ok a at s} h g = g a at s h.reaches
both {o = no n k at} h g = record { reaches = h.reaches }

module _ (ts : List Content) (m : ℕ) where
  -- every token that is taken is passed, whatever steps are made
  abbrev Here : ℕ → List ℕ → ℕ → Type 0
  Here n o at = m ≤ at

  abbrev After : ℕ → ℕ → ℕ → Type 0
  After n k t = m ≤ t

  module _ (lists steps : ℕ) where
    walk : Walk ts lists steps ⊥ Here After
    walk = record {
      quiet = λ _ h _. omega arith;
      named_one = λ h _ _. omega arith;
      a_port = λ h _. omega arith;
      dotted = λ h _ _. omega arith;
      slashed = λ h _ _. omega arith;
      opened = λ h _ _ _. omega arith;
      closed = λ h _. omega arith;
      after_comma = λ h _. omega arith;
      after_semi_colon = λ h _. omega arith;
      not_expected = λ h. h;
      no_port = λ h _. omega arith;
      large_port = λ h _. omega arith;
      step_more = λ h _ _. h;
      list_more = λ h _ _. h;
      turns_out = λ h _. h;
    }

    seen : {A : Type 0} {P : ℕ → ℕ → Type 0} {o : Out A} → ((at s : ℕ) → P at s → m ≤ at) → Walked ts lists steps ⊥ Here After P o → On m o
    seen f (found {at = at} {s = s} h) = record { reaches = f at s h }
    seen f (refused h) = record { reaches = h }

    told : {A : Type 0} {P : ℕ → ℕ → Type 0} {o : Out A} → ((at s : ℕ) → m ≤ at → P at s) → On m o → Walked ts lists steps ⊥ Here After P o
    told {o = ok a at s} f h = found (f at s h.reaches)
    told {o = no n k at} f h = refused h.reaches

    split : {n at s : ℕ} → m ≤ at → Split ts lists steps ⊥ Here After n [] at s
    split h = record { made = 0; placed = h; all = λ z. absurd z; before = λ z. absurd z }

  pub names_on : (fuel n at s : ℕ) → m ≤ at → On m (names_from ts fuel n at s)
  names_on fuel n at s h = seen 0 0 (λ _ _ i. i) (names_walked ts 0 0 ⊥ Here After (walk 0 0) 0 [] fuel n at s h)

  module _ (list : ℕ → Out Args) (lists : (at : ℕ) → m ≤ at → On m (list at)) where
    pub links_on : (s : ℕ) (e : Expr) (at : ℕ) → m ≤ at → On m (links ts list s e at)
    links_on s e at h =
        seen 0 0 (λ _ _ i. i.placed)
        (links_walked ts 0 0 ⊥ Here After (walk 0 0) [] list (λ u _ _ _ i. told 0 0 (λ _ _ j. j) (lists u i)) 0 s e at 0
        (λ z. absurd z) (λ z. absurd z) h)

    pub chain_on : (s at : ℕ) → m ≤ at → On m (chain_of ts list s at)
    chain_on s at h =
        seen 0 0 (λ _ _ i. i.placed)
        (chain_walked ts 0 0 ⊥ Here After (walk 0 0) [] list (λ u _ _ _ i. told 0 0 (λ _ _ j. j) (lists u i)) s at 0 (λ z. absurd z) h)

  module _ (chain : ℕ → ℕ → Out Expr) (chains : (s at : ℕ) → m ≤ at → On m (chain s at)) where
    pub slashes_on : (fuel : ℕ) (e : Expr) (at s : ℕ) → m ≤ at → On m (slashes ts chain fuel e at s)
    slashes_on fuel e at s h =
        seen 0 0 (λ _ _ i. i.1)
        (slashes_walked ts 0 0 ⊥ Here After (walk 0 0) [] chain (λ s u _ _ i. told 0 0 (λ _ _ j. split 0 0 j) (chains s u i)) fuel e at s 0
        (λ z. absurd z) (λ z. absurd z) h)

    pub expr_on : (n at : ℕ) → m ≤ at → On m (expr_in ts n chain at)
    expr_on n at h =
        seen 0 n (λ _ _ i. i.1)
        (expr_walked ts 0 n ⊥ Here After (walk 0 n) [] chain (λ s u _ _ i. told 0 n (λ _ _ j. split 0 n j) (chains s u i)) at h)

  module _ (expr : ℕ → Out Expr) (exprs : (at : ℕ) → m ≤ at → On m (expr at)) where
    pub args_on_lem : (fuel : ℕ) (g : Args) (at : ℕ) → m ≤ at → On m (args_of ts expr fuel g at)
    args_on_lem fuel g at h =
        seen 0 0 (λ _ _ i. i)
        (args_walked ts 0 0 ⊥ Here After (walk 0 0) 0 [] expr (λ u i. told 0 0 (λ _ _ j. (0, j)) (exprs u i)) fuel g at h)

  -- a list that may be open goes past its `(`
  list_inner : (n d at : ℕ) → ((u : ℕ) → m ≤ u → On m (list_in ts n d u)) → m ≤ suc at → On m (list_in ts n (suc d) at)
  unfolding list_in
  list_inner n d at lists h =
      args_on_lem (expr_in ts n (chain_of ts (list_in ts n d))) (expr_on (chain_of ts (list_in ts n d)) (chain_on (list_in ts n d) lists) n)
      (suc (length ts)) none_given (at + 1) (omega arith)

  pub list_on : (n d at : ℕ) → m ≤ at → On m (list_in ts n d at)
  unfolding list_in
  list_on n zero at h = halted h
  list_on n (suc d) at h = list_inner n d at (list_on n d) (omega arith)

  pub list_past : (n d at : ℕ) → 0 < d → m ≤ suc at → On m (list_in ts n d at)
  list_past n zero at o h = absurd (omega arith)
  list_past n (suc d) at o h = list_inner n d at (list_on n d) h

  pub whole_on : (d n at : ℕ) → m ≤ at → On m (whole_in ts d n at)
  whole_on d n at h = expr_on (chain_of ts (list_in ts n d)) (chain_on (list_in ts n d) (list_on n d)) n at h

  pub ended_on : {A : Type 0} (a : A) (at : ℕ) → m ≤ at → On m (ended ts a at)
  ended_on a at h = seen 0 0 (λ _ _ i. i) (ended_walked ts 0 0 ⊥ Here After (walk 0 0) a at 0 h)

  pub stmts_on : (d n fuel : ℕ) (ss : List Stmt) (at : ℕ) → m ≤ at → On m (stmts_in ts d n fuel ss at)
  stmts_on d n fuel ss at h = seen d n (λ _ _ i. i.1) (stmts_walked ts d n ⊥ Here After (walk d n) fuel ss at h)

-- With 01's bounds the grammar over any bounds is the grammar of Sentences.antt.
use mathlib.Core.Path.{◌≡◌, refl, ap}
use mathlib.Core.List.{List, [], ◌∷◌, ◌++◌}
use Prim.Native.Nat.{ℕ, zero, suc, ◌+◌}
use lib.ListN.{length}
use Rattle.language.specs.Tokens.{Content, eof}
use Rattle.language.specs.Sentences.{Args, none_given, Stmt, Out, most_steps, most_lists, is, chain_of, expr_of, args_of, list_at, let_at, stmt_at, stmts_from, program}
use Rattle.language.specs.Bounds.{expr_in, list_in, let_in, stmt_in, stmts_in, program_in, BoundsMet}
use Rattle.language.proofs.Tests.{both_sides}
use Rattle.language.proofs.SentenceOutcomes.{same_then}
use Rattle.language.proofs.GrammarSound.{found_stmt}

list_met : (ts : List Content) (d : ℕ) → list_at ts d ≡ list_in ts most_steps d
unfolding list_at list_in expr_of expr_in
list_met ts zero = refl
list_met ts (suc d) =
    ap (λ (l : ℕ → Out Args). λ (at : ℕ). args_of ts (expr_in ts most_steps (chain_of ts l)) (suc (length ts)) none_given (at + 1))
    (list_met ts d)

stmt_met : (ts : List Content) (at : ℕ) → stmt_at ts at ≡ stmt_in ts most_lists most_steps at
unfolding stmt_at stmt_in let_at let_in expr_of expr_in
stmt_met ts at = rw (list_met ts most_lists)

stmts_met : (ts : List Content) (fuel : ℕ) (ss : List Stmt) (at : ℕ)
    → stmts_from ts fuel ss at ≡ stmts_in ts most_lists most_steps fuel ss at
unfolding stmts_from stmts_in
stmts_met ts zero ss at = refl
stmts_met ts (suc fuel) ss at =
    both_sides ◌≡◌ (is ts at eof) (λ _. refl)
    (λ _. rw (← stmt_met ts at) (same_then (found_stmt ts at) (λ s next x _. stmts_met ts fuel (ss ++ s ∷ []) next)))

pub bounds_met : BoundsMet
unfolding program program_in
bounds_met ts = stmts_met ts (suc (length ts)) [] 0

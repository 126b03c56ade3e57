-- The grammar's repetitions have turns enough: each turn goes on by a token, or takes a step.
use Prim.Native.Nat.{ℕ, zero, suc, ◌+◌, ◌<◌}
use mathlib.Core.Path.{◌≡◌, refl}
use mathlib.Core.List.{List, [], ◌∷◌, ◌++◌}
use native.Mathlib.Omega.{arith}
use lib.ListN.{length}
use Rattle.language.specs.Lexemes.{r_paren, double_colon, comma, slash}
use Rattle.language.specs.Tokens.{Content, eof, plain}
use Rattle.language.specs.Sentences.{Expr, slash', Args, Stmt, most_steps, is, is_name, names_from, slashes, expr_of, args_of, list_at, chain_at, expr_at, stmts_from, program, NamesUnfold, SlashesUnfold, ExprUnfolds, ArgsUnfold, ListUnfolds, StmtsUnfold, ProgramUnfolds}
use Rattle.language.proofs.Tests.{both_sides}
use Rattle.language.proofs.SentenceOutcomes.{same_then, before_end, not_end}
use Rattle.language.proofs.GrammarSound.{found_chain, found_arg, found_stmt}
use Rattle.language.proofs.GrammarPlaces.{arg_on, stmt_on}

-- ---- one turn more is the same, where the tokens that are left are fewer than the turns

module _ (ts : List Content) where
  names_same : (f n at s : ℕ) → 0 < f → length ts < at + f → names_from ts f n at s ≡ names_from ts (suc f) n at s
  unfolding names_from
  names_same zero n at s h l = absurd (omega arith)
  names_same (suc f) n at s h l =
      both_sides ◌≡◌ (is ts at (plain double_colon))
      (λ e. let i = before_end ts (plain double_colon) refl e in
      both_sides ◌≡◌ (is_name ts (at + 1)) (λ _. names_same f (n + 1) (at + 2) s (omega arith) (omega arith)) (λ _. refl))
      (λ _. refl)

  args_same : (d f : ℕ) (g : Args) (at : ℕ) → 0 < f → length ts < at + f
      → args_of ts (expr_at ts d) f g at ≡ args_of ts (expr_at ts d) (suc f) g at
  unfolding args_of
  args_same d zero g at h l = absurd (omega arith)
  args_same d (suc f) g at h l =
      both_sides ◌≡◌ (is ts at (plain r_paren)) (λ _. refl)
      (λ _. same_then (found_arg ts d g at) (λ r next x a.
      both_sides ◌≡◌ (is ts next (plain comma))
      (λ e. let i = before_end ts (plain comma) refl e in
      let on = arg_on ts a in args_same d f r (next + 1) (omega arith) (omega arith)) (λ _. refl)))

  stmts_same : (f : ℕ) (ss : List Stmt) (at : ℕ) → 0 < f → length ts < at + f → stmts_from ts f ss at ≡ stmts_from ts (suc f) ss at
  unfolding stmts_from
  stmts_same zero ss at h l = absurd (omega arith)
  stmts_same (suc f) ss at h l =
      both_sides ◌≡◌ (is ts at eof) (λ _. refl)
      (λ e. let i = not_end ts e in
      same_then (found_stmt ts at) (λ s next x a.
      let on = stmt_on ts a in stmts_same f (ss ++ s ∷ []) next (omega arith) (omega arith)))

  -- any number of turns is the same that is more than the steps that are left
  slashes_same : (d f g : ℕ) (e : Expr) (at s : ℕ) → s < f → s < g
      → slashes ts (chain_at ts d) f e at s ≡ slashes ts (chain_at ts d) g e at s
  unfolding slashes
  slashes_same d zero g e at s h l = absurd (omega arith)
  slashes_same d (suc f) zero e at s h l = absurd (omega arith)
  slashes_same d (suc f) (suc g) e at zero h l = refl
  slashes_same d (suc f) (suc g) e at (suc s) h l =
      both_sides ◌≡◌ (is ts at (plain slash))
      (λ _. same_then (found_chain ts d s (at + 1)) (λ r next x c.
      slashes_same d f g (slash' e r) next x (omega (arith, c.1)) (omega (arith, c.1))))
      (λ _. refl)

-- ---- the claims

pub names_unfold : NamesUnfold
unfolding names_from
names_unfold ts n at s = names_same ts (suc (length ts)) n at s (omega arith) (omega arith)

pub slashes_unfold : SlashesUnfold
unfolding slashes
slashes_unfold ts d e at s = (
  refl,
  both_sides ◌≡◌ (is ts at (plain slash))
      (λ _. same_then (found_chain ts d s (at + 1)) (λ r next x c.
      slashes_same ts d (suc s) (suc x) (slash' e r) next x (omega (arith, c.1)) (omega arith)))
      (λ _. refl),
)

pub expr_unfolds : ExprUnfolds
unfolding expr_of
expr_unfolds ts d at =
    same_then (found_chain ts d most_steps at) (λ e next x c.
    slashes_same ts d (suc most_steps) (suc x) e next x (omega (arith, c.1)) (omega arith))

pub args_unfold : ArgsUnfold
unfolding args_of
args_unfold ts d g at = args_same ts d (suc (length ts)) g at (omega arith) (omega arith)

pub list_unfolds : ListUnfolds
unfolding list_at
list_unfolds ts d at = (refl, refl)

pub stmts_unfold : StmtsUnfold
unfolding stmts_from
stmts_unfold ts ss at = stmts_same ts (suc (length ts)) ss at (omega arith) (omega arith)

pub program_unfolds : ProgramUnfolds
unfolding program
program_unfolds ts = refl

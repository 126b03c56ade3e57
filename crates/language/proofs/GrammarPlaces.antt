-- Where trees stand: an expression at its first token, and every part further on.
use Prim.Native.Nat.{ℕ, ◌+◌, ◌*◌, ◌≤◌, ◌<◌}
use mathlib.Core.Path.{◌≡◌, refl}
use mathlib.Core.List.{List}
use native.Mathlib.Omega.{arith}
use Rattle.language.specs.Tokens.{Content}
use Rattle.language.specs.Sentences.{Expr, Args, Stmt, first_of}
use Rattle.language.specs.Grammar.{PathNames, is_start, is_name_lem, Chain, is_literal_lem, is_address, is_sock4_lem, is_local, is_path, is_member, is_call, Slashed, is_chain, is_slash, Expression, is_expression, Argument, is_given, is_named_lem, Arguments, is_none, is_more, Bracketed, is_closed, is_last, Statement, is_import, is_let, is_expr, StandsFirst}
use Rattle.language.proofs.GrammarSound.{found_expr}

module _ (ts : List Content) where
  -- each further name of a path is two tokens after the one before
  pub names_next : {mid n next : ℕ} → PathNames ts mid n next → next ≡ mid + 2 * n
  names_next is_start = omega arith
  names_next (is_name_lem p a b) = omega (arith, names_next p, a.after, b.after)

  mutual
    pub chain_on : {d at next : ℕ} {e : Expr} → Chain ts d at e next → at < next
    chain_on (is_literal_lem a) = omega arith
    chain_on (is_address a b) = omega arith
    chain_on (is_sock4_lem a b c) = omega arith
    chain_on (is_local a b) = omega arith
    chain_on (is_path a p m b) = omega (arith, names_next p)
    chain_on (is_member c a b) = omega (arith, chain_on c)
    chain_on (is_call c l) = omega (arith, chain_on c, list_on l)

    pub slashed_on : {d at next : ℕ} {e : Expr} → Slashed ts d at e next → at < next
    slashed_on (is_chain c) = chain_on c
    slashed_on (is_slash c a r) = omega (arith, slashed_on c, chain_on r)

    pub expr_on : {d at next : ℕ} {e : Expr} → Expression ts d at e next → at < next
    expr_on (is_expression c l) = slashed_on c

    pub arg_on : {d at next : ℕ} {g h : Args} → Argument ts d at g h next → at < next
    arg_on (is_given f c) = expr_on c
    arg_on (is_named_lem a b c) = omega (arith, expr_on c)

    pub args_on_lem : {d at next : ℕ} {g : Args} → Arguments ts d at g next → at ≤ next
    args_on_lem is_none = omega arith
    args_on_lem (is_more g a b) = omega (arith, args_on_lem g, arg_on a)

    pub list_on : {d at next : ℕ} {g : Args} → Bracketed ts d at g next → at < next
    list_on (is_closed a g b) = omega (arith, args_on_lem g)
    list_on (is_last a g h b) = omega (arith, args_on_lem g, arg_on h)

  pub stmt_on : {at next : ℕ} {s : Stmt} → Statement ts at s next → at < next
  stmt_on (is_import a b c) = omega arith
  stmt_on (is_let a b c e f) = omega (arith, expr_on e)
  stmt_on (is_expr e f) = omega (arith, expr_on e)

  pub chain_first : {d at next : ℕ} {e : Expr} → Chain ts d at e next → first_of e ≡ at
  chain_first (is_literal_lem a) = refl
  chain_first (is_address a b) = refl
  chain_first (is_sock4_lem a b c) = refl
  chain_first (is_local a b) = refl
  chain_first (is_path a p m b) = refl
  chain_first (is_member c a b) = chain_first c
  chain_first (is_call c l) = chain_first c

  pub slashed_first : {d at next : ℕ} {e : Expr} → Slashed ts d at e next → first_of e ≡ at
  slashed_first (is_chain c) = chain_first c
  slashed_first (is_slash c a r) = slashed_first c

  pub expr_first : {d at next : ℕ} {e : Expr} → Expression ts d at e next → first_of e ≡ at
  expr_first (is_expression c l) = slashed_first c

pub stands_first : StandsFirst
stands_first ts d at next e =
    (chain_first ts, slashed_first ts, λ s h. let f = rw h at (found_expr ts d at) in expr_first ts f.holds)

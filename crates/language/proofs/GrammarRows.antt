-- The tokens that a program's rows name are what their kinds say.
use Prim.Native.Nat.{ℕ, suc, ◌+◌, ◌*◌}
use mathlib.Core.Path.{◌≡◌, refl}
use mathlib.Core.Bool.{true, or-true}
use mathlib.Core.List.{List}
use native.Mathlib.Omega.{arith}
use lib.ListN.{length}
use Rattle.language.specs.Tokens.{Content}
use Rattle.language.specs.Sentences.{Expr, Args, Stmt, is_literal, Node, name_nodes, expr_size, args_size, expr_nodes, arg_nodes, stmt_nodes, nodes_from}
use Rattle.language.specs.Grammar.{PathNames, is_start, is_name_lem, Chain, is_literal_lem, is_address, is_sock4_lem, is_local, is_path, is_member, is_call, Slashed, is_chain, is_slash, Expression, is_expression, Argument, is_given, is_named_lem, Arguments, is_none, is_more, Bracketed, is_closed, is_last, Statement, is_import, is_let, is_expr, Program, is_end, is_next, right_tokens, RowsRight}
use Rattle.language.proofs.Each.{Each, of_none, of_one, of_both}
use Rattle.language.proofs.GrammarPlaces.{names_next}
use Rattle.language.proofs.GrammarMet.{opens, grammar_met}

module _ (ts : List Content) where
  abbrev All : List Node → Type 0
  All ns = Each (λ n. right_tokens ts n ≡ true) ns

  names_right : {mid n next : ℕ} (at : ℕ) → mid ≡ at + 1 → PathNames ts mid n next → All (name_nodes at n)
  names_right at h is_start = of_none
  names_right at h (is_name_lem {n = n} {t = t} p a b) =
      let last : t ≡ at + 2 * suc n = omega (arith, names_next ts p, a.after) in
      of_both (names_right at h p) (of_one (rw last at b.passes))

  mutual
    chain_right : {d at next : ℕ} {e : Expr} → Chain ts d at e next → (k : ℕ) → All (expr_nodes k e)
    chain_right (is_literal_lem a) k = of_one (rw a.passes)
    chain_right (is_address {at = at} a b) k = of_one (rw a.passes (or-true (is_literal ts at)))
    chain_right (is_sock4_lem a b c) k = of_one a.passes
    chain_right (is_local a b) k = of_one a.passes
    chain_right (is_path {at = at} a p m b) k = of_both (names_right at a.after p) (of_one a.passes)
    chain_right (is_member c a b) k = of_both (chain_right c k) (of_one b.passes)
    chain_right (is_call {e = e} c l) k =
        of_both (of_both (chain_right c k) (list_right l (k + expr_size e) 0)) (of_one (opens ts l))

    slashed_right : {d at next : ℕ} {e : Expr} → Slashed ts d at e next → (k : ℕ) → All (expr_nodes k e)
    slashed_right (is_chain c) k = chain_right c k
    slashed_right (is_slash {e = e} c a r) k =
        of_both (of_both (slashed_right c k) (chain_right r (k + expr_size e))) (of_one refl)

    expr_right : {d at next : ℕ} {e : Expr} → Expression ts d at e next → (k : ℕ) → All (expr_nodes k e)
    expr_right (is_expression c l) k = slashed_right c k

    arg_right : {d at next : ℕ} {g h : Args} → Argument ts d at g h next → (k : ℕ) → ((x : ℕ) → All (arg_nodes k g x)) → (x : ℕ)
        → All (arg_nodes k h x)
    arg_right (is_given {g = g} f c) k l x = of_both (of_both (l _) (expr_right c (k + args_size g))) (of_one refl)
    arg_right (is_named_lem {g = g} a b c) k l x =
        of_both (of_both (l _) (expr_right c (k + args_size g))) (of_one a.passes)

    args_right : {d at next : ℕ} {g : Args} → Arguments ts d at g next → (k x : ℕ) → All (arg_nodes k g x)
    args_right is_none k x = of_none
    args_right (is_more g a b) k x = arg_right a k (λ y. args_right g k y) x

    list_right : {d at next : ℕ} {g : Args} → Bracketed ts d at g next → (k x : ℕ) → All (arg_nodes k g x)
    list_right (is_closed a g b) k x = args_right g k x
    list_right (is_last a g c b) k x = arg_right c k (λ y. args_right g k y) x

  stmt_right : {at next : ℕ} {s : Stmt} → Statement ts at s next → (k : ℕ) → All (stmt_nodes k s)
  stmt_right (is_import a b c) k = of_one b.passes
  stmt_right (is_let a b c x o) k = of_both (expr_right x k) (of_one b.passes)
  stmt_right (is_expr x o) k = of_both (expr_right x k) (of_one refl)

  program_right : {at next : ℕ} {ss : List Stmt} → Program ts at ss next → (k : ℕ) → All (nodes_from k ss)
  unfolding nodes_from
  program_right (is_end e) k = of_none
  program_right (is_next {s = s} x p) k = of_both (stmt_right x k) (program_right p (k + length (stmt_nodes k s)))

pub rows_right : RowsRight
rows_right ts ss next x e = (program_right ts ((grammar_met ts ss next).0 x e) 0).holds

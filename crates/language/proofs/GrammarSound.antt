-- What is found stands for its tokens by the rules of the grammar.
use Prim.Native.Nat.{ℕ, zero, suc, ◌+◌, ◌<◌}
use mathlib.Core.Path.{◌≡◌, refl, sym, ap, ◌∙◌}
use mathlib.Core.Bool.{Bool, true, false≢true}
use mathlib.Core.List.{List, [], ◌∷◌, ◌++◌, append_assoc, append-nil}
use native.Mathlib.Omega.{arith}
use native.Mathlib.Numerals.{add-one}
use lib.ListN.{length, get_or}
use Rattle.language.specs.Lexemes.{r_paren, l_paren, dot, double_colon, colon, semi_colon, equals, comma, slash, import_keyword, let_keyword, ipv4_literal}
use Rattle.language.specs.Tokens.{Content, eof, plain}
use Rattle.language.specs.Sentences.{Expr, sock4, member, call, slash', Args, none_given, Stmt, import', let', expr', Port, port, too_large, not_port, port_of, Out, ok, no, most_steps, most_lists, is, is_name, is_literal, names_from, address, named', primary, links, chain_of, slashes, expr_of, arg_of, args_of, list_at, expr_at, ended, import_at, let_at, stmt_at, stmts_from, program}
use Rattle.language.specs.Grammar.{steps_of, is_port, Takes, One, Other, PathNames, is_start, is_name_lem, Chain, is_literal_lem, is_address, is_sock4_lem, is_local, is_path, is_member, is_call, Slashed, is_chain, is_slash, Expression, is_expression, Argument, is_given, is_named_lem, Arguments, is_none, is_more, Bracketed, is_closed, is_last, Statement, is_import, is_let, is_expr, Program, is_end, is_next}
use Rattle.language.proofs.SentenceOutcomes.{Every, good, refused, also, either, both}

-- a token, and the place after it
takes : {b : Bool} {at next : ℕ} → b ≡ true → next ≡ at + 1 → Takes b at next
takes p a = record { passes = p; after = a }

module _ (ts : List Content) where
  -- names from the first on
  names_read : {from : ℕ} (f n at s : ℕ) → PathNames ts from n at
      → Every (λ m next x. PathNames ts from m next × Other ts (plain double_colon) next × (x ≡ s)) (names_from ts f n at s)
  unfolding names_from
  names_read zero n at s p = refused
  names_read (suc f) n at s p =
      either (is ts at (plain double_colon))
      (λ e. either (is_name ts (at + 1))
      (λ q. let more = is_name_lem {next = at + 2} p (takes e refl) (takes q (omega arith)) in names_read f (n + 1) (at + 2) s (rw add-one more))
      (λ _. refused))
      (λ e. good (p, e, refl))

  some_name : {at n next : ℕ} → PathNames ts at n next → is ts at (plain double_colon) ≡ true → Other ts (plain double_colon) next
      → 0 < n
  some_name is_start e o = absurd (false≢true (sym o ∙ e))
  some_name (is_name_lem p a b) e o = omega arith

  module _ (d at s : ℕ) where
    -- a chain with no step
    abbrev First : Expr → ℕ → ℕ → Type 0
    First e next x = Chain ts d at e next × (steps_of e ≡ 0) × (x ≡ s)

    address_read : is ts at (plain (ipv4_literal 0)) ≡ true → Every First (address ts at s)
    unfolding address
    address_read a =
        either (is ts (at + 1) (plain colon)) (λ e. by (port_of (get_or ts (at + 2) eof)) refl e)
        (λ e. good (is_address (takes a refl) e, refl, refl))
      where
        by : (p : Port) → port_of (get_or ts (at + 2) eof) ≡ p → is ts (at + 1) (plain colon) ≡ true
            → Every First (elim p [ port ↦ ok (sock4 at) (at + 3) s | too_large ↦ no 5 2 (at + 2) | not_port ↦ no 5 1 (at + 2) ])
        by port p e = good (is_sock4_lem (takes a refl) (takes e (omega arith)) (takes (ap is_port p) (omega arith)), refl, refl)
        by too_large p e = refused
        by not_port p e = refused

    named_read : is_name ts at ≡ true → Every First (named' ts at s)
    unfolding named'
    named_read a =
        either (is ts (at + 1) (plain double_colon))
        (λ e. both (names_read (suc (length ts)) 0 (at + 1) s is_start)
        (λ n next x h. good (is_path (takes a refl) h.0 (some_name h.0 e h.1) h.1, refl, h.2)))
        (λ e. good (is_local (takes a refl) e, refl, refl))

    primary_read : Every First (primary ts at s)
    unfolding primary
    primary_read =
        either (is_literal ts at) (λ e. good (is_literal_lem (takes e refl), refl, refl))
        (λ _. either (is ts at (plain (ipv4_literal 0))) address_read (λ _. either (is_name ts at) named_read (λ _. refused)))

  module _ (d : ℕ) (list : ℕ → Out Args)
      (h : (at : ℕ) → is ts at (plain l_paren) ≡ true → Every (λ g next x. Bracketed ts d at g next) (list at)) where
    links_read : {from : ℕ} (s : ℕ) (e : Expr) (at : ℕ) → Chain ts d from e at
        → Every (λ r next x. Chain ts d from r next × (steps_of r + x ≡ steps_of e + s)) (links ts list s e at)
    unfolding links
    links_read zero e at c =
        either (is ts at (plain l_paren)) (λ _. refused) (λ _. either (is ts at (plain dot)) (λ _. refused) (λ _. good (c, refl)))
    links_read (suc s) e at c =
        either (is ts at (plain l_paren))
        (λ p. both (h at p) (λ g next x l.
        also (links_read s (call e at g) next (is_call c l)) (λ r n y q. (q.0, omega (arith, q.1)))))
        (λ _. either (is ts at (plain dot))
        (λ p. either (is_name ts (at + 1))
        (λ q. let more = is_member c (takes p refl) (takes q (omega arith)) in
        also (links_read s (member e (at + 1)) (at + 2) more) (λ r n y q. (q.0, omega (arith, q.1))))
        (λ _. refused))
        (λ _. good (c, refl)))

    chain_read : (s at : ℕ) → Every (λ e next x. Chain ts d at e next × (steps_of e + x ≡ s)) (chain_of ts list s at)
    unfolding chain_of
    chain_read s at =
        both (primary_read d at s) (λ e next x f. also (links_read s e next f.0) (λ r n y q. (q.0, omega (arith, f.1, q.1))))

    slashes_read : {from : ℕ} (f : ℕ) (e : Expr) (at s : ℕ) → Slashed ts d from e at
        → Every (λ r next x. Slashed ts d from r next × (steps_of r + x ≡ steps_of e + s)) (slashes ts (chain_of ts list) f e at s)
    unfolding slashes
    slashes_read zero e at s c = refused
    slashes_read (suc f) e at zero c = either (is ts at (plain slash)) (λ _. refused) (λ _. good (c, refl))
    slashes_read (suc f) e at (suc s) c =
        either (is ts at (plain slash))
        (λ p. both (chain_read s (at + 1)) (λ r next x l.
        let more = is_slash c (takes p refl) l.0 in
        also (slashes_read f (slash' e r) next x more) (λ t n y q. (q.0, omega (arith, l.1, q.1)))))
        (λ _. good (c, refl))

    expr_read : (at : ℕ) → Every (λ e next x. Expression ts d at e next) (expr_of ts (chain_of ts list) at)
    unfolding expr_of
    expr_read at =
        both (chain_read most_steps at) (λ e next x c.
        also (slashes_read (suc most_steps) e next x (is_chain c.0))
        (λ r n y q. is_expression q.0 (omega (arith, c.1, q.1))))

  module _ (d : ℕ) (expr : ℕ → Out Expr) (h : (at : ℕ) → Every (λ e next x. Expression ts d at e next) (expr at)) where
    arg_read : (g : Args) (at : ℕ) → Every (λ r next x. Argument ts d at g r next) (arg_of ts expr g at)
    unfolding arg_of
    arg_read g at =
        either (is_name ts at)
        (λ p. either (is ts (at + 1) (plain colon))
        (λ q. both (h (at + 2)) (λ e next x l. good (is_named_lem (takes p refl) (takes q (omega arith)) l)))
        (λ q. both (h at) (λ e next x l. good (is_given (λ _. q) l))))
        (λ p. both (h at) (λ e next x l. good (is_given (λ q. absurd (false≢true (sym p ∙ q))) l)))

    args_read : {from : ℕ} → is ts from (plain l_paren) ≡ true → (f : ℕ) (g : Args) (at : ℕ) → Arguments ts d (from + 1) g at
        → Every (λ r next x. Bracketed ts (suc d) from r next) (args_of ts expr f g at)
    unfolding args_of
    args_read o zero g at c = refused
    args_read o (suc f) g at c =
        either (is ts at (plain r_paren)) (λ p. good (is_closed (takes o refl) c (takes p refl)))
        (λ _. both (arg_read g at) (λ r next x l.
        either (is ts next (plain comma)) (λ p. args_read o f r (next + 1) (is_more c l (takes p refl)))
        (λ _. either (is ts next (plain r_paren)) (λ p. good (is_last (takes o refl) c l (takes p refl))) (λ _. refused))))

  list_read : (d at : ℕ) → is ts at (plain l_paren) ≡ true → Every (λ g next x. Bracketed ts d at g next) (list_at ts d at)
  unfolding list_at
  list_read zero at o = refused
  list_read (suc d) at o =
      args_read d (expr_at ts d) (expr_read d (list_at ts d) (list_read d)) o (suc (length ts)) none_given (at + 1) is_none

  -- an expression, where d lists may be open in it
  pub found_expr : (d at : ℕ) → Every (λ e next x. Expression ts d at e next) (expr_at ts d at)
  found_expr d at = expr_read d (list_at ts d) (list_read d) at

  pub found_chain : (d s at : ℕ) → Every (λ e next x. Chain ts d at e next × (steps_of e + x ≡ s)) (chain_of ts (list_at ts d) s at)
  found_chain d s at = chain_read d (list_at ts d) (list_read d) s at

  pub found_arg : (d : ℕ) (g : Args) (at : ℕ) → Every (λ r next x. Argument ts d at g r next) (arg_of ts (expr_at ts d) g at)
  found_arg d g at = arg_read d (expr_at ts d) (found_expr d) g at

  -- ---- statements

  -- with its `;`
  ended_read : {at : ℕ} (s : Stmt) (mid : ℕ) → (One ts (plain semi_colon) mid (mid + 1) → Statement ts at s (mid + 1))
      → Every (λ r next x. Statement ts at r next) (ended ts s mid)
  ended_read s mid f = either (is ts mid (plain semi_colon)) (λ o. good (f (takes o refl))) (λ _. refused)

  pub found_stmt : (at : ℕ) → Every (λ s next x. Statement ts at s next) (stmt_at ts at)
  unfolding stmt_at import_at let_at
  found_stmt at =
      either (is ts at (plain import_keyword))
      (λ p. either (is_name ts (at + 1))
      (λ q. ended_read (import' (at + 1)) (at + 2) (λ o. is_import (takes p refl) (takes q (omega arith)) o)) (λ _. refused))
      (λ _. either (is ts at (plain let_keyword))
      (λ p. either (is_name ts (at + 1))
      (λ q. either (is ts (at + 2) (plain equals))
      (λ r. both (found_expr most_lists (at + 3)) (λ e next x l.
      ended_read (let' (at + 1) e) next (λ o. is_let (takes p refl) (takes q (omega arith)) (takes r (omega arith)) l o)))
      (λ _. refused)) (λ _. refused))
      (λ _. both (found_expr most_lists at) (λ e next x l. ended_read (expr' e) next (λ o. is_expr l o))))

  stmts_read : (f : ℕ) (ss : List Stmt) (at : ℕ)
      → Every (λ us next x. (vs : List Stmt) × (us ≡ ss ++ vs) × Program ts at vs next) (stmts_from ts f ss at)
  unfolding stmts_from
  stmts_read zero ss at = refused
  stmts_read (suc f) ss at =
      either (is ts at eof) (λ p. good ([], sym (append-nil ss), is_end p))
      (λ _. both (found_stmt at) (λ s next x h.
      also (stmts_read f (ss ++ s ∷ []) next) (λ us n y q. (s ∷ q.0, q.1 ∙ append_assoc ss (s ∷ []) q.0, is_next h q.2))))

  pub found_program : Every (λ ss next x. Program ts 0 ss next) (program ts)
  unfolding program
  found_program = also (stmts_read (suc (length ts)) [] 0) (λ us n y q. rw q.1 q.2)

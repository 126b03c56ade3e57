-- There are never more nodes than tokens: each production of the grammar takes a token for each node that it makes.
use Prim.Native.Nat.{ℕ, zero, suc, ◌+◌, ◌≤◌}
use mathlib.Core.Path.{◌≡◌, refl}
use mathlib.Core.List.{List, [], ◌∷◌, ◌++◌}
use native.Mathlib.Omega.{arith}
use lib.ListN.{length, get_or, length-append}
use Rattle.language.specs.Choice.{if'}
use Rattle.language.specs.Lexemes.{ipv4_literal, semi_colon, l_paren, r_paren, dot, double_colon, colon, comma, slash, equals, import_keyword, let_keyword}
use Rattle.language.specs.Tokens.{Content, eof, plain}
use Rattle.language.specs.Sentences.{Expr, path, member, call, slash', Args, none_given, given, named, Stmt, import', let', expr', Out, ok, no, and_then, Port, port, too_large, not_port, port_of, most_steps, most_lists, is, is_name, is_literal, names_from, address, named', primary, links, chain_of, slashes, expr_of, arg_of, args_of, list_at, ended, import_at, let_at, stmt_at, stmts_from, program, expr_at, expr_size, args_size, stmt_size, nodes_from, nodes}
use Rattle.language.proofs.Tests.{by_cases}
use Rattle.language.proofs.SentenceOutcomes.{before_end}
use Rattle.language.proofs.NodeClaims.{stmt_long}
use Rattle.parse.proofs.Nodes.{nodes_more}

-- from the token `at`, with `have` nodes, an outcome took a token for each node more
abbrev Spends : {A : Type 0} → (A → ℕ) → ℕ → ℕ → Out A → Type 0
Spends size have at (ok a next s) = at + size a ≤ next + have
Spends size have at (no n k t) = Unit {0}

-- one part of the grammar after another; a refusal is passed on
then : {A B : Type 0} (size : A → ℕ) (have at : ℕ) (P : Out B → Type 0) (o : Out A) (f : A → ℕ → ℕ → Out B)
    → ((n k t : ℕ) → P (no n k t)) → Spends size have at o → ((a : A) (next s : ℕ) → at + size a ≤ next + have → P (f a next s))
    → P (and_then o f)
then size have at P (ok a next s) f r h g = g a next s h
then size have at P (no n k t) f r h g = r n k t

-- what was taken from a later token on, with nodes more, was taken from an earlier one
earlier : {A : Type 0} (size : A → ℕ) (have at have' at' : ℕ) → at + have' ≤ at' + have → (o : Out A) → Spends size have' at' o
    → Spends size have at o
earlier size have at have' at' l (ok a next s) h = omega arith
earlier size have at have' at' l (no n k t) h = h

module _ (ts : List Content) where
  -- ---- a primary

  names_few : (fuel n at s : ℕ) → Spends (λ m. m) n at (names_from ts fuel n at s)
  unfolding names_from
  names_few zero n at s = tt
  names_few (suc fuel) n at s =
      let P = Spends (λ m. m) n at in
      by_cases P (is ts at (plain double_colon))
      (λ _. by_cases P (is_name ts (at + 1))
      (λ _. earlier (λ m. m) n at (n + 1) (at + 2) (omega arith) (names_from ts fuel (n + 1) (at + 2) s) (names_few fuel (n + 1) (at + 2) s))
      (λ _. tt))
      (λ _. omega arith)

  address_few : (at s : ℕ) → Spends expr_size 0 at (address ts at s)
  unfolding address
  address_few at s = go (port_of (get_or ts (at + 2) eof)) refl
    where
      P : Out Expr → Type 0
      P = Spends expr_size 0 at

      go : (p : Port) → port_of (get_or ts (at + 2) eof) ≡ p → P (address ts at s)
      go port e = rw (e, address) (by_cases P (is ts (at + 1) (plain colon)) (λ _. omega arith) (λ _. omega arith))
      go too_large e = rw (e, address) (by_cases P (is ts (at + 1) (plain colon)) (λ _. tt) (λ _. omega arith))
      go not_port e = rw (e, address) (by_cases P (is ts (at + 1) (plain colon)) (λ _. tt) (λ _. omega arith))

  name_few : (at s : ℕ) → Spends expr_size 0 at (named' ts at s)
  unfolding named'
  name_few at s =
      let P = Spends expr_size 0 at in
      by_cases P (is ts (at + 1) (plain double_colon))
      (λ _. then (λ m. m) 0 (at + 1) P (names_from ts (suc (length ts)) 0 (at + 1) s) (λ n next x. ok (path at n) next x)
      (λ n k t. tt) (names_few (suc (length ts)) 0 (at + 1) s) (λ n next x h. omega arith))
      (λ _. omega arith)

  primary_few : (at s : ℕ) → Spends expr_size 0 at (primary ts at s)
  unfolding primary
  primary_few at s =
      let P = Spends expr_size 0 at in
      by_cases P (is_literal ts at) (λ _. omega arith)
      (λ _. by_cases P (is ts at (plain (ipv4_literal 0))) (λ _. address_few at s)
      (λ _. by_cases P (is_name ts at) (λ _. name_few at s) (λ _. tt)))

  -- ---- an expression, where its lists are few

  abbrev FewArgs : (ℕ → Out Args) → Type 0
  FewArgs list = (at : ℕ) → Spends args_size 0 (at + 1) (list at)

  module _ (list : ℕ → Out Args) (few : FewArgs list) where
    links_few : (s : ℕ) (e : Expr) (at : ℕ) → Spends expr_size (expr_size e) at (links ts list s e at)
    unfolding links
    links_few zero e at =
        let P = Spends expr_size (expr_size e) at in
        by_cases P (is ts at (plain l_paren)) (λ _. tt) (λ _. by_cases P (is ts at (plain dot)) (λ _. tt) (λ _. omega arith))
    links_few (suc s) e at =
        let P = Spends expr_size (expr_size e) at in
        let m = member e (at + 1) in
        by_cases P (is ts at (plain l_paren))
        (λ _. then args_size 0 (at + 1) P (list at) (λ g next x. links ts list s (call e at g) next) (λ n k t. tt) (few at)
        (λ g next x h.
        earlier expr_size (expr_size e) at (expr_size (call e at g)) next (omega arith) (links ts list s (call e at g) next)
        (links_few s (call e at g) next)))
        (λ _. by_cases P (is ts at (plain dot))
        (λ _. by_cases P (is_name ts (at + 1))
        (λ _. earlier expr_size (expr_size e) at (expr_size m) (at + 2) (omega arith) (links ts list s m (at + 2)) (links_few s m (at + 2)))
        (λ _. tt))
        (λ _. omega arith))

    chain_few : (s at : ℕ) → Spends expr_size 0 at (chain_of ts list s at)
    unfolding chain_of
    chain_few s at =
        then expr_size 0 at (Spends expr_size 0 at) (primary ts at s) (λ e next x. links ts list s e next) (λ n k t. tt) (primary_few at s)
        (λ e next x h. earlier expr_size 0 at (expr_size e) next (omega arith) (links ts list s e next) (links_few s e next))

    slashes_few : (fuel : ℕ) (e : Expr) (at s : ℕ) → Spends expr_size (expr_size e) at (slashes ts (chain_of ts list) fuel e at s)
    unfolding slashes
    slashes_few zero e at s = tt
    slashes_few (suc fuel) e at zero =
        by_cases (Spends expr_size (expr_size e) at) (is ts at (plain slash)) (λ _. tt) (λ _. omega arith)
    slashes_few (suc fuel) e at (suc s) =
        let P = Spends expr_size (expr_size e) at in
        by_cases P (is ts at (plain slash))
        (λ _. then expr_size 0 (at + 1) P (chain_of ts list s (at + 1))
        (λ r next left. slashes ts (chain_of ts list) fuel (slash' e r) next left) (λ n k t. tt) (chain_few s (at + 1))
        (λ r next left h.
        earlier expr_size (expr_size e) at (expr_size (slash' e r)) next (omega arith)
        (slashes ts (chain_of ts list) fuel (slash' e r) next left) (slashes_few fuel (slash' e r) next left)))
        (λ _. omega arith)

    expr_few : (at : ℕ) → Spends expr_size 0 at (expr_of ts (chain_of ts list) at)
    unfolding expr_of
    expr_few at =
        then expr_size 0 at (Spends expr_size 0 at) (chain_of ts list most_steps at)
        (λ e next s. slashes ts (chain_of ts list) (suc most_steps) e next s) (λ n k t. tt) (chain_few most_steps at)
        (λ e next s h.
        earlier expr_size 0 at (expr_size e) next (omega arith) (slashes ts (chain_of ts list) (suc most_steps) e next s)
        (slashes_few (suc most_steps) e next s))

  -- ---- arguments, where expressions are few: each takes the `,` or `)` after it

  module _ (expr : ℕ → Out Expr) (few : (at : ℕ) → Spends expr_size 0 at (expr at)) where
    arg_few : (g : Args) (at : ℕ) → Spends args_size (args_size g + 1) at (arg_of ts expr g at)
    unfolding arg_of
    arg_few g at =
        let P = Spends args_size (args_size g + 1) at in
        let plain-few : P (and_then (expr at) (λ e next x. ok (given g e) next 0)) =
        then expr_size 0 at P (expr at) (λ e next x. ok (given g e) next 0) (λ n k t. tt) (few at) (λ e next x h. omega arith) in
        by_cases P (is_name ts at)
        (λ _. by_cases P (is ts (at + 1) (plain colon))
        (λ _. then expr_size 0 (at + 2) P (expr (at + 2)) (λ e next x. ok (named g at e) next 0) (λ n k t. tt) (few (at + 2)) (λ e next x h. omega arith))
        (λ _. plain-few))
        (λ _. plain-few)

    args_few : (fuel : ℕ) (g : Args) (at : ℕ) → Spends args_size (args_size g) at (args_of ts expr fuel g at)
    unfolding args_of
    args_few zero g at = tt
    args_few (suc fuel) g at =
        let P = Spends args_size (args_size g) at in
        by_cases P (is ts at (plain r_paren)) (λ _. omega arith)
        (λ _. then args_size (args_size g + 1) at P (arg_of ts expr g at)
        (λ h next x.
        if' (is ts next (plain comma)) (args_of ts expr fuel h (next + 1)) (if' (is ts next (plain r_paren)) (ok h (next + 1) 0) (no 5 1 next)))
        (λ n k t. tt) (arg_few g at)
        (λ h next x l.
        by_cases P (is ts next (plain comma))
        (λ _. earlier args_size (args_size g) at (args_size h) (next + 1) (omega arith) (args_of ts expr fuel h (next + 1)) (args_few fuel h (next + 1)))
        (λ _. by_cases P (is ts next (plain r_paren)) (λ _. omega arith) (λ _. tt))))

  lists_few : (d : ℕ) → FewArgs (list_at ts d)
  unfolding list_at
  lists_few zero at = tt
  lists_few (suc d) at =
      args_few (expr_of ts (chain_of ts (list_at ts d))) (expr_few (list_at ts d) (lists_few d)) (suc (length ts)) none_given (at + 1)

  -- ---- statements: each takes its `;`, which is a token of the list

  abbrev Ends : ℕ → Out Stmt → Type 0
  Ends at (ok s next x) = (at + stmt_size s ≤ next) × (next ≤ length ts)
  Ends at (no n k t) = Unit {0}

  ended_few : (s : Stmt) (at next : ℕ) → at + stmt_size s ≤ next + 1 → Ends at (ended ts s next)
  ended_few s at next h = by_cases (Ends at) (is ts next (plain semi_colon)) (λ e. (h, omega (arith, before_end ts (plain semi_colon) refl e))) (λ _. tt)

  lists : FewArgs (list_at ts most_lists)
  lists = lists_few most_lists

  import_few : (at : ℕ) → Ends at (import_at ts at)
  unfolding import_at
  import_few at = by_cases (Ends at) (is_name ts (at + 1)) (λ _. ended_few (import' (at + 1)) at (at + 2) (omega arith)) (λ _. tt)

  let_few : (at : ℕ) → Ends at (let_at ts at)
  unfolding let_at
  let_few at =
      by_cases (Ends at) (is_name ts (at + 1))
      (λ _. by_cases (Ends at) (is ts (at + 2) (plain equals))
      (λ _. then expr_size 0 (at + 3) (Ends at) (expr_at ts most_lists (at + 3)) (λ e next x. ended ts (let' (at + 1) e) next) (λ n k t. tt)
      (expr_few (list_at ts most_lists) lists (at + 3)) (λ e next x h. ended_few (let' (at + 1) e) at next (omega arith)))
      (λ _. tt))
      (λ _. tt)

  stmt_few : (at : ℕ) → Ends at (stmt_at ts at)
  unfolding stmt_at
  stmt_few at =
      by_cases (Ends at) (is ts at (plain import_keyword)) (λ _. import_few at)
      (λ _. by_cases (Ends at) (is ts at (plain let_keyword)) (λ _. let_few at)
      (λ _. then expr_size 0 at (Ends at) (expr_at ts most_lists at) (λ e next x. ended ts (expr' e) next) (λ n k t. tt)
      (expr_few (list_at ts most_lists) lists at) (λ e next x h. ended_few (expr' e) at next (omega arith))))

  abbrev AllEnd : ℕ → ℕ → Out (List Stmt) → Type 0
  AllEnd have at (ok ss next x) = (at + length (nodes ss) ≤ next + have) × (next ≤ length ts)
  AllEnd have at (no n k t) = Unit {0}

  stmts_few : (fuel : ℕ) (ss : List Stmt) (at : ℕ) → at ≤ length ts → AllEnd (length (nodes ss)) at (stmts_from ts fuel ss at)
  unfolding stmts_from
  stmts_few zero ss at h = tt
  stmts_few (suc fuel) ss at h =
      by_cases (AllEnd (length (nodes ss)) at) (is ts at eof) (λ _. (omega arith, h)) (λ _. go (stmt_at ts at) (stmt_few at) (λ s. stmts_few fuel (ss ++ s ∷ [])))
    where
      more : (s : Stmt) → length (nodes (ss ++ s ∷ [])) ≡ length (nodes ss) + stmt_size s
      more s = rw (nodes_more 0 ss s) (simp length-append (omega (arith, stmt_long (0 + length (nodes ss)) s)))

      after : (s : Stmt) (next : ℕ) → at + stmt_size s ≤ next → (o : Out (List Stmt)) → AllEnd (length (nodes (ss ++ s ∷ []))) next o
          → AllEnd (length (nodes ss)) at o
      after s next l (ok us end x) w = (omega (arith, w.0, more s), w.1)
      after s next l (no n k t) w = w

      go : (o : Out Stmt) → Ends at o → ((s : Stmt) (next : ℕ) → next ≤ length ts → AllEnd (length (nodes (ss ++ s ∷ []))) next (stmts_from ts fuel (ss ++ s ∷ []) next))
          → AllEnd (length (nodes ss)) at (and_then o (λ s next x. stmts_from ts fuel (ss ++ s ∷ []) next))
      go (ok s next x) e f = after s next e.0 (stmts_from ts fuel (ss ++ s ∷ []) next) (f s next e.1)
      go (no n k t) e f = e

  whole : AllEnd 0 0 (program ts)
  unfolding program nodes_from
  whole = stmts_few (suc (length ts)) [] 0 (omega arith)

  -- as many nodes as tokens, at most
  pub nodes_few : (ss : List Stmt) (at x : ℕ) → program ts ≡ ok ss at x → length (nodes ss) ≤ length ts
  nodes_few ss at x e = let v : AllEnd 0 0 (ok ss at x) = rw e at whole in omega (arith, v.0, v.1)

-- The rows of a program hold its trees.
use Prim.Native.Nat.{ℕ, zero, suc, ◌+◌, ◌-◌, ◌*◌, ◌≤◌, ◌<◌}
use mathlib.Core.Path.{◌≡◌, refl, sym, ◌∙◌}
use mathlib.Core.Logic.{inl, inr}
use mathlib.Core.List.{List, [], ◌∷◌, ◌++◌, append_assoc, append-nil}
use native.Mathlib.Omega.{arith}
use native.Mathlib.Decide.{dec_lt}
use lib.ListN.{length, length-append}
use lib.Seq.{get_or_at}
use Rattle.language.specs.Sentences.{Expr, literal, sock4, local, path, member, call, slash', Args, none_given, given, named, Stmt, import', let', expr', Node, node, name_nodes, expr_size, args_size, first_row, expr_nodes, arg_nodes, stmt_nodes, nodes_from, nodes, stmt_size, program_size}
use Rattle.language.specs.Rows.{row_at, Onward, Holds, holds_literal, holds_sock4, holds_local, holds_path, holds_member, holds_slash, holds_call, HoldsArgs, holds_none, holds_given, holds_named, HoldsStmt, holds_import, holds_let, holds_expr, RowsHold}
use Rattle.language.proofs.NodeClaims.{names_long, expr_long, args_long, stmt_long, some_node, some_stmt_node}

module _ (ns : List Node) where
  -- the nodes have these from row k on
  record Have (k : ℕ) (zs : List Node) : Type 0 where
    before : List Node
    after : List Node
    whole : ns ≡ before ++ (zs ++ after)
    long : length before ≡ k

  first_part : {k : ℕ} (xs ys : List Node) → Have k (xs ++ ys) → Have k xs
  first_part xs ys h =
      record {
        before = h.before;
        after = ys ++ h.after;
        whole = rw (← append_assoc xs ys h.after) h.whole;
        long = h.long;
      }

  last_part : {k : ℕ} (n : ℕ) (xs ys : List Node) → length xs ≡ n → Have k (xs ++ ys) → Have (k + n) ys
  last_part n xs ys l h =
      record {
        before = h.before ++ xs;
        after = h.after;
        whole = rw (append_assoc h.before xs (ys ++ h.after), ← append_assoc xs ys h.after) h.whole;
        long = simp length-append (omega (arith, h.long));
      }

  row : {k : ℕ} {z : Node} (i : ℕ) → k ≡ i → Have k (z ∷ []) → row_at ns i ≡ z
  row {z = z} i e h = rw h.whole (get_or_at h.before z h.after (node 0 0 0 0 0) i (h.long ∙ e))

  -- the last node of some
  own : {k : ℕ} (n i : ℕ) (xs : List Node) (z : Node) → length xs ≡ n → k + n ≡ i → Have k (xs ++ z ∷ []) → row_at ns i ≡ z
  own n i xs z l e h = row i e (last_part n xs (z ∷ []) l h)

  names_held : (t n k : ℕ) → Have k (name_nodes t n) → (j : ℕ) → j < n → row_at ns (k + j) ≡ node 1 (t + 2 * suc j) 0 0 0
  names_held t zero k h j l = absurd (omega arith)
  names_held t (suc n) k h j l =
      elim (dec_lt j n) [
        | yes m ↦ names_held t n k (first_part (name_nodes t n) _ h) j m
        | no m ↦
            let same : j ≡ n = omega arith in
            rw same (own n (k + n) (name_nodes t n) (node 1 (t + 2 * suc n) 0 0 0) (names_long t n) refl h)
      ]

  -- the last of n nodes from row k on is row i
  abbrev Last : ℕ → ℕ → ℕ → Type 0
  Last i k n = i + 1 ≡ k + n

  -- the first of some arguments stands before row c where the last does
  first_below : (c k : ℕ) (g : Args) (next : ℕ) → k + args_size g ≤ c → next ≤ c → first_row k g next ≤ c
  first_below c k none_given next l h = h
  first_below c k (given g e) next l h = first_below c k g (k + args_size (given g e)) (omega arith) l
  first_below c k (named g t e) next l h = first_below c k g (k + args_size (named g t e)) (omega arith) l

  -- two parts and a node over them
  record Over (k n : ℕ) (i : ℕ) (xs ys : List Node) (z : Node) : Type 0 where
    left : Have k xs
    right : Have (k + n) ys
    top : row_at ns i ≡ z

  over : {k : ℕ} (n m i : ℕ) (xs ys : List Node) (z : Node) → length xs ≡ n → length ys ≡ m → k + n + m ≡ i
      → Have k (xs ++ ys ++ z ∷ []) → Over k n i xs ys z
  over n m i xs ys z l r e h =
      let both = first_part (xs ++ ys) (z ∷ []) h in
      record {
        left = first_part xs ys both;
        right = last_part n xs ys l both;
        top = own (n + m) i (xs ++ ys) z (simp length-append (omega arith)) (omega arith) h;
      }

  -- an argument in row i after those before it, from how these and its value are held
  argument : (c k : ℕ) (g : Args) (e : Expr) (next : ℕ) {i : ℕ} {z : Node} {x : Args} → k + args_size g + expr_size e ≡ i
      → k + (args_size g + expr_size e + 1) ≤ c → Onward c (k + (args_size g + expr_size e + 1)) next
      → Have k (arg_nodes k g (k + (args_size g + expr_size e + 1)) ++ expr_nodes (k + args_size g) e ++ z ∷ [])
      → ((n : ℕ) → k + args_size g ≤ c → Onward c (k + args_size g) n → Have k (arg_nodes k g n) → HoldsArgs ns c (first_row k g n) g n)
      → ((a j : ℕ) → Last a j (expr_size e) → Have j (expr_nodes j e) → Holds ns a e)
      → (HoldsArgs ns c (first_row k g (suc i)) g (suc i) → Holds ns (i - 1) e → i - 1 < i → Onward c (suc i) next → row_at ns i ≡ z
      → HoldsArgs ns c (first_row k g (suc i)) x next)
      → HoldsArgs ns c (first_row k g (k + (args_size g + expr_size e + 1))) x next
  argument c k g e next {i} {z} at l past h before value all =
      let some = some_node e in
      let j = k + args_size g in
      let last : k + (args_size g + expr_size e + 1) ≡ suc i = omega arith in
      let o = over (args_size g) (expr_size e) i (arg_nodes k g (suc i)) (expr_nodes j e) z (args_long k g (suc i)) (expr_long j e) at (rw last at h) in
      let on : Onward c (suc i) next = rw last at past in
      rw last (all (before (suc i) (omega arith) (inr (omega arith, omega arith)) o.left) (value (i - 1) j (omega arith) o.right) (omega arith) on o.top)

  mutual
    expr_held : (i k : ℕ) (e : Expr) → Last i k (expr_size e) → Have k (expr_nodes k e) → Holds ns i e
    expr_held i k (literal t) l h = holds_literal (row i (omega arith) h)
    expr_held i k (sock4 t) l h = holds_sock4 (row i (omega arith) h)
    expr_held i k (local t) l h = holds_local (row i (omega arith) h)
    expr_held i k (path t n) l h =
        let from : i - n ≡ k = omega arith in
        let names = names_held t n k (first_part (name_nodes t n) _ h) in
        holds_path {i = i} {t = t} {n = n} (omega arith) (rw from names)
        (own n i (name_nodes t n) _ (names_long t n) (omega arith) h)
    expr_held i k (member e t) l h =
        let some = some_node e in
        let object = expr_held (k + expr_size e - 1) k e (omega arith) (first_part (expr_nodes k e) _ h) in
        holds_member {i = i} object (omega arith) (own (expr_size e) i (expr_nodes k e) _ (expr_long k e) (omega arith) h)
    expr_held i k (slash' a b) l h =
        let some = some_node a in
        let more = some_node b in
        let j = k + expr_size a in
        let o = over (expr_size a) (expr_size b) i (expr_nodes k a) (expr_nodes j b) _ (expr_long k a) (expr_long j b) (omega arith) h in
        holds_slash {i = i} (expr_held (j - 1) k a (omega arith) o.left) (expr_held (j + expr_size b - 1) j b (omega arith) o.right)
        (omega arith) (omega arith) o.top
    expr_held i k (call e t g) l h =
        let some = some_node e in
        let j = k + expr_size e in
        let below = first_below i j g 0 (omega arith) (omega arith) in
        let o = over (expr_size e) (args_size g) i (expr_nodes k e) (arg_nodes j g 0) _ (expr_long k e) (args_long j g 0) (omega arith) h in
        holds_call {i = i} (expr_held (j - 1) k e (omega arith) o.left) (args_held i j g 0 (omega arith) (inl refl) o.right) (omega arith) below o.top

    args_held : (c k : ℕ) (g : Args) (next : ℕ) → k + args_size g ≤ c → Onward c (k + args_size g) next → Have k (arg_nodes k g next)
        → HoldsArgs ns c (first_row k g next) g next
    args_held c k none_given next l o h = holds_none
    args_held c k (given g e) next l o h =
        argument c k g e next refl l o h (λ n q r p. args_held c k g n q r p) (λ i j q p. expr_held i j e q p) holds_given
    args_held c k (named g t e) next l o h =
        argument c k g e next refl l o h (λ n q r p. args_held c k g n q r p) (λ i j q p. expr_held i j e q p) holds_named

  stmt_held : (i k : ℕ) (s : Stmt) → Last i k (stmt_size s) → Have k (stmt_nodes k s) → HoldsStmt ns i s
  stmt_held i k (import' t) l h = holds_import (row i (omega arith) h)
  stmt_held i k (let' t e) l h =
      let some = some_node e in
      holds_let {i = i} (expr_held (k + expr_size e - 1) k e (omega arith) (first_part (expr_nodes k e) _ h)) (omega arith)
      (own (expr_size e) i (expr_nodes k e) _ (expr_long k e) (omega arith) h)
  stmt_held i k (expr' e) l h =
      let some = some_node e in
      holds_expr {i = i} (expr_held (k + expr_size e - 1) k e (omega arith) (first_part (expr_nodes k e) _ h)) (omega arith)
      (own (expr_size e) i (expr_nodes k e) _ (expr_long k e) (omega arith) h)

-- the nodes of a statement stand after those of the statements before it
stmt_have : (ns : List Node) (k : ℕ) (ss us : List Stmt) (s : Stmt) → Have ns k (nodes_from k (ss ++ s ∷ us))
    → Have ns (k + program_size ss) (stmt_nodes (k + program_size ss) s)
unfolding nodes_from
stmt_have ns k [] us s h = let same : k + 0 ≡ k = omega arith in rw same (first_part ns (stmt_nodes k s) _ h)
stmt_have ns k (x ∷ xs) us s h =
    let long = stmt_long k x in
    let on : k + length (stmt_nodes k x) + program_size xs ≡ k + (stmt_size x + program_size xs) = omega arith in
    let rest = last_part ns (length (stmt_nodes k x)) (stmt_nodes k x) _ refl h in
    rw on at (stmt_have ns (k + length (stmt_nodes k x)) xs us s rest)

pub rows_hold : RowsHold
rows_hold ss us s =
    let some = some_stmt_node s in
    let ns = nodes (ss ++ s ∷ us) in
    let all : Have ns 0 ns = record { before = []; after = []; whole = sym (append-nil ns); long = refl } in
    let from : 0 + program_size ss ≡ program_size ss = omega arith in
    stmt_held ns (program_size ss + stmt_size s - 1) (program_size ss) s (omega arith) (rw from at (stmt_have ns 0 ss us s all))

-- How the rows of a table hold trees (docs/TABLES.md): a row has its kind, its token and the numbers of the rows of its
-- parts, which stand before it; an argument's row has that of the next argument too, which stands after it.
use Rattle.std.specs.Prelude.{ℕ, suc, ◌+◌, ◌-◌, ◌*◌, ◌≤◌, ◌<◌, ◌≡◌, ◌⊎◌, List, ◌∷◌, ◌++◌, get_or}
use Rattle.language.specs.Sentences.{Expr, literal, sock4, local, path, member, call, slash', Args, none_given, given, named, Stmt, import', let', expr', first_of, Node, node, nodes, stmt_size, program_size}

abbrev pub row_at : List Node → ℕ → Node
row_at ns i = get_or ns i (node 0 0 0 0 0)

-- no row, or one after the first n and before row c: its number plus 1 is `next`
abbrev pub Onward : ℕ → ℕ → ℕ → Type 0
Onward c n next = (next ≡ 0) ⊎ ((n < next) × (next ≤ c))

module _ (ns : List Node) where
  mutual
    -- row i holds an expression; the further names of a path stand right before it
    pub data Holds : ℕ → Expr → Type 0 where
      holds_literal : {i t : ℕ} → row_at ns i ≡ node 2 t 0 0 0 → Holds i (literal t)
      holds_sock4 : {i t : ℕ} → row_at ns i ≡ node 3 t 0 0 0 → Holds i (sock4 t)
      holds_local : {i t : ℕ} → row_at ns i ≡ node 4 t 0 0 0 → Holds i (local t)
      holds_path : {i t n : ℕ} → n ≤ i → ((j : ℕ) → j < n → row_at ns (i - n + j) ≡ node 1 (t + 2 * suc j) 0 0 0)
          → row_at ns i ≡ node 5 t n 0 0 → Holds i (path t n)
      holds_member : {i t a : ℕ} {e : Expr} → Holds a e → a < i → row_at ns i ≡ node 6 (first_of e) a t 0 → Holds i (member e t)
      holds_slash : {i a b : ℕ} {e r : Expr} → Holds a e → Holds b r → a < i → b < i → row_at ns i ≡ node 7 (first_of e) a b 0
          → Holds i (slash' e r)
      holds_call : {i t a m : ℕ} {e : Expr} {g : Args} → Holds a e → HoldsArgs i m g 0 → a < i → m ≤ i
          → row_at ns i ≡ node 8 (first_of e) a m t → Holds i (call e t g)

    -- arguments of the call in row c, in source order: the first stands in the row before m, each names the one after it,
    -- and the last names `next`; where there is none, m is `next`
    pub data HoldsArgs : ℕ → ℕ → Args → ℕ → Type 0 where
      holds_none : {c m : ℕ} → HoldsArgs c m none_given m
      holds_given : {c i a m next : ℕ} {g : Args} {e : Expr} → HoldsArgs c m g (suc i) → Holds a e → a < i → Onward c (suc i) next
          → row_at ns i ≡ node 9 (first_of e) a next 0 → HoldsArgs c m (given g e) next
      holds_named : {c i t a m next : ℕ} {g : Args} {e : Expr} → HoldsArgs c m g (suc i) → Holds a e → a < i → Onward c (suc i) next
          → row_at ns i ≡ node 10 t a next 0 → HoldsArgs c m (named g t e) next

  pub data HoldsStmt : ℕ → Stmt → Type 0 where
    holds_import : {i t : ℕ} → row_at ns i ≡ node 11 t 0 0 0 → HoldsStmt i (import' t)
    holds_let : {i t a : ℕ} {e : Expr} → Holds a e → a < i → row_at ns i ≡ node 12 t a 0 0 → HoldsStmt i (let' t e)
    holds_expr : {i a : ℕ} {e : Expr} → Holds a e → a < i → row_at ns i ≡ node 13 (first_of e) a 0 0 → HoldsStmt i (expr' e)

-- ---- the claim

-- each statement of a program is held by its last row
abbrev pub RowsHold : Type 0
RowsHold = (ss us : List Stmt) (s : Stmt) → HoldsStmt (nodes (ss ++ s ∷ us)) (program_size ss + stmt_size s - 1) s

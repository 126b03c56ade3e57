-- The rows of a program's nodes stand for its trees and its statements.
use mathlib.Core.Path.{◌≡◌, refl, sym, ap, subst, ◌∙◌}
use mathlib.Core.List.Memᴰ
use mathlib.Core.List.{List, [], ◌∷◌, ◌++◌}
use mathlib.Core.Logic.{◌⊎◌, inl, inr}
use Prim.Native.Nat.{ℕ, zero, suc, ◌+◌, ◌-◌, ◌*◌, ◌≤◌, ◌<◌}
use native.Mathlib.Omega.{arith}
use lib.ListN.{length, get_or, length-append, get_or-append}
use lib.Seq.{get_or-append-add}
use Rattle.table.specs.Table.{flat}
use Rattle.table.proofs.Laws.{length_flat, flat_word}
use Rattle.language.specs.Tokens.{Content}
use Rattle.language.specs.Sound.{SoundExpr, SoundArgs}
use Rattle.language.specs.Sentences.{Expr, literal, sock4, local, path, member, call, slash', Args, none_given, given, named, Stmt, import', let', expr', first_of, Node, node, name_nodes, expr_size, args_size, first_row, expr_nodes, arg_nodes, nodes_from, nodes, node_row}
use Rattle.language.proofs.NodeClaims.{names_long, expr_long, args_long, some_node, row_long}
use Rattle.rows.specs.Rows.{node_word}
use Rattle.holding.specs.Holding.{most_rows}
use Rattle.judging.specs.Judging.{Passed, unnamed, named_as, passed, RepAt, is_literal_lem, is_sock4_lem, is_local, is_path, is_member, is_slash, is_call, ArgsAt, no_args, is_arg, is_named_arg}
use Rattle.statements.specs.Checking.{StmtsAt, at_end, no_stmt, an_import, a_let, an_expr, AllSound}

-- past the end
abbrev pub nowhere : Node
nowhere = node 0 0 0 0 0

-- ---- a part of the nodes, from the one numbered k on

pub record Part (ns : List Node) (k : ℕ) (xs : List Node) : Type 0 where
  pub holds : (j : ℕ) → j < length xs → (k + j < length ns) × (get_or ns (k + j) nowhere ≡ get_or xs j nowhere)

module _ {ns : List Node} {k : ℕ} where
  part_left : (xs ys : List Node) → Part ns k (xs ++ ys) → Part ns k xs
  part_left xs ys p =
      record {
        holds = λ j h.
            let q = p.holds j (rw length-append (omega arith)) in
            (q.0, q.1 ∙ get_or-append xs ys nowhere j h);
      }

  part_right : (xs ys : List Node) {n : ℕ} → n ≡ k + length xs → Part ns k (xs ++ ys) → Part ns n ys
  part_right xs ys {n} e p =
      record {
        holds = λ j h.
            let q = p.holds (length xs + j) (rw length-append (omega arith)) in
            let z : k + (length xs + j) ≡ n + j = omega (arith, e) in
            (omega (arith, q.0, z), ap (λ (m : ℕ). get_or ns m nowhere) (sym z) ∙ q.1 ∙ get_or-append-add xs ys j nowhere);
      }

-- the whole
pub part_all : (ns : List Node) → Part ns 0 ns
part_all ns = record { holds = λ j h. let z : 0 + j ≡ j = omega arith in (omega (arith, h), ap (λ (m : ℕ). get_or ns m nowhere) z) }

-- ---- arguments, first to last

abbrev passed_of : Args → List Passed → List Passed
passed_of none_given ps = ps
passed_of (given g e) ps = passed_of g (unnamed e ∷ ps)
passed_of (named g t e) ps = passed_of g (named_as t e ∷ ps)

passed_all : (g : Args) (ps : List Passed) → passed none_given (passed_of g ps) ≡ passed g ps
unfolding passed
passed_all none_given ps = refl
passed_all (given g e) ps = passed_all g (unnamed e ∷ ps)
passed_all (named g t e) ps = passed_all g (named_as t e ∷ ps)

all_passed : (g : Args) → passed none_given (passed_of g []) ≡ g
unfolding passed
all_passed g = passed_all g []

-- the last of them has the last row
last_row : (g : Args) (e : Expr) (k : ℕ) → suc (k + args_size g + expr_size e) ≡ k + (args_size g + expr_size e + 1)
last_row g e k = omega arith

module _ (ns : List Node) where
  abbrev ws : List ℕ
  ws = flat node_row ns

  pub rows_long : length ws ≡ 5 * length ns
  rows_long = length_flat node_row 5 row_long ns ∙ omega arith

  row_in : (i : ℕ) → i < length ns → 5 * i + 5 ≤ length ws
  row_in i h = omega (arith, rows_long)

  pub row_word : (i j : ℕ) → i < length ns → j < 5 → node_word ws i j ≡ get_or (node_row (get_or ns i nowhere)) j 0
  row_word i j h l = flat_word node_row 5 row_long ns i j h l nowhere

  -- the words of a node
  pub record IsRow (i : ℕ) (n : Node) : Type 0 where
    pub inside : 5 * i + 5 ≤ length ws
    pub kind : node_word ws i 0 ≡ n.kind
    pub tok : node_word ws i 1 ≡ n.tok
    pub first : node_word ws i 2 ≡ n.first
    pub second : node_word ws i 3 ≡ n.second
    pub third : node_word ws i 4 ≡ n.third

  -- the one node of a part
  row_of : (i k : ℕ) (n : Node) → i ≡ k → Part ns k (n ∷ []) → IsRow i n
  unfolding node_row
  row_of i k n e p =
      let q = p.holds 0 (omega arith) in
      let z : k + 0 ≡ i = omega (arith, e) in
      let l : i < length ns = omega (arith, q.0, z) in
      let same : get_or ns i nowhere ≡ n = ap (λ (m : ℕ). get_or ns m nowhere) (sym z) ∙ q.1 in
      record {
        inside = row_in i l;
        kind = row_word i 0 l (omega arith) ∙ ap (λ (m : Node). m.kind) same;
        tok = row_word i 1 l (omega arith) ∙ ap (λ (m : Node). m.tok) same;
        first = row_word i 2 l (omega arith) ∙ ap (λ (m : Node). m.first) same;
        second = row_word i 3 l (omega arith) ∙ ap (λ (m : Node). m.second) same;
        third = row_word i 4 l (omega arith) ∙ ap (λ (m : Node). m.third) same;
      }

  -- two parts of so many nodes, and a node behind them at row i
  record TwoParts (k : ℕ) (xs ys : List Node) (n : Node) (i m : ℕ) : Type 0 where
    front : Part ns k xs
    back : Part ns (k + m) ys
    last : IsRow i n

  two_parts : {k m l : ℕ} (xs ys : List Node) (n : Node) (i : ℕ) → length xs ≡ m → length ys ≡ l → i ≡ k + m + l → Part ns k (xs ++ ys ++ n ∷ []) → TwoParts k xs ys n i m
  two_parts {k} {m} xs ys n i p q e h =
      let both = part_left (xs ++ ys) (n ∷ []) h in
      record {
        front = part_left xs ys both;
        back = part_right xs ys (omega (arith, p)) both;
        last = row_of i i n refl (part_right (xs ++ ys) (n ∷ []) (omega (arith, e, length-append xs ys, p, q)) h);
      }

  -- ---- the row j of an argument of the call at row i

  behind : (i j next : ℕ) (n : Node) → IsRow j n → j < i → n.first < j → n.second ≡ next → (next ≡ 0) ⊎ (suc j < next)
      → (j < i) × (node_word ws j 2 < j) × ((node_word ws j 3 ≡ 0) ⊎ (suc j < node_word ws j 3))
  behind i j next n r h l e o = (h, omega (arith, l, r.first), elim o [ inl z ↦ inl (r.second ∙ e ∙ z) | inr m ↦ inr (omega (arith, m, e, r.second)) ])

  at_first : {j : ℕ} (n : Node) (e : Expr) → IsRow j n → RepAt ws n.first e → RepAt ws (node_word ws j 2) e
  at_first n e r c = subst (λ (m : ℕ). RepAt ws m e) (sym r.first) c

  -- ---- trees, of which each names tokens that are there

  module _ (ts : List Content) (few : length ts ≤ most_rows) where
    mutual
      rep : (e : Expr) (k i : ℕ) → SoundExpr ts e → i + 1 ≡ k + expr_size e → Part ns k (expr_nodes k e) → RepAt ws i e
      rep (literal t) k i h q p =
          let r = row_of i k (node 2 t 0 0 0) (omega arith) p in
          subst (λ (m : ℕ). RepAt ws i (literal m)) r.tok (is_literal_lem r.inside r.kind)
      rep (sock4 t) k i h q p =
          let r = row_of i k (node 3 t 0 0 0) (omega arith) p in
          subst (λ (m : ℕ). RepAt ws i (sock4 m)) r.tok (is_sock4_lem r.inside r.kind)
      rep (local t) k i h q p =
          let r = row_of i k (node 4 t 0 0 0) (omega arith) p in
          subst (λ (m : ℕ). RepAt ws i (local m)) r.tok (is_local r.inside r.kind)
      rep (path t n) k i h q p =
          let r = row_of i i (node 5 t n 0 0) refl (part_right (name_nodes t n) (node 5 t n 0 0 ∷ []) (omega (arith, q, names_long t n)) p) in
          let last : node_word ws i 1 + 2 * node_word ws i 2 ≤ most_rows = omega (arith, few, r.tok, r.first, (h.1 n (omega arith)).1.0) in
          subst (λ (m : ℕ). RepAt ws i (path t m)) r.first (subst (λ (m : ℕ). RepAt ws i (path m (node_word ws i 2))) r.tok (is_path r.inside r.kind last))
      rep (member e t) k i h q p =
          let n = node 6 (first_of e) (k + expr_size e - 1) t 0 in
          let r = row_of i i n refl (part_right (expr_nodes k e) (n ∷ []) (omega (arith, q, expr_long k e)) p) in
          let c = rep e k (k + expr_size e - 1) h.0 (omega (arith, some_node e)) (part_left (expr_nodes k e) (n ∷ []) p) in
          subst (λ (m : ℕ). RepAt ws i (member e m)) r.second
          (is_member r.inside r.kind r.tok (omega (arith, q, r.first, some_node e)) (subst (λ (m : ℕ). RepAt ws m e) (sym r.first) c))
      rep (slash' a b) k i h q p =
          let n = node 7 (first_of a) (k + expr_size a - 1) (k + expr_size a + expr_size b - 1) 0 in
          let o = two_parts (expr_nodes k a) (expr_nodes (k + expr_size a) b) n i (expr_long k a) (expr_long (k + expr_size a) b) (omega (arith, q)) p in
          let r = o.last in
          let l = rep a k (k + expr_size a - 1) h.0 (omega (arith, some_node a)) o.front in
          let m = rep b (k + expr_size a) (k + expr_size a + expr_size b - 1) h.1 (omega (arith, some_node b)) o.back in
          is_slash r.inside r.kind r.tok (omega (arith, q, r.first, some_node a, some_node b)) (omega (arith, q, r.second, some_node b))
          (subst (λ (z : ℕ). RepAt ws z a) (sym r.first) l) (subst (λ (z : ℕ). RepAt ws z b) (sym r.second) m)
      rep (call e t g) k i h q p =
          let at = k + expr_size e in
          let n = node 8 (first_of e) (at - 1) (first_row at g 0) t in
          let o = two_parts (expr_nodes k e) (arg_nodes at g 0) n i (expr_long k e) (args_long at g 0) (omega (arith, q)) p in
          let r = o.last in
          let c = rep e k (at - 1) h.0 (omega (arith, some_node e)) o.front in
          let gs = args g at i 0 [] h.2 (omega (arith, q)) (inl refl) o.back no_args in
          subst (λ (f : Args). RepAt ws i (call e t f)) (all_passed g)
          (subst (λ (m : ℕ). RepAt ws i (call e m (passed none_given (passed_of g [])))) r.third
          (is_call r.inside r.kind r.tok (omega (arith, q, r.first, some_node e)) (subst (λ (z : ℕ). RepAt ws z e) (sym r.first) c)
          (subst (λ (z : ℕ). ArgsAt ws i z (passed_of g [])) (sym r.second) gs)))

      -- the arguments g of the call at row i, before those that are passed behind them, the first of which is at row next - 1
      args : (g : Args) (k i next : ℕ) (ps : List Passed) → SoundArgs ts g → k + args_size g ≤ i → (next ≡ 0) ⊎ (k + args_size g < next) → Part ns k (arg_nodes k g next)
          → ArgsAt ws i next ps → ArgsAt ws i (first_row k g next) (passed_of g ps)
      args none_given k i next ps h l o p a = a
      args (given g e) k i next ps h l o p a =
          let j = k + args_size g + expr_size e in
          let n = node 9 (first_of e) (j - 1) next 0 in
          let w = two_parts (arg_nodes k g (suc j)) (expr_nodes (k + args_size g) e) n j (args_long k g (suc j)) (expr_long (k + args_size g) e) refl (rw (← last_row g e k) at p) in
          let c = rep e (k + args_size g) (j - 1) h.1 (omega (arith, some_node e)) w.back in
          let f = behind i j next n w.last (omega (arith, l)) (omega (arith, some_node e)) refl (rw (← last_row g e k) at o) in
          let here = is_arg w.last.inside w.last.kind f.0 f.1 f.2 (at_first n e w.last c) (subst (λ (m : ℕ). ArgsAt ws i m ps) (sym w.last.second) a) in
          subst (λ (m : ℕ). ArgsAt ws i (first_row k g m) (passed_of g (unnamed e ∷ ps))) (last_row g e k)
          (args g k i (suc j) (unnamed e ∷ ps) h.0 (omega (arith, l)) (inr (omega arith)) w.front here)
      args (named g t e) k i next ps h l o p a =
          let j = k + args_size g + expr_size e in
          let n = node 10 t (j - 1) next 0 in
          let w = two_parts (arg_nodes k g (suc j)) (expr_nodes (k + args_size g) e) n j (args_long k g (suc j)) (expr_long (k + args_size g) e) refl (rw (← last_row g e k) at p) in
          let c = rep e (k + args_size g) (j - 1) h.2 (omega (arith, some_node e)) w.back in
          let f = behind i j next n w.last (omega (arith, l)) (omega (arith, some_node e)) refl (rw (← last_row g e k) at o) in
          let here = is_named_arg w.last.inside w.last.kind f.0 f.1 f.2 (at_first n e w.last c) (subst (λ (m : ℕ). ArgsAt ws i m ps) (sym w.last.second) a) in
          subst (λ (m : ℕ). ArgsAt ws i (first_row k g m) (passed_of g (named_as t e ∷ ps))) (last_row g e k)
          (args g k i (suc j) (named_as t e ∷ ps) h.0 (omega (arith, l)) (inr (omega arith)) w.front
          (subst (λ (m : ℕ). ArgsAt ws i (suc j) (named_as m e ∷ ps)) w.last.tok here))

-- ---- rows that are no statement

pub record Small (xs : List Node) : Type 0 where
  pub each : (j : ℕ) → j < length xs → (get_or xs j nowhere).kind < 11

small_one : (n : Node) → n.kind < 11 → Small (n ∷ [])
small_one n h = record { each = λ j l. by j l }
  where
    by : (j : ℕ) → j < 1 → (get_or (n ∷ []) j nowhere).kind < 11
    by zero l = h
    by (suc j) l = absurd (omega arith)

small_cons : (x : Node) (xs : List Node) → x.kind < 11 → Small xs → Small (x ∷ xs)
small_cons x xs h a = record { each = by }
  where
    by : (j : ℕ) → j < length (x ∷ xs) → (get_or (x ∷ xs) j nowhere).kind < 11
    by zero l = h
    by (suc j) l = a.each j (omega arith)

small_both : (xs ys : List Node) → Small xs → Small ys → Small (xs ++ ys)
small_both [] ys a b = b
small_both (x ∷ xs) ys a b =
    small_cons x (xs ++ ys) (a.each 0 (omega arith)) (small_both xs ys (record { each = λ j l. a.each (suc j) (omega arith) }) b)

small_names : (t n : ℕ) → Small (name_nodes t n)
small_names t zero = record { each = λ j l. absurd (omega arith) }
small_names t (suc n) = small_both (name_nodes t n) _ (small_names t n) (small_one (node 1 (t + 2 * suc n) 0 0 0) (omega arith))

mutual
  small_expr : (k : ℕ) (e : Expr) → Small (expr_nodes k e)
  small_expr k (literal t) = small_one _ (omega arith)
  small_expr k (sock4 t) = small_one _ (omega arith)
  small_expr k (local t) = small_one _ (omega arith)
  small_expr k (path t n) = small_both (name_nodes t n) _ (small_names t n) (small_one (node 5 t n 0 0) (omega arith))
  small_expr k (member e t) = small_both (expr_nodes k e) _ (small_expr k e) (small_one (node 6 (first_of e) (k + expr_size e - 1) t 0) (omega arith))
  small_expr k (slash' a b) =
      small_both (expr_nodes k a ++ expr_nodes (k + expr_size a) b) _ (small_both (expr_nodes k a) _ (small_expr k a) (small_expr (k + expr_size a) b))
      (small_one (node 7 (first_of a) (k + expr_size a - 1) (k + expr_size a + expr_size b - 1) 0) (omega arith))
  small_expr k (call e t g) =
      small_both (expr_nodes k e ++ arg_nodes (k + expr_size e) g 0) _ (small_both (expr_nodes k e) _ (small_expr k e) (small_args (k + expr_size e) g 0))
      (small_one (node 8 (first_of e) (k + expr_size e - 1) (first_row (k + expr_size e) g 0) t) (omega arith))

  small_args : (k : ℕ) (g : Args) (next : ℕ) → Small (arg_nodes k g next)
  small_args k none_given next = record { each = λ j l. absurd (omega arith) }
  small_args k (given g e) next =
      small_both (arg_nodes k g (k + args_size (given g e)) ++ expr_nodes (k + args_size g) e) _
      (small_both (arg_nodes k g (k + args_size (given g e))) _ (small_args k g (k + args_size (given g e))) (small_expr (k + args_size g) e))
      (small_one (node 9 (first_of e) (k + args_size g + expr_size e - 1) next 0) (omega arith))
  small_args k (named g t e) next =
      small_both (arg_nodes k g (k + args_size (named g t e)) ++ expr_nodes (k + args_size g) e) _
      (small_both (arg_nodes k g (k + args_size (named g t e))) _ (small_args k g (k + args_size (named g t e))) (small_expr (k + args_size g) e))
      (small_one (node 10 t (k + args_size g + expr_size e - 1) next 0) (omega arith))

-- ---- statements

length_all : (k : ℕ) (xs ys : List Node) → k + length (xs ++ ys) ≡ k + length xs + length ys
length_all k xs ys = rw length-append (omega arith)

module _ (ns : List Node) where
  skip : (m k : ℕ) {ss : List Stmt} → ((j : ℕ) → j < m → (5 * (k + j) + 5 ≤ length (ws ns)) × (node_word (ws ns) (k + j) 0 < 11)) → StmtsAt (ws ns) (k + m) ss
      → StmtsAt (ws ns) k ss
  skip zero k {ss} h r = let z : k + 0 ≡ k = omega arith in subst (λ (n : ℕ). StmtsAt (ws ns) n ss) z r
  skip (suc m) k {ss} h r =
      let z : k + 0 ≡ k = omega arith in
      let y : k + suc m ≡ k + 1 + m = omega arith in
      let a : (5 * k + 5 ≤ length (ws ns)) × (node_word (ws ns) k 0 < 11) = subst (λ (n : ℕ). (5 * n + 5 ≤ length (ws ns)) × (node_word (ws ns) n 0 < 11)) z (h 0 (omega arith)) in
      no_stmt a.0 a.1 (skip m (k + 1)
      (λ j l. let x : k + suc j ≡ k + 1 + j = omega arith in subst (λ (n : ℕ). (5 * n + 5 ≤ length (ws ns)) × (node_word (ws ns) n 0 < 11)) x (h (suc j) (omega arith)))
      (subst (λ (n : ℕ). StmtsAt (ws ns) n ss) y r))

  -- the rows of a part whose nodes are no statements
  skip_part : (xs : List Node) (k : ℕ) {n : ℕ} {ss : List Stmt} → Part ns k xs → Small xs → n ≡ length xs → StmtsAt (ws ns) (k + n) ss → StmtsAt (ws ns) k ss
  unfolding node_row
  skip_part xs k {n} {ss} p a e r =
      skip (length xs) k (λ j l.
      let q = p.holds j l in
      let w : node_word (ws ns) (k + j) 0 ≡ (get_or ns (k + j) nowhere).kind = row_word ns (k + j) 0 q.0 (omega arith) in
      (row_in ns (k + j) q.0, omega (arith, w, ap (λ (m : Node). m.kind) q.1, a.each j l)))
      (subst (λ (m : ℕ). StmtsAt (ws ns) (k + m) ss) e r)

  -- an expression and the node of its statement
  module _ (e : Expr) (k : ℕ) (n : Node) (p : Part ns k (expr_nodes k e ++ n ∷ [])) where
    stmt_row_lem : IsRow ns (k + expr_size e) n
    stmt_row_lem = row_of ns (k + expr_size e) (k + expr_size e) n refl (part_right (expr_nodes k e) (n ∷ []) (omega (arith, expr_long k e)) p)

    stmt_tree : (ts : List Content) → length ts ≤ most_rows → SoundExpr ts e → RepAt (ws ns) (k + expr_size e - 1) e
    stmt_tree ts few h = rep ns ts few e k (k + expr_size e - 1) h (omega (arith, some_node e)) (part_left (expr_nodes k e) (n ∷ []) p)

    over : {ss : List Stmt} → StmtsAt (ws ns) (k + expr_size e) ss → StmtsAt (ws ns) k ss
    over r = skip_part (expr_nodes k e) k (part_left (expr_nodes k e) (n ∷ []) p) (small_expr k e) (sym (expr_long k e)) r

  -- a statement x over an expression, from the statements after it and how its row stands
  tree_stmt : (ts : List Content) → length ts ≤ most_rows → (e : Expr) (k : ℕ) (n : Node) (ss : List Stmt) {x : Stmt} → SoundExpr ts e
      → Part ns k ((expr_nodes k e ++ n ∷ []) ++ nodes_from (k + length (expr_nodes k e ++ n ∷ [])) ss)
      → length ns ≡ k + length ((expr_nodes k e ++ n ∷ []) ++ nodes_from (k + length (expr_nodes k e ++ n ∷ [])) ss)
      → ((m : ℕ) → Part ns m (nodes_from m ss) → length ns ≡ m + length (nodes_from m ss) → StmtsAt (ws ns) m ss)
      → (IsRow ns (k + expr_size e) n → RepAt (ws ns) (k + expr_size e - 1) e → StmtsAt (ws ns) (k + expr_size e + 1) ss
      → StmtsAt (ws ns) (k + expr_size e) (x ∷ ss))
      → StmtsAt (ws ns) k (x ∷ ss)
  tree_stmt ts few e k n ss h p l rest held =
      let own = expr_nodes k e ++ n ∷ [] in
      let m = k + length own in
      let one = part_left own (nodes_from m ss) p in
      let long : length own ≡ expr_size e + 1 = length-append (expr_nodes k e) (n ∷ []) ∙ omega (arith, expr_long k e) in
      let on = rest m (part_right own (nodes_from m ss) refl p) (l ∙ length_all k own (nodes_from m ss)) in
      let next : m ≡ k + expr_size e + 1 = omega (arith, long) in
      over e k n one (held (stmt_row_lem e k n one) (stmt_tree e k n one ts few h) (subst (λ (z : ℕ). StmtsAt (ws ns) z ss) next on))

  from_part : (ts : List Content) → length ts ≤ most_rows → (ss : List Stmt) (k : ℕ) → AllSound ts ss → Part ns k (nodes_from k ss) → length ns ≡ k + length (nodes_from k ss)
      → StmtsAt (ws ns) k ss
  unfolding nodes_from
  from_part ts few [] k h p l = let past : length (ws ns) ≤ 5 * k = omega (arith, l, rows_long ns) in at_end past
  from_part ts few (import' t ∷ ss) k h p l =
      let n = node 11 t 0 0 0 in
      let r = row_of ns k k n refl (part_left (n ∷ []) (nodes_from (k + 1) ss) p) in
      let on = from_part ts few ss (k + 1) (λ a m. h a (Memᴰ.tail m)) (part_right (n ∷ []) (nodes_from (k + 1) ss) refl p) (omega (arith, l)) in
      subst (λ (m : ℕ). StmtsAt (ws ns) k (import' m ∷ ss)) r.tok (an_import r.inside r.kind on)
  from_part ts few (let' t e ∷ ss) k h p l =
      tree_stmt ts few e k (node 12 t (k + expr_size e - 1) 0 0) ss (h (let' t e) (Memᴰ.head refl)).1 p l
      (λ m q z. from_part ts few ss m (λ a i. h a (Memᴰ.tail i)) q z) (λ r c on.
      subst (λ (z : ℕ). StmtsAt (ws ns) (k + expr_size e) (let' z e ∷ ss)) r.tok
      (a_let r.inside r.kind (subst (λ (z : ℕ). RepAt (ws ns) z e) (sym r.first) c) on))
  from_part ts few (expr' e ∷ ss) k h p l =
      tree_stmt ts few e k (node 13 (first_of e) (k + expr_size e - 1) 0 0) ss (h (expr' e) (Memᴰ.head refl)) p l
      (λ m q z. from_part ts few ss m (λ a i. h a (Memᴰ.tail i)) q z) (λ r c on.
      an_expr r.inside r.kind (subst (λ (z : ℕ). RepAt (ws ns) z e) (sym r.first) c) on)

-- the rows of a program are its statements
pub all_stmts : (ts : List Content) → length ts ≤ most_rows → (ss : List Stmt) → AllSound ts ss → StmtsAt (flat node_row (nodes ss)) 0 ss
all_stmts ts few ss h = from_part (nodes ss) ts few ss 0 h (part_all (nodes ss)) (omega arith)

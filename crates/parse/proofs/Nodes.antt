-- Pushing a node: the table holds one node more, and the nodes are those of a larger tree.
use mathlib.Core.Path.{◌≡◌, refl, sym, ap, ◌∙◌}
use mathlib.Core.Bool.{Bool, true, false}
use mathlib.Core.List.{List, [], ◌∷◌, ◌++◌, append_assoc, append-nil}
use Prim.Native.Nat.{ℕ, suc, ◌+◌, ◌-◌, ◌*◌, ◌≤◌, ◌<◌}
use native.Mathlib.Numerals.{add-one}
use native.Mathlib.Omega.{arith}
use lib.ListN.{length, set, length-append}
use Rattle.table.specs.Table.{tabled, put_row}
use Rattle.table.proofs.Laws.{put_next, put_in, put_lost, tabled_own}
use Rattle.language.specs.Sentences.{Expr, path, member, call, slash', Args, none_given, given, named, Stmt, let', expr', first_of, Node, node, name_nodes, expr_size, args_size, first_row, expr_nodes, arg_nodes, stmt_nodes, nodes_from, node_row, node_width}
use Rattle.language.proofs.NodeClaims.{row_long, expr_long, args_long}
use Rattle.parse.specs.Parsing.{arg_kind, value_from, with_arg, Holds, Pushes, naming, Links, with_expr, with_args, with_stmt, Stands, Lists}

-- ---- one node more

-- a row stored at the count is one node more
pub stored : (t t' : List ℕ) (count k a b c d : ℕ) → t' ≡ put_row t count (k ∷ a ∷ b ∷ c ∷ d ∷ []) → Pushes t t' count (node k a b c d)
unfolding node_row
stored t t' count k a b c d e = record {
  one = λ ns l h.
      let next = put_next node_row node_width row_long (omega arith) (length t) ns (node k a b c d) in
      let q : t' ≡ tabled node_row node_width (length t) (ns ++ node k a b c d ∷ []) =
      e ∙ ap (λ (x : List ℕ). put_row x count (k ∷ a ∷ b ∷ c ∷ d ∷ [])) h.rows ∙ (rw l at next) in
      record { rows = tabled_own node_row node_width (length t) (length t') (ns ++ node k a b c d ∷ []) q refl };
}

-- the same where the nodes that are then there have another name
pub grown : {t t' : List ℕ} {ms ns : List Node} {count : ℕ} {n : Node} → Pushes t t' count n → length ms ≡ count → Holds t ms → ms ++ n ∷ [] ≡ ns
    → (length ns ≡ count + 1) × Holds t' ns
grown {ms = ms} p l h e = rw (← e) (simp length-append (omega arith), p.one ms l h)

-- a word stored in a row that has room, and nothing in one that has none: its node has another second number
module _ (t t' : List ℕ) (row next : ℕ) where
  pub linked : node_width * row + node_width ≤ length t → t' ≡ set t (node_width * row + 3) next → Links t t' row next
  unfolding node_row
  linked room e = record {
    one = λ xs ys n l h.
        let place : node_width * row + 3 ≡ length xs * node_width + 3 = omega arith in
        let q : t' ≡ tabled node_row node_width (length t) (xs ++ naming n next ∷ ys) =
        e ∙ ap (λ (x : List ℕ). set x (node_width * row + 3) next) h.rows
        ∙ rw place (put_in node_row node_width row_long (omega arith) (length t) xs ys n (naming n next) (n.kind ∷ n.tok ∷ n.first ∷ []) (n.third ∷ []) n.second next refl refl (omega arith)) in
        record { rows = tabled_own node_row node_width (length t) (length t') (xs ++ naming n next ∷ ys) q refl };
  }

  pub unlinked : length t < node_width * row + node_width → t' ≡ t → Links t t' row next
  unlinked full e = record {
    one = λ xs ys n l h.
        let q : t' ≡ tabled node_row node_width (length t) (xs ++ naming n next ∷ ys) =
        e ∙ h.rows ∙ put_lost node_row node_width row_long (omega arith) (length t) xs ys n (naming n next) (omega arith) in
        record { rows = tabled_own node_row node_width (length t) (length t') (xs ++ naming n next ∷ ys) q refl };
  }

-- ---- how many nodes there are

with_expr_lem : (ns : List Node) (e : Expr) → length (with_expr ns e) ≡ length ns + expr_size e
with_expr_lem ns e = simp length-append (omega (arith, expr_long (length ns) e))

with_args_lem : (ns : List Node) (g : Args) → length (with_args ns g) ≡ length ns + args_size g
with_args_lem ns g = simp length-append (omega (arith, args_long (length ns) g 0))

-- ---- trees that grow

-- an argument and those before it
arg_nodes_lem : (ns : List Node) (g : Args) (e : Expr) (b : Bool) (at : ℕ) → first_of e ≡ value_from b at
    → (ns ++ arg_nodes (length ns) g (length ns + (args_size g + expr_size e + 1))) ++ expr_nodes (length ns + args_size g) e
    ++ node (arg_kind b) at (length ns + args_size g + expr_size e - 1) 0 0 ∷ [] ≡ with_args ns (with_arg b g at e)
arg_nodes_lem ns g e true at f = simp append_assoc
arg_nodes_lem ns g e false at f = rw f (simp append_assoc)

arg_first : (k : ℕ) (g : Args) (e : Expr) (b : Bool) (at : ℕ) → first_row k (with_arg b g at e) 0 ≡ first_row k g (k + (args_size g + expr_size e + 1))
arg_first k g e true at = refl
arg_first k g e false at = refl

arg_size : (g : Args) (e : Expr) (b : Bool) (at : ℕ) → args_size (with_arg b g at e) ≡ args_size g + expr_size e + 1
arg_size g e true at = refl
arg_size g e false at = refl

some_row : (k : ℕ) (g : Args) (next : ℕ) → 0 < next → 0 < first_row k g next
some_row k none_given next h = h
some_row k (given g e) next h = some_row k g (k + args_size (given g e)) (omega arith)
some_row k (named g t e) next h = some_row k g (k + args_size (named g t e)) (omega arith)

-- where there is no first argument there is none
no_first : (k : ℕ) (g : Args) → first_row k g 0 ≡ 0 → g ≡ none_given
no_first k none_given h = refl
no_first k (given g e) h = absurd (omega (arith, h, some_row k g (k + args_size (given g e)) (omega arith)))
no_first k (named g t e) h = absurd (omega (arith, h, some_row k g (k + args_size (named g t e)) (omega arith)))

-- where there are arguments, it is the last node that names what comes next
record Ends (k : ℕ) (g : Args) : Type 0 where
  front : List Node
  last : Node
  nodes : (next : ℕ) → arg_nodes k g next ≡ front ++ naming last next ∷ []
  long : length front + 1 ≡ args_size g
  same : (next : ℕ) → first_row k g next ≡ first_row k g 0

ends : (k : ℕ) (g : Args) → (first_row k g 0 ≡ 0 → ⊥) → Ends k g
ends k none_given h = absurd (h refl)
ends k (given g e) h =
    record {
      front = arg_nodes k g (k + args_size (given g e)) ++ expr_nodes (k + args_size g) e;
      last = node 9 (first_of e) (k + args_size g + expr_size e - 1) 0 0;
      nodes = λ next. refl;
      long = simp length-append (omega (arith, args_long k g (k + args_size (given g e)), expr_long (k + args_size g) e));
      same = λ next. refl;
    }
ends k (named g t e) h =
    record {
      front = arg_nodes k g (k + args_size (named g t e)) ++ expr_nodes (k + args_size g) e;
      last = node 10 t (k + args_size g + expr_size e - 1) 0 0;
      nodes = λ next. refl;
      long = simp length-append (omega (arith, args_long k g (k + args_size (named g t e)), expr_long (k + args_size g) e));
      same = λ next. refl;
    }

regroup : (ws xs ys zs : List Node) (n : Node) → (ws ++ (xs ++ n ∷ [])) ++ ys ++ zs ≡ (ws ++ xs) ++ n ∷ (ys ++ zs)
regroup ws xs ys zs n = simp append_assoc

module _ {t t' : List ℕ} where
  -- a tree of one node
  pub leaf_pushed : {ns : List Node} {count first : ℕ} {n : Node} (e : Expr) → length ns ≡ count → Holds t ns → n ∷ [] ≡ expr_nodes (length ns) e → first_of e ≡ first
      → Pushes t t' count n → Stands t' ns e (count + 1) first
  leaf_pushed {ns} e l h same f p = let g = grown p l h (ap (λ (x : List Node). ns ++ x) same) in record { long = g.0; held = g.1; starts = f }

  pub member_pushed : {ns : List Node} {e : Expr} {have first tok : ℕ} → Stands t ns e have first → Pushes t t' have (node 6 first (have - 1) tok 0)
      → Stands t' ns (member e tok) (have + 1) first
  member_pushed {ns} {e} {have} {first} {tok} s p =
      let row : have - 1 ≡ length ns + expr_size e - 1 = omega (arith, s.long, with_expr_lem ns e) in
      let same : with_expr ns e ++ node 6 first (have - 1) tok 0 ∷ [] ≡ with_expr ns (member e tok) = rw (row, s.starts) (simp append_assoc) in
      let g = grown p s.long s.held same in
      record { long = g.0; held = g.1; starts = s.starts }

  module _ {t₀ : List ℕ} {ns : List Node} {e : Expr} {have first : ℕ} (s : Stands t₀ ns e have first) where
    -- the right operand came after the left one
    pub slash_pushed : {r : Expr} {m start : ℕ} → Stands t (with_expr ns e) r m start → Pushes t t' m (node 7 first (have - 1) (m - 1) 0)
        → Stands t' ns (slash' e r) (m + 1) first
    slash_pushed {r} {m} s' p =
        let w = with_expr_lem ns e in
        let row : have - 1 ≡ length ns + expr_size e - 1 = omega (arith, s.long) in
        let other : m - 1 ≡ length ns + expr_size e + expr_size r - 1 = omega (arith, s'.long, with_expr_lem (with_expr ns e) r) in
        let same : with_expr (with_expr ns e) r ++ node 7 first (have - 1) (m - 1) 0 ∷ [] ≡ with_expr ns (slash' e r) = rw (row, other, w, s.starts) (simp append_assoc) in
        let g = grown p s'.long s'.held same in
        record { long = g.0; held = g.1; starts = s.starts }

    -- the arguments came after the callee
    pub call_pushed : {a : Args} {m start tok : ℕ} → Lists t (with_expr ns e) a m start → Pushes t t' m (node 8 first (have - 1) start tok)
        → Stands t' ns (call e tok a) (m + 1) first
    call_pushed {a} {m} {start} {tok} s' p =
        let w = with_expr_lem ns e in
        let row : have - 1 ≡ length ns + expr_size e - 1 = omega (arith, s.long) in
        let row' : start ≡ first_row (length ns + expr_size e) a 0 = sym s'.starts ∙ ap (λ (k : ℕ). first_row k a 0) w in
        let same : with_args (with_expr ns e) a ++ node 8 first (have - 1) start tok ∷ [] ≡ with_expr ns (call e tok a) = rw (row, row', w, s.starts) (simp append_assoc) in
        let g = grown p s'.long s'.held same in
        record { long = g.0; held = g.1; starts = s.starts }

  -- the argument came after those before it
  module _ {t₀ : List ℕ} {ns : List Node} {g : Args} {have first m v k : ℕ} {e : Expr} (b : Bool) (at : ℕ) (s : Lists t₀ ns g have first)
      (s' : Stands t (with_args ns g) e m v) (ev : v ≡ value_from b at) (ek : k ≡ arg_kind b) (p : Pushes t t' m (node k at (m - 1) 0 0)) where
    long : m ≡ length ns + args_size g + expr_size e
    long = sym s'.long ∙ with_expr_lem (with_args ns g) e ∙ ap (λ (n : ℕ). n + expr_size e) (with_args_lem ns g)

    next : m + 1 ≡ length ns + (args_size g + expr_size e + 1)
    next = omega (arith, long)

    -- its value's node and its own
    abbrev value : List Node
    value = expr_nodes (length ns + args_size g) e

    abbrev own : List Node
    own = node k at (m - 1) 0 0 ∷ []

    held : Holds t' ((ns ++ arg_nodes (length ns) g 0) ++ value ++ own)
    held = rw (with_args_lem ns g) at (p.one (with_expr (with_args ns g) e) s'.long s'.held)

    -- the nodes that are then there, where those of the arguments before name it
    same : {xs : List Node} → xs ≡ arg_nodes (length ns) g (m + 1) → (ns ++ xs) ++ value ++ own ≡ with_args ns (with_arg b g at e)
    same q = rw (q, next, long, ek) (arg_nodes_lem ns g e b at (s'.starts ∙ ev))

    listed : {u : List ℕ} {start : ℕ} → Holds u (with_args ns (with_arg b g at e)) → first_row (length ns) g (m + 1) ≡ start
        → Lists u ns (with_arg b g at e) (m + 1) start
    listed h f =
        record {
          long = with_args_lem ns (with_arg b g at e) ∙ rw (arg_size g e b at) (sym next);
          held = h;
          starts = arg_first (length ns) g e b at ∙ (rw next at f);
        }

    -- as the first
    pub first_pushed : first ≡ 0 → Lists t' ns (with_arg b g at e) (m + 1) (m + 1)
    first_pushed z =
        let none = no_first (length ns) g (s.starts ∙ z) in
        let q : arg_nodes (length ns) g 0 ≡ arg_nodes (length ns) g (m + 1) = rw none in
        listed (rw (same q) at held) (rw none)

    -- and as a further one, of which the one before was told
    pub arg_pushed : {u : List ℕ} → (first ≡ 0 → ⊥) → Links t' u (have - 1) (m + 1) → Lists u ns (with_arg b g at e) (m + 1) first
    arg_pushed {u} some q =
        let d = ends (length ns) g (λ z. some (sym s.starts ∙ z)) in
        let place : length (ns ++ d.front) ≡ have - 1 = simp length-append (omega (arith, s.long, with_args_lem ns g, d.long)) in
        let told = q.one (ns ++ d.front) (value ++ own) (naming d.last 0) place (rw (d.nodes 0, regroup) at held) in
        let all : Holds u (with_args ns (with_arg b g at e)) = rw (← regroup ns d.front value own (naming d.last (m + 1)), same (sym (d.nodes (m + 1)))) at told in
        listed all (d.same (m + 1) ∙ s.starts)

-- no argument yet
pub none_listed : {t : List ℕ} {ns : List Node} {count : ℕ} → length ns ≡ count → Holds t ns → Lists t ns none_given count 0
none_listed {ns = ns} l h = record { long = rw append-nil l; held = rw append-nil h; starts = refl }

-- ---- the names of a path

-- the nodes of n names of a path, after the nodes ns
pub record Names (t : List ℕ) (ns : List Node) (first n count : ℕ) : Type 0 where
  pub long : length (ns ++ name_nodes first n) ≡ count
  pub held : Holds t (ns ++ name_nodes first n)

pub no_names : {t : List ℕ} {ns : List Node} {count : ℕ} (first : ℕ) → length ns ≡ count → Holds t ns → Names t ns first 0 count
no_names {ns = ns} first l h = record { long = rw append-nil l; held = rw append-nil h }

module _ {t t' : List ℕ} {ns : List Node} {first n have : ℕ} (s : Names t ns first n have) where
  pub name_pushed : {tok : ℕ} → tok ≡ first + 2 * suc n → Pushes t t' have (node 1 tok 0 0 0) → Names t' ns first (n + 1) (have + 1)
  name_pushed {tok} e p =
      let same : (ns ++ name_nodes first n) ++ node 1 tok 0 0 0 ∷ [] ≡ ns ++ name_nodes first (n + 1) = rw (add-one n, e) (simp append_assoc) in
      let g = grown p s.long s.held same in
      record { long = g.0; held = g.1 }

  pub path_pushed : Pushes t t' have (node 5 first n 0 0) → Stands t' ns (path first n) (have + 1) first
  path_pushed p =
      let same : (ns ++ name_nodes first n) ++ node 5 first n 0 0 ∷ [] ≡ with_expr ns (path first n) = simp append_assoc in
      let g = grown p s.long s.held same in
      record { long = g.0; held = g.1; starts = refl }

-- ---- statements

module _ {t : List ℕ} {ns : List Node} {e : Expr} {n first : ℕ} (s : Stands t ns e n first) where
  pub let_node : (tok : ℕ) → with_expr ns e ++ node 12 tok (n - 1) 0 0 ∷ [] ≡ with_stmt ns (let' tok e)
  let_node tok = let row : n - 1 ≡ length ns + expr_size e - 1 = omega (arith, s.long, with_expr_lem ns e) in rw row (simp append_assoc)

  pub expr_node : with_expr ns e ++ node 13 first (n - 1) 0 0 ∷ [] ≡ with_stmt ns (expr' e)
  expr_node = let row : n - 1 ≡ length ns + expr_size e - 1 = omega (arith, s.long, with_expr_lem ns e) in rw (row, s.starts) (simp append_assoc)

-- the nodes of a statement come after those of the statements before
pub nodes_more : (k : ℕ) (ss : List Stmt) (s : Stmt) → nodes_from k (ss ++ s ∷ []) ≡ nodes_from k ss ++ stmt_nodes (k + length (nodes_from k ss)) s
unfolding nodes_from
nodes_more k [] s = let e : k + 0 ≡ k = omega arith in rw (e, append-nil)
nodes_more k (x ∷ xs) s =
    let e : k + length (stmt_nodes k x) + length (nodes_from (k + length (stmt_nodes k x)) xs) ≡ k + length (stmt_nodes k x ++ nodes_from (k + length (stmt_nodes k x)) xs) = simp length-append (omega arith) in
    rw (nodes_more (k + length (stmt_nodes k x)) xs s, e, append_assoc)

pub no_stmt : {t : List ℕ} → Holds t [] → (length (nodes_from 0 []) ≡ 0) × Holds t (nodes_from 0 [])
unfolding nodes_from
no_stmt h = (refl, h)

pub stmt_more : {t : List ℕ} {n : ℕ} (ss : List Stmt) (s : Stmt) → length (with_stmt (nodes_from 0 ss) s) ≡ n → Holds t (with_stmt (nodes_from 0 ss) s)
    → (length (nodes_from 0 (ss ++ s ∷ [])) ≡ n) × Holds t (nodes_from 0 (ss ++ s ∷ []))
stmt_more ss s l h = let e : 0 + length (nodes_from 0 ss) ≡ length (nodes_from 0 ss) = omega arith in rw (nodes_more 0 ss s, e) (l, h)

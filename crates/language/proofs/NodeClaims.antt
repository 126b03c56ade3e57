-- How many nodes trees have, and that the trees can be read back from them.
use Prim.Native.Nat.{ℕ, zero, suc, ◌+◌, ◌-◌, ◌*◌, ◌/◌, ◌≤◌, ◌<◌}
use mathlib.Core.Path.{◌≡◌, refl, sym, ap, ◌∙◌}
use mathlib.Core.List.{List, [], ◌∷◌, ◌++◌, append_assoc, append-nil}
use native.Mathlib.Omega.{arith}
use lib.Dec.{eqb}
use lib.ListN.{length, length-append, replicate}
use Rattle.table.specs.Table.{pad_to, flat, tabled}
use Rattle.table.proofs.Laws.{tabled_all, length_flat, pad_split}
use Rattle.language.specs.Choice.{if'}
use Rattle.language.specs.Sentences.{Expr, literal, sock4, local, path, member, call, slash', Args, none_given, given, named, Stmt, import', let', expr', Node, node, name_nodes, expr_size, args_size, expr_nodes, arg_nodes, stmt_nodes, nodes_from, nodes, node_row, node_width, stmt_size, program_size, NodesCounted, NodesDetermine, TablesDetermine}

-- ---- how many

pub names_long : (t n : ℕ) → length (name_nodes t n) ≡ n
names_long t zero = refl
names_long t (suc n) = simp length-append (omega (arith, names_long t n))

mutual
  pub expr_long : (k : ℕ) (e : Expr) → length (expr_nodes k e) ≡ expr_size e
  expr_long k (literal t) = refl
  expr_long k (sock4 t) = refl
  expr_long k (local t) = refl
  expr_long k (path t n) = simp length-append (omega (arith, names_long t n))
  expr_long k (member e t) = simp length-append (omega (arith, expr_long k e))
  expr_long k (slash' a b) = simp length-append (omega (arith, expr_long k a, expr_long (k + expr_size a) b))
  expr_long k (call e t g) = simp length-append (omega (arith, expr_long k e, args_long (k + expr_size e) g 0))

  pub args_long : (k : ℕ) (g : Args) (next : ℕ) → length (arg_nodes k g next) ≡ args_size g
  args_long k none_given next = refl
  args_long k (given g e) next =
      simp length-append (omega (arith, args_long k g (k + args_size (given g e)), expr_long (k + args_size g) e))
  args_long k (named g t e) next =
      simp length-append (omega (arith, args_long k g (k + args_size (named g t e)), expr_long (k + args_size g) e))

pub stmt_long : (k : ℕ) (s : Stmt) → length (stmt_nodes k s) ≡ stmt_size s
stmt_long k (import' t) = refl
stmt_long k (let' t e) = simp length-append (omega (arith, expr_long k e))
stmt_long k (expr' e) = simp length-append (omega (arith, expr_long k e))

pub all_long : (k : ℕ) (ss : List Stmt) → length (nodes_from k ss) ≡ program_size ss
unfolding nodes_from
all_long k [] = refl
all_long k (s ∷ ss) = simp length-append (omega (arith, stmt_long k s, all_long (k + length (stmt_nodes k s)) ss))

pub nodes_counted : NodesCounted
nodes_counted = (expr_long, args_long, stmt_long, all_long 0)

-- a tree has a node
pub some_node : (e : Expr) → 0 < expr_size e
some_node (literal t) = omega arith
some_node (sock4 t) = omega arith
some_node (local t) = omega arith
some_node (path t n) = omega arith
some_node (member e t) = omega arith
some_node (slash' a b) = omega arith
some_node (call e t g) = omega arith

pub some_stmt_node : (s : Stmt) → 0 < stmt_size s
some_stmt_node (import' t) = omega arith
some_stmt_node (let' t e) = omega arith
some_stmt_node (expr' e) = omega arith

-- ---- reading back: each node takes its parts from those that are waiting, the last first

data Part : Type 0 where
  an_expr : Expr → Part
  some_args : Args → Part

-- go on with the last part, if it is an expression
with_expr : List Part → (Expr → List Part → List Part) → List Part
with_expr [] f = []
with_expr (an_expr e ∷ ps) f = f e ps
with_expr (some_args g ∷ ps) f = []

-- go on with the arguments that were read last: none where an expression waits last, the callee
with_args : List Part → (Args → List Part → List Part) → List Part
with_args [] f = []
with_args (an_expr e ∷ ps) f = f none_given (an_expr e ∷ ps)
with_args (some_args g ∷ ps) f = f g ps

-- the parts that wait after a node; kind 1, and a row of zeros, leave them
taken : Node → List Part → List Part
taken n ps =
    if' (eqb n.kind 2) (an_expr (literal n.tok) ∷ ps)
    (if' (eqb n.kind 3) (an_expr (sock4 n.tok) ∷ ps)
    (if' (eqb n.kind 4) (an_expr (local n.tok) ∷ ps)
    (if' (eqb n.kind 5) (an_expr (path n.tok n.first) ∷ ps)
    (if' (eqb n.kind 6) (with_expr ps (λ e qs. an_expr (member e n.second) ∷ qs))
    (if' (eqb n.kind 7) (with_expr ps (λ b qs. with_expr qs (λ a rs. an_expr (slash' a b) ∷ rs)))
    (if' (eqb n.kind 8) (with_args ps (λ g qs. with_expr qs (λ e rs. an_expr (call e n.third g) ∷ rs)))
    (if' (eqb n.kind 9) (with_expr ps (λ e qs. with_args qs (λ g rs. some_args (given g e) ∷ rs)))
    (if' (eqb n.kind 10) (with_expr ps (λ e qs. with_args qs (λ g rs. some_args (named g n.tok e) ∷ rs))) ps))))))))

-- the expression that waits
waiting : List Part → Expr
waiting [] = literal 0
waiting (an_expr e ∷ ps) = e
waiting (some_args g ∷ ps) = literal 0

unread : List Node → List Part → List Stmt
unread [] ps = []
unread (n ∷ ns) ps =
    if' (eqb n.kind 11) (import' n.tok ∷ unread ns [])
    (if' (eqb n.kind 12) (let' n.tok (waiting ps) ∷ unread ns [])
    (if' (eqb n.kind 13) (expr' (waiting ps) ∷ unread ns []) (unread ns (taken n ps))))

-- arguments wait as one part, and none as no part
args_on : Args → List Part → List Part
args_on none_given ps = ps
args_on (given g e) ps = some_args (given g e) ∷ ps
args_on (named g t e) ps = some_args (named g t e) ∷ ps

args_waiting : (g : Args) (e : Expr) (ps : List Part) (f : Args → List Part → List Part)
    → with_args (args_on g (an_expr e ∷ ps)) f ≡ f g (an_expr e ∷ ps)
unfolding args_on with_args
args_waiting none_given e ps f = refl
args_waiting (given g x) e ps f = refl
args_waiting (named g t x) e ps f = refl

unread_names : (t n : ℕ) (ns : List Node) (ps : List Part) → unread (name_nodes t n ++ ns) ps ≡ unread ns ps
unfolding unread taken
unread_names t zero ns ps = refl
unread_names t (suc n) ns ps = rw append_assoc (unread_names t n (node 1 (t + 2 * suc n) 0 0 0 ∷ ns) ps)

mutual
  unfolding unread taken with_expr with_args args_on

  unread_expr : (k : ℕ) (e : Expr) (ns : List Node) (ps : List Part)
      → unread (expr_nodes k e ++ ns) ps ≡ unread ns (an_expr e ∷ ps)
  unread_expr k (literal t) ns ps = refl
  unread_expr k (sock4 t) ns ps = refl
  unread_expr k (local t) ns ps = refl
  unread_expr k (path t n) ns ps = rw append_assoc (unread_names t n (node 5 t n 0 0 ∷ ns) ps)
  unread_expr k (member e t) ns ps = rw append_assoc (unread_expr k e _ ps)
  unread_expr k (slash' a b) ns ps =
      simp append_assoc (unread_expr k a _ ps ∙ unread_expr (k + expr_size a) b _ (an_expr a ∷ ps))
  unread_expr k (call e t g) ns ps =
      simp append_assoc (unread_expr k e _ ps ∙ unread_args (k + expr_size e) g 0 _ e ps ∙ ap (unread ns) (args_waiting g e ps _))

  -- the callee waits before its arguments
  unread_args : (k : ℕ) (g : Args) (next : ℕ) (ns : List Node) (c : Expr) (ps : List Part)
      → unread (arg_nodes k g next ++ ns) (an_expr c ∷ ps) ≡ unread ns (args_on g (an_expr c ∷ ps))
  unread_args k none_given next ns c ps = refl
  unread_args k (given g e) next ns c ps =
      simp append_assoc (unread_args k g _ _ c ps ∙ unread_expr (k + args_size g) e _ (args_on g (an_expr c ∷ ps))
      ∙ ap (unread ns) (args_waiting g c ps _))
  unread_args k (named g t e) next ns c ps =
      simp append_assoc (unread_args k g _ _ c ps ∙ unread_expr (k + args_size g) e _ (args_on g (an_expr c ∷ ps))
      ∙ ap (unread ns) (args_waiting g c ps _))

unread_stmt : (k : ℕ) (s : Stmt) (ns : List Node) → unread (stmt_nodes k s ++ ns) [] ≡ s ∷ unread ns []
unfolding unread waiting
unread_stmt k (import' t) ns = refl
unread_stmt k (let' t e) ns = rw append_assoc (unread_expr k e _ [])
unread_stmt k (expr' e) ns = rw append_assoc (unread_expr k e _ [])

-- the statements are read back, and then what follows
read_back : (k : ℕ) (ss : List Stmt) (ns : List Node) → unread (nodes_from k ss ++ ns) [] ≡ ss ++ unread ns []
unfolding nodes_from
read_back k [] ns = refl
read_back k (s ∷ ss) ns =
    rw append_assoc (unread_stmt k s _ ∙ ap (λ (us : List Stmt). s ∷ us) (read_back (k + length (stmt_nodes k s)) ss ns))

pub nodes_determine : NodesDetermine
unfolding unread
nodes_determine ss us e =
    let whole : (vs : List Stmt) → unread (nodes vs) [] ≡ vs = λ vs. simp append-nil at (read_back 0 vs []) in
    sym (whole ss) ∙ ap (λ (ns : List Node). unread ns []) e ∙ whole us

-- ---- reading back from the words of a table

grouped : List ℕ → List Node
grouped [] = []
grouped (k ∷ []) = []
grouped (k ∷ t ∷ []) = []
grouped (k ∷ t ∷ a ∷ []) = []
grouped (k ∷ t ∷ a ∷ b ∷ []) = []
grouped (k ∷ t ∷ a ∷ b ∷ c ∷ ws) = node k t a b c ∷ grouped ws

grouped_rows : (ns : List Node) (ws : List ℕ) → grouped (flat node_row ns ++ ws) ≡ ns ++ grouped ws
unfolding grouped node_row
grouped_rows [] ws = refl
grouped_rows (n ∷ ns) ws = ap (λ (ms : List Node). n ∷ ms) (grouped_rows ns ws)

-- rows of zeros are no nodes
grouped_zeros : (m : ℕ) → unread (grouped (replicate m 0)) [] ≡ []
unfolding unread taken grouped
grouped_zeros zero = refl
grouped_zeros (suc zero) = refl
grouped_zeros (suc (suc zero)) = refl
grouped_zeros (suc (suc (suc zero))) = refl
grouped_zeros (suc (suc (suc (suc zero)))) = refl
grouped_zeros (suc (suc (suc (suc (suc m))))) = grouped_zeros m

pub row_long : (n : Node) → length (node_row n) ≡ node_width
unfolding node_row
row_long n = refl

read_table : (n : ℕ) (ss : List Stmt) → length (nodes ss) ≤ n / node_width
    → unread (grouped (tabled node_row node_width n (nodes ss))) [] ≡ ss
read_table n ss h =
    let words = flat node_row (nodes ss) in
    let fits : n ≡ length words + (n - length words) = omega (arith, length_flat node_row node_width row_long (nodes ss)) in
    let split : tabled node_row node_width n (nodes ss) ≡ words ++ replicate (n - length words) 0 =
    tabled_all node_row node_width n (nodes ss) h ∙ ap (λ (m : ℕ). pad_to m words) fits ∙ pad_split (n - length words) words in
    rw (split, grouped_rows (nodes ss)) (read_back 0 ss _ ∙ rw (grouped_zeros (n - length words)) (append-nil ss))

pub tables_determine : TablesDetermine
tables_determine n ss us h l e = sym (read_table n ss h) ∙ ap (λ (ws : List ℕ). unread (grouped ws) []) e ∙ read_table n us l

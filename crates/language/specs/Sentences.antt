-- Sentences (01, "Sentences"): the trees that a list of contents stands for, or the first token that is refused. Everything
-- is named by the index of a token; past the end every token is `Eof`.
use Rattle.std.specs.Prelude.{ℕ, zero, suc, ◌+◌, ◌-◌, ◌*◌, ◌/◌, ◌≤◌, ◌≡◌, Bool, true, ◌||◌, List, [], ◌∷◌, ◌++◌, eqb, leb, length, get_or}
use Rattle.table.specs.Table.{tabled}
use Rattle.language.specs.Choice.{if'}
use Rattle.language.specs.Lexemes.{Tok, l_paren, r_paren, dot, double_colon, colon, semi_colon, equals, comma, slash, import_keyword, let_keyword, identifier, boolean_literal, ipv4_literal, hex_literal, dec_literal}
use Rattle.language.specs.Tokens.{Content, eof, plain, name, string}
use Rattle.language.specs.Tables.{content_kind}

-- ---- trees (ast.rs)

mutual
  pub data Expr : Type 0 where
    -- a bool, a string, an integer or an address: the token
    literal : ℕ → Expr
    -- an address and its port: the address's token, two before the port's
    sock4 : ℕ → Expr
    -- a name
    local : ℕ → Expr
    -- a path: its first name, and how many names follow, each two tokens after the one before
    path : ℕ → ℕ → Expr
    -- `.name`: the name's token
    member : Expr → ℕ → Expr
    -- `(arguments)`: the token of its `(`
    call : Expr → ℕ → Args → Expr
    slash' : Expr → Expr → Expr

  -- arguments, the last outermost; a named one with its name's token
  pub data Args : Type 0 where
    none_given : Args
    given : Args → Expr → Args
    named : Args → ℕ → Expr → Args

pub data Stmt : Type 0 where
  import' : ℕ → Stmt
  let' : ℕ → Expr → Stmt
  expr' : Expr → Stmt

-- an expression stands at its first token
abbrev pub first_of : Expr → ℕ
first_of (literal t) = t
first_of (sock4 t) = t
first_of (local t) = t
first_of (path t n) = t
first_of (member e t) = first_of e
first_of (call e t g) = first_of e
first_of (slash' a b) = first_of a

-- ---- outcomes

-- a value, the next token, and the steps that are left; or a refusal: its number, which kind of it, and its token
pub data Out (A : Type 0) : Type 0 where
  ok : A → ℕ → ℕ → Out A
  no : ℕ → ℕ → ℕ → Out A

abbrev pub and_then : {A B : Type 0} → Out A → (A → ℕ → ℕ → Out B) → Out B
and_then (ok a at s) f = f a at s
and_then (no n k at) f = no n k at

-- "`UnexpectedToken`"
abbrev pub unexpected : {A : Type 0} → ℕ → Out A
unexpected at = no 5 1 at

-- "the parser's `IntOutOfRange`"
abbrev pub out_of_range : {A : Type 0} → ℕ → Out A
out_of_range at = no 5 2 at

-- "a 33rd open list or a 65th step"
abbrev pub too_deep : {A : Type 0} → ℕ → Out A
too_deep at = no 7 0 at

abbrev pub most_steps : ℕ
most_steps = 64

abbrev pub most_lists : ℕ
most_lists = 32

-- ---- tokens

pub data Port : Type 0 where
  port : Port
  too_large : Port
  not_port : Port

-- "the port must be a decimal token up to 65,535"
abbrev pub largest_port : ℕ
largest_port = 65535

abbrev pub port_tok : Tok → Port
port_tok (dec_literal n) = if' (leb n largest_port) port too_large
port_tok l_paren = not_port
port_tok r_paren = not_port
port_tok dot = not_port
port_tok double_colon = not_port
port_tok colon = not_port
port_tok semi_colon = not_port
port_tok equals = not_port
port_tok comma = not_port
port_tok slash = not_port
port_tok import_keyword = not_port
port_tok let_keyword = not_port
port_tok identifier = not_port
port_tok (boolean_literal b) = not_port
port_tok (ipv4_literal n) = not_port
port_tok (hex_literal n) = not_port

abbrev pub port_of : Content → Port
port_of eof = not_port
port_of (plain t) = port_tok t
port_of (name bs) = not_port
port_of (string b bs) = not_port

module _ (ts : List Content) where
  -- the token at a place is of the kind of c
  abbrev pub is : ℕ → Content → Bool
  is at c = eqb (content_kind (get_or ts at eof)) (content_kind c)

  abbrev pub is_name : ℕ → Bool
  is_name at = is at (name [])

  -- a bool, a string or an integer
  abbrev pub is_literal : ℕ → Bool
  is_literal at =
      is at (plain (boolean_literal true)) || (is at (string [] []) || (is at (plain (hex_literal 0)) || is at (plain (dec_literal 0))))

  -- ---- expressions

  -- { `::` name } from `at` on, after n names
  unfoldable pub names_from : ℕ → ℕ → ℕ → ℕ → Out ℕ
  names_from zero n at s = unexpected at
  names_from (suc fuel) n at s =
      if' (is at (plain double_colon)) (if' (is_name (at + 1)) (names_from fuel (n + 1) (at + 2) s) (unexpected (at + 1))) (ok n at s)

  -- "A quad followed by `:` takes a port"
  unfoldable pub address : ℕ → ℕ → Out Expr
  address at s =
      if' (is (at + 1) (plain colon))
      (elim (port_of (get_or ts (at + 2) eof)) [
        | port ↦ ok (sock4 at) (at + 3) s
        | too_large ↦ out_of_range (at + 2)
        | not_port ↦ unexpected (at + 2)
      ])
      (ok (literal at) (at + 1) s)

  -- "A name followed by `::` is a path"
  unfoldable pub named' : ℕ → ℕ → Out Expr
  named' at s =
      if' (is (at + 1) (plain double_colon)) (and_then (names_from (suc (length ts)) 0 (at + 1) s) (λ n next x. ok (path at n) next x))
      (ok (local at) (at + 1) s)

  -- "An expression starts with bool, string, number, IPv4 or name"
  unfoldable pub primary : ℕ → ℕ → Out Expr
  primary at s =
      if' (is_literal at) (ok (literal at) (at + 1) s)
      (if' (is at (plain (ipv4_literal 0))) (address at s) (if' (is_name at) (named' at s) (unexpected at)))

  -- { `.` name | `(` arguments `)` } after e, with so many steps left
  unfoldable pub links : (ℕ → Out Args) → ℕ → Expr → ℕ → Out Expr
  links list zero e at =
      if' (is at (plain l_paren)) (too_deep at) (if' (is at (plain dot)) (too_deep at) (ok e at 0))
  links list (suc s) e at =
      if' (is at (plain l_paren)) (and_then (list at) (λ g next x. links list s (call e at g) next))
      (if' (is at (plain dot)) (if' (is_name (at + 1)) (links list s (member e (at + 1)) (at + 2)) (unexpected (at + 1)))
      (ok e at (suc s)))

  unfoldable pub chain_of : (ℕ → Out Args) → ℕ → ℕ → Out Expr
  chain_of list s at = and_then (primary at s) (λ e next x. links list s e next)

  -- { `/` chain } after e: it groups to the left
  unfoldable pub slashes : (ℕ → ℕ → Out Expr) → ℕ → Expr → ℕ → ℕ → Out Expr
  slashes chain zero e at s = too_deep at
  slashes chain (suc fuel) e at zero = if' (is at (plain slash)) (too_deep at) (ok e at zero)
  slashes chain (suc fuel) e at (suc s) =
      if' (is at (plain slash)) (and_then (chain s (at + 1)) (λ r next left. slashes chain fuel (slash' e r) next left)) (ok e at (suc s))

  unfoldable pub expr_of : (ℕ → ℕ → Out Expr) → ℕ → Out Expr
  expr_of chain at = and_then (chain most_steps at) (λ e next s. slashes chain (suc most_steps) e next s)

  -- ---- arguments

  -- "A bare name before `:` names its argument"
  unfoldable pub arg_of : (ℕ → Out Expr) → Args → ℕ → Out Args
  arg_of expr g at =
      if' (is_name at)
      (if' (is (at + 1) (plain colon)) (and_then (expr (at + 2)) (λ e next x. ok (named g at e) next 0))
      (and_then (expr at) (λ e next x. ok (given g e) next 0)))
      (and_then (expr at) (λ e next x. ok (given g e) next 0))

  -- the arguments from `at` on and the `)`: "a trailing comma is allowed, a lone one is not"
  unfoldable pub args_of : (ℕ → Out Expr) → ℕ → Args → ℕ → Out Args
  args_of expr zero g at = unexpected at
  args_of expr (suc fuel) g at =
      if' (is at (plain r_paren)) (ok g (at + 1) 0)
      (and_then (arg_of expr g at) (λ h next x.
      if' (is next (plain comma)) (args_of expr fuel h (next + 1))
      (if' (is next (plain r_paren)) (ok h (next + 1) 0) (unexpected next))))

  -- a list from its `(` on, where d more may be open
  unfoldable pub list_at : ℕ → ℕ → Out Args
  list_at zero = λ at. too_deep at
  list_at (suc d) = λ at. args_of (expr_of (chain_of (list_at d))) (suc (length ts)) none_given (at + 1)

  abbrev pub chain_at : ℕ → ℕ → ℕ → Out Expr
  chain_at d s at = chain_of (list_at d) s at

  abbrev pub expr_at : ℕ → ℕ → Out Expr
  expr_at d at = expr_of (chain_of (list_at d)) at

  -- ---- statements

  abbrev pub ended : {A : Type 0} → A → ℕ → Out A
  ended a at = if' (is at (plain semi_colon)) (ok a (at + 1) 0) (unexpected at)

  unfoldable pub import_at : ℕ → Out Stmt
  import_at at = if' (is_name (at + 1)) (ended (import' (at + 1)) (at + 2)) (unexpected (at + 1))

  unfoldable pub let_at : ℕ → Out Stmt
  let_at at =
      if' (is_name (at + 1))
      (if' (is (at + 2) (plain equals)) (and_then (expr_at most_lists (at + 3)) (λ e next x. ended (let' (at + 1) e) next)) (unexpected (at + 2)))
      (unexpected (at + 1))

  -- "`import` name `;` / `let` name `=` expression `;` / expression `;`"
  unfoldable pub stmt_at : ℕ → Out Stmt
  stmt_at at =
      if' (is at (plain import_keyword)) (import_at at)
      (if' (is at (plain let_keyword)) (let_at at) (and_then (expr_at most_lists at) (λ e next x. ended (expr' e) next)))

  unfoldable pub stmts_from : ℕ → List Stmt → ℕ → Out (List Stmt)
  stmts_from zero ss at = unexpected at
  stmts_from (suc fuel) ss at =
      if' (is at eof) (ok ss at 0) (and_then (stmt_at at) (λ s next x. stmts_from fuel (ss ++ s ∷ []) next))

  -- the statements of a whole program
  unfoldable pub program : Out (List Stmt)
  program = stmts_from (suc (length ts)) [] 0

-- ---- nodes: "one per statement, per expression, per argument, and per path name after the first"

pub record Node : Type 0 where
  pub kind : ℕ
  pub tok : ℕ
  pub first : ℕ
  pub second : ℕ
  pub third : ℕ

abbrev pub node : ℕ → ℕ → ℕ → ℕ → ℕ → Node
node k t a b c = record { kind = k; tok = t; first = a; second = b; third = c }

-- the kind of a call's node
abbrev pub call_kind : ℕ
call_kind = 8

-- the names of a path after the first, whose token is t: n of them, the last last
abbrev pub name_nodes : ℕ → ℕ → List Node
name_nodes t zero = []
name_nodes t (suc n) = name_nodes t n ++ node 1 (t + 2 * suc n) 0 0 0 ∷ []

-- how many nodes a tree has
abbrev mutual
  pub expr_size : Expr → ℕ
  expr_size (literal t) = 1
  expr_size (sock4 t) = 1
  expr_size (local t) = 1
  expr_size (path t n) = n + 1
  expr_size (member e t) = expr_size e + 1
  expr_size (slash' a b) = expr_size a + expr_size b + 1
  expr_size (call e t g) = expr_size e + args_size g + 1

  pub args_size : Args → ℕ
  args_size none_given = 0
  args_size (given g e) = args_size g + expr_size e + 1
  args_size (named g t e) = args_size g + expr_size e + 1

-- the row of the first of some arguments, the first of whose nodes is numbered k, plus 1; `next` where there is none
abbrev pub first_row : ℕ → Args → ℕ → ℕ
first_row k none_given next = next
first_row k (given g e) next = first_row k g (k + args_size (given g e))
first_row k (named g t e) next = first_row k g (k + args_size (named g t e))

-- the nodes of a tree, a child before its parent, the first of them numbered k. A node has its kind, its token, and the
-- rows of its children: of a member the object's row and the name's token, of `/` both operands' rows, of a call the
-- callee's row, the first argument's row plus 1 and the token of `(`, of an argument its value's row and the next
-- argument's row plus 1, 0 for none. The last of some arguments names `next`.
abbrev mutual
  pub expr_nodes : ℕ → Expr → List Node
  expr_nodes k (literal t) = node 2 t 0 0 0 ∷ []
  expr_nodes k (sock4 t) = node 3 t 0 0 0 ∷ []
  expr_nodes k (local t) = node 4 t 0 0 0 ∷ []
  expr_nodes k (path t n) = name_nodes t n ++ node 5 t n 0 0 ∷ []
  expr_nodes k (member e t) = expr_nodes k e ++ node 6 (first_of e) (k + expr_size e - 1) t 0 ∷ []
  expr_nodes k (slash' a b) =
      expr_nodes k a ++ expr_nodes (k + expr_size a) b ++ node 7 (first_of a) (k + expr_size a - 1) (k + expr_size a + expr_size b - 1) 0 ∷ []
  expr_nodes k (call e t g) =
      expr_nodes k e ++ arg_nodes (k + expr_size e) g 0 ++ node call_kind (first_of e) (k + expr_size e - 1) (first_row (k + expr_size e) g 0) t ∷ []

  pub arg_nodes : ℕ → Args → ℕ → List Node
  arg_nodes k none_given next = []
  arg_nodes k (given g e) next =
      arg_nodes k g (k + args_size (given g e)) ++ expr_nodes (k + args_size g) e ++ node 9 (first_of e) (k + args_size g + expr_size e - 1) next 0 ∷ []
  arg_nodes k (named g t e) next =
      arg_nodes k g (k + args_size (named g t e)) ++ expr_nodes (k + args_size g) e ++ node 10 t (k + args_size g + expr_size e - 1) next 0 ∷ []

abbrev pub stmt_nodes : ℕ → Stmt → List Node
stmt_nodes k (import' t) = node 11 t 0 0 0 ∷ []
stmt_nodes k (let' t e) = expr_nodes k e ++ node 12 t (k + expr_size e - 1) 0 0 ∷ []
stmt_nodes k (expr' e) = expr_nodes k e ++ node 13 (first_of e) (k + expr_size e - 1) 0 0 ∷ []

unfoldable pub nodes_from : ℕ → List Stmt → List Node
nodes_from k [] = []
nodes_from k (s ∷ ss) = stmt_nodes k s ++ nodes_from (k + length (stmt_nodes k s)) ss

abbrev pub nodes : List Stmt → List Node
nodes ss = nodes_from 0 ss

-- a node's row: its kind, its token, and three numbers
abbrev pub node_width : ℕ
node_width = 5

unfoldable pub node_row : Node → List ℕ
node_row n = n.kind ∷ n.tok ∷ n.first ∷ n.second ∷ n.third ∷ []

-- ---- the claims

-- what the grammar repeats, each with as many turns as it may need; `slashes_at` has one for each step that is left
module _ (ts : List Content) where
  abbrev pub names : ℕ → ℕ → ℕ → Out ℕ
  names n at s = names_from ts (suc (length ts)) n at s

  abbrev pub slashes_at : ℕ → Expr → ℕ → ℕ → Out Expr
  slashes_at d e at s = slashes ts (chain_at ts d) (suc s) e at s

  abbrev pub args_at : ℕ → Args → ℕ → Out Args
  args_at d g at = args_of ts (expr_at ts d) (suc (length ts)) g at

  abbrev pub stmts : List Stmt → ℕ → Out (List Stmt)
  stmts ss at = stmts_from ts (suc (length ts)) ss at

-- the equations that a reader expects of each production, from any token on, with no bound on the turns. The others
-- (`address`, `named'`, `primary`, `links`, `chain_of`, `arg_of`, `stmt_at`) are their own equations.
abbrev pub NamesUnfold : Type 0
NamesUnfold =
    (ts : List Content) (n at s : ℕ)
    → names ts n at s
    ≡ if' (is ts at (plain double_colon)) (if' (is_name ts (at + 1)) (names ts (n + 1) (at + 2) s) (unexpected (at + 1))) (ok n at s)

-- with no step left, and with some
abbrev pub SlashesUnfold : Type 0
SlashesUnfold =
    (ts : List Content) (d : ℕ) (e : Expr) (at s : ℕ)
    → (slashes_at ts d e at 0 ≡ if' (is ts at (plain slash)) (too_deep at) (ok e at 0))
    × (slashes_at ts d e at (suc s)
    ≡ if' (is ts at (plain slash)) (and_then (chain_at ts d s (at + 1)) (λ r next left. slashes_at ts d (slash' e r) next left)) (ok e at (suc s)))

abbrev pub ExprUnfolds : Type 0
ExprUnfolds =
    (ts : List Content) (d at : ℕ) → expr_at ts d at ≡ and_then (chain_at ts d most_steps at) (λ e next s. slashes_at ts d e next s)

abbrev pub ArgsUnfold : Type 0
ArgsUnfold =
    (ts : List Content) (d : ℕ) (g : Args) (at : ℕ)
    → args_at ts d g at
    ≡ if' (is ts at (plain r_paren)) (ok g (at + 1) 0)
    (and_then (arg_of ts (expr_at ts d) g at) (λ h next x.
    if' (is ts next (plain comma)) (args_at ts d h (next + 1))
    (if' (is ts next (plain r_paren)) (ok h (next + 1) 0) (unexpected next))))

-- where no list may be open, and where one more may
abbrev pub ListUnfolds : Type 0
ListUnfolds =
    (ts : List Content) (d at : ℕ) → (list_at ts 0 at ≡ too_deep at) × (list_at ts (suc d) at ≡ args_at ts d none_given (at + 1))

abbrev pub StmtsUnfold : Type 0
StmtsUnfold =
    (ts : List Content) (ss : List Stmt) (at : ℕ)
    → stmts ts ss at ≡ if' (is ts at eof) (ok ss at 0) (and_then (stmt_at ts at) (λ s next x. stmts ts (ss ++ s ∷ []) next))

abbrev pub ProgramUnfolds : Type 0
ProgramUnfolds = (ts : List Content) → program ts ≡ stmts ts [] 0

-- ---- the claims on nodes

-- "one per statement, per expression, per argument, and per path name after the first"
abbrev pub stmt_size : Stmt → ℕ
stmt_size (import' t) = 1
stmt_size (let' t e) = expr_size e + 1
stmt_size (expr' e) = expr_size e + 1

abbrev pub program_size : List Stmt → ℕ
program_size [] = 0
program_size (s ∷ ss) = stmt_size s + program_size ss

abbrev pub NodesCounted : Type 0
NodesCounted =
    ((k : ℕ) (e : Expr) → length (expr_nodes k e) ≡ expr_size e) × ((k : ℕ) (g : Args) (next : ℕ) → length (arg_nodes k g next) ≡ args_size g)
    × ((k : ℕ) (s : Stmt) → length (stmt_nodes k s) ≡ stmt_size s) × ((ss : List Stmt) → length (nodes ss) ≡ program_size ss)

-- the rows determine the trees
abbrev pub NodesDetermine : Type 0
NodesDetermine = (ss us : List Stmt) → nodes ss ≡ nodes us → ss ≡ us

-- and so do the words of a table of n words in which they fit, with no count
abbrev pub TablesDetermine : Type 0
TablesDetermine =
    (n : ℕ) (ss us : List Stmt) → length (nodes ss) ≤ n / node_width → length (nodes us) ≤ n / node_width
    → tabled node_row node_width n (nodes ss) ≡ tabled node_row node_width n (nodes us) → ss ≡ us

-- How the parser's tables and answers stand for contents and trees.
use Rattle.std.specs.Prelude.{ℕ, ◌+◌, ◌*◌, ◌≤◌, ◌<◌, ◌-◌, ◌≡◌, Bool, ◌&&◌, ◌||◌, List, [], ◌∷◌, ◌++◌, eqb, leb, ltb, length, get_or, Option, Some, None, Result, Ok, Err}
use Rattle.table.specs.Table.{tabled}
use Rattle.language.specs.Choice.{if'}
use Rattle.language.specs.Tables.{content_kind, token_width}
use Rattle.language.specs.Tokens.{Content, eof, most_tokens}
use Rattle.language.specs.Sentences.{Expr, Args, given, named, Stmt, expr', first_of, Port, port, too_large, not_port, port_of, Out, ok, no, and_then, most_lists, expr_at, ended, Node, node, expr_nodes, arg_nodes, first_row, stmt_nodes, nodes, node_row, node_width, largest_port}
use Rattle.rows.specs.declared.verdict.Verdict.{Verdict}
use Rattle.rows.specs.declared.token.Tok.{Tok}
use Rattle.rows.specs.Tokens.{tok_number, tok_value, kind_at, tok_at}
use Rattle.parse.specs.declared.ParseError.{ParseError}
use Rattle.parse.specs.declared.ParseError.TheVariants.{UnexpectedToken, IntOutOfRange, TooDeep}
use Rattle.parse.specs.declared.Parsed.{Parsed}
use Rattle.parse.specs.declared.Listed.{Listed}

-- ---- refusals

-- the number that C gets, which kind of it, and the token
abbrev pub number_of : ParseError → ℕ
number_of (UnexpectedToken at) = 5
number_of (IntOutOfRange at) = 5
number_of (TooDeep at) = 7

abbrev pub kind_of : ParseError → ℕ
kind_of (UnexpectedToken at) = 1
kind_of (IntOutOfRange at) = 2
kind_of (TooDeep at) = 0

abbrev pub place_of : ParseError → ℕ
place_of (UnexpectedToken at) = at
place_of (IntOutOfRange at) = at
place_of (TooDeep at) = at

-- as the definitions say it
abbrev pub no_of : {A : Type 0} → ParseError → Out A
no_of x = no (number_of x) (kind_of x) (place_of x)

-- ---- tokens

-- a bool, a string or an integer
abbrev pub literal_kind : ℕ → Bool
literal_kind n = eqb n 14 || (eqb n 16 || (eqb n 17 || eqb n 18))

-- what the code says of the token where a port must be
abbrev pub port_as : ℕ → Port → Result (Unit {0}) ParseError
port_as at port = Ok tt
port_as at too_large = Err (IntOutOfRange at)
port_as at not_port = Err (UnexpectedToken at)

-- a decimal up to 65,535, one that is larger, or another token
unfoldable pub port_of_tok : Tok → Port
port_of_tok t = if' (eqb (tok_number t) 18) (if' (eqb (tok_value t).hi 0) (if' (leb (tok_value t).lo largest_port) port too_large) too_large) not_port

unfoldable pub port_at : List ℕ → ℕ → Port
port_at toks at = port_of_tok (tok_at toks at)

-- the table's rows are those of tokens with these contents
pub record Rep (toks : List ℕ) (ts : List Content) : Type 0 where
  pub long : length toks ≡ token_width * length ts
  pub kinds : (at : ℕ) → kind_at toks at ≡ content_kind (get_or ts at eof)
  pub ports : (at : ℕ) → port_at toks at ≡ port_of (get_or ts at eof)

-- a name and a `:`
unfoldable pub is_named : List ℕ → ℕ → Bool
is_named toks at = eqb (kind_at toks at) 13 && eqb (kind_at toks (at + 1)) 6

abbrev pub arg_kind : Bool → ℕ
arg_kind b = if' b 10 9

abbrev pub value_from : Bool → ℕ → ℕ
value_from b at = if' b (at + 2) at

-- the argument that starts at a token, after others
abbrev pub with_arg : Bool → Args → ℕ → Expr → Args
with_arg b g at e = if' b (named g at e) (given g e)

-- ---- nodes

-- the table holds these nodes, as many of them as fit
pub record Holds (t : List ℕ) (ns : List Node) : Type 0 where
  pub rows : t ≡ tabled node_row node_width (length t) ns

-- t' holds a node more than t
pub record Pushes (t t' : List ℕ) (count : ℕ) (n : Node) : Type 0 where
  pub one : (ns : List Node) → length ns ≡ count → Holds t ns → Holds t' (ns ++ n ∷ [])

-- a node with another second number
abbrev pub naming : Node → ℕ → Node
naming n next = node n.kind n.tok n.first next n.third

-- t' holds the nodes of t, but that the one in a row has another second number
pub record Links (t t' : List ℕ) (row next : ℕ) : Type 0 where
  pub one : (xs ys : List Node) (n : Node) → length xs ≡ row → Holds t (xs ++ n ∷ ys) → Holds t' (xs ++ naming n next ∷ ys)

-- the nodes of an expression after those that are there
abbrev pub with_expr : List Node → Expr → List Node
with_expr ns e = ns ++ expr_nodes (length ns) e

abbrev pub with_args : List Node → Args → List Node
with_args ns g = ns ++ arg_nodes (length ns) g 0

abbrev pub with_stmt : List Node → Stmt → List Node
with_stmt ns s = ns ++ stmt_nodes (length ns) s

-- the table t holds an expression that starts at a token, after the nodes ns: `count` nodes in all
pub record Stands (t : List ℕ) (ns : List Node) (e : Expr) (count first : ℕ) : Type 0 where
  pub long : length (with_expr ns e) ≡ count
  pub held : Holds t (with_expr ns e)
  pub starts : first_of e ≡ first

-- the row of the first argument plus 1, 0 where there is none
abbrev pub row_plus : Option ℕ → ℕ
row_plus None = 0
row_plus (Some row) = row + 1

-- the same of arguments, with the row of the first one plus 1
pub record Lists (t : List ℕ) (ns : List Node) (g : Args) (count first : ℕ) : Type 0 where
  pub long : length (with_args ns g) ≡ count
  pub held : Holds t (with_args ns g)
  pub starts : first_row (length ns) g 0 ≡ first

-- ---- answers

-- what holds for all contents that the tokens stand for, and all nodes that are there
abbrev pub After : List ℕ → List ℕ → ℕ → (List Content → List Node → Type 0) → Type 0
After toks t count P = (ts : List Content) (ns : List Node) → Rep toks ts → length ns ≡ count → Holds t ns → P ts ns

-- and for all expressions that were parsed before
abbrev pub AfterExpr : List ℕ → List ℕ → ℕ → ℕ → (List Content → List Node → Expr → Type 0) → Type 0
AfterExpr toks t count first P = (ts : List Content) (ns : List Node) (e : Expr) → Rep toks ts → Stands t ns e count first → P ts ns e

-- and for all arguments that were parsed before, with the row of the first one plus 1
abbrev pub AfterArgs : List ℕ → List ℕ → ℕ → ℕ → (List Content → List Node → Args → Type 0) → Type 0
AfterArgs toks t count first P = (ts : List Content) (ns : List Node) (g : Args) → Rep toks ts → Lists t ns g count first → P ts ns g

-- r is the code's answer and t its table, where the definition gives an outcome, after the nodes ns
abbrev pub ExprOf : Result Parsed ParseError → List ℕ → List Node → ℕ → Out Expr → Type 0
ExprOf (Ok p) t ns first o = (e : Expr) × (o ≡ ok e p.next p.steps) × Stands t ns e p.nodes first
ExprOf (Err x) t ns first o = o ≡ no_of x

pub record MetExpr (r : Result Parsed ParseError) (t : List ℕ) (ns : List Node) (first : ℕ) (o : Out Expr) : Type 0 where
  pub met : ExprOf r t ns first o

abbrev pub ArgsOf : Result Listed ParseError → List ℕ → List Node → Out Args → Type 0
ArgsOf (Ok p) t ns o = (g : Args) × (s : ℕ) × (o ≡ ok g p.next s) × Lists t ns g p.nodes (row_plus p.first)
ArgsOf (Err x) t ns o = o ≡ no_of x

pub record MetArgs (r : Result Listed ParseError) (t : List ℕ) (ns : List Node) (o : Out Args) : Type 0 where
  pub met : ArgsOf r t ns o

abbrev pub StmtOf : Result Parsed ParseError → List ℕ → List Node → Out Stmt → Type 0
StmtOf (Ok p) t ns o = (s : Stmt) × (x : ℕ) × (o ≡ ok s p.next x) × (length (with_stmt ns s) ≡ p.nodes) × (p.steps ≡ 0) × Holds t (with_stmt ns s)
StmtOf (Err x) t ns o = o ≡ no_of x

pub record MetStmt (r : Result Parsed ParseError) (t : List ℕ) (ns : List Node) (o : Out Stmt) : Type 0 where
  pub met : StmtOf r t ns o

-- an expression and its `;`, which `stmt_at` has no name for
abbrev pub expr_stmt : List Content → ℕ → Out Stmt
expr_stmt ts at = and_then (expr_at ts most_lists at) (λ e next x. ended ts (expr' e) next)

abbrev pub AllOf : Result Parsed ParseError → List ℕ → Out (List Stmt) → Type 0
AllOf (Ok p) t o = (ss : List Stmt) × (x : ℕ) × (o ≡ ok ss p.next x) × (length (nodes ss) ≡ p.nodes) × (p.steps ≡ 0) × Holds t (nodes ss)
AllOf (Err x) t o = o ≡ no_of x

pub record MetAll (r : Result Parsed ParseError) (t : List ℕ) (o : Out (List Stmt)) : Type 0 where
  pub met : AllOf r t o

-- ---- how far the code went: numbers alone, for safety

-- where a part of the grammar starts: a token, in a table of so many words, and how many nodes there are
abbrev pub Room : ℕ → ℕ → ℕ → Type 0
Room len at count = (token_width * at ≤ len) × (len ≤ token_width * most_tokens) × (count ≤ 2 * at)

-- from the token `at` with `count` nodes and some steps it went on by d tokens and d nodes at least, and by at most two
-- nodes for each token
abbrev pub AheadOf : ℕ → ℕ → ℕ → ℕ → ℕ → Result Parsed ParseError → Type 0
AheadOf d len at count steps (Ok p) = (at + d ≤ p.next) × (token_width * p.next ≤ len) × (count + d ≤ p.nodes) × (p.nodes + 2 * at ≤ count + 2 * p.next) × (p.steps ≤ steps)
AheadOf d len at count steps (Err x) = place_of x ≤ len + 3

pub record Ahead (d len at count steps : ℕ) (r : Result Parsed ParseError) : Type 0 where
  pub on : AheadOf d len at count steps r

-- the same of arguments: by d + 1 tokens at least, and by d nodes less than two for each token
abbrev pub AheadArgs : ℕ → ℕ → ℕ → ℕ → Result Listed ParseError → Type 0
AheadArgs d len at count (Ok p) = (at + d < p.next) × (token_width * p.next ≤ len) × (count ≤ p.nodes) × (p.nodes + 2 * at + d ≤ count + 2 * p.next) × (row_plus p.first ≤ p.nodes)
AheadArgs d len at count (Err x) = place_of x ≤ len + 3

pub record AheadList (d len at count : ℕ) (r : Result Listed ParseError) : Type 0 where
  pub on : AheadArgs d len at count r

-- ---- places

-- a refusal at the token in a row of a table
abbrev pub row_verdict : List ℕ → ℕ → ℕ → ℕ → Verdict
row_verdict toks number kind i =
    record { number = number; kind = kind; line = get_or toks (token_width * i + 1) 0; column = get_or toks (token_width * i + 2) 0; character = 0 }

-- a refusal at a token of a table with `count` of them, the last of which is `Eof`
unfoldable pub verdict_at : List ℕ → ℕ → ℕ → ℕ → ℕ → Verdict
verdict_at toks count number kind at = row_verdict toks number kind (if' (ltb at count) at (count - 1))

-- The grammar as rules (01, "Sentences"): which tokens a tree stands for, from one token to before another. Sentences.antt
-- says how a tree is found; the claims below say that it finds these trees and no others, and where their parts stand.
use Rattle.std.specs.Prelude.{ℕ, suc, ◌+◌, ◌≤◌, ◌<◌, ◌≡◌, Bool, true, false, ◌||◌, eqb, length, get_or}
use mathlib.Core.List.{List, [], ◌∷◌, Memᴰ}
use Rattle.language.specs.Choice.{if'}
use Rattle.language.specs.Lexemes.{l_paren, r_paren, dot, double_colon, colon, semi_colon, equals, comma, slash, import_keyword, let_keyword, ipv4_literal}
use Rattle.language.specs.Tokens.{Content, eof, plain, name, tokens, contents}
use Rattle.language.specs.Sentences.{Expr, literal, sock4, local, path, member, call, slash', Args, none_given, given, named, Stmt, import', let', expr', first_of, Port, port, too_large, not_port, port_of, ok, no, is, is_literal, expr_at, program, Node, nodes}

-- the steps of an expression, "not counting those inside its argument lists"
abbrev pub steps_of : Expr → ℕ
steps_of (literal t) = 0
steps_of (sock4 t) = 0
steps_of (local t) = 0
steps_of (path t n) = 0
steps_of (member e t) = steps_of e + 1
steps_of (call e t g) = steps_of e + 1
steps_of (slash' a b) = steps_of a + steps_of b + 1

abbrev pub is_port : Port → Bool
is_port port = true
is_port too_large = false
is_port not_port = false

-- the token at a place passes a test, and the next place is the one after it
pub record Takes (test : Bool) (at next : ℕ) : Type 0 where
  pub passes : test ≡ true
  pub after : next ≡ at + 1

module _ (ts : List Content) where
  -- one token of the kind of c; a token of another kind
  abbrev pub One : Content → ℕ → ℕ → Type 0
  One c at next = Takes (is ts at c) at next

  abbrev pub Other : Content → ℕ → Type 0
  Other c at = is ts at c ≡ false

  -- { `::` name }, n of them
  pub data PathNames : ℕ → ℕ → ℕ → Type 0 where
    is_start : {at : ℕ} → PathNames at 0 at
    is_name_lem : {at n mid t next : ℕ} → PathNames at n mid → One (plain double_colon) mid t → One (name []) t next
        → PathNames at (suc n) next

  -- d is how many lists may be open inside at once
  mutual
    -- what stands between two `/`: "A quad followed by `:` takes a port", "A name followed by `::` is a path"
    pub data Chain : ℕ → ℕ → Expr → ℕ → Type 0 where
      is_literal_lem : {d at next : ℕ} → Takes (is_literal ts at) at next → Chain d at (literal at) next
      is_address : {d at next : ℕ} → One (plain (ipv4_literal 0)) at next → Other (plain colon) next → Chain d at (literal at) next
      is_sock4_lem : {d at mid t next : ℕ} → One (plain (ipv4_literal 0)) at mid → One (plain colon) mid t
          → Takes (is_port (port_of (get_or ts t eof))) t next → Chain d at (sock4 at) next
      is_local : {d at next : ℕ} → One (name []) at next → Other (plain double_colon) next → Chain d at (local at) next
      is_path : {d at n mid next : ℕ} → One (name []) at mid → PathNames mid n next → 0 < n → Other (plain double_colon) next
          → Chain d at (path at n) next
      is_member : {d at mid t next : ℕ} {e : Expr} → Chain d at e mid → One (plain dot) mid t → One (name []) t next
          → Chain d at (member e t) next
      is_call : {d at mid next : ℕ} {e : Expr} {g : Args} → Chain d at e mid → Bracketed d mid g next → Chain d at (call e mid g) next

    -- chains with `/` between: it groups to the left
    pub data Slashed : ℕ → ℕ → Expr → ℕ → Type 0 where
      is_chain : {d at next : ℕ} {e : Expr} → Chain d at e next → Slashed d at e next
      is_slash : {d at mid t next : ℕ} {e r : Expr} → Slashed d at e mid → One (plain slash) mid t → Chain d t r next
          → Slashed d at (slash' e r) next

    -- "steps (`.`, `(`, `/`) in one expression 64"
    pub data Expression : ℕ → ℕ → Expr → ℕ → Type 0 where
      is_expression : {d at next : ℕ} {e : Expr} → Slashed d at e next → steps_of e ≤ 64 → Expression d at e next

    -- one argument after g, which gives h: "A bare name before `:` names its argument"
    pub data Argument : ℕ → ℕ → Args → Args → ℕ → Type 0 where
      is_given : {d at next : ℕ} {g : Args} {e : Expr} → (is ts at (name []) ≡ true → Other (plain colon) (at + 1))
          → Expression d at e next → Argument d at g (given g e) next
      is_named_lem : {d at mid t next : ℕ} {g : Args} {e : Expr} → One (name []) at mid → One (plain colon) mid t → Expression d t e next
          → Argument d at g (named g at e) next

    -- { argument `,` }
    pub data Arguments : ℕ → ℕ → Args → ℕ → Type 0 where
      is_none : {d at : ℕ} → Arguments d at none_given at
      is_more : {d at mid t next : ℕ} {g h : Args} → Arguments d at g mid → Argument d mid g h t → One (plain comma) t next
          → Arguments d at h next

    -- a list from its `(` to its `)`: "a trailing comma is allowed, a lone one is not"
    pub data Bracketed : ℕ → ℕ → Args → ℕ → Type 0 where
      is_closed : {d at mid t next : ℕ} {g : Args} → One (plain l_paren) at mid → Arguments d mid g t → One (plain r_paren) t next
          → Bracketed (suc d) at g next
      is_last : {d at mid t u next : ℕ} {g h : Args} → One (plain l_paren) at mid → Arguments d mid g t → Argument d t g h u
          → One (plain r_paren) u next → Bracketed (suc d) at h next

  pub data Statement : ℕ → Stmt → ℕ → Type 0 where
    is_import : {at t mid next : ℕ} → One (plain import_keyword) at t → One (name []) t mid → One (plain semi_colon) mid next
        → Statement at (import' t) next
    is_let : {at t mid u v next : ℕ} {e : Expr} → One (plain let_keyword) at t → One (name []) t mid → One (plain equals) mid u
        → Expression 32 u e v → One (plain semi_colon) v next → Statement at (let' t e) next
    is_expr : {at mid next : ℕ} {e : Expr} → Expression 32 at e mid → One (plain semi_colon) mid next → Statement at (expr' e) next

  -- statements to the end
  pub data Program : ℕ → List Stmt → ℕ → Type 0 where
    is_end : {at : ℕ} → is ts at eof ≡ true → Program at [] at
    is_next : {at mid next : ℕ} {s : Stmt} {ss : List Stmt} → Statement at s mid → Program mid ss next → Program at (s ∷ ss) next

-- ---- the claims

-- the trees that are found are those of the rules, and no others
abbrev pub GrammarMet : Type 0
GrammarMet =
    (ts : List Content) (ss : List Stmt) (next : ℕ)
    → ((x : ℕ) → program ts ≡ ok ss next x → Program ts 0 ss next) × (Program ts 0 ss next → program ts ≡ ok ss next 0)

-- so no tokens have two readings
abbrev pub OneReading : Type 0
OneReading =
    (ts : List Content) (ss us : List Stmt) (m n : ℕ) → Program ts 0 ss m → Program ts 0 us n → (ss ≡ us) × (m ≡ n)

-- an expression stands at its first token, and so does each part of it, whose rule says where it starts
abbrev pub StandsFirst : Type 0
StandsFirst =
    (ts : List Content) (d at next : ℕ) (e : Expr)
    → (Chain ts d at e next → first_of e ≡ at) × (Slashed ts d at e next → first_of e ≡ at)
    × ((s : ℕ) → expr_at ts d at ≡ ok e next s → first_of e ≡ at)

-- the rows that stand at a name: a path's further name, a name, a path, a named argument, an import and a let
abbrev pub at_name : ℕ → Bool
at_name k = eqb k 1 || (eqb k 4 || (eqb k 5 || (eqb k 10 || (eqb k 11 || eqb k 12))))

-- the tokens that a row names are of the kinds that its own kind says: a literal or an address, an address, a member's
-- name and a call's `(`; the rows of `/`, of an argument and of an expression's statement stand where their first part does
abbrev pub right_tokens : List Content → Node → Bool
right_tokens ts n =
    if' (at_name n.kind) (is ts n.tok (name []))
    (if' (eqb n.kind 2) (is_literal ts n.tok || is ts n.tok (plain (ipv4_literal 0)))
    (if' (eqb n.kind 3) (is ts n.tok (plain (ipv4_literal 0)))
    (if' (eqb n.kind 6) (is ts n.second (name []))
    (if' (eqb n.kind 8) (is ts n.third (plain l_paren)) true))))

abbrev pub RowsRight : Type 0
RowsRight =
    (ts : List Content) (ss : List Stmt) (next x : ℕ) → program ts ≡ ok ss next x
    → (n : Node) → Memᴰ n (nodes ss) → right_tokens ts n ≡ true

-- ---- the claims on where a program ends

-- what is parsed was read to its end: it stopped at `Eof`, the last token
abbrev pub WholeRead : Type 0
WholeRead =
    (s : List ℕ) (ss : List Stmt) (next x : ℕ) → program (contents (tokens s)) ≡ ok ss next x → suc next ≡ length (tokens s)

-- "that token": the one that is refused, with 5 or with 7, is one of the source's
abbrev pub StopsInside : Type 0
StopsInside = (s : List ℕ) (n k t : ℕ) → program (contents (tokens s)) ≡ no n k t → t < length (tokens s)

-- "steps (`.`, `(`, `/`)"
abbrev pub is_step : List Content → ℕ → Bool
is_step ts at = is ts at (plain dot) || (is ts at (plain l_paren) || is ts at (plain slash))

-- "a 33rd open list or a 65th step": it is the token that would open the one or make the other
abbrev pub StopsAtStep : Type 0
StopsAtStep = (ts : List Content) (k t : ℕ) → program ts ≡ no 7 k t → is_step ts t ≡ true

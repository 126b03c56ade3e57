-- The bounds on lists and steps (01, "Numbers handed back"): 7 is "a 33rd open list or a 65th step", and "between 5 and 7 the
-- earlier token decides". To say this, the grammar of Sentences.antt stands here with its two bounds left open: what the
-- grammar alone does is then known, and the claims say where the bounds change it.
use Rattle.std.specs.Prelude.{ℕ, zero, suc, ◌+◌, ◌≤◌, ◌<◌, ◌≡◌, List, [], ◌∷◌, ◌++◌, ◌⊎◌, length}
use Rattle.language.specs.Choice.{if'}
use Rattle.language.specs.Lexemes.{equals, import_keyword, let_keyword}
use Rattle.language.specs.Tokens.{Content, eof, plain}
use Rattle.language.specs.Sentences.{Expr, Args, none_given, Stmt, let', expr', Out, ok, no, and_then, unexpected, too_deep, is, is_name, chain_of, slashes, args_of, ended, import_at, program}

-- ---- the productions that have a bound, over any bounds

module _ (ts : List Content) where
  -- as `expr_of`, with so many steps at the most
  unfoldable pub expr_in : ℕ → (ℕ → ℕ → Out Expr) → ℕ → Out Expr
  expr_in steps chain at = and_then (chain steps at) (λ e next s. slashes ts chain (suc steps) e next s)

  -- as `list_at`
  unfoldable pub list_in : ℕ → ℕ → ℕ → Out Args
  list_in steps zero = λ at. too_deep at
  list_in steps (suc d) = λ at. args_of ts (expr_in steps (chain_of ts (list_in steps d))) (suc (length ts)) none_given (at + 1)

  -- so many lists, and so many steps
  module _ (lists steps : ℕ) where
    abbrev pub whole_in : ℕ → Out Expr
    whole_in at = expr_in steps (chain_of ts (list_in steps lists)) at

    -- as `let_at`, `stmt_at`, `stmts_from` and `program`
    unfoldable pub let_in : ℕ → Out Stmt
    let_in at =
        if' (is_name ts (at + 1))
        (if' (is ts (at + 2) (plain equals)) (and_then (whole_in (at + 3)) (λ e next x. ended ts (let' (at + 1) e) next))
        (unexpected (at + 2)))
        (unexpected (at + 1))

    unfoldable pub stmt_in : ℕ → Out Stmt
    stmt_in at =
        if' (is ts at (plain import_keyword)) (import_at ts at)
        (if' (is ts at (plain let_keyword)) (let_in at) (and_then (whole_in at) (λ e next x. ended ts (expr' e) next)))

    unfoldable pub stmts_in : ℕ → List Stmt → ℕ → Out (List Stmt)
    stmts_in zero ss at = unexpected at
    stmts_in (suc fuel) ss at =
        if' (is ts at eof) (ok ss at 0) (and_then (stmt_in at) (λ s next x. stmts_in fuel (ss ++ s ∷ []) next))

    unfoldable pub program_in : Out (List Stmt)
    program_in = stmts_in (suc (length ts)) [] 0

  -- the grammar alone: no program has as many lists or steps as it has tokens
  abbrev pub alone : Out (List Stmt)
  alone = program_in (length ts) (length ts)

-- the token that an outcome has come to: the next one, or the one that is refused
abbrev pub reached : {A : Type 0} → Out A → ℕ
reached (ok a at s) = at
reached (no n k at) = at

-- ---- the claims

-- 01's bounds are 32 and 64
abbrev pub BoundsMet : Type 0
BoundsMet = (ts : List Content) → program ts ≡ program_in ts 32 64

-- the grammar alone stops with 5 or not at all, and larger bounds are the same: it has none
abbrev pub AloneStops : Type 0
AloneStops =
    (ts : List Content)
    → ((n k t : ℕ) → alone ts ≡ no n k t → n ≡ 5)
    × ((lists steps : ℕ) → length ts ≤ lists → length ts ≤ steps → program_in ts lists steps ≡ alone ts)

-- "between 5 and 7 the earlier token decides": where the grammar alone refuses the token t, 5 is given at t, or 7 at a token
-- before t; and where it refuses none, there is no 5
abbrev pub EarlierDecides : Type 0
EarlierDecides =
    (ts : List Content)
    → ((k t : ℕ) → alone ts ≡ no 5 k t → (program ts ≡ no 5 k t) ⊎ ((u : ℕ) × (u < t) × (program ts ≡ no 7 0 u)))
    × ((ss : List Stmt) (next x : ℕ) → alone ts ≡ ok ss next x → (program ts ≡ ok ss next x) ⊎ ((u : ℕ) × (program ts ≡ no 7 0 u)))

-- and back: 5 is given, and a program is found, as by the grammar alone
abbrev pub AsAlone : Type 0
AsAlone =
    (ts : List Content)
    → ((k t : ℕ) → program ts ≡ no 5 k t → alone ts ≡ no 5 k t)
    × ((ss : List Stmt) (next x : ℕ) → program ts ≡ ok ss next x → alone ts ≡ ok ss next x)

-- "a 33rd open list or a 65th step", "that token": 7 is given at a step (`StopsAtStep`: Grammar.antt), and with one list and one
-- step more parsing goes past it
abbrev pub OneTooMany : Type 0
OneTooMany =
    (ts : List Content) (u : ℕ) → program ts ≡ no 7 0 u → u < reached (program_in ts 33 65)

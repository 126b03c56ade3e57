-- The count of lists and steps (01, "The edge of the port"): "argument lists open at once 32; steps (`.`, `(`, `/`) in one
-- expression 64, not counting those inside its argument lists". It is a plain count over the tokens from left to right, with no
-- grammar, and the claims say that 7, "a 33rd open list or a 65th step", is given exactly at the token that it names.
use Rattle.std.specs.Prelude.{ℕ, suc, ◌<◌, ◌≡◌, Bool, ◌||◌, List, [], ◌∷◌, ◌↔◌, eqb, leb, length, get_or, drop}
use Rattle.std.proofs.Math.Option.{Option, none, some}
use Rattle.language.specs.Choice.{if'}
use Rattle.language.specs.Lexemes.{l_paren, r_paren, dot, semi_colon, comma, slash}
use Rattle.language.specs.Tokens.{Content, eof, plain}
use Rattle.language.specs.Tables.{content_kind}
use Rattle.language.specs.Sentences.{Stmt, ok, no, program}
use Rattle.language.specs.Bounds.{alone, reached}

-- two tokens are of one kind
abbrev pub alike : Content → Content → Bool
alike c d = eqb (content_kind c) (content_kind d)

-- what a token does to the count
pub data Effect : Type 0 where
  -- nothing more is read
  over : Effect
  -- it is a 33rd open list or a 65th step
  one_more : Effect
  -- so many steps are then made in the expression that is being read, and in those around it
  counts : ℕ → List ℕ → Effect

-- `made` are the steps so far in the expression that is being read, `outer` those in the expressions around it: one for each list
-- that is open, the innermost first
unfoldable pub turn : Content → ℕ → List ℕ → Effect
turn c made outer =
    if' (alike c eof) over
    -- `(` is a step, and in the list that it opens an expression starts
    (if' (alike c (plain l_paren)) (if' (leb 64 made || leb 32 (length outer)) one_more (counts 0 (suc made ∷ outer)))
    -- `.` and `/` are steps
    (if' (alike c (plain dot) || alike c (plain slash)) (if' (leb 64 made) one_more (counts (suc made) outer))
    -- `)` closes the list: the expression around it goes on
    (if' (alike c (plain r_paren)) (counts (get_or outer 0 0) (drop 1 outer))
    -- after `,` and `;` another expression starts
    (if' (alike c (plain comma) || alike c (plain semi_colon)) (counts 0 outer)
    (counts made outer)))))

-- the first token that is one too many, from the token of index i on
unfoldable pub too_many_from : ℕ → ℕ → List ℕ → List Content → Option ℕ
too_many_from i made outer [] = none
too_many_from i made outer (c ∷ ts) =
    elim (turn c made outer) [ over ↦ none | one_more ↦ some i | counts n around ↦ too_many_from (suc i) n around ts ]

-- "a 33rd open list or a 65th step": the first of them, where there is one
abbrev pub too_many : List Content → Option ℕ
too_many ts = too_many_from 0 0 [] ts

-- ---- the claims

-- 7 is given at a token exactly if the count names it, and the grammar alone comes past it: "between 5 and 7 the earlier token
-- decides", and where the grammar alone refuses a token, with 5, it is `reached (alone ts)`
abbrev pub Counted : Type 0
Counted = (ts : List Content) (u : ℕ) → program ts ≡ no 7 0 u ↔ (too_many ts ≡ some u) × (u < reached (alone ts))

-- where the grammar alone refuses no token, exactly if the count names it
abbrev pub CountedInPrograms : Type 0
CountedInPrograms =
    (ts : List Content) (ss : List Stmt) (next x u : ℕ) → alone ts ≡ ok ss next x → program ts ≡ no 7 0 u ↔ too_many ts ≡ some u

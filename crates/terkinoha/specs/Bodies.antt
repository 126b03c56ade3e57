-- Where the bodies of a string token lie in the source: what a host asks by number, or walks over one after the other.
use Rattle.std.specs.Prelude.{Option, Some, None, ℕ, ◌+◌, ◌-◌, ◌<◌, ◌≤◌, ◌≡◌, leb, length, take, drop}
use mathlib.Core.List.{List, [], ◌∷◌, ◌++◌, map, Memᴰ}
use Rattle.language.specs.Choice.{if'}
use Rattle.language.specs.Lexemes.{Kind, trivia, str, tok, error, Placed, scan_from}
use Rattle.language.specs.Tokens.{Token, string, tokens, between}
use Rattle.language.specs.Determined.{Determined}
use Rattle.terkinoha.specs.declared.Body.{Body}
use Rattle.lexemes.specs.declared.Lexeme.{Lexeme}

-- ---- the spans

pub record Span : Type 0 where
  pub start : ℕ
  pub end : ℕ

-- a literal's body is its span without the quotes
abbrev pub span_of : Kind → ℕ → ℕ → List Span
span_of trivia from to = []
span_of str from to = record { start = from + 1; end = to - 1 } ∷ []
span_of (tok t) from to = []
span_of (error e) from to = []

abbrev pub spans_of : List Placed → List Span
spans_of [] = []
spans_of (p ∷ ps) = span_of p.kind p.start p.end ++ spans_of ps

-- the bodies of the literals among the lexemes of a text from `at` on
unfoldable pub spans_from : List ℕ → ℕ → List Span
spans_from text at = spans_of (scan_from 0 at (drop at text))

-- of a source from `at` up to e; none where it has fewer than e bytes
unfoldable pub body_spans : List ℕ → ℕ → ℕ → List Span
body_spans s at e = if' (leb e (length s)) (spans_from (take e s) at) []

-- ---- the answers

abbrev pub none : Body
none = record { found = 0; start = 0; end = 0; next = 0 }

-- the first of some spans: the walk goes on past its closing quote
abbrev pub first : List Span → Body
first [] = none
first (x ∷ xs) = record { found = 1; start = x.start; end = x.end; next = x.end + 1 }

-- the first literal of a text from `at` on, from its first quote past its last
abbrev pub LiteralIs : List ℕ → ℕ → Option Lexeme → Type 0
LiteralIs text at (Some l) =
    (at ≤ l.start) × (l.start < l.end) × (l.end ≤ length text)
    × (spans_from text at ≡ record { start = l.start + 1; end = l.end - 1 } ∷ spans_from text l.end)
LiteralIs text at None = spans_from text at ≡ []

pub record FirstOf (text : List ℕ) (at : ℕ) (r : Option Lexeme) : Type 0 where
  pub is : LiteralIs text at r

-- of `terkinoha_next_body`: the first body that a source has from `at` up to e
abbrev pub NextBody : List ℕ → ℕ → ℕ → Body → Type 0
NextBody s at e r = r ≡ first (body_spans s at e)

-- of `terkinoha_body_at`: body i of those from `start` up to e
abbrev pub BodyAt : List ℕ → ℕ → ℕ → ℕ → Body → Type 0
BodyAt s start e i r = r ≡ first (drop i (body_spans s start e))

-- ---- the claims

-- a string token's bodies are what lies there, in order
abbrev pub BodiesLie : Type 0
BodiesLie =
    (s : List ℕ) (t : Token) (b : List ℕ) (bs : List (List ℕ)) → Memᴰ t (tokens s) → t.content ≡ string b bs
    → map (λ x. between s x.start x.end) (body_spans s t.start t.end) ≡ b ∷ bs

-- a walk that goes on where an answer says meets the bodies that are left
abbrev pub WalkGoesOn : Type 0
WalkGoesOn =
    (s : List ℕ) (at e : ℕ) (x : Span) (xs : List Span) → body_spans s at e ≡ x ∷ xs → body_spans s (first (x ∷ xs)).next e ≡ xs

-- two results that satisfy a call's promise are equal: `terkinoha_next_body` and `terkinoha_body_at`
abbrev pub BodiesDetermined : Type 0
BodiesDetermined =
    ((s : List ℕ) (at e : ℕ) → Determined (NextBody s at e)) × ((s : List ℕ) (start e i : ℕ) → Determined (BodyAt s start e i))

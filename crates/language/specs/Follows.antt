-- The token that is refused (01, "Numbers handed back"): 5 is "`UnexpectedToken` or the parser's `IntOutOfRange`", at "that
-- token". No program starts with the tokens up to it, whatever comes after it.
use Rattle.std.specs.Prelude.{ℕ, ◌-◌, ◌≤◌, ◌≡◌, true, List, get_or}
use Rattle.language.specs.Lexemes.{colon, ipv4_literal}
use Rattle.language.specs.Tokens.{Content, eof, plain}
use Rattle.language.specs.Sentences.{too_large, port_of, no, is, program}
use Rattle.language.specs.Bounds.{alone}

-- where the grammar without bounds refuses the token t, it refuses that token of every list that has the same tokens up to t: it
-- cannot follow those before it
abbrev pub NoneFollows : Type 0
NoneFollows =
    (ts us : List Content) (n k t : ℕ) → alone ts ≡ no n k t → ((i : ℕ) → i ≤ t → get_or us i eof ≡ get_or ts i eof) → alone us ≡ no n k t

-- a quad, `:` and a decimal over 65,535, which is the token t
abbrev pub PortOver : List Content → ℕ → Type 0
PortOver ts t =
    (is ts (t - 2) (plain (ipv4_literal 0)) ≡ true) × (is ts (t - 1) (plain colon) ≡ true) × (port_of (get_or ts t eof) ≡ too_large)

-- "Number 5 names which of its two kinds it is": the second exactly where the token is such a port
abbrev pub KindNamed : Type 0
KindNamed = (ts : List Content) (k t : ℕ) → program ts ≡ no 5 k t → (k ≡ 2 → PortOver ts t) × (PortOver ts t → k ≡ 2)

-- The theorems on canonical text (`RoundTrip`, `OwnText`, `SameText`, `TextParsed`, `TextChecked` of the crate `language`), said
-- of what calls of canonicalise, lex, parse and check answer and leave.
use Rattle.std.specs.Prelude.{ℕ, ◌+◌, ◌*◌, ◌/◌, ◌≤◌, ◌≡◌, length, get_or, take}
use mathlib.Core.List.{List, Memᴰ}
use Rattle.table.specs.Table.{pad_to, tabled}
use Rattle.language.specs.Tables.{token_width}
use Rattle.language.specs.Tokens.{tokens, contents, between}
use Rattle.language.specs.Canonical.{text, Fits}
use Rattle.language.specs.Judgements.{Diag}
use Rattle.language.specs.Findings.{diag_row, diag_width, Row, stmt_row, stmt_width}
use Rattle.language.specs.Numbers.{token_of}
use Rattle.language.specs.Checks as checks
use Rattle.language.specs.Checks.{SameFinding}
use Rattle.lex.specs.declared.Lexed.{Lexed}
use Rattle.lex.specs.Entry.{LexSource}
use Rattle.lex.specs.Lexing.{body_at}
use Rattle.parse.specs.declared.ParseAnswer.{ParseAnswer}
use Rattle.parse.specs.Entry.{ParseSource}
use Rattle.canon.specs.declared.Canonised.{Canonised}
use Rattle.canon.specs.Entry.{CanonSource}
use Rattle.checker.specs.declared.CheckAnswer.{CheckAnswer}
use Rattle.checker.specs.Entry.{CheckSource}

-- a call that answered 0
abbrev pub Done : Canonised → Type 0
Done r = r.verdict.number ≡ 0

-- the text that it left: as many bytes of the lent text as it counted
abbrev pub text_left : Canonised → List ℕ → List ℕ
text_left r left = take r.bytes left

-- ---- rows of two token tables

-- where the token of a row starts and ends
abbrev pub start_at : List ℕ → ℕ → ℕ
start_at toks row = get_or toks (row + 3) 0

abbrev pub end_at : List ℕ → ℕ → ℕ
end_at toks row = get_or toks (row + 4) 0

-- the same token, its place aside, in the table a of s and the table b of u: the same kind and value; of a name (13) the same
-- bytes too, and of a string (16) the same bodies, as `string_body` gives them
pub record SameRow (s u a b : List ℕ) (row : ℕ) : Type 0 where
  pub kind : get_or a row 0 ≡ get_or b row 0
  pub low : get_or a (row + 5) 0 ≡ get_or b (row + 5) 0
  pub high : get_or a (row + 6) 0 ≡ get_or b (row + 6) 0
  pub name : get_or a row 0 ≡ 13 → between s (start_at a row) (end_at a row) ≡ between u (start_at b row) (end_at b row)
  pub bodies : get_or a row 0 ≡ 16 → (i : ℕ) → body_at s (start_at a row) (end_at a row) i ≡ body_at u (start_at b row) (end_at b row) i

-- all rows of both tables
abbrev pub SameRows : List ℕ → List ℕ → List ℕ → List ℕ → Type 0
SameRows s u a b = (i : ℕ) → SameRow s u a b (token_width * i)

-- ---- what two calls of check leave

-- the tables w and h of the source u, and v and g of the source s (of diagnostics, d words, and of statements, k words), hold
-- the same in the same order, places aside, names and string bodies compared by their bytes: they have the rows of one list of
-- findings and of one list of statements, as many as fit, and each of these says the same in both sources
pub record SameLeft (u s : List ℕ) (d k : ℕ) (w v h g : List ℕ) : Type 0 where
  pub found : List Diag
  pub held : List Row
  pub diags : (w ≡ tabled (diag_row (token_of u)) diag_width d found) × (v ≡ tabled (diag_row (token_of s)) diag_width d found)
  pub stmts : (h ≡ tabled (stmt_row (token_of u)) stmt_width k held) × (g ≡ tabled (stmt_row (token_of s)) stmt_width k held)
  pub finding : (c : Diag) → Memᴰ c found → SameFinding u s c
  pub statement : (c : Row) → Memᴰ c held → checks.SameStatement u s c

-- ---- the claims

-- a call answers 0 exactly for a source that lexes, whose tokens fit their room and whose text fits its own and 65,536 bytes;
-- what it leaves is that text
abbrev pub DoneExactly : Type 0
DoneExactly =
    (source : List ℕ) (t n : ℕ) (r : Canonised) (toks left : List ℕ) → CanonSource source t n r toks left
    → (Done r → Fits source × (length (tokens source) ≤ t / token_width) × (length (text source) ≤ n)
    × (text_left r left ≡ text source))
    × (Fits source × (length (tokens source) ≤ t / token_width) × (length (text source) ≤ n) → Done r)

-- lexing that text into a table of any size with room for as many tokens answers 0 and the same count: its contents are those
-- of the source, and the rows of both tables are the same, places aside
abbrev pub TextLexes : Type 0
TextLexes =
    (source : List ℕ) (t n : ℕ) (r : Canonised) (toks left : List ℕ) → CanonSource source t n r toks left → Done r
    → (k : ℕ) (q : Lexed) (table : List ℕ) → LexSource (text_left r left) k q table → r.tokens ≤ k / token_width
    → (q.verdict.number ≡ 0) × (q.tokens ≡ r.tokens) × (contents (tokens (text_left r left)) ≡ contents (tokens source))
    × SameRows source (text_left r left) toks table

-- canonicalising that text with any rooms for as many tokens and bytes answers the same, and leaves the same text, with zeros
-- after it
abbrev pub TextStays : Type 0
TextStays =
    (source : List ℕ) (t n : ℕ) (r : Canonised) (toks left : List ℕ) → CanonSource source t n r toks left → Done r
    → (k m : ℕ) (q : Canonised) (table kept : List ℕ) → CanonSource (text_left r left) k m q table kept
    → r.tokens ≤ k / token_width → r.bytes ≤ m → (q ≡ r) × (kept ≡ pad_to m (text_left r left))

-- two calls, with any rooms, leave the same text exactly when their sources have the same contents
abbrev pub SameTexts : Type 0
SameTexts =
    (s u : List ℕ) (t n k m : ℕ) (r q : Canonised) (a b x y : List ℕ) → CanonSource s t n r a x → CanonSource u k m q b y
    → Done r → Done q
    → (text_left r x ≡ text_left q y → contents (tokens s) ≡ contents (tokens u))
    × (contents (tokens s) ≡ contents (tokens u) → text_left r x ≡ text_left q y)

-- they do so exactly when they leave as many rows, and the same, places aside
abbrev pub SameTables : Type 0
SameTables =
    (s u : List ℕ) (t n k m : ℕ) (r q : Canonised) (a b x y : List ℕ) → CanonSource s t n r a x → CanonSource u k m q b y
    → Done r → Done q
    → (text_left r x ≡ text_left q y → (r.tokens ≡ q.tokens) × SameRows s u a b)
    × ((r.tokens ≡ q.tokens) × SameRows s u a b → text_left r x ≡ text_left q y)

-- parsing that text and its source with the same rooms, which need not be those that canonicalise had, leaves the same nodes,
-- and answers the same number, kind and counts, a refusal too
abbrev pub TextParses : Type 0
TextParses =
    (source : List ℕ) (t n : ℕ) (r : Canonised) (toks left : List ℕ) → CanonSource source t n r toks left → Done r
    → (k m : ℕ) (p q : ParseAnswer) (a b x y : List ℕ) → ParseSource source k m p a x → ParseSource (text_left r left) k m q b y
    → (y ≡ x) × (q.verdict.number ≡ p.verdict.number) × (q.verdict.kind ≡ p.verdict.kind) × (q.tokens ≡ p.tokens)
    × (q.nodes ≡ p.nodes)

-- demand 3, its last sentence: checking that text and its source with the same rooms, again any, "gives the same answer
-- (refusals too, with the same number and kind), the same counts, and the same diagnostics and statements in the same order";
-- it leaves the same nodes
abbrev pub TextChecks : Type 0
TextChecks =
    (source : List ℕ) (t n : ℕ) (r : Canonised) (toks left : List ℕ) → CanonSource source t n r toks left → Done r
    → (j m d k : ℕ) (p q : CheckAnswer) (a b x y v w g h : List ℕ)
    → CheckSource source j m d k p a x v g → CheckSource (text_left r left) j m d k q b y w h
    → (y ≡ x) × (q.verdict.number ≡ p.verdict.number) × (q.verdict.kind ≡ p.verdict.kind) × (q.tokens ≡ p.tokens)
    × (q.nodes ≡ p.nodes) × (q.errors ≡ p.errors) × (q.warnings ≡ p.warnings) × (q.statements ≡ p.statements)
    × (q.comparisons ≡ p.comparisons)
    × SameLeft (text_left r left) source d k w v h g

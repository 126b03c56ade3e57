-- Rooms that are always enough: a host that lends them is never refused for room. First of the answers, then of the C calls.
use Rattle.std.specs.Prelude.{ℕ, ◌+◌, ◌/◌, ◌≤◌, ◌<◌, ◌≡◌, List, length}
use Rattle.language.specs.Canonical.{text}
use Rattle.language.specs.Tables.{lexeme_width, token_width}
use Rattle.language.specs.Sentences.{node_width}
use Rattle.language.specs.Findings.{stmt_width}
use Rattle.language.specs.Tokens.{most_bytes}
use Rattle.language.specs.Numbers.{scan_answer, lex_answer, parse_answer, canon_answer, check_answer}
use Rattle.scan.specs.declared.Scanned.{Scanned}
use Rattle.scan.specs.Entry.{ScanLine}
use Rattle.lex.specs.declared.Lexed.{Lexed}
use Rattle.lex.specs.Entry.{LexSource}
use Rattle.parse.specs.declared.ParseAnswer.{ParseAnswer}
use Rattle.parse.specs.Entry.{ParseSource}
use Rattle.canon.specs.declared.Canonised.{Canonised}
use Rattle.canon.specs.Entry.{CanonSource}
use Rattle.checker.specs.declared.CheckAnswer.{CheckAnswer}
use Rattle.checker.specs.Entry.{CheckSource}

-- lexemes: a row for each byte of the line
abbrev pub ScanRoom : Type 0
ScanRoom = (line : List ℕ) (room : ℕ) → length line ≤ room → (scan_answer line room).verdict.number ≡ 4 → ⊥

-- tokens: a row for each byte of the source, and one for `Eof`
abbrev pub LexRoom : Type 0
LexRoom = (s : List ℕ) (room : ℕ) → length s < room → (lex_answer s room).verdict.number ≡ 4 → ⊥

-- nodes: as many rows as there are tokens. Where lexing came to a count, tables of that many rows are enough to parse ..
abbrev pub ParseRoom : Type 0
ParseRoom =
    (s : List ℕ) (room t n : ℕ) → (lex_answer s room).verdict.number ≡ 0 → (lex_answer s room).count ≤ t → (lex_answer s room).count ≤ n
    → ((parse_answer s t n).verdict.number ≡ 4 → ⊥) × ((parse_answer s t n).verdict.number ≡ 6 → ⊥)

-- .. and to canonicalise; a text of 65,536 bytes is refused only for what is longer than that
abbrev pub CanonRoom : Type 0
CanonRoom =
    (s : List ℕ) (room t n : ℕ) → (lex_answer s room).verdict.number ≡ 0 → (lex_answer s room).count ≤ t → most_bytes ≤ n
    → ((canon_answer s t n).verdict.number ≡ 4 → ⊥) × ((canon_answer s t n).verdict.number ≡ 10 → most_bytes < length (text s))

-- .. and, with as many rows for statements, to check; as many rows for diagnostics keep them all
abbrev pub CheckRoom : Type 0
CheckRoom =
    (s : List ℕ) (room t n k : ℕ) → (lex_answer s room).verdict.number ≡ 0 → (lex_answer s room).count ≤ t → (lex_answer s room).count ≤ n
    → (lex_answer s room).count ≤ k
    → let a = check_answer s t n k in
    ((a.verdict.number ≡ 4 → ⊥) × (a.verdict.number ≡ 6 → ⊥) × (a.verdict.number ≡ 11 → ⊥))
    × (a.errors + a.warnings ≤ (lex_answer s room).count)

-- ---- the same of calls, with tables of n, t, m and k words

abbrev pub ScanEnough : Type 0
ScanEnough =
    (line : List ℕ) (n : ℕ) (r : Scanned) (left : List ℕ) → ScanLine line n r left → length line ≤ n / lexeme_width
    → r.verdict.number ≡ 4 → ⊥

abbrev pub LexEnough : Type 0
LexEnough =
    (s : List ℕ) (n : ℕ) (r : Lexed) (left : List ℕ) → LexSource s n r left → length s < n / token_width
    → r.verdict.number ≡ 4 → ⊥

-- where a call of lex was done
abbrev pub ParseEnough : Type 0
ParseEnough =
    (s : List ℕ) (n : ℕ) (q : Lexed) (left : List ℕ) → LexSource s n q left → q.verdict.number ≡ 0
    → (t m : ℕ) (r : ParseAnswer) (toks tree : List ℕ) → ParseSource s t m r toks tree
    → q.tokens ≤ t / token_width → q.tokens ≤ m / node_width
    → (r.verdict.number ≡ 4 → ⊥) × (r.verdict.number ≡ 6 → ⊥)

abbrev pub CanonEnough : Type 0
CanonEnough =
    (s : List ℕ) (n : ℕ) (q : Lexed) (left : List ℕ) → LexSource s n q left → q.verdict.number ≡ 0
    → (t m : ℕ) (r : Canonised) (toks written : List ℕ) → CanonSource s t m r toks written
    → q.tokens ≤ t / token_width → most_bytes ≤ m
    → (r.verdict.number ≡ 4 → ⊥) × (r.verdict.number ≡ 10 → most_bytes < length (text s))

abbrev pub CheckEnough : Type 0
CheckEnough =
    (s : List ℕ) (n : ℕ) (q : Lexed) (left : List ℕ) → LexSource s n q left → q.verdict.number ≡ 0
    → (t m d k : ℕ) (r : CheckAnswer) (toks tree found held : List ℕ) → CheckSource s t m d k r toks tree found held
    → q.tokens ≤ t / token_width → q.tokens ≤ m / node_width → q.tokens ≤ k / stmt_width
    → ((r.verdict.number ≡ 4 → ⊥) × (r.verdict.number ≡ 6 → ⊥) × (r.verdict.number ≡ 11 → ⊥))
    × (r.errors + r.warnings ≤ q.tokens)

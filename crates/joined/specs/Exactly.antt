-- "Given exactly when" (01, "Numbers handed back"), said of what calls answer: from the contract of each entry, its verdict goes
-- by the rows of 01's table (`Exactly.antt` of the crate `language`), for its bytes and the rooms of the tables that were lent.
use Rattle.std.specs.Prelude.{ℕ, ◌/◌, List}
use Rattle.language.specs.Tables.{lexeme_width, token_width}
use Rattle.language.specs.Sentences.{node_width}
use Rattle.language.specs.Findings.{stmt_width}
use Rattle.language.specs.Exactly.{Row, Exactly, scan_rows, lex_rows, parse_rows, canon_rows, check_rows}
use Rattle.rows.specs.declared.verdict.Verdict.{Verdict}
use Rattle.scan.specs.declared.Scanned.{Scanned}
use Rattle.scan.specs.Entry.{ScanLine}
use Rattle.lex.specs.declared.Lexed.{Lexed}
use Rattle.lex.specs.Entry.{LexSource}
use Rattle.parse.specs.declared.ParseAnswer.{ParseAnswer}
use Rattle.parse.specs.Entry.{ParseSource}
use Rattle.canon.specs.declared.Canonised.{Canonised}
use Rattle.canon.specs.Entry.{CanonSource}
use Rattle.checker.specs.declared.CheckAnswer.{CheckAnswer}
use Rattle.checker.specs.Entry.{CheckSource}

-- a call's verdict, read field by field as the language's, goes by rows
abbrev pub GoesBy : Verdict → List Row → Type 0
GoesBy v rs =
    Exactly (record { number = v.number; kind = v.kind; line = v.line; column = v.column; character = v.character }) rs

-- the room of a table is how many rows fit in its words, and that of a text its bytes; diagnostics that do not fit are no refusal
abbrev pub ScanGives : Type 0
ScanGives =
    (line : List ℕ) (n : ℕ) (r : Scanned) (left : List ℕ) → ScanLine line n r left
    → GoesBy r.verdict (scan_rows line (n / lexeme_width))

abbrev pub LexGives : Type 0
LexGives =
    (source : List ℕ) (n : ℕ) (r : Lexed) (left : List ℕ) → LexSource source n r left
    → GoesBy r.verdict (lex_rows source (n / token_width))

abbrev pub ParseGives : Type 0
ParseGives =
    (source : List ℕ) (t n : ℕ) (r : ParseAnswer) (toks left : List ℕ) → ParseSource source t n r toks left
    → GoesBy r.verdict (parse_rows source (t / token_width) (n / node_width))

abbrev pub CanonGives : Type 0
CanonGives =
    (source : List ℕ) (t n : ℕ) (r : Canonised) (toks left : List ℕ) → CanonSource source t n r toks left
    → GoesBy r.verdict (canon_rows source (t / token_width) n)

abbrev pub CheckGives : Type 0
CheckGives =
    (source : List ℕ) (t n d k : ℕ) (r : CheckAnswer) (toks tree found held : List ℕ)
    → CheckSource source t n d k r toks tree found held
    → GoesBy r.verdict (check_rows source (t / token_width) (n / node_width) (k / stmt_width))

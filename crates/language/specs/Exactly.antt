-- "Given exactly when", read back (01, "Numbers handed back"): the table's rows as each call gives them, and the claims that
-- the answers of `Numbers.antt` go by them.
use Rattle.std.specs.Prelude.{ℕ, suc, ◌≤◌, ◌<◌, ◌≡◌, true, false, ◌↔◌, ◌⊎◌, eqb, length}
use mathlib.Core.List.{List, [], ◌∷◌, ◌++◌, map, Memᴰ}
use Rattle.std.proofs.Math.Option.{none, some}
use Rattle.language.specs.Utf8.{first_bad}
use Rattle.language.specs.Lexemes.{LexErrorKind, scan}
use Rattle.language.specs.Tokens.{Content, Item, wrong, Wrong, items, first_wrong, tokens, contents, place_of}
use Rattle.language.specs.Tables.{error_kind, error_char}
use Rattle.language.specs.Canonical.{text}
use Rattle.language.specs.Sentences.{Out, no, Stmt, program}
use Rattle.language.specs.Bounds.{alone, reached}
use Rattle.language.specs.Counted.{too_many}
use Rattle.language.specs.Judgements.{errors_in}
use Rattle.language.specs.Numbers.{Verdict, verdict, placed, token_place, scan_answer, lex_answer, parse_answer, parsed_nodes, canon_answer, statements_of, checked, found_by, rows_by, check_answer}
use Rattle.language.specs.Names.{FirstTooMany}
use Rattle.language.specs.Named.{NamedCall}

-- ---- "Given exactly when"

-- "source over 65,536 bytes"
abbrev pub TooLong : List ℕ → Type 0
TooLong s = 65536 < length s

-- "not well-formed UTF-8", with its "first byte, stepping by whole characters, where no well-formed one starts"
pub record NotUtf8 (s : List ℕ) : Type 0 where
  pub byte : ℕ
  pub found : first_bad s ≡ some byte

-- "a lexical error", with "the first such lexeme"
pub record WrongLexeme (s : List ℕ) : Type 0 where
  pub lexeme : Wrong
  pub found : first_wrong (items s) ≡ some lexeme

-- "tokens with `Eof` (for scan: lexemes) exceed the room"
abbrev pub TokensExceed : List ℕ → ℕ → Type 0
TokensExceed s room = room < length (tokens s)

abbrev pub LexemesExceed : List ℕ → ℕ → Type 0
LexemesExceed line room = room < length (scan line)

-- what the tokens of a source are parsed to
abbrev pub parse : List ℕ → Out (List Stmt)
parse s = program (contents (tokens s))

-- "`UnexpectedToken` or the parser's `IntOutOfRange`", which its kind says: the grammar without bounds (`alone`) refuses the token,
-- and no token before it is a list or a step too many. "Between 5 and 7 the earlier token decides"
pub record Unexpected (s : List ℕ) : Type 0 where
  pub kind : ℕ
  pub token : ℕ
  pub found : alone (contents (tokens s)) ≡ no 5 kind token
  pub earlier : (t : ℕ) → too_many (contents (tokens s)) ≡ some t → token ≤ t

-- "a 33rd open list or a 65th step": the first token that a plain count over the tokens finds to be one; and the grammar without
-- bounds comes past it
pub record OneMore (s : List ℕ) : Type 0 where
  pub token : ℕ
  pub found : too_many (contents (tokens s)) ≡ some token
  pub earlier : token < reached (alone (contents (tokens s)))

-- the numbers with which parsing stops, and their kinds: "Number 5 names which of its two kinds it is"
pub data Reason : ℕ → ℕ → Type 0 where
  unexpected_token : Reason 5 1
  int_out_of_range : Reason 5 2
  one_too_many : Reason 7 0

-- "nodes exceed the room"
abbrev pub NodesExceed : List ℕ → ℕ → Type 0
NodesExceed s room = room < length (parsed_nodes (parse s))

-- "at its `(`, a call with a named argument whose callee was judged to be a function" (02, E2)
pub record NamedArgument (s : List ℕ) : Type 0 where
  pub token : ℕ
  pub found : NamedCall (contents (tokens s)) (statements_of (parse s)) token

-- "a 513th distinct let name or 65th distinct import name, failed ones counted", with "the earlier such name"
pub record NamesExceed (s : List ℕ) : Type 0 where
  pub token : ℕ
  pub found : FirstTooMany (contents (tokens s)) (statements_of (parse s)) token

-- "canonical text exceeds its room or 65,536 bytes"
abbrev pub TextExceeds : List ℕ → ℕ → Type 0
TextExceeds s room = (room < length (text s)) ⊎ (65536 < length (text s))

-- "no errors, and statements exceed the room": "A statement takes one row; each callee, argument and operand below its outermost
-- expression takes one more, counted in 11" (02, E2)
abbrev pub StatementsExceed : List ℕ → ℕ → Type 0
StatementsExceed s room = (errors_in (found_by (checked s)) ≡ 0) × (room < length (rows_by (checked s)))

-- ---- the table

-- a number, when it is given, and what is told with it: its place, and of 3 and 5 which of its kinds it is
pub record Row : Type 1 where
  pub number : ℕ
  pub when : Type 0
  pub told : when → Verdict

abbrev pub row : (n : ℕ) (C : Type 0) → (C → Verdict) → Row
row n C f = record { number = n; when = C; told = f }

-- "0, 0"
abbrev pub bare : ℕ → Type 0 → Row
bare n C = row n C (λ _. verdict n 0 0)

-- "done"
abbrev pub done : List Row
done = bare 0 Unit ∷ []

-- "a lexical error, kind named", at the place of its lexeme's first byte; "the character of an `UnexpectedChar`", else 0
abbrev pub wrong_told : List ℕ → Wrong → Verdict
wrong_told s w =
    let p = place_of s w.at.start in
    record { number = 3; kind = error_kind w.kind; line = p.line; column = p.column; character = error_char w.kind }

-- lexing, then the parser, and then the checker: "6 only when neither 5 nor 7 holds". A call is met only where no name before it is one
-- too many: "between 8 and 9 the earlier token decides" (`NamedEarlier`: Named.antt)
abbrev pub lexing : List ℕ → ℕ → List Row
lexing s room =
    bare 1 (TooLong s)
    ∷ row 2 (NotUtf8 s) (λ h. placed 2 (place_of s h.byte))
    ∷ row 3 (WrongLexeme s) (λ h. wrong_told s h.lexeme)
    ∷ bare 4 (TokensExceed s room)
    ∷ []

abbrev pub sentences : List ℕ → ℕ → List Row
sentences s room =
    row 5 (Unexpected s) (λ h.
    let p = token_place s h.token in
    record { number = 5; kind = h.kind; line = p.line; column = p.column; character = 0 })
    ∷ row 7 (OneMore s) (λ h. placed 7 (token_place s h.token))
    ∷ bare 6 (NodesExceed s room)
    ∷ []

abbrev pub judging : List ℕ → ℕ → List Row
judging s room =
    row 8 (NamedArgument s) (λ h. placed 8 (token_place s h.token))
    ∷ row 9 (NamesExceed s) (λ h. placed 9 (token_place s h.token))
    ∷ bare 11 (StatementsExceed s room)
    ∷ []

-- "Scan gives 1, 2 and 4, with its line as line 1"
abbrev pub scan_rows : List ℕ → ℕ → List Row
scan_rows line room =
    bare 1 (TooLong line)
    ∷ row 2 (NotUtf8 line) (λ h. verdict 2 1 (suc h.byte))
    ∷ bare 4 (LexemesExceed line room)
    ∷ done

-- "Lex gives 1 to 4, parse 1 to 7, check 1 to 9 and 11, canonicalise 1 to 4 and 10"
abbrev pub lex_rows : List ℕ → ℕ → List Row
lex_rows s t = lexing s t ++ done

abbrev pub parse_rows : List ℕ → ℕ → ℕ → List Row
parse_rows s t n = lexing s t ++ sentences s n ++ done

abbrev pub check_rows : List ℕ → ℕ → ℕ → ℕ → List Row
check_rows s t n k = lexing s t ++ sentences s n ++ judging s k ++ done

abbrev pub canon_rows : List ℕ → ℕ → ℕ → List Row
canon_rows s t n = lexing s t ++ bare 10 (TextExceeds s n) ∷ done

-- ---- the claims

-- "Smaller numbers go first": what the row of n says holds, and of no row before it. So `Given 3 (lex_rows s room)` is
-- (¬ TooLong s) × ((¬ NotUtf8 s) × WrongLexeme s).
abbrev pub Given : ℕ → List Row → Type 0
Given n [] = ⊥
Given n (r ∷ rs) = elim (eqb n r.number) [ true ↦ r.when | false ↦ (¬ r.when) × Given n rs ]

-- with the number of a row comes what that row tells
abbrev pub Told : Verdict → List Row → Type 0
Told v [] = Unit
Told v (r ∷ rs) = (v.number ≡ r.number → (h : r.when) × (v ≡ r.told h)) × Told v rs

-- an answer goes by rows: it has the number of one, exactly when that one says, and tells what that one tells
pub record Exactly (v : Verdict) (rs : List Row) : Type 0 where
  pub listed : Memᴰ v.number (map (λ r. r.number) rs)
  pub given : (n : ℕ) → v.number ≡ n ↔ Given n rs
  pub told : Told v rs

abbrev pub ScanExactly : Type 0
ScanExactly = (line : List ℕ) (room : ℕ) → Exactly (scan_answer line room).verdict (scan_rows line room)

abbrev pub LexExactly : Type 0
LexExactly = (s : List ℕ) (room : ℕ) → Exactly (lex_answer s room).verdict (lex_rows s room)

abbrev pub ParseExactly : Type 0
ParseExactly = (s : List ℕ) (t n : ℕ) → Exactly (parse_answer s t n).verdict (parse_rows s t n)

abbrev pub CanonExactly : Type 0
CanonExactly = (s : List ℕ) (t n : ℕ) → Exactly (canon_answer s t n).verdict (canon_rows s t n)

abbrev pub CheckExactly : Type 0
CheckExactly = (s : List ℕ) (t n k : ℕ) → Exactly (check_answer s t n k).verdict (check_rows s t n k)

-- ---- the claims on what is found

-- "the first such lexeme": none before it is wrong; and none at all where none is found
abbrev pub WrongIsFirst : Type 0
WrongIsFirst =
    (is : List Item)
    → ((w : Wrong) → first_wrong is ≡ some w
    → (p : List Item) × (q : List Item) × (is ≡ p ++ w.at ∷ q) × (w.at.piece ≡ wrong w.kind) × (first_wrong p ≡ none))
    × (first_wrong is ≡ none → (i : Item) (e : LexErrorKind) → Memᴰ i is → i.piece ≡ wrong e → ⊥)

-- parsing stops for no other reason
abbrev pub StopsFor : Type 0
StopsFor = (ts : List Content) (n k at : ℕ) → program ts ≡ no n k at → Reason n k

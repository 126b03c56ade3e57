-- What each entry answers and leaves (01, "Numbers handed back"): one test after the other, in the order of its table.
use Rattle.std.specs.Prelude.{ℕ, suc, ◌+◌, ◌/◌, ◌≡◌, List, [], ◌∷◌, ltb, eqb, length, get_or}
use Rattle.std.proofs.Math.Option.{none, some}
use Rattle.table.specs.Table.{pad_to, tabled}
use Rattle.language.specs.Choice.{if'}
use Rattle.language.specs.Canonical.{text, Lexes, Fits}
use Rattle.language.specs.Utf8.{first_bad}
use Rattle.language.specs.Lexemes.{scan}
use Rattle.language.specs.Tables.{lexeme_row, lexeme_width, token_row, token_width, error_kind, error_char}
use Rattle.language.specs.Tokens.{most_bytes, Token, Wrong, items, first_wrong, tokens, contents, eof_token, Place, place_of}
use Rattle.language.specs.Sentences.{Out, ok, no, Stmt, Node, program, nodes, node_row, node_width}
use Rattle.language.specs.Judgements.{Diag, Held, Outcome, judged, refused, errors_in, warnings_in, judge_all}
use Rattle.language.specs.Findings.{diag_row, diag_width, Row, rows_of, stmt_row, stmt_width}

-- the number, which of its kinds it is, its place, and the character of an `UnexpectedChar`
pub record Verdict : Type 0 where
  pub number : ℕ
  pub kind : ℕ
  pub line : ℕ
  pub column : ℕ
  pub character : ℕ

-- a number with a place and no more; 0 with no place is "done"
abbrev pub verdict : ℕ → ℕ → ℕ → Verdict
verdict n l c = record { number = n; kind = 0; line = l; column = c; character = 0 }

-- ---- scan

pub record Scanned : Type 0 where
  pub verdict : Verdict
  pub count : ℕ

abbrev pub scanned : Verdict → ℕ → Scanned
scanned v n = record { verdict = v; count = n }

-- "exceed the room"
abbrev pub counted : ℕ → ℕ → Scanned
counted room n = if' (ltb room n) (scanned (verdict 4 0 0) 0) (scanned (verdict 0 0 0) n)

-- "Scan gives 1, 2 and 4, with its line as line 1; its lexical errors are rows"
unfoldable pub scan_answer : List ℕ → ℕ → Scanned
scan_answer line room =
    if' (ltb most_bytes (length line)) (scanned (verdict 1 0 0) 0)
    (elim (first_bad line) [ some at ↦ scanned (verdict 2 1 (suc at)) 0 | none ↦ counted room (length (scan line)) ])

-- a table of n words as scan leaves it: on success the lexemes, on refusal nothing, and zeros
unfoldable pub scan_table : List ℕ → ℕ → List ℕ
scan_table line n =
    tabled lexeme_row lexeme_width n (if' (eqb (scan_answer line (n / lexeme_width)).verdict.number 0) (scan line) [])

-- ---- lex

pub record Lexed : Type 0 where
  pub verdict : Verdict
  pub count : ℕ

abbrev pub lexed : Verdict → ℕ → Lexed
lexed v n = record { verdict = v; count = n }

-- "a lexical error, kind named", at the "start of the first such lexeme"
abbrev pub lexical : Wrong → Verdict
lexical w = record { number = 3; kind = error_kind w.kind; line = w.at.line; column = w.at.column; character = error_char w.kind }

abbrev pub placed : ℕ → Place → Verdict
placed n p = verdict n p.line p.column

-- "tokens with `Eof` exceed the room"
abbrev pub lexed_within : ℕ → ℕ → Lexed
lexed_within room n = if' (ltb room n) (lexed (verdict 4 0 0) 0) (lexed (verdict 0 0 0) n)

-- "Lex gives 1 to 4"
unfoldable pub lex_answer : List ℕ → ℕ → Lexed
lex_answer s room =
    if' (ltb most_bytes (length s)) (lexed (verdict 1 0 0) 0)
    (elim (first_bad s) [
      | some at ↦ lexed (placed 2 (place_of s at)) 0
      | none ↦ elim (first_wrong (items s)) [ some w ↦ lexed (lexical w) 0 | none ↦ lexed_within room (length (tokens s)) ]
    ])

-- a table of n words as lex leaves it: on success the tokens, on refusal nothing, and zeros
unfoldable pub lex_table : List ℕ → ℕ → List ℕ
lex_table s n = tabled token_row token_width n (if' (eqb (lex_answer s (n / token_width)).verdict.number 0) (tokens s) [])

-- ---- parse

pub record Parsed : Type 0 where
  pub verdict : Verdict
  pub tokens : ℕ
  pub nodes : ℕ

abbrev pub parsed : Verdict → ℕ → ℕ → Parsed
parsed v t n = record { verdict = v; tokens = t; nodes = n }

-- the place of the token with an index; past the end that of `Eof`
abbrev pub token_place : List ℕ → ℕ → Place
token_place s at = record { line = (get_or (tokens s) at (eof_token s)).line; column = (get_or (tokens s) at (eof_token s)).column }

-- "nodes exceed the room"
abbrev pub parsed_within : ℕ → ℕ → ℕ → Parsed
parsed_within room t n = if' (ltb room n) (parsed (verdict 6 0 0) 0 0) (parsed (verdict 0 0 0) t n)

-- 5 or 7 at its token, or the nodes
abbrev pub parsed_as : List ℕ → ℕ → ℕ → Out (List Stmt) → Parsed
parsed_as s room t (ok ss at x) = parsed_within room t (length (nodes ss))
parsed_as s room t (no n k at) =
    parsed (record { number = n; kind = k; line = (token_place s at).line; column = (token_place s at).column; character = 0 }) 0 0

-- "parse 1 to 7": where lexing refuses, that; "6 only when neither 5 nor 7 holds"
unfoldable pub parse_answer : List ℕ → ℕ → ℕ → Parsed
parse_answer s token_room node_room =
    let l = lex_answer s token_room in
    if' (eqb l.verdict.number 0) (parsed_as s node_room l.count (program (contents (tokens s)))) (parsed l.verdict 0 0)

abbrev pub parsed_nodes : Out (List Stmt) → List Node
parsed_nodes (ok ss at x) = nodes ss
parsed_nodes (no n k at) = []

-- the token table of t words and the node table of n words as parse leaves them
unfoldable pub parse_tokens : List ℕ → ℕ → ℕ → List ℕ
parse_tokens s t n =
    tabled token_row token_width t (if' (eqb (parse_answer s (t / token_width) (n / node_width)).verdict.number 0) (tokens s) [])

unfoldable pub parse_nodes : List ℕ → ℕ → ℕ → List ℕ
parse_nodes s t n =
    tabled node_row node_width n
    (if' (eqb (parse_answer s (t / token_width) (n / node_width)).verdict.number 0) (parsed_nodes (program (contents (tokens s)))) [])

-- ---- canonicalise

pub record Canonised : Type 0 where
  pub verdict : Verdict
  pub tokens : ℕ
  pub bytes : ℕ

abbrev pub canonised : Verdict → ℕ → ℕ → Canonised
canonised v t n = record { verdict = v; tokens = t; bytes = n }

-- "canonical text exceeds its room or 65,536 bytes"
abbrev pub canonised_within : ℕ → ℕ → ℕ → Canonised
canonised_within room t n =
    if' (ltb room n) (canonised (verdict 10 0 0) 0 0) (if' (ltb most_bytes n) (canonised (verdict 10 0 0) 0 0) (canonised (verdict 0 0 0) t n))

-- "canonicalise 1 to 4 and 10": where lexing refuses, that
unfoldable pub canon_answer : List ℕ → ℕ → ℕ → Canonised
canon_answer s token_room room =
    let l = lex_answer s token_room in
    if' (eqb l.verdict.number 0) (canonised_within room l.count (length (text s))) (canonised l.verdict 0 0)

-- the token table of t words and the text of n bytes as canonicalise leaves them
unfoldable pub canon_tokens : List ℕ → ℕ → ℕ → List ℕ
canon_tokens s t n = tabled token_row token_width t (if' (eqb (canon_answer s (t / token_width) n).verdict.number 0) (tokens s) [])

unfoldable pub canon_text : List ℕ → ℕ → ℕ → List ℕ
canon_text s t n = pad_to n (if' (eqb (canon_answer s (t / token_width) n).verdict.number 0) (text s) [])

-- ---- check

pub record Checked : Type 0 where
  pub verdict : Verdict
  pub tokens : ℕ
  pub nodes : ℕ
  pub errors : ℕ
  pub warnings : ℕ
  pub statements : ℕ
  pub comparisons : ℕ

abbrev pub refused_check : Verdict → Checked
refused_check v = record { verdict = v; tokens = 0; nodes = 0; errors = 0; warnings = 0; statements = 0; comparisons = 0 }

-- the program, its findings and the statements that it holds; nothing where it does not parse
abbrev pub statements_of : Out (List Stmt) → List Stmt
statements_of (ok ss at x) = ss
statements_of (no n k at) = []

unfoldable pub checked : List ℕ → Outcome
checked s = judge_all (contents (tokens s)) (statements_of (program (contents (tokens s))))

abbrev pub found_by : Outcome → List Diag
found_by (judged ds hs ls) = ds
found_by (refused m t) = []

abbrev pub held_by : Outcome → List Held
held_by (judged ds hs ls) = hs
held_by (refused m t) = []

-- "A statement takes one row; each callee, argument and operand below its outermost expression takes one more, counted in 11" (02, E2)
abbrev pub rows_by : Outcome → List Row
rows_by o = rows_of (held_by o)

abbrev pub looks_by : Outcome → List ℕ
looks_by (judged ds hs ls) = ls
looks_by (refused m t) = []

unfoldable pub sum : List ℕ → ℕ
sum [] = 0
sum (n ∷ ns) = n + sum ns

-- "how many binding names were compared with a wanted name" (02, E8): those of every search
unfoldable pub comparisons : List ℕ → ℕ
comparisons s = sum (looks_by (checked s))

-- "no errors, and statements exceed the room"; "if errors were counted, the statement table is all zero and its count 0"
abbrev pub checked_within : ℕ → ℕ → ℕ → List Diag → List Held → ℕ → Checked
checked_within room t n ds hs c =
    if' (eqb (errors_in ds) 0)
    (if' (ltb room (length (rows_of hs))) (refused_check (verdict 11 0 0))
    (record { verdict = verdict 0 0 0; tokens = t; nodes = n; errors = 0; warnings = warnings_in ds; statements = length (rows_of hs); comparisons = c }))
    (record { verdict = verdict 0 0 0; tokens = t; nodes = n; errors = errors_in ds; warnings = warnings_in ds; statements = 0; comparisons = c })

-- a refusal at its token, or what was judged
abbrev pub judged_within : List ℕ → ℕ → ℕ → ℕ → Outcome → Checked
judged_within s room t n (refused m at) = refused_check (placed m (token_place s at))
judged_within s room t n (judged ds hs ls) = checked_within room t n ds hs (sum ls)

-- "check 1 to 9 and 11": where parsing refuses, that. Judging goes by statements in order and stops at the first 8 or 9 that it meets:
-- "between 8 and 9 the earlier token decides" (02, E2)
unfoldable pub check_answer : List ℕ → ℕ → ℕ → ℕ → Checked
check_answer s token_room node_room stmt_room =
    let p = parse_answer s token_room node_room in
    if' (eqb p.verdict.number 0) (judged_within s stmt_room p.tokens p.nodes (checked s)) (refused_check p.verdict)

-- the token with an index; past the end `Eof`
abbrev pub token_of : List ℕ → ℕ → Token
token_of s at = get_or (tokens s) at (eof_token s)

-- a list where checking with tables of t, n and k words (of tokens, nodes and statements) is done, else nothing
abbrev pub where_done : {A : Type 0} → List ℕ → ℕ → ℕ → ℕ → List A → List A
where_done s t n k xs =
    if' (eqb (check_answer s (t / token_width) (n / node_width) (k / stmt_width)).verdict.number 0) xs []

-- the four tables, of t, n, d and k words, as check leaves them
unfoldable pub check_tokens : List ℕ → ℕ → ℕ → ℕ → List ℕ
check_tokens s t n k = tabled token_row token_width t (where_done s t n k (tokens s))

unfoldable pub check_nodes : List ℕ → ℕ → ℕ → ℕ → List ℕ
check_nodes s t n k = tabled node_row node_width n (where_done s t n k (parsed_nodes (program (contents (tokens s)))))

-- "Its first rows, as many as fit, are kept"
unfoldable pub check_diags : List ℕ → ℕ → ℕ → ℕ → ℕ → List ℕ
check_diags s t n k d = tabled (diag_row (token_of s)) diag_width d (where_done s t n k (found_by (checked s)))

unfoldable pub check_stmts : List ℕ → ℕ → ℕ → ℕ → List ℕ
check_stmts s t n k =
    tabled (stmt_row (token_of s)) stmt_width k
    (where_done s t n k (if' (eqb (errors_in (found_by (checked s))) 0) (rows_by (checked s)) []))

-- ---- the claims: parsing goes by contents alone

-- two places: none in both sources, or that of the same token in each
pub data SamePlace (s u : List ℕ) (v w : Verdict) : Type 0 where
  nowhere : v.line ≡ 0 → v.column ≡ 0 → w.line ≡ 0 → w.column ≡ 0 → SamePlace s u v w
  at_token_lem : (at : ℕ) → v.line ≡ (token_place s at).line → v.column ≡ (token_place s at).column → w.line ≡ (token_place u at).line
      → w.column ≡ (token_place u at).column → SamePlace s u v w

-- two verdicts that differ in places at most
pub record SameVerdict (s u : List ℕ) (v w : Verdict) : Type 0 where
  pub number : v.number ≡ w.number
  pub kind : v.kind ≡ w.kind
  pub place : SamePlace s u v w
  pub character : v.character ≡ w.character

-- and two answers
pub record SameParse (s u : List ℕ) (a b : Parsed) : Type 0 where
  pub verdict : SameVerdict s u a.verdict b.verdict
  pub tokens : a.tokens ≡ b.tokens
  pub nodes : a.nodes ≡ b.nodes

-- sources that lex to the same contents are parsed to the same nodes, with the same answer, places aside
abbrev pub ParsedByContents : Type 0
ParsedByContents =
    (s u : List ℕ) → Lexes s → Lexes u → contents (tokens s) ≡ contents (tokens u)
    → ((t n : ℕ) → parse_nodes s t n ≡ parse_nodes u t n) × ((t n : ℕ) → SameParse s u (parse_answer s t n) (parse_answer u t n))

-- and so is a source and its canonical text
abbrev pub TextParsed : Type 0
TextParsed =
    (s : List ℕ) → Fits s
    → ((t n : ℕ) → parse_nodes (text s) t n ≡ parse_nodes s t n) × ((t n : ℕ) → SameParse (text s) s (parse_answer (text s) t n) (parse_answer s t n))

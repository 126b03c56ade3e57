-- Rows worked out by hand from docs/TABLES.md, word by word: each kind of finding, of statement and of value once, and blanks at
-- the edges of their ranges. The order of the words, the numbers of the kinds and the two words of a number can be read here.
use Rattle.std.specs.Prelude.{ℕ, ◌≡◌, true, false, List, [], ◌∷◌, ◌++◌, map, length}
use Prim.Native.String.{String}
use Rattle.table.specs.Table.{flat}
use Rattle.language.specs.Lexemes.{is_blank}
use Rattle.language.specs.Numbers.{verdict, scan_table, lex_table, check_answer, check_nodes, check_diags, check_stmts}
use Rattle.language.specs.Samples.{bytes}

pub data Work : Type 0 where
  -- a line and the rows of its lexemes; a source and the rows of its tokens
  scans : String → List (List ℕ) → Work
  lexes : String → List (List ℕ) → Work
  -- a source, and the rows of its nodes, of what is found and of the statements that are held
  checks : String → List (List ℕ) → List (List ℕ) → List (List ℕ) → Work
  -- a source, and the rows of what is found
  finds : String → List (List ℕ) → Work
  -- and of the statements that are held
  judges : String → List (List ℕ) → List (List ℕ) → Work
  -- a source that check refuses: the number, and its place
  refuses : String → ℕ → ℕ → ℕ → Work

-- the words of rows, and a zero after them
abbrev pub words_of : List (List ℕ) → List ℕ
words_of rows = flat (λ r. r) rows ++ 0 ∷ []

abbrev pub size : List (List ℕ) → ℕ
size rows = length (words_of rows)

-- in rooms for these rows and one word more, and for 100 of the others
abbrev pub Comes : Work → Type 0
Comes (scans t rows) = scan_table (bytes t) (size rows) ≡ words_of rows
Comes (lexes t rows) = lex_table (bytes t) (size rows) ≡ words_of rows
Comes (checks t ns ds hs) =
    (check_nodes (bytes t) 700 (size ns) (size hs) ≡ words_of ns)
    × (check_diags (bytes t) 700 (size ns) (size hs) (size ds) ≡ words_of ds)
    × (check_stmts (bytes t) 700 (size ns) (size hs) ≡ words_of hs)
Comes (finds t ds) = check_diags (bytes t) 700 500 700 (size ds) ≡ words_of ds
Comes (judges t ds hs) =
    (check_diags (bytes t) 1400 1000 (size hs) (size ds) ≡ words_of ds) × (check_stmts (bytes t) 1400 1000 (size hs) ≡ words_of hs)
Comes (refuses t n l c) = (check_answer (bytes t) 200 200 0).verdict ≡ verdict n l c

-- start, end, class, kind, value
abbrev pub worked_line : Work
worked_line =
    scans "x 0x10000000000000001 true \"s\" @ 1.2.3.4" (
    (0 ∷ 1 ∷ 3 ∷ 13 ∷ 0 ∷ 0 ∷ [])
    ∷ (1 ∷ 2 ∷ 1 ∷ 0 ∷ 0 ∷ 0 ∷ [])
    ∷ (2 ∷ 21 ∷ 3 ∷ 17 ∷ 1 ∷ 1 ∷ [])
    ∷ (21 ∷ 22 ∷ 1 ∷ 0 ∷ 0 ∷ 0 ∷ [])
    ∷ (22 ∷ 26 ∷ 3 ∷ 14 ∷ 1 ∷ 0 ∷ [])
    ∷ (26 ∷ 27 ∷ 1 ∷ 0 ∷ 0 ∷ 0 ∷ [])
    ∷ (27 ∷ 30 ∷ 2 ∷ 0 ∷ 0 ∷ 0 ∷ [])
    ∷ (30 ∷ 31 ∷ 1 ∷ 0 ∷ 0 ∷ 0 ∷ [])
    ∷ (31 ∷ 32 ∷ 4 ∷ 1 ∷ 64 ∷ 0 ∷ [])
    ∷ (32 ∷ 33 ∷ 1 ∷ 0 ∷ 0 ∷ 0 ∷ [])
    ∷ (33 ∷ 40 ∷ 3 ∷ 15 ∷ 0x01020304 ∷ 0 ∷ [])
    ∷ []
    )

-- kind, line, column, start, end, value: of a string how many bodies
abbrev pub worked_tokens : Work
worked_tokens =
    lexes "let s = \"a\" # c\n\"b\" / 0x10000000000000002;" (
    (12 ∷ 1 ∷ 1 ∷ 0 ∷ 3 ∷ 0 ∷ 0 ∷ [])
    ∷ (13 ∷ 1 ∷ 5 ∷ 4 ∷ 5 ∷ 0 ∷ 0 ∷ [])
    ∷ (8 ∷ 1 ∷ 7 ∷ 6 ∷ 7 ∷ 0 ∷ 0 ∷ [])
    ∷ (16 ∷ 1 ∷ 9 ∷ 8 ∷ 19 ∷ 2 ∷ 0 ∷ [])
    ∷ (10 ∷ 2 ∷ 5 ∷ 20 ∷ 21 ∷ 0 ∷ 0 ∷ [])
    ∷ (17 ∷ 2 ∷ 7 ∷ 22 ∷ 41 ∷ 2 ∷ 1 ∷ [])
    ∷ (7 ∷ 2 ∷ 26 ∷ 41 ∷ 42 ∷ 0 ∷ 0 ∷ [])
    ∷ (1 ∷ 3 ∷ 1 ∷ 42 ∷ 42 ∷ 0 ∷ 0 ∷ [])
    ∷ []
    )

-- statements: line, column, kind, slot, form, line and column of the expression, type, where the text is, value. The value cut to 80 is 2^64 + 65616
abbrev pub worked_statements : Work
worked_statements =
    checks "import bench;\nbench::ping;\n1.2.3.4/18446744073709617232;\ntrue;\n\"x\";\nbench::BANNER;\n0.0.0.9:65535;\n0.0.0.9;\n18446744073709551615;\n300;\n" (
    (11 ∷ 1 ∷ 0 ∷ 0 ∷ 0 ∷ [])
    ∷ (1 ∷ 5 ∷ 0 ∷ 0 ∷ 0 ∷ []) ∷ (5 ∷ 3 ∷ 1 ∷ 0 ∷ 0 ∷ []) ∷ (13 ∷ 3 ∷ 2 ∷ 0 ∷ 0 ∷ [])
    ∷ (2 ∷ 7 ∷ 0 ∷ 0 ∷ 0 ∷ []) ∷ (2 ∷ 9 ∷ 0 ∷ 0 ∷ 0 ∷ []) ∷ (7 ∷ 7 ∷ 4 ∷ 5 ∷ 0 ∷ []) ∷ (13 ∷ 7 ∷ 6 ∷ 0 ∷ 0 ∷ [])
    ∷ (2 ∷ 11 ∷ 0 ∷ 0 ∷ 0 ∷ []) ∷ (13 ∷ 11 ∷ 8 ∷ 0 ∷ 0 ∷ [])
    ∷ (2 ∷ 13 ∷ 0 ∷ 0 ∷ 0 ∷ []) ∷ (13 ∷ 13 ∷ 10 ∷ 0 ∷ 0 ∷ [])
    ∷ (1 ∷ 17 ∷ 0 ∷ 0 ∷ 0 ∷ []) ∷ (5 ∷ 15 ∷ 1 ∷ 0 ∷ 0 ∷ []) ∷ (13 ∷ 15 ∷ 13 ∷ 0 ∷ 0 ∷ [])
    ∷ (3 ∷ 19 ∷ 0 ∷ 0 ∷ 0 ∷ []) ∷ (13 ∷ 19 ∷ 15 ∷ 0 ∷ 0 ∷ [])
    ∷ (2 ∷ 23 ∷ 0 ∷ 0 ∷ 0 ∷ []) ∷ (13 ∷ 23 ∷ 17 ∷ 0 ∷ 0 ∷ [])
    ∷ (2 ∷ 25 ∷ 0 ∷ 0 ∷ 0 ∷ []) ∷ (13 ∷ 25 ∷ 19 ∷ 0 ∷ 0 ∷ [])
    ∷ (2 ∷ 27 ∷ 0 ∷ 0 ∷ 0 ∷ []) ∷ (13 ∷ 27 ∷ 21 ∷ 0 ∷ 0 ∷ [])
    ∷ []
    ) (
    (2 ∷ 1 ∷ 2 ∷ 24 ∷ 2 ∷ 26 ∷ 30 ∷ 14 ∷ 0 ∷ 0 ∷ 0 ∷ 2 ∷ [])
    ∷ (3 ∷ 9 ∷ 2 ∷ 25 ∷ 0 ∷ 0 ∷ 0 ∷ 4 ∷ 65616 ∷ 1 ∷ 0 ∷ 3 ∷ [])
    ∷ (3 ∷ 1 ∷ 2 ∷ 24 ∷ 0 ∷ 0 ∷ 0 ∷ 8 ∷ 0 ∷ 0 ∷ 0 ∷ 3 ∷ [])
    ∷ (4 ∷ 1 ∷ 2 ∷ 24 ∷ 0 ∷ 0 ∷ 0 ∷ 2 ∷ 0 ∷ 0 ∷ 0 ∷ 4 ∷ [])
    ∷ (5 ∷ 1 ∷ 2 ∷ 24 ∷ 0 ∷ 0 ∷ 0 ∷ 9 ∷ 0 ∷ 0 ∷ 0 ∷ 5 ∷ [])
    ∷ (6 ∷ 1 ∷ 2 ∷ 24 ∷ 0 ∷ 0 ∷ 0 ∷ 9 ∷ 0 ∷ 0 ∷ 0 ∷ 6 ∷ [])
    ∷ (7 ∷ 1 ∷ 2 ∷ 24 ∷ 0 ∷ 0 ∷ 0 ∷ 8 ∷ 0 ∷ 0 ∷ 0 ∷ 7 ∷ [])
    ∷ (8 ∷ 1 ∷ 2 ∷ 24 ∷ 0 ∷ 0 ∷ 0 ∷ 7 ∷ 0 ∷ 0 ∷ 0 ∷ 8 ∷ [])
    ∷ (9 ∷ 1 ∷ 2 ∷ 24 ∷ 0 ∷ 0 ∷ 0 ∷ 6 ∷ 0 ∷ 0 ∷ 0 ∷ 9 ∷ [])
    ∷ (10 ∷ 1 ∷ 2 ∷ 24 ∷ 0 ∷ 0 ∷ 0 ∷ 4 ∷ 0 ∷ 0 ∷ 0 ∷ 10 ∷ [])
    ∷ []
    ) (
    (2 ∷ 1 ∷ 5 ∷ 0 ∷ 1 ∷ 2 ∷ 1 ∷ 14 ∷ 2 ∷ 26 ∷ 30 ∷ [])
    ∷ (3 ∷ 1 ∷ 5 ∷ 0 ∷ 1 ∷ 3 ∷ 1 ∷ 8 ∷ 0 ∷ 0x01020304 ∷ 80 ∷ [])
    ∷ (4 ∷ 1 ∷ 5 ∷ 0 ∷ 1 ∷ 4 ∷ 1 ∷ 2 ∷ 0 ∷ 1 ∷ 0 ∷ [])
    ∷ (5 ∷ 1 ∷ 5 ∷ 0 ∷ 1 ∷ 5 ∷ 1 ∷ 9 ∷ 1 ∷ 13 ∷ 0 ∷ [])
    ∷ (6 ∷ 1 ∷ 5 ∷ 0 ∷ 1 ∷ 6 ∷ 1 ∷ 9 ∷ 2 ∷ 24 ∷ 26 ∷ [])
    ∷ (7 ∷ 1 ∷ 5 ∷ 0 ∷ 1 ∷ 7 ∷ 1 ∷ 8 ∷ 0 ∷ 9 ∷ 65535 ∷ [])
    ∷ (8 ∷ 1 ∷ 5 ∷ 0 ∷ 1 ∷ 8 ∷ 1 ∷ 7 ∷ 0 ∷ 9 ∷ 0 ∷ [])
    ∷ (9 ∷ 1 ∷ 5 ∷ 0 ∷ 1 ∷ 9 ∷ 1 ∷ 6 ∷ 0 ∷ 18446744073709551615 ∷ 0 ∷ [])
    ∷ (10 ∷ 1 ∷ 5 ∷ 0 ∷ 1 ∷ 10 ∷ 1 ∷ 4 ∷ 0 ∷ 300 ∷ 0 ∷ [])
    ∷ []
    )

-- findings: line, column, severity, kind, where the text is, its start and end, type, three fields, statement. Each line has one
-- statement
abbrev pub worked_findings : Work
worked_findings =
    finds "x;\nlet a=1;\nlet a=2;\ntrue/a;\n9.9.9.9/\"s\";\nimport m;\ny::z;\na.z;\nimport bench;\nbench::q;\nbench::HTTP::q;\nbench::deep;\n18446744073709551616;\nimport bench;\nbench::ping.x;\n" (
    -- `UnknownName`
    (1 ∷ 1 ∷ 1 ∷ 1 ∷ 1 ∷ 0 ∷ 1 ∷ 0 ∷ 0 ∷ 0 ∷ 0 ∷ 1 ∷ [])
    -- `AlreadyBound`, first in line 2, column 5
    ∷ (3 ∷ 5 ∷ 1 ∷ 8 ∷ 1 ∷ 16 ∷ 17 ∷ 0 ∷ 2 ∷ 5 ∷ 0 ∷ 3 ∷ [])
    -- `OperandType`, left and right
    ∷ (4 ∷ 1 ∷ 1 ∷ 10 ∷ 0 ∷ 0 ∷ 0 ∷ 2 ∷ 1 ∷ 7 ∷ 1 ∷ 4 ∷ [])
    ∷ (5 ∷ 9 ∷ 1 ∷ 10 ∷ 0 ∷ 0 ∷ 0 ∷ 9 ∷ 2 ∷ 4 ∷ 1 ∷ 5 ∷ [])
    -- `UnknownModule`, `NotImported`
    ∷ (6 ∷ 8 ∷ 1 ∷ 4 ∷ 1 ∷ 49 ∷ 50 ∷ 0 ∷ 0 ∷ 0 ∷ 0 ∷ 6 ∷ [])
    ∷ (7 ∷ 1 ∷ 1 ∷ 5 ∷ 1 ∷ 52 ∷ 53 ∷ 0 ∷ 0 ∷ 0 ∷ 0 ∷ 7 ∷ [])
    -- `NoMembers` of an integer
    ∷ (8 ∷ 3 ∷ 1 ∷ 9 ∷ 0 ∷ 0 ∷ 0 ∷ 16 ∷ 0 ∷ 0 ∷ 0 ∷ 8 ∷ [])
    -- `UnknownItem` of `bench`, `NotAModule`, `NotAValue`
    ∷ (10 ∷ 8 ∷ 1 ∷ 2 ∷ 1 ∷ 84 ∷ 85 ∷ 0 ∷ 1 ∷ 0 ∷ 0 ∷ 10 ∷ [])
    ∷ (11 ∷ 8 ∷ 1 ∷ 6 ∷ 1 ∷ 94 ∷ 98 ∷ 0 ∷ 0 ∷ 0 ∷ 0 ∷ 11 ∷ [])
    ∷ (12 ∷ 8 ∷ 1 ∷ 7 ∷ 1 ∷ 110 ∷ 114 ∷ 0 ∷ 0 ∷ 0 ∷ 0 ∷ 12 ∷ [])
    -- `IntegralTooLarge`
    ∷ (13 ∷ 1 ∷ 1 ∷ 22 ∷ 0 ∷ 0 ∷ 0 ∷ 0 ∷ 0 ∷ 0 ∷ 0 ∷ 13 ∷ [])
    -- `MultipleImports`, a warning
    ∷ (14 ∷ 8 ∷ 2 ∷ 23 ∷ 1 ∷ 145 ∷ 150 ∷ 0 ∷ 0 ∷ 0 ∷ 0 ∷ 14 ∷ [])
    -- `NoMembers` of the function `ping`
    ∷ (15 ∷ 13 ∷ 1 ∷ 9 ∷ 2 ∷ 26 ∷ 30 ∷ 14 ∷ 0 ∷ 0 ∷ 0 ∷ 15 ∷ [])
    ∷ []
    )

-- the number of a statement is not that of its line: five statements, of which the second has no finding and the fourth has two
abbrev pub worked_numbers : Work
worked_numbers =
    finds "x; let a = 1;\n\nimport m; 1.2.3.4/70000; y;" (
    (1 ∷ 1 ∷ 1 ∷ 1 ∷ 1 ∷ 0 ∷ 1 ∷ 0 ∷ 0 ∷ 0 ∷ 0 ∷ 1 ∷ [])
    ∷ (3 ∷ 8 ∷ 1 ∷ 4 ∷ 1 ∷ 22 ∷ 23 ∷ 0 ∷ 0 ∷ 0 ∷ 0 ∷ 3 ∷ [])
    ∷ (3 ∷ 19 ∷ 2 ∷ 25 ∷ 0 ∷ 0 ∷ 0 ∷ 4 ∷ 70000 ∷ 0 ∷ 0 ∷ 4 ∷ [])
    ∷ (3 ∷ 11 ∷ 2 ∷ 24 ∷ 0 ∷ 0 ∷ 0 ∷ 8 ∷ 0 ∷ 0 ∷ 0 ∷ 4 ∷ [])
    ∷ (3 ∷ 26 ∷ 1 ∷ 1 ∷ 1 ∷ 40 ∷ 41 ∷ 0 ∷ 0 ∷ 0 ∷ 0 ∷ 5 ∷ [])
    ∷ []
    )

-- ---- calls (02, E2), as the Rust answers them

-- `ArgType` of a function: two functions, a parameter and a type
abbrev pub worked_arg_type : Work
worked_arg_type =
    judges "import bench;\nbench::ping(bench::ping);" (
    (2 ∷ 13 ∷ 1 ∷ 19 ∷ 2 ∷ 26 ∷ 30 ∷ 14 ∷ 7 ∷ 0 ∷ 7 ∷ 2 ∷ [])
    ∷ []) []

-- `TooManyArgs`, `TooFewArgs`, `NotCallable`, `VoidValue` of a `let` and of operands, and others: an argument that errs hides the
-- count, and what was fitted before one too many has warned
abbrev pub worked_errors : Work
worked_errors =
    judges "import bench;\nbench::ping(1.2.3.4, 5);\nbench::burst(1.2.3.4:80);\nbench::ping(1.2.3.4)(2);\nlet v = bench::mark(1);\nv;\nbench::mark(1)/2;\nbench::host(1)/bench::mark(1);\n9(bench::mark(true));\nbench::ping(1.2.3.4).x;\nbench::host(1)/bench::ping(1.2.3.4);\nbench::burst(1.2.3.4:5, 18446744073709551616);\nbench::pick(\"s\");\nbench::host(bench::pick(70000), 2, zz);\nbench::host(300, 2, 3);\n" (
    (2 ∷ 22 ∷ 1 ∷ 12 ∷ 2 ∷ 26 ∷ 30 ∷ 14 ∷ 2 ∷ 1 ∷ 0 ∷ 2 ∷ [])
    ∷ (3 ∷ 8 ∷ 1 ∷ 13 ∷ 2 ∷ 47 ∷ 52 ∷ 14 ∷ 1 ∷ 2 ∷ 0 ∷ 3 ∷ [])
    ∷ (4 ∷ 1 ∷ 1 ∷ 11 ∷ 0 ∷ 0 ∷ 0 ∷ 10 ∷ 0 ∷ 0 ∷ 0 ∷ 4 ∷ [])
    ∷ (5 ∷ 16 ∷ 1 ∷ 21 ∷ 0 ∷ 0 ∷ 0 ∷ 0 ∷ 0 ∷ 0 ∷ 0 ∷ 5 ∷ [])
    ∷ (7 ∷ 8 ∷ 1 ∷ 21 ∷ 0 ∷ 0 ∷ 0 ∷ 0 ∷ 0 ∷ 0 ∷ 0 ∷ 7 ∷ [])
    ∷ (8 ∷ 23 ∷ 1 ∷ 21 ∷ 0 ∷ 0 ∷ 0 ∷ 0 ∷ 0 ∷ 0 ∷ 0 ∷ 8 ∷ [])
    ∷ (9 ∷ 1 ∷ 1 ∷ 11 ∷ 0 ∷ 0 ∷ 0 ∷ 16 ∷ 0 ∷ 0 ∷ 0 ∷ 9 ∷ [])
    ∷ (10 ∷ 22 ∷ 1 ∷ 9 ∷ 0 ∷ 0 ∷ 0 ∷ 10 ∷ 0 ∷ 0 ∷ 0 ∷ 10 ∷ [])
    ∷ (11 ∷ 23 ∷ 1 ∷ 10 ∷ 0 ∷ 0 ∷ 0 ∷ 10 ∷ 2 ∷ 4 ∷ 1 ∷ 11 ∷ [])
    ∷ (12 ∷ 25 ∷ 1 ∷ 22 ∷ 0 ∷ 0 ∷ 0 ∷ 0 ∷ 0 ∷ 0 ∷ 0 ∷ 12 ∷ [])
    ∷ (13 ∷ 13 ∷ 1 ∷ 19 ∷ 0 ∷ 0 ∷ 0 ∷ 9 ∷ 13 ∷ 0 ∷ 4 ∷ 13 ∷ [])
    ∷ (14 ∷ 25 ∷ 2 ∷ 25 ∷ 0 ∷ 0 ∷ 0 ∷ 4 ∷ 70000 ∷ 0 ∷ 0 ∷ 14 ∷ [])
    ∷ (14 ∷ 36 ∷ 1 ∷ 1 ∷ 1 ∷ 349 ∷ 351 ∷ 0 ∷ 0 ∷ 0 ∷ 0 ∷ 14 ∷ [])
    ∷ (15 ∷ 13 ∷ 2 ∷ 25 ∷ 0 ∷ 0 ∷ 0 ∷ 3 ∷ 300 ∷ 0 ∷ 0 ∷ 15 ∷ [])
    ∷ (15 ∷ 18 ∷ 1 ∷ 12 ∷ 2 ∷ 72 ∷ 76 ∷ 14 ∷ 3 ∷ 1 ∷ 0 ∷ 15 ∷ [])
    ∷ []) []

-- a constant is cut, a value that is not known overflows, and all arguments are judged before one is fitted
abbrev pub worked_nested : Work
worked_nested =
    judges "import bench;\nbench::pick(bench::pick(70000));" (
    (2 ∷ 25 ∷ 2 ∷ 25 ∷ 0 ∷ 0 ∷ 0 ∷ 4 ∷ 70000 ∷ 0 ∷ 0 ∷ 2 ∷ [])
    ∷ (2 ∷ 13 ∷ 2 ∷ 26 ∷ 0 ∷ 0 ∷ 0 ∷ 5 ∷ 4 ∷ 0 ∷ 0 ∷ 2 ∷ [])
    ∷ (2 ∷ 1 ∷ 2 ∷ 24 ∷ 0 ∷ 0 ∷ 0 ∷ 5 ∷ 0 ∷ 0 ∷ 0 ∷ 2 ∷ [])
    ∷ []) (
    (2 ∷ 1 ∷ 5 ∷ 0 ∷ 3 ∷ 2 ∷ 8 ∷ 5 ∷ 0 ∷ 13 ∷ 1 ∷ [])
    ∷ (2 ∷ 1 ∷ 6 ∷ 0 ∷ 1 ∷ 2 ∷ 1 ∷ 14 ∷ 2 ∷ 64 ∷ 68 ∷ [])
    ∷ (2 ∷ 20 ∷ 7 ∷ 0 ∷ 3 ∷ 2 ∷ 20 ∷ 5 ∷ 0 ∷ 13 ∷ 1 ∷ [])
    ∷ (2 ∷ 13 ∷ 6 ∷ 0 ∷ 1 ∷ 2 ∷ 13 ∷ 14 ∷ 2 ∷ 64 ∷ 68 ∷ [])
    ∷ (2 ∷ 25 ∷ 7 ∷ 0 ∷ 1 ∷ 2 ∷ 25 ∷ 4 ∷ 0 ∷ 4464 ∷ 0 ∷ [])
    ∷ [])

-- an alias makes no slot
abbrev pub worked_slots : Work
worked_slots =
    judges "import bench;\nlet a = bench::pick(1); let b = a; b;" (
    (2 ∷ 36 ∷ 2 ∷ 24 ∷ 0 ∷ 0 ∷ 0 ∷ 5 ∷ 0 ∷ 0 ∷ 0 ∷ 4 ∷ [])
    ∷ []) (
    (2 ∷ 5 ∷ 1 ∷ 0 ∷ 3 ∷ 2 ∷ 16 ∷ 5 ∷ 0 ∷ 13 ∷ 1 ∷ [])
    ∷ (2 ∷ 9 ∷ 6 ∷ 0 ∷ 1 ∷ 2 ∷ 9 ∷ 14 ∷ 2 ∷ 64 ∷ 68 ∷ [])
    ∷ (2 ∷ 21 ∷ 7 ∷ 0 ∷ 1 ∷ 2 ∷ 21 ∷ 4 ∷ 0 ∷ 1 ∷ 0 ∷ [])
    ∷ (2 ∷ 36 ∷ 5 ∷ 0 ∷ 2 ∷ 2 ∷ 36 ∷ 5 ∷ 0 ∷ 0 ∷ 0 ∷ [])
    ∷ [])

-- each kind of statement; `/` of what is not known, with slots; each type of a parameter
abbrev pub worked_deeds : Work
worked_deeds =
    judges "import bench;\nlet h = bench::host(7);\nlet p = h/bench::pick(80);\nlet q = h/9;\nbench::burst(p, bench::BANNER);\nbench::burst(q, bench::ping(h));\nbench::ping(h);\nbench::pause(true);\nbench::mark(0);\nbench::mark(bench::pick(3));\nbench::burst(1.2.3.4/5, 300);\nlet f = bench::host;\nf(bench::pick(2));\n" (
    (3 ∷ 11 ∷ 2 ∷ 26 ∷ 0 ∷ 0 ∷ 0 ∷ 5 ∷ 4 ∷ 0 ∷ 0 ∷ 3 ∷ [])
    ∷ (13 ∷ 3 ∷ 2 ∷ 26 ∷ 0 ∷ 0 ∷ 0 ∷ 5 ∷ 3 ∷ 0 ∷ 0 ∷ 13 ∷ [])
    ∷ (13 ∷ 1 ∷ 2 ∷ 24 ∷ 0 ∷ 0 ∷ 0 ∷ 7 ∷ 0 ∷ 0 ∷ 0 ∷ 13 ∷ [])
    ∷ []) (
    (2 ∷ 5 ∷ 1 ∷ 0 ∷ 3 ∷ 2 ∷ 16 ∷ 7 ∷ 0 ∷ 14 ∷ 1 ∷ [])
    ∷ (2 ∷ 9 ∷ 6 ∷ 0 ∷ 1 ∷ 2 ∷ 9 ∷ 14 ∷ 2 ∷ 72 ∷ 76 ∷ [])
    ∷ (2 ∷ 21 ∷ 7 ∷ 0 ∷ 1 ∷ 2 ∷ 21 ∷ 3 ∷ 0 ∷ 7 ∷ 0 ∷ [])
    ∷ (3 ∷ 5 ∷ 1 ∷ 1 ∷ 4 ∷ 3 ∷ 9 ∷ 8 ∷ 0 ∷ 0 ∷ 0 ∷ [])
    ∷ (3 ∷ 9 ∷ 8 ∷ 0 ∷ 2 ∷ 3 ∷ 9 ∷ 7 ∷ 0 ∷ 0 ∷ 0 ∷ [])
    ∷ (3 ∷ 18 ∷ 9 ∷ 0 ∷ 3 ∷ 3 ∷ 18 ∷ 5 ∷ 0 ∷ 13 ∷ 1 ∷ [])
    ∷ (3 ∷ 11 ∷ 6 ∷ 0 ∷ 1 ∷ 3 ∷ 11 ∷ 14 ∷ 2 ∷ 64 ∷ 68 ∷ [])
    ∷ (3 ∷ 23 ∷ 7 ∷ 0 ∷ 1 ∷ 3 ∷ 23 ∷ 4 ∷ 0 ∷ 80 ∷ 0 ∷ [])
    ∷ (4 ∷ 5 ∷ 1 ∷ 2 ∷ 4 ∷ 4 ∷ 9 ∷ 8 ∷ 0 ∷ 0 ∷ 0 ∷ [])
    ∷ (4 ∷ 9 ∷ 8 ∷ 0 ∷ 2 ∷ 4 ∷ 9 ∷ 7 ∷ 0 ∷ 0 ∷ 0 ∷ [])
    ∷ (4 ∷ 11 ∷ 9 ∷ 0 ∷ 1 ∷ 4 ∷ 11 ∷ 4 ∷ 0 ∷ 9 ∷ 0 ∷ [])
    ∷ (5 ∷ 1 ∷ 2 ∷ 0 ∷ 3 ∷ 5 ∷ 8 ∷ 11 ∷ 0 ∷ 11 ∷ 2 ∷ [])
    ∷ (5 ∷ 1 ∷ 6 ∷ 0 ∷ 1 ∷ 5 ∷ 1 ∷ 14 ∷ 2 ∷ 47 ∷ 52 ∷ [])
    ∷ (5 ∷ 14 ∷ 7 ∷ 0 ∷ 2 ∷ 5 ∷ 14 ∷ 8 ∷ 0 ∷ 1 ∷ 0 ∷ [])
    ∷ (5 ∷ 17 ∷ 7 ∷ 1 ∷ 1 ∷ 5 ∷ 17 ∷ 9 ∷ 2 ∷ 24 ∷ 26 ∷ [])
    ∷ (6 ∷ 1 ∷ 2 ∷ 0 ∷ 3 ∷ 6 ∷ 8 ∷ 11 ∷ 0 ∷ 11 ∷ 2 ∷ [])
    ∷ (6 ∷ 1 ∷ 6 ∷ 0 ∷ 1 ∷ 6 ∷ 1 ∷ 14 ∷ 2 ∷ 47 ∷ 52 ∷ [])
    ∷ (6 ∷ 14 ∷ 7 ∷ 0 ∷ 2 ∷ 6 ∷ 14 ∷ 8 ∷ 0 ∷ 2 ∷ 0 ∷ [])
    ∷ (6 ∷ 24 ∷ 7 ∷ 1 ∷ 3 ∷ 6 ∷ 24 ∷ 10 ∷ 0 ∷ 7 ∷ 1 ∷ [])
    ∷ (6 ∷ 17 ∷ 6 ∷ 0 ∷ 1 ∷ 6 ∷ 17 ∷ 14 ∷ 2 ∷ 26 ∷ 30 ∷ [])
    ∷ (6 ∷ 29 ∷ 7 ∷ 0 ∷ 2 ∷ 6 ∷ 29 ∷ 7 ∷ 0 ∷ 0 ∷ 0 ∷ [])
    ∷ (7 ∷ 1 ∷ 2 ∷ 0 ∷ 3 ∷ 7 ∷ 8 ∷ 10 ∷ 0 ∷ 7 ∷ 1 ∷ [])
    ∷ (7 ∷ 1 ∷ 6 ∷ 0 ∷ 1 ∷ 7 ∷ 1 ∷ 14 ∷ 2 ∷ 26 ∷ 30 ∷ [])
    ∷ (7 ∷ 13 ∷ 7 ∷ 0 ∷ 2 ∷ 7 ∷ 13 ∷ 7 ∷ 0 ∷ 0 ∷ 0 ∷ [])
    ∷ (8 ∷ 1 ∷ 3 ∷ 0 ∷ 3 ∷ 8 ∷ 8 ∷ 12 ∷ 0 ∷ 10 ∷ 1 ∷ [])
    ∷ (8 ∷ 1 ∷ 6 ∷ 0 ∷ 1 ∷ 8 ∷ 1 ∷ 14 ∷ 2 ∷ 38 ∷ 43 ∷ [])
    ∷ (8 ∷ 14 ∷ 7 ∷ 0 ∷ 1 ∷ 8 ∷ 14 ∷ 5 ∷ 0 ∷ 1 ∷ 0 ∷ [])
    ∷ (9 ∷ 1 ∷ 4 ∷ 0 ∷ 3 ∷ 9 ∷ 8 ∷ 1 ∷ 0 ∷ 12 ∷ 1 ∷ [])
    ∷ (9 ∷ 1 ∷ 6 ∷ 0 ∷ 1 ∷ 9 ∷ 1 ∷ 14 ∷ 2 ∷ 58 ∷ 62 ∷ [])
    ∷ (9 ∷ 13 ∷ 7 ∷ 0 ∷ 1 ∷ 9 ∷ 13 ∷ 2 ∷ 0 ∷ 0 ∷ 0 ∷ [])
    ∷ (10 ∷ 1 ∷ 4 ∷ 0 ∷ 3 ∷ 10 ∷ 8 ∷ 1 ∷ 0 ∷ 12 ∷ 1 ∷ [])
    ∷ (10 ∷ 1 ∷ 6 ∷ 0 ∷ 1 ∷ 10 ∷ 1 ∷ 14 ∷ 2 ∷ 58 ∷ 62 ∷ [])
    ∷ (10 ∷ 20 ∷ 7 ∷ 0 ∷ 3 ∷ 10 ∷ 20 ∷ 5 ∷ 0 ∷ 13 ∷ 1 ∷ [])
    ∷ (10 ∷ 13 ∷ 6 ∷ 0 ∷ 1 ∷ 10 ∷ 13 ∷ 14 ∷ 2 ∷ 64 ∷ 68 ∷ [])
    ∷ (10 ∷ 25 ∷ 7 ∷ 0 ∷ 1 ∷ 10 ∷ 25 ∷ 4 ∷ 0 ∷ 3 ∷ 0 ∷ [])
    ∷ (11 ∷ 1 ∷ 2 ∷ 0 ∷ 3 ∷ 11 ∷ 8 ∷ 11 ∷ 0 ∷ 11 ∷ 2 ∷ [])
    ∷ (11 ∷ 1 ∷ 6 ∷ 0 ∷ 1 ∷ 11 ∷ 1 ∷ 14 ∷ 2 ∷ 47 ∷ 52 ∷ [])
    ∷ (11 ∷ 14 ∷ 7 ∷ 0 ∷ 1 ∷ 11 ∷ 14 ∷ 8 ∷ 0 ∷ 16909060 ∷ 5 ∷ [])
    ∷ (11 ∷ 25 ∷ 7 ∷ 1 ∷ 1 ∷ 11 ∷ 25 ∷ 4 ∷ 0 ∷ 300 ∷ 0 ∷ [])
    ∷ (13 ∷ 1 ∷ 5 ∷ 0 ∷ 3 ∷ 13 ∷ 1 ∷ 7 ∷ 0 ∷ 14 ∷ 1 ∷ [])
    ∷ (13 ∷ 1 ∷ 6 ∷ 0 ∷ 1 ∷ 13 ∷ 1 ∷ 14 ∷ 2 ∷ 72 ∷ 76 ∷ [])
    ∷ (13 ∷ 10 ∷ 7 ∷ 0 ∷ 3 ∷ 13 ∷ 10 ∷ 5 ∷ 0 ∷ 13 ∷ 1 ∷ [])
    ∷ (13 ∷ 3 ∷ 6 ∷ 0 ∷ 1 ∷ 13 ∷ 3 ∷ 14 ∷ 2 ∷ 64 ∷ 68 ∷ [])
    ∷ (13 ∷ 15 ∷ 7 ∷ 0 ∷ 1 ∷ 13 ∷ 15 ∷ 4 ∷ 0 ∷ 2 ∷ 0 ∷ [])
    ∷ [])

-- 8 is met when the callee is judged, before any argument; errors counted before do not matter
abbrev pub worked_named : Work
worked_named = refuses "import bench;\nbench::ping(zz, a: 1);" 8 2 12

abbrev pub worked_named_inside : Work
worked_named_inside = refuses "import bench;\nx;\nlet v = bench::pick(bench::host(1, b: z), y);" 8 3 32

-- 8 is not given where the callee is never judged: right of a `/` whose left errs, the value of a name that is bound, after an
-- argument that errs; nor where it is no function
abbrev pub worked_not_judged : Work
worked_not_judged =
    judges "import bench;\n\"x\"/bench::ping(a: 1);\nlet a = 1;\nlet a = bench::ping(b: 2);\nbench::ping(zz, bench::ping(c: 3));\n5(d: 4);\n" (
    (2 ∷ 1 ∷ 1 ∷ 10 ∷ 0 ∷ 0 ∷ 0 ∷ 9 ∷ 1 ∷ 7 ∷ 1 ∷ 2 ∷ [])
    ∷ (4 ∷ 5 ∷ 1 ∷ 8 ∷ 1 ∷ 52 ∷ 53 ∷ 0 ∷ 3 ∷ 5 ∷ 0 ∷ 4 ∷ [])
    ∷ (5 ∷ 13 ∷ 1 ∷ 1 ∷ 1 ∷ 87 ∷ 89 ∷ 0 ∷ 0 ∷ 0 ∷ 0 ∷ 5 ∷ [])
    ∷ (6 ∷ 1 ∷ 1 ∷ 11 ∷ 0 ∷ 0 ∷ 0 ∷ 16 ∷ 0 ∷ 0 ∷ 0 ∷ 6 ∷ [])
    ∷ []) []

-- ---- blanks

-- "Blank: U+0009 to 000D without 000A, 0020, 0085, 00A0, 1680, 2000 to 200A, 2028, 2029, 202F, 205F, 3000": those at the ends of
-- ranges, and their neighbours, which are none
abbrev pub blank : List ℕ
blank =
    0x09 ∷ 0x0B ∷ 0x0C ∷ 0x0D ∷ 0x20 ∷ 0x85 ∷ 0xA0 ∷ 0x1680 ∷ 0x2000 ∷ 0x200A ∷ 0x2028 ∷ 0x2029 ∷ 0x202F ∷ 0x205F ∷ 0x3000 ∷ []

abbrev pub not_blank : List ℕ
not_blank =
    0x08 ∷ 0x0A ∷ 0x0E ∷ 0x1F ∷ 0x21 ∷ 0x84 ∷ 0x86 ∷ 0x9F ∷ 0xA1 ∷ 0x167F ∷ 0x1681 ∷ 0x1FFF ∷ 0x200B ∷ 0x2027 ∷ 0x202A ∷ 0x202E
    ∷ 0x2030 ∷ 0x205E ∷ 0x2060 ∷ 0x2FFF ∷ 0x3001 ∷ []

-- ---- the claims

abbrev pub RowsWorked : Type 0
RowsWorked = Comes worked_line × Comes worked_tokens × Comes worked_statements × Comes worked_findings × Comes worked_numbers

abbrev pub CallsWorked : Type 0
CallsWorked =
    Comes worked_arg_type × Comes worked_errors × Comes worked_nested × Comes worked_slots × Comes worked_deeds × Comes worked_named
    × Comes worked_named_inside × Comes worked_not_judged

abbrev pub BlanksWorked : Type 0
BlanksWorked = (map is_blank blank ≡ map (λ _. true) blank) × (map is_blank not_blank ≡ map (λ _. false) not_blank)

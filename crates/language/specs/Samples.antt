-- 01's starred samples ("Samples on both sides"), one list, and the claim that the definitions come to what each says.
use Rattle.std.specs.Prelude.{ℕ, suc, ◌-◌, ◌^◌, ◌≡◌, List, [], ◌∷◌, ◌++◌, map}
use Prim.Native.Char.{code}
use Prim.Native.String.{String, [] as empty, ◌∷◌ as ◌then◌}
use Rattle.std.proofs.Math.Option.{none}
use Rattle.language.specs.Utf8.{encode}
use Rattle.language.specs.Integers.{IntType, u8, u16, u32, u64}
use Rattle.language.specs.Lexemes.{Kind, tok, error, dot, ipv4_literal, dec_literal, int_out_of_range, int_invalid_suffix, bad_ipv4_literal, scan}
use Rattle.language.specs.Tokens.{Content, between, tokens, contents}
use Rattle.language.specs.Sentences.{Stmt, program}
use Rattle.language.specs.Values.{is_sized, is_sock4, ty_int, ty_sock4}
use Rattle.language.specs.Terms.{constant, Term, atom}
use Rattle.language.specs.Judgements.{What, unknown_name, integral_too_large, discarded_value, truncated, Binding, Known, known, goes, refuses, stmt}
use Rattle.language.specs.Numbers.{Verdict, verdict, token_place, statements_of, checked, found_by, held_by, check_answer}

-- the bytes of a text
unfoldable pub bytes : String → List ℕ
bytes empty = []
bytes (c then s) = encode (code c) ++ bytes s

-- ---- what is shown

-- a lexeme's bytes and what it is
pub record Piece : Type 0 where
  pub bytes : List ℕ
  pub kind : Kind

-- something at a place
pub record At (A : Type 0) : Type 0 where
  pub line : ℕ
  pub column : ℕ
  pub it : A

abbrev pub at : {A : Type 0} → ℕ → ℕ → A → At A
at l c x = record { line = l; column = c; it = x }

-- what checking a source comes to: the answer, the findings, the statements held, and the names bound in the end, with no
-- value where their `let` failed
pub record Seen : Type 0 where
  pub verdict : Verdict
  pub findings : List (At What)
  pub held : List (At Term)
  pub bound : List Binding

abbrev pub seen : Verdict → List (At What) → List (At Term) → List Binding → Seen
seen v ds hs bs = record { verdict = v; findings = ds; held = hs; bound = bs }

-- ---- what the definitions come to

abbrev pub pieces : List ℕ → List Piece
pieces s = map (λ p. record { bytes = between s p.start p.end; kind = p.kind }) (scan s)

-- what is known after statements, the first numbered n
unfoldable pub known_after : List Content → List Stmt → ℕ → Known → Known
known_after ts [] n k = k
known_after ts (s ∷ ss) n k = elim (stmt ts n k s) [ goes k' ds hs ls ↦ known_after ts ss (suc n) k' | refuses m t ↦ k ]

-- at the place of a token
abbrev pub there : {A : Type 0} → List ℕ → ℕ → A → At A
there s t x = at (token_place s t).line (token_place s t).column x

-- the rooms of 01's check program: "2,048 tokens, 2,048 nodes, 128 diagnostics and 512 statements"
abbrev pub program_tokens : ℕ
program_tokens = 2048

abbrev pub program_nodes : ℕ
program_nodes = 2048

abbrev pub program_diags : ℕ
program_diags = 128

abbrev pub program_stmts : ℕ
program_stmts = 512

-- with those rooms
abbrev pub checking : List ℕ → Seen
checking s =
    let ts = contents (tokens s) in
    let k = known_after ts (statements_of (program ts)) 1 (known [] [] 0) in
    seen (check_answer s program_tokens program_nodes program_stmts).verdict
    (map (λ d. there s d.at d.what) (found_by (checked s)))
    (map (λ h. there s h.at h.term) (held_by (checked s)))
    k.bindings

-- ---- the samples

pub data Sample : Type 0 where
  -- a line, and its lexemes
  line : String → List Piece → Sample
  -- a source, and what checking it comes to
  source : String → Seen → Sample

abbrev pub piece : String → Kind → Piece
piece t k = record { bytes = bytes t; kind = k }

-- a line that is one lexeme
abbrev pub whole : String → Kind → Sample
whole t k = line t (piece t k ∷ [])

-- a source that is done, and binds no name
abbrev pub judges : String → List (At What) → List (At Term) → Sample
judges t ds hs = source t (seen (verdict 0 0 0) ds hs [])

-- an integer statement, with the type that it takes
abbrev pub sized : String → IntType → ℕ → Sample
sized t u n = judges t (at 1 1 (discarded_value (ty_int u)) ∷ []) (at 1 1 (atom 0 (constant (is_sized u n))) ∷ [])

-- a source that is number 5, of the kind 1, `UnexpectedToken`, or 2, `IntOutOfRange`, at a place
abbrev pub stops : String → ℕ → ℕ → ℕ → Sample
stops t k l c = source t (seen (record { number = 5; kind = k; line = l; column = c; character = 0 }) [] [] [])

abbrev pub samples : List Sample
samples =
    -- "`1.2.3.4abc`: `IPv4Literal`."
    whole "1.2.3.4abc" (error bad_ipv4_literal)
    -- "`1.2.3.4.5`: quad, dot, decimal."
    ∷ line "1.2.3.4.5" (piece "1.2.3.4" (tok (ipv4_literal 0x01020304)) ∷ piece "." (tok dot) ∷ piece "5" (tok (dec_literal 5)) ∷ [])
    -- "2^127 - 1 good, 2^127 out of range; 2^127 - 1 followed by `z`: suffix."
    ∷ whole "170141183460469231731687303715884105727" (tok (dec_literal (2 ^ 127 - 1)))
    ∷ whole "170141183460469231731687303715884105728" (error int_out_of_range)
    ∷ whole "170141183460469231731687303715884105727z" (error int_invalid_suffix)
    -- "`255;` u8, `256;` u16, `65535;` u16, `65536;` u32."
    ∷ sized "255;" u8 255
    ∷ sized "256;" u16 256
    ∷ sized "65535;" u16 65535
    ∷ sized "65536;" u32 65536
    -- "`18446744073709551615;` u64, one more `IntegralTooLarge`."
    ∷ sized "18446744073709551615;" u64 (2 ^ 64 - 1)
    ∷ judges "18446744073709551616;" (at 1 1 integral_too_large ∷ []) []
    -- "`1.2.3.4/18446744073709551696;`: `Truncated`, port 80, then `DiscardedValue`."
    ∷ judges "1.2.3.4/18446744073709551696;" (at 1 9 (truncated 18446744073709551696 (ty_int u16)) ∷ at 1 1 (discarded_value ty_sock4) ∷ [])
    (at 1 1 (atom 0 (constant (is_sock4 0x01020304 80))) ∷ [])
    -- "`1.2.3.4/bench::BIG;` after import: the same two, port 4464."
    ∷ judges "import bench;\n1.2.3.4/bench::BIG;" (at 2 9 (truncated 70000 (ty_int u16)) ∷ at 2 1 (discarded_value ty_sock4) ∷ [])
    (at 2 1 (atom 3 (constant (is_sock4 0x01020304 4464))) ∷ [])
    -- "`1.2.3.4:65536` is number 5, `1.2.3.4:0x50` too."
    ∷ stops "1.2.3.4:65536" 2 1 9
    ∷ stops "1.2.3.4:0x50" 1 1 9
    -- "`let x = x;`: one `UnknownName`, `x` failed."
    ∷ source "let x = x;" (seen (verdict 0 0 0) (at 1 9 unknown_name ∷ []) [] (record { name = bytes "x"; tok = 1; value = none } ∷ []))
    ∷ []

-- ---- the claim

-- a sample with what the definitions come to in place of what it says
abbrev pub computed : Sample → Sample
computed (line t ps) = line t (pieces (bytes t))
computed (source t c) = source t (checking (bytes t))

-- which are the same
abbrev pub SamplesHold : Type 0
SamplesHold = map computed samples ≡ samples

-- From a source to its tokens: lines, the lexemes of each, and strings that are joined (01, "The edge of the port" and
-- "Lexemes"). A token is a content beside its place: everything above speaks of contents and of a token's index.
use Rattle.std.specs.Prelude.{ℕ, zero, suc, ◌+◌, ◌-◌, ◌≤◌, ◌<◌, ◌≡◌, eqb, length, take, drop}
use mathlib.Core.List.{List, [], ◌∷◌, ◌++◌, map, Memᴰ}
use Rattle.std.proofs.Math.Option.{Option, none, some}
use Rattle.language.specs.Choice.{if'}
use Rattle.language.specs.Lexemes.{Tok, l_paren, r_paren, dot, double_colon, colon, semi_colon, equals, comma, slash, import_keyword, let_keyword, identifier, boolean_literal, ipv4_literal, hex_literal, dec_literal, LexErrorKind, Kind, trivia, str, tok, error, Placed, scan}

-- "Sizes are stated once: source 65,536 bytes"
abbrev pub most_bytes : ℕ
most_bytes = 65536

-- each takes a byte at least, and `Eof` is one more
abbrev pub most_tokens : ℕ
most_tokens = most_bytes + 1

-- ---- contents

pub data Content : Type 0 where
  eof : Content
  -- any token that a lexeme is, but a name
  plain : Tok → Content
  -- a name, by its bytes
  name : List ℕ → Content
  -- "its content here is the list of raw bodies": the first, and the others
  string : List ℕ → List (List ℕ) → Content

-- a place is a line and a column, both from 1; a span is of the source
pub record Token : Type 0 where
  pub content : Content
  pub line : ℕ
  pub column : ℕ
  pub start : ℕ
  pub end : ℕ

-- ---- lines

-- where a line starts in the source, and its bytes
pub record Line : Type 0 where
  pub start : ℕ
  pub bytes : List ℕ

abbrev pub line_at : ℕ → List ℕ → Line
line_at at bs = record { start = at; bytes = bs }

-- a byte put in front of the first line
abbrev pub onto : ℕ → ℕ → List Line → List Line
onto at b [] = line_at at (b ∷ []) ∷ []
onto at b (l ∷ ls) = line_at at (b ∷ l.bytes) ∷ ls

-- "A source is cut at each byte 10, which is dropped; the first line starts at byte 0, and a last piece that is empty is
-- no line." The list starts at the place `at` of the source.
unfoldable pub lines_from : ℕ → List ℕ → List Line
lines_from at [] = []
lines_from at (b ∷ s) = if' (eqb b 10) (line_at at [] ∷ lines_from (suc at) s) (onto at b (lines_from (suc at) s))

abbrev pub lines : List ℕ → List Line
lines s = lines_from 0 s

-- ---- the lexemes of a source

pub data Piece : Type 0 where
  gap : Piece
  body : List ℕ → Piece
  token : Content → Piece
  wrong : LexErrorKind → Piece

pub record Item : Type 0 where
  pub piece : Piece
  pub line : ℕ
  pub column : ℕ
  pub start : ℕ
  pub end : ℕ

-- a token that a lexeme is, with the bytes of its span
abbrev pub content_of : Tok → List ℕ → Content
content_of identifier bs = name bs
content_of l_paren bs = plain l_paren
content_of r_paren bs = plain r_paren
content_of dot bs = plain dot
content_of double_colon bs = plain double_colon
content_of colon bs = plain colon
content_of semi_colon bs = plain semi_colon
content_of equals bs = plain equals
content_of comma bs = plain comma
content_of slash bs = plain slash
content_of import_keyword bs = plain import_keyword
content_of let_keyword bs = plain let_keyword
content_of (boolean_literal b) bs = plain (boolean_literal b)
content_of (ipv4_literal n) bs = plain (ipv4_literal n)
content_of (hex_literal n) bs = plain (hex_literal n)
content_of (dec_literal n) bs = plain (dec_literal n)

-- a literal without its quotes
abbrev pub unquoted : List ℕ → List ℕ
unquoted bs = take (length bs - 2) (drop 1 bs)

abbrev pub piece_of : Kind → List ℕ → Piece
piece_of trivia bs = gap
piece_of str bs = body (unquoted bs)
piece_of (tok t) bs = token (content_of t bs)
piece_of (error e) bs = wrong e

-- a lexeme of the line numbered n: "Columns are byte offsets plus 1"
abbrev pub item_of : ℕ → Line → Placed → Item
item_of n l p =
    record {
      piece = piece_of p.kind (take (p.end - p.start) (drop p.start l.bytes));
      line = n;
      column = suc p.start;
      start = l.start + p.start;
      end = l.start + p.end;
    }

-- the lexemes of lines, the first numbered n
unfoldable pub items_from : ℕ → List Line → List Item
items_from n [] = []
items_from n (l ∷ ls) = map (item_of n l) (scan l.bytes) ++ items_from (suc n) ls

unfoldable pub items : List ℕ → List Item
items s = items_from 1 (lines s)

-- ---- the tokens

-- "Literals with no token between them, also across lines, are one token placed at the first": lex.rs `PendingStr`
pub record Pending : Type 0 where
  pub first : List ℕ
  pub others : List (List ℕ)
  pub line : ℕ
  pub column : ℕ
  pub start : ℕ
  pub end : ℕ

abbrev pub literal : Item → List ℕ → Pending
literal i b = record { first = b; others = []; line = i.line; column = i.column; start = i.start; end = i.end }

abbrev pub longer : Pending → Item → List ℕ → Pending
longer p i b = record { first = p.first; others = p.others ++ b ∷ []; line = p.line; column = p.column; start = p.start; end = i.end }

abbrev pub joined : Option Pending → Item → List ℕ → Pending
joined none i b = literal i b
joined (some p) i b = longer p i b

abbrev pub pending_token : Pending → Token
pending_token p = record { content = string p.first p.others; line = p.line; column = p.column; start = p.start; end = p.end }

abbrev pub flushed : Option Pending → List Token
flushed none = []
flushed (some p) = pending_token p ∷ []

abbrev pub item_token : Item → Content → Token
item_token i c = record { content = c; line = i.line; column = i.column; start = i.start; end = i.end }

-- the tokens of lexemes, after the literals that are pending; an error gives none
abbrev pub stepped : Piece → Item → Option Pending → (Option Pending → List Token) → List Token
stepped gap i p rest = rest p
stepped (body b) i p rest = rest (some (joined p i b))
stepped (token c) i p rest = flushed p ++ item_token i c ∷ rest none
stepped (wrong e) i p rest = rest p

unfoldable pub tokens_from : Option Pending → List Item → List Token
tokens_from p [] = flushed p
tokens_from p (i ∷ is) = stepped i.piece i p (λ q. tokens_from q is)

-- "`Eof` stands at (lines + 1, 1)"
abbrev pub eof_token : List ℕ → Token
eof_token s = record { content = eof; line = suc (length (lines s)); column = 1; start = length s; end = length s }

unfoldable pub tokens : List ℕ → List Token
tokens s = tokens_from none (items s) ++ eof_token s ∷ []

abbrev pub contents : List Token → List Content
contents ts = map (λ t. t.content) ts

-- ---- the first error

abbrev pub or_else : {A : Type 0} → Piece → Item → Option A → (LexErrorKind → Item → Option A) → Option A
or_else gap i o f = o
or_else (body b) i o f = o
or_else (token c) i o f = o
or_else (wrong e) i o f = f e i

pub record Wrong : Type 0 where
  pub kind : LexErrorKind
  pub at : Item

unfoldable pub first_wrong : List Item → Option Wrong
first_wrong [] = none
first_wrong (i ∷ is) = or_else i.piece i (first_wrong is) (λ e j. some (record { kind = e; at = j }))

-- ---- the place of a byte

pub record Place : Type 0 where
  pub line : ℕ
  pub column : ℕ

-- the place of the byte numbered `at` of a list whose first byte stands in line l and column c
unfoldable pub place_from : ℕ → ℕ → List ℕ → ℕ → Place
place_from l c s zero = record { line = l; column = c }
place_from l c [] (suc at) = record { line = l; column = c }
place_from l c (b ∷ s) (suc at) = if' (eqb b 10) (place_from (suc l) 1 s at) (place_from l (suc c) s at)

abbrev pub place_of : List ℕ → ℕ → Place
place_of s at = place_from 1 1 s at

-- the bytes from `at` up to e
abbrev pub between : List ℕ → ℕ → ℕ → List ℕ
between s at e = take (e - at) (drop at s)

-- ---- the claims

-- a token stands at the place of its first byte; its span is not empty and lies in the source
abbrev pub PlacesRight : Type 0
PlacesRight =
    (s : List ℕ) (t : Token) → Memᴰ t (tokens_from none (items s))
    → (t.line ≡ (place_of s t.start).line) × (t.column ≡ (place_of s t.start).column) × (t.start < t.end) × (t.end ≤ length s)

-- and so does every lexeme, also a wrong one and what is no token: "Columns are byte offsets plus 1"
abbrev pub ItemsPlaced : Type 0
ItemsPlaced =
    (s : List ℕ) (i : Item) → Memᴰ i (items s)
    → (i.line ≡ (place_of s i.start).line) × (i.column ≡ (place_of s i.start).column) × (i.start < i.end) × (i.end ≤ length s)

-- tokens stand in order: each starts where the one before it ends, or later
pub data Ordered : ℕ → List Token → Type 0 where
  ordered_none : {at : ℕ} → Ordered at []
  ordered_one : {at : ℕ} {ts : List Token} (t : Token) → at ≤ t.start → t.start ≤ t.end → Ordered t.end ts → Ordered at (t ∷ ts)

abbrev pub TokensInOrder : Type 0
TokensInOrder = (s : List ℕ) → Ordered 0 (tokens s)

-- a name's span holds its bytes
abbrev pub NamesHeld : Type 0
NamesHeld =
    (s : List ℕ) (t : Token) (bs : List ℕ) → Memᴰ t (tokens s) → t.content ≡ name bs → between s t.start t.end ≡ bs

-- the bodies of the literals among the lexemes of a list of bytes, which may hold byte 10
abbrev pub body_of : Kind → List ℕ → List (List ℕ)
body_of trivia bs = []
body_of str bs = unquoted bs ∷ []
body_of (tok t) bs = []
body_of (error e) bs = []

abbrev pub bodies_of : List ℕ → List Placed → List (List ℕ)
bodies_of text [] = []
bodies_of text (p ∷ ps) = body_of p.kind (between text p.start p.end) ++ bodies_of text ps

abbrev pub bodies_in : List ℕ → List (List ℕ)
bodies_in text = bodies_of text (scan text)

-- a string's span holds its bodies, each between its quotes
abbrev pub BodiesHeld : Type 0
BodiesHeld =
    (s : List ℕ) (t : Token) (b : List ℕ) (bs : List (List ℕ)) → Memᴰ t (tokens s) → t.content ≡ string b bs
    → bodies_in (between s t.start t.end) ≡ b ∷ bs

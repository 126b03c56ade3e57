-- How the lexer's state and its table stand for the tokens so far, and what a line does to them.
use Rattle.std.specs.Prelude as code
use Rattle.std.specs.Prelude.{Result, Ok, Err, Some, None, ℕ, zero, suc, ◌+◌, ◌≤◌, ◌≡◌, List, [], ◌∷◌, ◌++◌, map, leb, length, drop}
use Rattle.std.proofs.Math.Option.{Option, none, some}
use Rattle.language.specs.Choice.{if'}
use Rattle.table.specs.Table.{pad_to, tabled}
use Rattle.language.specs.Lexemes as language
use Rattle.language.specs.Lexemes.{scan, run, not_newline}
use Rattle.language.specs.Tables.{token_row, token_width}
use Rattle.language.specs.Tokens.{eof, lines, items, Token, line_at, Piece, gap, body, token, wrong, Item, item_of, content_of, Pending, joined, flushed, item_token, Wrong, first_wrong, Place, between, bodies_in, most_bytes}
use Rattle.language.specs.Numbers as numbers
use Rattle.rows.specs.Tokens.{tok_as}
use Rattle.rows.specs.Rows.{verdict_as}
use Rattle.rows.specs.declared.token.Tok.{Tok}
use Rattle.rows.specs.declared.verdict.Verdict.{Verdict}
use Rattle.lexemes.specs.Kinds.{error_number, error_char}
use Rattle.lex.specs.declared.PendingStr.{PendingStr}
use Rattle.lex.specs.declared.Lexer.{Lexer}
use Rattle.lex.specs.declared.Loc.{Loc}
use Rattle.lex.specs.declared.LexError.{LexError}
use Rattle.lex.specs.declared.LexError.TheVariants.{TooLong, NotUtf8, Lexical, TokenRoom}
use Rattle.lex.specs.declared.Lexed.{Lexed}

-- ---- refusals

-- the numbers of a refusal
abbrev pub verdict_of : LexError → Verdict
verdict_of TooLong = verdict_as (numbers.verdict 1 0 0)
verdict_of (NotUtf8 p) = record { number = 2; kind = 0; line = p.line; column = p.column; character = 0 }
verdict_of (Lexical e p) = record { number = 3; kind = error_number e; line = p.line; column = p.column; character = error_char e }
verdict_of TokenRoom = verdict_as (numbers.verdict 4 0 0)

-- ---- the state

-- the tokens that are whole, and the literals that wait
pub record State : Type 0 where
  pub done : List Token
  pub pending : Option Pending

abbrev pub begun : State
begun = record { done = []; pending = none }

abbrev pub stated : List Token → Option Pending → State
stated ts p = record { done = ts; pending = p }

-- the literals that wait become a token
abbrev pub flushed_state : State → State
flushed_state s = stated (s.done ++ flushed s.pending) none

-- one lexeme more
abbrev pub step_to : Piece → Item → State → State
step_to gap i s = s
step_to (body b) i s = stated s.done (some (joined s.pending i b))
step_to (token c) i s = stated ((s.done ++ flushed s.pending) ++ item_token i c ∷ []) none
step_to (wrong e) i s = s

unfoldable pub feed : State → List Item → State
feed s [] = s
feed s (i ∷ is) = feed (step_to i.piece i s) is

-- ---- the code's state

-- how many literals wait
abbrev pub waiting : code.Option PendingStr → ℕ
waiting None = 0
waiting (Some p) = p.others + 1

abbrev pub PendingIs : code.Option PendingStr → Option Pending → Type 0
PendingIs None none = Unit {0}
PendingIs (Some p) none = ⊥
PendingIs None (some q) = ⊥
PendingIs (Some p) (some q) =
    (p.line ≡ q.line) × (p.column ≡ q.column) × (p.start ≡ q.start) × (p.end ≡ q.end) × (p.others ≡ length q.others)

-- a lexer and a table hold a state
pub record Holds (x : Lexer) (table : List ℕ) (s : State) : Type 0 where
  pub rows : table ≡ tabled token_row token_width (length table) s.done
  pub counted : x.count ≡ length s.done
  pub waits : PendingIs x.pending s.pending

-- ---- what the steps do to it, for every state that was held before

-- an item stands in the line numbered n, which starts at `start` of the source, from `from` up to `to`
pub record Stands (n start from to : ℕ) (i : Item) : Type 0 where
  pub line : i.line ≡ n
  pub column : i.column ≡ from + 1
  pub begins : i.start ≡ start + from
  pub ends : i.end ≡ start + to

-- a literal is joined with those that wait
pub record Strings (x : Lexer) (start from to : ℕ) (y : Lexer) : Type 0 where
  pub lines : y.lno ≡ x.lno
  pub count : y.count ≡ x.count
  pub bodies : waiting y.pending ≡ waiting x.pending + 1
  pub waits : (q : Option Pending) (i : Item) (b : List ℕ) → Stands x.lno start from to i → PendingIs x.pending q → PendingIs y.pending (some (joined q i b))

-- the literals that wait become a token
pub record Flushes (x : Lexer) (t : List ℕ) (y : Lexer) (u : List ℕ) : Type 0 where
  pub lines : y.lno ≡ x.lno
  pub count : y.count ≤ x.count + waiting x.pending
  pub bodies : y.pending ≡ None
  pub size : length u ≡ length t
  pub holds : (s : State) → Holds x t s → Holds y u (flushed_state s)

-- and a token comes after them
pub record Tokens (x : Lexer) (t : List ℕ) (start from to : ℕ) (k : Tok) (y : Lexer) (u : List ℕ) : Type 0 where
  pub lines : y.lno ≡ x.lno
  pub count : y.count ≤ x.count + waiting x.pending + 1
  pub bodies : y.pending ≡ None
  pub size : length u ≡ length t
  pub holds : (s : State) (i : Item) (l : language.Tok) (bs : List ℕ) → k ≡ tok_as l → Stands x.lno start from to i → Holds x t s
      → Holds y u (step_to (token (content_of l bs)) i s)

-- ---- lines

-- the lexemes of the line numbered n, which starts at a place of the source
abbrev pub line_items : ℕ → ℕ → List ℕ → List Item
line_items n at line = map (item_of n (line_at at line)) (scan line)

-- few tokens before the place `at` of a source, and few lines
pub record Few (x : Lexer) (at : ℕ) : Type 0 where
  pub lines : x.lno ≤ at + 1
  pub tokens : x.count + waiting x.pending ≤ at
  pub short : at ≤ most_bytes

-- what feeding lexemes up to a place came to: it goes on with the state after all of them, or stops at the first error
abbrev pub FedIs : Result Lexer LexError → List ℕ → State → Option Wrong → Type 0
FedIs (Ok x) table s w = (w ≡ none) × Holds x table s
FedIs (Err e) table s w = (o : Wrong) × (w ≡ some o) × (verdict_of e ≡ verdict_as (numbers.lexical o))

abbrev pub GoesFew : Result Lexer LexError → ℕ → ℕ → Type 0
GoesFew (Ok x) n at = (x.lno ≡ n) × (x.count + waiting x.pending ≤ at)
GoesFew (Err e) n at = Unit {0}

pub record Feeds (x : Lexer) (t : List ℕ) (r : Result Lexer LexError) (u : List ℕ) (n at : ℕ) (is : List Item) : Type 0 where
  pub size : length u ≡ length t
  pub few : GoesFew r n at
  pub fed : (s : State) → Holds x t s → FedIs r u (feed s is) (first_wrong is)

-- where the line ends that starts at a place
abbrev pub line_end : List ℕ → ℕ → ℕ
line_end s at = at + run not_newline (drop at s)

-- the whole source, fed to a new lexer and a table of zeros
pub record FeedsAll (t : List ℕ) (r : Result Lexer LexError) (u s : List ℕ) : Type 0 where
  pub size : length u ≡ length t
  pub few : GoesFew r (length (lines s)) (length s)
  pub fed : t ≡ pad_to (length t) [] → FedIs r u (feed begun (items s)) (first_wrong (items s))

-- the literals that wait and `Eof` come last
pub record Finishes (x : Lexer) (t : List ℕ) (all : ℕ) (y : Lexer) (u : List ℕ) : Type 0 where
  pub size : length u ≡ length t
  pub holds : (s : State) (e : Token) → e ≡ record { content = eof; line = x.lno + 1; column = 1; start = all; end = all }
      → Holds x t s → Holds y u (stated ((flushed_state s).done ++ e ∷ []) none)

-- ---- places and answers

abbrev pub loc_as : Place → Loc
loc_as p = record { line = p.line; column = p.column }

abbrev pub lexed_as : numbers.Lexed → Lexed
lexed_as a = record { verdict = verdict_as a.verdict; tokens = a.count }

-- ---- bodies of a string

abbrev pub nth : ℕ → List (List ℕ) → List ℕ
nth i [] = []
nth zero (b ∷ bs) = b
nth (suc i) (b ∷ bs) = nth i bs

-- the body numbered i of the string token that spans the source from a place up to e; nothing where there is none
unfoldable pub body_at : List ℕ → ℕ → ℕ → ℕ → List ℕ
body_at s at e i = if' (leb e (length s)) (if' (leb at e) (nth i (bodies_in (between s at e))) []) []

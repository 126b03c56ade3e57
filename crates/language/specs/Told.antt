-- What rows tell: equal rows mean equal lexemes, tokens, findings and statements, as `NodesDetermine` (Sentences.antt) says of
-- nodes. So no two kinds, types or sides have one number, and nothing that a value has is left out.
use Rattle.std.specs.Prelude.{ℕ, ◌<◌, ◌≡◌, length, get_or}
use mathlib.Core.List.{List, [], ◌∷◌, map, Memᴰ}
use Rattle.std.proofs.Math.Option.{none, some}
use Rattle.language.specs.Lexemes.{Placed}
use Rattle.language.specs.Tokens.{Token, tokens, between, bodies_in}
use Rattle.language.specs.Tables.{lexeme_row, token_row}
use Rattle.language.specs.Values.{Value, is_integer, is_bool, is_sized, is_ip4, is_sock4, is_string, is_text, is_function, Ty, ty_void, ty_bool, ty_int, ty_ip4, ty_sock4, ty_bytes, ty_pkt, ty_pkt_gen, ty_time_jump, ty_function, ty_integer, entry_at}
use Rattle.language.specs.Terms.{Atom, constant, slot, Term, atom, called, divided, Terms, no_more, more, function_of}
use Rattle.language.specs.Judgements.{What, unknown_name, unknown_item, unknown_module, not_imported, not_a_module, not_a_value, already_bound, no_members, operand_type, not_callable, too_many_args, too_few_args, arg_type, void_value, integral_too_large, multiple_imports, discarded_value, truncated, overflow, Diag, Held}
use Rattle.language.specs.Findings.{diag_row, rows_of, stmt_row}
use Rattle.language.specs.Numbers.{token_of, checked, found_by, held_by}

-- ---- lexemes and tokens

abbrev pub LexemesDetermine : Type 0
LexemesDetermine = (p q : Placed) → lexeme_row p ≡ lexeme_row q → p ≡ q

-- of one source, where names and bodies lie
abbrev pub TokensDetermine : Type 0
TokensDetermine =
    (s : List ℕ) (t u : Token) → Memᴰ t (tokens s) → Memᴰ u (tokens s) → token_row t ≡ token_row u → t ≡ u

-- a string's row counts the bodies in its span
abbrev pub BodiesCounted : Type 0
BodiesCounted =
    (s : List ℕ) (t : Token) → Memᴰ t (tokens s) → get_or (token_row t) 0 0 ≡ 16
    → get_or (token_row t) 5 0 ≡ length (bodies_in (between s (get_or (token_row t) 3 0) (get_or (token_row t) 4 0)))

-- ---- findings and statements, which name tokens

-- the first n tokens stand at different places
abbrev pub Apart : (ℕ → Token) → ℕ → Type 0
Apart token_at n =
    (i j : ℕ) → i < n → j < n → (token_at i).line ≡ (token_at j).line → (token_at i).column ≡ (token_at j).column → i ≡ j

-- those of a source do
abbrev pub TokensApart : Type 0
TokensApart = (s : List ℕ) → Apart (token_of s) (length (tokens s))

-- a function is one of the constant table's
abbrev pub RealTy : Ty → Type 0
RealTy ty_void = Unit
RealTy ty_bool = Unit
RealTy (ty_int t) = Unit
RealTy ty_ip4 = Unit
RealTy ty_sock4 = Unit
RealTy ty_bytes = Unit
RealTy ty_pkt = Unit
RealTy ty_pkt_gen = Unit
RealTy ty_time_jump = Unit
RealTy (ty_function k) = (entry_at k).value ≡ some (is_function k)
RealTy ty_integer = Unit

-- the types that a number tells: all but functions
abbrev pub PlainTy : Ty → Type 0
PlainTy t = function_of t ≡ none

abbrev pub RealValue : Value → Type 0
RealValue (is_integer n) = Unit
RealValue (is_bool b) = Unit
RealValue (is_sized t n) = Unit
RealValue (is_ip4 n) = Unit
RealValue (is_sock4 n p) = Unit
RealValue (is_string t) = Unit
RealValue (is_text a b) = Unit
RealValue (is_function k) = (entry_at k).value ≡ some (is_function k)

-- what a finding tells is of the first n tokens, and of entries of the table; what is wanted is no function
abbrev pub RealWhat : ℕ → What → Type 0
RealWhat n unknown_name = Unit
RealWhat n (unknown_item m) = Unit
RealWhat n unknown_module = Unit
RealWhat n not_imported = Unit
RealWhat n not_a_module = Unit
RealWhat n not_a_value = Unit
RealWhat n (already_bound t) = t < n
RealWhat n (no_members t) = RealTy t
RealWhat n (operand_type s t u) = PlainTy t × RealTy u
RealWhat n (not_callable t) = RealTy t
RealWhat n (too_many_args f a b) = RealTy (ty_function f)
RealWhat n (too_few_args f a b) = RealTy (ty_function f)
RealWhat n (arg_type f i t u) = PlainTy t × RealTy u
RealWhat n void_value = Unit
RealWhat n integral_too_large = Unit
RealWhat n multiple_imports = Unit
RealWhat n (discarded_value t) = RealTy t
RealWhat n (truncated m t) = RealTy t
RealWhat n (overflow t u) = RealTy t × PlainTy u

abbrev pub FindingsDetermine : Type 0
FindingsDetermine =
    (token_at : ℕ → Token) (n : ℕ) → Apart token_at n → (d e : Diag) → d.at < n → e.at < n → RealWhat n d.what → RealWhat n e.what
    → diag_row token_at d ≡ diag_row token_at e → d ≡ e

-- an expression stands at the first n tokens, and so do its parts; a slot holds no function
abbrev pub RealAtom : Atom → Type 0
RealAtom (constant v) = RealValue v
RealAtom (slot s t) = PlainTy t

abbrev mutual
  pub RealTerm : ℕ → Term → Type 0
  RealTerm n (atom p a) = (p < n) × RealAtom a
  RealTerm n (called p c f vs) = (p < n) × RealTerm n c × RealTerms n vs
  RealTerm n (divided p a b) = (p < n) × RealTerm n a × RealTerm n b

  pub RealTerms : ℕ → Terms → Type 0
  RealTerms n no_more = Unit
  RealTerms n (more v vs) = RealTerm n v × RealTerms n vs

abbrev pub RealHeld : ℕ → List Held → Type 0
RealHeld n [] = Unit
RealHeld n (h ∷ hs) = (h.at < n) × RealTerm n h.term × RealHeld n hs

-- the rows determine the statements
abbrev pub StatementsDetermine : Type 0
StatementsDetermine =
    (token_at : ℕ → Token) (n : ℕ) → Apart token_at n → (hs gs : List Held) → RealHeld n hs → RealHeld n gs
    → map (stmt_row token_at) (rows_of hs) ≡ map (stmt_row token_at) (rows_of gs) → hs ≡ gs

-- what is found and held in a source is so
abbrev pub CheckedReal : Type 0
CheckedReal =
    (s : List ℕ)
    → ((d : Diag) → Memᴰ d (found_by (checked s)) → (d.at < length (tokens s)) × RealWhat (length (tokens s)) d.what)
    × RealHeld (length (tokens s)) (held_by (checked s))

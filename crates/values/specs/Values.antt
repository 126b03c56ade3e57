-- How a term's words stand for what an expression comes to, and what is shown of one.
use Rattle.std.specs.Prelude as prelude
use Rattle.std.specs.Prelude.{ℕ, ◌+◌, ◌*◌, ◌≡◌, Bool, ◌&&◌, ◌||◌, List, eqb, leb, Result, Some, None, Ok, Err}
use Rattle.std.proofs.Math.Option.{Option, none, some}
use Rattle.language.specs.Choice.{if'}
use Rattle.language.specs.Integers.{u8, u16, u32, u64}
use Rattle.language.specs.Tables.{word_limit, content_low}
use Rattle.language.specs.Tokens as tokens
use Rattle.language.specs.Values as values
use Rattle.language.specs.Values.{is_integer, is_bool, is_sized, is_ip4, is_sock4, is_string, is_text, is_function, Ty, ty_void, ty_bool, ty_int, ty_ip4, ty_sock4, ty_bytes, ty_pkt, ty_pkt_gen, ty_time_jump, ty_function, ty_integer, ty_kind, entry_at}
use Rattle.language.specs.Terms as terms
use Rattle.language.specs.Terms.{Atom, constant, slot, atom, called, divided, count, term_type}
use Rattle.language.specs.Judgements as judgements
use Rattle.language.specs.Judgements.{val, err, poisoned, stopped, used, narrowed}
use Rattle.language.specs.Findings.{value_kind, value_low, value_high, ty_entry, term_text, term_low, term_high}
use Rattle.rows.specs.declared.types.Text.{Text}
use Rattle.rows.specs.declared.types.Type.{«Type»}
use Rattle.findings.specs.declared.Counts.{Counts}
use Rattle.findings.specs.Findings.{type_as, type_text, function_type, diagnostic_as}
use Rattle.values.specs.declared.Term.{Term}
use Rattle.values.specs.declared.Halt.{Halt}
use Rattle.values.specs.declared.Halt.TheVariants.{Found, Poisoned, Stopped}

-- what judging an expression comes to
abbrev pub Judged : Type 0
Judged = Result Term Halt

-- the same, and the counts then
pub record Judgement : Type 0 where
  pub out : Judged
  pub counts : Counts

abbrev pub with_counts : Judged → Counts → Judgement
with_counts o c = record { out = o; counts = c }

-- ---- terms

-- a constant at a token
abbrev pub constant_as : ℕ → values.Value → Term
constant_as p v = record { at = p; form = 1; kind = value_kind v; lo = value_low v; hi = value_high v }

abbrev pub atom_as : ℕ → Atom → Term
atom_as p (constant v) = constant_as p v
atom_as p (slot s t) = record { at = p; form = 2; kind = ty_kind t; lo = s; hi = ty_entry t }

abbrev pub term_as : terms.Term → Term
term_as (atom p a) = atom_as p a
term_as (called p c f vs) = record { at = p; form = 3; kind = ty_kind (entry_at f).gives; lo = f; hi = count vs }
term_as (divided p a b) = record { at = p; form = 4; kind = 8; lo = 0; hi = 0 }

-- an address's and a port's token
abbrev pub sock4_as : ℕ → tokens.Token → tokens.Token → Term
sock4_as t a p = record { at = t; form = 1; kind = 8; lo = content_low a.content; hi = content_low p.content }

-- ---- what a name stands for: a form and three words; form 0 and three zeros where its statement failed

abbrev pub form_of : Option Atom → ℕ
form_of none = 0
form_of (some a) = (atom_as 0 a).form

abbrev pub kind_of : Option Atom → ℕ
kind_of none = 0
kind_of (some a) = (atom_as 0 a).kind

abbrev pub low_of : Option Atom → ℕ
low_of none = 0
low_of (some a) = (atom_as 0 a).lo

abbrev pub high_of : Option Atom → ℕ
high_of none = 0
high_of (some a) = (atom_as 0 a).hi

-- three words as a value that is known
unfoldable pub value_of : ℕ → ℕ → ℕ → values.Value
value_of k l h =
    if' (eqb k 2) (is_bool (eqb l 1))
    (if' (eqb k 3) (is_sized u8 l)
    (if' (eqb k 4) (is_sized u16 l)
    (if' (eqb k 5) (is_sized u32 l)
    (if' (eqb k 6) (is_sized u64 l)
    (if' (eqb k 7) (is_ip4 l)
    (if' (eqb k 8) (is_sock4 l h)
    (if' (eqb k 9) (is_string l)
    (if' (eqb k 14) (is_function l)
    (if' (eqb k 17) (is_text l h) (is_integer (h * word_limit + l)))))))))))

-- a number and an entry as a type
unfoldable pub ty_of : ℕ → ℕ → Ty
ty_of k f =
    if' (eqb k 1) ty_void
    (if' (eqb k 2) ty_bool
    (if' (eqb k 3) (ty_int u8)
    (if' (eqb k 4) (ty_int u16)
    (if' (eqb k 5) (ty_int u32)
    (if' (eqb k 6) (ty_int u64)
    (if' (eqb k 7) ty_ip4
    (if' (eqb k 8) ty_sock4
    (if' (eqb k 9) ty_bytes
    (if' (eqb k 10) ty_pkt
    (if' (eqb k 11) ty_pkt_gen
    (if' (eqb k 12) ty_time_jump
    (if' (eqb k 14) (ty_function f) ty_integer))))))))))))

unfoldable pub opened : ℕ → ℕ → ℕ → ℕ → Option Atom
opened f k l h = if' (eqb f 1) (some (constant (value_of k l h))) (if' (eqb f 2) (some (slot l (ty_of k h))) none)

-- the words are those of what they are read as
pub record Canon (f k l h : ℕ) : Type 0 where
  pub form : form_of (opened f k l h) ≡ f
  pub kind : kind_of (opened f k l h) ≡ k
  pub low : low_of (opened f k l h) ≡ l
  pub high : high_of (opened f k l h) ≡ h

unfoldable pub held_as : ℕ → ℕ → ℕ → ℕ → ℕ → Judged
held_as t f k l h = if' (eqb f 0) (Err Poisoned) (Ok (record { at = t; form = f; kind = k; lo = l; hi = h }))

-- ---- kinds

-- of types that have bits: bools, and integers with a size
unfoldable pub is_integral : ℕ → Bool
is_integral k = leb 2 k && leb k 6

-- of constants that are numbers: the same, and integers with no size
unfoldable pub is_number : ℕ → Bool
is_number k = is_integral k || eqb k 16

-- ---- what a term is shown as

unfoldable pub constant_type : ℕ → ℕ → «Type»
constant_type k l = if' (eqb k 17) (record { kind = 9; entry = 0 }) (if' (eqb k 14) (record { kind = 14; entry = l }) (record { kind = k; entry = 0 }))

pub record TypeShown (v : Term) (r : «Type») : Type 0 where
  pub is : (e : terms.Term) → v ≡ term_as e → r ≡ type_as (term_type e)

unfoldable pub shown_constant : ℕ → ℕ → ℕ → Text
shown_constant k l h =
    if' (eqb k 14) (type_text (function_type l))
    (if' (eqb k 17) (record { from = 2; start = l; end = h })
    (if' (eqb k 9) (record { from = 1; start = l; end = h }) (record { from = 0; start = l; end = h })))

abbrev pub shown_as : terms.Term → Text
shown_as e = record { from = term_text e; start = term_low e; end = term_high e }

pub record Shown (v : Term) (r : Text) : Type 0 where
  pub is : (e : terms.Term) → v ≡ term_as e → r ≡ shown_as e

-- ---- narrowing

abbrev pub narrowed_as : Option terms.Term → prelude.Option Term
narrowed_as (some e) = Some (term_as e)
narrowed_as none = None

pub record Narrow (v : Term) (r : prelude.Option Term) : Type 0 where
  pub is : (e : terms.Term) → v ≡ term_as e → r ≡ narrowed_as (narrowed e)

-- ---- judgements

abbrev pub judged_as : List ℕ → judgements.Judged terms.Term → Judged
judged_as s (val e) = Ok (term_as e)
judged_as s (err at w) = Err (Found (diagnostic_as s at w))
judged_as s poisoned = Err Poisoned
judged_as s (stopped t) = Err (Stopped t)

-- a value that is used
pub record Used (s : List ℕ) (v : Term) (r : Judged) : Type 0 where
  pub is : (e : terms.Term) → v ≡ term_as e → r ≡ judged_as s (used e).out

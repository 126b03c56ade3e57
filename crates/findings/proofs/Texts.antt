-- What a finding's row shows.
use mathlib.Core.Path.{◌≡◌, refl, sym, ap}
use mathlib.Core.Bool.{Bool}
use mathlib.Core.List.{List}
use Prim.Native.Nat.{ℕ}
use borrow.Author.Tests.{eq-eqb}
use Rattle.language.specs.Integers.{u8, u16, u32, u64}
use Rattle.language.specs.Values.{Ty, ty_void, ty_bool, ty_int, ty_ip4, ty_sock4, ty_bytes, ty_pkt, ty_pkt_gen, ty_time_jump, ty_function, ty_integer, entry_at}
use Rattle.language.specs.Judgements as judgements
use Rattle.language.specs.Judgements.{left, right, diag, unknown_name, unknown_item, unknown_module, not_imported, not_a_module, not_a_value, already_bound, no_members, operand_type, not_callable, too_many_args, too_few_args, arg_type, void_value, integral_too_large, multiple_imports, discarded_value, truncated, overflow}
use Rattle.language.specs.Findings.{ty_text, ty_entry, diag_row}
use Rattle.language.specs.Numbers.{token_of}
use Rattle.rows.specs.declared.token.Token.{Token}
use Rattle.rows.specs.declared.types.Type.{«Type»}
use Rattle.rows.specs.Tokens.{token_as}
use Rattle.constants.specs.Constants.{table_rows, entry_word, is_function_entry}
use Rattle.constants.proofs.Entries.{words}
use Rattle.findings.specs.declared.What.{What}
use Rattle.findings.specs.Findings.{kind_number, severity_number, shows_name, type_as, what_as, placed, at_token, diagnostic_as, type_text, row_of, diagnostic_row}
use Rattle.findings.specs.Reading.{sound_type}

-- ---- a type's text

pub shown_text : (t : «Type») {rows : List ℕ} {a b : ℕ} → rows ≡ table_rows → t.kind ≡ 14 → a ≡ entry_word rows t.entry 1 → b ≡ entry_word rows t.entry 2
    → record { from = 2; start = a; end = b } ≡ type_text t
unfolding type_text
shown_text t {rows} e h p q =
    let w = words t.entry in
    let r : entry_word rows t.entry 1 ≡ (entry_at t.entry).start = rw e w.start in
    let s : entry_word rows t.entry 2 ≡ (entry_at t.entry).end = rw e w.end in
    rw (eq-eqb _ _ h, p, q, r, s)

-- ---- a finding's kind, and a function's type

pub kind_as_lem : {v w : What} → v ≡ w → kind_number w ≡ kind_number v
kind_as_lem h = sym (ap kind_number h)

pub function_type_lem : (t : «Type») {b : Bool} → t.kind ≡ 14 → b ≡ is_function_entry t.entry → b ≡ sound_type t
unfolding sound_type
function_type_lem t h e = rw (eq-eqb _ _ h) e

-- ---- the language's findings

type_shown : (t : Ty) → type_text (type_as t) ≡ record { from = ty_text t; start = (entry_at (ty_entry t)).start; end = (entry_at (ty_entry t)).end }
unfolding type_text
type_shown ty_void = refl
type_shown ty_bool = refl
type_shown (ty_int u8) = refl
type_shown (ty_int u16) = refl
type_shown (ty_int u32) = refl
type_shown (ty_int u64) = refl
type_shown ty_ip4 = refl
type_shown ty_sock4 = refl
type_shown ty_bytes = refl
type_shown ty_pkt = refl
type_shown ty_pkt_gen = refl
type_shown ty_time_jump = refl
type_shown (ty_function k) = refl
type_shown ty_integer = refl

pub at_token_lem : (s : List ℕ) (at : ℕ) (w : judgements.What) {tok : Token} {what : What} → tok ≡ token_as (token_of s at) → what ≡ what_as (token_of s) w
    → at_token tok what ≡ diagnostic_as s at w
at_token_lem s at w p q = rw (p, q)

pub diagnostic_row_lem : (s : List ℕ) (n at : ℕ) (w : judgements.What) → diagnostic_row n (diagnostic_as s at w) ≡ diag_row (token_of s) (diag n at w)
unfolding row_of placed shows_name severity_number diag_row
diagnostic_row_lem s n at unknown_name = refl
diagnostic_row_lem s n at (unknown_item m) = refl
diagnostic_row_lem s n at unknown_module = refl
diagnostic_row_lem s n at not_imported = refl
diagnostic_row_lem s n at not_a_module = refl
diagnostic_row_lem s n at not_a_value = refl
diagnostic_row_lem s n at (already_bound t) = refl
diagnostic_row_lem s n at (no_members t) = rw (type_shown t)
diagnostic_row_lem s n at (operand_type left t u) = rw (type_shown u)
diagnostic_row_lem s n at (operand_type right t u) = rw (type_shown u)
diagnostic_row_lem s n at (not_callable t) = rw (type_shown t)
diagnostic_row_lem s n at (too_many_args f a b) = rw (type_shown (ty_function f))
diagnostic_row_lem s n at (too_few_args f a b) = rw (type_shown (ty_function f))
diagnostic_row_lem s n at (arg_type f i t u) = rw (type_shown u)
diagnostic_row_lem s n at void_value = refl
diagnostic_row_lem s n at integral_too_large = refl
diagnostic_row_lem s n at multiple_imports = refl
diagnostic_row_lem s n at (discarded_value t) = rw (type_shown t)
diagnostic_row_lem s n at (truncated m t) = rw (type_shown t)
diagnostic_row_lem s n at (overflow t u) = rw (type_shown t)

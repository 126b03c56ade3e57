-- How the table of numbers stands for the constant table.
use Rattle.std.specs.Prelude.{ℕ, zero, suc, ◌+◌, ◌*◌, ◌≡◌, Bool, true, false, ◌&&◌, List, [], ◌∷◌, eqb, ltb, length, get_or}
use Rattle.std.proofs.Math.Option.{Option, none, some}
use Rattle.table.specs.Table.{flat}
use Rattle.language.specs.Choice.{if'}
use Rattle.language.specs.Lexemes.{same}
use Rattle.language.specs.Tokens.{between}
use Rattle.language.specs.Values.{Value, ty_void, ty_kind, Param, param, Entry, entries, entry_at}
use Rattle.language.specs.Findings.{value_kind, value_low, value_high}
use Rattle.constants.specs.declared.Parameter.{Parameter}
use Rattle.constants.specs.declared.Signature.{Signature}

-- a module's words are 0
abbrev pub kind_of : Option Value → ℕ
kind_of none = 0
kind_of (some v) = value_kind v

abbrev pub low_of : Option Value → ℕ
low_of none = 0
low_of (some v) = value_low v

abbrev pub high_of : Option Value → ℕ
high_of none = 0
high_of (some v) = value_high v

abbrev pub entry_row : Entry → List ℕ
entry_row e = e.inside ∷ e.start ∷ e.end ∷ kind_of e.value ∷ low_of e.value ∷ high_of e.value ∷ []

-- the words of a row, and how many entries there are
abbrev pub entry_width : ℕ
entry_width = 6

abbrev pub entry_count : ℕ
entry_count = 14

unfoldable pub table_rows : List ℕ
table_rows = flat entry_row entries

-- a number, 0 for none
abbrev pub or_zero : Option ℕ → ℕ
or_zero none = 0
or_zero (some k) = k

-- word j of the entry numbered k, 0 where there is none
abbrev pub entry_word : List ℕ → ℕ → ℕ → ℕ
entry_word rows zero j = 0
entry_word rows (suc k) j = if' (ltb k entry_count) (get_or rows (entry_width * k + j) 0) 0

abbrev pub is_hit : List ℕ → List ℕ → ℕ → ℕ → List ℕ → Bool
is_hit rows text i m bs =
    eqb (get_or rows (entry_width * i) 0) m
    && same (between text (get_or rows (entry_width * i + 1) 0) (get_or rows (entry_width * i + 2) 0)) bs

-- a part of one of two texts
abbrev pub text_of : Bool → List ℕ → List ℕ → ℕ → ℕ → List ℕ
text_of true source text a e = between text a e
text_of false source text a e = between source a e

-- of `name_text`: the part r of the table's text or of the source
abbrev pub NameText : Bool → List ℕ → List ℕ → ℕ → ℕ → List ℕ → Type 0
NameText from_table source text a e r = r ≡ text_of from_table source text a e

-- ---- what an entry is

-- a module has a name and no value
unfoldable pub is_module : ℕ → Bool
is_module k = ltb (entry_at k).start (entry_at k).end && eqb (kind_of (entry_at k).value) 0

-- a function is its own value
unfoldable pub is_function_entry : ℕ → Bool
is_function_entry k = eqb (kind_of (entry_at k).value) 14 && eqb (low_of (entry_at k).value) k

-- whether the entry's name is this part of the table's text
unfoldable pub has_span : ℕ → ℕ → ℕ → Bool
has_span k start end = eqb (entry_at k).start start && eqb (entry_at k).end end

-- the first function of n entries from the one numbered k on whose name is this part, or 0
unfoldable pub function_from : ℕ → ℕ → ℕ → ℕ → ℕ
function_from zero k start end = 0
function_from (suc n) k start end = if' (is_function_entry k && has_span k start end) k (function_from n (suc k) start end)

unfoldable pub function_named : ℕ → ℕ → ℕ
function_named start end = function_from entry_count 1 start end

-- ---- what a function gives and takes

abbrev pub parameter_as : ℕ → ℕ → ℕ → Parameter
parameter_as ty start end = record { ty = ty; start = start; end = end }

abbrev pub signature_as : ℕ → ℕ → Parameter → Parameter → Signature
signature_as gives params first second = record { gives = gives; params = params; first = first; second = second }

-- a parameter that is not there
abbrev pub no_param : Param
no_param = param 0 0 ty_void

-- how many parameters a function has at most (`FewParams`: language)
abbrev pub most_params : ℕ
most_params = 2

abbrev pub param_of : List Param → ℕ → Parameter
param_of ps i = parameter_as (ty_kind (get_or ps i no_param).type) (get_or ps i no_param).start (get_or ps i no_param).end

unfoldable pub signature_of : Entry → Signature
signature_of e = signature_as (ty_kind e.gives) (length e.params) (param_of e.params 0) (param_of e.params 1)

-- The rows of what checking finds: diagnostics and statements. docs/TABLES.md says the same in prose. Here a token index
-- becomes a place.
use Rattle.std.specs.Prelude.{ℕ, suc, ◌/◌, ◌%◌, List, [], ◌∷◌, ◌++◌}
use Rattle.language.specs.Choice.{if'}
use Rattle.language.specs.Tokens.{Token}
use Rattle.language.specs.Tables.{bit, word_limit}
use Rattle.language.specs.Values.{Value, is_integer, is_bool, is_sized, is_ip4, is_sock4, is_string, is_text, is_function, Ty, ty_void, ty_bool, ty_int, ty_ip4, ty_sock4, ty_bytes, ty_pkt, ty_pkt_gen, ty_time_jump, ty_function, ty_integer, int_kind, ty_kind, entry_at}
use Rattle.language.specs.Terms.{constant, slot, Term, atom, called, divided, Terms, no_more, more, count, term_at, term_type}
use Rattle.language.specs.Judgements.{Side, left, right, What, unknown_name, unknown_item, unknown_module, not_imported, not_a_module, not_a_value, already_bound, no_members, operand_type, not_callable, too_many_args, too_few_args, arg_type, void_value, integral_too_large, multiple_imports, discarded_value, truncated, overflow, Diag, is_error, Deed, lets, emits, waits, evals, discards, Held}

-- a number that only a function's type has
abbrev of_function : (ℕ → ℕ) → Ty → ℕ
of_function shown ty_void = 0
of_function shown ty_bool = 0
of_function shown (ty_int t) = 0
of_function shown ty_ip4 = 0
of_function shown ty_sock4 = 0
of_function shown ty_bytes = 0
of_function shown ty_pkt = 0
of_function shown ty_pkt_gen = 0
of_function shown ty_time_jump = 0
of_function shown (ty_function k) = shown k
of_function shown ty_integer = 0

-- the entry that a type shows: a function's
abbrev pub ty_entry : Ty → ℕ
ty_entry t = of_function (λ k. k) t

-- where the text that a type shows is: a function's name is in the table's text
abbrev pub ty_text : Ty → ℕ
ty_text t = of_function (λ _. 2) t

-- ---- values as three words: a kind, which is the type's but for bytes of the table, and two of value

abbrev pub value_kind : Value → ℕ
value_kind (is_integer n) = 16
value_kind (is_bool b) = 2
value_kind (is_sized t n) = int_kind t
value_kind (is_ip4 n) = 7
value_kind (is_sock4 n p) = 8
value_kind (is_string t) = 9
value_kind (is_text a b) = 17
value_kind (is_function k) = 14

-- the low word and the high one, given what stands for a function
abbrev low : (ℕ → ℕ) → Value → ℕ
low shown (is_integer n) = n % word_limit
low shown (is_bool b) = bit b
low shown (is_sized t n) = n
low shown (is_ip4 n) = n
low shown (is_sock4 n p) = n
low shown (is_string t) = t
low shown (is_text a b) = a
low shown (is_function k) = shown k

abbrev high : (ℕ → ℕ) → Value → ℕ
high shown (is_integer n) = n / word_limit
high shown (is_bool b) = 0
high shown (is_sized t n) = 0
high shown (is_ip4 n) = 0
high shown (is_sock4 n p) = p
high shown (is_string t) = 0
high shown (is_text a b) = b
high shown (is_function k) = shown k

-- a function is its entry
abbrev pub value_low : Value → ℕ
value_low v = low (λ k. k) v

abbrev pub value_high : Value → ℕ
value_high v = high (λ _. 0) v

-- ---- a diagnostic's row: line, column, severity (1 error, 2 warning), kind, where its text is (0 none, 1 the source, 2 the
-- table's text), the text's start and end, a type, three numbers, and last the number of its statement (02, E7: "Each diagnostic row
-- gets the number of its statement, from 1")

abbrev pub diag_width : ℕ
diag_width = 12

-- the numbers of the kinds, in the order of check.rs, errors first
abbrev pub what_kind : What → ℕ
what_kind unknown_name = 1
what_kind (unknown_item m) = 2
what_kind unknown_module = 4
what_kind not_imported = 5
what_kind not_a_module = 6
what_kind not_a_value = 7
what_kind (already_bound t) = 8
what_kind (no_members t) = 9
what_kind (operand_type s t u) = 10
what_kind (not_callable t) = 11
what_kind (too_many_args f a b) = 12
what_kind (too_few_args f a b) = 13
what_kind (arg_type f i t u) = 19
what_kind void_value = 21
what_kind integral_too_large = 22
what_kind multiple_imports = 23
what_kind (discarded_value t) = 24
what_kind (truncated n t) = 25
what_kind (overflow t u) = 26

abbrev pub side_kind : Side → ℕ
side_kind left = 1
side_kind right = 2

-- what a row says after its place
pub record Detail : Type 0 where
  pub severity : ℕ
  pub kind : ℕ
  pub text : ℕ
  pub start : ℕ
  pub end : ℕ
  pub type : ℕ
  pub first : ℕ
  pub second : ℕ
  pub third : ℕ

-- by severity and kind: one that shows a name from `start` to `end` of the source, and perhaps two numbers
abbrev pub shows_name : ℕ → ℕ → ℕ → ℕ → ℕ → ℕ → Detail
shows_name severity kind start end a b =
    record { severity = severity; kind = kind; text = 1; start = start; end = end; type = 0; first = a; second = b; third = 0 }

-- a type, a function with its name in the table's text, and perhaps three numbers
abbrev pub shows_type : ℕ → ℕ → Ty → ℕ → ℕ → ℕ → Detail
shows_type severity kind ty a b c =
    record {
      severity = severity;
      kind = kind;
      text = ty_text ty;
      start = (entry_at (ty_entry ty)).start;
      end = (entry_at (ty_entry ty)).end;
      type = ty_kind ty;
      first = a;
      second = b;
      third = c;
    }

-- nothing more
abbrev pub shows_nothing : ℕ → ℕ → Detail
shows_nothing severity kind =
    record { severity = severity; kind = kind; text = 0; start = 0; end = 0; type = 0; first = 0; second = 0; third = 0 }

-- 1 an error, 2 a warning
abbrev pub severity_of : What → ℕ
severity_of w = if' (is_error w) 1 2

abbrev pub named : What → Token → ℕ → ℕ → Detail
named w t a b = shows_name (severity_of w) (what_kind w) t.start t.end a b

abbrev pub typed : What → Ty → ℕ → ℕ → ℕ → Detail
typed w ty a b c = shows_type (severity_of w) (what_kind w) ty a b c

abbrev pub bare : What → Detail
bare w = shows_nothing (severity_of w) (what_kind w)

abbrev pub detail_row : Token → Detail → ℕ → List ℕ
detail_row t d n =
    t.line ∷ t.column ∷ d.severity ∷ d.kind ∷ d.text ∷ d.start ∷ d.end ∷ d.type ∷ d.first ∷ d.second ∷ d.third ∷ n ∷ []

module _ (token_at : ℕ → Token) where
  -- of a kind that stands at a token: an unknown item shows the number of its module's entry in the constant table, a name
  -- bound twice the place where it was bound first, an operand its side, the type wanted and the operator, which is `/`. Where a
  -- kind says what was found, that is its type. Too many and too few arguments have the function for their type, so that its name
  -- is the text, and how many were given and wanted; an argument of the wrong type has the function's entry, the parameter's number
  -- and the type wanted; `Overflow` has the type wanted.
  abbrev pub detail : ℕ → What → Detail
  detail at unknown_name = named unknown_name (token_at at) 0 0
  detail at (unknown_item m) = named (unknown_item m) (token_at at) m 0
  detail at unknown_module = named unknown_module (token_at at) 0 0
  detail at not_imported = named not_imported (token_at at) 0 0
  detail at not_a_module = named not_a_module (token_at at) 0 0
  detail at not_a_value = named not_a_value (token_at at) 0 0
  detail at (already_bound t) = named (already_bound t) (token_at at) (token_at t).line (token_at t).column
  detail at (no_members ty) = typed (no_members ty) ty 0 0 0
  detail at (operand_type s wanted found) = typed (operand_type s wanted found) found (side_kind s) (ty_kind wanted) 1
  detail at (not_callable ty) = typed (not_callable ty) ty 0 0 0
  detail at (too_many_args f many wanted) = typed (too_many_args f many wanted) (ty_function f) many wanted 0
  detail at (too_few_args f many wanted) = typed (too_few_args f many wanted) (ty_function f) many wanted 0
  detail at (arg_type f i wanted found) = typed (arg_type f i wanted found) found f i (ty_kind wanted)
  detail at void_value = bare void_value
  detail at integral_too_large = bare integral_too_large
  detail at multiple_imports = named multiple_imports (token_at at) 0 0
  detail at (discarded_value ty) = typed (discarded_value ty) ty 0 0 0
  detail at (truncated n ty) = typed (truncated n ty) ty (n % word_limit) (n / word_limit) 0
  detail at (overflow found wanted) = typed (overflow found wanted) found (ty_kind wanted) 0 0

  unfoldable pub diag_row : Diag → List ℕ
  diag_row d = detail_row (token_at d.at) (detail d.at d.what) d.statement

-- ---- rows of statements (02, E2): "A statement takes one row; each callee, argument and operand below its outermost expression takes
-- one more". A row has 11 words: line and column, kind, slot, form, line and column of the expression, type, where its text is (as
-- above), and two words of value.

abbrev pub stmt_width : ℕ
stmt_width = 11

-- one row: where it stands, its kind, its slot, and its expression
pub record Row : Type 0 where
  pub at : ℕ
  pub kind : ℕ
  pub slot : ℕ
  pub term : Term

abbrev pub row : ℕ → ℕ → ℕ → Term → Row
row at k s v = record { at = at; kind = k; slot = s; term = v }

-- kinds of statements, in the order of hir.rs
abbrev pub deed_kind : Deed → ℕ
deed_kind (lets s) = 1
deed_kind emits = 2
deed_kind waits = 3
deed_kind evals = 4
deed_kind discards = 5

-- "slot (of a `Let`)"
abbrev pub deed_slot : Deed → ℕ
deed_slot (lets s) = s
deed_slot emits = 0
deed_slot waits = 0
deed_slot evals = 0
deed_slot discards = 0

-- then the parts: "6 callee, 7 argument, 8 left operand, 9 right operand". A part stands at its expression's place; "an argument's
-- row also says which parameter (its number in `slot`)"
abbrev pub part : ℕ → ℕ → Term → Row
part k s v = row (term_at v) k s v

-- "its parts follow it in order, callee, then arguments, or left, then right operand, each followed by its own parts"
unfoldable mutual
  pub parts : Term → List Row
  parts (atom p a) = []
  parts (called p c f vs) = part 6 0 c ∷ parts c ++ arg_parts 0 vs
  parts (divided p a b) = part 8 0 a ∷ parts a ++ part 9 0 b ∷ parts b

  pub arg_parts : ℕ → Terms → List Row
  arg_parts i no_more = []
  arg_parts i (more v vs) = part 7 i v ∷ parts v ++ arg_parts (suc i) vs

-- "The statement's row has its outermost expression"
abbrev pub held_rows : Held → List Row
held_rows h = row h.at (deed_kind h.deed) (deed_slot h.deed) h.term ∷ parts h.term

unfoldable pub rows_of : List Held → List Row
rows_of [] = []
rows_of (h ∷ hs) = held_rows h ++ rows_of hs

-- ---- the words: "1 constant, 2 slot, 3 call, 4 `/`"; "of a slot `low` is its number; of a call `low` is the function's entry and
-- `high` how many arguments it has". Of a string of the source `low` is its token, of bytes of the table and of a function both words
-- are the start and end in the table's text.

abbrev pub value_text : Value → ℕ
value_text (is_integer n) = 0
value_text (is_bool b) = 0
value_text (is_sized t n) = 0
value_text (is_ip4 n) = 0
value_text (is_sock4 n p) = 0
value_text (is_string t) = 1
value_text (is_text a b) = 2
value_text (is_function k) = 2

abbrev pub shown_low : Value → ℕ
shown_low v = low (λ k. (entry_at k).start) v

abbrev pub shown_high : Value → ℕ
shown_high v = high (λ k. (entry_at k).end) v

abbrev pub form_of : Term → ℕ
form_of (atom p (constant v)) = 1
form_of (atom p (slot s t)) = 2
form_of (called p c f vs) = 3
form_of (divided p a b) = 4

abbrev pub term_text : Term → ℕ
term_text (atom p (constant v)) = value_text v
term_text (atom p (slot s t)) = 0
term_text (called p c f vs) = 0
term_text (divided p a b) = 0

abbrev pub term_low : Term → ℕ
term_low (atom p (constant v)) = shown_low v
term_low (atom p (slot s t)) = s
term_low (called p c f vs) = f
term_low (divided p a b) = 0

abbrev pub term_high : Term → ℕ
term_high (atom p (constant v)) = shown_high v
term_high (atom p (slot s t)) = 0
term_high (called p c f vs) = count vs
term_high (divided p a b) = 0

module _ (token_at : ℕ → Token) where
  unfoldable pub stmt_row : Row → List ℕ
  stmt_row r =
      (token_at r.at).line ∷ (token_at r.at).column ∷ r.kind ∷ r.slot ∷ form_of r.term ∷ (token_at (term_at r.term)).line
      ∷ (token_at (term_at r.term)).column ∷ ty_kind (term_type r.term) ∷ term_text r.term ∷ term_low r.term ∷ term_high r.term
      ∷ []

-- Terms as words: what is read back, what a form or a kind says of a term, literals, and what is used.
use mathlib.Core.Path.{◌≡◌, refl, sym, ap, subst, ◌∙◌}
use mathlib.Core.Bool.{true, false}
use mathlib.Core.Option.{Option, none, some}
use mathlib.Core.List.{List}
use Prim.Native.Nat.{ℕ, ◌+◌, ◌*◌, ◌/◌, ◌%◌}
use native.Mathlib.Omega.{arith}
use borrow.Author.Tests.{eq-eqb, ne_eqb}
use lib.Dec.{eqb}
use Rattle.std.specs.Prelude.{Ok, Err}
use Rattle.language.specs.Integers.{u8, u16, u32, u64}
use Rattle.language.specs.Lexemes.{l_paren, r_paren, dot, double_colon, colon, semi_colon, equals, comma, slash, import_keyword, let_keyword, identifier, boolean_literal, ipv4_literal, hex_literal, dec_literal}
use Rattle.language.specs.Tables as tables
use Rattle.language.specs.Tables.{content_kind, content_low, content_high, bit}
use Rattle.language.specs.Tokens as tokens
use Rattle.language.specs.Tokens.{Content, eof, plain, name, string, contents}
use Rattle.language.specs.Values as values
use Rattle.language.specs.Values.{is_integer, is_bool, is_sized, is_ip4, is_sock4, is_string, is_text, is_function, Ty, ty_void, ty_bool, ty_int, ty_ip4, ty_sock4, ty_bytes, ty_pkt, ty_pkt_gen, ty_time_jump, ty_function, ty_integer, ty_kind, same_ty, type_of, entry_at}
use Rattle.language.specs.Terms as terms
use Rattle.language.specs.Terms.{Atom, constant, slot, atom, called, divided, Terms, term_at, term_type, function_of}
use Rattle.language.specs.Judgements as judgements
use Rattle.language.specs.Judgements.{val, err, poisoned, void_value, used, literal_value, literal_at, integer_of, ip4_of, unsized}
use Rattle.language.specs.Findings.{value_kind, value_low, value_high, ty_entry}
use Rattle.language.specs.Numbers.{token_of}
use Rattle.language.proofs.Forms.{ContentOf, of_plain, of_boolean, of_ipv4, of_string, no_string, content_form, ValueOf, of_ip4, of_integer, value_form}
use Rattle.language.proofs.Table.{gives_plain}
use Rattle.language.proofs.Tests.{never}
use Rattle.language.proofs.TokensAt.{content_of_lem}
use Rattle.rows.specs.declared.token.Token.{Token}
use Rattle.rows.specs.declared.types.Type.{«Type»}
use Rattle.rows.specs.Tokens.{token_as}
use Rattle.findings.specs.declared.What.{What}
use Rattle.findings.specs.declared.What.TheVariants.{VoidValue}
use Rattle.findings.specs.Findings.{type_as, what_as, at_token}
use Rattle.findings.proofs.Texts.{at_token_lem}
use Rattle.values.specs.declared.Term.{Term}
use Rattle.values.specs.declared.Halt.TheVariants.{Found}
use Rattle.values.specs.Values.{Judged, constant_as, term_as, form_of, kind_of, low_of, high_of, value_of, ty_of, opened, Canon, held_as, is_integral, is_number, constant_type, judged_as}

-- ---- words read back

value_of_lem : (v : values.Value) → value_of (value_kind v) (value_low v) (value_high v) ≡ v
unfolding value_of
value_of_lem (is_integer n) = let e : n / tables.word_limit * tables.word_limit + n % tables.word_limit ≡ n = omega arith in rw e
value_of_lem (is_bool true) = refl
value_of_lem (is_bool false) = refl
value_of_lem (is_sized u8 n) = refl
value_of_lem (is_sized u16 n) = refl
value_of_lem (is_sized u32 n) = refl
value_of_lem (is_sized u64 n) = refl
value_of_lem (is_ip4 n) = refl
value_of_lem (is_sock4 n p) = refl
value_of_lem (is_string t) = refl
value_of_lem (is_text a b) = refl
value_of_lem (is_function k) = refl

-- a type by its number and its entry
pub ty_of_lem : (t : Ty) → ty_of (ty_kind t) (ty_entry t) ≡ t
unfolding ty_of
ty_of_lem ty_void = refl
ty_of_lem ty_bool = refl
ty_of_lem (ty_int u8) = refl
ty_of_lem (ty_int u16) = refl
ty_of_lem (ty_int u32) = refl
ty_of_lem (ty_int u64) = refl
ty_of_lem ty_ip4 = refl
ty_of_lem ty_sock4 = refl
ty_of_lem ty_bytes = refl
ty_of_lem ty_pkt = refl
ty_of_lem ty_pkt_gen = refl
ty_of_lem ty_time_jump = refl
ty_of_lem (ty_function k) = refl
ty_of_lem ty_integer = refl

pub opened_as : (o : Option Atom) → opened (form_of o) (kind_of o) (low_of o) (high_of o) ≡ o
unfolding opened
opened_as none = refl
opened_as (some (constant v)) = ap (λ (w : values.Value). some (constant w)) (value_of_lem v)
opened_as (some (slot s t)) = ap (λ (u : Ty). some (slot s u)) (ty_of_lem t)

pub canon_of : (o : Option Atom) → Canon (form_of o) (kind_of o) (low_of o) (high_of o)
canon_of o = let e = opened_as o in record { form = rw e; kind = rw e; low = rw e; high = rw e }

-- ---- the forms of terms by their numbers: a case over a number has only the terms with it

pub data TermOf : ℕ → terms.Term → Type 0 where
  of_constant : {p : ℕ} {v : values.Value} → TermOf 1 (atom p (constant v))
  of_slot : {p s : ℕ} {t : Ty} → TermOf 2 (atom p (slot s t))
  of_call : {p : ℕ} {c : terms.Term} {f : ℕ} {vs : Terms} → TermOf 3 (called p c f vs)
  of_slash : {p : ℕ} {a b : terms.Term} → TermOf 4 (divided p a b)

own_form : (e : terms.Term) → TermOf (term_as e).form e
own_form (atom p (constant v)) = of_constant
own_form (atom p (slot s t)) = of_slot
own_form (called p c f vs) = of_call
own_form (divided p a b) = of_slash

pub term_form : {v : Term} (e : terms.Term) {k : ℕ} → v ≡ term_as e → v.form ≡ k → TermOf k e
term_form e q h = subst (λ k. TermOf k e) (sym (ap (λ (w : Term). w.form) q) ∙ h) (own_form e)

-- a term's place
pub place_as : (e : terms.Term) → (term_as e).at ≡ term_at e
place_as (atom p (constant v)) = refl
place_as (atom p (slot s t)) = refl
place_as (called p c f vs) = refl
place_as (divided p a b) = refl

-- what is not known before the run has the number of its type for its kind
pub kind_as_lem : (e : terms.Term) → ((term_as e).form ≡ 1 → ⊥) → (term_as e).kind ≡ ty_kind (term_type e)
kind_as_lem (atom p (constant v)) h = absurd (h refl)
kind_as_lem (atom p (slot s t)) h = refl
kind_as_lem (called p c f vs) h = refl
kind_as_lem (divided p a b) h = refl

-- ---- what a name stands for

held_own : (s : List ℕ) (t : ℕ) (o : Option Atom)
    → held_as t (form_of o) (kind_of o) (low_of o) (high_of o) ≡ judged_as s (elim o [ some a ↦ val (atom t a) | none ↦ poisoned ])
unfolding held_as
held_own s t none = refl
held_own s t (some (constant v)) = refl
held_own s t (some (slot n u)) = refl

-- the words of an entry as they were written: what its name comes to at the token t
pub held_canon : (s : List ℕ) (t : ℕ) {f k l h : ℕ} → Canon f k l h
    → held_as t f k l h ≡ judged_as s (elim (opened f k l h) [ some a ↦ val (atom t a) | none ↦ poisoned ])
held_canon s t {f} {k} {l} {h} c = rw (c.form, c.kind, c.low, c.high) at (held_own s t (opened f k l h))

-- ---- errors

-- an error at a token
pub judged_err : (s : List ℕ) (at : ℕ) (w : judgements.What) {tok : Token} {what : What} → tok ≡ token_as (token_of s at) → what ≡ what_as (token_of s) w
    → Err (Found (at_token tok what)) ≡ judged_as s (err at w)
judged_err s at w e q = ap (λ d. Err (Found d)) (at_token_lem s at w e q)

-- ---- types

value_type : (v : values.Value) → constant_type (value_kind v) (value_low v) ≡ type_as (type_of v)
unfolding constant_type
value_type (is_integer n) = refl
value_type (is_bool b) = refl
value_type (is_sized u8 n) = refl
value_type (is_sized u16 n) = refl
value_type (is_sized u32 n) = refl
value_type (is_sized u64 n) = refl
value_type (is_ip4 n) = refl
value_type (is_sock4 n p) = refl
value_type (is_string t) = refl
value_type (is_text a b) = refl
value_type (is_function k) = refl

-- only a function's type shows an entry
plain_entry : (t : Ty) → function_of t ≡ none → ty_entry t ≡ 0
plain_entry (ty_function k) e = never (cc)
plain_entry ty_void e = refl
plain_entry ty_bool e = refl
plain_entry (ty_int t) e = refl
plain_entry ty_ip4 e = refl
plain_entry ty_sock4 e = refl
plain_entry ty_bytes e = refl
plain_entry ty_pkt e = refl
plain_entry ty_pkt_gen e = refl
plain_entry ty_time_jump e = refl
plain_entry ty_integer e = refl

constant_typed : {e : terms.Term} → TermOf 1 e → constant_type (term_as e).kind (term_as e).lo ≡ type_as (term_type e)
constant_typed (of_constant {v = v}) = value_type v

slot_typed : {e : terms.Term} → TermOf 2 e → record { kind = (term_as e).kind; entry = (term_as e).hi } ≡ type_as (term_type e)
slot_typed of_slot = refl

other_typed : (e : terms.Term) → ((term_as e).form ≡ 1 → ⊥) → ((term_as e).form ≡ 2 → ⊥) → record { kind = (term_as e).kind; entry = 0 } ≡ type_as (term_type e)
other_typed (atom p (constant v)) h g = absurd (h refl)
other_typed (atom p (slot s t)) h g = absurd (g refl)
other_typed (called p c f vs) h g = rw (plain_entry (entry_at f).gives (gives_plain f))
other_typed (divided p a b) h g = refl

module _ {v : Term} (e : terms.Term) (q : v ≡ term_as e) where
  pub type_constant : {r : «Type»} → r ≡ constant_type v.kind v.lo → v.form ≡ 1 → r ≡ type_as (term_type e)
  type_constant p h = p ∙ rw q (constant_typed (term_form e q h))

  pub type_slot : v.form ≡ 2 → record { kind = v.kind; entry = v.hi } ≡ type_as (term_type e)
  type_slot h = rw q (slot_typed (term_form e q h))

  pub type_other : (v.form ≡ 1 → ⊥) → (v.form ≡ 2 → ⊥) → record { kind = v.kind; entry = 0 } ≡ type_as (term_type e)
  type_other h g = rw q (other_typed e (λ z. h (ap (λ (w : Term). w.form) q ∙ z)) (λ z. g (ap (λ (w : Term). w.form) q ∙ z)))

-- ---- functions

pub function_is : (t : Ty) → ty_kind t ≡ 14 → function_of t ≡ some (ty_entry t)
function_is (ty_function k) e = refl
function_is ty_void e = absurd (omega (arith, e))
function_is ty_bool e = absurd (omega (arith, e))
function_is (ty_int u8) e = absurd (omega (arith, e))
function_is (ty_int u16) e = absurd (omega (arith, e))
function_is (ty_int u32) e = absurd (omega (arith, e))
function_is (ty_int u64) e = absurd (omega (arith, e))
function_is ty_ip4 e = absurd (omega (arith, e))
function_is ty_sock4 e = absurd (omega (arith, e))
function_is ty_bytes e = absurd (omega (arith, e))
function_is ty_pkt e = absurd (omega (arith, e))
function_is ty_pkt_gen e = absurd (omega (arith, e))
function_is ty_time_jump e = absurd (omega (arith, e))
function_is ty_integer e = absurd (omega (arith, e))

pub function_not : (t : Ty) → (ty_kind t ≡ 14 → ⊥) → function_of t ≡ none
function_not (ty_function k) h = absurd (h refl)
function_not ty_void h = refl
function_not ty_bool h = refl
function_not (ty_int t) h = refl
function_not ty_ip4 h = refl
function_not ty_sock4 h = refl
function_not ty_bytes h = refl
function_not ty_pkt h = refl
function_not ty_pkt_gen h = refl
function_not ty_time_jump h = refl
function_not ty_integer h = refl

-- a term is a function exactly where its type is shown with the kind 14, and then the type shows the function's entry
module _ {r : «Type»} (e : terms.Term) (q : r ≡ type_as (term_type e)) where
  kind_shown : r.kind ≡ ty_kind (term_type e)
  kind_shown = ap (λ (t : «Type»). t.kind) q

  pub callee_is : r.kind ≡ 14 → function_of (term_type e) ≡ some r.entry
  callee_is h = function_is (term_type e) (sym kind_shown ∙ h) ∙ ap (λ (t : «Type»). some t.entry) (sym q)

  pub callee_not : (r.kind ≡ 14 → ⊥) → function_of (term_type e) ≡ none
  callee_not h = function_not (term_type e) (λ z. h (kind_shown ∙ z))

-- ---- kinds

-- types that have bits
pub integral_type : (t : Ty) → is_integral (ty_kind t) ≡ values.is_integral t
unfolding is_integral
integral_type ty_void = refl
integral_type ty_bool = refl
integral_type (ty_int u8) = refl
integral_type (ty_int u16) = refl
integral_type (ty_int u32) = refl
integral_type (ty_int u64) = refl
integral_type ty_ip4 = refl
integral_type ty_sock4 = refl
integral_type ty_bytes = refl
integral_type ty_pkt = refl
integral_type ty_pkt_gen = refl
integral_type ty_time_jump = refl
integral_type (ty_function k) = refl
integral_type ty_integer = refl

pub some_kind : (v : values.Value) → value_kind v ≡ 0 → ⊥
some_kind v e = elim (value_form v e) [ ]

-- ---- constants by their kinds

ip4_value : {v : values.Value} → ValueOf 7 v → ip4_of v ≡ some (value_low v)
ip4_value of_ip4 = refl

pub ip4_is : (v : values.Value) → value_kind v ≡ 7 → ip4_of v ≡ some (value_low v)
ip4_is v e = ip4_value (value_form v e)

pub ip4_not : (v : values.Value) → (value_kind v ≡ 7 → ⊥) → ip4_of v ≡ none
ip4_not (is_integer n) h = refl
ip4_not (is_bool b) h = refl
ip4_not (is_sized t n) h = refl
ip4_not (is_ip4 n) h = absurd (h refl)
ip4_not (is_sock4 n p) h = refl
ip4_not (is_string t) h = refl
ip4_not (is_text a b) h = refl
ip4_not (is_function k) h = refl

-- the number that two words are
abbrev pub number_as : values.Value → ℕ
number_as v = value_high v * tables.word_limit + value_low v

pub whole : (n : ℕ) → n / tables.word_limit * tables.word_limit + n % tables.word_limit ≡ n
whole n = omega arith

unsized_value : {v : values.Value} → ValueOf 16 v → unsized v ≡ some (number_as v)
unsized_value (of_integer {n = n}) = ap some (sym (whole n))

pub unsized_is : (v : values.Value) → value_kind v ≡ 16 → unsized v ≡ some (number_as v)
unsized_is v e = unsized_value (value_form v e)

pub unsized_not : (v : values.Value) → (value_kind v ≡ 16 → ⊥) → unsized v ≡ none
unsized_not (is_integer n) h = absurd (h refl)
unsized_not (is_bool b) h = refl
unsized_not (is_sized t n) h = refl
unsized_not (is_ip4 n) h = refl
unsized_not (is_sock4 n p) h = refl
unsized_not (is_string t) h = refl
unsized_not (is_text a b) h = refl
unsized_not (is_function k) h = refl

pub integer_is : (v : values.Value) → is_number (value_kind v) ≡ true → integer_of v ≡ some (number_as v)
unfolding is_integral is_number
integer_is (is_integer n) e = ap some (sym (whole n))
integer_is (is_bool b) e = let q : bit b ≡ 0 * tables.word_limit + bit b = omega arith in ap some q
integer_is (is_sized t n) e = let q : n ≡ 0 * tables.word_limit + n = omega arith in ap some q
integer_is (is_ip4 n) e = cc
integer_is (is_sock4 n p) e = cc
integer_is (is_string t) e = cc
integer_is (is_text a b) e = cc
integer_is (is_function k) e = cc

pub integer_not : (v : values.Value) → is_number (value_kind v) ≡ false → integer_of v ≡ none
unfolding is_integral is_number
integer_not (is_integer n) e = cc
integer_not (is_bool b) e = cc
integer_not (is_sized u8 n) e = cc
integer_not (is_sized u16 n) e = cc
integer_not (is_sized u32 n) e = cc
integer_not (is_sized u64 n) e = cc
integer_not (is_ip4 n) e = refl
integer_not (is_sock4 n p) e = refl
integer_not (is_string t) e = refl
integer_not (is_text a b) e = refl
integer_not (is_function k) e = refl

-- ---- what is used

value_void : (v : values.Value) → (value_kind v ≡ 1 → ⊥) × (eqb 1 (ty_kind (type_of v)) ≡ false)
value_void v = ((λ e. elim (value_form v e) [ ]), by v)
  where
    by : (v : values.Value) → eqb 1 (ty_kind (type_of v)) ≡ false
    by (is_integer n) = refl
    by (is_bool b) = refl
    by (is_sized u8 n) = refl
    by (is_sized u16 n) = refl
    by (is_sized u32 n) = refl
    by (is_sized u64 n) = refl
    by (is_ip4 n) = refl
    by (is_sock4 n p) = refl
    by (is_string t) = refl
    by (is_text a b) = refl
    by (is_function k) = refl

-- a term has the kind 1 exactly where its type is void
is_void : (e : terms.Term) → (term_as e).kind ≡ 1 → same_ty ty_void (term_type e) ≡ true
is_void (atom p (constant v)) h = absurd ((value_void v).0 h)
is_void (atom p (slot s t)) h = eq-eqb 1 (ty_kind t) (sym h)
is_void (called p c f vs) h = eq-eqb 1 (ty_kind (entry_at f).gives) (sym h)
is_void (divided p a b) h = absurd (omega (arith, h))

not_void : (e : terms.Term) → ((term_as e).kind ≡ 1 → ⊥) → same_ty ty_void (term_type e) ≡ false
not_void (atom p (constant v)) h = (value_void v).1
not_void (atom p (slot s t)) h = ne_eqb 1 (ty_kind t) (λ z. h (sym z))
not_void (called p c f vs) h = ne_eqb 1 (ty_kind (entry_at f).gives) (λ z. h (sym z))
not_void (divided p a b) h = refl

module _ (s : List ℕ) {v : Term} (e : terms.Term) (q : v ≡ term_as e) where
  pub used_void : {tok : Token} {r : Judged} → tok ≡ token_as (token_of s v.at) → v.kind ≡ 1 → r ≡ Err (Found (at_token tok VoidValue))
      → r ≡ judged_as s (used e).out
  unfolding used
  used_void p k o =
      let at : v.at ≡ term_at e = ap (λ (w : Term). w.at) q ∙ place_as e in
      o ∙ judged_err s v.at void_value p refl
      ∙ rw (at, is_void e (sym (ap (λ (w : Term). w.kind) q) ∙ k))

  pub used_value : (v.kind ≡ 1 → ⊥) → Ok v ≡ judged_as s (used e).out
  unfolding used
  used_value h = ap Ok q ∙ rw (not_void e (λ z. h (ap (λ (w : Term). w.kind) q ∙ z)))

-- ---- literals

module _ (t : ℕ) where
  bool_literal : {c : Content} → ContentOf 14 c → record { at = t; form = 1; kind = 2; lo = content_low c; hi = 0 } ≡ constant_as t (literal_value t c)
  bool_literal (of_plain of_boolean) = refl

  ip4_literal : {c : Content} → ContentOf 15 c → record { at = t; form = 1; kind = 7; lo = content_low c; hi = 0 } ≡ constant_as t (literal_value t c)
  ip4_literal (of_plain of_ipv4) = refl

  string_literal : {c : Content} → ContentOf 16 c → record { at = t; form = 1; kind = 9; lo = t; hi = 0 } ≡ constant_as t (literal_value t c)
  string_literal of_string = refl
  string_literal (of_plain x) = absurd (no_string x)

  -- an integer, or a token that is no literal and carries no value
  pub other_literal : (c : Content) → (content_kind c ≡ 14 → ⊥) → (content_kind c ≡ 15 → ⊥) → (content_kind c ≡ 16 → ⊥)
      → record { at = t; form = 1; kind = 16; lo = content_low c; hi = content_high c } ≡ constant_as t (literal_value t c)
  other_literal eof p q o = refl
  other_literal (plain l_paren) p q o = refl
  other_literal (plain r_paren) p q o = refl
  other_literal (plain dot) p q o = refl
  other_literal (plain double_colon) p q o = refl
  other_literal (plain colon) p q o = refl
  other_literal (plain semi_colon) p q o = refl
  other_literal (plain equals) p q o = refl
  other_literal (plain comma) p q o = refl
  other_literal (plain slash) p q o = refl
  other_literal (plain import_keyword) p q o = refl
  other_literal (plain let_keyword) p q o = refl
  other_literal (plain identifier) p q o = refl
  other_literal (plain (boolean_literal b)) p q o = absurd (p refl)
  other_literal (plain (ipv4_literal n)) p q o = absurd (q refl)
  other_literal (plain (hex_literal n)) p q o = refl
  other_literal (plain (dec_literal n)) p q o = refl
  other_literal (name bs) p q o = refl
  other_literal (string b bs) p q o = absurd (o refl)

  module _ (s : List ℕ) {tok : Token} (e : tok ≡ token_as (token_of s t)) where
    is_at : {v : Term} → v ≡ constant_as t (literal_value t (token_of s t).content) → v ≡ constant_as t (literal_at (contents (tokens.tokens s)) t)
    is_at h = h ∙ sym (ap (λ (c : Content). constant_as t (literal_value t c)) (content_of_lem s t))

    kind_is : tok.kind ≡ content_kind (token_of s t).content
    kind_is = ap (λ (k : Token). k.kind) e

    form : {n : ℕ} → tok.kind ≡ n → ContentOf n (token_of s t).content
    form k = content_form (token_of s t).content (sym kind_is ∙ k)

    pub literal_bool : {v : Term} → v ≡ record { at = t; form = 1; kind = 2; lo = tok.lo; hi = 0 } → tok.kind ≡ 14
        → v ≡ constant_as t (literal_at (contents (tokens.tokens s)) t)
    literal_bool h k = is_at (h ∙ rw e (bool_literal (form k)))

    pub literal_ip4 : {v : Term} → v ≡ record { at = t; form = 1; kind = 7; lo = tok.lo; hi = 0 } → tok.kind ≡ 15
        → v ≡ constant_as t (literal_at (contents (tokens.tokens s)) t)
    literal_ip4 h k = is_at (h ∙ rw e (ip4_literal (form k)))

    pub literal_string : {v : Term} → v ≡ record { at = t; form = 1; kind = 9; lo = t; hi = 0 } → tok.kind ≡ 16
        → v ≡ constant_as t (literal_at (contents (tokens.tokens s)) t)
    literal_string h k = is_at (h ∙ string_literal (form k))

    pub literal_other : {v : Term} → v ≡ record { at = t; form = 1; kind = 16; lo = tok.lo; hi = tok.hi } → (tok.kind ≡ 14 → ⊥) → (tok.kind ≡ 15 → ⊥)
        → (tok.kind ≡ 16 → ⊥) → v ≡ constant_as t (literal_at (contents (tokens.tokens s)) t)
    literal_other h p q r =
        is_at (h ∙ rw e (other_literal (token_of s t).content (λ z. p (kind_is ∙ z)) (λ z. q (kind_is ∙ z)) (λ z. r (kind_is ∙ z))))

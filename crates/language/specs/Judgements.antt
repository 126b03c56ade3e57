-- Judgements (01, "Judgements"; check.rs decides what it leaves open): what the statements of a program come to, over trees
-- and contents. Everything is named by the index of a token.
use Rattle.std.specs.Prelude.{ℕ, zero, suc, ◌+◌, ◌*◌, ◌≤◌, ◌≡◌, Bool, true, false, not, List, [], ◌∷◌, ◌++◌, eqb, ltb, length, get_or}
use Rattle.std.proofs.Math.Option.{Option, none, some}
use Rattle.language.specs.Choice.{if'}
use Rattle.language.specs.Integers.{IntType, u16, bits, smallest, low_bits, is_truncated}
use Rattle.language.specs.Lexemes.{Tok, l_paren, r_paren, dot, double_colon, colon, semi_colon, equals, comma, slash, import_keyword, let_keyword, identifier, boolean_literal, ipv4_literal, hex_literal, dec_literal, same}
use Rattle.language.specs.Tokens.{Content, eof, plain, name, string}
use Rattle.language.specs.Tables.{bit, content_low}
use Rattle.language.specs.Sentences.{Expr, literal, sock4, local, path, member, call, slash', Args, none_given, given, named, Stmt, import', let', expr', first_of}
use Rattle.language.specs.Values.{Value, is_integer, is_bool, is_sized, is_ip4, is_sock4, is_string, is_text, is_function, Ty, ty_void, ty_bool, ty_int, ty_ip4, ty_sock4, ty_bytes, ty_pkt, ty_pkt_gen, ty_time_jump, ty_function, ty_integer, same_ty, bits_of, is_integral, fits, Param, entry_at, lookup}
use Rattle.language.specs.Terms.{Atom, constant, slot, Term, atom, called, divided, Terms, no_more, more, term_at, term_type, atom_of, constant_of, function_of}

-- "8 is from now on, at its `(`, a call with a named argument whose callee was judged to be a function" (02, E2)
abbrev pub named_number : ℕ
named_number = 8

-- "a 513th distinct let name or 65th distinct import name"
abbrev pub names_number : ℕ
names_number = 9

-- "at most 512 bound names; 64 imported names"
abbrev pub most_names : ℕ
most_names = 512

abbrev pub most_imports : ℕ
most_imports = 64

-- ---- diagnostics

pub data Side : Type 0 where
  left : Side
  right : Side

-- check.rs `SemanticErrorKind` and `WarningKind`, as far as the port goes. The name that a kind shows is that of the token
-- where it stands.
pub data What : Type 0 where
  unknown_name : What
  -- the number of the innermost module
  unknown_item : ℕ → What
  unknown_module : What
  not_imported : What
  not_a_module : What
  not_a_value : What
  -- the name's token where it was bound first
  already_bound : ℕ → What
  no_members : Ty → What
  -- of `/`: the side, the type wanted, the type found
  operand_type : Side → Ty → Ty → What
  -- the type found
  not_callable : Ty → What
  -- the function's entry, how many arguments were given, how many it takes
  too_many_args : ℕ → ℕ → ℕ → What
  too_few_args : ℕ → ℕ → ℕ → What
  -- the function's entry, the parameter's number from 0, the type wanted, the type found
  arg_type : ℕ → ℕ → Ty → Ty → What
  void_value : What
  integral_too_large : What
  multiple_imports : What
  discarded_value : Ty → What
  -- the value, and the type that it was cut to
  truncated : ℕ → Ty → What
  -- the type found, and the narrower one that it is used as
  overflow : Ty → Ty → What

-- a finding: the number of its statement, from 1, and its token
pub record Diag : Type 0 where
  pub statement : ℕ
  pub at : ℕ
  pub what : What

abbrev pub diag : ℕ → ℕ → What → Diag
diag n at w = record { statement = n; at = at; what = w }

abbrev pub is_error : What → Bool
is_error unknown_name = true
is_error (unknown_item m) = true
is_error unknown_module = true
is_error not_imported = true
is_error not_a_module = true
is_error not_a_value = true
is_error (already_bound t) = true
is_error (no_members t) = true
is_error (operand_type s t u) = true
is_error (not_callable t) = true
is_error (too_many_args f a b) = true
is_error (too_few_args f a b) = true
is_error (arg_type f i t u) = true
is_error void_value = true
is_error integral_too_large = true
is_error multiple_imports = false
is_error (discarded_value t) = false
is_error (truncated n t) = false
is_error (overflow t u) = false

unfoldable pub errors_in : List Diag → ℕ
errors_in [] = 0
errors_in (d ∷ ds) = if' (is_error d.what) 1 0 + errors_in ds

unfoldable pub warnings_in : List Diag → ℕ
warnings_in [] = 0
warnings_in (d ∷ ds) = if' (is_error d.what) 0 1 + warnings_in ds

-- ---- what judging comes to

-- a value; an error at a token; nothing since a name in it failed: "its use is silent and stops the statement"; or number 8 at its
-- `(`
pub data Judged (A : Type 0) : Type 0 where
  val : A → Judged A
  err : ℕ → What → Judged A
  poisoned : Judged A
  stopped : ℕ → Judged A

-- with the warnings that came before, and the searches for a name among the bindings: how many names each compared
pub record Judgement (A : Type 0) : Type 0 where
  pub out : Judged A
  pub warns : List Diag
  pub looks : List ℕ

-- with no search
abbrev pub judgement : {A : Type 0} → Judged A → List Diag → Judgement A
judgement o ws = record { out = o; warns = ws; looks = [] }

abbrev pub fine : {A : Type 0} → A → Judgement A
fine a = judgement (val a) []

abbrev pub wrong : {A : Type 0} → ℕ → What → Judgement A
wrong at w = judgement (err at w) []

-- goes on with a value, and else stops
abbrev pub goes_on : {A B : Type 0} → Judged A → List Diag → List ℕ → (A → Judgement B) → Judgement B
goes_on (val v) ws ls f = record { out = (f v).out; warns = ws ++ (f v).warns; looks = ls ++ (f v).looks }
goes_on (err at w) ws ls f = record { out = err at w; warns = ws; looks = ls }
goes_on poisoned ws ls f = record { out = poisoned; warns = ws; looks = ls }
goes_on (stopped t) ws ls f = record { out = stopped t; warns = ws; looks = ls }

unfoldable pub and_then : {A B : Type 0} → Judgement A → (A → Judgement B) → Judgement B
and_then j f = goes_on j.out j.warns j.looks f

-- ---- values that are known

abbrev pub ip4_of : Value → Option ℕ
ip4_of (is_ip4 n) = some n
ip4_of (is_integer n) = none
ip4_of (is_bool b) = none
ip4_of (is_sized t n) = none
ip4_of (is_sock4 n p) = none
ip4_of (is_string t) = none
ip4_of (is_text a b) = none
ip4_of (is_function k) = none

-- "a bool right of `/` counts as 0 or 1", and so does an argument
abbrev pub integer_of : Value → Option ℕ
integer_of (is_integer n) = some n
integer_of (is_sized t n) = some n
integer_of (is_bool b) = some (bit b)
integer_of (is_ip4 n) = none
integer_of (is_sock4 n p) = none
integer_of (is_string t) = none
integer_of (is_text a b) = none
integer_of (is_function k) = none

-- an integer that has no size yet
abbrev pub unsized : Value → Option ℕ
unsized (is_integer n) = some n
unsized (is_bool b) = none
unsized (is_sized t n) = none
unsized (is_ip4 n) = none
unsized (is_sock4 n p) = none
unsized (is_string t) = none
unsized (is_text a b) = none
unsized (is_function k) = none

-- the value of a literal token
abbrev pub tok_value : Tok → Value
tok_value (boolean_literal b) = is_bool b
tok_value (ipv4_literal n) = is_ip4 n
tok_value (hex_literal n) = is_integer n
tok_value (dec_literal n) = is_integer n
tok_value l_paren = is_integer 0
tok_value r_paren = is_integer 0
tok_value dot = is_integer 0
tok_value double_colon = is_integer 0
tok_value colon = is_integer 0
tok_value semi_colon = is_integer 0
tok_value equals = is_integer 0
tok_value comma = is_integer 0
tok_value slash = is_integer 0
tok_value import_keyword = is_integer 0
tok_value let_keyword = is_integer 0
tok_value identifier = is_integer 0

abbrev pub literal_value : ℕ → Content → Value
literal_value t (string b bs) = is_string t
literal_value t (plain k) = tok_value k
literal_value t (name bs) = is_integer 0
literal_value t eof = is_integer 0

abbrev pub name_in : Content → List ℕ
name_in (name bs) = bs
name_in eof = []
name_in (plain t) = []
name_in (string b bs) = []

-- ---- what is known: imports and bindings, in order of binding

-- a name and its module; none where the import failed
pub record Import : Type 0 where
  pub name : List ℕ
  pub found : Option ℕ

-- a name, its token, and what it stands for; none where its `let` failed
pub record Binding : Type 0 where
  pub name : List ℕ
  pub tok : ℕ
  pub value : Option Atom

-- and how many slots there are
pub record Known : Type 0 where
  pub imports : List Import
  pub bindings : List Binding
  pub slots : ℕ

abbrev pub known : List Import → List Binding → ℕ → Known
known is bs n = record { imports = is; bindings = bs; slots = n }

-- the first of a name
unfoldable pub first_named : {A : Type 0} → (A → List ℕ) → List A → List ℕ → Option A
first_named name_of [] w = none
first_named name_of (a ∷ xs) w = if' (same (name_of a) w) (some a) (first_named name_of xs w)

abbrev pub find_import : List Import → List ℕ → Option Import
find_import = first_named (λ i. i.name)

abbrev pub find : List Binding → List ℕ → Option Binding
find = first_named (λ b. b.name)

-- how many names such a search compares (02, E8): "how many binding names were compared with a wanted name, searching in order of
-- binding and stopping at the match"
unfoldable pub compared : List Binding → List ℕ → ℕ
compared [] w = 0
compared (b ∷ bs) w = if' (same b.name w) 1 (suc (compared bs w))

-- a statement that the run holds (hir.rs `StmtKind`): where it stands, what it does, and with which expression
pub data Deed : Type 0 where
  -- "Bind a value to a new slot"
  lets : ℕ → Deed
  emits : Deed
  waits : Deed
  evals : Deed
  discards : Deed

pub record Held : Type 0 where
  pub at : ℕ
  pub deed : Deed
  pub term : Term

abbrev pub held : ℕ → Deed → Term → Held
held at d v = record { at = at; deed = d; term = v }

-- "Pkt and PktGen `Emit`, TimeJump `Wait`, void `Eval`, everything else `Discard`"
abbrev pub deed_of : Ty → Deed
deed_of ty_pkt = emits
deed_of ty_pkt_gen = emits
deed_of ty_time_jump = waits
deed_of ty_void = evals
deed_of ty_bool = discards
deed_of (ty_int t) = discards
deed_of ty_ip4 = discards
deed_of ty_sock4 = discards
deed_of ty_bytes = discards
deed_of (ty_function k) = discards
deed_of ty_integer = discards

-- what a statement leads to: what is known then, its findings, what it holds and its searches; or a refusal: its number, and the
-- token where it stands
pub data Turn : Type 0 where
  goes : Known → List Diag → List Held → List ℕ → Turn
  refuses : ℕ → ℕ → Turn

pub data Outcome : Type 0 where
  judged : List Diag → List Held → List ℕ → Outcome
  refused : ℕ → ℕ → Outcome

module _ (ts : List Content) where
  abbrev pub content : ℕ → Content
  content t = get_or ts t eof

  -- the bytes of the name at a token
  abbrev pub name_at : ℕ → List ℕ
  name_at t = name_in (content t)

  abbrev pub literal_at : ℕ → Value
  literal_at t = literal_value t (content t)

  -- ---- paths

  -- "A last name that is a module is `NotAValue`". What a path comes to stands at its first name, p.
  abbrev pub last_item : ℕ → ℕ → Option Value → Judged Term
  last_item p t (some v) = val (atom p (constant v))
  last_item p t none = err t not_a_value

  -- "Each inner name must be a module: else `NotAModule`"
  abbrev pub inner_item : ℕ → Option Value → Judged Term → Judged Term
  inner_item t (some v) on = err t not_a_module
  inner_item t none on = on

  -- n names below the module m, each two tokens after the one before, which is t; "`UnknownItem` if absent"
  unfoldable pub walk : ℕ → ℕ → ℕ → ℕ → Judged Term
  walk p zero m t = poisoned
  walk p (suc zero) m t = elim (lookup m (name_at (t + 2))) [
    | none ↦ err (t + 2) (unknown_item m)
    | some k ↦ last_item p (t + 2) (entry_at k).value
  ]
  walk p (suc (suc n)) m t = elim (lookup m (name_at (t + 2))) [
    | none ↦ err (t + 2) (unknown_item m)
    | some k ↦ inner_item (t + 2) (entry_at k).value (walk p (suc n) k (t + 2))
  ]

  -- "A path's module must be imported, else `NotImported` at it"
  abbrev pub below : ℕ → ℕ → Option Import → Judged Term
  below t n none = err t not_imported
  below t n (some i) = elim i.found [ none ↦ poisoned | some m ↦ walk t n m t ]

  abbrev pub bound_to : ℕ → Option Binding → Judged Term
  bound_to t none = err t unknown_name
  bound_to t (some b) = elim b.value [ some a ↦ val (atom t a) | none ↦ poisoned ]

-- ---- values that are used

-- "the callee is judged as a value (`VoidValue` at its place if it is void)", and so are arguments, operands, the value of a `let`
-- and what stands before a `.`
unfoldable pub used : Term → Judgement Term
used v = if' (same_ty ty_void (term_type v)) (wrong (term_at v) void_value) (fine v)

abbrev pub unsized_of : Term → Option ℕ
unsized_of v = elim (constant_of v) [ some c ↦ unsized c | none ↦ none ]

-- "takes the smallest of u8, u16, u32, u64 that holds it"; any other value as it is
unfoldable pub narrowed : Term → Option Term
narrowed v = elim (unsized_of v) [
  | some i ↦ elim (smallest i) [ some t ↦ some (atom (term_at v) (constant (is_sized t i))) | none ↦ none ]
  | none ↦ some v
]

-- "For bool an untyped integer is `true` unless 0"
abbrev pub as_bool : Term → ℕ → Judgement Term
as_bool v i = fine (atom (term_at v) (constant (is_bool (not (eqb i 0)))))

-- "For bytes an untyped integer takes its smallest type (`IntegralTooLarge` at the argument)"
abbrev pub as_bytes : ℕ → Term → Judgement Term
as_bytes at v = elim (narrowed v) [ some w ↦ fine w | none ↦ wrong at integral_too_large ]

-- "any integer or bool fits unchanged"; "integers, bools, bytes, Pkt and Ip4 fit unchanged"; "Ip4 and Sock4 want just that type"
abbrev pub as_it_is : Ty → Judgement Term → Term → Judgement Term
as_it_is wanted otherwise v = if' (fits wanted (term_type v)) (fine v) otherwise

-- the statement is the one numbered n
module _ (n : ℕ) where
  -- "the integer is taken modulo 2^16, with `Truncated` if that changes it"
  abbrev pub cut : ℕ → IntType → ℕ → List Diag
  cut at t i = if' (is_truncated t i) (diag n at (truncated i (ty_int t)) ∷ []) []

  -- "`Overflow` (found, wanted) if its type is wider"
  abbrev pub widened : ℕ → IntType → Ty → List Diag
  widened at t found = if' (ltb (bits t) (bits_of found)) (diag n at (overflow found (ty_int t)) ∷ []) []

  -- check.rs `narrow_to`, of a value that starts at the token `at`: "an untyped integer, or a constant of any integer type or bool,
  -- becomes a constant of that type"; "a value not known before the run stays as it is"; anything else is `otherwise`
  unfoldable pub narrow_to : IntType → ℕ → Judgement Term → Term → Judgement Term
  narrow_to t at otherwise v = elim (constant_of v) [
    | some c ↦ elim (integer_of c) [
      | some i ↦ judgement (val (atom (term_at v) (constant (is_sized t (low_bits t i))))) (cut at t i)
      | none ↦ otherwise
    ]
    | none ↦ if' (is_integral (term_type v)) (judgement (val v) (widened at t (term_type v))) otherwise
  ]

  -- check.rs `fit`: to the type of a parameter, the value that starts at the token `at`
  unfoldable pub fit : Ty → ℕ → Judgement Term → Term → Judgement Term
  fit (ty_int t) at otherwise v = narrow_to t at otherwise v
  fit ty_bool at otherwise v = elim (unsized_of v) [ some i ↦ as_bool v i | none ↦ as_it_is ty_bool otherwise v ]
  fit ty_bytes at otherwise v = elim (unsized_of v) [ some i ↦ as_bytes at v | none ↦ as_it_is ty_bytes otherwise v ]
  fit ty_void at otherwise v = as_it_is ty_void otherwise v
  fit ty_ip4 at otherwise v = as_it_is ty_ip4 otherwise v
  fit ty_sock4 at otherwise v = as_it_is ty_sock4 otherwise v
  fit ty_pkt at otherwise v = as_it_is ty_pkt otherwise v
  fit ty_pkt_gen at otherwise v = as_it_is ty_pkt_gen otherwise v
  fit ty_time_jump at otherwise v = as_it_is ty_time_jump otherwise v
  fit (ty_function k) at otherwise v = as_it_is (ty_function k) otherwise v
  fit ty_integer at otherwise v = as_it_is ty_integer otherwise v

-- ---- calls

-- an argument that was judged, and its first token
pub record Arg : Type 0 where
  pub at : ℕ
  pub term : Term

abbrev pub arg : ℕ → Term → Arg
arg at v = record { at = at; term = v }

-- after some arguments the one that starts at the token `at` and comes to r
unfoldable pub next_arg : ℕ → Judgement Term → List Arg → Judgement (List Arg)
next_arg at r as' = and_then r (λ v. and_then (used v) (λ w. fine (as' ++ arg at w ∷ [])))

-- "at the called name (a path's last name, a local, a member's name; else the callee's first token)"
abbrev pub called_name : Expr → ℕ
called_name (local t) = t
called_name (path t m) = t + 2 * m
called_name (member e t) = t
called_name (literal t) = t
called_name (sock4 t) = t
called_name (call e t g) = first_of e
called_name (slash' a b) = first_of a

-- "a call with a named argument"
abbrev pub any_named : Args → Bool
any_named none_given = false
any_named (given g e) = any_named g
any_named (named g t e) = true

module _ (n : ℕ) where
  -- bind.rs, for the call at the token `at` of the function f, which takes `wanted` and is given `many`: argument by argument, from
  -- the parameter numbered i on. "`TooManyArgs` .. at the first surplus argument when it is reached, after those before it were
  -- fitted with their warnings; `fit` to its parameter, `ArgType` .. at the argument; `TooFewArgs` at the called name after all
  -- were fitted"
  module _ (at f many wanted : ℕ) where
    abbrev pub fitted : ℕ → Param → Arg → Judgement Term
    fitted i p a = fit n p.type a.at (wrong a.at (arg_type f i p.type (term_type a.term))) a.term

    unfoldable pub bind_from : ℕ → List Param → List Arg → Judgement Terms
    bind_from i [] [] = fine no_more
    bind_from i [] (a ∷ as') = wrong a.at (too_many_args f many wanted)
    bind_from i (p ∷ ps) [] = wrong at (too_few_args f many wanted)
    bind_from i (p ∷ ps) (a ∷ as') = and_then (fitted i p a) (λ v. and_then (bind_from (suc i) ps as') (λ vs. fine (more v vs)))

  abbrev pub bind_all : ℕ → ℕ → List Arg → Judgement Terms
  bind_all at f as' = bind_from at f (length as') (length (entry_at f).params) 0 (entry_at f).params as'

  -- what follows on the callee c of the call at the token `at`, whose `(` is at p and whose arguments are g, which come to r: "if it
  -- is no function, `NotCallable` with what was found"; 8 "is met when the callee has been judged, before any argument is"; "then
  -- all arguments left to right", and then they are bound. "The call stands at its called name"
  abbrev pub of_function : ℕ → ℕ → Args → Judgement (List Arg) → Term → Option ℕ → Judgement Term
  of_function at p g r c none = wrong at (not_callable (term_type c))
  of_function at p g r c (some f) =
      if' (any_named g) (judgement (stopped p) [])
      (and_then r (λ as'. and_then (bind_all at f as') (λ vs. fine (called at c f vs))))

  unfoldable pub applied : ℕ → ℕ → Args → Judgement (List Arg) → Term → Judgement Term
  applied at p g r c = and_then (used c) (λ d. of_function at p g r d (function_of (term_type d)))

-- ---- `/` and `.`

-- "The left must be `Ip4`"; "`OperandType` and `VoidValue` stand at the value's place"
abbrev pub left_operand : Term → Judgement Term
left_operand a = if' (same_ty ty_ip4 (term_type a)) (fine a) (wrong (term_at a) (operand_type left ty_ip4 (term_type a)))

-- "Only two constants fold"
abbrev pub folded : ℕ → Term → Term → Option ℕ → Option ℕ → Term
folded at a b (some ip) (some port) = atom at (constant (is_sock4 ip port))
folded at a b (some ip) none = divided at a b
folded at a b none p = divided at a b

abbrev pub known_ip4 : Term → Option ℕ
known_ip4 a = elim (constant_of a) [ some v ↦ ip4_of v | none ↦ none ]

abbrev pub known_integer : Term → Option ℕ
known_integer b = elim (constant_of b) [ some v ↦ integer_of v | none ↦ none ]

abbrev pub joined : ℕ → Term → Term → Term
joined at a b = folded at a b (known_ip4 a) (known_integer b)

-- "In the base no value has members: `NoMembers`, at the name"
unfoldable pub membered : ℕ → Term → Judgement Term
membered t o = and_then (used o) (λ v. wrong t (no_members (term_type v)))

module _ (n : ℕ) where
  -- "Right of `/`, the integer is taken modulo 2^16"; "`Overflow` at the right operand where its type is wider than u16"
  abbrev pub right_operand : ℕ → Term → Judgement Term
  right_operand at b = narrow_to n u16 at (wrong (term_at b) (operand_type right (ty_int u16) (term_type b))) b

  -- what follows on the left operand a of the `/` at the token `at`, whose right one starts at p and comes to r: "is judged first;
  -- if it errs the right is not looked at"
  unfoldable pub over : ℕ → ℕ → Judgement Term → Term → Judgement Term
  over at p r a =
      and_then (used a) (λ v. and_then (left_operand v) (λ ip.
      and_then r (λ b. and_then (used b) (λ w. and_then (right_operand p w) (λ port. fine (joined at ip port))))))

module _ (ts : List Content) (n : ℕ) where
  -- an expression of the statement numbered n. What stands before a `.`, a `/` or a `(` comes first.
  unfoldable mutual
    pub judge : Known → Expr → Judgement Term
    judge k (literal t) = fine (atom t (constant (literal_at ts t)))
    judge k (sock4 t) = fine (atom t (constant (is_sock4 (content_low (content ts t)) (content_low (content ts (t + 2))))))
    judge k (local t) =
        record { out = bound_to ts t (find k.bindings (name_at ts t)); warns = []; looks = compared k.bindings (name_at ts t) ∷ [] }
    judge k (path t m) = judgement (below ts t m (find_import k.imports (name_at ts t))) []
    judge k (member e t) = and_then (judge k e) (membered t)
    judge k (slash' a b) = and_then (judge k a) (over n (first_of a) (first_of b) (judge k b))
    judge k (call e t g) = and_then (judge k e) (applied n (called_name e) t g (judge_args k g))

    -- "Then all arguments left to right, each a value". A named one is never asked for: 8 stands before it
    pub judge_args : Known → Args → Judgement (List Arg)
    judge_args k none_given = fine []
    judge_args k (given g e) = and_then (judge_args k g) (next_arg (first_of e) (judge k e))
    judge_args k (named g t e) = and_then (judge_args k g) (next_arg (first_of e) (judge k e))

  -- ---- statements

  abbrev pub imported : Known → ℕ → Option ℕ → Turn
  imported k t (some m) = goes (known (k.imports ++ record { name = name_at ts t; found = some m } ∷ []) k.bindings k.slots) [] [] []
  imported k t none = goes (known (k.imports ++ record { name = name_at ts t; found = none } ∷ []) k.bindings k.slots) (diag n t unknown_module ∷ []) [] []

  -- "importing a name again warns `MultipleImports`"
  abbrev pub import_stmt : Known → ℕ → Option Import → Turn
  import_stmt k t (some i) = goes k (diag n t multiple_imports ∷ []) [] []
  import_stmt k t none = if' (ltb (length k.imports) most_imports) (imported k t (lookup 0 (name_at ts t))) (refuses names_number t)

  abbrev pub bind : Known → ℕ → Option Atom → ℕ → Known
  bind k t v m = known k.imports (k.bindings ++ record { name = name_at ts t; tok = t; value = v } ∷ []) m

  -- "a constant binds as before. A local that has a slot makes an alias and no statement. Any other value takes the next slot,
  -- numbered from 0 in order of creation, and holds a `Let` statement at its name"
  abbrev pub bound_as : Known → ℕ → Term → Option Atom → List Diag → List ℕ → Turn
  bound_as k t v (some a) ws ls = goes (bind k t (some a) k.slots) ws [] ls
  bound_as k t v none ws ls =
      goes (bind k t (some (slot k.slots (term_type v))) (suc k.slots)) ws (held t (lets k.slots) v ∷ []) ls

  -- "A let whose value errs binds its name as failed"
  abbrev pub bound : Known → ℕ → Judged Term → List Diag → List ℕ → Turn
  bound k t (val v) ws ls = bound_as k t v (atom_of v) ws ls
  bound k t (err at w) ws ls = goes (bind k t none k.slots) (ws ++ diag n at w ∷ []) [] ls
  bound k t poisoned ws ls = goes (bind k t none k.slots) ws [] ls
  bound k t (stopped p) ws ls = refuses named_number p

  -- "`AlreadyBound` is found before the value is read": that takes a search, which looks at l names
  abbrev pub let_stmt : Known → ℕ → Expr → ℕ → Option Binding → Turn
  let_stmt k t e l (some b) = goes k (diag n t (already_bound b.tok) ∷ []) [] (l ∷ [])
  let_stmt k t e l none =
      let j = and_then (judge k e) used in
      if' (ltb (length k.bindings) most_names) (bound k t j.out j.warns (l ∷ j.looks)) (refuses names_number t)

  -- "A value statement warns `DiscardedValue` with its type"
  abbrev pub discarded : ℕ → Ty → Deed → List Diag
  discarded at t discards = diag n at (discarded_value t) ∷ []
  discarded at t (lets m) = []
  discarded at t emits = []
  discarded at t waits = []
  discarded at t evals = []

  abbrev pub does : Known → ℕ → Term → Deed → List Diag → List ℕ → Turn
  does k at v d ws ls = goes k (ws ++ discarded at (term_type v) d) (held at d v ∷ []) ls

  -- "refused with `IntegralTooLarge` exactly if none does"
  abbrev pub sized : Known → ℕ → Option Term → List Diag → List ℕ → Turn
  sized k at (some v) ws ls = does k at v (deed_of (term_type v)) ws ls
  sized k at none ws ls = goes k (ws ++ diag n at integral_too_large ∷ []) [] ls

  abbrev pub told : Known → ℕ → Judged Term → List Diag → List ℕ → Turn
  told k at (val v) ws ls = sized k at (narrowed v) ws ls
  told k at (err p w) ws ls = goes k (ws ++ diag n p w ∷ []) [] ls
  told k at poisoned ws ls = goes k ws [] ls
  told k at (stopped p) ws ls = refuses named_number p

  unfoldable pub stmt : Known → Stmt → Turn
  stmt k (import' t) = import_stmt k t (find_import k.imports (name_at ts t))
  stmt k (let' t e) = let_stmt k t e (compared k.bindings (name_at ts t)) (find k.bindings (name_at ts t))
  stmt k (expr' e) = told k (first_of e) (judge k e).out (judge k e).warns (judge k e).looks

-- ---- the run: the statements from the one numbered n on, after what was found, held and looked at so far

module _ (ts : List Content) where
  abbrev pub onward : Turn → List Diag → List Held → List ℕ → (Known → List Diag → List Held → List ℕ → Outcome) → Outcome
  onward (goes k ds hs ms) es gs ls f = f k (es ++ ds) (gs ++ hs) (ls ++ ms)
  onward (refuses m t) es gs ls f = refused m t

  unfoldable pub run : List Stmt → ℕ → Known → List Diag → List Held → List ℕ → Outcome
  run [] n k ds hs ls = judged ds hs ls
  run (s ∷ ss) n k ds hs ls = onward (stmt ts n k s) ds hs ls (λ k' es gs ms. run ss (suc n) k' es gs ms)

  abbrev pub judge_all : List Stmt → Outcome
  judge_all ss = run ss 1 (known [] [] 0) [] [] []

-- ---- the claims

-- the findings of one statement hold at most one error
abbrev pub OneError : Type 0
OneError =
    (ts : List Content) (n : ℕ) (k k' : Known) (s : Stmt) (ds : List Diag) (hs : List Held) (ls : List ℕ) → stmt ts n k s ≡ goes k' ds hs ls
    → errors_in ds ≤ 1

-- a statement holds at most one, so a program holds as many as it has statements, or fewer
abbrev pub StatementsFew : Type 0
StatementsFew =
    (ts : List Content) (ss : List Stmt) (ds : List Diag) (hs : List Held) (ls : List ℕ) → judge_all ts ss ≡ judged ds hs ls
    → length hs ≤ length ss

-- every finding is an error or a warning
abbrev pub AllCounted : Type 0
AllCounted = (ds : List Diag) → errors_in ds + warnings_in ds ≡ length ds

-- a name that is bound already: what its `let` comes to does not depend on the value
abbrev pub BoundFirst : Type 0
BoundFirst =
    (ts : List Content) (n : ℕ) (k : Known) (t : ℕ) (e : Expr) (b : Binding) → find k.bindings (name_at ts t) ≡ some b
    → stmt ts n k (let' t e) ≡ goes k (diag n t (already_bound b.tok) ∷ []) [] (compared k.bindings (name_at ts t) ∷ [])

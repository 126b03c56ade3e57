-- The values and types that judging knows, and the constant table of 01 ("Judgements").
use Rattle.std.specs.Prelude.{ℕ, zero, suc, ◌≤◌, Bool, true, false, ◌&&◌, ◌||◌, List, [], ◌∷◌, eqb, ltb, length, get_or}
use Rattle.std.proofs.Math.Option.{Option, none, some}
use Rattle.language.specs.Choice.{if'}
use Rattle.language.specs.Integers.{IntType, u8, u16, u32, u64, bits}
use Rattle.language.specs.Lexemes.{same}
use Rattle.language.specs.Tokens.{between}

-- ---- values: all are known before the run

pub data Value : Type 0 where
  -- an integer that has no size yet: "`let` keeps the integer unsized"
  is_integer : ℕ → Value
  is_bool : Bool → Value
  is_sized : IntType → ℕ → Value
  is_ip4 : ℕ → Value
  -- an address and its port
  is_sock4 : ℕ → ℕ → Value
  -- bytes: the string of a token, or a part of the table's text
  is_string : ℕ → Value
  is_text : ℕ → ℕ → Value
  -- a function, by the number of its entry in the table
  is_function : ℕ → Value

-- check.rs `Ty`, and `Found::Int` for an integer with no size
pub data Ty : Type 0 where
  -- what a function gives that returns nothing
  ty_void : Ty
  ty_bool : Ty
  ty_int : IntType → Ty
  ty_ip4 : Ty
  ty_sock4 : Ty
  ty_bytes : Ty
  ty_pkt : Ty
  ty_pkt_gen : Ty
  ty_time_jump : Ty
  -- by the number of its entry
  ty_function : ℕ → Ty
  ty_integer : Ty

-- the numbers of types, in the order of check.rs; an integer with no size comes last
abbrev pub int_kind : IntType → ℕ
int_kind u8 = 3
int_kind u16 = 4
int_kind u32 = 5
int_kind u64 = 6

abbrev pub ty_kind : Ty → ℕ
ty_kind ty_void = 1
ty_kind ty_bool = 2
ty_kind (ty_int t) = int_kind t
ty_kind ty_ip4 = 7
ty_kind ty_sock4 = 8
ty_kind ty_bytes = 9
ty_kind ty_pkt = 10
ty_kind ty_pkt_gen = 11
ty_kind ty_time_jump = 12
ty_kind (ty_function k) = 14
ty_kind ty_integer = 16

-- two types, of which one is no function, are the same
abbrev pub same_ty : Ty → Ty → Bool
same_ty t u = eqb (ty_kind t) (ty_kind u)

-- check.rs `Ty::bits`: how many an integer or a bool has; 0 for any other
abbrev pub bits_of : Ty → ℕ
bits_of ty_bool = 1
bits_of (ty_int t) = bits t
bits_of ty_void = 0
bits_of ty_ip4 = 0
bits_of ty_sock4 = 0
bits_of ty_bytes = 0
bits_of ty_pkt = 0
bits_of ty_pkt_gen = 0
bits_of ty_time_jump = 0
bits_of (ty_function k) = 0
bits_of ty_integer = 0

-- check.rs `Ty::is_integral`
abbrev pub is_integral : Ty → Bool
is_integral t = ltb 0 (bits_of t)

-- check.rs `Ty::fits`: a value of the second type can be passed, as it is, for a parameter of the first
abbrev pub fits : Ty → Ty → Bool
fits ty_bool t = is_integral t
fits (ty_int u) t = is_integral t
fits ty_bytes t = is_integral t || (same_ty ty_bytes t || (same_ty ty_pkt t || same_ty ty_ip4 t))
fits ty_pkt_gen t = same_ty ty_pkt_gen t || same_ty ty_pkt t
fits ty_ip4 t = same_ty ty_ip4 t
fits ty_sock4 t = same_ty ty_sock4 t
fits ty_pkt t = same_ty ty_pkt t
fits ty_time_jump t = same_ty ty_time_jump t
fits ty_void t = false
fits (ty_function k) t = false
fits ty_integer t = false

abbrev pub type_of : Value → Ty
type_of (is_integer n) = ty_integer
type_of (is_bool b) = ty_bool
type_of (is_sized t n) = ty_int t
type_of (is_ip4 n) = ty_ip4
type_of (is_sock4 n p) = ty_sock4
type_of (is_string t) = ty_bytes
type_of (is_text a b) = ty_bytes
type_of (is_function k) = ty_function k

-- ---- the constant table

-- a parameter of a function: its name, a part of the table's text, and its type
pub record Param : Type 0 where
  pub start : ℕ
  pub end : ℕ
  pub type : Ty

abbrev pub param : ℕ → ℕ → Ty → Param
param a b t = record { start = a; end = b; type = t }

-- An entry is named by its number, from 1 on; 0 is the root, which holds the modules that can be imported. `inside` is the
-- number of the module that holds it, its name is a part of the table's text; an entry with no value is a module. A function has
-- its parameters in order, "all required, positional, and without collection" (02, E2), and the type that it gives.
pub record Entry : Type 0 where
  pub inside : ℕ
  pub start : ℕ
  pub end : ℕ
  pub value : Option Value
  pub params : List Param
  pub gives : Ty

-- one that is no function
abbrev pub entry : ℕ → ℕ → ℕ → Option Value → Entry
entry m a b v = record { inside = m; start = a; end = b; value = v; params = []; gives = ty_void }

-- the function that is the entry k
abbrev pub function : ℕ → ℕ → ℕ → ℕ → List Param → Ty → Entry
function k m a b ps t = record { inside = m; start = a; end = b; value = some (is_function k); params = ps; gives = t }

-- "benchHTTPLOOPBIGONBANNERokpingdeepZERO", then "pausetimebursttobodymarkonpickporthostnumber"
unfoldable pub table_text : List ℕ
table_text =
    98 ∷ 101 ∷ 110 ∷ 99 ∷ 104 ∷ 72 ∷ 84 ∷ 84 ∷ 80 ∷ 76 ∷ 79 ∷ 79 ∷ 80 ∷ 66 ∷ 73 ∷ 71 ∷ 79 ∷ 78
    ∷ 66 ∷ 65 ∷ 78 ∷ 78 ∷ 69 ∷ 82 ∷ 111 ∷ 107 ∷ 112 ∷ 105 ∷ 110 ∷ 103 ∷ 100 ∷ 101 ∷ 101 ∷ 112 ∷ 90 ∷ 69 ∷ 82 ∷ 79
    ∷ 112 ∷ 97 ∷ 117 ∷ 115 ∷ 101 ∷ 116 ∷ 105 ∷ 109 ∷ 101 ∷ 98 ∷ 117 ∷ 114 ∷ 115 ∷ 116 ∷ 116 ∷ 111 ∷ 98 ∷ 111 ∷ 100 ∷ 121
    ∷ 109 ∷ 97 ∷ 114 ∷ 107 ∷ 111 ∷ 110 ∷ 112 ∷ 105 ∷ 99 ∷ 107 ∷ 112 ∷ 111 ∷ 114 ∷ 116 ∷ 104 ∷ 111 ∷ 115 ∷ 116
    ∷ 110 ∷ 117 ∷ 109 ∷ 98 ∷ 101 ∷ 114 ∷ []

-- "module `bench` with `HTTP` u16 80, `LOOP` 127.0.0.1, `BIG` u32 70000, `ON` true, `BANNER` bytes `ok`, function `ping`,
-- and inner module `deep` with `ZERO` u8 0". And (02, E2): "`ping` takes an Ip4 and returns Pkt. The bench table gains `pause` (u32)
-- to TimeJump, `burst` (Sock4, bytes) to PktGen, `mark` (bool) to void, `pick` (u16) to u32 and `host` (u8) to Ip4." The names of
-- the parameters, `to`, `time`, `to` and `body`, `on`, `port`, `number`, are ours.
unfoldable pub entries : List Entry
entries =
    entry 0 0 5 none
    ∷ entry 1 5 9 (some (is_sized u16 80))
    ∷ entry 1 9 13 (some (is_ip4 0x7f000001))
    ∷ entry 1 13 16 (some (is_sized u32 70000))
    ∷ entry 1 16 18 (some (is_bool true))
    ∷ entry 1 18 24 (some (is_text 24 26))
    ∷ function 7 1 26 30 (param 52 54 ty_ip4 ∷ []) ty_pkt
    ∷ entry 1 30 34 none
    ∷ entry 8 34 38 (some (is_sized u8 0))
    ∷ function 10 1 38 43 (param 43 47 (ty_int u32) ∷ []) ty_time_jump
    ∷ function 11 1 47 52 (param 52 54 ty_sock4 ∷ param 54 58 ty_bytes ∷ []) ty_pkt_gen
    ∷ function 12 1 58 62 (param 62 64 ty_bool ∷ []) ty_void
    ∷ function 13 1 64 68 (param 68 72 (ty_int u16) ∷ []) (ty_int u32)
    ∷ function 14 1 72 76 (param 76 82 (ty_int u8) ∷ []) ty_ip4
    ∷ []

-- the entry numbered k; past the end a nameless one
abbrev pub entry_at : ℕ → Entry
entry_at zero = entry 0 0 0 none
entry_at (suc k) = get_or entries k (entry 0 0 0 none)

abbrev pub entry_name : Entry → List ℕ
entry_name e = between table_text e.start e.end

-- the number of the first entry inside the module m with a name, the first of the list numbered k
unfoldable pub lookup_from : List Entry → ℕ → ℕ → List ℕ → Option ℕ
lookup_from [] k m bs = none
lookup_from (e ∷ es) k m bs = if' (eqb e.inside m && same (entry_name e) bs) (some k) (lookup_from es (suc k) m bs)

abbrev pub lookup : ℕ → List ℕ → Option ℕ
lookup m bs = lookup_from entries 1 m bs

-- ---- the claims

-- no function has more than two parameters
abbrev pub FewParams : Type 0
FewParams = (k : ℕ) → length (entry_at k).params ≤ 2

-- What an expression comes to (hir.rs `Expr`): a constant, or an expression that is not known before the run, with its type and
-- every place that hir.rs has. A place is the index of a token.
use Rattle.std.specs.Prelude.{ℕ, suc}
use Rattle.std.proofs.Math.Option.{Option, none, some}
use Rattle.language.specs.Values.{Value, Ty, ty_void, ty_bool, ty_int, ty_ip4, ty_sock4, ty_bytes, ty_pkt, ty_pkt_gen, ty_time_jump, ty_function, ty_integer, type_of, entry_at}

-- what a name can stand for (check.rs `BindState`): a constant, or the slot of a value that is not known before the run, with its
-- type
pub data Atom : Type 0 where
  constant : Value → Atom
  slot : ℕ → Ty → Atom

mutual
  pub data Term : Type 0 where
    -- what has no parts, and its place
    atom : ℕ → Atom → Term
    -- a call: its place, the callee, the function's entry, and the arguments, one for each parameter
    called : ℕ → Term → ℕ → Terms → Term
    -- `/` that is not folded: its place, and both operands
    divided : ℕ → Term → Term → Term

  pub data Terms : Type 0 where
    no_more : Terms
    more : Term → Terms → Terms

abbrev pub count : Terms → ℕ
count no_more = 0
count (more e es) = suc (count es)

-- "where an error about this value points" (check.rs `Value::loc`)
abbrev pub term_at : Term → ℕ
term_at (atom p a) = p
term_at (called p c f es) = p
term_at (divided p a b) = p

abbrev pub atom_type : Atom → Ty
atom_type (constant v) = type_of v
atom_type (slot s t) = t

-- "The call .. has the function's return type"
abbrev pub term_type : Term → Ty
term_type (atom p a) = atom_type a
term_type (called p c f es) = (entry_at f).gives
term_type (divided p a b) = ty_sock4

abbrev pub atom_of : Term → Option Atom
atom_of (atom p a) = some a
atom_of (called p c f es) = none
atom_of (divided p a b) = none

abbrev pub value_in : Atom → Option Value
value_in (constant v) = some v
value_in (slot s t) = none

-- a value that is known before the run
abbrev pub constant_of : Term → Option Value
constant_of (atom p a) = value_in a
constant_of (called p c f es) = none
constant_of (divided p a b) = none

-- the entry of the function that a value of this type is
abbrev pub function_of : Ty → Option ℕ
function_of (ty_function k) = some k
function_of ty_void = none
function_of ty_bool = none
function_of (ty_int t) = none
function_of ty_ip4 = none
function_of ty_sock4 = none
function_of ty_bytes = none
function_of ty_pkt = none
function_of ty_pkt_gen = none
function_of ty_time_jump = none
function_of ty_integer = none

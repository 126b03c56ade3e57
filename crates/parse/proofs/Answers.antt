-- What the code's answers mean: from an answer that meets an outcome to the outcome, and back; and how far the code went.
use mathlib.Core.Path.{◌≡◌}
use mathlib.Core.List.{List}
use Prim.Native.Nat.{ℕ, ◌+◌, ◌*◌, ◌≤◌}
use native.Mathlib.Omega.{arith}
use lib.ListN.{length}
use Rattle.std.specs.Prelude.{Option, Some, None, Result, Ok, Err, IsErrAnd}
use Rattle.std.proofs.lemmas.Result.{err_from_is_err_and}
use Rattle.language.specs.Sentences.{Expr, Args, Stmt, Out, ok, Node, nodes_from}
use Rattle.parse.specs.Parsing.{row_plus, place_of, no_of, Holds, with_stmt, Stands, Lists, MetExpr, MetArgs, MetStmt, MetAll, Ahead}
use Rattle.parse.specs.declared.ParseError.{ParseError}
use Rattle.parse.specs.declared.Parsed.{Parsed}
use Rattle.parse.specs.declared.Listed.{Listed}

-- what the exit of a `?` hands on
pub handed : {A : Type 0} {r : Result A ParseError} {x : ParseError} → IsErrAnd r (λ y. y ≡ x) → r ≡ Err x
handed {r = r} h = let p = err_from_is_err_and r h in cc (p.1, p.2)

-- ---- expressions

module _ {t : List ℕ} {ns : List Node} {first : ℕ} {o : Out Expr} where
  pub met_ok : {p : Parsed} {e : Expr} → o ≡ ok e p.next p.steps → Stands t ns e p.nodes first → MetExpr (Ok p) t ns first o
  met_ok {e = e} f h = record { met = (e, f, h) }

  pub met_no : {r : Result Parsed ParseError} {x : ParseError} → r ≡ Err x → o ≡ no_of x → MetExpr r t ns first o
  met_no q f = record { met = rw q f }

  -- the definition gives the same
  pub met_by : {r : Result Parsed ParseError} {o' : Out Expr} → o ≡ o' → MetExpr r t ns first o' → MetExpr r t ns first o
  met_by e h = rw e h

-- ---- arguments

pub no_row : {first : Option ℕ} → first ≡ None → row_plus first ≡ 0
no_row e = rw e

pub a_row : {first : Option ℕ} {row : ℕ} → first ≡ Some row → row_plus first ≡ row + 1
a_row e = rw e

module _ {t : List ℕ} {ns : List Node} {o : Out Args} where
  pub list_ok : {p : Listed} {g : Args} {s : ℕ} → o ≡ ok g p.next s → Lists t ns g p.nodes (row_plus p.first) → MetArgs (Ok p) t ns o
  list_ok {g = g} {s} f h = record { met = (g, s, f, h) }

  pub list_no : {r : Result Listed ParseError} {x : ParseError} → r ≡ Err x → o ≡ no_of x → MetArgs r t ns o
  list_no q f = record { met = rw q f }

-- ---- statements

module _ {t : List ℕ} {ns : List Node} {o : Out Stmt} where
  pub stmt_ok : {p : Parsed} {s : Stmt} {x : ℕ} → p.steps ≡ 0 → o ≡ ok s p.next x → length (with_stmt ns s) ≡ p.nodes → Holds t (with_stmt ns s) → MetStmt (Ok p) t ns o
  stmt_ok {s = s} {x} z f l h = record { met = (s, x, f, l, z, h) }

  pub stmt_no : {r : Result Parsed ParseError} {x : ParseError} → r ≡ Err x → o ≡ no_of x → MetStmt r t ns o
  stmt_no q f = record { met = rw q f }

  pub stmt_by : {r : Result Parsed ParseError} {o' : Out Stmt} → o ≡ o' → MetStmt r t ns o' → MetStmt r t ns o
  stmt_by e h = rw e h

module _ {t : List ℕ} {o : Out (List Stmt)} where
  pub all_ok : {p : Parsed} {ss : List Stmt} {x : ℕ} → p.steps ≡ 0 → o ≡ ok ss p.next x → length (nodes_from 0 ss) ≡ p.nodes → Holds t (nodes_from 0 ss) → MetAll (Ok p) t o
  all_ok {ss = ss} {x} z f l h = record { met = (ss, x, f, l, z, h) }

  pub all_no : {r : Result Parsed ParseError} {x : ParseError} → r ≡ Err x → o ≡ no_of x → MetAll r t o
  all_no q f = record { met = rw q f }

-- ---- how far the code went

pub ahead_no : {r : Result Parsed ParseError} {x : ParseError} {d len at count steps : ℕ} → r ≡ Err x → place_of x ≤ len + 3 → Ahead d len at count steps r
ahead_no e h = record { on = rw e h }

-- a part and another after it
pub ahead_more : {r : Result Parsed ParseError} {d x len at count steps next n s : ℕ} → at + d ≤ next → count + d ≤ n + x → n + 2 * at ≤ count + 2 * next → s ≤ steps → Ahead x len next n s r → Ahead d len at count steps r
ahead_more {r = Ok p} a b u v h = record { on = omega (arith, h.on) }
ahead_more {r = Err y} a b u v h = record { on = h.on }

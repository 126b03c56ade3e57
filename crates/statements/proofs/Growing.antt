-- What a statement adds and holds, from what its parts do.
use mathlib.Core.Path.{◌≡◌, sym, ap, ◌∙◌}
use mathlib.Core.List.{List, [], ◌∷◌, ◌++◌, append-nil}
use Prim.Native.Nat.{ℕ}
use native.Mathlib.Omega.{arith}
use lib.ListN.{length}
use Rattle.language.specs.Terms as terms
use Rattle.language.specs.Judgements.{Diag, Deed, Held, held, Known}
use Rattle.language.specs.Findings.{row, deed_kind, deed_slot, parts, held_rows, rows_of, stmt_row}
use Rattle.language.specs.Numbers.{token_of}
use Rattle.findings.specs.declared.Counts.{Counts}
use Rattle.findings.specs.Findings.{added, Adds}
use Rattle.findings.proofs.Adds.{adds_last, adds_statements}
use Rattle.findings.proofs.Rows.{no_rows}
use Rattle.values.specs.declared.Term.{Term}
use Rattle.holding.specs.Holding.{put_held, Puts}
use Rattle.holding.proofs.Rows.{held_own}
use Rattle.judging.specs.Judging.{Left}
use Rattle.statements.specs.Checking.{unheld, Grows}

pub adds_unheld : {s : List ℕ} {c c' : Counts} {x y : List ℕ} {ds : List Diag} {ls : List ℕ} → Adds s c x c' y ds ls → Adds s (unheld c) x (unheld c') y ds ls
unfolding added
adds_unheld a = record { counted = ap unheld a.counted; diags = a.diags }

-- ---- the rows of one statement

pub rows_one : (h : Held) → rows_of (h ∷ []) ≡ held_rows h
unfolding rows_of
rows_one h = append-nil (held_rows h)

-- its own is stored before those of its parts, which were stored first
pub one_held : {s h u w : List ℕ} {at t kind slot next : ℕ} {v : Term} {e : terms.Term} (d : Deed) → Left s h u at e v next → Puts s at t kind slot v u w
    → kind ≡ deed_kind d → slot ≡ deed_slot d → w ≡ put_held s h at (rows_of (held t d e ∷ []))
one_held {s} {h} {at = at} {t} {e = e} d l p q o =
    p.is e l.value ∙ rw (l.table, q, o) (held_own s h at (row t (deed_kind d) (deed_slot d) e) (parts e))
    ∙ ap (put_held s h at) (sym (rows_one (held t d e)))

-- ---- what is added and held

module _ {s : List ℕ} {P : Type 0} {k : Known} {c c' : Counts} {x u y v : List ℕ} {ds : List Diag} {ls : List ℕ} where
  -- nothing is held
  pub grows_none : Adds s c x c' y ds ls → c.slots ≡ k.slots → (P → v ≡ u) → Grows s P c x u c' y v k ds [] ls
  unfolding added rows_of
  grows_none a q h =
      record {
        adds = adds_unheld a;
        slots = ap (λ (z : Counts). z.slots) a.counted ∙ q;
        statements = omega (arith, adds_statements a);
        stmts = λ p. h p ∙ no_rows (stmt_row (token_of s)) u c.statements;
      }

  -- a statement is
  pub grows_held : {w : List ℕ} {t kind slot next : ℕ} {f : Term} {e : terms.Term} (d : Deed) → Adds s (unheld c) x (unheld c') y ds ls → c'.slots ≡ k.slots
      → c'.statements ≡ next → Left s u v c.statements e f next → Puts s c.statements t kind slot f v w → kind ≡ deed_kind d → slot ≡ deed_slot d
      → Grows s P c x u c' y w k ds (held t d e ∷ []) ls
  grows_held {t = t} {e = e} d a q n l p i j =
      record {
        adds = a;
        slots = q;
        statements = omega (arith, n, l.free, ap length (rows_one (held t d e)));
        stmts = λ _. one_held d l p i j;
      }

-- behind the warnings of its expression
pub grows_after : {s : List ℕ} {P : Type 0} {k : Known} {c c1 c' : Counts} {x u y z v : List ℕ} {ws ds : List Diag} {hs : List Held} {ls : List ℕ}
    → Adds s c x c1 y ws ls → Grows s P c1 y u c' z v k ds hs [] → Grows s P c x u c' z v k (ws ++ ds) hs ls
grows_after {s} {u = u} {hs = hs} a g =
    record {
      adds = adds_last (adds_unheld a) g.adds;
      slots = g.slots;
      statements = omega (arith, g.statements, adds_statements a);
      stmts = λ p. g.stmts p ∙ ap (λ (m : ℕ). put_held s u m (rows_of hs)) (adds_statements a);
    }

-- where more is asked of the expression
pub grows_if : {s : List ℕ} {P Q : Type 0} {k : Known} {c c' : Counts} {x u y v : List ℕ} {ds : List Diag} {hs : List Held} {ls : List ℕ} → (Q → P)
    → Grows s P c x u c' y v k ds hs ls → Grows s Q c x u c' y v k ds hs ls
grows_if f g = record { adds = g.adds; slots = g.slots; statements = g.statements; stmts = λ q. g.stmts (f q) }

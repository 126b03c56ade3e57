-- A row of the node table as the run meets it: which statement stands there, by its kind, and what its turn needs and gives.
use mathlib.Core.Path.{◌≡◌, refl, sym, ap, subst, ◌∙◌}
use mathlib.Core.List.{List}
use Prim.Native.Nat.{ℕ, ◌+◌, ◌*◌, ◌≤◌, ◌<◌}
use native.Mathlib.Omega.{arith}
use lib.ListN.{length}
use Rattle.std.specs.Prelude.{Result, Ok}
use Rattle.language.specs.Sentences.{Expr, Stmt, import', let', expr', program_size, node_width}
use Rattle.language.specs.Judgements.{Known, most_names}
use Rattle.rows.specs.Rows.{node_word}
use Rattle.findings.specs.declared.Counts.{Counts}
use Rattle.findings.specs.Findings.{most_compared, plus_search}
use Rattle.holding.specs.Holding.{most_rows}
use Rattle.judging.specs.Judging.{most_findings, Knows, Ready, RepAt}
use Rattle.statements.specs.Turned.{Turn, Went}
use Rattle.statements.specs.declared.Refusal.{Refusal}
use Rattle.statements.specs.Checking.{plus_number, Room, StmtFits, StmtsAt, at_end, no_stmt, an_import, a_let, an_expr, RowFits, RowTurns, passes, takes, Turns}

-- ---- a statement is begun, or a name searched: what was known stays so

module _ (c e : Counts) (p : e.used ≡ c.used) (q : e.imported ≡ c.imported) {d : Counts} (b : d ≡ e) {s bindings imports : List ℕ} where
  pub same_knows : {k : Known} → e.slots ≡ c.slots → Knows s bindings imports c k → Knows s bindings imports d k
  same_knows o kn = record { is = rw (b, p, q, o) kn.is }

  pub same_ready : Ready s bindings imports c → Ready s bindings imports d
  same_ready r =
      record {
        bound = rw (b, p) r.bound;
        few = rw (b, p) r.few;
        modules = rw (b, q) r.modules;
        sound = rw (b, p) r.sound;
        keyed = rw (b, p) r.keyed;
        keyed_modules = rw (b, q) r.keyed_modules;
      }

pub searched_number : (c : Counts) (l : ℕ) {d : Counts} {n : ℕ} → d ≡ plus_search c l → n ≡ c.number → n ≡ d.number
searched_number c l b e = e ∙ sym (ap (λ (z : Counts). z.number) b)

module _ (c : Counts) {d : Counts} (b : d ≡ plus_number c) where
  pub begun_number : {n : ℕ} → n ≡ c.number + 1 → n ≡ d.number
  begun_number e = e ∙ sym (ap (λ (z : Counts). z.number) b)

  -- a turn that was taken from there
  from_there : {s : List ℕ} {n : ℕ} {k : Known} {st : Stmt} {x u y v : List ℕ} {r : Result Turn Refusal} → Turns s n k st d x u r y v → Turns s n k st (plus_number c) x u r y v
  from_there {s} {n} {k} {st} {x} {u} {y} {v} {r} g = subst (λ (z : Counts). Turns s n k st z x u r y v) b g

-- ---- rows

module _ {ws : List ℕ} {i : ℕ} (inside : node_width * i + node_width ≤ length ws) where
  -- what the statement of a row needs

  import_size : {ss : List Stmt} → StmtsAt ws i ss → node_word ws i 0 ≡ 11 → 1 ≤ program_size ss
  import_size (at_end l) q = absurd (omega (arith, inside))
  import_size (no_stmt f h on) q = absurd (omega (arith, q))
  import_size (an_import f h on) q = omega arith
  import_size (a_let f h r on) q = absurd (omega (arith, q))
  import_size (an_expr f h r on) q = absurd (omega (arith, q))

  pub import_room : {c d : Counts} → d ≡ plus_number c → RowFits ws i c → node_word ws i 0 ≡ 11 → Room d
  import_room b f q =
      let one = import_size f.stands q in
      rw b (record { findings = omega (arith, f.room, one); held = omega (arith, f.held, one); slots = omega (arith, f.slots, one) })

  tree_fits : {c : Counts} {ss : List Stmt} → StmtsAt ws i ss → 11 < node_word ws i 0 → c.errors + c.warnings + program_size ss + 1 ≤ most_findings
      → c.statements + program_size ss ≤ most_rows → c.slots + program_size ss ≤ most_findings → c.comparisons + most_names * program_size ss ≤ most_compared → StmtFits ws i c
  tree_fits (at_end l) q room held slots looks = absurd (omega (arith, inside))
  tree_fits (no_stmt f h on) q room held slots looks = absurd (omega (arith, q))
  tree_fits (an_import f h on) q room held slots looks = absurd (omega (arith, q))
  tree_fits (a_let {e = e} f h r on) q room held slots looks =
      record { tree = e; rep = r; room = omega (arith, room); held = omega (arith, held); slots = omega (arith, slots); looks = omega (arith, looks) }
  tree_fits (an_expr {e = e} f h r on) q room held slots looks =
      record { tree = e; rep = r; room = omega (arith, room); held = omega (arith, held); slots = omega (arith, slots); looks = omega (arith, looks) }

  -- of a `let` and of an expression
  pub stmt_fits : {c d : Counts} → d ≡ plus_number c → RowFits ws i c → 11 < node_word ws i 0 → StmtFits ws i d
  stmt_fits {c} b f q = rw b (tree_fits {c = plus_number c} f.stands q f.room f.held f.slots f.looks)

  -- what it gives

  module _ (s : List ℕ) (n : ℕ) (k : Known) (c : Counts) (x u : List ℕ) {d : Counts} (b : d ≡ plus_number c) where
    pub row_import : {r : Result Turn Refusal} {y : List ℕ} {t : ℕ} {ss : List Stmt} → node_word ws i 0 ≡ 11 → t ≡ node_word ws i 1 → StmtsAt ws i ss
        → Turns s n k (import' t) d x u r y u → RowTurns s ws i n k c x u r y u ss
    row_import q e (at_end l) g = absurd (omega (arith, inside))
    row_import q e (no_stmt f h on) g = absurd (omega (arith, q))
    row_import {r} {y} q e (an_import f h on) g = takes on (from_there c b (subst (λ (z : ℕ). Turns s n k (import' z) d x u r y u) e g))
    row_import q e (a_let f h z on) g = absurd (omega (arith, q))
    row_import q e (an_expr f h z on) g = absurd (omega (arith, q))

    pub row_let : {r : Result Turn Refusal} {y v : List ℕ} {ss : List Stmt} → node_word ws i 0 ≡ 12 → StmtsAt ws i ss
        → ((e : Expr) → RepAt ws (node_word ws i 2) e → Turns s n k (let' (node_word ws i 1) e) d x u r y v)
        → RowTurns s ws i n k c x u r y v ss
    row_let q (at_end l) g = absurd (omega (arith, inside))
    row_let q (no_stmt f h on) g = absurd (omega (arith, q))
    row_let q (an_import f h on) g = absurd (omega (arith, q))
    row_let q (a_let {e = e} f h z on) g = takes on (from_there c b (g e z))
    row_let q (an_expr f h z on) g = absurd (omega (arith, q))

    pub row_expr : {r : Result Turn Refusal} {y v : List ℕ} {ss : List Stmt} → node_word ws i 0 ≡ 13 → StmtsAt ws i ss
        → ((e : Expr) → RepAt ws (node_word ws i 2) e → Turns s n k (expr' e) d x u r y v) → RowTurns s ws i n k c x u r y v ss
    row_expr q (at_end l) g = absurd (omega (arith, inside))
    row_expr q (no_stmt f h on) g = absurd (omega (arith, q))
    row_expr q (an_import f h on) g = absurd (omega (arith, q))
    row_expr q (a_let f h z on) g = absurd (omega (arith, q))
    row_expr q (an_expr {e = e} f h z on) g = takes on (from_there c b (g e z))

  -- a row of an expression is passed
  module _ (s : List ℕ) (n : ℕ) (k : Known) (c : Counts) (x u : List ℕ) where
    pub row_passed : {ss : List Stmt} → (node_word ws i 0 ≡ 11 → ⊥) → (node_word ws i 0 ≡ 12 → ⊥) → (node_word ws i 0 ≡ 13 → ⊥) → StmtsAt ws i ss
        → RowTurns s ws i n k c x u (Ok (Went c)) x u ss
    row_passed p q r (at_end l) = absurd (omega (arith, inside))
    row_passed p q r (no_stmt f h on) = passes on refl refl refl
    row_passed p q r (an_import f h on) = absurd (p h)
    row_passed p q r (a_let f h z on) = absurd (q h)
    row_passed p q r (an_expr f h z on) = absurd (r h)

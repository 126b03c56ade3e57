-- The loop over all rows: what a turn stores, and what the statements so far came to.
use mathlib.Core.Path.{◌≡◌, refl, sym, ap, subst, ◌∙◌}
use mathlib.Core.List.Memᴰ
use mathlib.Core.List.{List, [], ◌∷◌, ◌++◌, append_assoc}
use mathlib.Core.Option.{Option, none, some}
use Prim.Native.Nat.{ℕ, suc, ◌+◌, ◌*◌, ◌/◌, ◌≤◌, ◌<◌}
use native.Mathlib.Omega.{arith}
use native.Mathlib.Decide.{dec_le}
use lib.Dec.{ltb}
use lib.ListN.{length, length-append, length-set}
use Rattle.std.specs.Prelude.{Result, Ok, Err}
use Rattle.language.specs.Tokens as tokens
use Rattle.language.specs.Tokens.{Content, contents}
use Rattle.language.specs.Sentences.{Expr, Stmt, import', let', expr', first_of, stmt_size, program_size, node_width}
use Rattle.language.specs.Values.{lookup}
use Rattle.language.specs.Terms.{Atom, Term, atom_of}
use Rattle.language.specs.Judgements as judgements
use Rattle.language.specs.Judgements.{Diag, errors_in, Judged, val, err, poisoned, stopped, and_then, used, Held, Known, Import, Binding, most_names, most_imports, narrowed, name_at, find, find_import, compared, goes, refuses, imported, import_stmt, bound_as, bound, let_stmt, sized, told, onward, judge, stmt, run, judge_all}
use Rattle.language.specs.Findings.{held_rows, rows_of, stmt_row}
use Rattle.language.specs.Numbers.{token_of}
use Rattle.language.proofs.Tests.{never, each_side}
use Rattle.language.proofs.Each.{of_none}
use Rattle.language.proofs.NodeClaims.{some_stmt_node}
use Rattle.language.proofs.Comparisons.{stmt_compares}
use Rattle.language.proofs.WarnsFew.{judge_warns}
use Rattle.language.proofs.RowsFew.{stmt_rows}
use Rattle.language.proofs.JudgementClaims.{errors_append, Adds, nothing, alone, finding, binding, holding, discarding, AddsTo, warns_of, adds}
use Rattle.names.specs.declared.Entry.{Entry}
use Rattle.names.specs.Names.{name_width, name_word, key_of, stored, listed}
use Rattle.names.proofs.Stores.{stored_long, old_word, new_token, new_form, new_kind, new_low, new_high, old_name, new_name, store_key, listed_more}
use Rattle.findings.specs.declared.Counts.{Counts}
use Rattle.findings.specs.Findings as findings
use Rattle.findings.specs.Findings.{most_compared, added}
use Rattle.findings.proofs.Adds.{adds_none, adds_then, adds_count, adds_number, adds_compared}
use Rattle.findings.proofs.Rows.{no_rows, more_rows}
use Rattle.values.proofs.Values.{opened_as, canon_of}
use Rattle.paths.specs.Paths.{or_none}
use Rattle.holding.specs.Holding.{most_rows, put_held}
use Rattle.judging.specs.Judging.{most_findings, binding_at, bound_in, import_at, imports_in, known_in, Knows, Sound, Ready}
use Rattle.statements.specs.Turned.{Turn, Went, Binds, Imports}
use Rattle.statements.specs.declared.Refusal.{Refusal}
use Rattle.statements.specs.Checking.{no_counts, plus_number, plus_name, plus_import, unnamed, Grows, Valued, BindsName, ImportsName, TurnOf, StmtsAt, at_end, no_stmt, an_import, a_let, an_expr, RowFits, RowTurns, passes, takes, AllSound, Found, ComesTo, Comes}
use Rattle.statements.proofs.Failed.{Unfailed, none_fails}
use Rattle.statements.proofs.Statements.{then_used}
use Rattle.statements.proofs.Turns.{bindings_are, imports_are, bindings_many, slots_are}
use Rattle.statements.proofs.StmtRows.{same_knows, same_ready}

-- ---- a statement finds as much as it has rows at the most, and makes one slot at the most

few_added : {ws ds : List Diag} {hs : List Held} {m : ℕ} → length ws + 1 ≤ m → Adds ws ds hs → length ds ≤ m
few_added h nothing = omega (arith, h)
few_added h (alone d) = omega (arith, h)
few_added {ws} h (finding d) = omega (arith, h, length-append ws (d ∷ []))
few_added h (binding x) = omega (arith, h)
few_added {ws} h (holding x) = omega (arith, h, length-append ws [])
few_added {ws} h (discarding d x) = omega (arith, h, length-append ws (d ∷ []))

module _ (ts : List Content) (n : ℕ) (k : Known) where
  few_warnings : (st : Stmt) → length (warns_of ts n k st) + 1 ≤ stmt_size st
  few_warnings (import' t) = omega arith
  few_warnings (let' t e) = omega (arith, then_used (judge ts n k e), judge_warns ts n k e)
  few_warnings (expr' e) = omega (arith, judge_warns ts n k e)

  few_findings : (st : Stmt) {k' : Known} {ds : List Diag} {hs : List Held} {ls : List ℕ} → stmt ts n k st ≡ goes k' ds hs ls → length ds ≤ stmt_size st
  few_findings st e = few_added (few_warnings st) (subst (AddsTo (warns_of ts n k st)) e (adds ts n k st))

  abbrev FewSlots : judgements.Turn → Type 0
  FewSlots (goes k' ds hs ls) = k'.slots ≤ k.slots + 1
  FewSlots (refuses m t) = Unit {0}

  imported_slots : (t : ℕ) (o : Option ℕ) → FewSlots (imported ts n k t o)
  imported_slots t (some m) = omega arith
  imported_slots t none = omega arith

  import_slots : (t : ℕ) (o : Option Import) → FewSlots (import_stmt ts n k t o)
  import_slots t (some i) = omega arith
  import_slots t none = each_side FewSlots (ltb (length k.imports) most_imports) (imported_slots t (lookup 0 (name_at ts t))) tt

  as_slots : (t : ℕ) (v : Term) (o : Option Atom) (ws : List Diag) (ls : List ℕ) → FewSlots (bound_as ts n k t v o ws ls)
  as_slots t v (some a) ws ls = omega arith
  as_slots t v none ws ls = omega arith

  bound_slots : (t : ℕ) (o : Judged Term) (ws : List Diag) (ls : List ℕ) → FewSlots (bound ts n k t o ws ls)
  bound_slots t (val v) ws ls = as_slots t v (atom_of v) ws ls
  bound_slots t (err at w) ws ls = omega arith
  bound_slots t poisoned ws ls = omega arith
  bound_slots t (stopped p) ws ls = tt

  let_slots : (t : ℕ) (e : Expr) (l : ℕ) (o : Option Binding) → FewSlots (let_stmt ts n k t e l o)
  let_slots t e l (some b) = omega arith
  let_slots t e l none =
      let j = and_then (judge ts n k e) used in
      each_side FewSlots (ltb (length k.bindings) most_names) (bound_slots t j.out j.warns (l ∷ j.looks)) tt

  sized_slots : (at : ℕ) (o : Option Term) (ws : List Diag) (ls : List ℕ) → FewSlots (sized ts n k at o ws ls)
  sized_slots at (some v) ws ls = omega arith
  sized_slots at none ws ls = omega arith

  told_slots : (at : ℕ) (o : Judged Term) (ws : List Diag) (ls : List ℕ) → FewSlots (told ts n k at o ws ls)
  told_slots at (val v) ws ls = sized_slots at (narrowed v) ws ls
  told_slots at (err p w) ws ls = omega arith
  told_slots at poisoned ws ls = omega arith
  told_slots at (stopped p) ws ls = tt

  stmt_slots : (st : Stmt) → FewSlots (stmt ts n k st)
  unfolding stmt
  stmt_slots (import' t) = import_slots t (find_import k.imports (name_at ts t))
  stmt_slots (let' t e) = let_slots t e (compared k.bindings (name_at ts t)) (find k.bindings (name_at ts t))
  stmt_slots (expr' e) = told_slots (first_of e) (judge ts n k e).out (judge ts n k e).warns (judge ts n k e).looks

  few_slots : (st : Stmt) {k' : Known} {ds : List Diag} {hs : List Held} {ls : List ℕ} → stmt ts n k st ≡ goes k' ds hs ls → k'.slots ≤ k.slots + 1
  few_slots st e = subst FewSlots e (stmt_slots st)

-- ---- names aside

module _ {s : List ℕ} {P : Type 0} {c c' : Counts} {x u y v : List ℕ} {k : Known} {ds : List Diag} {hs : List Held} {ls : List ℕ}
    (g : Grows s P c x u c' y v k ds hs ls) where
  used_same : c'.used ≡ c.used
  unfolding added
  used_same = ap (λ (d : Counts). d.used) g.adds.counted

  imported_same : c'.imported ≡ c.imported
  unfolding added
  imported_same = ap (λ (d : Counts). d.imported) g.adds.counted

  number_same : c'.number ≡ c.number
  number_same = adds_number g.adds

  adds_unnamed : findings.Adds s (unnamed c) x (unnamed c') y ds ls
  unfolding added
  adds_unnamed = record { counted = ap unnamed g.adds.counted; diags = g.adds.diags }

-- ---- rows behind rows

rows_append : (hs gs : List Held) → rows_of (hs ++ gs) ≡ rows_of hs ++ rows_of gs
unfolding rows_of
rows_append [] gs = refl
rows_append (h ∷ hs) gs = ap (λ (l : List _). held_rows h ++ l) (rows_append hs gs) ∙ sym (append_assoc (held_rows h) (rows_of hs) (rows_of gs))

-- ---- what a turn stores: the tables of names and the counts then

pub data Stores (b m : List ℕ) : Result Turn Refusal → List ℕ → List ℕ → Counts → Type 0 where
  stores_none : {c : Counts} → Stores b m (Ok (Went c)) b m c
  stores_name : {c : Counts} {e : Entry} → Stores b m (Ok (Binds c e)) (stored most_names b c.used e) m (plus_name c)
  stores_import : {c : Counts} {e : Entry} → Stores b m (Ok (Imports c e)) b (stored most_imports m c.imported e) (plus_import c)

-- what is known then
record Kept (s : List ℕ) (P : Type 0) (c : Counts) (x u y v b m : List ℕ) (c' : Counts) (k : Known) (ds : List Diag) (hs : List Held) (ls : List ℕ) : Type 0 where
  knows : Knows s b m c' k
  ready : Ready s b m c'
  grows : findings.Adds s (unnamed c) x (unnamed c') y ds ls
  number : c'.number ≡ c.number
  slots : c'.slots ≡ k.slots
  statements : c'.statements ≡ c.statements + length (rows_of hs)
  stmts : P → v ≡ put_held s u c.statements (rows_of hs)

module _ (s b m : List ℕ) (k : Known) (c : Counts) (bs : k.bindings ≡ bound_in s b c.used 0) (is : k.imports ≡ imports_in s m c.imported 0) (rd : Ready s b m c) where
  module _ (size : length b ≡ most_names * name_width) {e : Entry} {k' : Known} (h : BindsName s k c e k') (sl : c.slots ≡ k'.slots) where
    abbrev b' : List ℕ
    b' = stored most_names b c.used e

    named_now : binding_at s b' c.used ≡ record { name = judgements.name_at (contents (tokens.tokens s)) h.token; tok = h.token; value = h.value }
    named_now =
        let nm = new_name most_names b c.used e size h.room s ∙ h.named.name in
        let tk = new_token most_names b c.used e size h.room ∙ h.named.token in
        let fm = new_form most_names b c.used e size h.room ∙ h.form in
        let kd = new_kind most_names b c.used e size h.room ∙ h.kind in
        let lo = new_low most_names b c.used e size h.room ∙ h.low in
        let hi = new_high most_names b c.used e size h.room ∙ h.high in
        rw (nm, tk, fm, kd, lo, hi, opened_as h.value)

    old_binding : (i : ℕ) → i < c.used → binding_at s b' i ≡ binding_at s b i
    old_binding i l =
        let w : (j : ℕ) → j < 7 → name_word b' i j ≡ name_word b i j = λ j g. old_word most_names b c.used e size h.room i j l g in
        rw (old_name most_names b c.used e size h.room s i l, w 2 (omega arith), w 3 (omega arith), w 4 (omega arith), w 5 (omega arith), w 6 (omega arith))

    bindings_now : bound_in s b' (c.used + 1) 0 ≡ k.bindings ++ record { name = judgements.name_at (contents (tokens.tokens s)) h.token; tok = h.token; value = h.value } ∷ []
    unfolding bound_in
    bindings_now = listed_more (binding_at s b) (binding_at s b') c.used _ old_binding named_now ∙ rw bs

    sound_now : Sound b' (c.used + 1)
    sound_now i l =
        elim (dec_le (suc i) c.used) [
          | yes g ↦
              let w : (j : ℕ) → j < 7 → name_word b' i j ≡ name_word b i j = λ j f. old_word most_names b c.used e size h.room i j g f in
              rw (w 3 (omega arith), w 4 (omega arith), w 5 (omega arith), w 6 (omega arith)) (rd.sound i g)
          | no g ↦
              let z : i ≡ c.used = omega arith in
              let fm = new_form most_names b c.used e size h.room ∙ h.form in
              let kd = new_kind most_names b c.used e size h.room ∙ h.kind in
              let lo = new_low most_names b c.used e size h.room ∙ h.low in
              let hi = new_high most_names b c.used e size h.room ∙ h.high in
              rw (z, fm, kd, lo, hi) (canon_of h.value)
        ]

    pub name_kept : Knows s b' m (plus_name c) k' × Ready s b' m (plus_name c)
    name_kept = (
      record { is = let now = sl ∙ ap (λ (z : Known). z.slots) h.known in h.known ∙ rw (bindings_now, is, now) },
      record {
        bound = omega (arith, h.room, size, stored_long most_names b c.used e size h.room);
        few = omega (arith, h.room);
        modules = rd.modules;
        sound = sound_now;
        keyed = store_key most_names b c.used e size h.room s rd.keyed (h.named.key ∙ ap key_of (sym h.named.name));
        keyed_modules = rd.keyed_modules;
      },
    )

  module _ (size : length m ≡ most_imports * name_width) {e : Entry} {k' : Known} (h : ImportsName s k c e k') (sl : c.slots ≡ k'.slots) where
    abbrev m' : List ℕ
    m' = stored most_imports m c.imported e

    import_now : import_at s m' c.imported ≡ record { name = judgements.name_at (contents (tokens.tokens s)) h.token; found = or_none e.kind }
    import_now =
        let nm = new_name most_imports m c.imported e size h.room s ∙ h.named.name in
        let kd = new_kind most_imports m c.imported e size h.room in
        rw (nm, kd)

    old_import : (i : ℕ) → i < c.imported → import_at s m' i ≡ import_at s m i
    old_import i l =
        let w = old_word most_imports m c.imported e size h.room i 4 l (omega arith) in
        rw (old_name most_imports m c.imported e size h.room s i l, w)

    imports_now : imports_in s m' (c.imported + 1) 0 ≡ k.imports ++ record { name = judgements.name_at (contents (tokens.tokens s)) h.token; found = or_none e.kind } ∷ []
    unfolding imports_in
    imports_now = listed_more (import_at s m) (import_at s m') c.imported _ old_import import_now ∙ rw is

    pub import_kept : Knows s b m' (plus_import c) k' × Ready s b m' (plus_import c)
    import_kept = (
      record { is = let now = sl ∙ ap (λ (z : Known). z.slots) h.known in h.known ∙ rw (imports_now, bs, now) },
      record {
        bound = rd.bound;
        few = rd.few;
        modules = omega (arith, h.room, size, stored_long most_imports m c.imported e size h.room);
        sound = rd.sound;
        keyed = rd.keyed;
        keyed_modules = store_key most_imports m c.imported e size h.room s rd.keyed_modules (h.named.key ∙ ap key_of (sym h.named.name));
      },
    )

-- ---- one turn

module _ (s b m : List ℕ) (P : Type 0) (k : Known) (c : Counts) (kn : Knows s b m c k) (rd : Ready s b m c) (names : length b ≡ most_names * name_width)
    (modules : length m ≡ most_imports * name_width) (x u y v : List ℕ) where
  kept : {c1 c2 : Counts} {b2 m2 : List ℕ} {k' : Known} {ds : List Diag} {hs : List Held} {ls : List ℕ} → Grows s P c x u c1 y v k' ds hs ls → Knows s b2 m2 c2 k'
      → Ready s b2 m2 c2 → unnamed c2 ≡ unnamed c1 → c2.number ≡ c1.number → c2.slots ≡ c1.slots → c2.statements ≡ c1.statements
      → Kept s P c x u y v b2 m2 c2 k' ds hs ls
  kept g kn2 rd2 p n sl st =
      record {
        knows = kn2;
        ready = rd2;
        grows = rw p (adds_unnamed g);
        number = n ∙ number_same g;
        slots = sl ∙ g.slots;
        statements = st ∙ g.statements;
        stmts = g.stmts;
      }

  module _ {c1 : Counts} {k' : Known} {ds : List Diag} {hs : List Held} {ls : List ℕ} (g : Grows s P c x u c1 y v k' ds hs ls) where
    ready_there : Ready s b m c1
    ready_there = same_ready c c1 (used_same g) (imported_same g) refl rd

    bound_there : k.bindings ≡ bound_in s b c1.used 0
    bound_there = rw (used_same g) (bindings_are kn)

    imported_there : k.imports ≡ imports_in s m c1.imported 0
    imported_there = rw (imported_same g) (imports_are kn)

  after_turn : {r : Result Turn Refusal} {b2 m2 : List ℕ} {c2 : Counts} → Stores b m r b2 m2 c2 → (t : judgements.Turn) → TurnOf s P k c x u r y v t
      → (k' : Known) × (ds : List Diag) × (hs : List Held) × (ls : List ℕ) × (t ≡ goes k' ds hs ls) × Kept s P c x u y v b2 m2 c2 k' ds hs ls
  after_turn (stores_none {c = c1}) (goes k' ds hs ls) a =
      let g = a.1 in
      let slots : c1.slots ≡ c.slots = g.slots ∙ ap (λ (z : Known). z.slots) a.0 ∙ sym (slots_are kn) in
      let known : Knows s b m c1 k = same_knows c c1 (used_same g) (imported_same g) refl slots kn in
      (k', ds, hs, ls, refl, kept g (subst (Knows s b m c1) (sym a.0) known) (ready_there g) refl refl refl refl)
  after_turn stores_none (refuses o t) a = absurd a
  after_turn (stores_name {c = c1}) (goes k' ds hs ls) a =
      let g = a.1 in
      let h = a.0 in
      let f : BindsName s k c1 _ k' = record {
        token = h.token;
        value = h.value;
        slots = h.slots;
        named = h.named;
        form = h.form;
        kind = h.kind;
        low = h.low;
        high = h.high;
        known = h.known;
        room = rw (used_same g) h.room;
      } in
      let n = name_kept s b m k c1 (bound_there g) (imported_there g) (ready_there g) names f g.slots in
      (k', ds, hs, ls, refl, kept g n.0 n.1 refl refl refl refl)
  after_turn stores_name (refuses o t) a = absurd a
  after_turn (stores_import {c = c1}) (goes k' ds hs ls) a =
      let g = a.1 in
      let h = a.0 in
      let f : ImportsName s k c1 _ k' = record { token = h.token; named = h.named; known = h.known; room = rw (imported_same g) h.room } in
      let n = import_kept s b m k c1 (bound_there g) (imported_there g) (ready_there g) modules f g.slots in
      (k', ds, hs, ls, refl, kept g n.0 n.1 refl refl refl refl)
  after_turn stores_import (refuses o t) a = absurd a

-- ---- the loop

-- of the statements ss, those before row i came to what was found and held, and the others are left
pub record Running (s ws x0 u0 x u b m : List ℕ) (c : Counts) (i : ℕ) (ss : List Stmt) : Type 0 where
  pub rest : List Stmt
  pub number : ℕ
  pub numbered : number ≡ c.number + 1
  pub known : Known
  pub found : List Diag
  pub held : List Held
  pub looks : List ℕ
  pub stands : StmtsAt ws i rest
  pub knows : Knows s b m c known
  pub grows : findings.Adds s no_counts x0 (unnamed c) x found looks
  pub statements : c.statements ≡ length (rows_of held)
  -- what is said where there is no error so far
  pub clean : AllSound (contents (tokens.tokens s)) ss → AllSound (contents (tokens.tokens s)) rest
      × (errors_in found ≡ 0 → Unfailed known × (u ≡ put_held s u0 0 (rows_of held)))
  pub comes : judge_all (contents (tokens.tokens s)) ss ≡ run (contents (tokens.tokens s)) rest number known found held looks

-- at row i. The tables of findings and of held statements were x0 and u0.
pub record Looped (s ws x0 u0 x u b m : List ℕ) (c : Counts) (i : ℕ) : Type 0 where
  pub names : length b ≡ most_names * name_width
  pub modules : length m ≡ most_imports * name_width
  pub ready : Ready s b m c
  pub fits : RowFits ws i c
  pub diags : length x ≡ length x0
  pub stmts : length u ≡ length u0
  pub runs : (ss : List Stmt) → StmtsAt ws 0 ss → Running s ws x0 u0 x u b m c i ss

pub start : {s ws x u b m : List ℕ} {c : Counts} → RowFits ws 0 no_counts → length b ≡ most_names * name_width
    → length m ≡ most_imports * name_width → c ≡ no_counts → Looped s ws x u x u b m c 0
unfolding bound_in imports_in listed rows_of
start {s} {ws} {x} {u} {b} {m} f p q e = subst (λ (z : Counts). Looped s ws x u x u b m z 0) (sym e) (
    record {
      names = p;
      modules = q;
      ready = record {
        bound = omega arith;
        few = omega arith;
        modules = omega arith;
        sound = λ i h. absurd (omega (arith, h));
        keyed = record { key = λ i h. absurd (omega (arith, h)) };
        keyed_modules = record { key = λ i h. absurd (omega (arith, h)) };
      };
      fits = f;
      diags = refl;
      stmts = refl;
      runs = λ ss a. record {
        rest = ss;
        number = 1;
        numbered = refl;
        known = judgements.known [] [] 0;
        found = [];
        held = [];
        looks = [];
        stands = a;
        knows = record { is = refl };
        grows = adds_none s no_counts x;
        statements = refl;
        clean = λ h. (h, λ e. (record { imports = of_none; bindings = of_none }, no_rows (stmt_row (token_of s)) u 0));
        comes = refl;
      };
    })

module _ (ts : List Content) (st : Stmt) (ss : List Stmt) (n : ℕ) (k : Known) (ds : List Diag) (hs : List Held) (ls : List ℕ) where
  run_goes : {k' : Known} {es : List Diag} {gs : List Held} {ms : List ℕ} → stmt ts n k st ≡ goes k' es gs ms
      → run ts (st ∷ ss) n k ds hs ls ≡ run ts ss (suc n) k' (ds ++ es) (hs ++ gs) (ls ++ ms)
  unfolding run
  run_goes e = ap (λ (t : judgements.Turn). onward ts t ds hs ls (λ k' es gs ms. run ts ss (suc n) k' es gs ms)) e

  run_refuses : {m t : ℕ} → stmt ts n k st ≡ refuses m t → run ts (st ∷ ss) n k ds hs ls ≡ judgements.refused m t
  unfolding run
  run_refuses e = ap (λ (t : judgements.Turn). onward ts t ds hs ls (λ k' es gs ms. run ts ss (suc n) k' es gs ms)) e

-- what the function of one row ensures
abbrev pub Turned : List ℕ → List ℕ → ℕ → List ℕ → List ℕ → List ℕ → List ℕ → Counts → List ℕ → List ℕ → Result Turn Refusal → Type 0
Turned s ws i b m x u c y v r = (n : ℕ) (k : Known) (ss : List Stmt) → n ≡ c.number + 1 → Knows s b m c k → StmtsAt ws i ss → RowTurns s ws i n k c x u r y v ss

module _ {s ws : List ℕ} {i : ℕ} {x0 u0 x u b m : List ℕ} {c : Counts} (l : Looped s ws x0 u0 x u b m c i) (y v : List ℕ) where
  abbrev ts : List Content
  ts = contents (tokens.tokens s)

  module _ {r : Result Turn Refusal} {b2 m2 : List ℕ} {c2 : Counts} (st : Stores b m r b2 m2 c2) where
    -- a row that is passed stores nothing
    none_stored : {d : Counts} {a : Result Turn Refusal} {p q : List ℕ} {f : Counts} → Stores b m a p q f → a ≡ Ok (Went d) → (p ≡ b) × (q ≡ m) × (f ≡ d)
    none_stored stores_none e = (refl, refl, cc)
    none_stored stores_name e = never (cc)
    none_stored stores_import e = never (cc)

    taken : (n : ℕ) (k : Known) (st' : Stmt) → Knows s b m c k → TurnOf s (Valued ts n k st') k (plus_number c) x u r y v (stmt ts n k st')
        → (k' : Known) × (ds : List Diag) × (hs : List Held) × (ls : List ℕ) × (stmt ts n k st' ≡ goes k' ds hs ls)
        × Kept s (Valued ts n k st') (plus_number c) x u y v b2 m2 c2 k' ds hs ls
    taken n k st' kn a =
        after_turn s b m (Valued ts n k st') k (plus_number c) (same_knows c (plus_number c) refl refl refl refl kn) (same_ready c (plus_number c) refl refl refl l.ready)
        l.names l.modules x u y v st (stmt ts n k st') a

    ready_on : (n : ℕ) (k : Known) (ss : List Stmt) → Knows s b m c k → RowTurns s ws i n k c x u r y v ss → Ready s b2 m2 c2
    ready_on n k ss kn (passes a e f g) = let z = none_stored st e in rw (z.0, z.1, z.2) l.ready
    ready_on n k (st' ∷ ss) kn (takes a t) = (taken n k st' kn t.turn).5.ready

    fits_on : (n : ℕ) (k : Known) (ss : List Stmt) → c.errors + c.warnings + program_size ss + 1 ≤ most_findings → c.statements + program_size ss ≤ most_rows
        → c.slots + program_size ss ≤ most_findings → c.number + program_size ss ≤ most_findings → c.comparisons + most_names * program_size ss ≤ most_compared
        → Knows s b m c k → RowTurns s ws i n k c x u r y v ss → RowFits ws (i + 1) c2
    fits_on n k ss h g f o d kn (passes a e p q) =
        let z = none_stored st e in
        rw z.2 (record { list = ss; stands = a; room = h; held = g; slots = f; begun = o; looks = d })
    fits_on n k (st' ∷ ss) h g f o d kn (takes a t) =
        let w = taken n k st' kn t.turn in
        let known : length k.bindings ≤ most_names = omega (arith, l.ready.few, bindings_many kn) in
        let few = stmt_compares ts n k st' w.4 known in
        record {
          list = ss;
          stands = a;
          room = omega (arith, h, adds_count w.5.grows, few_findings ts n k st' w.4);
          held = omega (arith, g, w.5.statements, stmt_rows ts n k st' w.4);
          slots = omega (arith, f, w.5.slots, few_slots ts n k st' w.4, slots_are kn, some_stmt_node st');
          begun = omega (arith, o, w.5.number, some_stmt_node st');
          looks = omega (arith, d, adds_compared w.5.grows, few);
        }

    -- where one more statement has no error either
    clean_on : (st' : Stmt) (ss : List Stmt) (n : ℕ) (k : Known) (ds : List Diag) (hs gs : List Held) {k' : Known} {es : List Diag} {ls : List ℕ}
        → AllSound ts (st' ∷ ss) × (errors_in ds ≡ 0 → Unfailed k × (u ≡ put_held s u0 0 (rows_of hs))) → stmt ts n k st' ≡ goes k' es gs ls
        → c.statements ≡ length (rows_of hs) → (Valued ts n k st' → v ≡ put_held s u c.statements (rows_of gs))
        → AllSound ts ss × (errors_in (ds ++ es) ≡ 0 → Unfailed k' × (v ≡ put_held s u0 0 (rows_of (hs ++ gs))))
    clean_on st' ss n k ds hs gs {es = es} p e held rows = (
      λ z h. p.0 z (Memᴰ.tail h),
      λ z.
          let before = p.1 (omega (arith, z, errors_append ds es)) in
          let now = none_fails ts n before.0 st' (p.0 st' (Memᴰ.head refl)) e (omega (arith, z, errors_append ds es)) in
          let start : c.statements ≡ 0 + length (rows_of hs) = omega (arith, held) in
          let table = rows now.1 ∙ rw (before.1, start) (more_rows (stmt_row (token_of s)) u0 0 (rows_of hs) (rows_of gs)) ∙ ap (put_held s u0 0) (sym (rows_append hs gs)) in
          (now.0, table),
    )

    runs_on : (all : List Stmt) → (w : Running s ws x0 u0 x u b m c i all) → RowTurns s ws i w.number w.known c x u r y v w.rest
        → Running s ws x0 u0 y v b2 m2 c2 (i + 1) all
    runs_on all w = by w.rest w.number w.numbered w.known w.found w.held w.looks w.knows w.grows w.statements w.clean w.comes
      where
        by : (ss : List Stmt) (n : ℕ) → n ≡ c.number + 1 → (k : Known) (ds : List Diag) (hs : List Held) (ls : List ℕ) → Knows s b m c k
            → findings.Adds s no_counts x0 (unnamed c) x ds ls → c.statements ≡ length (rows_of hs)
            → (AllSound ts all → AllSound ts ss × (errors_in ds ≡ 0 → Unfailed k × (u ≡ put_held s u0 0 (rows_of hs)))) → judge_all ts all ≡ run ts ss n k ds hs ls
            → RowTurns s ws i n k c x u r y v ss → Running s ws x0 u0 y v b2 m2 c2 (i + 1) all
        by ss n num k ds hs ls kn gr held clean o (passes a e f g) =
            let z = none_stored st e in
            record {
              rest = ss;
              number = n;
              numbered = rw z.2 num;
              known = k;
              found = ds;
              held = hs;
              looks = ls;
              stands = a;
              knows = rw (z.0, z.1, z.2) kn;
              grows = rw (z.2, f) gr;
              statements = rw z.2 held;
              clean = rw g clean;
              comes = o;
            }
        by (st' ∷ ss) n num k ds hs ls kn gr held clean o (takes a t) =
            let w = taken n k st' kn t.turn in
            record {
              rest = ss;
              number = suc n;
              numbered = omega (arith, num, w.5.number);
              known = w.0;
              found = ds ++ w.1;
              held = hs ++ w.2;
              looks = ls ++ w.3;
              stands = a;
              knows = w.5.knows;
              grows = adds_then gr w.5.grows;
              statements = omega (arith, w.5.statements, held, ap length (rows_append hs w.2), length-append (rows_of hs) (rows_of w.2));
              clean = λ h. clean_on st' ss n k ds hs w.2 (clean h) w.4 held w.5.stmts;
              comes = o ∙ run_goes ts st' ss n k ds hs ls w.4;
            }

    stored_size : {a : Result Turn Refusal} {p q : List ℕ} {f : Counts} → Stores b m a p q f → Ready s p q f → (length p ≡ length b) × (length q ≡ length m)
    stored_size stores_none rd = (refl, refl)
    stored_size (stores_name {c = c1} {e = e}) rd = (stored_long most_names b c1.used e l.names (omega (arith, rd.bound, l.names, sizes)), refl)
      where
        sizes : length (stored most_names b c1.used e) ≡ length b
        sizes = simp length-set
    stored_size (stores_import {c = c1} {e = e}) rd = (refl, stored_long most_imports m c1.imported e l.modules (omega (arith, rd.modules, l.modules, sizes)))
      where
        sizes : length (stored most_imports m c1.imported e) ≡ length m
        sizes = simp length-set

    again : Turned s ws i b m x u c y v r → length y ≡ length x → length v ≡ length u → Looped s ws x0 u0 y v b2 m2 c2 (i + 1)
    again h f g =
        let fs = l.fits in
        let k = known_in s b m c in
        let kn : Knows s b m c k = record { is = refl } in
        let t0 = h (c.number + 1) k fs.list refl kn fs.stands in
        let rd = ready_on (c.number + 1) k fs.list kn t0 in
        let size = stored_size st rd in
        record {
          names = size.0 ∙ l.names;
          modules = size.1 ∙ l.modules;
          ready = rd;
          fits = fits_on (c.number + 1) k fs.list fs.room fs.held fs.slots fs.begun fs.looks kn t0;
          diags = f ∙ l.diags;
          stmts = g ∙ l.stmts;
          runs = λ all a. let w = l.runs all a in runs_on all w (h w.number w.known w.rest w.numbered w.knows w.stands);
        }

  module _ {r : Result Turn Refusal} (h : Turned s ws i b m x u c y v r) (f : length y ≡ length x) (g : length v ≡ length u) where
    pub again_went : {d : Counts} → r ≡ Ok (Went d) → Looped s ws x0 u0 y v b m d (i + 1)
    again_went e = again stores_none (subst (Turned s ws i b m x u c y v) e h) f g

    pub again_name : {d d' : Counts} {e : Entry} {b2 : List ℕ} → r ≡ Ok (Binds d e) → b2 ≡ stored (length b / name_width) b d.used e → d' ≡ plus_name d → Looped s ws x0 u0 y v b2 m d' (i + 1)
    again_name e p q = let room : length b / name_width ≡ most_names = omega (arith, l.names) in rw (p, q, room) (again stores_name (subst (Turned s ws i b m x u c y v) e h) f g)

    pub again_import : {d d' : Counts} {e : Entry} {m2 : List ℕ} → r ≡ Ok (Imports d e) → m2 ≡ stored (length m / name_width) m d.imported e → d' ≡ plus_import d → Looped s ws x0 u0 y v b m2 d' (i + 1)
    again_import e p q = let room : length m / name_width ≡ most_imports = omega (arith, l.modules) in rw (p, q, room) (again stores_import (subst (Turned s ws i b m x u c y v) e h) f g)

  refused_by : (f : Refusal) (n : ℕ) (k : Known) (ds : List Diag) (hs : List Held) (ls : List ℕ) (ss : List Stmt)
      → RowTurns s ws i n k c x u (Err f) y v ss → ComesTo s x0 u0 (Err f) y v (run ts ss n k ds hs ls)
  refused_by f n k ds hs ls ss (passes a e y-is v-is) = never (cc)
  refused_by f n k ds hs ls (st ∷ ss) (takes a t) = by (stmt ts n k st) refl t.turn
    where
      by : (z : judgements.Turn) → stmt ts n k st ≡ z → TurnOf s (Valued ts n k st) k (plus_number c) x u (Err f) y v z → ComesTo s x0 u0 (Err f) y v (run ts (st ∷ ss) n k ds hs ls)
      by (goes k' es gs ms) e w = absurd w
      by (refuses o p) e w = subst (ComesTo s x0 u0 (Err f) y v) (sym (run_refuses ts st ss n k ds hs ls e)) w

  -- there is room for what a turn binds or imports
  module _ {r : Result Turn Refusal} (h : Turned s ws i b m x u c y v r) where
    turned : RowTurns s ws i (c.number + 1) (known_in s b m c) c x u r y v l.fits.list
    turned = h (c.number + 1) (known_in s b m c) l.fits.list refl (record { is = refl }) l.fits.stands

    pub room_name : {d : Counts} {e : Entry} → r ≡ Ok (Binds d e) → d.used < most_names
    room_name {d} {e} q = by l.fits.list (subst (λ (z : Result Turn Refusal). RowTurns s ws i (c.number + 1) (known_in s b m c) c x u z y v l.fits.list) q turned)
      where
        of : (P : Type 0) (t : judgements.Turn) → TurnOf s P (known_in s b m c) (plus_number c) x u (Ok (Binds d e)) y v t → d.used < most_names
        of P (goes k' ds hs ls) a = rw (used_same a.1) a.0.room
        of P (refuses o t) a = absurd a

        by : (ss : List Stmt) → RowTurns s ws i (c.number + 1) (known_in s b m c) c x u (Ok (Binds d e)) y v ss → d.used < most_names
        by ss (passes a f g z) = never (cc)
        by (st ∷ ss) (takes a t) = of (Valued ts (c.number + 1) (known_in s b m c) st) (stmt ts (c.number + 1) (known_in s b m c) st) t.turn

    pub room_import : {d : Counts} {e : Entry} → r ≡ Ok (Imports d e) → d.imported < most_imports
    room_import {d} {e} q = by l.fits.list (subst (λ (z : Result Turn Refusal). RowTurns s ws i (c.number + 1) (known_in s b m c) c x u z y v l.fits.list) q turned)
      where
        of : (P : Type 0) (t : judgements.Turn) → TurnOf s P (known_in s b m c) (plus_number c) x u (Ok (Imports d e)) y v t → d.imported < most_imports
        of P (goes k' ds hs ls) a = rw (imported_same a.1) a.0.room
        of P (refuses o t) a = absurd a

        by : (ss : List Stmt) → RowTurns s ws i (c.number + 1) (known_in s b m c) c x u (Ok (Imports d e)) y v ss → d.imported < most_imports
        by ss (passes a f g z) = never (cc)
        by (st ∷ ss) (takes a t) = of (Valued ts (c.number + 1) (known_in s b m c) st) (stmt ts (c.number + 1) (known_in s b m c) st) t.turn

  pub run_stopped : {r : Result Turn Refusal} {f : Refusal} → Turned s ws i b m x u c y v r → r ≡ Err f → (all : List Stmt) → StmtsAt ws 0 all → AllSound ts all
      → Comes s x0 u0 (Err f) y v (judge_all ts all)
  run_stopped {f = f} h e all a sound =
      let w = l.runs all a in
      let t = subst (Turned s ws i b m x u c y v) e h in
      record {
        come = subst (ComesTo s x0 u0 (Err f) y v) (sym w.comes)
            (refused_by f w.number w.known w.found w.held w.looks w.rest (t w.number w.known w.rest w.numbered w.knows w.stands));
      }

-- past the last row no statement is left
none_left : {ws : List ℕ} {i : ℕ} {ss : List Stmt} → length ws / node_width ≤ i → StmtsAt ws i ss → ss ≡ []
none_left l (at_end h) = refl
none_left l (no_stmt h k a) = absurd (omega (arith, l, h))
none_left l (an_import h k a) = absurd (omega (arith, l, h))
none_left l (a_let h k r a) = absurd (omega (arith, l, h))
none_left l (an_expr h k r a) = absurd (omega (arith, l, h))

pub finished : {s ws x0 u0 x u b m : List ℕ} {c : Counts} {i : ℕ} → Looped s ws x0 u0 x u b m c i → length ws / node_width ≤ i
    → (all : List Stmt) → StmtsAt ws 0 all → AllSound (contents (tokens.tokens s)) all → Comes s x0 u0 (Ok c) x u (judge_all (contents (tokens.tokens s)) all)
unfolding run
finished {s} {x0 = x0} {u0} {x} {u} {c = c} l h all a sound =
    let w = l.runs all a in
    let ts = contents (tokens.tokens s) in
    let e : judge_all ts all ≡ judgements.judged w.found w.held w.looks =
    w.comes ∙ ap (λ (z : List Stmt). run ts z w.number w.known w.found w.held w.looks) (none_left h w.stands) in
    let found : Found s x0 u0 c x u w.found w.held w.looks =
    record { adds = w.grows; statements = w.statements; stmts = λ z. ((w.clean sound).1 z).1 } in
    record { come = subst (ComesTo s x0 u0 (Ok c) x u) (sym e) found }

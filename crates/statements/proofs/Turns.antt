-- Each way through an `import` and a `let`.
use mathlib.Core.Path.{◌≡◌, refl, sym, ap, subst, ◌∙◌}
use mathlib.Core.Bool.{Bool, true, false}
use mathlib.Core.List.{List, [], ◌∷◌, ◌++◌}
use mathlib.Core.Option.{Option, none, some}
use Prim.Native.Nat.{ℕ, suc, ◌+◌, ◌≤◌, ◌<◌}
use native.Mathlib.Omega.{arith}
use borrow.Author.Tests.{lt-ltb, le-ltb}
use lib.Dec.{ltb}
use lib.ListN.{length}
use Rattle.std.specs.Prelude.{Result, Ok, Err}
use Rattle.constants.specs.Constants.{or_zero}
use Rattle.language.specs.Choice.{if'}
use Rattle.language.specs.Tokens as tokens
use Rattle.language.specs.Tokens.{Content, contents}
use Rattle.language.specs.Sentences.{Expr, import', let'}
use Rattle.language.specs.Values.{ty_void, same_ty, lookup}
use Rattle.language.specs.Terms as terms
use Rattle.language.specs.Terms.{Atom, constant, slot, atom, called, divided, term_at, term_type, atom_of}
use Rattle.language.specs.Judgements as judgements
use Rattle.language.specs.Judgements.{Diag, diag, val, err, poisoned, stopped, Judgement, fine, wrong, and_then, used, void_value, lets, Known, known, Import, Binding, multiple_imports, unknown_module, already_bound, most_names, most_imports, names_number, goes, refuses, imported, find, find_import, compared, name_at, bound_as, bound, judge, stmt}
use Rattle.language.specs.Findings.{parts, stmt_row}
use Rattle.language.specs.Numbers.{token_of}
use Rattle.language.proofs.Tests.{never}
use Rattle.rows.specs.declared.token.Token.{Token}
use Rattle.rows.specs.declared.types.Type.{«Type»}
use Rattle.rows.specs.Tokens.{token_as}
use Rattle.names.specs.declared.Entry.{Entry}
use Rattle.names.specs.Names.{name_word, names_in, place, looked, key_of}
use Rattle.names.proofs.Names.{same_place}
use Rattle.names.proofs.Stores.{listed_long}
use Rattle.findings.specs.declared.Counts.{Counts}
use Rattle.findings.specs.declared.Diagnostic.{Diagnostic}
use Rattle.findings.specs.declared.What.TheVariants.{MultipleImports, UnknownModule, AlreadyBound}
use Rattle.findings.specs.Findings.{at_token, diagnostic_as, plus_search, Reports, Adds}
use Rattle.findings.proofs.Adds.{adds_none, adds_then, adds_last, adds_look, adds_reported, adds_number, adds_slots, adds_statements}
use Rattle.findings.proofs.Rows.{no_rows}
use Rattle.findings.proofs.Texts.{at_token_lem}
use Rattle.values.specs.declared.Term.{Term}
use Rattle.values.specs.Values as code
use Rattle.values.specs.declared.Halt.{Halt}
use Rattle.values.specs.declared.Halt.TheVariants as halt
use Rattle.holding.specs.declared.Valued.{Valued}
use Rattle.values.specs.Values.{term_as, atom_as, form_of, kind_of, low_of, high_of, judged_as, TypeShown, Used}
use Rattle.paths.specs.Paths.{or_none}
use Rattle.paths.proofs.Paths.{found_module}
use Rattle.holding.specs.Holding.{Step, step, stepped as answered, Puts, Agrees}
use Rattle.judging.specs.Judging.{binding_at, bound_in, import_at, imports_in, Knows, Left}
use Rattle.judging.proofs.Names.{bound_found, bound_lost, import_found, import_lost, counted_look}
use Rattle.judging.proofs.Steps as steps
use Rattle.statements.proofs.StmtRows.{searched_number}
use Rattle.statements.specs.Turned.{Turn, told}
use Rattle.statements.specs.declared.Turn as code_turn
use Rattle.statements.specs.Turned as turn
use Rattle.statements.specs.declared.Refusal.{Refusal}
use Rattle.statements.specs.declared.Refusal.TheVariants.{Calls, Names}
use Rattle.statements.specs.Checking.{no_value, plus_slot, unheld, Enters, IsVal, BindsName, TurnOf, Turns, Values, BindsValue, Binds, BoundTwice}
use Rattle.statements.proofs.Growing.{adds_unheld, grows_none, grows_held}

-- ---- what is known

module _ {s bindings imports : List ℕ} {c : Counts} {k : Known} (kn : Knows s bindings imports c k) where
  pub bindings_are : k.bindings ≡ bound_in s bindings c.used 0
  bindings_are = ap (λ (z : Known). z.bindings) kn.is

  pub imports_are : k.imports ≡ imports_in s imports c.imported 0
  imports_are = ap (λ (z : Known). z.imports) kn.is

  pub bindings_many : length k.bindings ≡ c.used
  unfolding bound_in
  bindings_many = ap length bindings_are ∙ listed_long (binding_at s bindings) c.used 0

  imports_many : length k.imports ≡ c.imported
  unfolding imports_in
  imports_many = ap length imports_are ∙ listed_long (import_at s imports) c.imported 0

  pub slots_are : c.slots ≡ k.slots
  slots_are = sym (ap (λ (z : Known). z.slots) kn.is)

-- ---- imports

module _ (ts : List Content) (n : ℕ) (k : Known) (t : ℕ) where
  import_again : {i : Import} → find_import k.imports (name_at ts t) ≡ some i → stmt ts n k (import' t) ≡ goes k (diag n t multiple_imports ∷ []) [] []
  unfolding stmt
  import_again e = ap (judgements.import_stmt ts n k t) e

  import_new : find_import k.imports (name_at ts t) ≡ none
      → stmt ts n k (import' t) ≡ if' (ltb (length k.imports) most_imports) (imported ts n k t (lookup 0 (name_at ts t))) (refuses names_number t)
  unfolding stmt
  import_new e = ap (judgements.import_stmt ts n k t) e

module _ (s : List ℕ) (n t : ℕ) (k : Known) (b is u x : List ℕ) (c : Counts) (kn : Knows s b is c k) (num : n ≡ c.number) {w : List ℕ} {i : ℕ}
    (p : i ≡ place (names_in s is c.imported 0) w) (o : w ≡ name_at (contents (tokens.tokens s)) t) {tok : Token} (at : tok ≡ token_as (token_of s t)) where
  abbrev ts : List Content
  ts = contents (tokens.tokens s)

  place_is : i ≡ place (names_in s is c.imported 0) (name_at ts t)
  place_is = same_place (names_in s is c.imported 0) p o

  pub imports_again : {d : Diagnostic} {c' : Counts} {y : List ℕ} → i < c.imported → d ≡ at_token tok MultipleImports → Reports c d x c' y
      → Turns s n k (import' t) c x u (Ok (turn.Went c')) y u
  imports_again {c' = c'} {y = y} h q r =
      let e = ap (λ (l : List Import). find_import l (name_at ts t)) (imports_are kn) ∙ import_found s is (name_at ts t) c.imported i place_is h in
      record {
        turn = subst (λ (z : judgements.Turn). TurnOf s (Unit {0}) k c x u (Ok (turn.Went c')) y u z) (sym (import_again ts n k t e))
            (refl, grows_none (adds_reported s n t multiple_imports num (q ∙ at_token_lem s t multiple_imports at refl) r) (slots_are kn) (λ _. refl));
      }

  module _ (h : c.imported ≤ i) where
    absent : find_import k.imports (name_at ts t) ≡ none
    absent = ap (λ (l : List Import). find_import l (name_at ts t)) (imports_are kn) ∙ import_lost s is (name_at ts t) c.imported i place_is h

    pub imports_full : most_imports ≤ c.imported → Turns s n k (import' t) c x u (Err (Names t)) x u
    imports_full l =
        let f : ltb (length k.imports) most_imports ≡ false = le-ltb (length k.imports) most_imports (omega (arith, imports_many kn, l)) in
        let e : stmt ts n k (import' t) ≡ refuses names_number t = import_new ts n k t absent ∙ ap (λ (z : Bool). if' z (imported ts n k t (lookup 0 (name_at ts t))) (refuses names_number t)) f in
        record { turn = subst (λ (z : judgements.Turn). TurnOf s (Unit {0}) k c x u (Err (Names t)) x u z) (sym e) (refl, refl) }

    module _ (l : c.imported < most_imports) {kind key : ℕ} {e : Entry} (made : key ≡ key_of (name_at ts t)) (m : kind ≡ or_zero (lookup 0 (name_at ts t)))
        (en : Enters tok t key (no_value kind) e) where
      stepped : stmt ts n k (import' t) ≡ imported ts n k t (lookup 0 (name_at ts t))
      stepped =
          let f : ltb (length k.imports) most_imports ≡ true = lt-ltb (length k.imports) most_imports (omega (arith, imports_many kn, l)) in
          import_new ts n k t absent ∙ ap (λ (z : Bool). if' z (imported ts n k t (lookup 0 (name_at ts t))) (refuses names_number t)) f

      found_is : or_none e.kind ≡ lookup 0 (name_at ts t)
      found_is = ap or_none (en.stands.kind ∙ m) ∙ found_module 0 (name_at ts t)

      by : (o : Option ℕ) → lookup 0 (name_at ts t) ≡ o → known (k.imports ++ record { name = name_at ts t; found = o } ∷ []) k.bindings k.slots
          ≡ known (k.imports ++ record { name = name_at ts t; found = or_none e.kind } ∷ []) k.bindings k.slots
      by o q = let z = found_is ∙ q in rw z

      found_by_lem : (o : Option ℕ) → lookup 0 (name_at ts t) ≡ o → (kind ≡ 0 → ⊥) → TurnOf s (Unit {0}) k c x u (Ok (turn.Imports c e)) x u (imported ts n k t o)
      found_by_lem none q z = absurd (z (m ∙ ap or_zero q))
      found_by_lem (some j) q z = (record { token = t; named = en.named s at made; known = by (some j) q; room = l }, grows_none (adds_none s c x) (slots_are kn) (λ _. refl))

      failed_by : (o : Option ℕ) → lookup 0 (name_at ts t) ≡ o → kind ≡ 0 → {d : Diagnostic} {c' : Counts} {y : List ℕ} → d ≡ at_token tok UnknownModule
          → Reports c d x c' y → TurnOf s (Unit {0}) k c x u (Ok (turn.Imports c' e)) y u (imported ts n k t o)
      failed_by none q z g r = (
        record { token = t; named = en.named s at made; known = by none q; room = l },
        grows_none (adds_reported s n t unknown_module num (g ∙ at_token_lem s t unknown_module at refl) r) (slots_are kn) (λ _. refl),
      )
      failed_by (some j) q z g r =
          let none_there : j ≡ 0 = sym (m ∙ ap or_zero q) ∙ z in
          let round : or_none j ≡ some j = ap (λ (d : Option ℕ). or_none (or_zero d)) (sym q) ∙ found_module 0 (name_at ts t) ∙ q in
          let gone : ◌≡◌ {A = Option ℕ} none (some j) = ap or_none (sym none_there) ∙ round in
          never (cc)

      pub imports_found : (kind ≡ 0 → ⊥) → Turns s n k (import' t) c x u (Ok (turn.Imports c e)) x u
      imports_found z =
          record { turn = subst (λ (d : judgements.Turn). TurnOf s (Unit {0}) k c x u (Ok (turn.Imports c e)) x u d) (sym stepped) (found_by_lem (lookup 0 (name_at ts t)) refl z) }

      pub imports_failed : {d : Diagnostic} {c' : Counts} {y : List ℕ} → kind ≡ 0 → d ≡ at_token tok UnknownModule → Reports c d x c' y
          → Turns s n k (import' t) c x u (Ok (turn.Imports c' e)) y u
      imports_failed {c' = c'} {y = y} z g r =
          record { turn = subst (λ (d : judgements.Turn). TurnOf s (Unit {0}) k c x u (Ok (turn.Imports c' e)) y u d) (sym stepped) (failed_by (lookup 0 (name_at ts t)) refl z g r) }

-- ---- the value of a `let`

used_agrees : {s : List ℕ} {v : Term} {o : code.Judged} {r : Step} {y u w : List ℕ} {c : Counts} {at : ℕ} (e : terms.Term) → Used s v o → r.out ≡ o → r.counts ≡ c
    → Left s u w at e v r.next → Agrees s r y y u w c at (used e)
unfolding used
used_agrees {s} {v} {o} {r} {y} {u} {w} {c} {at} e us q p l = by (same_ty ty_void (term_type e)) (us.is e l.value)
  where
    by : (z : Bool) → o ≡ judged_as s (if' {A = Judgement terms.Term} z (wrong (term_at e) void_value) (fine e)).out
        → Agrees s r y y u w c at (if' z (wrong (term_at e) void_value) (fine e))
    by true h = steps.ends (err (term_at e) void_value) (q ∙ h) (λ d i. never (cc)) p
    by false h =
        record {
          out = q ∙ h;
          adds = rw p (adds_none s c y);
          next = λ d i. let same : e ≡ d = cc in rw (← same) l.free;
          rows = λ d i. let same : e ≡ d = cc in rw (← same) l.table;
        }

module _ {s : List ℕ} {step r : Step} where
  pub value_used : {v : Term} {o : code.Judged} → step.out ≡ Ok v → Used s v o → r ≡ record { out = o; counts = step.counts; next = step.next } → Values s step r
  value_used q us e =
      record {
        is = λ x y u w c at j a.
            let l = steps.left_of_lem j a q in
            rw e (steps.goes j a used l.1 (used_agrees l.0 us refl refl l.2));
      }

pub value_same : {s : List ℕ} {step : Step} → ((w : Term) → step.out ≡ Ok w → ⊥) → Values s step step
value_same h = record { is = λ x y u w c at j a. steps.stays j a used h }

-- the same of the code's answers
pub values_as : {s : List ℕ} {r q : Result Valued Halt} (d : Counts) {t : Step} → r ≡ q → Values s (answered q d) t → Values s (answered r d) t
values_as {s} d {t} e g = subst (λ (o : Result Valued Halt). Values s (answered o d) t) (sym e) g

-- a void value
pub value_failed : {s : List ℕ} {v : Valued} {o : code.Judged} {h : Halt} {d : Counts} → Used s v.term o → o ≡ Err h → Values s (answered (Ok v) d) (answered (Err h) d)
value_failed {s} {v} {h = h} {d} us e =
    record { is = λ x y u w c at j a. steps.agrees_err (subst (λ (i : code.Judged). Agrees s (step i d v.next) x y u w c at (and_then j used)) e ((value_used {step = answered (Ok v) d} refl us refl).is x y u w c at j a)) }

-- one that is none
pub value_kept : {s : List ℕ} {v : Valued} {o : code.Judged} {w : Term} {d : Counts} → Used s v.term o → o ≡ Ok w
    → Values s (answered (Ok v) d) (answered (Ok (record { term = w; next = v.next })) d)
value_kept {v = v} {d = d} us e = value_used {step = answered (Ok v) d} refl us (ap (λ (i : code.Judged). step i d v.next) (sym e))

-- what a statement leads to, by its case
pub told_as : {r q : Result code_turn.Turn Refusal} (c : Counts) → r ≡ q → told r c ≡ told q c
told_as c e = ap (λ (o : Result code_turn.Turn Refusal). told o c) e

-- ---- a name that is bound

atom_is : (e : terms.Term) {a : Atom} → atom_of e ≡ some a → (p : ℕ) × (e ≡ atom p a)
atom_is (atom p a) q = (p, cc)
atom_is (called p c f vs) q = never (cc)
atom_is (divided p a b) q = never (cc)

-- its form
atom_form : (p : ℕ) (a : Atom) → (term_as (atom p a)).form ≤ 2
atom_form p (constant v) = omega arith
atom_form p (slot m t) = omega arith

other_form : (e : terms.Term) → atom_of e ≡ none → 2 < (term_as e).form
other_form (atom p a) q = never (cc)
other_form (called p c f vs) q = omega arith
other_form (divided p a b) q = omega arith

-- whatever its place
same_atom : (p : ℕ) (a : Atom) → ((atom_as p a).form ≡ form_of (some a)) × ((atom_as p a).kind ≡ kind_of (some a)) × ((atom_as p a).lo ≡ low_of (some a)) × ((atom_as p a).hi ≡ high_of (some a))
same_atom p (constant v) = (refl, refl, refl, refl)
same_atom p (slot m t) = (refl, refl, refl, refl)

module _ (s : List ℕ) (t : ℕ) (k : Known) {c : Counts} (l : c.used < most_names) {tok : Token} (at : tok ≡ token_as (token_of s t)) {key : ℕ}
    (made : key ≡ key_of (name_at (contents (tokens.tokens s)) t)) {v : Term} {e : Entry} (en : Enters tok t key v e) where
  named_as : (o : Option Atom) (m : ℕ) → v.form ≡ form_of o → v.kind ≡ kind_of o → v.lo ≡ low_of o → v.hi ≡ high_of o
      → BindsName s k c e (known k.imports (k.bindings ++ record { name = name_at (contents (tokens.tokens s)) t; tok = t; value = o } ∷ []) m)
  named_as o m f p q r =
      record {
        token = t;
        value = o;
        slots = m;
        named = en.named s at made;
        form = en.stands.form ∙ f;
        kind = en.stands.kind ∙ p;
        low = en.stands.low ∙ q;
        high = en.stands.high ∙ r;
        known = refl;
        room = l;
      }

  named_atom : (p : ℕ) (a : Atom) (m : ℕ) → v ≡ term_as (atom p a)
      → BindsName s k c e (known k.imports (k.bindings ++ record { name = name_at (contents (tokens.tokens s)) t; tok = t; value = some a } ∷ []) m)
  named_atom p a m w =
      let o = same_atom p a in
      named_as (some a) m (ap (λ (z : Term). z.form) w ∙ o.0) (ap (λ (z : Term). z.kind) w ∙ o.1) (ap (λ (z : Term). z.lo) w ∙ o.2) (ap (λ (z : Term). z.hi) w ∙ o.3)

  module _ (none_there : v ≡ no_value 0) where
    pub failed : (m : ℕ) → BindsName s k c e (known k.imports (k.bindings ++ record { name = name_at (contents (tokens.tokens s)) t; tok = t; value = none } ∷ []) m)
    failed m =
        named_as none m (ap (λ (z : Term). z.form) none_there) (ap (λ (z : Term). z.kind) none_there) (ap (λ (z : Term). z.lo) none_there)
        (ap (λ (z : Term). z.hi) none_there)

module _ {s : List ℕ} {tok : Token} {t key : ℕ} {v : Term} {next : ℕ} {c' : Counts} {u : List ℕ} {e : Entry} where
  -- a constant or a slot
  pub value_atom : v.form ≤ 2 → Enters tok t key v e → BindsValue s tok t key v next c' u (Ok (turn.Binds c' e)) u
  unfolding parts
  value_atom few en = record { is = λ x y h n k c f ws ls l sl at made a left. on x y h n k c f ws ls l sl at made a left (atom_of f) refl }
    where
      on : (x y h : List ℕ) (n : ℕ) (k : Known) (c : Counts) (f : terms.Term) (ws : List Diag) (ls : List ℕ) → c.used < most_names → c.slots ≡ k.slots
          → tok ≡ token_as (token_of s t) → key ≡ key_of (name_at (contents (tokens.tokens s)) t) → Adds s c x c' y ws ls → Left s h u c.statements f v next
          → (o : Option Atom) → atom_of f ≡ o → TurnOf s (Unit {0}) k c x h (Ok (turn.Binds c' e)) y u (bound_as (contents (tokens.tokens s)) n k t f o ws ls)
      on x y h n k c f ws ls l sl at made a left (some b) q =
          let z = atom_is f q in
          let table : u ≡ h = left.table ∙ rw z.1 (sym (no_rows (stmt_row (token_of s)) h (c.statements + 1))) in
          (named_atom s t k l at made en z.0 b k.slots (left.value ∙ ap term_as z.1), grows_none a sl (λ _. table))
      on x y h n k c f ws ls l sl at made a left none q = absurd (omega (arith, few, other_form f q, ap (λ (m : Term). m.form) left.value))

  -- any other value takes a slot
  module _ {w : List ℕ} {number : ℕ} {ty : «Type»} {c2 : Counts} (many : 2 < v.form) (is : number ≡ c'.slots) (sh : TypeShown v ty)
      (put : Puts s c'.statements t 1 number v u w) (to : c2 ≡ plus_slot c' next)
      (en : Enters tok t key (record { at = t; form = 2; kind = ty.kind; lo = number; hi = ty.entry }) e) where
    on_slot : (x y h : List ℕ) (n : ℕ) (k : Known) (c : Counts) (f : terms.Term) (ws : List Diag) (ls : List ℕ) → c.used < most_names → c.slots ≡ k.slots
        → tok ≡ token_as (token_of s t) → key ≡ key_of (name_at (contents (tokens.tokens s)) t) → Adds s c x c' y ws ls → Left s h u c.statements f v next
        → (o : Option Atom) → atom_of f ≡ o → TurnOf s (Unit {0}) k c x h (Ok (turn.Binds c2 e)) y w (bound_as (contents (tokens.tokens s)) n k t f o ws ls)
    on_slot x y h n k c f ws ls l sl at made a left (some b) q =
        let z = atom_is f q in
        absurd (omega (arith, many, atom_form z.0 b, ap (λ (r : Term). r.form) (left.value ∙ ap term_as z.1)))
    on_slot x y h n k c f ws ls l sl at made a left none q =
        let own = k.slots in
        let num : number ≡ own = is ∙ adds_slots a ∙ sl in
        let shown = sh.is f left.value in
        let kind : ty.kind ≡ kind_of (some (slot own (term_type f))) = ap (λ (r : «Type»). r.kind) shown in
        let high : ty.entry ≡ high_of (some (slot own (term_type f))) = ap (λ (r : «Type»). r.entry) shown in
        let grown : Adds s (unheld c) x (unheld c2) y ws ls = rw to (adds_unheld a) in
        let slots : c2.slots ≡ suc own = omega (arith, ap (λ (z : Counts). z.slots) to, adds_slots a, sl) in
        let rows : c2.statements ≡ next = ap (λ (z : Counts). z.statements) to in
        let here : Puts s c.statements t 1 number v u w = rw (adds_statements a) at put in
        (named_as s t k l at made en (some (slot own (term_type f))) (suc own) refl kind num high, grows_held (lets own) grown slots rows left here refl num)

    pub value_slot : BindsValue s tok t key v next c' u (Ok (turn.Binds c2 e)) w
    value_slot = record { is = λ x y h n k c f ws ls l sl at made a left. on_slot x y h n k c f ws ls l sl at made a left (atom_of f) refl }

-- ---- what a value came to

pub binds_as : {s : List ℕ} {tok : Token} {t key : ℕ} {r q : Result Valued Halt} (d : Counts) {x' u' : List ℕ} {a : Result Turn Refusal} {y w : List ℕ} → r ≡ q
    → Binds s tok t key (answered q d) x' u' a y w → Binds s tok t key (answered r d) x' u' a y w
binds_as {s} {tok} {t} {key} d {x'} {u'} {a} {y} {w} e g = subst (λ (o : Result Valued Halt). Binds s tok t key (answered o d) x' u' a y w) (sym e) g

module _ {s : List ℕ} {tok : Token} {t key : ℕ} {step : Step} {x' u' : List ℕ} where
  pub binds_val : {v : Term} {r : Result Turn Refusal} {w : List ℕ} → step.out ≡ Ok v → BindsValue s tok t key v step.next step.counts u' r w → Binds s tok t key step x' u' r x' w
  binds_val {r = r} {w} q b =
      record {
        is = λ x u n k c j num l sl at made a.
            let left = steps.left_of_lem j a q in
            subst (λ (o : judgements.Judged terms.Term). TurnOf s (IsVal o) k c x u r x' w (bound (contents (tokens.tokens s)) n k t o j.warns j.looks)) (sym left.1)
            (b.is x x' u n k c left.0 j.warns j.looks l sl at made a.adds left.2);
      }

  module _ {e : Entry} (en : Enters tok t key (no_value 0) e) where
    pub binds_none : step.out ≡ Err halt.Poisoned → Binds s tok t key step x' u' (Ok (turn.Binds step.counts e)) x' u'
    binds_none q = record { is = λ x u n k c j num l sl at made a. by x u n k c j l sl at made a j.out (sym q ∙ a.out) }
      where
        by : (x u : List ℕ) (n : ℕ) (k : Known) (c : Counts) (j : Judgement terms.Term) → c.used < most_names → c.slots ≡ k.slots → tok ≡ token_as (token_of s t)
            → key ≡ key_of (name_at (contents (tokens.tokens s)) t) → Agrees s step x x' u u' c c.statements j → (o : judgements.Judged terms.Term) → Err halt.Poisoned ≡ judged_as s o
            → TurnOf s (IsVal o) k c x u (Ok (turn.Binds step.counts e)) x' u' (bound (contents (tokens.tokens s)) n k t o j.warns j.looks)
        by x u n k c j l sl at made a (val d) p = never (cc)
        by x u n k c j l sl at made a (err b m) p = never (cc)
        by x u n k c j l sl at made a poisoned p = (failed s t k l at made en refl k.slots, grows_none a.adds sl (λ z. absurd z))
        by x u n k c j l sl at made a (stopped b) p = never (cc)

    pub binds_err : {f : Diagnostic} {c' : Counts} {y : List ℕ} → step.out ≡ Err (halt.Found f) → Reports step.counts f x' c' y → Binds s tok t key step x' u' (Ok (turn.Binds c' e)) y u'
    binds_err {f} {c'} {y} q r = record { is = λ x u n k c j num l sl at made a. by x u n k c j num l sl at made a j.out (sym q ∙ a.out) }
      where
        by : (x u : List ℕ) (n : ℕ) (k : Known) (c : Counts) (j : Judgement terms.Term) → n ≡ c.number → c.used < most_names → c.slots ≡ k.slots → tok ≡ token_as (token_of s t)
            → key ≡ key_of (name_at (contents (tokens.tokens s)) t) → Agrees s step x x' u u' c c.statements j → (o : judgements.Judged terms.Term) → Err (halt.Found f) ≡ judged_as s o
            → TurnOf s (IsVal o) k c x u (Ok (turn.Binds c' e)) y u' (bound (contents (tokens.tokens s)) n k t o j.warns j.looks)
        by x u n k c j num l sl at made a (val d) p = never (cc)
        by x u n k c j num l sl at made a (err b m) p =
            let w : f ≡ diagnostic_as s b m = cc in (
              failed s t k l at made en refl k.slots,
              grows_none (adds_last a.adds (adds_reported s n b m (num ∙ sym (adds_number a.adds)) w r)) sl (λ z. absurd z),
            )
        by x u n k c j num l sl at made a poisoned p = never (cc)
        by x u n k c j num l sl at made a (stopped b) p = never (cc)

  pub binds_stop : {p : ℕ} → step.out ≡ Err (halt.Stopped p) → Binds s tok t key step x' u' (Err (Calls p)) x' u'
  binds_stop {p} q = record { is = λ x u n k c j num l sl at made a. by x u n k c j j.out (sym q ∙ a.out) }
    where
      by : (x u : List ℕ) (n : ℕ) (k : Known) (c : Counts) (j : Judgement terms.Term) (o : judgements.Judged terms.Term) → Err (halt.Stopped p) ≡ judged_as s o
          → TurnOf s (IsVal o) k c x u (Err (Calls p)) x' u' (bound (contents (tokens.tokens s)) n k t o j.warns j.looks)
      by x u n k c j (val d) e = never (cc)
      by x u n k c j (err b m) e = never (cc)
      by x u n k c j poisoned e = never (cc)
      by x u n k c j (stopped b) e = (refl, cc)

-- ---- lets

pub twice : (s : List ℕ) (first : ℕ) {tok then : Token} {d : Diagnostic} {c c' : Counts} {x y : List ℕ} → then ≡ token_as (token_of s first)
    → d ≡ at_token tok (AlreadyBound then.line then.column) → Reports c d x c' y → BoundTwice s tok first c x c' y
twice s first p q r = record { adds = λ n t num at. adds_reported s n t (already_bound first) num (q ∙ at_token_lem s t (already_bound first) at (rw p)) r }

module _ (ts : List Content) (n : ℕ) (k : Known) (t : ℕ) (e : Expr) where
  abbrev look : ℕ
  look = compared k.bindings (name_at ts t)

  abbrev value : Judgement terms.Term
  value = and_then (judge ts n k e) used

  abbrev turned : Bool → judgements.Turn
  turned z = if' z (bound ts n k t value.out value.warns (look ∷ value.looks)) (refuses names_number t)

  let_again : {b : Binding} → find k.bindings (name_at ts t) ≡ some b → stmt ts n k (let' t e) ≡ goes k (diag n t (already_bound b.tok) ∷ []) [] (look ∷ [])
  unfolding stmt
  let_again q = ap (judgements.let_stmt ts n k t e look) q

  let_new : find k.bindings (name_at ts t) ≡ none → stmt ts n k (let' t e) ≡ turned (ltb (length k.bindings) most_names)
  unfolding stmt
  let_new q = ap (judgements.let_stmt ts n k t e look) q

module _ (s : List ℕ) (n t t' : ℕ) (q : t ≡ t') (k : Known) (e : Expr) (b m u x : List ℕ) (c : Counts) (kn : Knows s b m c k) (num : n ≡ c.number) {w : List ℕ} {i : ℕ}
    (p : i ≡ place (names_in s b c.used 0) w) (o : w ≡ name_at (contents (tokens.tokens s)) t) where
  abbrev cs : List Content
  cs = contents (tokens.tokens s)

  at_place : i ≡ place (names_in s b c.used 0) (name_at cs t)
  at_place = same_place (names_in s b c.used 0) p o

  moved : stmt cs n k (let' t' e) ≡ stmt cs n k (let' t e)
  moved = ap (λ (z : ℕ). stmt cs n k (let' z e)) (sym q)

  abbrev Lets : Result Turn Refusal → List ℕ → List ℕ → judgements.Turn → Type 0
  Lets r y v z = TurnOf s (IsVal (value cs n k t e).out) k c x u r y v z

  -- the search is counted
  searched : {l : ℕ} {d : Counts} → d ≡ plus_search c l → l ≡ looked (names_in s b c.used 0) w → d ≡ plus_search c (look cs n k t e)
  searched g l = counted_look s b c.used c g l o ∙ ap (λ (bs : List Binding). plus_search c (compared bs (name_at cs t))) (sym (bindings_are kn))

  pub lets_again : {tok : Token} {first l : ℕ} {d c' : Counts} {y : List ℕ} → d ≡ plus_search c l → l ≡ looked (names_in s b c.used 0) w
      → i < c.used → first ≡ name_word b i 2 → tok ≡ token_as (token_of s t) → BoundTwice s tok first d x c' y
      → Turns s n k (let' t' e) c x u (Ok (turn.Went c')) y u
  lets_again {first = first} {d = d} {c' = c'} {y = y} g l h f at r =
      let hit = ap (λ (l : List Binding). find l (name_at cs t)) (bindings_are kn) ∙ bound_found s b (name_at cs t) c.used i at_place h in
      let step : stmt cs n k (let' t' e) ≡ goes k (diag n t (already_bound first) ∷ []) [] (look cs n k t e ∷ []) = moved ∙ let_again cs n k t e hit ∙ rw (← f) in
      let found = adds_then (adds_look s (look cs n k t e) (searched g l)) (r.adds n t (searched_number c _ g num) at) in
      record { turn = subst (Lets (Ok (turn.Went c')) y u) (sym step) (refl, grows_none found (slots_are kn) (λ _. refl)) }

  module _ (h : c.used ≤ i) where
    unbound : find k.bindings (name_at cs t) ≡ none
    unbound = ap (λ (l : List Binding). find l (name_at cs t)) (bindings_are kn) ∙ bound_lost s b (name_at cs t) c.used i at_place h

    by_room : (z : Bool) → ltb (length k.bindings) most_names ≡ z → stmt cs n k (let' t' e) ≡ turned cs n k t e z
    by_room z f = moved ∙ let_new cs n k t e unbound ∙ ap (turned cs n k t e) f

    pub lets_full : most_names ≤ c.used → Turns s n k (let' t' e) c x u (Err (Names t)) x u
    lets_full l =
        let f = le-ltb (length k.bindings) most_names (omega (arith, bindings_many kn, l)) in
        record { turn = subst (Lets (Err (Names t)) x u) (sym (by_room false f)) (refl, refl) }

    -- after the value was judged
    pub lets_bound : {tok : Token} {key l at : ℕ} {first step : Step} {x' u' : List ℕ} {r : Result Turn Refusal} {d : Counts} {y v : List ℕ} → d ≡ plus_search c l
        → l ≡ looked (names_in s b c.used 0) w → c.used < most_names → tok ≡ token_as (token_of s t) → key ≡ key_of (name_at cs t) → at ≡ d.statements
        → Agrees s first x x' u u' d at (judge cs n k e) → Values s first step → Binds s tok t key step x' u' r y v → Turns s n k (let' t' e) c x u r y v
    lets_bound {r = r} {d} {y} {v} g p l in_source made here a vs bs =
        let f = lt-ltb (length k.bindings) most_names (omega (arith, bindings_many kn, l)) in
        let used-too = vs.is _ _ _ _ _ _ _ a in
        let same : d.statements ≡ c.statements = ap (λ (z : Counts). z.statements) g in
        let row : ◌≡◌ {A = ℕ} _ c.statements = here ∙ same in
        let whole : Agrees s _ x _ u _ c c.statements (record { out = (value cs n k t e).out; warns = (value cs n k t e).warns; looks = look cs n k t e ∷ (value cs n k t e).looks }) =
        record {
          out = used-too.out;
          adds = adds_then (adds_look s (look cs n k t e) (searched g p)) used-too.adds;
          next = rw row at used-too.next;
          rows = rw row at used-too.rows;
        } in
        record { turn = subst (Lets r y v) (sym (by_room true f)) (bs.is x u n k c _ num l (slots_are kn) in_source made whole) }

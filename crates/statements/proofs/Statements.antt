-- Expressions as statements: each way through one.
use mathlib.Core.Path.{◌≡◌, refl, sym, ap, subst, ◌∙◌}
use mathlib.Core.List.{List, [], ◌∷◌, ◌++◌, append-nil}
use mathlib.Core.Option.{Option, none, some}
use Prim.Native.Nat.{ℕ, ◌+◌, ◌*◌, ◌≤◌, ◌<◌}
use native.Mathlib.Omega.{arith}
use borrow.Author.Tests.{ne_eqb}
use lib.ListN.{length}
use Rattle.std.specs.Prelude as prelude
use Rattle.std.specs.Prelude.{Some, None, Ok, Err}
use Rattle.language.specs.Integers.{IntType, u8, u16, u32, u64, smallest}
use Rattle.language.specs.Tokens as tokens
use Rattle.language.specs.Tokens.{Content, contents}
use Rattle.language.specs.Sentences.{Expr, expr', first_of, expr_size}
use Rattle.language.specs.Values.{Ty, ty_void, ty_bool, ty_int, ty_ip4, ty_sock4, ty_bytes, ty_pkt, ty_pkt_gen, ty_time_jump, ty_function, ty_integer, ty_kind, same_ty, is_sized}
use Rattle.language.specs.Terms as terms
use Rattle.language.specs.Terms.{constant, atom, called, divided, term_type}
use Rattle.language.specs.Judgements as judgements
use Rattle.language.specs.Judgements.{Diag, diag, held, Known, Deed, lets, emits, waits, evals, discards, deed_of, val, err, poisoned, stopped, goes_on, and_then, used, unsized_of, narrowed, discarded, discarded_value, integral_too_large, does, sized, told, most_names, judge, stmt}
use Rattle.language.specs.Findings.{deed_kind, deed_slot, parts, stmt_row}
use Rattle.language.specs.Numbers.{token_of}
use Rattle.language.proofs.Tests.{never, each_side}
use Rattle.language.proofs.NodeClaims.{some_node}
use Rattle.language.proofs.WarnsFew.{judge_warns}
use Rattle.rows.specs.Rows.{node_word}
use Rattle.rows.specs.declared.token.Token.{Token}
use Rattle.rows.specs.declared.types.Type.{«Type»}
use Rattle.rows.specs.Tokens.{token_as}
use Rattle.names.specs.declared.Found.{Found}
use Rattle.names.specs.Names.{names_in, Finds}
use Rattle.names.proofs.Names.{found_few}
use Rattle.findings.specs.declared.Counts.{Counts}
use Rattle.findings.specs.declared.Diagnostic.{Diagnostic}
use Rattle.findings.specs.declared.What.TheVariants.{DiscardedValue, IntegralTooLarge}
use Rattle.findings.specs.Findings.{at_token, diagnostic_as, most_compared, plus_search, Reports, Adds}
use Rattle.findings.proofs.Adds.{adds_none, adds_last, adds_reported, adds_count, adds_number, adds_slots, adds_statements}
use Rattle.findings.proofs.Rows.{no_rows}
use Rattle.findings.proofs.Texts.{at_token_lem}
use Rattle.values.specs.declared.Term.{Term}
use Rattle.values.specs.declared.Halt.TheVariants as halt
use Rattle.values.specs.Values.{term_as, narrowed_as, judged_as, TypeShown, Narrow}
use Rattle.holding.specs.Holding.{Step}
use Rattle.holding.specs.Holding.{most_rows, Puts, Agrees}
use Rattle.judging.specs.Judging.{most_findings, RepAt, LookFits, Fits, Left}
use Rattle.judging.proofs.Steps.{left_of_lem}
use Rattle.statements.specs.Turned.{Went}
use Rattle.statements.specs.declared.Refusal.TheVariants.{Calls}
use Rattle.statements.specs.Checking.{held_to, unheld, Room, StmtFits, deed_number, GoesOf, IsVal, Does, Tells, TurnOf, Turns, Values}
use Rattle.statements.proofs.Growing.{adds_unheld, grows_none, grows_held, grows_after, grows_if}

abbrev ts : List ℕ → List Content
ts s = contents (tokens.tokens s)

-- ---- what a statement does, by the type of its value

pub deed_pkt : {k : ℕ} → k ≡ 10 → 2 ≡ deed_number k
unfolding deed_number
deed_pkt e = rw e

pub deed_generator : {k : ℕ} → k ≡ 11 → 2 ≡ deed_number k
unfolding deed_number
deed_generator e = rw e

pub deed_jump : {k : ℕ} → k ≡ 12 → 3 ≡ deed_number k
unfolding deed_number
deed_jump e = rw e

pub deed_void : {k : ℕ} → k ≡ 1 → 4 ≡ deed_number k
unfolding deed_number
deed_void e = rw e

pub deed_other : {k : ℕ} → (k ≡ 10 → ⊥) → (k ≡ 11 → ⊥) → (k ≡ 12 → ⊥) → (k ≡ 1 → ⊥) → 5 ≡ deed_number k
unfolding deed_number
deed_other {k} a b c d = rw (ne_eqb k 10 a, ne_eqb k 11 b, ne_eqb k 12 c, ne_eqb k 1 d)

deed_number_lem : (t : Ty) → deed_number (ty_kind t) ≡ deed_kind (deed_of t)
unfolding deed_number
deed_number_lem ty_void = refl
deed_number_lem ty_bool = refl
deed_number_lem (ty_int u8) = refl
deed_number_lem (ty_int u16) = refl
deed_number_lem (ty_int u32) = refl
deed_number_lem (ty_int u64) = refl
deed_number_lem ty_ip4 = refl
deed_number_lem ty_sock4 = refl
deed_number_lem ty_bytes = refl
deed_number_lem ty_pkt = refl
deed_number_lem ty_pkt_gen = refl
deed_number_lem ty_time_jump = refl
deed_number_lem (ty_function k) = refl
deed_number_lem ty_integer = refl

-- it makes no slot
no_slot : (t : Ty) → deed_slot (deed_of t) ≡ 0
no_slot ty_void = refl
no_slot ty_bool = refl
no_slot (ty_int t) = refl
no_slot ty_ip4 = refl
no_slot ty_sock4 = refl
no_slot ty_bytes = refl
no_slot ty_pkt = refl
no_slot ty_pkt_gen = refl
no_slot ty_time_jump = refl
no_slot (ty_function k) = refl
no_slot ty_integer = refl

module _ (cs : List Content) (n at : ℕ) (ty : Ty) where
  discards_only : (d : Deed) → deed_kind d ≡ 5 → discarded cs n at ty d ≡ diag n at (discarded_value ty) ∷ []
  discards_only discards e = refl
  discards_only (lets m) e = absurd (omega (arith, e))
  discards_only emits e = absurd (omega (arith, e))
  discards_only waits e = absurd (omega (arith, e))
  discards_only evals e = absurd (omega (arith, e))

  no_discard : (d : Deed) → (deed_kind d ≡ 5 → ⊥) → discarded cs n at ty d ≡ []
  no_discard discards h = absurd (h refl)
  no_discard (lets m) h = refl
  no_discard emits h = refl
  no_discard waits h = refl
  no_discard evals h = refl

module _ (s : List ℕ) (t : ℕ) {v : Term} {ty : «Type»} {kind next : ℕ} {c : Counts} {u w : List ℕ} (sh : TypeShown v ty) (q : kind ≡ deed_number ty.kind)
    (put : Puts s c.statements t kind 0 v u w) {c1 : Counts} (to : c1 ≡ held_to c next) where
  kind_is : (e : terms.Term) → v ≡ term_as e → kind ≡ deed_kind (deed_of (term_type e))
  kind_is e z = q ∙ ap deed_number (ap (λ (r : «Type»). r.kind) (sh.is e z)) ∙ deed_number_lem (term_type e)

  does_with : (k : Known) (n : ℕ) (e : terms.Term) (h : List ℕ) {c' : Counts} {x y : List ℕ} (ds : List Diag) → discarded (ts s) n t (term_type e) (deed_of (term_type e)) ≡ ds
      → Adds s c1 x c' y ds [] → c.slots ≡ k.slots → Left s h u c.statements e v next
      → GoesOf s (Unit {0}) k c x h c' y w (does (ts s) n k t e (deed_of (term_type e)) [] [])
  does_with k n e h {c'} {x} {y} ds o a sl l =
      let b : Adds s (unheld c) x (unheld c') y ds [] = rw to at (adds_unheld a) in
      let slots : c'.slots ≡ k.slots = adds_slots a ∙ ap (λ (z : Counts). z.slots) to ∙ sl in
      let rows : c'.statements ≡ next = adds_statements a ∙ ap (λ (z : Counts). z.statements) to in
      (refl, rw o (grows_held (deed_of (term_type e)) b slots rows l put (kind_is e l.value) (sym (no_slot (term_type e)))))

  pub does_discard : {tok : Token} {d : Diagnostic} {c' : Counts} {x y : List ℕ} → kind ≡ 5 → tok ≡ token_as (token_of s t) → d ≡ at_token tok (DiscardedValue ty)
      → Reports c1 d x c' y → Does s t v next c x u c' y w
  does_discard k5 at g r =
      record {
        is = λ n k e h num sl l.
            let what = discarded_value (term_type e) in
            let found = adds_reported s n t what (num ∙ sym (ap (λ (z : Counts). z.number) to)) (g ∙ at_token_lem s t what at (ap DiscardedValue (sh.is e l.value))) r in
            does_with k n e h _ (discards_only (ts s) n t (term_type e) (deed_of (term_type e)) (sym (kind_is e l.value) ∙ k5)) found sl l;
      }

  pub does_other : {x : List ℕ} → (kind ≡ 5 → ⊥) → Does s t v next c x u c1 x w
  does_other {x} k5 =
      record {
        is = λ n k e h num sl l.
            does_with k n e h [] (no_discard (ts s) n t (term_type e) (deed_of (term_type e)) (λ z. k5 (kind_is e l.value ∙ z))) (adds_none s c1 x) sl l;
      }

-- ---- a value that is told of

as_fits : (o : Option terms.Term) {w : Term} → Some w ≡ narrowed_as o → (p : terms.Term) × (o ≡ some p) × (w ≡ term_as p)
as_fits (some p) e = (p, refl, cc)
as_fits none e = never (cc)

as_large : (o : Option terms.Term) → None ≡ narrowed_as o → o ≡ none
as_large (some p) e = never (cc)
as_large none e = refl

-- narrowing keeps the parts, of which a constant has none
narrowed_parts : (e f : terms.Term) → narrowed e ≡ some f → parts f ≡ parts e
unfolding narrowed parts
narrowed_parts (atom p a) f = sized_of (unsized_of (atom p a))
  where
    by : (o : Option IntType) (i : ℕ) → elim o [ some t ↦ some (atom p (constant (is_sized t i))) | none ↦ none ] ≡ some f → parts f ≡ []
    by (some t) i q = let z : atom p (constant (is_sized t i)) ≡ f = cc in rw (← z)
    by none i q = never (cc)

    sized_of : (o : Option ℕ) → elim o [
      | some i ↦ elim (smallest i) [ some t ↦ some (atom p (constant (is_sized t i))) | none ↦ none ]
      | none ↦ some (atom p a)
    ] ≡ some f → parts f ≡ []
    sized_of (some i) q = by (smallest i) i q
    sized_of none q = let z : atom p a ≡ f = cc in rw (← z)
narrowed_parts (called p c g vs) f = λ q. let z : called p c g vs ≡ f = cc in rw (← z)
narrowed_parts (divided p a b) f = λ q. let z : divided p a b ≡ f = cc in rw (← z)

-- what is too large is a constant
large_parts : (e : terms.Term) → narrowed e ≡ none → parts e ≡ []
unfolding narrowed parts
large_parts (atom p a) q = refl
large_parts (called p c g vs) q = never (cc)
large_parts (divided p a b) q = never (cc)

module _ (s : List ℕ) (t : ℕ) {v : Term} {r : prelude.Option Term} {next : ℕ} {c : Counts} {x u : List ℕ} (na : Narrow v r) where
  pub tells_fits : {w : Term} {c' : Counts} {y z : List ℕ} → r ≡ Some w → Does s t w next c x u c' y z → Tells s t v next c x u c' y z
  tells_fits {w} {c'} {y} {z} q d =
      record {
        is = λ n k e h num sl l.
            let o = as_fits (narrowed e) (sym q ∙ na.is e l.value) in
            let same = narrowed_parts e o.0 o.1 in
            let m : Left s h u c.statements o.0 w next = record { value = o.2; free = rw same l.free; table = rw same l.table } in
            subst (λ (b : Option terms.Term). GoesOf s (Unit {0}) k c x h c' y z (sized (ts s) n k t b [] [])) (sym o.1) (d.is n k o.0 h num sl m);
      }

  pub tells_large : {tok : Token} {d : Diagnostic} {c' : Counts} {y : List ℕ} → r ≡ None → tok ≡ token_as (token_of s t) → d ≡ at_token tok IntegralTooLarge
      → Reports c d x c' y → Tells s t v next c x u c' y u
  tells_large {c' = c'} {y} q at g rep =
      record {
        is = λ n k e h num sl l.
            let o = as_large (narrowed e) (sym q ∙ na.is e l.value) in
            let found = adds_reported s n t integral_too_large num (g ∙ at_token_lem s t integral_too_large at refl) rep in
            let table : u ≡ h = l.table ∙ rw (large_parts e o) (sym (no_rows (stmt_row (token_of s)) h (c.statements + 1))) in
            subst (λ (b : Option terms.Term). GoesOf s (Unit {0}) k c x h c' y u (sized (ts s) n k t b [] [])) (sym o) (refl, grows_none found sl (λ _. table));
      }

-- ---- an expression as a statement

module _ (s : List ℕ) (P : Type 0) (n t : ℕ) (k : Known) {c c1 : Counts} (c' : Counts) {x y : List ℕ} (u z w : List ℕ) {ws : List Diag} {ls : List ℕ} where
  after_warnings : (o : Option terms.Term) → Adds s c x c1 y ws ls → GoesOf s (Unit {0}) k c1 y u c' z w (sized (ts s) n k t o [] [])
      → TurnOf s P k c x u (Ok (Went c')) z w (sized (ts s) n k t o ws ls)
  after_warnings (some v) a g = (g.0, grows_if (λ p. tt) (grows_after a g.1))
  after_warnings none a g = (g.0, grows_if (λ p. tt) (grows_after a g.1))

module _ (s : List ℕ) (n : ℕ) (k : Known) (e : Expr) {step : Step} {c : Counts} {x y u v : List ℕ}
    (h : Agrees s step x y u v c c.statements (judge (ts s) n k e)) (num : n ≡ c.number) (sl : c.slots ≡ k.slots) where
  abbrev j : judgements.Judgement terms.Term
  j = judge (ts s) n k e

  still : n ≡ step.counts.number
  still = num ∙ sym (adds_number h.adds)

  pub expr_val : {f : Term} {t : ℕ} {c' : Counts} {z w : List ℕ} → step.out ≡ Ok f → t ≡ first_of e → Tells s t f step.next step.counts y v c' z w
      → Turns s n k (expr' e) c x u (Ok (Went c')) z w
  unfolding stmt
  expr_val {f} {t} {c'} {z} {w} q at g =
      let l = left_of_lem j h q in
      let same : step.counts.statements ≡ c.statements = adds_statements h.adds in
      let m : Left s u v step.counts.statements l.0 f step.next = subst (λ (a : ℕ). Left s u v a l.0 f step.next) (sym same) l.2 in
      let told_of = g.is n k l.0 u still (adds_slots h.adds ∙ sl) m in
      let P = IsVal j.out in
      let turned = after_warnings s P n t k c' u z w (narrowed l.0) h.adds told_of in
      record {
        turn = subst (λ (o : judgements.Judged terms.Term). TurnOf s P k c x u (Ok (Went c')) z w (told (ts s) n k (first_of e) o j.warns j.looks)) (sym l.1)
            (subst (λ (b : ℕ). TurnOf s P k c x u (Ok (Went c')) z w (sized (ts s) n k b (narrowed l.0) j.warns j.looks)) at turned);
      }

  abbrev Told : judgements.Judged terms.Term → Counts → List ℕ → Type 0
  Told o c' z = TurnOf s (IsVal o) k c x u (Ok (Went c')) z v (told (ts s) n k (first_of e) o j.warns j.looks)

  told_err : (o : judgements.Judged terms.Term) {f : Diagnostic} {c' : Counts} {z : List ℕ} → Err (halt.Found f) ≡ judged_as s o → Reports step.counts f y c' z → Told o c' z
  told_err (val d) q r = never (cc)
  told_err (err at m) {f} q r =
      let w : f ≡ diagnostic_as s at m = cc in
      (refl, grows_none (adds_last h.adds (adds_reported s n at m still w r)) sl (λ p. absurd p))
  told_err poisoned q r = never (cc)
  told_err (stopped p) q r = never (cc)

  told_none : (o : judgements.Judged terms.Term) → Err halt.Poisoned ≡ judged_as s o → Told o step.counts y
  told_none (val d) q = never (cc)
  told_none (err at m) q = never (cc)
  told_none poisoned q = (refl, grows_none h.adds sl (λ p. absurd p))
  told_none (stopped p) q = never (cc)

  told_stop : (o : judgements.Judged terms.Term) {p : ℕ} → Err (halt.Stopped p) ≡ judged_as s o
      → TurnOf s (IsVal o) k c x u (Err (Calls p)) y v (told (ts s) n k (first_of e) o j.warns j.looks)
  told_stop (val d) q = never (cc)
  told_stop (err at m) q = never (cc)
  told_stop poisoned q = never (cc)
  told_stop (stopped t) q = (refl, cc)

  pub expr_err : {f : Diagnostic} {c' : Counts} {z : List ℕ} → step.out ≡ Err (halt.Found f) → Reports step.counts f y c' z → Turns s n k (expr' e) c x u (Ok (Went c')) z v
  unfolding stmt
  expr_err q r = record { turn = told_err j.out (sym q ∙ h.out) r }

  pub expr_none : step.out ≡ Err halt.Poisoned → Turns s n k (expr' e) c x u (Ok (Went step.counts)) y v
  unfolding stmt
  expr_none q = record { turn = told_none j.out (sym q ∙ h.out) }

  pub expr_stop : {p : ℕ} → step.out ≡ Err (halt.Stopped p) → Turns s n k (expr' e) c x u (Err (Calls p)) y v
  unfolding stmt
  expr_stop q = record { turn = told_stop j.out (sym q ∙ h.out) }

-- ---- room

-- a value that is used warns of nothing more
pub then_used : (j : judgements.Judgement terms.Term) → length (and_then j used).warns ≤ length j.warns
unfolding and_then used
then_used j = by j.out
  where
    by : (o : judgements.Judged terms.Term) → length (goes_on o j.warns j.looks used).warns ≤ length j.warns
    by (val v) = each_side (λ (i : judgements.Judgement terms.Term). length (j.warns ++ i.warns) ≤ length j.warns) (same_ty ty_void (term_type v)) (rw (append-nil j.warns) (omega arith)) (rw (append-nil j.warns) (omega arith))
    by (err at w) = omega arith
    by poisoned = omega arith
    by (stopped t) = omega arith

-- a search looks at no more names than there may be
pub look_most : (s ws w : List ℕ) (used : ℕ) {r : Found} → Finds (names_in s ws used 0) w r → used ≤ most_names → r.compared ≤ most_names
look_most s ws w used f h = omega (arith, found_few s ws w used f)

-- the expression of the statement in row i can be judged, after the search for a name
pub record JudgeFits (ws : List ℕ) (i : ℕ) (c : Counts) : Type 0 where
  pub tree : Expr
  pub rep : RepAt ws (node_word ws i 2) tree
  pub room : c.errors + c.warnings + expr_size tree + 2 ≤ most_findings
  pub held : c.statements + expr_size tree ≤ most_rows
  pub slots : c.slots < most_findings
  pub looks : c.comparisons + most_names * expr_size tree ≤ most_compared

module _ {ws : List ℕ} {i : ℕ} {c : Counts} (f : StmtFits ws i c) where
  abbrev pub expr_fits : JudgeFits ws i c
  expr_fits = record { tree = f.tree; rep = f.rep; room = f.room; held = f.held; slots = f.slots; looks = omega (arith, f.looks) }

  pub let_looks : LookFits c
  let_looks = omega (arith, f.looks)

  pub let_room : (l : ℕ) {d : Counts} → d ≡ plus_search c l → d.errors + d.warnings < most_findings
  let_room l e = rw e (omega (arith, f.room))

  abbrev pub let_fits : {l : ℕ} {d : Counts} → d ≡ plus_search c l → l ≤ most_names → JudgeFits ws i d
  let_fits e h =
      record {
        tree = f.tree;
        rep = f.rep;
        room = rw e f.room;
        held = rw e f.held;
        slots = rw e f.slots;
        looks = rw e (omega (arith, f.looks, h));
      }

module _ {ws : List ℕ} {i : ℕ} {c : Counts} (f : JudgeFits ws i c) where
  pub fits_expr : {e at : ℕ} → e ≡ node_word ws i 2 → at ≡ c.statements → Fits ws e at c
  fits_expr q p = record { tree = f.tree; rep = rw q f.rep; room = f.room; rows = rw p f.held; looks = f.looks }

  pub room_after : (s : List ℕ) (n : ℕ) (k : Known) {step : Step} {x y u v : List ℕ} {at : ℕ} → Agrees s step x y u v c at (judge (ts s) n k f.tree)
      → Room step.counts
  room_after s n k a =
      record {
        findings = omega (arith, adds_count a.adds, f.room, judge_warns (ts s) n k f.tree);
        held = omega (arith, adds_statements a.adds, f.held, some_node f.tree);
        slots = omega (arith, adds_slots a.adds, f.slots);
      }

  -- and where the value must not be void
  pub value_room : (s : List ℕ) (n : ℕ) (k : Known) {first step : Step} {x y u v : List ℕ} {at : ℕ} → Values s first step
      → Agrees s first x y u v c at (judge (ts s) n k f.tree) → Room step.counts
  value_room s n k w a =
      let b = w.is _ _ _ _ _ _ _ a in
      record {
        findings = omega (arith, adds_count b.adds, f.room, then_used (judge (ts s) n k f.tree), judge_warns (ts s) n k f.tree);
        held = omega (arith, adds_statements b.adds, f.held, some_node f.tree);
        slots = omega (arith, adds_slots b.adds, f.slots);
      }

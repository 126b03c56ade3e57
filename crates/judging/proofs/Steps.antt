-- What a step's answer says of a judgement, and how one step follows another.
use mathlib.Core.Path.{◌≡◌, refl, sym, ap, subst, ◌∙◌}
use mathlib.Core.Bool.{Bool, true, false}
use mathlib.Core.List.{List, [], ◌∷◌}
use Prim.Native.Nat.{ℕ, ◌+◌, ◌≤◌}
use native.Mathlib.Omega.{arith}
use lib.ListN.{length}
use Rattle.language.specs.Choice.{if'}
use Rattle.language.specs.Tokens.{Content}
use Rattle.language.specs.Sentences.{Expr, literal, sock4, local, path, member, call, slash'}
use Rattle.language.specs.Values.{ty_void, same_ty}
use Rattle.language.specs.Terms as terms
use Rattle.language.specs.Terms.{term_at, term_type}
use Rattle.language.specs.Judgements.{What, Judged, val, err, poisoned, stopped, Judgement, judgement, fine, wrong, and_then, goes_on, Known, used, void_value, over, membered, applied}
use Rattle.language.specs.Findings.{parts}
use Rattle.language.proofs.Tests.{never}
use Rattle.findings.specs.declared.Counts.{Counts}
use Rattle.findings.proofs.Adds.{adds_none, adds_then}
use Rattle.findings.proofs.Rows.{no_rows}
use Rattle.values.specs.declared.Term.{Term}
use Rattle.values.specs.Values as code
use Rattle.std.specs.Prelude.{Result, Ok, Err}
use Rattle.values.specs.Values.{term_as, judged_as, Used}
use Rattle.values.specs.declared.Halt.{Halt}
use Rattle.holding.specs.declared.Valued.{Valued}
use Rattle.holding.specs.Holding.{Step, step, stepped, put_held, Judges, Agrees}
use Rattle.arguments.proofs.Then.{goes as went}
use Rattle.judging.specs.Judging.{going, rest, Left}

-- the same answer, by its case
pub stepped_as : {s : List ℕ} {r q : Result Valued Halt} {x y u w : List ℕ} {c : Counts} (d : Counts) {at : ℕ} {j : Judgement terms.Term} → r ≡ q
    → Agrees s (stepped r d) x y u w c at j → Agrees s (stepped q d) x y u w c at j
stepped_as {s} {x = x} {y} {u} {w} {c} d {at} {j} e a = subst (λ (o : Result Valued Halt). Agrees s (stepped o d) x y u w c at j) e a

pub stepped_counts : (r : Result Valued Halt) (c : Counts) → (stepped r c).counts ≡ c
stepped_counts (Ok v) c = refl
stepped_counts (Err h) c = refl

-- where there is no value there is no next row to tell
pub agrees_err : {s : List ℕ} {h : Halt} {d : Counts} {m m' : ℕ} {x y u w : List ℕ} {c : Counts} {at : ℕ} {j : Judgement terms.Term}
    → Agrees s (step (Err h) d m) x y u w c at j → Agrees s (step (Err h) d m') x y u w c at j
agrees_err {s} {h} {j = j} a = record { out = a.out; adds = a.adds; next = λ e q. none e q; rows = a.rows }
  where
    none : {A : Type 0} (e : terms.Term) → j.out ≡ val e → A
    none e q = let z : Err h ≡ Ok (term_as e) = a.out ∙ ap (judged_as s) q in never cc

-- ---- judgements that come to no value

abbrev pub NoVal : {A : Type 0} → Judged A → Type 0
NoVal {A} o = (v : A) → o ≡ val v → ⊥

-- two that fail alike
pub data Alike {A B : Type 0} : Judged A → Judged B → Type 0 where
  both_err : {at : ℕ} {w : What} → Alike (err at w) (err at w)
  both_poisoned : Alike poisoned poisoned
  both_stopped : {t : ℕ} → Alike (stopped t) (stopped t)

pub alike_as : (s : List ℕ) {o p : Judged terms.Term} → Alike o p → judged_as s o ≡ judged_as s p
alike_as s both_err = refl
alike_as s both_poisoned = refl
alike_as s both_stopped = refl

pub alike_no : {A B : Type 0} {o : Judged A} {p : Judged B} → Alike o p → NoVal p
alike_no both_err v e = never (cc)
alike_no both_poisoned v e = never (cc)
alike_no both_stopped v e = never (cc)

pub alike_then : {A B C : Type 0} {o : Judged A} {p : Judged B} {q : Judged C} → Alike o p → Alike p q → Alike o q
alike_then both_err both_err = both_err
alike_then both_poisoned both_poisoned = both_poisoned
alike_then both_stopped both_stopped = both_stopped

pub alike_self : {A : Type 0} {o : Judged A} → NoVal o → Alike o o
alike_self {o = val v} h = absurd (h v refl)
alike_self {o = err at w} h = both_err
alike_self {o = poisoned} h = both_poisoned
alike_self {o = stopped t} h = both_stopped

-- what follows is not looked at
pub record Ended {A B : Type 0} (j : Judgement A) (r : Judgement B) : Type 0 where
  pub out : Alike j.out r.out
  pub warns : r.warns ≡ j.warns
  pub looks : r.looks ≡ j.looks

pub ended : {A B : Type 0} (j : Judgement A) (f : A → Judgement B) → NoVal j.out → Ended j (and_then j f)
unfolding and_then
ended {A} {B} j f h = by j.out h refl
  where
    by : (o : Judged A) → NoVal o → j.out ≡ o → Ended j (goes_on j.out j.warns j.looks f)
    by (val v) g e = absurd (g v refl)
    by (err at w) g e = record { out = rw e both_err; warns = rw e; looks = rw e }
    by poisoned g e = record { out = rw e both_poisoned; warns = rw e; looks = rw e }
    by (stopped t) g e = record { out = rw e both_stopped; warns = rw e; looks = rw e }

pub fine_then : {A B : Type 0} (v : A) (f : A → Judgement B) → and_then (fine v) f ≡ f v
unfolding and_then
fine_then v f = refl

pub wrong_then : {A B : Type 0} (at : ℕ) (w : What) (f : A → Judgement B) → and_then (wrong at w) f ≡ wrong at w
unfolding and_then
wrong_then at w f = refl

-- ---- values that are used

pub used_is : (e d : terms.Term) → (used e).out ≡ val d → used e ≡ fine e
unfolding used
used_is e d = by (same_ty ty_void (term_type e))
  where
    by : (b : Bool) → (if' {A = Judgement terms.Term} b (wrong (term_at e) void_value) (fine e)).out ≡ val d
        → if' b (wrong (term_at e) void_value) (fine e) ≡ fine e
    by true q = never (cc)
    by false q = refl

-- from what the left came to on: it must not be void
pub rest_used : (ts : List Content) (n : ℕ) (k : Known) (e : Expr) (v : terms.Term) → used v ≡ fine v → rest ts n k e v ≡ going ts n k e v
unfolding membered over applied
rest_used ts n k (literal t) v h = refl
rest_used ts n k (sock4 t) v h = refl
rest_used ts n k (local t) v h = refl
rest_used ts n k (path t m) v h = refl
rest_used ts n k (member e t) v h = rw h (fine_then v _)
rest_used ts n k (slash' a b) v h = rw h (fine_then v _)
rest_used ts n k (call e t g) v h = rw h (fine_then v _)

-- ---- the code's answers

module _ (s : List ℕ) where
  pub as_val : (o : Judged terms.Term) {w : Term} → judged_as s o ≡ Ok w → (e : terms.Term) × (o ≡ val e) × (w ≡ term_as e)
  as_val (val e) q = (e, refl, cc)
  as_val (err at w) q = never (cc)
  as_val poisoned q = never (cc)
  as_val (stopped t) q = never (cc)

  pub no_val : (o : Judged terms.Term) {r : code.Judged} → r ≡ judged_as s o → ((w : Term) → r ≡ Ok w → ⊥) → NoVal o
  no_val o q h e z = h (term_as e) (q ∙ ap (judged_as s) z)

module _ {s : List ℕ} where
  -- no value, and no warning
  pub ends : {r : Step} {x u t : List ℕ} {c : Counts} {at : ℕ} (o : Judged terms.Term) → r.out ≡ judged_as s o → NoVal o → r.counts ≡ c
      → Agrees s r x x u t c at (judgement o [])
  ends {x = x} {c = c} o q h e =
      record {
        out = q;
        adds = rw e (adds_none s c x);
        next = λ v z. absurd (h v z);
        rows = λ v z. absurd (h v z);
      }

  -- a leaf has written no rows
  pub leaf_step : {r : code.Judgement} {x y u : List ℕ} {c : Counts} {at : ℕ} (j : Judgement terms.Term) → Judges s r x y c j
      → ((e : terms.Term) → j.out ≡ val e → length (parts e) ≤ 0) → {m : ℕ} → m ≡ at + 1 → Agrees s (record { out = r.out; counts = r.counts; next = m }) x y u u c at j
  leaf_step {u = u} {at = at} j l h {m} p =
      record {
        out = l.out;
        adds = l.adds;
        next = λ e q. omega (arith, p, h e q);
        rows = λ e q. by (parts e) (h e q);
      }
    where
      by : (rs : List _) → length rs ≤ 0 → u ≡ put_held s u (at + 1) rs
      by [] z = no_rows _ u (at + 1)
      by (r ∷ rs) z = absurd (omega arith)

  -- one that comes to no value
  pub leaf_ends : {r : Step} {o : code.Judgement} {x y u t : List ℕ} {c : Counts} {at : ℕ} (j : Judgement terms.Term) → Judges s o x y c j
      → ((w : Term) → o.out ≡ Ok w → ⊥) → r.out ≡ o.out → r.counts ≡ o.counts → Agrees s r x y u t c at j
  leaf_ends j l h q p =
      record {
        out = q ∙ l.out;
        adds = rw p l.adds;
        next = λ v z. absurd (no_val s j.out l.out h v z);
        rows = λ v z. absurd (no_val s j.out l.out h v z);
      }

  module _ {L : Step} {x y u t : List ℕ} {c : Counts} {at : ℕ} (j : Judgement terms.Term) (l : Agrees s L x y u t c at j) where
    pub left_of_lem : {v : Term} → L.out ≡ Ok v → (e : terms.Term) × (j.out ≡ val e) × Left s u t at e v L.next
    left_of_lem q =
        let z = as_val s j.out (sym l.out ∙ q) in
        (z.0, z.1, record { value = z.2; free = l.next z.0 z.1; table = l.rows z.0 z.1 })

    pub went_no : ((w : Term) → L.out ≡ Ok w → ⊥) → NoVal j.out
    went_no h = no_val s j.out l.out h

    module _ (f : terms.Term → Judgement terms.Term) {b : ℕ} where
      -- a value goes on
      pub goes : {e : terms.Term} → j.out ≡ val e → {R : Step} {z m w : List ℕ} → Agrees s R y z m w L.counts b (f e)
          → Agrees s R x z m w c b (and_then j f)
      goes q g =
          rw (went j f q) (record {
            out = g.out;
            adds = adds_then l.adds g.adds;
            next = g.next;
            rows = g.rows;
          })

      -- anything else stays as it is
      pub stays : ((w : Term) → L.out ≡ Ok w → ⊥) → {m w : List ℕ} → Agrees s L x y m w c b (and_then j f)
      stays h =
          let g = ended j f (went_no h) in
          record {
            out = l.out ∙ alike_as s g.out;
            adds = rw (g.warns, g.looks) l.adds;
            next = λ v z. absurd (alike_no g.out v z);
            rows = λ v z. absurd (alike_no g.out v z);
          }

  pub by : {r : Step} {x y u w : List ℕ} {c : Counts} {at : ℕ} {j j' : Judgement terms.Term} → j ≡ j' → Agrees s r x y u w c at j' → Agrees s r x y u w c at j
  by q g = rw q g

  -- a void value ends it
  pub void_ends : {v : Term} {o : code.Judged} {r : Step} {x m w : List ℕ} {c : Counts} {b : ℕ} (f : terms.Term → Judgement terms.Term) (e : terms.Term)
      → Used s v o → v ≡ term_as e → ((w : Term) → o ≡ Ok w → ⊥) → r.out ≡ o → r.counts ≡ c → Agrees s r x x m w c b (and_then (used e) f)
  unfolding used
  void_ends {v} {o} {r} {x} {m} {w} {c} {b} f e h l n q g = on (same_ty ty_void (term_type e)) (h.is e l)
    where
      on : (z : Bool) → o ≡ judged_as s (if' z (wrong (term_at e) void_value) (fine e)).out
          → Agrees s r x x m w c b (and_then (if' z (wrong (term_at e) void_value) (fine e)) f)
      on true p = rw (wrong_then (term_at e) void_value f) (ends (err (term_at e) void_value) (q ∙ p) (λ d i. never (cc)) g)
      on false p = absurd (n (term_as e) p)

  pub used_value : {v w : Term} {o : code.Judged} (e : terms.Term) → Used s v o → v ≡ term_as e → o ≡ Ok w → (used e ≡ fine e) × (w ≡ term_as e)
  used_value e h l q =
      let z = as_val s (used e).out (sym (h.is e l) ∙ q) in
      let p = used_is e z.0 z.1 in
      let same : val z.0 ≡ val e = sym z.1 ∙ ap (λ (j : Judgement terms.Term). j.out) p in
      let d : z.0 ≡ e = cc same in
      (p, z.2 ∙ ap term_as d)

  -- another term with the same words
  pub left_as : {v w : Term} {u t : List ℕ} {at next : ℕ} {e : terms.Term} → w ≡ term_as e → Left s u t at e v next → Left s u t at e w next
  left_as q l = record { value = q; free = l.free; table = l.table }

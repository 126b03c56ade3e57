-- The left spine of an expression, down and up.
use mathlib.Core.Path.{◌≡◌, refl, sym, subst, ◌∙◌}
use mathlib.Core.List.{List}
use Prim.Native.Nat.{ℕ, ◌+◌, ◌-◌, ◌≤◌, ◌<◌}
use native.Mathlib.Omega.{arith}
use lib.ListN.{length, get_or, set}
use lib.Seq.{get_or-set_same, get_or-set_other}
use Rattle.language.specs.Tokens as tokens
use Rattle.language.specs.Tokens.{Content, contents}
use Rattle.language.specs.Sentences.{Expr, expr_size}
use Rattle.language.specs.Terms as terms
use Rattle.language.specs.Judgements.{Judgement, val, Known, most_names, judge}
use Rattle.language.proofs.Comparisons.{judge_compares}
use Rattle.language.proofs.WarnsFew.{judge_warns}
use Rattle.language.proofs.RowsFew.{judge_rows}
use Rattle.language.proofs.NodeClaims.{some_node}
use Rattle.rows.specs.Rows.{node_word}
use Rattle.names.proofs.Stores.{listed_long}
use Rattle.findings.specs.declared.Counts.{Counts}
use Rattle.findings.specs.Findings.{Adds}
use Rattle.findings.proofs.Adds.{adds_count, adds_compared, adds_used, adds_imported, adds_slots}
use Rattle.values.specs.declared.Term.{Term}
use Rattle.std.specs.Prelude.{Result, Ok}
use Rattle.values.specs.declared.Halt.{Halt}
use Rattle.holding.specs.declared.Valued.{Valued}
use Rattle.holding.specs.Holding.{Step, stepped, Agrees}
use Rattle.judging.specs.Judging.{binding_at, bound_in, known_in, Knows, Ready, RepAt, left_of, rest, Down, top, deeper, Descends, Left, LookFits, Fits, StepFits, ClimbFits}
use Rattle.judging.proofs.Trees.{at_step}
use Rattle.judging.proofs.Steps.{NoVal, Ended, ended, alike_self, alike_no, alike_then, alike_as, left_of_lem, went_no, goes, by, stepped_as}

-- ---- down

-- the one above, d steps down
pub record Up (ws rows : List ℕ) (i : ℕ) (e : Expr) (d : ℕ) (u : Expr) : Type 0 where
  pub above : Expr
  pub down : Down ws rows i e d (get_or rows d 0) above
  pub inner : 6 ≤ node_word ws (get_or rows d 0) 0
  pub is : u ≡ left_of above

module _ {ws rows : List ℕ} {i : ℕ} {e : Expr} where
  module _ (r : RepAt ws i e) where
    pub down_rep : {d row : ℕ} {u : Expr} → Down ws rows i e d row u → RepAt ws row u
    down_rep (top z) = r
    down_rep (deeper dn z q h n) = rw n (at_step (down_rep dn) h).rep

    pub down_near : {d row : ℕ} {u : Expr} → Down ws rows i e d row u → row + d ≤ i
    down_near (top z) = omega arith
    down_near (deeper dn z q h n) = omega (arith, down_near dn, (at_step (down_rep dn) h).near)

    pub down_size : {d row : ℕ} {u : Expr} → Down ws rows i e d row u → expr_size u + d ≤ expr_size e
    down_size (top z) = omega arith
    down_size (deeper dn z q h n) = omega (arith, down_size dn, (at_step (down_rep dn) h).size_is)

    -- what comes to no value below comes to none
    pub down_ended : (ts : List Content) (n : ℕ) (k : Known) {d row : ℕ} {u : Expr} → Down ws rows i e d row u → NoVal (judge ts n k u).out
        → Ended (judge ts n k u) (judge ts n k e)
    down_ended ts n k (top z) h = record { out = alike_self h; warns = refl; looks = refl }
    down_ended ts n k (deeper {u = u} dn z q g m) h =
        let is = (at_step (down_rep dn) g).is ts n k in
        let p = ended (judge ts n k (left_of u)) (rest ts n k u) h in
        let w : Ended (judge ts n k (left_of u)) (judge ts n k u) = subst (λ (j : Judgement terms.Term). Ended (judge ts n k (left_of u)) j) (sym is) p in
        let o = down_ended ts n k dn (alike_no w.out) in
        record { out = alike_then w.out o.out; warns = o.warns ∙ w.warns; looks = o.looks ∙ w.looks }

  pub down_top : {d row : ℕ} {u : Expr} → Down ws rows i e d row u → d ≡ 0 → u ≡ e
  down_top (top z) q = refl
  down_top (deeper dn z q h n) o = absurd (omega arith)

  pub down_up : {d f row : ℕ} {u : Expr} → Down ws rows i e f row u → (f ≡ 0 → ⊥) → d ≡ f - 1 → Up ws rows i e d u
  down_up (top z) h q = absurd (h z)
  down_up {d} (deeper {d = k} {u = u} dn z g h n) o q =
      let m : d ≡ k = omega arith in
      rw m (record { above = u; down = rw g dn; inner = rw g h; is = refl })

  stored : {d row : ℕ} (k x : ℕ) {u : Expr} → Down ws rows i e d row u → d ≤ k → Down ws (set rows k x) i e d row u
  stored k x (top z) h = top z
  stored k x (deeper {d = d} dn z q o n) h = deeper (stored k x dn (omega arith)) z (get_or-set_other rows k d x 0 (λ y. omega arith) ∙ q) o n

  pub down_on : {d row next : ℕ} {u : Expr} → Down ws rows i e d row u → d < length rows → 6 ≤ node_word ws row 0 → next ≡ node_word ws row 2
      → Descends ws (set rows d row) i (d + 1) next e
  down_on {d} {row} {u = u} dn l h n = record { tree = left_of u; down = deeper (stored d row dn (omega arith)) refl (get_or-set_same rows d row 0 l) h n }

pub start : {ws rows : List ℕ} {i : ℕ} {e : Expr} → Descends ws rows i 0 i e
start {e = e} = record { tree = e; down = top refl }

-- ---- what stays the same

module _ {s : List ℕ} {c c' : Counts} {x y : List ℕ} {ds : List _} {ls : List ℕ} (a : Adds s c x c' y ds ls) {bindings imports : List ℕ} where
  -- judging binds and imports no name, and takes no slot
  pub knows_on : {k : Known} → Knows s bindings imports c k → Knows s bindings imports c' k
  knows_on kn = record { is = rw (adds_used a, adds_imported a, adds_slots a) kn.is }

  pub ready_on : Ready s bindings imports c → Ready s bindings imports c'
  ready_on r =
      record {
        bound = rw (adds_used a) r.bound;
        few = rw (adds_used a) r.few;
        modules = rw (adds_imported a) r.modules;
        sound = rw (adds_used a) r.sound;
        keyed = rw (adds_used a) r.keyed;
        keyed_modules = rw (adds_imported a) r.keyed_modules;
      }

-- no more names are known than there may be
pub known_few : {s bindings imports : List ℕ} {c : Counts} → Ready s bindings imports c → length (known_in s bindings imports c).bindings ≤ most_names
unfolding bound_in
known_few {s} {bindings = bindings} {c = c} r = omega (arith, r.few, listed_long (binding_at s bindings) c.used 0)

pub knows_few : {s bindings imports : List ℕ} {c : Counts} {k : Known} → Ready s bindings imports c → Knows s bindings imports c k → length k.bindings ≤ most_names
knows_few r kn = rw kn.is (known_few r)

-- ---- up

-- what came of the tree `depth` steps down
pub record Climbs (s : List ℕ) (n : ℕ) (k : Known) (ws rows : List ℕ) (i : ℕ) (e : Expr) (depth at : ℕ) (out : Step) (x y u w : List ℕ) (c : Counts) : Type 0 where
  pub row : ℕ
  pub tree : Expr
  pub down : Down ws rows i e depth row tree
  pub agrees : Agrees s out x y u w c (at + depth) (judge (contents (tokens.tokens s)) n k tree)

pub climbs_as : {s : List ℕ} {n : ℕ} {k : Known} {ws rows : List ℕ} {i : ℕ} {e : Expr} {depth at : ℕ} {r q : Result Valued Halt} (d : Counts) {c : Counts} {x y u w : List ℕ} → r ≡ q
    → Climbs s n k ws rows i e depth at (stepped r d) x y u w c → Climbs s n k ws rows i e depth at (stepped q d) x y u w c
climbs_as d e p = record { row = p.row; tree = p.tree; down = p.down; agrees = stepped_as d e p.agrees }

pub fits_down : {ws rows : List ℕ} {i at d row : ℕ} {c : Counts} {u : Expr} (f : Fits ws i at c) → Down ws rows i f.tree d row u → Fits ws row (at + d) c
fits_down {u = u} f dn =
    let z = down_size f.rep dn in
    record {
      tree = u;
      rep = down_rep f.rep dn;
      room = omega (arith, z, f.room);
      rows = omega (arith, z, f.rows);
      looks = omega (arith, z, f.looks);
    }

-- a tree has a node, so there is room for a search
pub fits_look : {ws : List ℕ} {i at : ℕ} {c : Counts} → Fits ws i at c → LookFits c
fits_look f = omega (arith, f.looks, some_node f.tree)

module _ (s : List ℕ) (n : ℕ) (k : Known) where
  abbrev judged : Expr → Judgement terms.Term
  judged e = judge (contents (tokens.tokens s)) n k e

  -- what is left of the room
  fits_step : length k.bindings ≤ most_names → {ws : List ℕ} {i at : ℕ} {c : Counts} (f : Fits ws i at c) → 6 ≤ node_word ws i 0 → {l : Step} {x y u t : List ℕ}
      → Agrees s l x y u t c (at + 1) (judged (left_of f.tree)) → {v : terms.Term} → (judged (left_of f.tree)).out ≡ val v → StepFits ws i at l.next l.counts
  fits_step few {at = at} f h {l} a {v} q =
      let p = at_step f.rep h in
      let m = a.next v q in
      let rs = judge_rows (contents (tokens.tokens s)) n k (left_of f.tree) q in
      record {
        tree = f.tree;
        rep = f.rep;
        inner = h;
        behind = omega (arith, m);
        room = omega (arith, adds_count a.adds, f.room, p.size_is, judge_warns (contents (tokens.tokens s)) n k (left_of f.tree));
        rows = omega (arith, m, rs, f.rows, p.size_is);
        looks = omega (arith, adds_compared a.adds, f.looks, p.size_is, judge_compares (contents (tokens.tokens s)) n k (left_of f.tree) few);
      }

  module _ {ws rows : List ℕ} {i at depth : ℕ} {e : Expr} {out : Step} {x y u w : List ℕ} {c : Counts} (rep : RepAt ws i e) where
    -- no value: it is what the whole comes to
    pub climb_ends : Climbs s n k ws rows i e depth at out x y u w c → ((v : Term) → out.out ≡ Ok v → ⊥) → {t : List ℕ} → Agrees s out x y u t c at (judged e)
    climb_ends p h =
        let g = down_ended rep (contents (tokens.tokens s)) n k p.down (went_no (judged p.tree) p.agrees h) in
        record {
          out = p.agrees.out ∙ alike_as s g.out;
          adds = rw (g.warns, g.looks) p.agrees.adds;
          next = λ v z. absurd (alike_no g.out v z);
          rows = λ v z. absurd (alike_no g.out v z);
        }

    module _ (p : Climbs s n k ws rows i e depth at out x y u w c) {d : ℕ} (up : Up ws rows i e d p.tree) (q : depth ≡ d + 1) where
      above_rep : RepAt ws (get_or rows d 0) up.above
      above_rep = down_rep rep up.down

      left_agrees : Agrees s out x y u w c (at + d + 1) (judged (left_of up.above))
      left_agrees =
          let z : at + depth ≡ at + d + 1 = omega arith in
          subst (λ (m : ℕ). Agrees s out x y u w c m (judged (left_of up.above))) z
          (subst (λ (t : Expr). Agrees s out x y u w c (at + depth) (judged t)) up.is p.agrees)

      pub climb_fits : length k.bindings ≤ most_names → (f : Fits ws i at c) → f.tree ≡ e → {v : Term} → out.out ≡ Ok v → StepFits ws (get_or rows d 0) (at + d) out.next out.counts
      unfolding fits_down
      climb_fits few f g o =
          let dn : Down ws rows i f.tree d (get_or rows d 0) up.above = rw g up.down in
          fits_step few (fits_down f dn) up.inner left_agrees (left_of_lem (judged (left_of up.above)) left_agrees o).1

      pub climbed : {v : Term} → out.out ≡ Ok v → {r : Step} {z t : List ℕ}
          → ((b : terms.Term) → Left s u w (at + d + 1) b v out.next → Agrees s r y z u t out.counts (at + d) (rest (contents (tokens.tokens s)) n k up.above b))
          → Climbs s n k ws rows i e d at r x z u t c
      climbed o g =
          let l = left_of_lem (judged (left_of up.above)) left_agrees o in
          record {
            row = get_or rows d 0;
            tree = up.above;
            down = up.down;
            agrees = by ((at_step above_rep up.inner).is (contents (tokens.tokens s)) n k)
                (goes (judged (left_of up.above)) left_agrees (rest (contents (tokens.tokens s)) n k up.above) l.1 (g l.0 l.2));
          }

      pub above : RepAt ws (get_or rows d 0) up.above
      above = above_rep

    pub at_top : Climbs s n k ws rows i e depth at out x y u w c → depth ≡ 0 → Agrees s out x y u w c at (judged e)
    at_top p z =
        let g : at + depth ≡ at = omega arith in
        subst (λ (m : ℕ). Agrees s out x y u w c m (judged e)) g
        (subst (λ (t : Expr). Agrees s out x y u w c (at + depth) (judged t)) (down_top p.down z) p.agrees)

-- the spine was gone down, and something judged there
pub climb_start : {s bindings imports ws rows : List ℕ} {i d at row : ℕ} {out : Step} {x y u w : List ℕ} {c : Counts} {below : Expr} (f : Fits ws i at c)
    → Down ws rows i f.tree d row below → Agrees s out x y u w c (at + d) (judge (contents (tokens.tokens s)) c.number (known_in s bindings imports c) below)
    → ClimbFits s bindings imports ws rows i d at out y w
climb_start {row = row} {x = x} {u = u} {c = c} {below = below} f dn a =
    record { counts = c; fits = f; row = row; below = below; down = dn; found = x; held = u; agrees = a }

-- two ways from the same counts
module _ {s : List ℕ} {c c1 c2 : Counts} {x y z w : List ℕ} {ds es : List _} {ls ms : List ℕ} (a : Adds s c x c1 y ds ls) (b : Adds s c z c2 w es ms) {bindings imports : List ℕ} where
  pub ready_both : Ready s bindings imports c1 → Ready s bindings imports c2
  ready_both r =
      let used : c2.used ≡ c1.used = adds_used b ∙ sym (adds_used a) in
      let modules : c2.imported ≡ c1.imported = adds_imported b ∙ sym (adds_imported a) in
      record {
        bound = rw used r.bound;
        few = rw used r.few;
        modules = rw modules r.modules;
        sound = rw used r.sound;
        keyed = rw used r.keyed;
        keyed_modules = rw modules r.keyed_modules;
      }

-- no more names were known before than are now
pub few_back : {s : List ℕ} {c c1 : Counts} {x y : List ℕ} {ds : List _} {ls : List ℕ} → Adds s c x c1 y ds ls → {bindings imports : List ℕ} → Ready s bindings imports c1
    → length (known_in s bindings imports c).bindings ≤ most_names
unfolding bound_in
few_back {s} {c} a {bindings = bindings} r = omega (arith, r.few, adds_used a, listed_long (binding_at s bindings) c.used 0)

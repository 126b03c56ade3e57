-- Each way on from what the left came to.
use mathlib.Core.Path.{◌≡◌, sym, ap, subst, ◌∙◌}
use mathlib.Core.List.{List}
use Prim.Native.Nat.{ℕ, ◌+◌, ◌≤◌, ◌<◌}
use native.Mathlib.Omega.{arith}
use Rattle.language.specs.Tokens as tokens
use Rattle.language.specs.Tokens.{contents}
use Rattle.language.specs.Sentences.{Expr, Args, none_given, member, call, slash', first_of}
use Rattle.language.specs.Terms as terms
use Rattle.language.specs.Judgements.{fine, Known, used, membered, over, applied, judge}
use Rattle.language.proofs.NodeClaims.{some_node}
use Rattle.language.proofs.WarnsFew.{judge_warns}
use Rattle.rows.specs.Rows.{node_word}
use Rattle.findings.specs.declared.Counts.{Counts}
use Rattle.findings.proofs.Adds.{adds_count, adds_number}
use Rattle.values.specs.declared.Term.{Term}
use Rattle.values.specs.Values as code
use Rattle.std.specs.Prelude.{Result, Ok, Err}
use Rattle.values.specs.declared.Halt.{Halt}
use Rattle.values.specs.Values.{term_as, Used}
use Rattle.holding.specs.Holding.{Step}
use Rattle.holding.specs.Holding.{most_rows, Agrees}
use Rattle.judging.specs.declared.Callee.{Callee}
use Rattle.judging.specs.Judging.{Passed, passed, RepAt, is_literal_lem, is_sock4_lem, is_local, is_path, is_member, is_slash, is_call, ArgsAt, rest_size, over_both, going, rest, MemberIs, Left, Divides, CalleeOf, CalleeIs, Calls, Fits, StepFits, ArgsFit}
use Rattle.judging.proofs.Trees.{SlashAt, CallAt, at_member, at_slash, at_call, same_tree, passed_size_lem}
use Rattle.judging.proofs.Steps.{by, goes, left_of_lem, rest_used, void_ends}
use Rattle.judging.proofs.Slashes.{member_ends, left_goes, is_ip4_lem}
use Rattle.judging.proofs.Calls.{call_parts, call_ends, call_goes}

-- ---- steps

module _ {s ws : List ℕ} {i : ℕ} (n : ℕ) (k : Known) {e : Expr} (rep : RepAt ws i e) (d : terms.Term) {r : Step} {x : List ℕ} {c : Counts} {at : ℕ} where
  pub way_void : 6 ≤ node_word ws i 0 → {v : Term} {o : code.Judged} {m w : List ℕ} → Used s v o → v ≡ term_as d → ((q : Term) → o ≡ Ok q → ⊥) → r.out ≡ o → r.counts ≡ c
      → Agrees s r x x m w c at (rest (contents (tokens.tokens s)) n k e d)
  unfolding membered over applied
  way_void l {v} {o} {m} {w} h q z p g = on rep
    where
      on : {f : Expr} → RepAt ws i f → Agrees s r x x m w c at (rest (contents (tokens.tokens s)) n k f d)
      on (is_literal_lem f b) = absurd (omega arith)
      on (is_sock4_lem f b) = absurd (omega arith)
      on (is_local f b) = absurd (omega arith)
      on (is_path f b y) = absurd (omega arith)
      on (is_member f b y j t) = void_ends _ d h q z p g
      on (is_slash f b y j t u a) = void_ends _ d h q z p g
      on (is_call f b y j t a) = void_ends _ d h q z p g

  pub way_member : node_word ws i 0 ≡ 6 → used d ≡ fine d → {t : ℕ} {v : Term} {o : code.Judged} {m w : List ℕ} → t ≡ node_word ws i 3 → MemberIs s t v o → v ≡ term_as d → r.out ≡ o → r.counts ≡ c
      → Agrees s r x x m w c at (rest (contents (tokens.tokens s)) n k e d)
  way_member q f {t} {m = m} {w} p h z o g =
      let a = at_member rep q in
      by (rest_used (contents (tokens.tokens s)) n k e d f)
      (subst (λ (y : Expr). Agrees s r x x m w c at (going (contents (tokens.tokens s)) n k y d)) (ap (member a.inner) p ∙ sym a.is) (member_ends s n k a.inner d h z o g))

  pub way_slash : node_word ws i 0 ≡ 7 → used d ≡ fine d → {y u w : List ℕ} → ((a b : Expr) → RepAt ws i (slash' a b) → Agrees s r x y u w c at (going (contents (tokens.tokens s)) n k (slash' a b) d))
      → Agrees s r x y u w c at (rest (contents (tokens.tokens s)) n k e d)
  way_slash q f {y} {u} {w} h =
      let a = at_slash rep q in
      by (rest_used (contents (tokens.tokens s)) n k e d f)
      (subst (λ (t : Expr). Agrees s r x y u w c at (going (contents (tokens.tokens s)) n k t d)) (sym a.is) (h a.left a.right (same_tree a.is rep)))

  module _ (q : node_word ws i 0 ≡ 8) (f : used d ≡ fine d) {v : Term} (p : v ≡ term_as d) {next : ℕ} {u z : List ℕ} (l : Left s u z (at + 1) d v next) {o : Result Callee Halt} {m : List ℕ}
      (h : CalleeIs s ws i at v o z m) where
    to_call : {y w : List ℕ} → ((a : Expr) (t : ℕ) (g : Args) → RepAt ws i (call a t g) → Agrees s r x y u w c at (going (contents (tokens.tokens s)) n k (call a t g) d))
        → Agrees s r x y u w c at (rest (contents (tokens.tokens s)) n k e d)
    to_call {y} {w} g =
        let a = at_call rep q in
        by (rest_used (contents (tokens.tokens s)) n k e d f)
        (subst (λ (t : Expr). Agrees s r x y u w c at (going (contents (tokens.tokens s)) n k t d)) (sym a.is) (g a.callee _ _ (same_tree a.is rep)))

    pub way_call_ends : {j : Halt} {w : List ℕ} → o ≡ Err j → r.out ≡ Err j → r.counts ≡ c → Agrees s r x x u w c at (rest (contents (tokens.tokens s)) n k e d)
    way_call_ends y b g =
        to_call (λ a t j w. call_ends n k a t j d l m (subst (λ (y : Result Callee Halt). CalleeOf s at v y z m a t j d) y (h.is a t j d w p)) b g)

    pub way_call_goes : {fn : Callee} {y w : List ℕ} → o ≡ Ok fn
        → ((ps : List Passed) → ArgsAt ws i (node_word ws i 3) ps → Calls s n k (passed none_given ps) fn.name fn.entry next c x m r y w)
        → Agrees s r x y u w c at (rest (contents (tokens.tokens s)) n k e d)
    way_call_goes {fn} {y} {w} b g =
        to_call (λ a t j rp.
        let ps = call_parts rp in
        call_goes n k a t j d l (subst (λ (y : Result Callee Halt). CalleeOf s at v y z m a t j d) b (h.is a t j d rp p))
        (subst (λ (t : Args). Calls s n k t fn.name fn.entry next c x m r y w) (sym ps.is) (g ps.args ps.args_rep)))

-- ---- `/`

pub slash_goes : (s : List ℕ) (n : ℕ) (k : Known) (a b : Expr) (d : terms.Term) {place p at next : ℕ} {v w : Term} {c : Counts} {J r : Step} {x y t u m z z' : List ℕ}
    → place ≡ first_of a → p ≡ first_of b → n ≡ c.number → v.kind ≡ 7 → Left s u m (at + 1) d v next
    → Agrees s J x y m t c next (judge (contents (tokens.tokens s)) n k b) → J.out ≡ Ok w
    → Divides s place p at next v w J.next J.counts y t r z z' → Agrees s r x z u z' c at (going (contents (tokens.tokens s)) n k (slash' a b) d)
slash_goes s n k a b d {place} {p} {at} {v = v} {J = J} {r} {y = y} {u = u} {m} {z} {z'} pa pb num kind l g o h =
    let j = judge (contents (tokens.tokens s)) n k b in
    let q = left_of_lem j g o in
    let whole : Agrees s r y z u z' J.counts at (over_both n place p d q.0) = h.is n d q.0 u m (num ∙ sym (adds_number g.adds)) (is_ip4_lem d l.value kind) l q.2 in
    by (left_goes s n k a b d l.value kind)
    (goes j g (over_both n (first_of a) (first_of b) d) q.1
    (subst (λ (i : ℕ). Agrees s r y z u z' J.counts at (over_both n i (first_of b) d q.0)) pa
    (subst (λ (i : ℕ). Agrees s r y z u z' J.counts at (over_both n place i d q.0)) pb whole)))

-- ---- room

module _ {ws : List ℕ} {i at next : ℕ} {c : Counts} (f : StepFits ws i at next c) where
  module _ (p : SlashAt ws i f.tree) where
    pub fits_right : {b : ℕ} → b ≡ node_word ws i 3 → Fits ws b next c
    fits_right q =
        let z = ap rest_size p.is in
        record {
          tree = p.right;
          rep = rw q p.right_rep;
          room = omega (arith, f.room, z);
          rows = omega (arith, f.rows, z);
          looks = omega (arith, f.looks, z);
        }

    pub after_right : (s : List ℕ) (n : ℕ) (k : Known) {J : Step} {x y u t : List ℕ} → Agrees s J x y u t c next (judge (contents (tokens.tokens s)) n k p.right)
        → (J.counts.errors + J.counts.warnings < most_rows) × (at + 1 < most_rows) × (next < most_rows)
    after_right s n k a =
        let z = ap rest_size p.is in
        let m = some_node p.right in (
          omega (arith, f.room, z, adds_count a.adds, judge_warns (contents (tokens.tokens s)) n k p.right),
          omega (arith, f.rows, z, m, f.behind),
          omega (arith, f.rows, z, m),
        )

  pub fits_args : (p : CallAt ws i f.tree) → ArgsFit ws i (node_word ws i 3) next c
  fits_args p =
      let z = ap rest_size p.is in
      let m = passed_size_lem p.args in
      record {
        args = p.args;
        rep = p.args_rep;
        room = omega (arith, f.room, z, m);
        rows = omega (arith, f.rows, z, m);
        looks = omega (arith, f.looks, z, m);
      }

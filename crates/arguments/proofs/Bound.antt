-- Binding: one argument, then the next, to at most two parameters.
use mathlib.Core.Path.{◌≡◌, refl, sym, ap, subst, ◌∙◌}
use mathlib.Core.List.{List, [], ◌∷◌, ◌++◌, append-nil}
use Prim.Native.Nat.{ℕ, ◌+◌, ◌≤◌, ◌<◌}
use native.Mathlib.Omega.{arith}
use borrow.Author.Tests.{lt-ltb, le-ltb}
use lib.ListN.{length, get_or, length-append}
use Rattle.std.specs.Prelude.{Ok, Err}
use Rattle.table.specs.Table.{put_row}
use Rattle.language.specs.Values.{ty_kind, Param, entry_at}
use Rattle.language.specs.Terms as terms
use Rattle.language.specs.Terms.{Terms, no_more, more, called, count, term_type}
use Rattle.language.specs.Judgements as judgements
use Rattle.language.specs.Judgements.{What, too_many_args, too_few_args, arg_type, val, err, judgement, wrong, fine, and_then, fit, Arg, bind_from}
use Rattle.language.specs.Findings as rows
use Rattle.language.specs.Findings.{part, parts, arg_parts, stmt_row}
use Rattle.language.specs.Numbers.{token_of}
use Rattle.language.proofs.Tests.{never}
use Rattle.constants.specs.Constants.{no_param}
use Rattle.rows.specs.declared.token.Token.{Token}
use Rattle.rows.specs.declared.types.Type.{«Type»}
use Rattle.rows.specs.Tokens.{token_as}
use Rattle.findings.specs.declared.Counts.{Counts}
use Rattle.findings.specs.declared.What.TheVariants as what_is
use Rattle.findings.specs.Findings.{at_token, Adds}
use Rattle.findings.proofs.Rows.{no_rows}
use Rattle.findings.proofs.Adds.{adds_none, adds_then, adds_number}
use Rattle.values.specs.declared.Term.{Term}
use Rattle.values.specs.declared.Halt.TheVariants.{Found}
use Rattle.values.specs.Values.{Judgement}
use Rattle.values.specs.Values.{Judged, term_as, TypeShown, judged_as}
use Rattle.values.proofs.Values.{judged_err}
use Rattle.holding.specs.Holding.{Step, step}
use Rattle.holding.specs.Holding.{put_held, Judges, Puts}
use Rattle.holding.proofs.Rows.{held_own, held_two}
use Rattle.holding.proofs.Holding.{term_at_lem}
use Rattle.fitting.specs.Fitting.{Fits}
use Rattle.fitting.proofs.Keeping.{fit_keeps}
use Rattle.arguments.specs.declared.Given.{Given}
use Rattle.arguments.specs.declared.Kept.{Kept}
use Rattle.arguments.specs.Arguments.{given_as, after, end, spread, Keeps, fitted_as, WrongType, Placed, Takes, call_as, finished, Bound, Binds}
use Rattle.arguments.proofs.Then.{NoValue, failed, failed_twice, failed_stops, fails, goes, same_out, then_then}
use Rattle.arguments.proofs.Outs.{HasNone, has_value, has_none, failed_as}

-- ---- one argument

module _ (s : List ℕ) {r : Judgement} {x y t v : List ℕ} {c : Counts} {row i : ℕ} {j : judgements.Judgement terms.Term} where
  -- it comes to a value, and its row was written
  placed : {w : Term} → Judges s r x y c j → r.out ≡ Ok w → Puts s row w.at 7 i w t v → Placed s r x y t v c row i j
  placed {w} g q p =
      record {
        judges = g;
        held = λ e z.
            let d = has_value s j.out g.out q in
            let same : d.term ≡ e = cc d.is in
            let is : w ≡ term_as e = d.as' ∙ ap term_as same in
            p.is e is ∙ ap (λ (a : ℕ). put_row t row (stmt_row (token_of s) (rows.row a 7 i e))) (ap (λ (o : Term). o.at) is ∙ term_at_lem e);
      }

  not_placed : Judges s r x y c j → HasNone r.out → Placed s r x y t v c row i j
  not_placed g h = record { judges = g; held = λ e z. absurd (h (term_as e) (g.out ∙ ap (judged_as s) z)) }

-- another type than the one that is wanted
pub wrong_type : (s : List ℕ) (f i : ℕ) {wanted : ℕ} {g : Given} {tok : Token} {found : «Type»} {r : Judged} → tok ≡ token_as (token_of s g.first)
    → TypeShown g.term found → r ≡ Err (Found (at_token tok (what_is.ArgType f i wanted found))) → WrongType s f i wanted g r
wrong_type s f i p q e =
    record {
      is = λ row a ty h w.
          let found = q.is a.term (ap (λ (o : Given). o.term) h) in
          e ∙ judged_err s a.at (arg_type f i ty (term_type a.term)) (p ∙ ap (λ (o : Given). token_as (token_of s o.first)) h) (rw (w, found));
    }

module _ (s : List ℕ) (f i : ℕ) (ps : List Param) {g : Given} {c : Counts} {x y : List ℕ} {r : Judgement} {wanted : ℕ} {o : Judged}
    (F : Fits s wanted g.first g.term o c x r y) (W : WrongType s f i wanted g o) (e : wanted ≡ ty_kind (get_or ps i no_param).type) where
  judges_one : (n row : ℕ) (a : Arg) → n ≡ c.number → g ≡ given_as a row → Judges s r x y c (fitted_as n f i (get_or ps i no_param) a)
  judges_one n row a num is =
      let p = get_or ps i no_param in
      let other = err a.at (arg_type f i p.type (term_type a.term)) in
      subst (λ (at : ℕ). Judges s r x y c (fit n p.type at (judgement other []) a.term)) (ap (λ (h : Given). h.first) is)
      (F.is n p.type a.term other num e (ap (λ (h : Given). h.term) is) (W.is row a p.type is e))

  pub takes_value : {t v : List ℕ} {w : Term} → r.out ≡ Ok w → Puts s g.row w.at 7 i w t v → Takes s f i ps g c x t r y v
  takes_value {t} {v} {w} q p =
      record {
        is = λ n row a num is.
            placed s (judges_one n row a num is) q (subst (λ (k : ℕ). Puts s k w.at 7 i w t v) (ap (λ (h : Given). h.row) is) p);
      }

  pub takes_none : {t v : List ℕ} → HasNone r.out → Takes s f i ps g c x t r y v
  takes_none h = record { is = λ n row a num is. not_placed s (judges_one n row a num is) h }

-- it keeps its parts
fitted_parts : (n f i : ℕ) (p : Param) (a : Arg) (e : terms.Term) → (fitted_as n f i p a).out ≡ val e → parts e ≡ parts a.term
fitted_parts n f i p a e q = (fit_keeps n a.at p.type a.at (arg_type f i p.type (term_type a.term)) a.term q).0

-- ---- what follows

-- all are bound
is_bound : (s : List ℕ) (at f k : ℕ) (u : List ℕ) {c : Counts} {x v : List ℕ} {r : Step} {w row : ℕ} (vs : Terms) → r ≡ step (Ok (call_as at f w)) c row
    → w ≡ count vs → row ≡ k + length (arg_parts 0 vs) → v ≡ put_held s u k (arg_parts 0 vs) → Bound s r x x u v c at f k (fine vs)
unfolding and_then
is_bound s at f k u {c} {x} vs e n m t =
    record {
      out = λ d. ap (λ (q : Step). q.out) e ∙ ap (λ (i : ℕ). Ok (call_as at f i)) n;
      adds = subst (λ (q : Step). Adds s c x q.counts x [] []) (sym e) (adds_none s c x);
      next = λ ws z. let same : vs ≡ ws = cc in ap (λ (q : Step). q.next) e ∙ m ∙ ap (λ (q : Terms). k + length (arg_parts 0 q)) same;
      rows = λ ws z. let same : vs ≡ ws = cc in t ∙ ap (λ (q : Terms). put_held s u k (arg_parts 0 q)) same;
    }

-- too many, or too few
is_wrong : {s : List ℕ} {at f k : ℕ} {u : List ℕ} {c : Counts} {x v : List ℕ} {r : Step} (row p m w : ℕ) {p' m' w' : ℕ} (q : ℕ → ℕ → What)
    → r ≡ step (judged_as s (err p (q m w))) c row → p ≡ p' → m ≡ m' → w ≡ w' → Bound s r x x u v c at f k (wrong p' (q m' w'))
unfolding and_then
is_wrong {s} {c = c} {x} {r = r} row p m w {p'} {m'} {w'} q e a b d =
    let is : r ≡ step (judged_as s (err p' (q m' w'))) c row = e ∙ rw (a, b, d) in
    record {
      out = λ _. ap (λ (o : Step). o.out) is;
      adds = subst (λ (o : Step). Adds s c x o.counts x [] []) (sym is) (adds_none s c x);
      next = λ vs z. never cc;
      rows = λ vs z. never cc;
    }

-- one does not fit
is_stopped : {s : List ℕ} {at f k : ℕ} {u : List ℕ} {r : Judgement} {c : Counts} {x y v : List ℕ} {row : ℕ} (j : judgements.Judgement terms.Term)
    (K : terms.Term → judgements.Judgement Terms) → Judges s r x y c j → NoValue j.out
    → Bound s (step r.out r.counts row) x y u v c at f k (and_then j K)
is_stopped {s} {at} {f} {k} {u} {r} {c} {x} {y} {v} {row} j K g h =
    let none = failed_stops Terms j.out in
    let then : judgements.Judgement Terms = record { out = failed j.out; warns = j.warns; looks = j.looks } in
    subst (λ (q : judgements.Judgement Terms). Bound s (step r.out r.counts row) x y u v c at f k q) (sym (fails j K h))
    (record {
      out = λ d.
          let on = fails then (λ vs. fine (called at d f vs)) none in
          failed_as s j.out h g.out
          ∙ ap (judged_as s) (sym (ap (λ (q : judgements.Judgement terms.Term). q.out) on ∙ failed_twice Terms terms.Term j.out));
      adds = g.adds;
      next = λ vs z. absurd (subst NoValue z none);
      rows = λ vs z. absurd (subst NoValue z none);
    })

-- one fits, and what follows is added
then_bound : {s : List ℕ} {at f k : ℕ} {u : List ℕ} {A : Type 0} {c c' : Counts} {x y z v : List ℕ} {r : Step} (j : judgements.Judgement A)
    (K : A → judgements.Judgement Terms) {e : A} → j.out ≡ val e → Adds s c x c' y j.warns j.looks → Bound s r y z u v c' at f k (K e)
    → Bound s r x z u v c at f k (and_then j K)
unfolding and_then
then_bound {s} {at} {f} {k} {u} {c = c} {x = x} {z = z} {v = v} {r = r} j K {e} h a b =
    subst (λ (q : judgements.Judgement Terms). Bound s r x z u v c at f k q) (sym (goes j K h))
    (record {
      out = λ d.
          b.out d
          ∙ ap (judged_as s) (same_out (K e).out (K e).warns (j.warns ++ (K e).warns) (K e).looks (j.looks ++ (K e).looks) (λ vs. fine (called at d f vs)));
      adds = adds_then a b.adds;
      next = b.next;
      rows = b.rows;
    })

-- ---- the rows of one argument, of two

module _ (k : ℕ) (a : Arg) (e : terms.Term) (p : parts e ≡ parts a.term) where
  one_held : (s u : List ℕ) {t v : List ℕ} → t ≡ put_held s u (k + 1) (parts a.term) → v ≡ put_row t k (stmt_row (token_of s) (part 7 0 e))
      → v ≡ put_held s u k (arg_parts 0 (more e no_more))
  unfolding parts arg_parts
  one_held s u q w = w ∙ rw (q, ← p, append-nil (parts e)) (held_own s u k (part 7 0 e) (parts e))

  one_long : after k a ≡ k + length (arg_parts 0 (more e no_more))
  unfolding parts arg_parts
  one_long = simp length-append (omega (arith, ap length p))

  module _ (b : Arg) (d : terms.Term) (p' : parts d ≡ parts b.term) where
    two_held : (s u : List ℕ) {t v v' : List ℕ} → t ≡ put_held s (put_held s u (k + 1) (parts a.term)) (after k a + 1) (parts b.term)
        → v ≡ put_row t k (stmt_row (token_of s) (part 7 0 e)) → v' ≡ put_row v (after k a) (stmt_row (token_of s) (part 7 1 d))
        → v' ≡ put_held s u k (arg_parts 0 (more e (more d no_more)))
    unfolding parts arg_parts
    two_held s u q w w' =
        w' ∙ rw (w, q, ← p, ← p', append-nil (parts d)) (held_two s u k (k + 1 + length (parts e)) (part 7 0 e) (part 7 1 d) (parts e) (parts d) refl)

    two_long : after (after k a) b ≡ k + length (arg_parts 0 (more e (more d no_more)))
    unfolding parts arg_parts
    two_long = simp length-append (omega (arith, ap length p, ap length p'))

-- ---- the end

module _ (s : List ℕ) (at f m w over row : ℕ) (c : Counts) {r : Step} (g : r ≡ step (finished s at f m w over) c row) where
  within : m ≤ w → r ≡ step (Ok (call_as at f w)) c row
  unfolding finished
  within h = g ∙ rw (le-ltb w m h)

  beyond : w < m → r ≡ step (judged_as s (err over (too_many_args f m w))) c row
  unfolding finished
  beyond h = g ∙ rw (lt-ltb w m h)

-- the same as the code has it
pub too_many_lem : (s : List ℕ) (at f m w over : ℕ) {tok : Token} {o : Judged} → w < m → tok ≡ token_as (token_of s over)
    → o ≡ Err (Found (at_token tok (what_is.TooManyArgs f m w))) → o ≡ finished s at f m w over
unfolding finished
too_many_lem s at f m w over h p e = rw (lt-ltb w m h) (e ∙ judged_err s over (too_many_args f m w) p refl)

pub too_few : (s : List ℕ) (f m w at : ℕ) {tok : Token} {o : Judged} → tok ≡ token_as (token_of s at)
    → o ≡ Err (Found (at_token tok (what_is.TooFewArgs f m w))) → o ≡ judged_as s (err at (too_few_args f m w))
too_few s f m w at p e = e ∙ judged_err s at (too_few_args f m w) p refl

pub enough : (s : List ℕ) (at f m w over : ℕ) {kind : ℕ} → m ≤ w → kind ≡ ty_kind (entry_at f).gives
    → Ok (record { at = at; form = 3; kind = kind; lo = f; hi = w }) ≡ finished s at f m w over
unfolding finished
enough s at f m w over h e = rw (le-ltb w m h, e)

-- ---- to no parameter, to one, to two

-- what the arguments gs left, where the function has the parameters ps
pub record Start (s : List ℕ) (kept : Kept) (k row w : ℕ) (t u : List ℕ) (ps : List Param) (gs : List Arg) : Type 0 where
  pub wanted : w ≡ length ps
  pub keeps : Keeps k gs kept
  pub free : row ≡ end k gs
  pub table : t ≡ spread s u k gs

abbrev Binding : ℕ → ℕ → ℕ → List Param → List Arg → judgements.Judgement Terms
Binding n at f ps gs = bind_from n at f (length gs) (length ps) 0 ps gs

module _ (s : List ℕ) (n at f : ℕ) {kept : Kept} {k row w : ℕ} {x t u : List ℕ} {c : Counts} where
  pub none_0 : {r : Step} (ps : List Param) (gs : List Arg) → Start s kept k row w t u ps gs → w ≡ 0
      → r ≡ step (finished s at f kept.count w kept.first.first) c row → Bound s r x x u t c at f k (Binding n at f ps gs)
  unfolding bind_from end spread arg_parts
  none_0 [] [] b z g =
      is_bound s at f k u no_more (within s at f kept.count w _ row c g (omega (arith, b.keeps.count))) b.wanted (b.free ∙ omega arith)
      (b.table ∙ no_rows (stmt_row (token_of s)) u k)
  none_0 [] (a ∷ gs) b z g =
      is_wrong row _ kept.count w (too_many_args f) (beyond s at f kept.count w _ row c g (omega (arith, b.keeps.count, b.wanted)))
      (ap (λ (h : Given). h.first) (b.keeps.first a gs refl)) b.keeps.count b.wanted
  none_0 (p ∷ ps) gs b z g = absurd (omega (arith, b.wanted))

  pub few_0 : {r : Step} (ps : List Param) (gs : List Arg) → Start s kept k row w t u ps gs → (w ≡ 0 → ⊥) → kept.count ≡ 0
      → r ≡ step (judged_as s (err at (too_few_args f kept.count w))) c row → Bound s r x x u t c at f k (Binding n at f ps gs)
  unfolding bind_from
  few_0 [] gs b h z g = absurd (h b.wanted)
  few_0 (p ∷ ps) [] b h z g = is_wrong row at kept.count w (too_few_args f) g refl b.keeps.count b.wanted
  few_0 (p ∷ ps) (a ∷ gs) b h z g = absurd (omega (arith, b.keeps.count))

  -- the first was fitted
  module _ (num : n ≡ c.number) {r₁ : Judgement} {y v : List ℕ} where
    pub bad_1 : (ps : List Param) (gs : List Arg) → Start s kept k row w t u ps gs → Takes s f 0 ps kept.first c x t r₁ y v → (w ≡ 0 → ⊥)
        → (kept.count ≡ 0 → ⊥) → HasNone r₁.out → Bound s (step r₁.out r₁.counts row) x y u v c at f k (Binding n at f ps gs)
    unfolding bind_from
    bad_1 [] gs b F h l q = absurd (h b.wanted)
    bad_1 (p ∷ ps) [] b F h l q = absurd (l b.keeps.count)
    bad_1 (p ∷ ps) (a ∷ gs) b F h l q =
        let d = F.is n k a num (b.keeps.first a gs refl) in
        is_stopped (fitted_as n f 0 p a) _ d.judges (has_none s (fitted_as n f 0 p a).out d.judges.out q)

    -- and has a value
    module _ {o : Term} (h : r₁.out ≡ Ok o) where
      pub none_1 : {r : Step} (ps : List Param) (gs : List Arg) → Start s kept k row w t u ps gs → Takes s f 0 ps kept.first c x t r₁ y v → w ≡ 1
          → (kept.count ≡ 0 → ⊥) → r ≡ step (finished s at f kept.count w kept.second.first) r₁.counts row
          → Bound s r x y u v c at f k (Binding n at f ps gs)
      unfolding bind_from and_then end spread
      none_1 [] gs b F z l g = absurd (omega (arith, b.wanted))
      none_1 (p ∷ q ∷ ps) gs b F z l g = absurd (omega (arith, b.wanted))
      none_1 (p ∷ []) [] b F z l g = absurd (l b.keeps.count)
      none_1 (p ∷ []) (a ∷ []) b F z l g =
          let d = F.is n k a num (b.keeps.first a [] refl) in
          let e = has_value s (fitted_as n f 0 p a).out d.judges.out h in
          let same = fitted_parts n f 0 p a e.term e.is in
          then_bound (fitted_as n f 0 p a) _ e.is d.judges.adds
          (is_bound s at f k u (more e.term no_more) (within s at f kept.count w _ row r₁.counts g (omega (arith, b.keeps.count))) b.wanted
          (b.free ∙ one_long k a e.term same) (one_held k a e.term same s u b.table (d.held e.term e.is)))
      none_1 (p ∷ []) (a ∷ a' ∷ gs) b F z l g =
          let d = F.is n k a num (b.keeps.first a (a' ∷ gs) refl) in
          let e = has_value s (fitted_as n f 0 p a).out d.judges.out h in
          then_bound (fitted_as n f 0 p a) _ e.is d.judges.adds
          (is_wrong row _ kept.count w (too_many_args f) (beyond s at f kept.count w _ row r₁.counts g (omega (arith, b.keeps.count)))
          (ap (λ (i : Given). i.first) (b.keeps.second a a' gs refl)) b.keeps.count b.wanted)

      pub few_1 : {r : Step} (ps : List Param) (gs : List Arg) → Start s kept k row w t u ps gs → Takes s f 0 ps kept.first c x t r₁ y v → (w ≡ 0 → ⊥)
          → (w ≡ 1 → ⊥) → kept.count ≡ 1 → r ≡ step (judged_as s (err at (too_few_args f kept.count w))) r₁.counts row
          → Bound s r x y u v c at f k (Binding n at f ps gs)
      unfolding bind_from and_then
      few_1 [] gs b F i j z g = absurd (i b.wanted)
      few_1 (p ∷ []) gs b F i j z g = absurd (j b.wanted)
      few_1 (p ∷ q ∷ ps) [] b F i j z g = absurd (omega (arith, b.keeps.count))
      few_1 (p ∷ q ∷ ps) (a ∷ a' ∷ gs) b F i j z g = absurd (omega (arith, b.keeps.count))
      few_1 (p ∷ q ∷ ps) (a ∷ []) b F i j z g =
          let d = F.is n k a num (b.keeps.first a [] refl) in
          let e = has_value s (fitted_as n f 0 p a).out d.judges.out h in
          then_bound (fitted_as n f 0 p a) _ e.is d.judges.adds (is_wrong row at kept.count w (too_few_args f) g refl b.keeps.count b.wanted)

      -- and the second was fitted
      module _ {r₂ : Judgement} {y' v' : List ℕ} where
        pub bad_2 : (ps : List Param) (gs : List Arg) → Start s kept k row w t u ps gs → Takes s f 0 ps kept.first c x t r₁ y v
            → Takes s f 1 ps kept.second r₁.counts y v r₂ y' v' → (w ≡ 0 → ⊥) → (w ≡ 1 → ⊥) → (kept.count ≡ 0 → ⊥) → (kept.count ≡ 1 → ⊥)
            → HasNone r₂.out → Bound s (step r₂.out r₂.counts row) x y' u v' c at f k (Binding n at f ps gs)
        unfolding bind_from
        bad_2 [] gs b F G i j l m q = absurd (i b.wanted)
        bad_2 (p ∷ []) gs b F G i j l m q = absurd (j b.wanted)
        bad_2 (p ∷ p' ∷ ps) [] b F G i j l m q = absurd (l b.keeps.count)
        bad_2 (p ∷ p' ∷ ps) (a ∷ []) b F G i j l m q = absurd (m b.keeps.count)
        bad_2 (p ∷ p' ∷ ps) (a ∷ a' ∷ gs) b F G i j l m q =
            let d = F.is n k a num (b.keeps.first a (a' ∷ gs) refl) in
            let e = has_value s (fitted_as n f 0 p a).out d.judges.out h in
            let d' = G.is n (after k a) a' (num ∙ sym (adds_number d.judges.adds)) (b.keeps.second a a' gs refl) in
            then_bound (fitted_as n f 0 p a) _ e.is d.judges.adds
            (subst (Bound s (step r₂.out r₂.counts row) y y' u v' r₁.counts at f k) (sym (then_then (fitted_as n f 1 p' a') _ _))
            (is_stopped (fitted_as n f 1 p' a') _ d'.judges (has_none s (fitted_as n f 1 p' a').out d'.judges.out q)))

        pub none_2 : {o' : Term} {r : Step} (ps : List Param) (gs : List Arg) → Start s kept k row w t u ps gs
            → Takes s f 0 ps kept.first c x t r₁ y v → Takes s f 1 ps kept.second r₁.counts y v r₂ y' v' → w ≤ 2 → (w ≡ 0 → ⊥) → (w ≡ 1 → ⊥)
            → (kept.count ≡ 0 → ⊥) → (kept.count ≡ 1 → ⊥) → r₂.out ≡ Ok o'
            → r ≡ step (finished s at f kept.count w kept.third) r₂.counts row → Bound s r x y' u v' c at f k (Binding n at f ps gs)
        unfolding bind_from and_then end spread
        none_2 [] gs b F G z i j l m q g = absurd (i b.wanted)
        none_2 (p ∷ []) gs b F G z i j l m q g = absurd (j b.wanted)
        none_2 (p ∷ p' ∷ p'' ∷ ps) gs b F G z i j l m q g = absurd (omega (arith, b.wanted))
        none_2 (p ∷ p' ∷ []) [] b F G z i j l m q g = absurd (l b.keeps.count)
        none_2 (p ∷ p' ∷ []) (a ∷ []) b F G z i j l m q g = absurd (m b.keeps.count)
        none_2 {r = r} (p ∷ p' ∷ []) (a ∷ a' ∷ []) b F G z i j l m q g =
            let d = F.is n k a num (b.keeps.first a (a' ∷ []) refl) in
            let e = has_value s (fitted_as n f 0 p a).out d.judges.out h in
            let d' = G.is n (after k a) a' (num ∙ sym (adds_number d.judges.adds)) (b.keeps.second a a' [] refl) in
            let e' = has_value s (fitted_as n f 1 p' a').out d'.judges.out q in
            let same = fitted_parts n f 0 p a e.term e.is in
            let same' = fitted_parts n f 1 p' a' e'.term e'.is in
            then_bound (fitted_as n f 0 p a) _ e.is d.judges.adds
            (subst (Bound s r y y' u v' r₁.counts at f k) (sym (then_then (fitted_as n f 1 p' a') _ _))
            (then_bound (fitted_as n f 1 p' a') _ e'.is d'.judges.adds
            (is_bound s at f k u (more e.term (more e'.term no_more))
            (within s at f kept.count w _ row r₂.counts g (omega (arith, b.keeps.count, b.wanted))) b.wanted
            (b.free ∙ two_long k a e.term same a' e'.term same')
            (two_held k a e.term same a' e'.term same' s u b.table (d.held e.term e.is) (d'.held e'.term e'.is)))))
        none_2 {r = r} (p ∷ p' ∷ []) (a ∷ a' ∷ a'' ∷ gs) b F G z i j l m q g =
            let d = F.is n k a num (b.keeps.first a (a' ∷ a'' ∷ gs) refl) in
            let e = has_value s (fitted_as n f 0 p a).out d.judges.out h in
            let d' = G.is n (after k a) a' (num ∙ sym (adds_number d.judges.adds)) (b.keeps.second a a' (a'' ∷ gs) refl) in
            let e' = has_value s (fitted_as n f 1 p' a').out d'.judges.out q in
            then_bound (fitted_as n f 0 p a) _ e.is d.judges.adds
            (subst (Bound s r y y' u v' r₁.counts at f k) (sym (then_then (fitted_as n f 1 p' a') _ _))
            (then_bound (fitted_as n f 1 p' a') _ e'.is d'.judges.adds
            (is_wrong row _ kept.count w (too_many_args f)
            (beyond s at f kept.count w _ row r₂.counts g (omega (arith, b.keeps.count, b.wanted)))
            (b.keeps.third a a' a'' gs refl) b.keeps.count b.wanted)))

-- what holds of any arguments that were kept is what binding promises
pub binds : (s : List ℕ) (at f : ℕ) {kept : Kept} {row w : ℕ} {c : Counts} {x t : List ℕ} {r : Step} {y v : List ℕ} → w ≡ length (entry_at f).params
    → ((n k : ℕ) (u : List ℕ) (gs : List Arg) → n ≡ c.number → Start s kept k row w t u (entry_at f).params gs
    → Bound s r x y u v c at f k (Binding n at f (entry_at f).params gs))
    → Binds s at f kept row c x t r y v
binds s at f e h =
    record { is = λ n k u gs num keeps free table. h n k u gs num (record { wanted = e; keeps = keeps; free = free; table = table }) }

-- Arguments, judged from left to right.
use mathlib.Core.Path.{◌≡◌, refl, sym, ap, subst, ◌∙◌}
use mathlib.Core.List.{List, [], ◌∷◌, ◌++◌, append-nil}
use Prim.Native.Nat.{ℕ, ◌+◌, ◌≤◌, ◌<◌}
use native.Mathlib.Omega.{arith}
use lib.ListN.{length}
use Rattle.language.specs.Tokens as tokens
use Rattle.language.specs.Tokens.{Content, contents}
use Rattle.language.specs.Sentences.{Args, none_given, first_of, expr_size}
use Rattle.language.specs.Values.{is_integer, ty_void, same_ty}
use Rattle.language.specs.Terms as terms
use Rattle.language.specs.Terms.{Terms, atom, constant, called, term_at, term_type, function_of}
use Rattle.language.specs.Judgements as judgements
use Rattle.language.specs.Judgements.{Judged, val, err, void_value, Judgement, judgement, fine, wrong, and_then, goes_on, Known, used, Arg, arg, next_arg, any_named, bind_all, most_names, judge, judge_args, called_name, of_function}
use Rattle.language.specs.Findings.{parts}
use Rattle.language.proofs.Comparisons.{judge_compares}
use Rattle.language.proofs.NodeClaims.{some_node}
use Rattle.language.proofs.Tests.{each_side, never}
use Rattle.language.proofs.RowsFew.{judge_rows}
use Rattle.language.proofs.WarnsFew.{judge_warns}
use Rattle.rows.specs.Rows.{node_word}
use Rattle.findings.specs.declared.Counts.{Counts}
use Rattle.findings.specs.Findings.{Adds}
use Rattle.findings.proofs.Adds.{adds_none, adds_then, adds_count, adds_compared}
use Rattle.values.specs.declared.Term.{Term}
use Rattle.values.specs.Values as code
use Rattle.std.specs.Prelude.{Ok, Err}
use Rattle.values.specs.declared.Halt.{Halt}
use Rattle.values.specs.Values.{term_as, judged_as, Used}
use Rattle.holding.specs.Holding.{Step, step, most_rows, put_held, Agrees}
use Rattle.arguments.specs.declared.Given.{Given}
use Rattle.arguments.specs.declared.Kept.{Kept}
use Rattle.arguments.specs.Arguments.{given_as, end, spread, Keeps, Binds}
use Rattle.arguments.proofs.Arguments.{end_snoc, spread_snoc, end_far}
use Rattle.arguments.proofs.Then.{goes as went}
use Rattle.judging.specs.Judging.{Passed, unnamed, named_as, value_of, pass, passed, passed_size, ArgsAt, bound, Left, Calls, Fits, ArgsFit}
use Rattle.judging.proofs.Trees.{ArgAt, at_none}
use Rattle.judging.proofs.Steps.{NoVal, Alike, Ended, ended, fine_then, alike_as, alike_no, alike_then, alike_self, left_of_lem, went_no, used_value}

-- ---- one argument more

module _ (ts : List Content) (n : ℕ) (k : Known) where
  next_is : (g : Args) (p : Passed) → judge_args ts n k (pass g p) ≡ and_then (judge_args ts n k g) (next_arg (first_of (value_of p)) (judge ts n k (value_of p)))
  unfolding judge_args
  next_is g (unnamed e) = refl
  next_is g (named_as t e) = refl

  -- what fails stays as it is
  args_ended : (ps : List Passed) (g : Args) → NoVal (judge_args ts n k g).out → Ended (judge_args ts n k g) (judge_args ts n k (passed g ps))
  unfolding passed
  args_ended [] g h = record { out = alike_self h; warns = refl; looks = refl }
  args_ended (p ∷ ps) g h =
      let q = ended (judge_args ts n k g) (next_arg (first_of (value_of p)) (judge ts n k (value_of p))) h in
      let w : Ended (judge_args ts n k g) (judge_args ts n k (pass g p)) = subst (λ (j : Judgement (List Arg)). Ended (judge_args ts n k g) j) (sym (next_is g p)) q in
      let o = args_ended ps (pass g p) (alike_no w.out) in
      record { out = alike_then w.out o.out; warns = o.warns ∙ w.warns; looks = o.looks ∙ w.looks }

  module _ (g : Args) (p : Passed) {gs : List Arg} (h : (judge_args ts n k g).out ≡ val gs) where
    abbrev value : Judgement terms.Term
    value = judge ts n k (value_of p)

    -- a value more
    pub args_more : (b : terms.Term) → value.out ≡ val b → used b ≡ fine b
        → judge_args ts n k (pass g p) ≡ record { out = val (gs ++ arg (first_of (value_of p)) b ∷ []); warns = (judge_args ts n k g).warns ++ value.warns; looks = (judge_args ts n k g).looks ++ value.looks }
    unfolding next_arg
    args_more b q u =
        next_is g p ∙ went (judge_args ts n k g) (next_arg (first_of (value_of p)) value) h
        ∙ rw (went value (λ v. and_then (used v) (λ w. fine (gs ++ arg (first_of (value_of p)) w ∷ []))) q, u, fine_then b (λ w. fine (gs ++ arg (first_of (value_of p)) w ∷ [])), append-nil value.warns, append-nil value.looks)

    -- it fails
    pub record Fails (out : Judged terms.Term) : Type 0 where
      pub alike : Alike out (judge_args ts n k (pass g p)).out
      pub warns : (judge_args ts n k (pass g p)).warns ≡ (judge_args ts n k g).warns ++ value.warns
      pub looks : (judge_args ts n k (pass g p)).looks ≡ (judge_args ts n k g).looks ++ value.looks

    pub args_fail : NoVal value.out → Fails value.out
    unfolding next_arg
    args_fail q =
        let z = next_is g p ∙ went (judge_args ts n k g) (next_arg (first_of (value_of p)) value) h in
        let e = ended value (λ v. and_then (used v) (λ w. fine (gs ++ arg (first_of (value_of p)) w ∷ []))) q in
        record {
          alike = rw z e.out;
          warns = rw (z, e.warns);
          looks = rw (z, e.looks);
        }

    pub args_void : (b : terms.Term) → value.out ≡ val b → NoVal (used b).out → (used b).warns ≡ [] → (used b).looks ≡ [] → Fails (used b).out
    unfolding next_arg
    args_void b q u ws ls =
        let z = next_is g p ∙ went (judge_args ts n k g) (next_arg (first_of (value_of p)) value) h in
        let y = went value (λ v. and_then (used v) (λ w. fine (gs ++ arg (first_of (value_of p)) w ∷ []))) q in
        let e = ended (used b) (λ w. fine (gs ++ arg (first_of (value_of p)) w ∷ [])) u in
        record {
          alike = rw (z, y) e.out;
          warns = rw (z, y, e.warns, ws, append-nil value.warns);
          looks = rw (z, y, e.looks, ls, append-nil value.looks);
        }

-- judging whether a value is void finds and searches nothing
used_quiet : (e : terms.Term) → ((used e).warns ≡ []) × ((used e).looks ≡ [])
unfolding used
used_quiet e = each_side (λ (j : Judgement terms.Term). (j.warns ≡ []) × (j.looks ≡ [])) (same_ty ty_void (term_type e)) (refl, refl) (refl, refl)

-- what follows looks at the value alone
then_out : {A B : Type 0} (i j : Judgement A) (f : A → Judgement B) → i.out ≡ j.out → (and_then i f).out ≡ (and_then j f).out
unfolding and_then
then_out {A} {B} i j f q = by i.out j.out q
  where
    by : (o p : Judged A) → o ≡ p → (goes_on o i.warns i.looks f).out ≡ (goes_on p j.warns j.looks f).out
    by (val v) p e = rw (← e)
    by (err at w) p e = rw (← e)
    by judgements.poisoned p e = rw (← e)
    by (judgements.stopped t) p e = rw (← e)

-- ---- the walk

-- of the arguments ps, some were judged: what they came to, what is kept of it, and the tables since c₀, x₀ and u₀
pub record Walk (s : List ℕ) (n : ℕ) (k : Known) (ws : List ℕ) (i start : ℕ) (c₀ : Counts) (x₀ u₀ : List ℕ) (ps : List Passed) (kept : Kept) (row : ℕ) (c : Counts) (next : ℕ) (x u : List ℕ) : Type 0 where
  pub done : Args
  pub others : List Passed
  pub got : List Arg
  pub rep : ArgsAt ws i next others
  pub whole : passed none_given ps ≡ passed done others
  pub judged : (judge_args (contents (tokens.tokens s)) n k done).out ≡ val got
  pub adds : Adds s c₀ x₀ c x (judge_args (contents (tokens.tokens s)) n k done).warns (judge_args (contents (tokens.tokens s)) n k done).looks
  pub keeps : Keeps start got kept
  pub free : row ≡ end start got
  pub table : u ≡ spread s u₀ start got

pub start_walk : {s : List ℕ} {n : ℕ} {k : Known} {ws : List ℕ} {i start : ℕ} {c : Counts} {x u : List ℕ} {ps : List Passed} {kept : Kept} {next : ℕ} → ArgsAt ws i next ps
    → Keeps start [] kept → Walk s n k ws i start c x u ps kept start c next x u
unfolding judge_args end spread
start_walk {s} {c = c} {x} {ps = ps} r h =
    record {
      done = none_given;
      others = ps;
      got = [];
      rep = r;
      whole = refl;
      judged = refl;
      adds = adds_none s c x;
      keeps = h;
      free = refl;
      table = refl;
    }

-- what a failing call comes to
fails_all : {s : List ℕ} (n : ℕ) (k : Known) {r : Step} {x y u v : List ℕ} {c : Counts} {at f start : ℕ} (g : Args) (o : Judged terms.Term) → r.out ≡ judged_as s o
    → Alike o (judge_args (contents (tokens.tokens s)) n k g).out
    → Adds s c x r.counts y (judge_args (contents (tokens.tokens s)) n k g).warns (judge_args (contents (tokens.tokens s)) n k g).looks
    → Calls s n k g at f start c x u r y v
fails_all {s} n k {at = at} {f} g o q a h =
    let all = judge_args (contents (tokens.tokens s)) n k g in
    let e = ended all (bind_all n at f) (alike_no a) in
    record {
      out = λ d. q ∙ alike_as s (alike_then a (alike_then e.out (ended (and_then all (bind_all n at f)) (λ vs. fine (called at d f vs)) (alike_no e.out)).out));
      adds = rw (e.warns, e.looks) h;
      next = λ vs z. absurd (alike_no e.out vs z);
      rows = λ vs z. absurd (alike_no e.out vs z);
    }

-- an argument by its words
given_of : {d b : Term} {row m first t : ℕ} → d ≡ b → row ≡ m → first ≡ t → ◌≡◌ {A = Given} (record { term = d; row = row; first = first }) (record { term = b; row = m; first = t })
given_of p q o = rw (p, q, o)

module _ {s : List ℕ} {n : ℕ} {k : Known} {ws : List ℕ} {i start : ℕ} {c₀ : Counts} {x₀ u₀ : List ℕ} {ps : List Passed} {kept : Kept} {row : ℕ} {c : Counts} {next : ℕ} {x u : List ℕ}
    (w : Walk s n k ws i start c₀ x₀ u₀ ps kept row c next x u) where
  abbrev ts : List Content
  ts = contents (tokens.tokens s)

  -- the next one is at row j
  module _ {j : ℕ} (p : ArgAt ws i j w.others) where
    rest_is : passed none_given ps ≡ passed (pass w.done p.arg) p.others
    unfolding passed
    rest_is = w.whole ∙ ap (passed w.done) p.is

    module _ {J : Step} {y t : List ℕ} (a : Agrees s J x y u t c row (judge ts n k (value_of p.arg))) where
      after_args : {ds : List _} {ls : List ℕ} → ds ≡ (judge_args ts n k w.done).warns ++ (judge ts n k (value_of p.arg)).warns
          → ls ≡ (judge_args ts n k w.done).looks ++ (judge ts n k (value_of p.arg)).looks → Adds s c₀ x₀ J.counts y ds ls
      after_args q g = rw (q, g) (adds_then w.adds a.adds)

      failing : {out : Judged terms.Term} {R : Step} {v : List ℕ} {at f : ℕ} → Fails ts n k w.done p.arg w.judged out → R.out ≡ judged_as s out → R.counts ≡ J.counts
          → Calls s n k (passed none_given ps) at f start c₀ x₀ u₀ R y v
      failing {out} {R} {v} {at} {f} h q g =
          let e = args_ended ts n k p.others (pass w.done p.arg) (alike_no h.alike) in
          subst (λ (z : Args). Calls s n k z at f start c₀ x₀ u₀ R y v) (sym rest_is)
          (fails_all n k (passed (pass w.done p.arg) p.others) out q (alike_then h.alike e.out)
          (rw g (after_args (e.warns ∙ h.warns) (e.looks ∙ h.looks))))

      pub walk_fails : ((b : Term) → J.out ≡ Ok b → ⊥) → {v : List ℕ} {at f : ℕ} → Calls s n k (passed none_given ps) at f start c₀ x₀ u₀ J y v
      walk_fails h =
          failing (args_fail ts n k w.done p.arg w.judged (went_no (judge ts n k (value_of p.arg)) a h)) a.out refl

      module _ {b : Term} (o : J.out ≡ Ok b) {m : code.Judged} (h : Used s b m) where
        abbrev came : (e : terms.Term) × ((judge ts n k (value_of p.arg)).out ≡ val e) × Left s u t row e b J.next
        came = left_of_lem (judge ts n k (value_of p.arg)) a o

        pub walk_void : ((d : Term) → m ≡ Ok d → ⊥) → {R : Step} {v : List ℕ} {at f : ℕ} → R.out ≡ m → R.counts ≡ J.counts
            → Calls s n k (passed none_given ps) at f start c₀ x₀ u₀ R y v
        walk_void z q g =
            let e = came.0 in
            let l = came.2 in
            let no : NoVal (used e).out = λ d i. z (term_as d) (h.is e l.value ∙ ap (judged_as s) i) in
            failing (args_void ts n k w.done p.arg w.judged e came.1 no (used_quiet e).0 (used_quiet e).1) (q ∙ h.is e l.value) g

        pub walk_on : {d : Term} → m ≡ Ok d → {first : ℕ} → first ≡ first_of (value_of p.arg) → {kept' : Kept}
            → ((gs : List Arg) (z : Arg) → Keeps start gs kept → record { term = d; row = row; first = first } ≡ given_as z (end start gs) → Keeps start (gs ++ z ∷ []) kept')
            → {next' : ℕ} → next' ≡ node_word ws j 3 → Walk s n k ws i start c₀ x₀ u₀ ps kept' J.next J.counts next' y t
        walk_on {d} q {first} fi {kept'} keep {next'} nx =
            let e = came.0 in
            let l = came.2 in
            let g = used_value e h l.value q in
            let more = args_more ts n k w.done p.arg w.judged e came.1 g.0 in
            let z = arg (first_of (value_of p.arg)) e in
            let given_is : record { term = d; row = row; first = first } ≡ given_as z (end start w.got) = given_of g.1 w.free fi in
            record {
              done = pass w.done p.arg;
              others = p.others;
              got = w.got ++ z ∷ [];
              rep = subst (λ (q : ℕ). ArgsAt ws i q p.others) (sym nx) p.others_rep;
              whole = rest_is;
              judged = rw more;
              adds = after_args (rw more) (rw more);
              keeps = keep w.got z w.keeps given_is;
              free = l.free ∙ ap (λ (q : ℕ). q + 1 + length (parts e)) w.free ∙ sym (end_snoc start w.got z);
              table = l.table ∙ ap (λ (q : List ℕ). put_held s q (row + 1) (parts e)) w.table ∙ ap (λ (q : ℕ). put_held s (spread s u₀ start w.got) (q + 1) (parts e)) w.free
                  ∙ sym (spread_snoc s u₀ start w.got z);
            }

  -- none is left
  pub walk_done : next ≡ 0 → n ≡ c.number → {r : Step} {y v : List ℕ} {at f : ℕ} → Binds s at f kept row c x u r y v → Calls s n k (passed none_given ps) at f start c₀ x₀ u₀ r y v
  unfolding passed
  walk_done z num {r} {y} {v} {at} {f} b =
      let whole : passed none_given ps ≡ w.done = w.whole ∙ ap (passed w.done) (at_none w.rep z) in
      let g = b.is n start u₀ w.got num w.keeps w.free w.table in
      let q = went (judge_args ts n k w.done) (bind_all n at f) w.judged in
      subst (λ (a : Args). Calls s n k a at f start c₀ x₀ u₀ r y v) (sym whole) (record {
        out = λ d. g.out d ∙ ap (judged_as s) (then_out (bind_all n at f w.got) (bound ts n k at f w.done) (λ vs. fine (called at d f vs)) (rw q));
        adds = rw q (adds_then w.adds g.adds);
        next = λ vs i. g.next vs (rw q at i);
        rows = λ vs i. g.rows vs (rw q at i);
      })

-- one that fails has no next row to tell
pub calls_err : {s : List ℕ} (n : ℕ) (k : Known) (g : Args) {at f start row m : ℕ} {c d : Counts} {x u y v : List ℕ} {h : Halt}
    → Calls s n k g at f start c x u (step (Err h) d row) y v → Calls s n k g at f start c x u (step (Err h) d m) y v
calls_err {s} n k g {at} {f} {h = h} b =
    record {
      out = b.out;
      adds = b.adds;
      next = λ vs q. no_terms vs q;
      rows = b.rows;
    }
  where
    all : Judgement Terms
    all = bound (contents (tokens.tokens s)) n k at f g

    -- any callee will do
    callee : terms.Term
    callee = atom 0 (constant (is_integer 0))

    no_terms : {A : Type 0} (vs : Terms) → all.out ≡ val vs → A
    no_terms vs q =
        let e : Err h ≡ Ok (term_as (called at callee f vs)) = b.out callee ∙ ap (λ (j : Judgement terms.Term). judged_as s j.out) (went all (λ ws. fine (called at callee f ws)) q) in
        never cc

-- how many are kept
pub few_kept : {s : List ℕ} {n : ℕ} {k : Known} {ws : List ℕ} {i start : ℕ} {c₀ : Counts} {x₀ u₀ : List ℕ} {ps : List Passed} {kept : Kept} {row : ℕ} {c : Counts} {next : ℕ} {x u : List ℕ}
    → Walk s n k ws i start c₀ x₀ u₀ ps kept row c next x u → kept.count ≤ row
few_kept {start = start} w = omega (arith, w.keeps.count, w.free, end_far start w.got)

-- ---- room

module _ {ws : List ℕ} {i next row j : ℕ} {c : Counts} (f : ArgsFit ws i next row c) (p : ArgAt ws i j f.args) where
  size_is : passed_size f.args ≡ expr_size (value_of p.arg) + 1 + passed_size p.others
  unfolding passed_size
  size_is = ap passed_size p.is

  pub fits_value : {e : ℕ} → e ≡ node_word ws j 2 → Fits ws e row c
  fits_value q =
      record {
        tree = value_of p.arg;
        rep = rw q p.rep;
        room = omega (arith, f.room, size_is);
        rows = omega (arith, f.rows, size_is);
        looks = omega (arith, f.looks, size_is);
      }

  pub row_near : row < most_rows
  row_near = omega (arith, f.rows, size_is, some_node (value_of p.arg))

  pub fits_on : (s : List ℕ) (n : ℕ) (k : Known) → length k.bindings ≤ most_names → {J : Step} {x y u t : List ℕ}
      → Agrees s J x y u t c row (judge (contents (tokens.tokens s)) n k (value_of p.arg)) → {v : Term} → J.out ≡ Ok v → {next' : ℕ} → next' ≡ node_word ws j 3
      → ArgsFit ws i next' J.next J.counts
  fits_on s n k few {J} a {v} o {next'} q =
      let l = left_of_lem (judge (contents (tokens.tokens s)) n k (value_of p.arg)) a o in
      let rs = judge_rows (contents (tokens.tokens s)) n k (value_of p.arg) l.1 in
      record {
        args = p.others;
        rep = subst (λ (z : ℕ). ArgsAt ws i z p.others) (sym q) p.others_rep;
        room = omega (arith, f.room, size_is, adds_count a.adds, judge_warns (contents (tokens.tokens s)) n k (value_of p.arg));
        rows = omega (arith, f.rows, size_is, l.2.free, rs);
        looks = omega (arith, f.looks, size_is, adds_compared a.adds, judge_compares (contents (tokens.tokens s)) n k (value_of p.arg) few);
      }

-- A call with what its callee came to.
use mathlib.Core.Path.{◌≡◌, refl, sym, ap, subst, ◌∙◌}
use mathlib.Core.Bool.{Bool, true, false}
use mathlib.Core.List.{List, [], ◌∷◌, ◌++◌, append-nil}
use Prim.Native.Nat.{ℕ, ◌+◌}
use native.Mathlib.Omega.{arith}
use lib.ListN.{length, length-append}
use Rattle.std.specs.Prelude.{Ok, Err}
use Rattle.language.specs.Choice.{if'}
use Rattle.language.specs.Tokens as tokens
use Rattle.language.specs.Tokens.{Content, contents}
use Rattle.language.specs.Sentences.{Expr, Args, none_given, call}
use Rattle.language.specs.Terms as terms
use Rattle.language.specs.Terms.{Terms, called, term_at, term_type, function_of}
use Rattle.language.specs.Judgements as judgements
use Rattle.language.specs.Judgements.{not_callable, Diag, Judged, val, err, stopped, Judgement, judgement, fine, wrong, and_then, goes_on, Known, Arg, any_named, bind_all, judge, judge_args, called_name, of_function}
use Rattle.language.specs.Findings.{parts, part, arg_parts, stmt_row}
use Rattle.language.specs.Numbers.{token_of}
use Rattle.language.proofs.Tests.{never}
use Rattle.rows.specs.Rows.{node_word}
use Rattle.rows.specs.declared.token.Token.{Token}
use Rattle.rows.specs.declared.types.Type.{«Type»}
use Rattle.rows.specs.Tokens.{token_as}
use Rattle.findings.specs.declared.Counts.{Counts}
use Rattle.findings.specs.declared.Diagnostic.{Diagnostic}
use Rattle.findings.specs.declared.What.TheVariants.{NotCallable}
use Rattle.findings.specs.Findings.{at_token}
use Rattle.findings.proofs.Rows.{more_rows}
use Rattle.values.specs.declared.Term.{Term}
use Rattle.values.specs.declared.Halt.{Halt}
use Rattle.values.specs.declared.Halt.TheVariants.{Found, Stopped}
use Rattle.values.specs.Values.{judged_as, TypeShown}
use Rattle.values.proofs.Values.{place_as, judged_err, callee_is, callee_not}
use Rattle.holding.specs.Holding.{Step}
use Rattle.holding.specs.Holding.{put_held, Puts, Agrees}
use Rattle.holding.proofs.Rows.{held_own}
use Rattle.arguments.proofs.Then.{then_then}
use Rattle.arguments.proofs.Outs.{halted}
use Rattle.judging.specs.declared.Callee.{Callee}
use Rattle.judging.specs.Judging.{Passed, passed, RepAt, is_call, ArgsAt, going, bound, Left, CalleeOf, CalleeIs, Calls}
use Rattle.judging.proofs.Steps.{no_val, ends, by}

-- ---- rows

pub record CallParts (ws : List ℕ) (i : ℕ) (e : Expr) (t : ℕ) (g : Args) : Type 0 where
  pub args : List Passed
  pub callee_rep : RepAt ws (node_word ws i 2) e
  pub args_rep : ArgsAt ws i (node_word ws i 3) args
  pub token : t ≡ node_word ws i 4
  pub is : g ≡ passed none_given args

pub call_parts : {ws : List ℕ} {i t : ℕ} {e : Expr} {g : Args} → RepAt ws i (call e t g) → CallParts ws i e t g
call_parts (is_call {ps = ps} f k z n r a) = record { args = ps; callee_rep = r; args_rep = a; token = refl; is = refl }

-- whether one of its arguments is named
named_is : {ws : List ℕ} {i : ℕ} {b : Bool} → ((ps : List Passed) → ArgsAt ws i (node_word ws i 3) ps → b ≡ any_named (passed none_given ps)) → {e : Expr} {t : ℕ} {g : Args}
    → RepAt ws i (call e t g) → b ≡ any_named g
named_is any rep = let p = call_parts rep in any p.args p.args_rep ∙ ap any_named (sym p.is)

-- ---- the callee

module _ {s ws : List ℕ} {i at : ℕ} {c : Term} {u : List ℕ} {ty : «Type»} (shown : TypeShown c ty) {name : ℕ}
    (called-as : (e : Expr) → RepAt ws (node_word ws i 2) e → name ≡ called_name e) where
  pub no_callee : {tok : Token} {f : Diagnostic} → (ty.kind ≡ 14 → ⊥) → tok ≡ token_as (token_of s name) → f ≡ at_token tok (NotCallable ty)
      → CalleeIs s ws i at c (Err (Found f)) u u
  no_callee h q p =
      record {
        is = λ e t g d rep l n r.
            let m = called-as e (call_parts rep).callee_rep in (
              err (called_name e) (not_callable (term_type d)),
              ap (of_function n (called_name e) t g r d) (callee_not d (shown.is d l) h),
              ap (λ (f : Diagnostic). Err (Found f)) p ∙ judged_err s name (not_callable (term_type d)) q (ap NotCallable (shown.is d l)) ∙ ap (λ (k : ℕ). judged_as s (err k (not_callable (term_type d)))) m,
            );
      }

  module _ (h : ty.kind ≡ 14) {b : Bool} (any : (ps : List Passed) → ArgsAt ws i (node_word ws i 3) ps → b ≡ any_named (passed none_given ps)) where
    pub stops_named : {p : ℕ} → b ≡ true → p ≡ node_word ws i 4 → CalleeIs s ws i at c (Err (Stopped p)) u u
    stops_named {p} w q =
        record {
          is = λ e t g d rep l n r. (
            stopped t,
            ap (of_function n (called_name e) t g r d) (callee_is d (shown.is d l) h) ∙ ap (λ (k : Bool). if' k (judgement (stopped t) []) (and_then r (λ as'. and_then (bind_all n (called_name e) ty.entry as') (λ vs. fine (called (called_name e) d ty.entry vs))))) (sym (named_is any rep) ∙ w),
            ap (λ (t : ℕ). Err (Stopped t)) (q ∙ sym (call_parts rep).token),
          );
        }

    pub is_callee : {v : List ℕ} → b ≡ false → Puts s (at + 1) c.at 6 0 c u v → CalleeIs s ws i at c (Ok (record { name = name; entry = ty.entry })) u v
    is_callee w p =
        record {
          is = λ e t g d rep l. (callee_is d (shown.is d l) h, sym (named_is any rep) ∙ w, called-as e (call_parts rep).callee_rep, p);
        }

-- ---- the whole

then_fine : {A B : Type 0} (j : Judgement A) (h : A → B) → ((and_then j (λ v. fine (h v))).warns ≡ j.warns) × ((and_then j (λ v. fine (h v))).looks ≡ j.looks)
unfolding and_then
then_fine {A} {B} j h = on j.out
  where
    on : (o : Judged A) → ((goes_on o j.warns j.looks (λ v. fine (h v))).warns ≡ j.warns) × ((goes_on o j.warns j.looks (λ v. fine (h v))).looks ≡ j.looks)
    on (val v) = (append-nil j.warns, append-nil j.looks)
    on (err at w) = (refl, refl)
    on judgements.poisoned = (refl, refl)
    on (stopped t) = (refl, refl)

pub record Through {A B : Type 0} (j : Judgement A) (h : A → B) (b : B) : Type 0 where
  pub got : A
  pub first : j.out ≡ val got
  pub is : h got ≡ b

through : {A B : Type 0} (j : Judgement A) (h : A → B) {b : B} → (and_then j (λ v. fine (h v))).out ≡ val b → Through j h b
unfolding and_then
through {A} {B} j h {b} = on j.out refl
  where
    on : (o : Judged A) → j.out ≡ o → (goes_on o j.warns j.looks (λ v. fine (h v))).out ≡ val b → Through j h b
    on (val v) e q = record { got = v; first = e; is = cc }
    on (err at w) e q = never (cc)
    on judgements.poisoned e q = never (cc)
    on (stopped t) e q = never (cc)

module _ {s : List ℕ} (n : ℕ) (k : Known) {x : List ℕ} {c : Counts} {at next : ℕ} {v : Term} (e : Expr) (t : ℕ) (g : Args) (d : terms.Term) {u z : List ℕ}
    (l : Left s u z (at + 1) d v next) where
  pub call_ends : {h : Halt} (m : List ℕ) {w : List ℕ} → CalleeOf s at v (Err h) z m e t g d → {r : Step} → r.out ≡ Err h → r.counts ≡ c
      → Agrees s r x x u w c at (going (contents (tokens.tokens s)) n k (call e t g) d)
  call_ends m h q p =
      let y = h n (judge_args (contents (tokens.tokens s)) n k g) in
      by y.1 (ends y.0 (q ∙ y.2) (no_val s y.0 y.2 (halted refl)) p)

  pub call_goes : {f : Callee} {m : List ℕ} → CalleeOf s at v (Ok f) z m e t g d → {r : Step} {y w : List ℕ} → Calls s n k g f.name f.entry next c x m r y w
      → Agrees s r x y u w c at (going (contents (tokens.tokens s)) n k (call e t g) d)
  unfolding parts
  call_goes {f} {m} (fn, plain, nm, puts) {r} {y} {w} b =
      let made : Terms → terms.Term = λ vs. called f.name d f.entry vs in
      let j = bound (contents (tokens.tokens s)) n k f.name f.entry g in
      let is : going (contents (tokens.tokens s)) n k (call e t g) d ≡ and_then j (λ vs. fine (made vs)) =
      ap (of_function n (called_name e) t g (judge_args (contents (tokens.tokens s)) n k g) d) fn
      ∙ ap (λ (b : Bool). if' b (judgement (stopped t) []) (and_then (judge_args (contents (tokens.tokens s)) n k g) (λ as'. and_then (bind_all n (called_name e) f.entry as') (λ vs. fine (called (called_name e) d f.entry vs))))) plain
      ∙ ap (λ (p : ℕ). and_then (judge_args (contents (tokens.tokens s)) n k g) (λ as'. and_then (bind_all n p f.entry as') (λ vs. fine (called p d f.entry vs)))) (sym nm)
      ∙ sym (then_then (judge_args (contents (tokens.tokens s)) n k g) (bind_all n f.name f.entry) (λ vs. fine (made vs))) in
      let q = then_fine j made in
      let place : v.at ≡ term_at d = ap (λ (a : Term). a.at) l.value ∙ place_as d in
      let own : m ≡ put_held s u (at + 1) (part 6 0 d ∷ parts d) =
      puts.is d l.value ∙ rw (l.table, place) (held_own s u (at + 1) (part 6 0 d) (parts d)) in
      let far : next ≡ at + 1 + length (part 6 0 d ∷ parts d) = omega (arith, l.free) in
      let next_is : (vs : Terms) → j.out ≡ val vs → r.next ≡ at + 1 + length (part 6 0 d ∷ parts d ++ arg_parts 0 vs) = λ vs o.
      omega (arith, b.next vs o, l.free, length-append (parts d) (arg_parts 0 vs)) in
      let rows_are : (vs : Terms) → j.out ≡ val vs → w ≡ put_held s u (at + 1) (part 6 0 d ∷ parts d ++ arg_parts 0 vs) = λ vs o.
      b.rows vs o ∙ rw (own, far) (more_rows (stmt_row (token_of s)) u (at + 1) (part 6 0 d ∷ parts d) (arg_parts 0 vs)) in
      by is (record {
        out = b.out d;
        adds = rw (q.0, q.1) b.adds;
        next = λ i o. let h = through j made o in subst (λ (i : terms.Term). r.next ≡ at + 1 + length (parts i)) h.is (next_is h.got h.first);
        rows = λ i o. let h = through j made o in subst (λ (i : terms.Term). w ≡ put_held s u (at + 1) (parts i)) h.is (rows_are h.got h.first);
      })

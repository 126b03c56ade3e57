-- A call that is met stands before every name that is one too many.
use Prim.Native.Nat.{ℕ, suc, ◌<◌}
use mathlib.Core.Path.{◌≡◌, refl}
use mathlib.Core.List.{List, [], ◌∷◌, ◌++◌, append_assoc, append-nil}
use mathlib.Core.Logic.{◌⊎◌, inl, inr}
use native.Mathlib.Omega.{arith}
use Rattle.language.specs.Tokens.{Content}
use Rattle.language.specs.Sentences.{Expr, Args, Stmt, first_of}
use Rattle.language.specs.Grammar.{Chain, is_literal_lem, is_address, is_sock4_lem, is_local, is_path, is_member, is_call, Slashed, is_chain, is_slash, Expression, is_expression, Argument, is_given, is_named_lem, Arguments, is_none, is_more, Bracketed, is_closed, is_last, Statement, is_import, is_let, is_expr, Program, is_end, is_next}
use Rattle.language.specs.Judgements.{named_number, Diag, stopped, Known, known, Held, Turn, goes, refuses, refused, find, find_import, name_at, called_name, judge, judge_args, stmt, onward, run}
use Rattle.language.specs.Names.{TooMany}
use Rattle.language.specs.Named.{Holds, of_expr, of_let, NamedEarlier}
use Rattle.language.proofs.Tests.{never}
use Rattle.language.proofs.GrammarPlaces.{chain_on, arg_on, list_on}
use Rattle.language.proofs.GrammarMet.{grammar_met}
use Rattle.language.proofs.Judging.{membered_fine}
use Rattle.language.proofs.Names.{Knows, After, stmt_after, none_known}
use Rattle.language.proofs.NamesAscend.{named_on, too_named}
use Rattle.language.proofs.NamedCalls.{then_stopped, goes_on_lem, over_stopped, applied_stopped, unstopped, bound_goes, below_goes, next_stopped, stmt_stopped, anything, named_refused}

module _ (ts : List Content) (n : ℕ) (k : Known) where
  mutual
    unfolding judge judge_args

    chain_stop : {d at next : ℕ} {e : Expr} (t : ℕ) → Chain ts d at e next → (judge ts n k e).out ≡ stopped t → t < next
    chain_stop t (is_literal_lem a) q = never (cc)
    chain_stop t (is_address a b) q = never (cc)
    chain_stop t (is_sock4_lem a b c) q = never (cc)
    chain_stop t (is_local {at = at} a b) q = absurd (unstopped ts n k _ t (bound_goes ts n k at (find k.bindings (name_at ts at))) q)
    chain_stop t (is_path {at = at} {n = m} a p l b) q =
        absurd (unstopped ts n k _ t (below_goes ts n k at m (find_import k.imports (name_at ts at))) q)
    chain_stop t (is_member {t = u} {e = e} c a b) q =
        elim (then_stopped (judge ts n k e) _ t q) [
          | inl d ↦ omega (arith, chain_stop t c d, a.after, b.after)
          | inr d ↦ absurd (goes_on_lem _ t (membered_fine (anything n) u d.0 tt tt) d.2)
        ]
    chain_stop t (is_call {mid = mid} {e = e} {g = g} c l) q =
        elim (then_stopped (judge ts n k e) _ t q) [
          | inl d ↦ omega (arith, chain_stop t c d, list_on ts l)
          | inr d ↦
              let x = applied_stopped n (called_name e) mid g (judge_args ts n k g) d.0 t d.2 in
              elim x.2 [ inl y ↦ omega (arith, y.1, list_on ts l) | inr y ↦ list_stop t l y.1 ]
        ]

    slashed_stop : {d at next : ℕ} {e : Expr} (t : ℕ) → Slashed ts d at e next → (judge ts n k e).out ≡ stopped t → t < next
    slashed_stop t (is_chain c) q = chain_stop t c q
    slashed_stop t (is_slash {e = e} {r} c a x) q =
        elim (then_stopped (judge ts n k e) _ t q) [
          | inl d ↦ omega (arith, slashed_stop t c d, a.after, chain_on ts x)
          | inr d ↦ chain_stop t x (over_stopped n (first_of e) (first_of r) (judge ts n k r) d.0 t d.2).0
        ]

    expr_stop : {d at next : ℕ} {e : Expr} (t : ℕ) → Expression ts d at e next → (judge ts n k e).out ≡ stopped t → t < next
    expr_stop t (is_expression c l) q = slashed_stop t c q

    arg_stop : {d at next : ℕ} {g h : Args} (t : ℕ) → Argument ts d at g h next → (judge_args ts n k h).out ≡ stopped t
        → ((judge_args ts n k g).out ≡ stopped t) ⊎ (t < next)
    arg_stop t (is_given {g = g} {e} f x) q =
        elim (then_stopped (judge_args ts n k g) _ t q) [
          | inl d ↦ inl d
          | inr d ↦ inr (expr_stop t x (next_stopped ts n k (first_of e) (judge ts n k e) d.0 t d.2))
        ]
    arg_stop t (is_named_lem {g = g} {e} a b x) q =
        elim (then_stopped (judge_args ts n k g) _ t q) [
          | inl d ↦ inl d
          | inr d ↦ inr (expr_stop t x (next_stopped ts n k (first_of e) (judge ts n k e) d.0 t d.2))
        ]

    args_stop : {d at next : ℕ} {g : Args} (t : ℕ) → Arguments ts d at g next → (judge_args ts n k g).out ≡ stopped t → t < next
    args_stop t is_none q = never (cc)
    args_stop t (is_more x a b) q =
        elim (arg_stop t a q) [
          | inl d ↦ omega (arith, args_stop t x d, arg_on ts a, b.after)
          | inr d ↦ omega (arith, d, b.after)
        ]

    list_stop : {d at next : ℕ} {g : Args} (t : ℕ) → Bracketed ts d at g next → (judge_args ts n k g).out ≡ stopped t → t < next
    list_stop t (is_closed a x b) q = omega (arith, args_stop t x q, b.after)
    list_stop t (is_last a x y b) q =
        elim (arg_stop t y q) [
          | inl d ↦ omega (arith, args_stop t x d, arg_on ts y, b.after)
          | inr d ↦ omega (arith, d, b.after)
        ]

  held_stop : {at next : ℕ} {s : Stmt} (t : ℕ) (e : Expr) → Statement ts at s next → Holds ts k s e → (judge ts n k e).out ≡ stopped t → t < next
  held_stop t e (is_import _ _ _) x q = elim x [ ]
  held_stop t e (is_let a b c x o) (of_let f l) q = omega (arith, expr_stop t x q, o.after)
  held_stop t e (is_expr x o) of_expr q = omega (arith, expr_stop t x q, o.after)

  stmt_stop : {at next : ℕ} {s : Stmt} (t : ℕ) → Statement ts at s next → stmt ts n k s ≡ refuses named_number t → t < next
  stmt_stop {s = s} t x q = let h = stmt_stopped ts n k s t q in held_stop t h.0 x h.1 h.2

module _ (ts : List Content) where
  -- a name that is one too many stands in a later statement than one that stops
  run_earlier : {at next : ℕ} {ss : List Stmt} (t u : ℕ) → Program ts at ss next → (us : List Stmt) (n : ℕ) (k : Known) (ds : List Diag) (hs : List Held)
      (ls : List ℕ) → Knows ts us k → run ts ss n k ds hs ls ≡ refused named_number t → (bs : List Stmt) (h : Stmt) (cs : List Stmt)
      → ss ≡ bs ++ h ∷ cs → TooMany ts (us ++ bs) h u → t < u
  unfolding run After
  run_earlier t u (is_end e) us n k ds hs ls i q bs h cs o m = never (cc)
  run_earlier t u (is_next {at} {mid} {next} {s} {ss} x p) us n k ds hs ls i q bs h cs o m =
      by (stmt ts n k s) refl (stmt_after ts us k i n s) q (λ k' es gs ms j. run_earlier t u p (us ++ s ∷ []) (suc n) k' es gs ms j) bs o m
    where
      by : (w : Turn) → stmt ts n k s ≡ w → After ts us s w
          → onward ts w ds hs ls (λ k' es gs ms. run ts ss (suc n) k' es gs ms) ≡ refused named_number t
          → ((k' : Known) (es : List Diag) (gs : List Held) (ms : List ℕ) → Knows ts (us ++ s ∷ []) k' → run ts ss (suc n) k' es gs ms ≡ refused named_number t
          → (bs : List Stmt) (h : Stmt) (cs : List Stmt) → ss ≡ bs ++ h ∷ cs → TooMany ts ((us ++ s ∷ []) ++ bs) h u → t < u)
          → (bs : List Stmt) → s ∷ ss ≡ bs ++ h ∷ cs → TooMany ts (us ++ bs) h u → t < u
      by (goes k' es gs ms) f a q rest [] o m = let z : s ≡ h = cc in absurd (a.1 u (rw (append-nil, ← z) at m))
      by (goes k' es gs ms) f a q rest (b ∷ bs) o m =
          let z : s ≡ b = cc in
          let y : ss ≡ bs ++ h ∷ cs = cc in
          rest k' _ _ _ a.0 q bs h cs y (rw (append_assoc us (s ∷ []) bs, z) m)
      by (refuses v w) f (inl a) q rest bs o m = let z : v ≡ named_number = cc in absurd (omega (arith, a.0, z))
      by (refuses v w) f (inr a) q rest [] o m = let z : s ≡ h = cc in absurd (a.1 u (rw (append-nil, ← z) at m))
      by (refuses v w) f (inr a) q rest (b ∷ bs) o m =
          let z : v ≡ named_number = cc in
          let y : w ≡ t = cc in
          let c : ss ≡ bs ++ h ∷ cs = cc in
          omega (arith, stmt_stop ts n k t x (rw (z, y) at f), named_on ts p h bs cs c (too_named ts (us ++ b ∷ bs) h u m))

pub named_earlier : NamedEarlier
named_earlier ts ss next x t u e c f =
    run_earlier ts t u ((grammar_met ts ss next).0 x e) [] 1 (known [] [] 0) [] [] [] (none_known ts) ((named_refused ts ss t).1 c) f.before f.here
    f.after f.order f.too_many

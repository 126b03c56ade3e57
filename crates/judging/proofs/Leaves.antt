-- Expressions that hold no other.
use mathlib.Core.Path.{◌≡◌, ap, ◌∙◌}
use mathlib.Core.List.{List, [], ◌∷◌}
use Prim.Native.Nat.{ℕ, ◌+◌, ◌≤◌, ◌<◌}
use native.Mathlib.Omega.{arith}
use lib.ListN.{length}
use Rattle.language.specs.Tables as tables
use Rattle.language.specs.Tokens as tokens
use Rattle.language.specs.Tokens.{contents}
use Rattle.language.specs.Sentences.{Expr, literal, sock4, local, path, member, call, slash'}
use Rattle.language.specs.Values.{is_sock4}
use Rattle.language.specs.Terms as terms
use Rattle.language.specs.Terms.{atom, constant}
use Rattle.language.specs.Judgements as judgements
use Rattle.language.specs.Judgements.{Judged, val, judgement, Known, literal_at, judge}
use Rattle.language.specs.Findings.{parts}
use Rattle.language.specs.Numbers.{token_of}
use Rattle.language.proofs.TokensAt.{content_of_lem}
use Rattle.language.proofs.RowsFew.{judge_rows, path_rows}
use Rattle.rows.specs.Rows.{node_word}
use Rattle.rows.specs.declared.token.Token.{Token}
use Rattle.rows.specs.Tokens.{token_as}
use Rattle.findings.specs.declared.Counts.{Counts}
use Rattle.findings.specs.Findings.{plus_search}
use Rattle.findings.proofs.Adds.{adds_none, adds_look}
use Rattle.values.specs.declared.Term.{Term}
use Rattle.std.specs.Prelude.{Ok}
use Rattle.values.specs.Values.{Judgement}
use Rattle.values.specs.Values.{constant_as, sock4_as, judged_as}
use Rattle.holding.specs.Holding.{Judges}
use Rattle.judging.specs.Judging.{Knows, Ready, LocalIs, PathIs, RepAt, is_literal_lem, is_sock4_lem, is_local, is_path, is_member, is_slash, is_call}
use Rattle.judging.proofs.Trees.{row_of, kinds, a_literal, a_sock4, a_local, a_path}

module _ {s : List ℕ} where
  -- no warning
  give : {r : Judgement} {x : List ℕ} {c : Counts} (o : Judged terms.Term) → r.out ≡ judged_as s o → r.counts ≡ c → Judges s r x x c (judgement o [])
  give {x = x} {c = c} o q e = record { out = q; adds = rw e (adds_none s c x) }

  -- no warning, and one search
  look : {r : Judgement} {x : List ℕ} {c : Counts} (o : Judged terms.Term) (l : ℕ) → r.out ≡ judged_as s o → r.counts ≡ plus_search c l
      → Judges s r x x c (record { out = o; warns = []; looks = l ∷ [] })
  look o l q e = record { out = q; adds = adds_look s l e }

-- the other kinds
abbrev Inner : Expr → Type 0
Inner (literal t) = ⊥
Inner (sock4 t) = ⊥
Inner (local t) = ⊥
Inner (path t m) = ⊥
Inner (member e t) = Unit {0}
Inner (slash' a b) = Unit {0}
Inner (call e t g) = Unit {0}

no_leaf : {ws : List ℕ} {i : ℕ} {e : Expr} → RepAt ws i e → node_word ws i 0 < 6 → Inner e → ⊥
no_leaf (is_literal_lem f k) l h = h
no_leaf (is_sock4_lem f k) l h = h
no_leaf (is_local f k) l h = h
no_leaf (is_path f k b) l h = h
no_leaf (is_member f k z m r) l h = omega arith
no_leaf (is_slash f k z m o u v) l h = omega arith
no_leaf (is_call f k z m r a) l h = omega arith

module _ (s : List ℕ) {ws : List ℕ} {i : ℕ} {e : Expr} (n : ℕ) (k : Known) (rep : RepAt ws i e) {t : ℕ} (at : t ≡ node_word ws i 1) {r : Judgement} {c : Counts} {x : List ℕ} where
  pub leaf_literal : node_word ws i 0 ≡ 2 → {v : Term} → v ≡ constant_as t (literal_at (contents (tokens.tokens s)) t) → r.out ≡ Ok v → r.counts ≡ c
      → Judges s r x x c (judge (contents (tokens.tokens s)) n k e)
  unfolding judge
  leaf_literal q h o m = elim (row_of rep q) [ a_literal w ↦ rw (w, ← at) (give (val (atom t (constant (literal_at (contents (tokens.tokens s)) t)))) (o ∙ ap Ok h) m) ]

  pub leaf_sock4 : node_word ws i 0 ≡ 3 → {v : Term} → v ≡ sock4_as t (token_of s t) (token_of s (t + 2)) → r.out ≡ Ok v → r.counts ≡ c
      → Judges s r x x c (judge (contents (tokens.tokens s)) n k e)
  unfolding judge
  leaf_sock4 q h o m =
      elim (row_of rep q) [ a_sock4 w ↦ rw (w, ← at) (give (val (atom t (constant (is_sock4 (tables.content_low (judgements.content (contents (tokens.tokens s)) t)) (tables.content_low (judgements.content (contents (tokens.tokens s)) (t + 2))))))) (o ∙ ap Ok (h ∙ rw (content_of_lem s t, content_of_lem s (t + 2)))) m) ]

  module _ {bindings imports : List ℕ} (kn : Knows s bindings imports c k) (ready : Ready s bindings imports c) where
    pub leaf_local : {tok : Token} → node_word ws i 0 ≡ 4 → tok ≡ token_as (token_of s t) → LocalIs s bindings c tok t r
        → Judges s r x x c (judge (contents (tokens.tokens s)) n k e)
    unfolding judge
    leaf_local q g h = elim (row_of rep q) [ a_local w ↦ rw (w, ← at, kn.is) (look _ _ (h.is g ready.sound) (h.counted g)) ]

    pub leaf_path : (node_word ws i 0 ≡ 2 → ⊥) → (node_word ws i 0 ≡ 3 → ⊥) → (node_word ws i 0 ≡ 4 → ⊥) → node_word ws i 0 < 6 → {names : ℕ}
        → names ≡ node_word ws i 2 → PathIs s imports c t names r → Judges s r x x c (judge (contents (tokens.tokens s)) n k e)
    unfolding judge
    leaf_path o p q l m h =
        elim (row_of {k = 5} rep (omega (arith, kinds rep))) [ a_path w b ↦ rw (w, ← at, ← m, kn.is) (give _ h.is h.counted) ]

-- a leaf that comes to a value has no parts
pub leaf_parts : (s : List ℕ) (n : ℕ) (k : Known) {ws : List ℕ} {i : ℕ} {e : Expr} → RepAt ws i e → node_word ws i 0 < 6 → (v : terms.Term)
    → (judge (contents (tokens.tokens s)) n k e).out ≡ val v → length (parts v) ≤ 0
leaf_parts s n k {e = literal t} r l v q = omega (arith, judge_rows (contents (tokens.tokens s)) n k (literal t) q)
leaf_parts s n k {e = sock4 t} r l v q = omega (arith, judge_rows (contents (tokens.tokens s)) n k (sock4 t) q)
leaf_parts s n k {e = local t} r l v q = omega (arith, judge_rows (contents (tokens.tokens s)) n k (local t) q)
leaf_parts s n k {e = path t m} r l v q = path_rows (contents (tokens.tokens s)) n k t m q
leaf_parts s n k {e = member e t} r l v q = absurd (no_leaf r l tt)
leaf_parts s n k {e = slash' a b} r l v q = absurd (no_leaf r l tt)
leaf_parts s n k {e = call e t g} r l v q = absurd (no_leaf r l tt)

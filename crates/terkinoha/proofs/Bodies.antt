-- The loop that looks for the next body, and the one that walks on to the body with a number.
use Prim.Native.Nat.{ℕ, ◌+◌, ◌-◌, ◌≤◌, ◌<◌}
use mathlib.Core.Path.{◌≡◌, refl, sym, ap, ◌∙◌}
use mathlib.Core.List.{List, [], ◌∷◌, ◌++◌}
use native.Mathlib.Omega.{arith}
use lib.ListN.{length, take, drop, length-take}
use lib.Seq.{drop-nil, drop-drop}
use Rattle.language.specs.Lexemes.{Kind, trivia, str, tok, error, lexeme}
use Rattle.lexemes.specs.declared.Lexeme.{Lexeme}
use Rattle.lexemes.specs.declared.LexemeKind.TheVariants as kind_is
use Rattle.std.specs.Prelude.{Some, None}
use Rattle.lexemes.specs.Kinds.{kind_as}
use Rattle.scan.specs.Scanning.{step_at}
use Rattle.scan.proofs.Turns.{Steps, turn, at_end}
use Rattle.lex.proofs.Bodies.{is_literal_lem}
use Rattle.terkinoha.specs.declared.Body.{Body}
use Rattle.language.proofs.Determined.{determined}
use Rattle.terkinoha.specs.Bodies.{Span, span_of, spans_from, body_spans, none, first, FirstOf, BodiesDetermined}
use Rattle.terkinoha.proofs.Spans.{within, beyond, walk_goes_on}

-- ---- the loop

-- what is no literal has no body
no_span : (k : Kind) (from to : ℕ) → (kind_as k ≡ kind_is.Str → ⊥) → span_of k from to ≡ []
no_span trivia from to o = refl
no_span (tok t) from to o = refl
no_span (error x) from to o = refl
no_span str from to o = absurd (o refl)

-- no literal stands between `at` and `pos`
pub record Walking (text : List ℕ) (at pos : ℕ) : Type 0 where
  same : spans_from text at ≡ spans_from text pos
  past : at ≤ pos

pub start : (text : List ℕ) (at pos : ℕ) → pos ≡ at → Walking text at pos
start text at pos e = record { same = rw e; past = omega arith }

module _ (text : List ℕ) (at pos : ℕ) (k : Walking text at pos) where
  pub none_left : None ≡ step_at text pos → FirstOf text at None
  unfolding spans_from
  none_left e = record { is = k.same ∙ rw (at_end text pos e) }

  module _ (l : Lexeme) (next : ℕ) (e : Steps text pos l next) where
    -- the lexeme here, and those after it
    from_here : spans_from text pos ≡ span_of (lexeme (drop pos text)).kind pos next ++ spans_from text next
    unfolding spans_from
    from_here = let p = turn text pos l next e in rw (p.rest, ← p.past)

    pub passed : (l.kind ≡ kind_is.Str → ⊥) → Walking text at next
    passed h =
        let p = turn text pos l next e in
        let n = no_span (lexeme (drop pos text)).kind pos next (rw p.kind at h) in
        record { same = k.same ∙ from_here ∙ rw n; past = omega (arith, k.past, p.forth) }

    pub is_it : l.kind ≡ kind_is.Str → FirstOf text at (Some l)
    is_it h =
        let p = turn text pos l next e in
        let literal = is_literal_lem (lexeme (drop pos text)).kind (sym h ∙ p.kind) in
        record {
          is = (
            omega (arith, k.past, p.begins),
            omega (arith, p.begins, p.ends, p.forth),
            omega (arith, p.ends, p.within),
            k.same ∙ from_here ∙ rw (literal, p.begins, p.ends),
          );
        }

-- ---- the next body

-- a body made of its default words is none
pub blank : {found start end next : ℕ} → (found ≡ 0) × ((start ≡ 0) × ((end ≡ 0) × (next ≡ 0))) → {x : Body} → none ≡ x
    → ◌≡◌ {A = Body} (record { found = found; start = start; end = end; next = next }) x
blank e h = rw (e.0, e.1.0, e.1.1.0, e.1.1.1) h

module _ (s : List ℕ) (at e : ℕ) where
  pub too_short : length s < e → none ≡ first (body_spans s at e)
  too_short h = rw (beyond s at e h)

  pub nowhere : FirstOf (take e s) at None → e ≤ length s → none ≡ first (body_spans s at e)
  nowhere g h = rw (within s at e h, g.is)

  module _ (l : Lexeme) (met : FirstOf (take e s) at (Some l)) where
    pub bounds : (l.start < l.end) × (l.end ≤ length s)
    bounds = (met.is.1, omega (arith, met.is.2, length-take e s))

    pub there : e ≤ length s → record { found = 1; start = l.start + 1; end = l.end - 1; next = l.end } ≡ first (body_spans s at e)
    there h = let n : l.end - 1 + 1 ≡ l.end = omega (arith, met.is.1) in rw (within s at e h, met.is.3, n)

-- ---- the body numbered i

-- `body` is the first of the bodies from some place on, and the one numbered `left` of them is the one numbered i
pub record Seeking (s : List ℕ) (start e i left : ℕ) (body : Body) : Type 0 where
  from : ℕ
  is : body ≡ first (body_spans s from e)
  same : drop left (body_spans s from e) ≡ drop i (body_spans s start e)

none_first : (xs : List Span) (n : ℕ) → (first xs).found ≡ 0 → first xs ≡ first (drop n xs)
none_first [] n z = rw drop-nil
none_first (x ∷ xs) n z = absurd (omega arith)

others : (s : List ℕ) (from e : ℕ) (xs : List Span) → ((first xs).found ≡ 0 → ⊥) → body_spans s from e ≡ xs
    → body_spans s (first xs).next e ≡ drop 1 xs
others s from e [] f q = absurd (f refl)
others s from e (x ∷ xs) f q = walk_goes_on s from e x xs q

pub begin : {s : List ℕ} {start e i left : ℕ} {body : Body} → left ≡ i → body ≡ first (body_spans s start e) → Seeking s start e i left body
begin {start} z w = record { from = start; is = w; same = rw z }

module _ {s : List ℕ} {start e i left : ℕ} {body : Body} (k : Seeking s start e i left body) where
  -- there are no more
  pub none_there : body.found ≡ 0 → body ≡ first (drop i (body_spans s start e))
  none_there z = k.is ∙ none_first (body_spans s k.from e) left (rw k.is at z) ∙ ap first k.same

  -- it is the one
  pub this_one : left ≡ 0 → body ≡ first (drop i (body_spans s start e))
  this_one z = k.is ∙ ap first (rw z at k.same)

  -- it is one of those after it
  pub another : {next : Body} {fewer : ℕ} → (body.found ≡ 0 → ⊥) → left ≡ fewer + 1 → next ≡ first (body_spans s body.next e) → Seeking s start e i fewer next
  another {next} {fewer} f z w =
      let o = others s k.from e (body_spans s k.from e) (rw k.is at f) refl in
      let n : 1 + fewer ≡ left = omega arith in
      record { from = body.next; is = w; same = rw (k.is, o, drop-drop, n) k.same }

pub bodies_determined : BodiesDetermined
bodies_determined = (λ _ _ _. determined (λ _ h. h), λ _ _ _ _. determined (λ _ h. h))

-- Where bodies lie: the spans of a text, lexeme by lexeme, and the proofs of the claims of specs/Bodies.antt.
use Prim.Native.Nat.{ℕ, zero, suc, ◌+◌, ◌-◌, ◌≤◌, ◌<◌}
use mathlib.Core.Path.{◌≡◌, refl, sym, ap, ◌∙◌}
use mathlib.Core.List.Memᴰ
use mathlib.Core.List.{List, [], ◌∷◌, ◌++◌, map, map-append}
use mathlib.Core.Logic.{◌⊎◌, inl, inr}
use mathlib.Core.Option.{none}
use native.Mathlib.Decide.{dec_lt, dec_le}
use native.Mathlib.Omega.{arith}
use borrow.Author.Tests.{lt-ltb, le-leb, lt-leb}
use lib.ListN.{length, take, drop, length-drop, take-append-drop, drop_of_length-le}
use lib.Seq.{length-take-le, take-take, take-add, take-append-le, drop-drop, drop-append-add, drop-append-le}
use Rattle.language.specs.Lexemes.{Kind, trivia, str, tok, error, scan_from, lexeme}
use Rattle.language.specs.Tokens.{Token, eof, string, items, tokens_from, tokens, unquoted, between, body_of, bodies_of}
use Rattle.language.proofs.Tests.{never}
use Rattle.language.proofs.Parts.{part_size}
use Rattle.language.proofs.LexemeSpans.{scan_unfolds}
use Rattle.language.proofs.TokenClaims.{places_right, bodies_held}
use Rattle.lexemes.specs.Kinds.{lexeme_as}
use Rattle.scan.specs.Scanning.{step_at}
use Rattle.scan.proofs.Turns.{Turn, turn}
use Rattle.terkinoha.specs.Bodies.{Span, span_of, spans_from, body_spans, WalkGoesOn, BodiesLie}

-- ---- one lexeme after the other

module _ (text : List ℕ) (at : ℕ) where
  abbrev kind_at : Kind
  kind_at = (lexeme (drop at text)).kind

  abbrev after : ℕ
  after = at + (lexeme (drop at text)).size

  -- the lexeme at a place: the scanner's step there
  here : at < length text → Turn text at (lexeme_as at (lexeme (drop at text))) after
  unfolding step_at
  here h = turn text at (lexeme_as at (lexeme (drop at text))) after (rw (lt-ltb at (length text) h), refl)

  pub spans_end : length text ≤ at → spans_from text at ≡ []
  unfolding spans_from
  spans_end h = rw (drop_of_length-le text {i = at} h, (scan_unfolds at).0)

  -- of a rest r: the lexeme that it starts with, and those after it
  pub spans_here : at < length text → (r : List ℕ) → r ≡ drop at text
      → spans_from text at ≡ span_of (lexeme r).kind at (at + (lexeme r).size) ++ spans_from text (at + (lexeme r).size)
  unfolding spans_from
  spans_here h r e = rw (e, (here h).rest)

-- ---- the walk

-- a lexeme is passed over, or its body comes first
met : (k : Kind) (from to : ℕ) (xs : List Span)
    → (span_of k from to ++ xs ≡ xs) ⊎ (span_of k from to ++ xs ≡ record { start = from + 1; end = to - 1 } ∷ xs)
met trivia from to xs = inl refl
met (tok t) from to xs = inl refl
met (error e) from to xs = inl refl
met str from to xs = inr refl

-- after the first body, past its closing quote, come the others
goes_on_lem : (fuel : ℕ) (text : List ℕ) (at : ℕ) (x : Span) (xs : List Span) → length text - at < fuel → spans_from text at ≡ x ∷ xs
    → spans_from text (x.end + 1) ≡ xs
goes_on_lem zero text at x xs l e = absurd (omega arith)
goes_on_lem (suc fuel) text at x xs l e =
    elim (dec_lt at (length text)) [
      | no h ↦ let w : [] ≡ x ∷ xs = sym (spans_end text at (omega arith)) ∙ e in never (cc)
      | yes h ↦
          let more = spans_from text (after text at) in
          let w : span_of (kind_at text at) at (after text at) ++ more ≡ x ∷ xs = sym (spans_here text at h (drop at text) refl) ∙ e in
          elim (met (kind_at text at) at (after text at) more) [
            | inl q ↦ goes_on_lem fuel text (after text at) x xs (omega (arith, (here text at h).forth)) (sym q ∙ w)
            | inr q ↦
                let y : Span = record { start = at + 1; end = after text at - 1 } in
                let v : y ∷ more ≡ x ∷ xs = sym q ∙ w in
                let i : y ≡ x = cc in
                let n : x.end + 1 ≡ after text at = omega (arith, ap (λ (z : Span). z.end) i, (here text at h).forth) in
                rw n (cc)
          ]
    ]

module _ (s : List ℕ) (at e : ℕ) where
  pub within : e ≤ length s → body_spans s at e ≡ spans_from (take e s) at
  unfolding body_spans
  within h = rw (le-leb e (length s) h)

  pub beyond : length s < e → body_spans s at e ≡ []
  unfolding body_spans
  beyond h = rw (lt-leb e (length s) h)

pub walk_goes_on : WalkGoesOn
walk_goes_on s at e x xs w =
    elim (dec_le e (length s)) [
      | no h ↦ let z : [] ≡ x ∷ xs = sym (beyond s at e (omega arith)) ∙ w in never (cc)
      | yes h ↦ within s (x.end + 1) e h ∙ goes_on_lem (suc (length (take e s))) (take e s) at x xs (omega arith) (sym (within s at e h) ∙ w)
    ]

-- ---- what lies there

-- of a literal: its bytes without the quotes
inside : (n : ℕ) (r : List ℕ) → n ≤ length r → unquoted (take n r) ≡ take (n - 2) (drop 1 r)
inside zero r h = refl
inside (suc n) [] h = absurd (omega arith)
inside (suc n) (b ∷ r) h =
    let l : length (take n r) ≡ n = length-take-le n r (omega arith) in
    rw l (take-take (suc n - 2) n r (omega arith))

module _ (s : List ℕ) (a e : ℕ) (h : a ≤ e) (k : e ≤ length s) where
  abbrev text : List ℕ
  text = take e s

  abbrev part : List ℕ
  part = between s a e

  abbrev lying : Span → List ℕ
  lying x = between s x.start x.end

  part_long : length part ≡ e - a
  part_long = part_size s a e k

  text_long : length text ≡ e
  text_long = length-take-le e s k

  -- the rest of the part is the rest of the text
  same_rest : (i : ℕ) → drop i part ≡ drop (a + i) text
  same_rest i =
      let n : a + (e - a) ≡ e = omega arith in
      let w : take a s ++ part ≡ text = sym (take-add a (e - a) s) ∙ rw n in
      let l : length (take a s) ≡ a = length-take-le a s (omega arith) in
      rw (l, w) at (sym (drop-append-add (take a s) part i))

  -- bytes of the part are bytes of the source
  same_bytes : (i n : ℕ) → i + n ≤ length part → take n (drop i part) ≡ take n (drop (a + i) s)
  same_bytes i n l =
      let rest = drop (e - a) (drop a s) in
      let w : drop i part ++ rest ≡ drop (a + i) s =
      sym (drop-append-le i part rest (omega arith)) ∙ ap (drop i) (take-append-drop (e - a) (drop a s)) ∙ drop-drop i a s in
      sym (rw (← w) (take-append-le n (drop i part) rest (omega (arith, length-drop i part))))

  -- a literal's body
  one_lies : (x : Kind) (i n : ℕ) → i + n ≤ length part → map lying (span_of x (a + i) (a + i + n)) ≡ body_of x (between part i (i + n))
  one_lies trivia i n l = refl
  one_lies (tok t) i n l = refl
  one_lies (error z) i n l = refl
  one_lies str i n l =
      let r = drop (a + i) s in
      let m : i + n - i ≡ n = omega arith in
      let long : n ≤ length r = omega (arith, part_long, length-drop (a + i) s) in
      let w : a + i + n - 1 - (a + i + 1) ≡ n - 2 = omega arith in
      let body : unquoted (between part i (i + n)) ≡ take (n - 2) (drop 1 r) = rw (m, same_bytes i n l) (inside n r long) in
      rw (body, w, ← drop-drop 1 (a + i) s)

  all_lie : (fuel i : ℕ) → length part - i < fuel → map lying (spans_from text (a + i)) ≡ bodies_of part (scan_from 0 i (drop i part))
  all_lie zero i l = absurd (omega arith)
  all_lie (suc fuel) i l =
      elim (dec_lt i (length part)) [
        | no z ↦
            rw (spans_end text (a + i) (omega (arith, part_long, text_long)), drop_of_length-le part {i = i} (omega arith), (scan_unfolds i).0)
        | yes z ↦
            let p = here part i z in
            let n = (lexeme (drop i part)).size in
            let to : a + i + n ≡ a + (i + n) = omega arith in
            let first = spans_here text (a + i) (omega (arith, part_long, text_long)) (drop i part) (same_rest i) in
            rw (first, p.rest, map-append, one_lies (kind_at part i) i n p.within, to)
            (ap (λ (bs : List (List ℕ)). body_of (kind_at part i) (between part i (i + n)) ++ bs)
            (all_lie fuel (i + n) (omega (arith, p.forth))))
      ]

pub bodies_lie : BodiesLie
unfolding tokens
bodies_lie s t b bs m c =
    elim (Memᴰ.append_cases (tokens_from none (items s)) m) [
      | inr n ↦ let z : string b bs ≡ eof = sym c ∙ ap (λ (u : Token). u.content) (Memᴰ.eq_of_singleton n) in never (cc)
      | inl n ↦
          let p = places_right s t n in
          let zero_in : t.start + 0 ≡ t.start = omega arith in
          let whole = all_lie s t.start t.end (omega (arith, p.2)) p.3 (suc (length (between s t.start t.end))) 0 (omega arith) in
          rw (within s t.start t.end p.3) ((rw zero_in at whole) ∙ bodies_held s t b bs m c)
    ]

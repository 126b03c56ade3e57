-- Rooms that are always enough: the proofs of the claims of specs/Rooms.antt.
use Prim.Native.Nat.{ℕ, suc, ◌+◌, ◌/◌, ◌≤◌, ◌<◌}
use mathlib.Core.Path.{◌≡◌, refl, sym, ap}
use mathlib.Core.Bool.{false, ◌||◌, false≢true}
use mathlib.Core.List.{List}
use mathlib.Core.Logic.{inl, inr}
use mathlib.Core.Option.{Option, none, some}
use native.Mathlib.Omega.{arith}
use borrow.Author.Tests.{ltb-true, le-ltb}
use lib.Dec.{ltb, eqb}
use lib.ListN.{length, length-map}
use Rattle.language.specs.Canonical.{text}
use Rattle.language.specs.Tables.{lexeme_width, token_width}
use Rattle.language.specs.Findings.{rows_of, stmt_width}
use Rattle.language.specs.Utf8.{first_bad}
use Rattle.language.specs.Lexemes.{scan}
use Rattle.language.specs.Tokens.{most_bytes, Content, Token, items, first_wrong, Wrong, tokens, contents, place_of}
use Rattle.language.specs.Sentences as sentences
use Rattle.language.specs.Sentences.{Out, Stmt, ok, program, nodes, node_width}
use Rattle.language.specs.Judgements.{Outcome, judged, refused, errors_in, judge_all}
use Rattle.language.specs.Numbers.{Scanned, Lexed, Parsed, Canonised, Checked, verdict, scanned, counted, lexed, lexical, placed, lexed_within, parsed_as, checked, judged_within, scan_answer, lex_answer, parse_answer, canon_answer, check_answer}
use Rattle.language.proofs.JudgementClaims.{all_counted}
use Rattle.language.proofs.Tests.{by_cases}
use Rattle.language.proofs.LexemeSpans.{spans_join}
use Rattle.language.proofs.Done.{lex_done, lex_done_only}
use Rattle.parse.proofs.TokenRows.{few_tokens}
use Rattle.terkinoha.specs.Rooms.{ScanRoom, LexRoom, ParseRoom, CanonRoom, CheckRoom, ScanEnough, LexEnough, ParseEnough, CanonEnough, CheckEnough}
use Rattle.language.proofs.Names.{refused_for}
use Rattle.parse.proofs.Few.{nodes_few}
use Rattle.language.proofs.SentenceRefusals.{refused_number}
use Rattle.terkinoha.proofs.Found.{found_few}

-- ---- scan and lex

pub scan_room : ScanRoom
unfolding scan_answer
scan_room line room h =
    by_cases P (ltb most_bytes (length line)) (λ _ e. absurd (omega arith)) (λ _. go (first_bad line))
  where
    P : Scanned → Type 0
    P a = a.verdict.number ≡ 4 → ⊥

    go : (o : Option ℕ) → P (elim o [ some at ↦ scanned (verdict 2 1 (suc at)) 0 | none ↦ counted room (length (scan line)) ])
    go (some at) = λ e. absurd (omega arith)
    go none =
        by_cases P (ltb room (length (scan line))) (λ t _. absurd (omega (arith, ltb-true room (length (scan line)) t, (spans_join line).1))) (λ _ e. absurd (omega arith))

pub lex_room : LexRoom
unfolding lex_answer
lex_room s room h =
    by_cases P (ltb most_bytes (length s)) (λ _ e. absurd (omega arith)) (λ _. go (first_bad s) (first_wrong (items s)))
  where
    P : Lexed → Type 0
    P a = a.verdict.number ≡ 4 → ⊥

    go : (o : Option ℕ) (f : Option Wrong)
        → P (elim o [
          | some at ↦ lexed (placed 2 (place_of s at)) 0
          | none ↦ elim f [ some w ↦ lexed (lexical w) 0 | none ↦ lexed_within room (length (tokens s)) ]
        ])
    go (some at) f = λ e. absurd (omega arith)
    go none (some w) = λ e. absurd (omega arith)
    go none none =
        by_cases P (ltb room (length (tokens s))) (λ t _. absurd (omega (arith, ltb-true room (length (tokens s)) t, few_tokens s))) (λ _ e. absurd (omega arith))

-- ---- where lexing came to a count

module _ (s : List ℕ) (room : ℕ) (z : (lex_answer s room).verdict.number ≡ 0) where
  counted_is : (lex_answer s room).count ≡ length (tokens s)
  counted_is = ap (λ (a : Lexed). a.count) (lex_done s room (lex_done_only s room z))

  -- it comes to it in every room that is enough
  in_another : (t : ℕ) → (lex_answer s room).count ≤ t → lex_answer s t ≡ lexed (verdict 0 0 0) (length (tokens s))
  in_another t h =
      lex_done s t (record { lexes = (lex_done_only s room z).lexes; fit = omega (arith, h, counted_is) })

  -- as many nodes as tokens, at most
  no_more : (ss : List Stmt) (at x : ℕ) → program (contents (tokens s)) ≡ ok ss at x → length (nodes ss) ≤ (lex_answer s room).count
  no_more ss at x e = omega (arith, counted_is, nodes_few (contents (tokens s)) ss at x e, length-map (tokens s) (λ (t : Token). t.content))

  -- parsing goes by the grammar alone
  parsed_in : (t n : ℕ) → (lex_answer s room).count ≤ t → parse_answer s t n ≡ parsed_as s n (length (tokens s)) (program (contents (tokens s)))
  unfolding parse_answer
  parsed_in t n h = rw (in_another t h)

  -- a program is parsed in every room that is enough
  parsed_too : (t n : ℕ) → (lex_answer s room).count ≤ t → (lex_answer s room).count ≤ n → {ss : List Stmt} {at x : ℕ}
      → program (contents (tokens s)) ≡ ok ss at x → (parse_answer s t n).verdict.number ≡ 0
  parsed_too t n h l {ss} {at} {x} e =
      rw (parsed_in t n h, e, le-ltb n (length (nodes ss)) (omega (arith, no_more ss at x e)))

pub parse_room : ParseRoom
parse_room s room t n z h l = rw (parsed_in s room z t n h) (go (program (contents (tokens s))) refl)
  where
    P : Parsed → Type 0
    P a = (a.verdict.number ≡ 4 → ⊥) × (a.verdict.number ≡ 6 → ⊥)

    go : (o : Out (List Stmt)) → program (contents (tokens s)) ≡ o → P (parsed_as s n (length (tokens s)) o)
    go (ok ss at x) e = rw (le-ltb n (length (nodes ss)) (omega (arith, no_more s room z ss at x e))) (λ q. absurd (omega arith), λ q. absurd (omega arith))
    go (sentences.no m k at) e =
        elim (refused_number (contents (tokens s)) m k at e) [
          | inl q ↦ (λ r. absurd (omega arith), λ r. absurd (omega arith))
          | inr q ↦ (λ r. absurd (omega arith), λ r. absurd (omega arith))
        ]

pub canon_room : CanonRoom
unfolding canon_answer
canon_room s room t n z h l =
    let P : Canonised → Type 0 = λ a. (a.verdict.number ≡ 4 → ⊥) × (a.verdict.number ≡ 10 → most_bytes < length (text s)) in
    rw (in_another s room z t h, canon_answer)
    (by_cases P (ltb n (length (text s))) (λ e. (λ r. absurd (omega arith), λ r. omega (arith, ltb-true n (length (text s)) e)))
    (λ _. by_cases P (ltb most_bytes (length (text s))) (λ e. (λ r. absurd (omega arith), λ r. ltb-true _ _ e))
    (λ _. (λ r. absurd (omega arith), λ r. absurd (omega arith)))))

-- a number that is none of those for room
other : (m : ℕ) → eqb m 4 || eqb m 6 || eqb m 11 ≡ false → (m ≡ 4 → ⊥) × (m ≡ 6 → ⊥) × (m ≡ 11 → ⊥)
other m e = (λ q. absurd (false≢true (sym (rw q at e))), λ q. absurd (false≢true (sym (rw q at e))), λ q. absurd (false≢true (sym (rw q at e))))

pub check_room : CheckRoom
unfolding check_answer checked
check_room s room t n k z h l i = go (program cs) refl
  where
    cs : List Content
    cs = contents (tokens s)

    P : Checked → Type 0
    P a =
        ((a.verdict.number ≡ 4 → ⊥) × (a.verdict.number ≡ 6 → ⊥) × (a.verdict.number ≡ 11 → ⊥))
        × (a.errors + a.warnings ≤ (lex_answer s room).count)

    judged_in : (ss : List Stmt) (a b : ℕ) → length (nodes ss) ≤ (lex_answer s room).count → (o : Outcome) → judge_all cs ss ≡ o → P (judged_within s k a b o)
    judged_in ss a b m (refused v at) e = (elim (refused_for cs ss v at e) [ inl q ↦ rw q (other 8 refl) | inr q ↦ rw q (other 9 refl) ], omega arith)
    judged_in ss a b m (judged ds hs ls) e =
        let w = found_few cs ss e in
        let c = all_counted ds in
        by_cases P (eqb (errors_in ds) 0)
        (λ _. by_cases P (ltb k (length (rows_of hs))) (λ f. absurd (omega (arith, ltb-true k (length (rows_of hs)) f, w.1))) (λ _. (other 0 refl, omega (arith, w.0, c))))
        (λ _. (other 0 refl, omega (arith, w.0, c)))

    go : (o : Out (List Stmt)) → program cs ≡ o → P (check_answer s t n k)
    go (ok ss at x) e =
        let p = parse_answer s t n in
        rw (parsed_too s room z t n h l e) (judged_in ss p.tokens p.nodes (no_more s room z ss at x e) (checked s) (rw e))
    go (sentences.no m j at) e =
        elim (refused_number cs m j at e) [
          | inl q ↦ rw (parsed_in s room z t n h, e, q) (other 5 refl, omega arith)
          | inr q ↦ rw (parsed_in s room z t n h, e, q) (other 7 refl, omega arith)
        ]

-- ---- calls

pub scan_enough : ScanEnough
scan_enough line n r left c = rw c.answer (scan_room line (n / lexeme_width))

pub lex_enough : LexEnough
lex_enough s n r left c = rw c.answer (lex_room s (n / token_width))

pub parse_enough : ParseEnough
parse_enough s n q left l z t m r toks tree c =
    rw (l.answer, c.answer) (parse_room s (n / token_width) (t / token_width) (m / node_width) (rw l.answer at z))

pub canon_enough : CanonEnough
canon_enough s n q left l z t m r toks written c =
    rw (l.answer, c.answer) (canon_room s (n / token_width) (t / token_width) m (rw l.answer at z))

pub check_enough : CheckEnough
check_enough s n q left l z t m d k r toks tree found held c =
    rw (l.answer, c.answer)
    (check_room s (n / token_width) (t / token_width) (m / node_width) (k / stmt_width) (rw l.answer at z))

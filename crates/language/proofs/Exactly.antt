-- Each call's answer goes by the rows of 01's table.
use Prim.Native.Nat.{ℕ, suc, ◌<◌}
use mathlib.Core.Path.{◌≡◌, refl}
use mathlib.Core.List.{List, ◌++◌, Memᴰ}
use mathlib.Core.Option.{some}
use mathlib.Core.Logic.{◌↔◌, ◌⊎◌, inl, inr}
use native.Mathlib.Omega.{arith}
use lib.Dec.{ltb, eqb}
use lib.ListN.{length}
use Rattle.language.specs.Utf8.{first_bad}
use Rattle.language.specs.Lexemes.{scan}
use Rattle.language.specs.Tokens.{most_bytes, Wrong, items, first_wrong, tokens, contents, place_of}
use Rattle.language.specs.Canonical.{text}
use Rattle.language.specs.Sentences.{Out, ok, no, Stmt, nodes}
use Rattle.language.specs.Judgements.{Outcome, judged, refused, named_number, names_number, errors_in}
use Rattle.language.specs.Findings.{rows_of}
use Rattle.language.specs.Numbers.{Verdict, verdict, placed, lexical, token_place, Scanned, scanned, scan_answer, Lexed, lexed, lex_answer, Parsed, parsed_as, parse_answer, Canonised, canon_answer, Checked, statements_of, checked, judged_within, check_answer}
use Rattle.language.specs.Names.{FirstTooMany}
use Rattle.language.specs.Named.{NamedCall}
use Rattle.language.specs.Exactly.{TooLong, NotUtf8, WrongLexeme, TokensExceed, Unexpected, OneMore, NodesExceed, bare, done, wrong_told, lexing, sentences, judging, parse, Reason, unexpected_token, int_out_of_range, one_too_many, scan_rows, lex_rows, parse_rows, canon_rows, check_rows, ScanExactly, LexExactly, ParseExactly, CanonExactly, CheckExactly}
use Rattle.language.proofs.Tests.{never}
use Rattle.language.proofs.SentenceRefusals.{stops_for}
use Rattle.language.proofs.Bounds.{earlier_decides, as_alone}
use Rattle.language.proofs.Counted.{counted}
use Rattle.language.proofs.Names.{names_refused, refused_for}
use Rattle.language.proofs.NamedCalls.{named_refused}
use Rattle.language.proofs.ItemPlaces.{items_placed}
use Rattle.language.proofs.ExactlyFound.{wrong_is_first}
use Rattle.language.proofs.ExactlyRows.{absent, Met, here, later, row_of, exactly, less, equal, tested, one_tested, both_tested, finds, after}

all_done : Met (verdict 0 0 0) done
all_done = here (bare 0 Unit) tt refl refl

-- ---- scan

scan_met : (line : List ℕ) (room : ℕ) → Met (scan_answer line room).verdict (scan_rows line room)
unfolding scan_answer
scan_met line room =
    let v : Scanned → Verdict = λ a. a.verdict in
    tested v 1 (ltb most_bytes (length line)) (less most_bytes (length line)) refl
    (finds v (first_bad line) (λ at. scanned (verdict 2 1 (suc at)) 0)
    (λ at e. here (row_of 2 (scan_rows line room)) (record { byte = at; found = e }) refl refl)
    (λ e. later (λ h. absent e h.found) (tested v 4 (ltb room (length (scan line))) (less room (length (scan line))) refl all_done)))

pub scan_exactly : ScanExactly
scan_exactly line room = exactly (scan_answer line room).verdict (scan_rows line room) refl (scan_met line room)

-- ---- lex

-- the first wrong lexeme stands at the place of its first byte
wrong_placed : (s : List ℕ) (w : Wrong) → first_wrong (items s) ≡ some w → lexical w ≡ wrong_told s w
wrong_placed s w e =
    let f = (wrong_is_first (items s)).0 w e in
    let m : Memᴰ w.at (items s) = rw f.2 (mathlib.Core.List.Memᴰ.append_right f.0 (mathlib.Core.List.Memᴰ.head refl)) in
    let p = items_placed s w.at m in
    rw (p.0, p.1)

lex_met : (s : List ℕ) (room : ℕ) → Met (lex_answer s room).verdict (lex_rows s room)
unfolding lex_answer
lex_met s room =
    let v : Lexed → Verdict = λ a. a.verdict in
    tested v 1 (ltb most_bytes (length s)) (less most_bytes (length s)) refl
    (finds v (first_bad s) (λ at. lexed (placed 2 (place_of s at)) 0)
    (λ at e. here (row_of 2 (lexing s room)) (record { byte = at; found = e }) refl refl)
    (λ e. later (λ h. absent e h.found)
    (finds v (first_wrong (items s)) (λ w. lexed (lexical w) 0)
    (λ w f. here (row_of 3 (lexing s room)) (record { lexeme = w; found = f }) (wrong_placed s w f) refl)
    (λ f. later (λ h. absent f h.found) (tested v 4 (ltb room (length (tokens s))) (less room (length (tokens s))) refl all_done)))))

pub lex_exactly : LexExactly
lex_exactly s room = exactly (lex_answer s room).verdict (lex_rows s room) refl (lex_met s room)

-- ---- parse

-- parsing that stops with one number does not stop with another, nor does it go to the end
stops_once : {o : Out (List Stmt)} {n k at m l u : ℕ} → o ≡ no n k at → o ≡ no m l u → n ≡ m
stops_once e f = cc

ends : {o : Out (List Stmt)} {ss : List Stmt} {at x n k u : ℕ} → o ≡ ok ss at x → o ≡ no n k u → ⊥
ends e f = never (cc)

-- it stops with 5 and with 7 just where the rows say
module _ (s : List ℕ) where
  refused_five : (k at : ℕ) → parse s ≡ no 5 k at → Unexpected s
  refused_five k at e =
      let f = (as_alone (contents (tokens s))).0 k at e in
      record {
        kind = k;
        token = at;
        found = f;
        earlier = λ t q.
            let n : ¬ (t < at) = λ l. let z = stops_once e ((counted (contents (tokens s)) t).1 (q, rw f l)) in omega arith in
            omega (arith, n);
      }

  five_refused : (h : Unexpected s) → parse s ≡ no 5 h.kind h.token
  five_refused h =
      elim ((earlier_decides (contents (tokens s))).0 h.kind h.token h.found) [
        | inl e ↦ e
        | inr e ↦ absurd (omega (arith, h.earlier e.0 ((counted (contents (tokens s)) e.0).0 e.2).0, e.1))
      ]

  refused_seven : (at : ℕ) → parse s ≡ no 7 0 at → OneMore s
  refused_seven at e = let f = (counted (contents (tokens s)) at).0 e in record { token = at; found = f.0; earlier = f.1 }

  seven_refused : (h : OneMore s) → parse s ≡ no 7 0 h.token
  seven_refused h = (counted (contents (tokens s)) h.token).1 (h.found, h.earlier)

module _ (s : List ℕ) (room count : ℕ) where
  stopped : (n k at : ℕ) → Reason n k → parse s ≡ no n k at
      → Met (parsed_as s room count (no n k at)).verdict (sentences s room ++ done)
  unfolding refused_five refused_seven
  stopped n k at unexpected_token e = here (row_of 5 (sentences s room)) (refused_five s 1 at e) refl refl
  stopped n k at int_out_of_range e = here (row_of 5 (sentences s room)) (refused_five s 2 at e) refl refl
  stopped n k at one_too_many e =
      later (λ h. let z = stops_once e (five_refused s h) in omega arith)
      (here (row_of 7 (sentences s room)) (refused_seven s at e) refl refl)

  parsed_met : (o : Out (List Stmt)) → parse s ≡ o → Met (parsed_as s room count o).verdict (sentences s room ++ done)
  parsed_met (no n k at) e = stopped n k at (stops_for (contents (tokens s)) n k at e) e
  parsed_met (ok ss at x) e =
      later (λ h. ends e (five_refused s h)) (later (λ h. ends e (seven_refused s h))
      (rw e (tested (λ (a : Parsed). a.verdict) 6 (ltb room (length (nodes ss))) (less room (length (nodes ss))) refl all_done)))

parse_met : (s : List ℕ) (t n : ℕ) → Met (parse_answer s t n).verdict (parse_rows s t n)
unfolding parse_answer
parse_met s t n =
    let l = lex_answer s t in
    after (λ (a : Parsed). a.verdict) (lexing s t) l.verdict refl (lex_met s t) refl (parsed_met s n l.count (parse s) refl)

pub parse_exactly : ParseExactly
parse_exactly s t n = exactly (parse_answer s t n).verdict (parse_rows s t n) refl (parse_met s t n)

-- ---- canonicalise

pub canon_exactly : CanonExactly
unfolding canon_answer
canon_exactly s t n =
    let v : Canonised → Verdict = λ a. a.verdict in
    let m = length (text s) in
    exactly (canon_answer s t n).verdict (canon_rows s t n) refl
    (after v (lexing s t) (lex_answer s t).verdict refl (lex_met s t) refl
    (one_tested v 10 (ltb n m) (ltb most_bytes m) (less n m) (less most_bytes m) refl refl all_done))

-- ---- check

module _ (s : List ℕ) where
  named_at : (at : ℕ) → checked s ≡ refused named_number at ↔ NamedCall (contents (tokens s)) (statements_of (parse s)) at
  unfolding checked
  named_at at = named_refused (contents (tokens s)) (statements_of (parse s)) at

  names_at : (at : ℕ)
      → checked s ≡ refused names_number at
      ↔ FirstTooMany (contents (tokens s)) (statements_of (parse s)) at × ((u : ℕ) → ¬ (checked s ≡ refused named_number u))
  unfolding checked
  names_at at = names_refused (contents (tokens s)) (statements_of (parse s)) at

  for_one : (m at : ℕ) → checked s ≡ refused m at → (m ≡ named_number) ⊎ (m ≡ names_number)
  unfolding checked
  for_one m at e = refused_for (contents (tokens s)) (statements_of (parse s)) m at e

  refused_met : (room m at : ℕ) → checked s ≡ refused m at → (m ≡ named_number) ⊎ (m ≡ names_number)
      → Met (placed m (token_place s at)) (judging s room ++ done)
  refused_met room m at e (inl q) =
      rw q (here (row_of 8 (judging s room)) (record { token = at; found = (named_at at).0 (rw q at e) }) refl refl)
  refused_met room m at e (inr q) =
      let f = (names_at at).0 (rw q at e) in
      rw q (later (λ h. f.1 h.token ((named_at h.token).1 h.found))
      (here (row_of 9 (judging s room)) (record { token = at; found = f.0 }) refl refl))

judged_met : (s : List ℕ) (room t n : ℕ) (o : Outcome) → checked s ≡ o → Met (judged_within s room t n o).verdict (judging s room ++ done)
judged_met s room t n (refused m at) e = refused_met s room m at e (for_one s m at e)
judged_met s room t n (judged ds hs ls) e =
    let none : (u : ℕ) → ¬ (checked s ≡ refused named_number u) = λ u f. never (cc) in
    later (λ h. none h.token ((named_at s h.token).1 h.found))
    (later (λ h. let f = (names_at s h.token).1 (h.found, none) in never (cc))
    (rw e
    (both_tested (λ (a : Checked). a.verdict) 11 (eqb (errors_in ds) 0) (ltb room (length (rows_of hs))) (equal (errors_in ds) 0)
    (less room (length (rows_of hs))) refl all_done all_done)))

pub check_exactly : CheckExactly
unfolding check_answer
check_exactly s t n k =
    let v : Checked → Verdict = λ a. a.verdict in
    let p = parse_answer s t n in
    exactly (check_answer s t n k).verdict (check_rows s t n k) refl
    (after v (lexing s t ++ sentences s n) p.verdict refl (parse_met s t n) refl
    (judged_met s k p.tokens p.nodes (checked s) refl))

-- ---- one instance, written out

six : (s : List ℕ) (t n : ℕ)
    → (parse_answer s t n).verdict.number ≡ 6
    ↔ (¬ TooLong s) × ((¬ NotUtf8 s) × ((¬ WrongLexeme s) × ((¬ TokensExceed s t) × ((¬ Unexpected s) × ((¬ OneMore s) × NodesExceed s n)))))
six s t n = (parse_exactly s t n).given 6

-- What checking a source answers and leaves, for each way that it goes, and the proof of the claim of specs/Entry.antt.
use mathlib.Core.Path.{◌≡◌, refl, sym, ap, subst, ◌∙◌}
use mathlib.Core.Bool.{true, false}
use mathlib.Core.List.{List, []}
use mathlib.Core.Logic.{inl, inr}
use Prim.Native.Nat.{ℕ, ◌*◌, ◌/◌, ◌≤◌, ◌<◌}
use native.Mathlib.Omega.{arith}
use borrow.Author.Tests.{eq-eqb, ne_eqb, lt-ltb, le-ltb}
use lib.Dec.{eqb}
use lib.ListN.{length, take}
use lib.Seq.{length-take-le}
use Rattle.std.specs.Prelude.{Result, Ok, Err}
use Rattle.table.specs.Table.{pad_to}
use Rattle.table.proofs.Laws.{tabled_none}
use Rattle.language.specs.Tokens.{contents, tokens}
use Rattle.language.specs.Tables.{token_row, token_width}
use Rattle.language.specs.Sentences.{Stmt, program, node_row}
use Rattle.language.specs.Judgements as judgements
use Rattle.language.specs.Judgements.{Diag, Held, Outcome, errors_in, warnings_in, judge_all}
use Rattle.language.specs.Findings.{diag_row, diag_width, rows_of, stmt_row, stmt_width}
use Rattle.language.specs.Numbers as numbers
use Rattle.language.specs.Numbers.{sum, verdict, token_of, placed, token_place, parse_answer, parse_tokens, parse_nodes, statements_of, checked, refused_check, judged_within, check_answer, check_tokens, check_nodes, check_diags, check_stmts}
use Rattle.rows.specs.declared.verdict.Verdict.{Verdict}
use Rattle.rows.specs.Rows.{verdict_as}
use Rattle.rows.specs.declared.token.Token.{Token}
use Rattle.findings.specs.declared.Counts.{Counts}
use Rattle.rows.specs.Tokens.{token_as, TokenTable}
use Rattle.parse.specs.declared.ParseAnswer.{ParseAnswer}
use Rattle.parse.specs.Entry.{ParseSource}
use Rattle.statements.specs.declared.Refusal.{Refusal}
use Rattle.findings.specs.Findings.{added}
use Rattle.checker.specs.declared.CheckAnswer.{CheckAnswer}
use Rattle.statements.specs.Checking.{StmtsAt, AllSound, Found, refusal_number, refusal_token, ComesTo, Comes}
use Rattle.checker.specs.Entry.{refusal, Parses, GivesUp, CheckSource, Concludes}
use Rattle.language.proofs.Names.{refused_for}
use Rattle.checker.proofs.Tables.{all_findings, all_held}
use Rattle.checker.proofs.Parsed.{lexed_part, sound_part, stmts_part, number_is, tokens_long, nodes_left}

-- a refusal where a token is
pub at_place : (s : List ℕ) (t number : ℕ) {i n : ℕ} {tok : Token} {v : Verdict} → i ≡ t → n ≡ number → tok ≡ token_as (token_of s i)
    → v ≡ record { number = n; kind = 0; line = tok.line; column = tok.column; character = 0 } → v ≡ verdict_as (placed number (token_place s t))
at_place s t number p o e q = q ∙ rw (e, p, o)

-- the part of a table that rows take, of one at least
pub some_words : (toks : List ℕ) (count : ℕ) → 1 ≤ count → 7 * count ≤ length toks → 7 ≤ length (take (7 * count) toks)
some_words toks count h l = omega (arith, length-take-le (7 * count) toks l)

-- ---- refusals

-- a number with no counts leaves nothing in any table
gave_up : (s : List ℕ) (t n d k : ℕ) (v : numbers.Verdict) → check_answer s (t / 7) (n / 5) (k / 11) ≡ refused_check v → eqb v.number 0 ≡ false
    → {w : Verdict} → w ≡ verdict_as v → {r : CheckAnswer} {a b e f : List ℕ} → GivesUp w t n d k r a b e f → CheckSource s t n d k r a b e f
unfolding check_tokens check_nodes check_diags check_stmts
gave_up s t n d k v e f q g =
    record {
      answer = g.answer ∙ rw (e, q);
      tokens = g.tokens ∙ rw (e, f) (sym (tabled_none token_row 7 t));
      nodes = g.nodes ∙ rw (e, f) (sym (tabled_none node_row 5 n));
      diags = g.diags ∙ rw (e, f) (sym (tabled_none (diag_row (token_of s)) diag_width d));
      stmts = g.stmts ∙ rw (e, f) (sym (tabled_none (stmt_row (token_of s)) stmt_width k));
    }

-- ---- a source that was parsed

module _ {s toks tree : List ℕ} {count rows : ℕ} (p : Parses s toks tree count rows) where
  judged_as_lem : (m : ℕ) → check_answer s (length toks / 7) (length tree / 5) m ≡ judged_within s m count rows (checked s)
  unfolding check_answer
  judged_as_lem m = rw p.answer

  -- all statements were judged
  module _ {ds : List Diag} {hs : List Held} {ls : List ℕ} (o : checked s ≡ judgements.judged ds hs ls) (c : Counts) {found held : List ℕ}
      (g : Found s (pad_to (length found) []) (pad_to (length held) []) c found held ds hs ls) where
    errors_are : c.errors ≡ errors_in ds
    unfolding added
    errors_are = ap (λ (z : Counts). z.errors) g.adds.counted ∙ omega arith

    warnings_are : c.warnings ≡ warnings_in ds
    unfolding added
    warnings_are = ap (λ (z : Counts). z.warnings) g.adds.counted ∙ omega arith

    compared_are : c.comparisons ≡ sum ls
    unfolding added
    compared_are = ap (λ (z : Counts). z.comparisons) g.adds.counted ∙ omega arith

    -- errors: the statements are not kept
    pub with_errors : {r : CheckAnswer} {x : List ℕ} → (c.errors ≡ 0 → ⊥) → x ≡ pad_to (length held) []
        → r ≡ record { verdict = verdict_as (verdict 0 0 0); tokens = count; nodes = rows; errors = c.errors; warnings = c.warnings; statements = 0; comparisons = c.comparisons }
        → CheckSource s (length toks) (length tree) (length found) (length held) r toks tree found x
    unfolding check_tokens check_nodes check_diags check_stmts
    with_errors h z q =
        let f : eqb (errors_in ds) 0 ≡ false = ne_eqb _ _ (λ e. h (errors_are ∙ e)) in
        let a : check_answer s (length toks / 7) (length tree / 5) (length held / 11)
        ≡ record { verdict = verdict 0 0 0; tokens = count; nodes = rows; errors = errors_in ds; warnings = warnings_in ds; statements = 0; comparisons = sum ls } =
        judged_as_lem (length held / 11) ∙ rw (o, f) in
        record {
          answer = q ∙ rw (a, errors_are, warnings_are, compared_are);
          tokens = p.table ∙ rw a;
          nodes = p.nodes ∙ rw a;
          diags = g.adds.diags ∙ all_findings (token_of s) (length found) ds ∙ rw (a, o);
          stmts = z ∙ rw (a, o, f) (sym (tabled_none (stmt_row (token_of s)) stmt_width (length held)));
        }

    module _ (h : c.errors ≡ 0) where
      no_errors : eqb (errors_in ds) 0 ≡ true
      no_errors = eq-eqb _ _ (sym errors_are ∙ h)

      -- 11
      pub too_many_lem : {w : Verdict} {r : CheckAnswer} {x y z u : List ℕ} → length held / 11 < c.statements → w ≡ verdict_as (verdict 11 0 0)
          → GivesUp w (length toks) (length tree) (length found) (length held) r x y z u
          → CheckSource s (length toks) (length tree) (length found) (length held) r x y z u
      too_many_lem l q u =
          gave_up s (length toks) (length tree) (length found) (length held) (verdict 11 0 0)
          (judged_as_lem (length held / 11) ∙ rw (o, no_errors, lt-ltb (length held / 11) (length (rows_of hs)) (omega (arith, g.statements)))) refl q u

      -- done
      pub accepted : {r : CheckAnswer} → c.statements ≤ length held / 11
          → r ≡ record { verdict = verdict_as (verdict 0 0 0); tokens = count; nodes = rows; errors = c.errors; warnings = c.warnings; statements = c.statements; comparisons = c.comparisons }
          → CheckSource s (length toks) (length tree) (length found) (length held) r toks tree found held
      unfolding check_tokens check_nodes check_diags check_stmts
      accepted l q =
          let a : check_answer s (length toks / 7) (length tree / 5) (length held / 11)
          ≡ record { verdict = verdict 0 0 0; tokens = count; nodes = rows; errors = 0; warnings = warnings_in ds; statements = length (rows_of hs); comparisons = sum ls } =
          judged_as_lem (length held / 11) ∙ rw (o, no_errors, le-ltb (length held / 11) (length (rows_of hs)) (omega (arith, g.statements))) in
          record {
            answer = q ∙ rw (a, h, warnings_are, g.statements, compared_are);
            tokens = p.table ∙ rw a;
            nodes = p.nodes ∙ rw a;
            diags = g.adds.diags ∙ all_findings (token_of s) (length found) ds ∙ rw (a, o);
            stmts = g.stmts (sym errors_are ∙ h) ∙ all_held (token_of s) (length held) (rows_of hs) ∙ rw (a, o, no_errors);
          }

-- ---- the run

-- the number is 8 or 9
some_number : (s : List ℕ) {n t : ℕ} → checked s ≡ judgements.refused n t → eqb n 0 ≡ false
unfolding checked
some_number s {n} {t} e =
    elim (refused_for (contents (tokens s)) (statements_of (program (contents (tokens s)))) n t e) [ inl z ↦ rw z | inr z ↦ rw z ]

module _ {s x u y v : List ℕ} {r : Result Counts Refusal} where
  went : {c : Counts} {o : Outcome} → r ≡ Ok c → Comes s x u r y v o
      → (ds : List Diag) × (hs : List Held) × (ls : List ℕ) × (o ≡ judgements.judged ds hs ls) × Found s x u c y v ds hs ls
  went {c} {o = judgements.judged ds hs ls} q h = (ds, hs, ls, refl, subst (λ (z : Result Counts Refusal). ComesTo s x u z y v (judgements.judged ds hs ls)) q h.come)
  went {c} {o = judgements.refused m t} q h = absurd (subst (λ (z : Result Counts Refusal). ComesTo s x u z y v (judgements.refused m t)) q h.come)

  refused_at : {f : Refusal} {o : Outcome} → r ≡ Err f → Comes s x u r y v o → o ≡ judgements.refused (refusal_number f) (refusal_token f)
  refused_at {f} {o = judgements.judged ds hs ls} q h = absurd (subst (λ (z : Result Counts Refusal). ComesTo s x u z y v (judgements.judged ds hs ls)) q h.come)
  refused_at {f} {o = judgements.refused n' t'} q h =
      let e = subst (λ (z : Result Counts Refusal). ComesTo s x u z y v (judgements.refused n' t')) q h.come in
      rw (e.0, e.1)

module _ {s toks tree : List ℕ} {count rows : ℕ} (p : Parses s toks tree count rows) where
  module _ {x u y v : List ℕ} {r : Result Counts Refusal} (same-found : length y ≡ length x) (same-held : length v ≡ length u)
      (on : (ss : List Stmt) → StmtsAt (take (5 * rows) tree) 0 ss → AllSound (contents (tokens s)) ss → Comes s x u r y v (judge_all (contents (tokens s)) ss)) where
    came : Comes s x u r y v (checked s)
    unfolding checked
    came = on (statements_of (program (contents (tokens s)))) (stmts_part p) (sound_part p)

    pub concluded : {c : Counts} (q : Result CheckAnswer Verdict) (held : List ℕ) → (x ≡ pad_to (length x) []) × (u ≡ pad_to (length u) []) → r ≡ Ok c
        → ((z : List ℕ) (ds : List Diag) (hs : List Held) (ls : List ℕ) → Parses z toks tree count rows → checked z ≡ judgements.judged ds hs ls
        → Found z (pad_to (length y) []) (pad_to (length v) []) c y v ds hs ls → Concludes z toks tree (length y) (length v) q y held)
        → Concludes s toks tree (length x) (length u) q y held
    concluded {c} q held zero i h =
        let w = went i came in
        let g : Found s (pad_to (length y) []) (pad_to (length v) []) c y v w.0 w.1 w.2 =
        subst (λ (m : List ℕ). Found s (pad_to (length y) []) m c y v w.0 w.1 w.2) (zero.1 ∙ ap (λ (m : ℕ). pad_to m []) (sym same-held))
        (subst (λ (m : List ℕ). Found s m u c y v w.0 w.1 w.2) (zero.0 ∙ ap (λ (m : ℕ). pad_to m []) (sym same-found)) w.4) in
        subst (λ (m : ℕ). Concludes s toks tree (length x) m q y held) same-held
        (subst (λ (m : ℕ). Concludes s toks tree m (length v) q y held) same-found (h s w.0 w.1 w.2 p w.3 g))

    -- a refusal by a statement
    pub refused_stmt : {f : Refusal} {w : Verdict} → r ≡ Err f
        → w ≡ verdict_as (placed (refusal_number f) (token_place s (refusal_token f)))
        → Concludes s toks tree (length x) (length u) (Err w) y v
    refused_stmt {f} i l =
        λ q a b e h g. gave_up s (length toks) (length tree) (length x) (length u) (placed (refusal_number f) (token_place s (refusal_token f)))
        (judged_as_lem p (length u / 11) ∙ rw (refused_at i came)) (some_number s (refused_at i came)) l g

-- ---- a source

module _ {s : List ℕ} {t n : ℕ} {q : ParseAnswer} {a b : List ℕ} (o : ParseSource s t n q a b) where
  -- parsing refused: its tables are all zero already
  pub not_parsed : {d k : ℕ} {r : CheckAnswer} {e f : List ℕ} → (q.verdict.number ≡ 0 → ⊥) → r ≡ refusal q.verdict → e ≡ pad_to d [] → f ≡ pad_to k []
      → CheckSource s t n d k r a b e f
  unfolding check_answer parse_tokens parse_nodes
  not_parsed {d} {k} z c x y =
      let f : eqb (parse_answer s (t / 7) (n / 5)).verdict.number 0 ≡ false = ne_eqb _ _ (λ i. z (number_is o ∙ i)) in
      gave_up s t n d k (parse_answer s (t / 7) (n / 5)).verdict (rw f) f (ap (λ (i : ParseAnswer). i.verdict) o.answer)
      (record {
        answer = c;
        tokens = o.tokens ∙ rw f (tabled_none token_row 7 t);
        nodes = o.nodes ∙ rw f (tabled_none node_row 5 n);
        diags = x;
        stmts = y;
      })

  -- the tables' lengths are those before parsing
  pub as_before : {d k i j : ℕ} {r : CheckAnswer} {w x y z : List ℕ} → i ≡ d → j ≡ k → CheckSource s (length a) (length b) i j r w x y z → CheckSource s t n d k r w x y z
  as_before g h c = rw (tokens_long o, nodes_left o, g, h) at c

-- The rows of findings have the numbers of their statements.
use Prim.Native.Nat.{ℕ, ◌≤◌, ◌<◌}
use mathlib.Core.Path.{◌≡◌, refl, sym, ◌∙◌}
use mathlib.Core.Bool.{Bool, true, false}
use mathlib.Core.List.Memᴰ
use mathlib.Core.List.{List, Memᴰ}
use native.Mathlib.Omega.{arith}
use native.Mathlib.Decide.{dec_lt}
use lib.ListN.{length, get_or}
use Rattle.language.specs.Choice.{if'}
use Rattle.language.specs.Tokens.{Content, tokens, contents}
use Rattle.language.specs.Sentences.{Out, ok, no, Stmt, program}
use Rattle.language.specs.Judgements.{unknown_name, Diag, diag, is_error, run, judge_all}
use Rattle.language.specs.Findings.{diag_row}
use Rattle.language.specs.Numbers.{statements_of, checked, found_by, token_of}
use Rattle.language.specs.Numbered.{ends, finding_word, severity_in, statement_in, Numbered, FindingsNumbered, StatementsEnd}
use Rattle.language.proofs.TokenContents.{as_many}
use Rattle.language.proofs.Each.{mem_at, pairs_at}
use Rattle.language.proofs.GrammarMet.{grammar_met}
use Rattle.language.proofs.GrammarStops.{whole_read}
use Rattle.language.proofs.StatementEnds.{program_ended}
use Rattle.language.proofs.FindingTokens.{Follows, Placed, Grounded, outcome_grounded}
use Rattle.language.proofs.Left.{counted_row, row_severity, check_left}

-- a source that parses has as many statements as ends of statements
pub statements_end : StatementsEnd
unfolding ends
statements_end s ss next x e =
    let ts = contents (tokens s) in
    let long = whole_read s ss next x e ∙ as_many (tokens s) in
    omega (arith, program_ended ts ((grammar_met ts ss next).0 x e) long)

error_only : (b : Bool) → if' {A = ℕ} b 1 2 ≡ 1 → b ≡ true
error_only true e = refl
error_only false e = absurd (omega arith)

module _ (s : List ℕ) where
  abbrev ts : List Content
  ts = contents (tokens s)

  abbrev found : List Diag
  found = found_by (checked s)

  -- the finding at a place; past the last, none that counts
  abbrev finding : ℕ → Diag
  finding i = get_or found i (diag 0 0 unknown_name)

  grounded : Grounded ts (checked s)
  unfolding checked
  grounded = outcome_grounded ts

  -- where something is found there is a program
  all_end : {d : Diag} → Memᴰ d found → ends ts ≤ length (statements_of (program ts))
  unfolding checked run
  all_end {d} m = by (program ts) refl m
    where
      by : (o : Out (List Stmt)) → program ts ≡ o → Memᴰ d (found_by (judge_all ts (statements_of o))) → ends ts ≤ length (statements_of o)
      by (ok ss next x) e m = omega (arith, statements_end s ss next x e)
      by (no n k at) e m = absurd (Memᴰ.not-nil m)

  -- what row i of a table says of the finding at its place
  record Row (left : List ℕ) (i : ℕ) : Type 0 where
    listed : i < length found
    line : finding_word left i 0 ≡ (token_of s (finding i).at).line
    column : finding_word left i 1 ≡ (token_of s (finding i).at).column
    wrong : severity_in left i ≡ 1 → is_error (finding i).what ≡ true
    statement : statement_in left i ≡ (finding i).statement

  module _ {left : List ℕ} {rows : ℕ} (row : (i : ℕ) → i < rows → Row left i) where
    member : (i : ℕ) → i < rows → Memᴰ (finding i) found
    member i h = mem_at found i _ (row i h).listed

    placed : (i : ℕ) → i < rows → Placed ts (finding i)
    placed i h = grounded.found.holds (finding i) (member i h)

    follows : (i j : ℕ) → i < j → j < rows → Follows (finding i) (finding j)
    follows i j h l = pairs_at i j _ grounded.order h (row j l).listed

    ascend : (i j : ℕ) → i ≤ j → j < rows → statement_in left i ≤ statement_in left j
    ascend i j h l =
        elim (dec_lt i j) [
          | Dec.yes m ↦ omega (arith, (row i (omega arith)).statement, (row j l).statement, (follows i j m l).rises)
          | Dec.no m ↦ let e : i ≡ j = omega arith in rw e (omega arith)
        ]

    numbered : Numbered s rows left
    numbered =
        record {
          ascend = ascend;
          one_error = λ i j h l e p q.
              let a = row i (omega arith) in
              let b = row j l in
              (follows i j h l).one (sym a.statement ∙ e ∙ b.statement) (a.wrong p) (b.wrong q);
          least = λ i h. omega (arith, (row i h).statement, (placed i h).own);
          most = λ i h. omega (arith, (row i h).statement, (placed i h).most, all_end (member i h));
          own = λ i h.
              let a = row i h in
              let p = placed i h in
              record {
                token = (finding i).at;
                there = rw (as_many (tokens s)) p.there;
                line = a.line;
                column = a.column;
                statement = a.statement ∙ p.own;
              };
        }

pub findings_numbered : FindingsNumbered
unfolding diag_row
findings_numbered s t n d k rows h l =
    numbered s (λ i m.
    let c = counted_row (check_left s t n d k).diags i (omega (arith, h)) (omega (arith, l)) (diag 0 0 unknown_name) in
    let e = finding s i in
    record {
      listed = c.0;
      line = c.1 0 (omega arith);
      column = c.1 1 (omega arith);
      wrong = λ q. error_only (is_error e.what) (sym (row_severity s e.at e.what) ∙ sym (c.1 2 (omega arith)) ∙ q);
      statement = c.1 11 (omega arith);
    })

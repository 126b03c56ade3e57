-- What parsing a source answers and leaves, for each way that it goes, and the proof of the claim of specs/Entry.antt.
use mathlib.Core.Path.{◌≡◌, refl, sym, ap, ◌∙◌}
use mathlib.Core.Bool.{false}
use mathlib.Core.List.{List, []}
use mathlib.Core.Logic.{◌⊎◌, inl, inr}
use Prim.Native.Nat.{ℕ, ◌*◌, ◌/◌, ◌≤◌, ◌<◌}
use native.Mathlib.Omega.{arith}
use borrow.Author.Tests.{lt-ltb, le-ltb}
use lib.Dec.{eqb}
use lib.ListN.{length, take}
use Rattle.table.specs.Table.{pad_to}
use Rattle.table.proofs.Laws.{length_pad, tabled_none, tabled_own}
use Rattle.language.specs.Tables.{token_row, token_width}
use Rattle.language.specs.Tokens.{contents, tokens}
use Rattle.language.specs.Sentences.{Stmt, Out, program, nodes, node_row, node_width}
use Rattle.language.specs.Numbers as numbers
use Rattle.language.specs.Numbers.{verdict, lex_answer, parsed, token_place, parse_answer, parse_tokens, parse_nodes}
use Rattle.rows.specs.declared.verdict.Verdict.{Verdict}
use Rattle.rows.specs.Rows.{verdict_as}
use Rattle.lex.specs.declared.Lexed.{Lexed}
use Rattle.lex.specs.Entry.{LexSource}
use Rattle.lex.proofs.Left.{verdict_is, not_done, no_tokens, table_size, lexes}
use Rattle.std.specs.Prelude.{Result, Ok, Err}
use Rattle.parse.specs.declared.ParseError.{ParseError}
use Rattle.parse.specs.declared.ParseError.TheVariants.{UnexpectedToken, IntOutOfRange, TooDeep}
use Rattle.parse.specs.declared.Parsed.{Parsed}
use Rattle.parse.specs.declared.ParseAnswer.{ParseAnswer}
use Rattle.parse.specs.Parsing.{number_of, kind_of, place_of, no_of, Rep, Holds, MetAll, verdict_at}
use Rattle.parse.specs.Entry.{refusal, GivesUp, Lexes, Trees, ParseSource}
use Rattle.parse.proofs.TokenRows.{few_tokens, part_rep, place_at}
use Rattle.language.proofs.TokensAt.{some_token}

-- the number of a refusal is not 0, which is "done"
pub not_zero : {n : ℕ} → (n ≡ 5) ⊎ (n ≡ 7) → n ≡ 0 → ⊥
not_zero (inl e) z = omega arith
not_zero (inr e) z = omega arith

some_number : (x : ParseError) → eqb (number_of x) 0 ≡ false
some_number (UnexpectedToken at) = refl
some_number (IntOutOfRange at) = refl
some_number (TooDeep at) = refl

-- ---- what lexing leaves where its number is 0

module _ {s : List ℕ} {t : ℕ} {q : Lexed} {a : List ℕ} (o : LexSource s t q a) (z : q.verdict.number ≡ 0) where
  pub bounds : (1 ≤ q.tokens) × (token_width * q.tokens ≤ length a) × (q.tokens ≤ 65537)
  bounds =
      let l = lexes o z in
      let f = few_tokens s in
      let g = some_token s in
      (omega (arith, l.counted), omega (arith, l.room), omega (arith, l.counted, l.short))

  -- the tables' lengths are those before lexing
  pub as_before : {n k : ℕ} {r : ParseAnswer} {b c : List ℕ} → k ≡ n → ParseSource s (length a) k r b c → ParseSource s t n r b c
  as_before e h = rw (table_size o z, e) at h

-- a cleared table has no nodes
pub no_nodes : {b : List ℕ} {n : ℕ} → b ≡ pad_to n [] → Holds b [] × (length b ≡ n)
no_nodes {b} {n} e = (record { rows = tabled_own node_row node_width n (length b) [] (e ∙ sym (tabled_none node_row node_width n)) refl }, ap length e ∙ length_pad n [])

-- ---- refusals

module _ (s : List ℕ) (t n : ℕ) where
  gave_up : (v : numbers.Verdict) → parse_answer s (t / token_width) (n / node_width) ≡ parsed v 0 0 → eqb v.number 0 ≡ false → {w : Verdict} → w ≡ verdict_as v
      → {r : ParseAnswer} {a b : List ℕ} → GivesUp w t n r a b → ParseSource s t n r a b
  unfolding parse_tokens parse_nodes
  gave_up v e f d g =
      record {
        answer = g.answer ∙ rw (e, d);
        tokens = g.tokens ∙ rw (e, f) (sym (tabled_none token_row token_width t));
        nodes = g.nodes ∙ rw (e, f) (sym (tabled_none node_row node_width n));
      }

  -- lexing refused: its table is all zero already
  pub not_lexed : {q : Lexed} {a b : List ℕ} {r : ParseAnswer} → LexSource s t q a → (q.verdict.number ≡ 0 → ⊥) → r ≡ refusal q.verdict
      → b ≡ pad_to n [] → ParseSource s t n r a b
  unfolding parse_answer
  not_lexed o z e c =
      let f = not_done o z in
      gave_up (lex_answer s (t / token_width)).verdict (rw f) f (verdict_is o) (record { answer = e; tokens = no_tokens o z; nodes = c })

-- ---- tokens that were parsed

module _ {s toks : List ℕ} {count : ℕ} (l : Lexes s toks count) where
  -- what the parser reads of them
  pub rep_of : token_width * count ≤ length toks → Rep (take (token_width * count) toks) (contents (tokens s))
  rep_of h = part_rep (tokens s) (length toks) l.table l.counted (omega (arith, l.counted))

  answer_is : (n : ℕ) {o : Out (List Stmt)} → program (contents (tokens s)) ≡ o → parse_answer s (length toks / token_width) n ≡ numbers.parsed_as s n count o
  unfolding parse_answer
  answer_is n e = rw (l.answer, e)

  module _ (n : ℕ) {r : Result ℕ Verdict} {p : Result Parsed ParseError} {b : List ℕ} (m : MetAll p b (program (contents (tokens s)))) where
    -- 5 or 7, at a token
    pub at_place : {x : ParseError} {w : Verdict} → token_width * count ≤ length toks → p ≡ Err x
        → w ≡ verdict_at toks count (number_of x) (kind_of x) (place_of x) → r ≡ Err w → Trees s (length toks) n r b
    at_place {x} h q d g =
        let e : program (contents (tokens s)) ≡ no_of x = rw q at m.met in
        let at = place_of x in
        record {
          met = rw g (
            record { number = number_of x; kind = kind_of x; line = (token_place s at).line; column = (token_place s at).column; character = 0 },
            answer_is (n / node_width) e,
            some_number x,
            d ∙ place_at s (length toks) (number_of x) (kind_of x) (omega (arith, l.counted)) at l.table l.counted,
          );
        }

    module _ {y : Parsed} (q : p ≡ Ok y) where
      -- 6
      pub too_many_lem : {w : Verdict} → n / node_width < y.nodes → w ≡ verdict_as (verdict 6 0 0) → r ≡ Err w → Trees s (length toks) n r b
      too_many_lem h d g =
          let e = rw q at m.met in
          record { met = rw g (verdict 6 0 0, answer_is (n / node_width) e.2 ∙ rw (e.3, lt-ltb _ _ h), refl, d) }

      -- done
      pub accepted : y.nodes ≤ n / node_width → r ≡ Ok y.nodes → Trees s (length toks) n r b
      accepted h g = let e = rw q at m.met in record { met = rw g (e.0, y.next, e.1, e.2, e.3, h, e.5) }

  module _ {n : ℕ} {p : Result ℕ Verdict} {b : List ℕ} (m : Trees s (length toks) n p b) (u : length b ≡ n) where
    pub refused_as : {w : Verdict} {r : ParseAnswer} {x y : List ℕ} → p ≡ Err w → GivesUp w (length toks) (length b) r x y
        → ParseSource s (length toks) n r x y
    refused_as q g = let e = rw q at m.met in gave_up s (length toks) n e.0 e.1 e.2 e.3 (rw u at g)

    pub parsed_whole : {k : ℕ} {w : Verdict} {r : ParseAnswer} → p ≡ Ok k → w ≡ verdict_as (verdict 0 0 0)
        → r ≡ record { verdict = w; tokens = count; nodes = k } → ParseSource s (length toks) n r toks b
    unfolding parse_tokens parse_nodes
    parsed_whole {k} q d f =
        let e = rw q at m.met in
        let a : parse_answer s (length toks / token_width) (n / node_width) ≡ parsed (verdict 0 0 0) count k = answer_is (n / node_width) e.3 ∙ rw (e.4, le-ltb _ _ e.5) in
        record {
          answer = f ∙ rw (a, d);
          tokens = l.table ∙ rw a;
          nodes = tabled_own node_row node_width (length b) n (nodes e.0) e.6.rows u ∙ rw (a, e.3);
        }

-- What parsing leaves where it refuses nothing: how many tokens and nodes there are, and what the parts of the tables that
-- their rows take stand for.
use mathlib.Core.Path.{◌≡◌, refl, sym, ap, ◌∙◌}
use mathlib.Core.Bool.{Bool, true, false}
use mathlib.Core.List.{List}
use Prim.Native.Nat.{ℕ, ◌*◌, ◌/◌, ◌≤◌}
use native.Mathlib.Omega.{arith}
use native.Mathlib.Decide.{dec_le}
use borrow.Author.Tests.{eqb-true, lt-ltb, le-ltb}
use lib.Dec.{eqb}
use lib.ListN.{length, take, length-map}
use Rattle.table.specs.Table.{flat}
use Rattle.table.proofs.Laws.{length_tabled, tabled_own, tabled_rows}
use Rattle.language.specs.Tables.{token_row}
use Rattle.language.specs.Tokens.{most_bytes, Token, contents, tokens}
use Rattle.language.specs.Sentences as sentences
use Rattle.language.specs.Sentences.{Stmt, program_size, Out, ok, program, nodes, node_row}
use Rattle.language.specs.Numbers as numbers
use Rattle.language.specs.Numbers.{verdict, lex_answer, parsed, parsed_as, parse_answer, parsed_nodes, parse_tokens, parse_nodes, statements_of}
use Rattle.parse.specs.declared.ParseAnswer.{ParseAnswer}
use Rattle.parse.specs.Entry.{ParseSource}
use Rattle.parse.proofs.Entry.{not_zero}
use Rattle.language.proofs.Done.{LexesIn, lex_done, lex_done_only}
use Rattle.language.proofs.SentenceRefusals.{refused_number}
use Rattle.language.proofs.Sound.{trees_sound}
use Rattle.language.proofs.TokensAt.{row_width, some_token}
use Rattle.language.proofs.NodeClaims.{all_long, row_long}
use Rattle.rows.specs.Tokens.{TokenTable}
use Rattle.statements.specs.Checking.{StmtsAt, RowFits, AllSound, no_counts}
use Rattle.checker.specs.Entry.{Parses}
use Rattle.parse.proofs.Few.{nodes_few}
use Rattle.parse.proofs.TokenRows.{few_tokens}
use Rattle.checker.proofs.Trees.{all_stmts}

-- ---- the answer

module _ (s : List ℕ) (m n : ℕ) (z : (parse_answer s m n).verdict.number ≡ 0) where
  lexed_too : (b : Bool) → eqb (lex_answer s m).verdict.number 0 ≡ b → (lex_answer s m).verdict.number ≡ 0
  unfolding parse_answer
  lexed_too true e = eqb-true _ _ e
  lexed_too false e = rw e at z

  lexes_in : LexesIn s m
  lexes_in = lex_done_only s m (lexed_too (eqb (lex_answer s m).verdict.number 0) refl)

  pub short : length s ≤ most_bytes
  short = lexes_in.lexes.short

  pub tokens_in : length (tokens s) ≤ m
  tokens_in = lexes_in.fit

  answer_as : {o : Out (List Stmt)} → program (contents (tokens s)) ≡ o → parse_answer s m n ≡ parsed_as s n (length (tokens s)) o
  unfolding parse_answer
  answer_as e = rw (lex_done s m lexes_in, e)

  number_as_lem : {o : Out (List Stmt)} → program (contents (tokens s)) ≡ o → (parsed_as s n (length (tokens s)) o).verdict.number ≡ 0
  number_as_lem e = sym (ap (λ (p : numbers.Parsed). p.verdict.number) (answer_as e)) ∙ z

  nodes_within : (k : ℕ) → (numbers.parsed_within n (length (tokens s)) k).verdict.number ≡ 0 → k ≤ n
  nodes_within k e =
      elim (dec_le k n) [
        | yes h ↦ h
        | no h ↦ let x : ◌≡◌ {A = ℕ} 6 0 = rw (lt-ltb n k (omega arith)) at e in absurd (omega arith)
      ]

  -- there is a program, and its nodes have room
  pub whole : (ss : List Stmt) × (at : ℕ) × (x : ℕ) × (program (contents (tokens s)) ≡ ok ss at x) × (length (nodes ss) ≤ n)
  whole = by (program (contents (tokens s))) refl
    where
      by : (o : Out (List Stmt)) → program (contents (tokens s)) ≡ o
          → (ss : List Stmt) × (at : ℕ) × (x : ℕ) × (program (contents (tokens s)) ≡ ok ss at x) × (length (nodes ss) ≤ n)
      by (ok ss at x) e = (ss, at, x, e, nodes_within (length (nodes ss)) (number_as_lem e))
      by (sentences.no k j at) e = absurd (not_zero (refused_number (contents (tokens s)) k j at e) (number_as_lem e))

  pub answer_is : parse_answer s m n ≡ parsed (verdict 0 0 0) (length (tokens s)) (length (parsed_nodes (program (contents (tokens s)))))
  answer_is =
      let w = whole in
      answer_as w.3 ∙ rw (w.3, le-ltb n (length (nodes w.0)) w.4)

-- ---- rows

module _ {s toks tree : List ℕ} {count rows : ℕ} (p : Parses s toks tree count rows) where
  done : (parse_answer s (length toks / 7) (length tree / 5)).verdict.number ≡ 0
  done = ap (λ (a : numbers.Parsed). a.verdict.number) p.answer

  pub token_words : (1 ≤ count) × (7 * count ≤ length toks)
  token_words =
      let l = tokens_in s (length toks / 7) (length tree / 5) done in
      (omega (arith, p.counted, some_token s), omega (arith, p.counted, l))

  rows_in : length (parsed_nodes (program (contents (tokens s)))) ≤ length tree / 5
  rows_in =
      let w = whole s (length toks / 7) (length tree / 5) done in
      rw w.3 w.4

  pub node_words : 5 * rows ≤ length tree
  node_words = omega (arith, p.rowed, rows_in)

  pub lexed_part : TokenTable s (take (7 * count) toks)
  lexed_part =
      record {
        rows = rw (p.table, p.counted) (tabled_rows token_row 7 row_width (length toks) (tokens s) (tokens_in s (length toks / 7) (length tree / 5) done));
      }

  pub node_part : take (5 * rows) tree ≡ flat node_row (parsed_nodes (program (contents (tokens s))))
  node_part = rw (p.nodes, p.rowed) (tabled_rows node_row 5 row_long (length tree) (parsed_nodes (program (contents (tokens s)))) rows_in)

  -- there are no more tokens than bytes but one
  tokens_few : length (contents (tokens s)) ≤ 65537
  tokens_few = omega (arith, length-map (tokens s) (λ (t : Token). t.content), few_tokens s, short s (length toks / 7) (length tree / 5) done)

  -- the statements name tokens of the source
  pub sound_part : AllSound (contents (tokens s)) (statements_of (program (contents (tokens s))))
  sound_part =
      let w = whole s (length toks / 7) (length tree / 5) done in
      rw w.3 (trees_sound s w.0 w.1 w.2 w.3)

  pub stmts_part : StmtsAt (take (5 * rows) tree) 0 (statements_of (program (contents (tokens s))))
  stmts_part =
      let w = whole s (length toks / 7) (length tree / 5) done in
      rw node_part (rw w.3 (all_stmts (contents (tokens s)) (omega (arith, tokens_few)) w.0 (trees_sound s w.0 w.1 w.2 w.3)))

  -- there are no more nodes than tokens
  pub rows_fit : RowFits (take (5 * rows) tree) 0 no_counts
  rows_fit =
      let w = whole s (length toks / 7) (length tree / 5) done in
      let few = nodes_few (contents (tokens s)) w.0 w.1 w.2 w.3 in
      let l : program_size w.0 ≤ 65537 = omega (arith, all_long 0 w.0, few, tokens_few) in
      record {
        list = w.0;
        stands = rw w.3 at stmts_part;
        room = omega arith;
        held = omega arith;
        slots = omega arith;
        begun = omega arith;
        looks = omega arith;
      }

-- ---- what the entry `parse` promises

module _ {s : List ℕ} {t n : ℕ} {q : ParseAnswer} {a b : List ℕ} (o : ParseSource s t n q a b) where
  pub number_is : q.verdict.number ≡ (parse_answer s (t / 7) (n / 5)).verdict.number
  number_is = ap (λ (x : ParseAnswer). x.verdict.number) o.answer

  pub tokens_long : length a ≡ t
  unfolding parse_tokens
  tokens_long = ap length o.tokens ∙ length_tabled token_row 7 t _

  pub nodes_left : length b ≡ n
  unfolding parse_nodes
  nodes_left = ap length o.nodes ∙ length_tabled node_row 5 n _

  module _ (z : q.verdict.number ≡ 0) where
    all_parsed : parse_answer s (t / 7) (n / 5) ≡ parsed (verdict 0 0 0) (length (tokens s)) (length (parsed_nodes (program (contents (tokens s)))))
    all_parsed = answer_is s (t / 7) (n / 5) (sym number_is ∙ z)

    tokens_are : q.tokens ≡ length (tokens s)
    tokens_are = ap (λ (x : ParseAnswer). x.tokens) o.answer ∙ ap (λ (x : numbers.Parsed). x.tokens) all_parsed

    nodes_are : q.nodes ≡ length (parsed_nodes (program (contents (tokens s))))
    nodes_are = ap (λ (x : ParseAnswer). x.nodes) o.answer ∙ ap (λ (x : numbers.Parsed). x.nodes) all_parsed

    pub parses : Parses s a b q.tokens q.nodes
    unfolding parse_tokens parse_nodes
    parses =
        record {
          answer = rw (tokens_long, nodes_left, tokens_are, nodes_are) all_parsed;
          table = tabled_own token_row 7 t (length a) (tokens s) (o.tokens ∙ rw all_parsed) refl;
          nodes = tabled_own node_row 5 n (length b) (parsed_nodes (program (contents (tokens s)))) (o.nodes ∙ rw all_parsed) refl;
          counted = tokens_are;
          rowed = nodes_are;
        }

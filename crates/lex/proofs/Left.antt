-- What a call of lex leaves, for those who go on from it.
use mathlib.Core.Path.{◌≡◌, refl, sym, ap, ◌∙◌}
use mathlib.Core.Bool.{false}
use mathlib.Core.List.{List, []}
use Prim.Native.Nat.{ℕ, ◌/◌}
use borrow.Author.Tests.{ne_eqb}
use lib.Dec.{eqb}
use lib.ListN.{length}
use Rattle.table.specs.Table.{pad_to, tabled}
use Rattle.table.proofs.Laws.{length_tabled, tabled_none, tabled_own}
use Rattle.language.specs.Tables.{token_row, token_width}
use Rattle.language.specs.Tokens.{tokens}
use Rattle.language.specs.Numbers as numbers
use Rattle.language.specs.Numbers.{verdict, lexed, lex_answer, lex_table}
use Rattle.language.proofs.Done.{LexesIn, lex_done, lex_done_only, lex_leaves}
use Rattle.rows.specs.declared.verdict.Verdict.{Verdict}
use Rattle.rows.specs.Rows.{verdict_as}
use Rattle.lex.specs.declared.Lexed.{Lexed}
use Rattle.lex.specs.Entry.{LexSource, Lexes}

-- a table of n words that has room for the tokens, and has them all
pub holds : (s : List ℕ) (n : ℕ) {toks : List ℕ} {count : ℕ} → LexesIn s (n / token_width)
    → toks ≡ tabled token_row token_width n (tokens s) → count ≡ length (tokens s) → Lexes s toks count
holds s n {toks} h e c =
    let l : length toks ≡ n = ap length e ∙ length_tabled token_row token_width n (tokens s) in
    record {
      answer = rw (l, c) (lex_done s (n / token_width) h);
      counted = c;
      table = tabled_own token_row token_width n (length toks) (tokens s) e refl;
      room = rw (c, l) h.fit;
      short = h.lexes.short;
    }

module _ {s : List ℕ} {t : ℕ} {q : Lexed} {a : List ℕ} (o : LexSource s t q a) where
  abbrev answer : numbers.Lexed
  answer = lex_answer s (t / token_width)

  pub verdict_is : q.verdict ≡ verdict_as answer.verdict
  verdict_is = ap (λ (x : Lexed). x.verdict) o.answer

  number_is : q.verdict.number ≡ answer.verdict.number
  number_is = ap (λ (v : Verdict). v.number) verdict_is

  -- where it refuses
  module _ (z : q.verdict.number ≡ 0 → ⊥) where
    pub not_done : eqb answer.verdict.number 0 ≡ false
    not_done = ne_eqb answer.verdict.number 0 (λ e. z (number_is ∙ e))

    pub no_tokens : a ≡ pad_to t []
    unfolding lex_table
    no_tokens = o.table ∙ rw not_done (tabled_none token_row token_width t)

  -- where it does not
  module _ (z : q.verdict.number ≡ 0) where
    pub lexes_in : LexesIn s (t / token_width)
    lexes_in = lex_done_only s (t / token_width) (sym number_is ∙ z)

    pub answered : answer ≡ lexed (verdict 0 0 0) (length (tokens s))
    answered = lex_done s (t / token_width) lexes_in

    pub counted : q.tokens ≡ length (tokens s)
    counted = ap (λ (x : Lexed). x.tokens) o.answer ∙ ap (λ (x : numbers.Lexed). x.count) answered

    pub rows : a ≡ tabled token_row token_width t (tokens s)
    rows = o.table ∙ lex_leaves s t lexes_in

    pub table_size : length a ≡ t
    table_size = ap length rows ∙ length_tabled token_row token_width t (tokens s)

    pub lexes : Lexes s a q.tokens
    lexes = holds s t lexes_in rows counted

-- What canonicalising a source answers and leaves, for each way that it goes.
use Prim.Native.Nat.{ℕ, ◌/◌, ◌≤◌, ◌<◌}
use mathlib.Core.Path.{◌≡◌, refl, sym, ◌∙◌}
use mathlib.Core.List.{List, []}
use mathlib.Core.Logic.{◌⊎◌, inl, inr}
use native.Mathlib.Decide.{dec_le}
use native.Mathlib.Omega.{arith}
use borrow.Author.Tests.{lt-ltb, le-ltb}
use lib.ListN.{length}
use Rattle.table.specs.Table.{pad_to}
use Rattle.table.proofs.Laws.{pad_own, tabled_none}
use Rattle.language.specs.Tables.{token_row, token_width}
use Rattle.language.specs.Tokens.{tokens}
use Rattle.language.specs.Canonical.{text}
use Rattle.language.specs.Numbers as numbers
use Rattle.language.specs.Numbers.{verdict, lex_answer, canonised, canonised_within, canon_answer, canon_tokens, canon_text}
use Rattle.language.proofs.Done.{canon_done}
use Rattle.rows.specs.declared.verdict.Verdict.{Verdict}
use Rattle.rows.specs.Rows.{verdict_as}
use Rattle.std.specs.Prelude.{Ok}
use Rattle.lex.specs.declared.LexError.{LexError}
use Rattle.lex.specs.Entry as lex_entry
use Rattle.lex.specs.Entry.{LexSource, LexesInto, Lexes}
use Rattle.lex.proofs.Answers.{accepted as lexed_so}
use Rattle.lex.proofs.Left.{lexes_in, answered, counted, rows, lexes}
use Rattle.canon.specs.declared.CanonError.{CanonError}
use Rattle.canon.specs.declared.CanonError.TheVariants.{Lex, TextRoom}
use Rattle.canon.specs.declared.Canonised.{Canonised}
use Rattle.canon.specs.Spelling.{WritesText}
use Rattle.canon.specs.Entry.{CanonSource, Refuses, verdict_of}

-- ---- the result, and both tables

abbrev pub result : Verdict → ℕ → ℕ → Canonised
result v t n = record { verdict = v; tokens = t; bytes = n }

module _ (s : List ℕ) (t n : ℕ) where
  abbrev answer : numbers.Canonised
  answer = canon_answer s (t / token_width) n

  -- a refusal leaves zeros
  pub refused : (e : CanonError) → Refuses s t n e → {w : Verdict} → w ≡ verdict_of e
      → {a b : List ℕ} (h k : ℕ) → a ≡ pad_to h [] → length a ≡ t → b ≡ pad_to k [] → length b ≡ n → CanonSource s t n (result w 0 0) a b
  unfolding canon_tokens canon_text
  refused _ (v, not-0, e, d) w h k p i q j =
      record {
        answer = rw (e, w, d);
        table = pad_own h t [] p i ∙ rw (e, not-0) (sym (tabled_none token_row token_width t));
        text = pad_own k n [] q j ∙ rw (e, not-0);
      }

  -- what lexing refuses
  pub unlexed : (e : LexError) → lex_entry.Refuses s t e → Refuses s t n (Lex e)
  unfolding canon_answer
  unlexed e (v, not-0, a, d) = (v, not-0, rw (a, not-0), d)

  -- what lexes
  module _ {count : ℕ} {toks : List ℕ} (x : LexesInto s t (Ok count) toks) where
    as_lexed : LexSource s t (record { verdict = verdict_as (verdict 0 0 0); tokens = count }) toks
    as_lexed = lexed_so s t count toks x (verdict_as (verdict 0 0 0)) refl

    pub lexed_all : Lexes s toks count
    lexed_all = lexes as_lexed refl

    judged : answer ≡ canonised_within n (length (tokens s)) (length (text s))
    unfolding canon_answer
    judged = rw (answered as_lexed refl)

    -- the text is written to z, which was all zero
    module _ {z u : List ℕ} {size : ℕ} (m : ℕ) (y : z ≡ pad_to m []) (c : length z ≡ n) (g : WritesText s z size u) where
      over : (n < size) ⊎ (65536 < size) → answer ≡ canonised (verdict 10 0 0) 0 0
      over (inl m) = let k : n < length (text s) = omega (arith, g.most) in judged ∙ rw (lt-ltb _ _ k)
      over (inr m) =
          let k : 65536 < length (text s) = omega (arith, g.most) in
          elim (dec_le (length (text s)) n) [
            | yes i ↦ judged ∙ rw (le-ltb _ _ i, lt-ltb _ _ k)
            | no i ↦ let j : n < length (text s) = omega arith in judged ∙ rw (lt-ltb _ _ j)
          ]

      -- it is too long
      pub too_long : (n < size) ⊎ (65536 < size) → Refuses s t n TextRoom
      too_long m = (verdict 10 0 0, refl, over m, refl)

      -- it is not
      module _ (i : size ≤ n) (k : size ≤ 65536) where
        all : size ≡ length (text s)
        all = (g.whole k).0

        fits : answer ≡ canonised (verdict 0 0 0) (length (tokens s)) (length (text s))
        fits =
            let a : length (text s) ≤ n = omega (arith, all) in
            let b : length (text s) ≤ 65536 = omega (arith, all) in
            let w = lexes_in as_lexed refl in
            canon_done s (t / token_width) n
            (record { fits = record { lexes = w.lexes; short = b }; tokens = w.fit; bytes = a })

        pub accepted : {v : Verdict} → v ≡ verdict_as (verdict 0 0 0) → CanonSource s t n (result v count size) toks u
        unfolding canon_tokens canon_text
        accepted e =
            let blank : z ≡ pad_to (length z) [] = pad_own _ (length z) [] y refl in
            record {
              answer = rw (fits, e, counted as_lexed refl, all);
              table = rows as_lexed refl ∙ rw fits;
              text = (g.whole k).1 blank ∙ rw (c, fits);
            }

-- What lexing a source answers and leaves, for each way that it goes.
use mathlib.Core.Path.{◌≡◌, refl, sym, ◌∙◌}
use mathlib.Core.List.{List, [], ◌∷◌, ◌++◌, append_assoc}
use mathlib.Core.Option.{none, some}
use Prim.Native.Nat.{ℕ, suc, ◌+◌, ◌≤◌, ◌<◌}
use native.Mathlib.Omega.{arith}
use borrow.Author.Tests.{lt-ltb, le-ltb}
use lib.ListN.{length}
use Rattle.table.specs.Table.{pad_to}
use Rattle.table.proofs.Laws.{pad_own, tabled_none}
use Rattle.language.specs.Utf8.{first_bad}
use Rattle.language.specs.Tables.{token_row, token_width}
use Rattle.language.specs.Tokens.{lines, Piece, gap, body, token, wrong, Item, items, stepped, tokens_from, eof_token, tokens, Wrong, first_wrong, Place, place_of}
use Rattle.language.specs.Numbers.{verdict, lexed, lexed_within, lexical, placed, lex_answer, lex_table}
use Rattle.utf8.specs.Decoding.{bad_of}
use Rattle.rows.specs.declared.verdict.Verdict.{Verdict}
use Rattle.rows.specs.Rows.{verdict_as}
use Rattle.utf8.proofs.Places.{bad_at, bad_nowhere}
use Rattle.lex.specs.declared.Lexer.{Lexer}
use Rattle.lex.specs.declared.LexError.{LexError}
use Rattle.lex.specs.declared.LexError.TheVariants.{NotUtf8}
use Rattle.std.specs.Prelude.{Ok, Err, Some, None}
use Rattle.lex.specs.declared.Loc.{Loc}
use Rattle.lex.specs.declared.Lexed.{Lexed}
use Rattle.lex.specs.Entry.{LexSource, LexesInto, Refuses}
use Rattle.lex.proofs.Lines.{few_lines}
use Rattle.lex.specs.Lexing.{verdict_of, State, begun, stated, flushed_state, step_to, feed, Holds, Few, FedIs, FeedsAll, Finishes, loc_as}

-- ---- the answer

module _ (s : List ℕ) (room : ℕ) where
  pub too_long : 65536 < length s → lex_answer s room ≡ lexed (verdict 1 0 0) 0
  unfolding lex_answer
  too_long h = rw (lt-ltb _ _ h)

  module _ (h : length s ≤ 65536) where
    pub bad_byte : (at : ℕ) → Some at ≡ bad_of (first_bad s) → lex_answer s room ≡ lexed (placed 2 (place_of s at)) 0
    unfolding lex_answer
    bad_byte at e = rw (le-ltb _ _ h, bad_at (first_bad s) at e, lex_answer)

    module _ (e : None ≡ bad_of (first_bad s)) where
      pub wrong_one : (w : Wrong) → first_wrong (items s) ≡ some w → lex_answer s room ≡ lexed (lexical w) 0
      unfolding lex_answer
      wrong_one w f = rw (le-ltb _ _ h, bad_nowhere (first_bad s) e, lex_answer, f, lex_answer)

      module _ (f : first_wrong (items s) ≡ none) where
        none_wrong : lex_answer s room ≡ lexed_within room (length (tokens s))
        unfolding lex_answer
        none_wrong = rw (le-ltb _ _ h, bad_nowhere (first_bad s) e, lex_answer, f, lex_answer)

        module _ (k : ℕ) (c : k ≡ length (tokens s)) where
          pub full : room < k → lex_answer s room ≡ lexed (verdict 4 0 0) 0
          full m = none_wrong ∙ rw (← c, lt-ltb _ _ m)

          pub fits : k ≤ room → lex_answer s room ≡ lexed (verdict 0 0 0) k
          fits m = none_wrong ∙ rw (← c, le-ltb _ _ m)

-- ---- what feeding came to

-- the tokens of a state that is fed, flushed at the end
all_tokens : (s : State) (is : List Item) → (flushed_state (feed s is)).done ≡ s.done ++ tokens_from s.pending is
unfolding feed tokens_from
all_tokens s [] = refl
all_tokens s (i ∷ is) = all_tokens (step_to i.piece i s) is ∙ go i.piece
  where
    go : (p : Piece) → (step_to p i s).done ++ tokens_from (step_to p i s).pending is ≡ s.done ++ stepped p i s.pending (λ q. tokens_from q is)
    go gap = refl
    go (body b) = refl
    go (token c) = simp append_assoc
    go (wrong e) = refl

-- a place as the code gives it
pub placed_as : (p : Place) (o : Loc) → o ≡ loc_as p → verdict_of (NotUtf8 o) ≡ verdict_as (placed 2 p)
placed_as p o e = rw e

-- of the table t, which was all zero
module _ (s t u : List ℕ) (k : ℕ) (z : t ≡ pad_to k []) where
  pub stopped : (e : LexError) → FeedsAll t (Err e) u s
      → (o : Wrong) × (first_wrong (items s) ≡ some o) × (verdict_of e ≡ verdict_as (lexical o))
  stopped e g = g.fed (pad_own k (length t) [] z refl)

  module _ (x : Lexer) (went : FeedsAll t (Ok x) u s) where
    right : FedIs (Ok x) u (feed begun (items s)) (first_wrong (items s))
    right = went.fed (pad_own k (length t) [] z refl)

    pub few : length s ≤ 65536 → Few x (length s)
    few h = record { lines = omega (arith, went.few.0, few_lines 0 s); tokens = went.few.1; short = h }

    pub no_wrong : first_wrong (items s) ≡ none
    no_wrong = right.0

    pub finished : {y : Lexer} {w : List ℕ} → Finishes x u (length s) y w → Holds y w (stated (tokens s) none)
    unfolding tokens
    finished f =
        let e : suc (length (lines s)) ≡ x.lno + 1 = omega (arith, went.few.0) in
        rw (← all_tokens begun (items s)) (f.holds (feed begun (items s)) (eof_token s) (rw e) right.1)

-- ---- the result, and the table

abbrev pub result : Verdict → ℕ → Lexed
result v k = record { verdict = v; tokens = k }

module _ (s : List ℕ) (n : ℕ) where
  -- a refusal leaves a table of zeros
  pub refused : (e : LexError) → Refuses s n e
      → (w : Verdict) → w ≡ verdict_of e → {t : List ℕ} (k : ℕ) → t ≡ pad_to k [] → length t ≡ n
      → LexSource s n (result w 0) t
  unfolding lex_table
  refused e (v, not-0, a, d) w q k z l =
      record { answer = rw (a, q, d); table = pad_own k n [] z l ∙ rw (a, not-0) (sym (tabled_none token_row token_width n)) }

  -- what is done leaves every token's row
  pub accepted : (count : ℕ) (t : List ℕ) → LexesInto s n (Ok count) t
      → (w : Verdict) → w ≡ verdict_as (verdict 0 0 0) → LexSource s n (result w count) t
  unfolding lex_table
  accepted count t (e, z) w d = record { answer = rw (e, d); table = z ∙ rw e }

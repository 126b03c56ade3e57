-- The rows of a table that holds all tokens of a source, and which bytes of its text each stands for.
use Prim.Native.Nat.{ℕ, suc, ◌+◌, ◌*◌, ◌/◌, ◌≤◌, ◌<◌}
use mathlib.Core.Path.{◌≡◌, refl, ap, ◌∙◌}
use mathlib.Core.List.{List, Memᴰ}
use mathlib.Core.Option.{none}
use native.Mathlib.Omega.{arith}
use lib.ListN.{length, get_or}
use Rattle.table.proofs.Laws.{tabled_word, tabled_past}
use Rattle.language.specs.Tables.{token_row, token_width, content_kind, content_low, content_high}
use Rattle.language.specs.Tokens.{Token, items, tokens_from, eof_token, tokens, between}
use Rattle.language.specs.Canonical.{spell}
use Rattle.language.specs.Numbers.{token_of}
use Rattle.language.proofs.TokenClaims.{places_right, not_end, name_kind, names_held, bodies_held}
use Rattle.language.proofs.TokensAt.{mem_at, row_width, long_tokens, before_last}
use Rattle.lex.specs.Entry.{Lexes}
use Rattle.canon.specs.Spelling.{row_text, RowFits}
use Rattle.canon.proofs.Contents.{content_text}

-- the tokens before the end
abbrev pub before : List ℕ → List Token
before s = tokens_from none (items s)

-- a row of a token of the source
pub record RowIs (s toks : List ℕ) (row : ℕ) (t : Token) : Type 0 where
  pub listed : Memᴰ t (tokens s)
  pub kind : get_or toks row 0 ≡ content_kind t.content
  pub start : get_or toks (row + 3) 0 ≡ t.start
  pub end : get_or toks (row + 4) 0 ≡ t.end
  pub low : get_or toks (row + 5) 0 ≡ content_low t.content
  pub high : get_or toks (row + 6) 0 ≡ content_high t.content

module _ (s toks : List ℕ) (count : ℕ) (h : Lexes s toks count) where
  pub counted : count ≡ suc (length (before s))
  counted = omega (arith, h.counted, long_tokens s)

  all_fit : length (tokens s) ≤ length toks / token_width
  all_fit = omega (arith, h.room, h.counted)

  -- past the last row all is zero
  pub row_past : (i j : ℕ) → count ≤ i → get_or toks (token_width * i + j) 0 ≡ 0
  row_past i j m =
      ap (λ (x : List ℕ). get_or x (token_width * i + j) 0) h.table
      ∙ tabled_past token_row token_width row_width (length toks) (tokens s) all_fit i j (omega (arith, h.counted))

  -- the token numbered i
  module _ (i : ℕ) (m : i < count) {row : ℕ} (r : row ≡ token_width * i) where
    word_at : (j : ℕ) → j < token_width → {k : ℕ} → k ≡ row + j → get_or toks k 0 ≡ get_or (token_row (token_of s i)) j 0
    word_at j b {k} e =
        let e' : k ≡ token_width * i + j = omega arith in
        ap (λ (x : List ℕ). get_or x k 0) h.table
        ∙ rw e' (tabled_word token_row token_width row_width (length toks) (tokens s) all_fit i j (omega (arith, h.counted)) b
        (eof_token s))

    pub row_is : RowIs s toks row (token_of s i)
    unfolding token_row
    row_is =
        record {
          listed = mem_at (tokens s) i (eof_token s) (omega (arith, h.counted));
          kind = word_at 0 (omega arith) (omega arith);
          start = word_at 3 (omega arith) refl;
          end = word_at 4 (omega arith) refl;
          low = word_at 5 (omega arith) refl;
          high = word_at 6 (omega arith) refl;
        }

    -- it is not the end
    module _ (l : i < length (before s)) where
      abbrev x : Token
      x = token_of s i

      is_before : Memᴰ x (before s)
      is_before = before_last s i l

      -- what the calls ask for
      pub fits : RowFits s toks row
      fits =
          let p = places_right s x is_before in
          let w = row_is in
          record { room = omega (arith, h.room); forth = omega (arith, p.2); within = omega (arith, p.3); short = h.short }

      pub row_text_lem : row_text s toks row ≡ spell x.content
      row_text_lem =
          let w = row_is in
          let span : between s (get_or toks (row + 3) 0) (get_or toks (row + 4) 0) ≡ between s x.start x.end =
          rw (w.start, w.end) in
          rw (span, w.kind, w.low, w.high)
          (content_text x.content (between s x.start x.end) (not_end s x is_before) (name_kind s x w.listed)
          (λ bs e. names_held s x bs w.listed e) (λ b bs e. bodies_held s x b bs w.listed e))

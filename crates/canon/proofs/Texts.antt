-- The text of all tokens, written one after the other.
use Prim.Native.Nat.{ℕ, suc, ◌+◌, ◌*◌, ◌-◌, ◌≤◌, ◌<◌}
use mathlib.Core.Path.{◌≡◌, refl, sym, ap, ◌∙◌}
use mathlib.Core.List.{List, [], ◌∷◌, ◌++◌, append_assoc, append-nil}
use native.Mathlib.Omega.{arith}
use lib.ListN.{length, get_or, drop, length-append}
use lib.Seq.{drop-cons, drop_at}
use Rattle.language.specs.Tables.{content_kind, token_width}
use Rattle.language.specs.Tokens.{Token, eof_token, tokens, contents}
use Rattle.language.specs.Canonical.{spell, canonical, text}
use Rattle.language.specs.Numbers.{token_of}
use Rattle.lex.specs.Entry.{Lexes}
use Rattle.writer.specs.Writing.{Writes}
use Rattle.canon.specs.Spelling.{row_text, gap_text, RowFits, WritesText}
use Rattle.writer.proofs.Laws as laws
use Rattle.writer.proofs.Laws.{◌then◌, bytes_are}
use Rattle.canon.proofs.Contents.{gap_is}
use Rattle.canon.proofs.Rows.{before, counted, row_is, fits, row_text_lem}

-- ---- the text of a list of tokens

-- the text of a token that another follows
next_text : (x y : Token) (zs : List Token) → canonical (contents (x ∷ y ∷ zs))
    ≡ spell x.content ++ gap_text (content_kind x.content) (content_kind y.content) ++ canonical (contents (y ∷ zs))
unfolding canonical
next_text x y zs = rw (gap_is x.content y.content (contents zs))

-- the end has none
end_text : (s : List ℕ) → canonical (contents (eof_token s ∷ [])) ≡ []
unfolding canonical spell
end_text s = refl

-- ---- the loop

-- the tokens before the one numbered i - 1 are written
pub record Texting (s t : List ℕ) (i at : ℕ) (u : List ℕ) : Type 0 where
  pub begun : 0 < i
  done : List ℕ
  pub writes : Writes t 0 done at u
  whole : done ++ canonical (contents (drop (i - 1) (tokens s))) ≡ text s

pub start : (s t : List ℕ) → Texting s t 1 0 t
start s t = record { begun = omega arith; done = []; writes = laws.none t 0; whole = refl }

module _ (s toks : List ℕ) (count : ℕ) (h : Lexes s toks count) where
  pub some_token : 1 ≤ count
  some_token = omega (arith, counted s toks count h)

  module _ (t : List ℕ) (i at : ℕ) (u : List ℕ) (f : Texting s t i at u) where
    -- of the text so many bytes are written
    part_of : length f.done ≤ length (text s)
    part_of = omega (arith, simp length-append at (ap length f.whole))

    -- it is too long
    pub stopped : 65536 < at → WritesText s t at u
    stopped m =
        let w = f.writes in
        record { size = laws.size w; most = omega (arith, w.answer, part_of); whole = λ k. absurd (omega arith) }

    -- all of it is written
    pub finished : i ≡ count → WritesText s t at u
    unfolding tokens
    finished e =
        let w = f.writes in
        let last : drop (i - 1) (before s ++ eof_token s ∷ []) ≡ eof_token s ∷ [] =
        drop_at (before s) (eof_token s ∷ []) (i - 1) (omega (arith, counted s toks count h)) in
        let all : f.done ≡ text s = sym (append-nil f.done) ∙ rw (last, end_text s) at f.whole in
        let n : at ≡ length (text s) = omega (arith, w.answer, ap length all) in
        record { size = laws.size w; most = omega arith; whole = λ k. (n, λ z. laws.after w [] refl z ∙ rw all) }

    module _ (m : i < count) {row next : ℕ} (r : row ≡ i * 7 - 7) (q : next ≡ i * 7) where
      abbrev x : Token
      x = token_of s (i - 1)

      this : row ≡ token_width * (i - 1)
      this = omega (arith, f.begun)

      in_body : i - 1 < length (before s)
      in_body = omega (arith, counted s toks count h, f.begun)

      kind_is : get_or toks row 0 ≡ content_kind x.content
      kind_is = (row_is s toks count h (i - 1) (omega arith) this).kind

      next_is : get_or toks next 0 ≡ content_kind (token_of s i).content
      next_is = (row_is s toks count h i m {row = next} (omega arith)).kind

      -- what the calls ask for
      pub row_fits : RowFits s toks row
      row_fits = fits s toks count h (i - 1) (omega arith) this in_body

      pub next_fits : next < length toks
      next_fits = omega (arith, h.room)

      -- a token and what follows it
      abbrev piece : List ℕ
      piece = spell x.content ++ gap_text (content_kind x.content) (content_kind (token_of s i).content)

      whole_here : f.done ++ (piece ++ canonical (contents (drop i (tokens s)))) ≡ text s
      whole_here =
          let n : suc (i - 1) ≡ i = omega (arith, f.begun) in
          let a : drop (i - 1) (tokens s) ≡ x ∷ drop i (tokens s) = drop-cons (tokens s) (i - 1) (eof_token s) (omega (arith, h.counted)) ∙ rw n in
          let b : drop i (tokens s) ≡ token_of s i ∷ drop (suc i) (tokens s) = drop-cons (tokens s) i (eof_token s) (omega (arith, h.counted)) in
          let c : canonical (contents (drop (i - 1) (tokens s))) ≡ piece ++ canonical (contents (drop i (tokens s))) =
          rw (a, b) (next_text x (token_of s i) (drop (suc i) (tokens s))) in
          rw c at f.whole

      pub more : {end to : ℕ} {v w : List ℕ} → Writes u at (row_text s toks row) end v → Writes v end (gap_text (get_or toks row 0) (get_or toks next 0)) to w
          → Texting s t (i + 1) to w
      more a b =
          let n : i + 1 - 1 ≡ i = omega arith in
          let spelt = row_text_lem s toks count h (i - 1) (omega arith) this in_body in
          record {
            begun = omega arith;
            done = f.done ++ piece;
            writes = f.writes then bytes_are _ spelt a then bytes_are _ (rw (kind_is, next_is)) b;
            whole = rw (n, append_assoc) whole_here;
          }

-- The table of a source's tokens: what its rows say of their contents and their places, and how many there are.
use mathlib.Core.Path.{◌≡◌, refl, sym, ap, ◌∙◌}
use mathlib.Core.List.{List, [], ◌∷◌, ◌++◌, Memᴰ}
use mathlib.Core.Option.{none}
use Prim.Native.Nat.{ℕ, suc, ◌+◌, ◌-◌, ◌*◌, ◌/◌, ◌≤◌, ◌<◌}
use native.Mathlib.Omega.{arith}
use native.Mathlib.Decide.{dec_le}
use borrow.Author.Tests.{lt-ltb, le-ltb}
use lib.ListN.{length, get_or, take}
use lib.Seq.{length-take-le}
use Rattle.table.specs.Table.{tabled}
use Rattle.table.proofs.Laws.{tabled_word, tabled_rows}
use Rattle.language.specs.Tables.{token_row, token_width}
use Rattle.language.specs.Tokens.{Token, contents, items, tokens_from, eof_token, tokens, Ordered, ordered_one}
use Rattle.language.specs.Numbers.{token_place}
use Rattle.language.proofs.TokenClaims.{places_right, tokens_in_order}
use Rattle.language.proofs.TokensAt.{row_width, long_tokens, some_token, last_token, past_token}
use Rattle.rows.specs.declared.verdict.Verdict.{Verdict}
use Rattle.rows.specs.declared.token.Token as row
use Rattle.rows.specs.Tokens.{row_token}
use Rattle.parse.specs.Parsing.{Rep, row_verdict, verdict_at}
use Rattle.parse.proofs.Rows.{represented}

-- ---- how many there are

first_of : {at : ℕ} {t : Token} {ts : List Token} → Ordered at (t ∷ ts) → (at ≤ t.start) × Ordered t.end ts
first_of (ordered_one t p q o) = (p, o)

-- tokens in order, each with a byte of n at least
few_from : (n : ℕ) {at : ℕ} (ts us : List Token) → Ordered at (ts ++ us)
    → ((t : Token) → Memᴰ t ts → (t.start < t.end) × (t.end ≤ n)) → at ≤ n → at + length ts ≤ n
few_from n [] us o each h = omega arith
few_from n (t ∷ ts) us o each h =
    let i = first_of o in
    let g = each t (Memᴰ.head refl) in
    let r = few_from n ts us i.1 (λ u m. each u (Memᴰ.tail m)) g.1 in
    omega (arith, i.0, g.0, r)

module _ (s : List ℕ) where
  pub few_tokens : length (tokens s) ≤ length s + 1
  unfolding tokens
  few_tokens =
      let each : (t : Token) → Memᴰ t (tokens_from none (items s)) → (t.start < t.end) × (t.end ≤ length s) = λ t m. ((places_right s t m).2, (places_right s t m).3) in
      omega (arith, long_tokens s, few_from (length s) (tokens_from none (items s)) (eof_token s ∷ []) (tokens_in_order s) each (omega arith))

-- a part with no more rows than there can be tokens
pub short_part : (toks : List ℕ) (count : ℕ) → token_width * count ≤ length toks → count ≤ 65537 → length (take (token_width * count) toks) ≤ 458759
short_part toks count h l = omega (arith, length-take-le (token_width * count) toks h)

-- ---- contents

-- the part of a table that the rows take
pub part_rep : (ts : List Token) (n : ℕ) {toks : List ℕ} {count : ℕ} → toks ≡ tabled token_row token_width n ts → count ≡ length ts → length ts ≤ n / token_width
    → Rep (take (token_width * count) toks) (contents ts)
part_rep ts n e c h = rw (e, c, tabled_rows token_row token_width row_width n ts h) (represented ts)

-- ---- places

pub row_told : {t : row.Token} (toks : List ℕ) (number kind i : ℕ) → t ≡ row_token toks i
    → record { number = number; kind = kind; line = t.line; column = t.column; character = 0 } ≡ row_verdict toks number kind i
row_told toks number kind i e = rw e

module _ (toks : List ℕ) (count number kind at : ℕ) where
  pub near : at < count → row_verdict toks number kind at ≡ verdict_at toks count number kind at
  unfolding verdict_at
  near h = rw (lt-ltb _ _ h)

  pub far : count ≤ at → row_verdict toks number kind (count - 1) ≡ verdict_at toks count number kind at
  unfolding verdict_at
  far h = rw (le-ltb _ _ h)

abbrev placed_at : ℕ → ℕ → ℕ → ℕ → Verdict
placed_at number kind line column = record { number = number; kind = kind; line = line; column = column; character = 0 }

module _ (s : List ℕ) (n number kind : ℕ) (h : length (tokens s) ≤ n / token_width) where
  row_place : (i : ℕ) → i < length (tokens s)
      → row_verdict (tabled token_row token_width n (tokens s)) number kind i
      ≡ placed_at number kind (get_or (tokens s) i (eof_token s)).line (get_or (tokens s) i (eof_token s)).column
  unfolding token_row
  row_place i l =
      let line = tabled_word token_row token_width row_width n (tokens s) h i 1 l (omega arith) (eof_token s) in
      let column = tabled_word token_row token_width row_width n (tokens s) h i 2 l (omega arith) (eof_token s) in
      rw (line, column)

  -- the place of a token, past the end that of `Eof`
  pub place_at : {toks : List ℕ} {count : ℕ} (at : ℕ) → toks ≡ tabled token_row token_width n (tokens s) → count ≡ length (tokens s)
      → verdict_at toks count number kind at ≡ placed_at number kind (token_place s at).line (token_place s at).column
  place_at at e c =
      elim (dec_le (suc at) (length (tokens s))) [
        | yes l ↦ rw (e, c) (sym (near (tabled token_row token_width n (tokens s)) (length (tokens s)) number kind at l) ∙ row_place at l)
        | no l ↦
            let past : length (tokens s) ≤ at = omega arith in
            let same = last_token s ∙ sym (past_token s at past) in
            rw (e, c) (sym (far (tabled token_row token_width n (tokens s)) (length (tokens s)) number kind at past)
            ∙ row_place (length (tokens s) - 1) (omega (arith, some_token s)) ∙ ap (λ (t : Token). placed_at number kind t.line t.column) same)
      ]

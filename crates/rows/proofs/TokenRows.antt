-- The rows of a source's tokens: which token a row is, and the bytes of a name.
use mathlib.Core.Path.{◌≡◌, refl, sym, ap, ◌∙◌}
use mathlib.Core.List.{List, []}
use Prim.Native.Nat.{ℕ, ◌+◌, ◌-◌, ◌*◌, ◌/◌, ◌≤◌, ◌<◌}
use native.Mathlib.Omega.{arith}
use borrow.Author.Tests.{eq-eqb}
use lib.ListN.{length, get_or}
use Rattle.table.proofs.Laws.{length_flat, flat_word}
use Rattle.language.specs.Tables.{content_kind, token_row}
use Rattle.language.specs.Tokens as tokens
use Rattle.language.specs.Tokens.{Content, eof, plain, name, string, contents, eof_token, between}
use Rattle.language.specs.Judgements.{name_in, name_at}
use Rattle.language.specs.Numbers.{token_of}
use Rattle.language.proofs.TokenTexts.{name_shown}
use Rattle.language.proofs.TokensAt.{row_width, content_of_lem, long_tokens, last_token, past_token}
use Rattle.rows.specs.declared.token.Token.{Token}
use Rattle.rows.specs.Tokens.{token_as, row_token, TokenTable}

module _ {s toks : List ℕ} (o : TokenTable s toks) where
  pub rows_long : length toks ≡ 7 * length (tokens.tokens s)
  rows_long = ap length o.rows ∙ length_flat token_row 7 row_width (tokens.tokens s) ∙ omega arith

  pub some_row : 7 ≤ length toks
  some_row = omega (arith, rows_long, long_tokens s)

  row_word : (i j : ℕ) → i < length (tokens.tokens s) → j < 7 → get_or toks (7 * i + j) 0 ≡ get_or (token_row (token_of s i)) j 0
  row_word i j h l = rw o.rows (flat_word token_row 7 row_width (tokens.tokens s) i j h l (eof_token s))

  row_is : (i : ℕ) → i < length (tokens.tokens s) → row_token toks i ≡ token_as (token_of s i)
  unfolding token_row
  row_is i h =
      let z : 7 * i ≡ 7 * i + 0 = omega arith in
      let w0 : get_or toks (7 * i) 0 ≡ content_kind (token_of s i).content = ap (λ (n : ℕ). get_or toks n 0) z ∙ row_word i 0 h (omega arith) in
      rw (w0, row_word i 1 h (omega arith), row_word i 2 h (omega arith), row_word i 3 h (omega arith), row_word i 4 h (omega arith), row_word i 5 h (omega arith), row_word i 6 h (omega arith))

  pub token_in : {r : Token} (t : ℕ) → r ≡ row_token toks t → t < length toks / 7 → r ≡ token_as (token_of s t)
  token_in t e h = e ∙ row_is t (omega (arith, rows_long))

  pub token_past : {r : Token} (t : ℕ) → r ≡ row_token toks (length toks / 7 - 1) → length toks / 7 ≤ t → r ≡ token_as (token_of s t)
  token_past t e h =
      let n : length toks / 7 ≡ length (tokens.tokens s) = omega (arith, rows_long) in
      e ∙ rw n (row_is (length (tokens.tokens s) - 1) (omega (arith, long_tokens s)) ∙ ap token_as (last_token s ∙ sym (past_token s t (omega (arith, n)))))

  -- past the end two tokens on is the same
  pub token_after : {r : Token} (t : ℕ) → r ≡ token_as (token_of s t) → length toks / 7 ≤ t → r ≡ token_as (token_of s (t + 2))
  token_after t e h = e ∙ ap token_as (past_token s t (omega (arith, rows_long)) ∙ sym (past_token s (t + 2) (omega (arith, rows_long))))

-- ---- names

-- what is no name has no bytes
no_name : (c : Content) → (content_kind c ≡ 13 → ⊥) → name_in c ≡ []
no_name eof h = refl
no_name (plain t) h = refl
no_name (name bs) h = absurd (h refl)
no_name (string b bs) h = refl

pub not_named : (s : List ℕ) {r : List ℕ} {tok : Token} (t : ℕ) → tok ≡ token_as (token_of s t) → (tok.kind ≡ 13 → ⊥) → r ≡ between s 0 0 → r ≡ name_at (contents (tokens.tokens s)) t
not_named s t e h z = z ∙ sym (ap name_in (content_of_lem s t) ∙ no_name (token_of s t).content (λ q. h (ap (λ (k : Token). k.kind) e ∙ q)))

pub is_named_lem : (s : List ℕ) {r : List ℕ} {tok : Token} (t : ℕ) → tok ≡ token_as (token_of s t) → tok.kind ≡ 13 → r ≡ between s tok.start tok.end
    → r ≡ name_at (contents (tokens.tokens s)) t
is_named_lem s t e k z =
    let kind : content_kind (token_of s t).content ≡ 13 = sym (ap (λ (u : Token). u.kind) e) ∙ k in
    z ∙ ap (λ (u : Token). between s u.start u.end) e ∙ name_shown s t (eq-eqb _ _ (ap content_kind (content_of_lem s t) ∙ kind))

-- Which token a row is.
use mathlib.Core.Path.{◌≡◌}
use mathlib.Core.List.{List}
use Prim.Native.Nat.{ℕ, ◌+◌, ◌*◌, ◌≤◌, ◌<◌}
use borrow.Author.Tests.{le-leb, lt-leb}
use lib.ListN.{length, get_or}
use Rattle.language.specs.Tables.{token_width}
use Rattle.rows.specs.declared.token.Tok.{Tok}
use Rattle.rows.specs.declared.token.Tok.TheVariants.{Eof}
use Rattle.rows.specs.Tokens.{kind_at, tok_of, tok_at}

module _ (toks : List ℕ) (at : ℕ) where
  pub kind_in : token_width * at + token_width ≤ length toks → get_or toks (token_width * at) 0 ≡ kind_at toks at
  unfolding kind_at
  kind_in h = rw (le-leb _ _ h)

  pub kind_past : length toks < token_width * at + token_width → 1 ≡ kind_at toks at
  unfolding kind_at
  kind_past h = rw (lt-leb _ _ h)

  pub tok_in : {t : Tok} → token_width * at + token_width ≤ length toks
      → t ≡ tok_of (get_or toks (token_width * at) 0) (get_or toks (token_width * at + 5) 0) (get_or toks (token_width * at + 6) 0) → t ≡ tok_at toks at
  unfolding tok_at
  tok_in h e = rw (le-leb _ _ h) e

  pub tok_past : length toks < token_width * at + token_width → Eof ≡ tok_at toks at
  unfolding tok_at
  tok_past h = rw (lt-leb _ _ h)

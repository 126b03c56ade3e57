-- The tokens of a source by their index, with `Eof` last and past the last.
use Prim.Native.Nat.{ℕ, ◌+◌, ◌-◌, ◌≤◌, ◌<◌}
use mathlib.Core.Path.{◌≡◌, refl}
use mathlib.Core.List.{List, [], ◌∷◌, Memᴰ}
use mathlib.Core.Option.{none}
use native.Mathlib.Omega.{arith}
use lib.ListN.{length, get_or, length-append, get_or-append, get_or-map, get_or-eq_default}
use lib.Seq.{get_or_at}
use Rattle.language.specs.Tokens.{eof, Token, items, tokens_from, eof_token, tokens, contents}
use Rattle.language.specs.Tables.{token_row, token_width}
use Rattle.language.specs.Numbers.{token_of}
pub use Rattle.language.proofs.Each.{mem_at}

pub row_width : (t : Token) → length (token_row t) ≡ token_width
unfolding token_row
row_width t = refl

module _ (s : List ℕ) where
  pub content_of_lem : (t : ℕ) → get_or (contents (tokens s)) t eof ≡ (token_of s t).content
  content_of_lem t = get_or-map (λ (x : Token). x.content) (tokens s) t (eof_token s)

  pub long_tokens : length (tokens s) ≡ length (tokens_from none (items s)) + 1
  unfolding tokens
  long_tokens = length-append (tokens_from none (items s)) (eof_token s ∷ [])

  pub some_token : 1 ≤ length (tokens s)
  some_token = omega (arith, long_tokens)

  -- each before the last is a lexeme's or a string
  pub before_last : (t : ℕ) → t < length (tokens_from none (items s)) → Memᴰ (token_of s t) (tokens_from none (items s))
  unfolding tokens
  before_last t h =
      rw (get_or-append (tokens_from none (items s)) (eof_token s ∷ []) (eof_token s) t h)
      (mem_at (tokens_from none (items s)) t (eof_token s) h)

  pub last_token : token_of s (length (tokens s) - 1) ≡ eof_token s
  unfolding tokens
  last_token = get_or_at (tokens_from none (items s)) (eof_token s) [] (eof_token s) (length (tokens s) - 1) (omega (arith, long_tokens))

  pub past_token : (t : ℕ) → length (tokens s) ≤ t → token_of s t ≡ eof_token s
  past_token t h = get_or-eq_default (tokens s) (eof_token s) h

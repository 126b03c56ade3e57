-- Parsing ends at a source's last token, or is refused at one of its tokens: `Eof` stands last, and only there.
use Prim.Native.Nat.{ℕ, ◌+◌, ◌-◌, ◌<◌}
use mathlib.Core.Path.{◌≡◌, ap, ◌∙◌}
use mathlib.Core.Bool.{true}
use mathlib.Core.List.{List}
use native.Mathlib.Omega.{arith}
use native.Mathlib.Decide.{dec_lt}
use borrow.Author.Tests.{eqb-true}
use lib.ListN.{length, get_or}
use Rattle.language.specs.Tokens.{Content, eof, Token, tokens, contents}
use Rattle.language.specs.Tables.{content_kind}
use Rattle.language.specs.Numbers.{token_of}
use Rattle.language.specs.Sentences.{Stmt, is}
use Rattle.language.specs.Grammar.{Program, is_end, is_next, WholeRead, StopsInside}
use Rattle.language.proofs.TokenClaims.{not_end_kind}
use Rattle.language.proofs.TokensAt.{content_of_lem, long_tokens, before_last, last_token}
use Rattle.language.proofs.GrammarMet.{grammar_met}
use Rattle.language.proofs.SentenceRefusals.{ends_inside, refused_inside}

-- a program stops at an `Eof`
at_end : (ts : List Content) {at next : ℕ} {ss : List Stmt} → Program ts at ss next → is ts next eof ≡ true
at_end ts (is_end e) = e
at_end ts (is_next s p) = at_end ts p

module _ (s : List ℕ) where
  -- the last token is one
  last_is : get_or (contents (tokens s)) (length (tokens s) - 1) eof ≡ eof
  last_is = content_of_lem s (length (tokens s) - 1) ∙ ap (λ (t : Token). t.content) (last_token s)

  -- and no token before it
  only_last : (t : ℕ) → is (contents (tokens s)) t eof ≡ true → length (tokens s) - 1 < t + 1
  only_last t e =
      elim (dec_lt t (length (tokens s) - 1)) [
        | Dec.yes h ↦
            let k = eqb-true (content_kind (get_or (contents (tokens s)) t eof)) 1 e in
            let m = not_end_kind s (token_of s t) (before_last s t (omega (arith, long_tokens s))) in
            absurd (omega (arith, ap content_kind (content_of_lem s t), k, m))
        | Dec.no h ↦ omega arith
      ]

pub whole_read : WholeRead
whole_read s ss next x e =
    let ts = contents (tokens s) in
    omega (
      arith,
      ends_inside ts (length (tokens s) - 1) (last_is s) e,
      only_last s next (at_end ts ((grammar_met ts ss next).0 x e)),
      long_tokens s,
    )

pub stops_inside : StopsInside
stops_inside s n k t e =
    omega (arith, (refused_inside (contents (tokens s)) (length (tokens s) - 1) (last_is s) e).0, long_tokens s)

-- The bytes of a name and the bodies of a string, by the index of their token: the contents decide them. Both are parts of
-- the source.
use Prim.Native.Nat.{ℕ}
use mathlib.Core.Path.{◌≡◌, refl, sym, ap, ◌∙◌}
use mathlib.Core.Bool.{true, false, false≢true}
use mathlib.Core.List.{List, [], ◌∷◌, Memᴰ}
use native.Mathlib.Omega.{arith}
use borrow.Author.Tests.{eqb-true}
use lib.Dec.{eqb}
use lib.ListN.{get_or}
use Rattle.language.specs.Tokens.{Content, eof, name, string, eof_token, tokens, contents, between}
use Rattle.language.specs.Tables.{content_kind}
use Rattle.language.specs.Sentences.{is}
use Rattle.language.specs.Judgements.{name_at, name_in}
use Rattle.language.specs.Numbers.{token_of}
use Rattle.language.specs.Checks.{bodies_at, PartOf}
use Rattle.language.proofs.TokenContents.{as_many}
use Rattle.language.proofs.TokensAt.{mem_at, content_of_lem}
use Rattle.language.proofs.TokenClaims.{names_held, bodies_held, name_kind, span_held}
use Rattle.language.proofs.SentenceOutcomes.{before_end}

module _ (s : List ℕ) (t : ℕ) where
  -- a token of another kind than the end's is one of the source's
  inside : (c : Content) → eqb 1 (content_kind c) ≡ false → is (contents (tokens s)) t c ≡ true → Memᴰ (token_of s t) (tokens s)
  inside c k e = mem_at (tokens s) t (eof_token s) (omega (arith, as_many (tokens s), before_end (contents (tokens s)) c k e))

  pub name_shown : is (contents (tokens s)) t (name []) ≡ true
      → between s (token_of s t).start (token_of s t).end ≡ name_at (contents (tokens s)) t
  name_shown e =
      let m = inside (name []) refl e in
      let k = eqb-true (content_kind (get_or (contents (tokens s)) t eof)) 13 e in
      let n = name_kind s (token_of s t) m (rw (content_of_lem s t) at k) in
      names_held s (token_of s t) n.0 m n.1 ∙ sym (ap name_in (content_of_lem s t ∙ n.1))

  pub bodies_shown : (b : List ℕ) (bs : List (List ℕ)) → get_or (contents (tokens s)) t eof ≡ string b bs → bodies_at s t ≡ b ∷ bs
  bodies_shown b bs e = bodies_held s (token_of s t) b bs (inside (string b bs) refl (rw e)) (sym (content_of_lem s t) ∙ e)

  -- and it is a part of the source
  pub part_shown : (c : Content) → eqb 1 (content_kind c) ≡ false → is (contents (tokens s)) t c ≡ true
      → PartOf s (token_of s t).start (token_of s t).end
  part_shown c k e =
      span_held s (token_of s t) (inside c k e) (λ f. false≢true (sym k ∙ (rw (content_of_lem s t, f) at e)))

-- Which of its two kinds number 5 names: parsing comes to the token after a quad and its `:` only as to a port.
use Prim.Native.Nat.{ℕ, ◌+◌, ◌-◌}
use mathlib.Core.Path.{◌≡◌, refl, sym, ◌∙◌}
use mathlib.Core.Bool.{true, false, false≢true}
use mathlib.Core.List.{List, []}
use native.Mathlib.Omega.{arith}
use borrow.Author.Tests.{eqb-true}
use lib.Dec.{eqb}
use lib.ListN.{get_or}
use Rattle.language.specs.Lexemes.{l_paren, r_paren, dot, colon, semi_colon, comma, slash, ipv4_literal}
use Rattle.language.specs.Tokens.{Content, eof, plain, name}
use Rattle.language.specs.Tables.{content_kind}
use Rattle.language.specs.Sentences.{not_port, too_large, most_steps, most_lists, is}
use Rattle.language.specs.Follows.{PortOver, KindNamed}
use Rattle.language.proofs.SentenceWalk.{not_kinds, Quad, Walk, at_refusal}

module _ (ts : List Content) where
  -- before the token there is no quad with its `:`
  record Fresh (at : ℕ) : Type 0 where
    fresh : is ts (at - 2) (plain (ipv4_literal 0)) ≡ true → is ts (at - 1) (plain colon) ≡ true → ⊥

  -- a token has one kind
  apart : (u : ℕ) (c d : Content) → eqb (content_kind d) (content_kind c) ≡ false → is ts u c ≡ true → is ts u d ≡ true → ⊥
  apart u c d k h q = false≢true (sym k ∙ rw (eqb-true (content_kind (get_or ts u eof)) (content_kind d) q) at h)

  -- the token after one that is no `:`
  clear : {at : ℕ} (u : ℕ) → (is ts u (plain colon) ≡ true → ⊥) → at ≡ u + 1 → Fresh at
  clear {at} u h e = let i : at - 1 ≡ u = omega arith in record { fresh = rw i (λ _ q. h q) }

  after : (at : ℕ) (c : Content) → eqb 6 (content_kind c) ≡ false → is ts at c ≡ true → Fresh (at + 1)
  after at c k h = clear at (apart at c (plain colon) k h) refl

  -- the second after one that is no quad
  second : {at : ℕ} (u : ℕ) (c : Content) → eqb 15 (content_kind c) ≡ false → is ts u c ≡ true → at ≡ u + 2 → Fresh at
  second {at} u c k h e =
      let i : at - 2 ≡ u = omega arith in record { fresh = rw i (λ q _. apart u c (plain (ipv4_literal 0)) k h q) }

  -- ---- along the grammar

  abbrev Here : ℕ → List ℕ → ℕ → Type 0
  Here m o at = Fresh at

  -- 5 has the kind of its token
  abbrev Kind : ℕ → ℕ → ℕ → Type 0
  Kind n k t = n ≡ 5 → (k ≡ 2 → PortOver ts t) × (PortOver ts t → k ≡ 2)

  -- a token is unexpected where it is fresh, or after a quad and its `:` where it is no decimal
  not_expected : {at : ℕ} → Fresh at → Kind 5 1 at
  not_expected f _ = (λ q. absurd (omega arith), λ p. absurd (f.fresh p.0 p.1))

  no_port : {at : ℕ} → Quad ts at not_port → Kind 5 1 (at + 2)
  no_port q _ = (λ r. absurd (omega arith), λ r. let o = r.2 in let p = q.there in cc)

  large_port : {at : ℕ} → Quad ts at too_large → Kind 5 2 (at + 2)
  large_port {at} q _ =
      let i : at + 2 - 2 ≡ at = omega arith in
      let j : at + 2 - 1 ≡ at + 1 = omega arith in
      (λ _. rw (i, j) (q.quad, q.colons, q.there), λ _. refl)

  seven : (t : ℕ) → Kind 7 0 t
  seven t q = absurd (omega arith)

  walk : Walk ts most_lists most_steps (Unit {0}) Here Kind
  walk = record {
    quiet = λ {c} {at = at} q _ p. after at c (not_kinds q).1 p;
    named_one = λ {at = at} _ n _. second at (name []) refl n refl;
    a_port = λ {at = at} _ q. second (at + 1) (plain colon) refl q.colons (omega arith);
    dotted = λ {at = at} _ _ q. after at (plain dot) refl q;
    slashed = λ {at = at} _ _ q. after at (plain slash) refl q;
    opened = λ {at = at} _ _ _ q. after at (plain l_paren) refl q;
    closed = λ {at = at} _ q. after at (plain r_paren) refl q;
    after_comma = λ {at = at} _ q. after at (plain comma) refl q;
    after_semi_colon = λ {at = at} _ q. after at (plain semi_colon) refl q;
    not_expected = not_expected;
    no_port = λ _ q. no_port q;
    large_port = λ _ q. large_port q;
    step_more = λ {at = at} _ _ _. seven at;
    list_more = λ {at = at} _ _ _. seven at;
    turns_out = λ {at = at} _ _. seven at;
  }

-- the first token is not both a quad and its `:`
pub kind_named : KindNamed
kind_named ts k t e =
    at_refusal ts (Here ts) (Kind ts) (walk ts) (record { fresh = apart ts 0 (plain (ipv4_literal 0)) (plain colon) refl }) e refl

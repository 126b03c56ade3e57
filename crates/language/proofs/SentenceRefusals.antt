-- Where parsing stops and why: at an unexpected token, a port out of range, or a list or step too many, none past `Eof`.
use Prim.Native.Nat.{ℕ, ◌+◌, ◌≤◌, ◌<◌}
use mathlib.Core.Path.{◌≡◌, refl, sym, ap, ◌∙◌}
use mathlib.Core.Bool.{Bool, true, false, false≢true}
use mathlib.Core.List.{List, []}
use mathlib.Core.Logic.{◌⊎◌, inl, inr}
use native.Mathlib.Omega.{arith}
use native.Mathlib.Decide.{dec_lt}
use lib.Dec.{eqb}
use lib.ListN.{length, get_or, get_or-eq_default}
use Rattle.language.specs.Lexemes.{l_paren, r_paren, dot, colon, semi_colon, comma, slash, ipv4_literal}
use Rattle.language.specs.Tokens.{Content, eof, plain, name}
use Rattle.language.specs.Tables.{content_kind}
use Rattle.language.specs.Sentences.{Stmt, Port, port, port_of, ok, no, most_steps, most_lists, is, program}
use Rattle.language.specs.Grammar.{is_port, is_step, StopsAtStep}
use Rattle.language.specs.Exactly.{Reason, unexpected_token, int_out_of_range, one_too_many, StopsFor}
use Rattle.language.proofs.SentenceOutcomes.{at_list}
use Rattle.language.proofs.SentenceWalk.{not_kinds, Quad, Walk, at_end, at_refusal}

-- a refusal stands at e or before and has a reason: 7 stands at a step
abbrev pub Refusal : List Content → ℕ → ℕ → ℕ → ℕ → Type 0
Refusal ts e n k t = (t ≤ e) × Reason n k × (n ≡ 7 → is_step ts t ≡ true)

-- e is the index of an `Eof`
module _ (ts : List Content) (e : ℕ) (end : get_or ts e eof ≡ eof) where
  -- what passes a test that `Eof` does not pass stands before e
  passed : {at : ℕ} (test : Content → Bool) → test eof ≡ false → at ≤ e → test (get_or ts at eof) ≡ true → at < e
  passed {at} test k l h =
      elim (dec_lt at e) [
        | Dec.yes p ↦ p
        | Dec.no p ↦
            let z : at ≡ e = omega arith in
            let i : get_or ts at eof ≡ eof = rw z end in
            absurd (false≢true (sym k ∙ sym (ap test i) ∙ h))
      ]

  before : {at : ℕ} (c : Content) → eqb 1 (content_kind c) ≡ false → at ≤ e → is ts at c ≡ true → at < e
  before c k l h = passed (λ x. eqb (content_kind x) (content_kind c)) k l h

  -- nothing that is taken stands at e
  abbrev Inside : ℕ → List ℕ → ℕ → Type 0
  Inside m o at = at ≤ e

  five : {k at : ℕ} → at ≤ e → Reason 5 k → Refusal ts e 5 k at
  five l r = (l, r, λ q. absurd (omega arith))

  -- a quad and its `:`
  quad_inside : {p : Port} {at : ℕ} → at ≤ e → Quad ts at p → at + 2 ≤ e
  quad_inside l q =
      let i = before (plain (ipv4_literal 0)) refl l q.quad in
      let j = before (plain colon) refl (omega arith) q.colons in omega arith

  port_inside : {at : ℕ} → at ≤ e → Quad ts at port → at + 3 ≤ e
  port_inside l q =
      let i = passed (λ x. is_port (port_of x)) refl (quad_inside l q) (ap is_port q.there) in omega arith

  after : {at : ℕ} (c : Content) → eqb 1 (content_kind c) ≡ false → at ≤ e → is ts at c ≡ true → at + 1 ≤ e
  after c k l h = let i = before c k l h in omega arith

  walk : Walk ts most_lists most_steps (Unit {0}) Inside (Refusal ts e)
  walk = record {
    quiet = λ {c} q l p. after c (not_kinds q).0 l p;
    named_one = λ l n q. let i = after (name []) refl l n in let j = before (plain colon) refl i q in omega arith;
    a_port = port_inside;
    dotted = λ l _ q. after (plain dot) refl l q;
    slashed = λ l _ q. after (plain slash) refl l q;
    opened = λ l _ _ q. after (plain l_paren) refl l q;
    closed = λ l q. after (plain r_paren) refl l q;
    after_comma = λ l q. after (plain comma) refl l q;
    after_semi_colon = λ l q. after (plain semi_colon) refl l q;
    not_expected = λ l. five l unexpected_token;
    no_port = λ l q. five (quad_inside l q) unexpected_token;
    large_port = λ l q. five (quad_inside l q) int_out_of_range;
    step_more = λ l _ q. (l, one_too_many, λ _. q);
    list_more = λ {at = at} l _ q. (l, one_too_many, λ _. at_list ts at q);
    turns_out = λ l f. absurd (f tt);
  }

  -- a program ends at e or before, and is refused there or before
  pub ends_inside : {ss : List Stmt} {next x : ℕ} → program ts ≡ ok ss next x → next ≤ e
  ends_inside h = at_end ts Inside (Refusal ts e) walk (omega arith) h

  pub refused_inside : {n k t : ℕ} → program ts ≡ no n k t → Refusal ts e n k t
  refused_inside h = at_refusal ts Inside (Refusal ts e) walk (omega arith) h

-- past the last token is `Eof`
refusal : (ts : List Content) {n k t : ℕ} → program ts ≡ no n k t → Refusal ts (length ts) n k t
refusal ts h = refused_inside ts (length ts) (get_or-eq_default ts eof (omega arith)) h

pub stops_for : StopsFor
stops_for ts n k at h = (refusal ts h).1

pub stops_at_step : StopsAtStep
stops_at_step ts k at h = (refusal ts h).2 refl

-- so a refusal has the number 5 or 7
pub refused_number : (ts : List Content) (n k at : ℕ) → program ts ≡ no n k at → (n ≡ 5) ⊎ (n ≡ 7)
refused_number ts n k at e = by (stops_for ts n k at e)
  where
    by : {n k : ℕ} → Reason n k → (n ≡ 5) ⊎ (n ≡ 7)
    by unexpected_token = inl refl
    by int_out_of_range = inl refl
    by one_too_many = inr refl

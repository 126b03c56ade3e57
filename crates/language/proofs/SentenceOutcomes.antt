-- Outcomes that are no refusal, and tokens that are not past the end.
use Prim.Native.Nat.{ℕ, ◌≤◌, ◌<◌}
use mathlib.Core.Path.{◌≡◌, refl, sym, ap, ◌∙◌}
use mathlib.Core.Bool.{Bool, true, false, false≢true, or-true}
use mathlib.Core.List.{List}
use native.Mathlib.Omega.{arith}
use native.Mathlib.Decide.{dec_lt}
use lib.Dec.{eqb}
use lib.ListN.{length, get_or-eq_default}
use Rattle.language.specs.Choice.{if'}
use Rattle.language.specs.Lexemes.{l_paren, dot, slash}
use Rattle.language.specs.Tokens.{Content, eof, plain}
use Rattle.language.specs.Tables.{content_kind}
use Rattle.language.specs.Sentences.{Out, ok, no, and_then, is}
use Rattle.language.specs.Grammar.{is_step}

-- ---- what holds of every outcome that is no refusal

abbrev pub EveryOf : {A : Type 0} → (A → ℕ → ℕ → Type 0) → Out A → Type 0
EveryOf P (ok a at s) = P a at s
EveryOf P (no n k at) = Unit {0}

pub record Every {A : Type 0} (P : A → ℕ → ℕ → Type 0) (o : Out A) : Type 0 where
  pub holds : EveryOf P o

pub good : {A : Type 0} {P : A → ℕ → ℕ → Type 0} {a : A} {at s : ℕ} → P a at s → Every P (ok a at s)
good h = record { holds = h }

pub refused : {A : Type 0} {P : A → ℕ → ℕ → Type 0} {n k at : ℕ} → Every P (no n k at)
refused = record { holds = tt }

pub also : {A : Type 0} {P Q : A → ℕ → ℕ → Type 0} {o : Out A} → Every P o → ((a : A) (at s : ℕ) → P a at s → Q a at s)
    → Every Q o
also {o = ok a at s} h f = good (f a at s h.holds)
also {o = no n k at} h f = refused

pub either : {A : Type 0} {P : A → ℕ → ℕ → Type 0} (b : Bool) {o q : Out A} → (b ≡ true → Every P o) → (b ≡ false → Every P q)
    → Every P (if' b o q)
either true h l = h refl
either false h l = l refl

pub both : {A B : Type 0} {P : A → ℕ → ℕ → Type 0} {Q : B → ℕ → ℕ → Type 0} {o : Out A} {f : A → ℕ → ℕ → Out B} → Every P o
    → ((a : A) (at s : ℕ) → P a at s → Every Q (f a at s)) → Every Q (and_then o f)
both {o = ok a at s} h g = g a at s h.holds
both {o = no n k at} h g = refused

-- two ways to go on are the same where they agree on what is there
pub same_then : {A B : Type 0} {P : A → ℕ → ℕ → Type 0} {o : Out A} {f g : A → ℕ → ℕ → Out B} → Every P o
    → ((a : A) (at s : ℕ) → P a at s → f a at s ≡ g a at s) → and_then o f ≡ and_then o g
same_then {o = ok a at s} h e = e a at s h.holds
same_then {o = no n k at} h e = refl

-- ---- tokens

module _ (ts : List Content) where
  -- past the end every token is `Eof`
  pub past : {at : ℕ} (c : Content) → length ts ≤ at → is ts at c ≡ eqb 1 (content_kind c)
  past c h = ap (λ (x : Content). eqb (content_kind x) (content_kind c)) (get_or-eq_default ts eof h)

  -- a token that is not `Eof` is inside
  pub before_end : {at : ℕ} (c : Content) → eqb 1 (content_kind c) ≡ false → is ts at c ≡ true → at < length ts
  before_end {at} c k e =
      elim (dec_lt at (length ts)) [
        | Dec.yes h ↦ h
        | Dec.no h ↦ absurd (false≢true (sym k ∙ sym (past c (omega arith)) ∙ e))
      ]

  pub not_end : {at : ℕ} → is ts at eof ≡ false → at < length ts
  not_end {at} e =
      elim (dec_lt at (length ts)) [ Dec.yes h ↦ h | Dec.no h ↦ absurd (false≢true (sym e ∙ past eof (omega arith))) ]

-- the three steps
module _ (ts : List Content) (at : ℕ) where
  pub at_dot : is ts at (plain dot) ≡ true → is_step ts at ≡ true
  at_dot h = rw h

  pub at_list : is ts at (plain l_paren) ≡ true → is_step ts at ≡ true
  at_list h = rw h (or-true (is ts at (plain dot)))

  pub at_slash : is ts at (plain slash) ≡ true → is_step ts at ≡ true
  at_slash h = rw (h, or-true (is ts at (plain l_paren))) (or-true (is ts at (plain dot)))

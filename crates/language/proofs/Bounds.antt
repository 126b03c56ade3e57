-- Between 5 and 7 the earlier token decides: what the bounds on lists and steps change, and where.
use mathlib.Core.Path.{◌≡◌, refl, sym, ap, ◌∙◌}
use mathlib.Core.Bool.{true}
use mathlib.Core.List.{List}
use mathlib.Core.Logic.{◌⊎◌, inl, inr}
use Prim.Native.Nat.{ℕ, zero, suc, ◌+◌, ◌≤◌, ◌<◌}
use native.Mathlib.Omega.{arith}
use lib.ListN.{length}
use Rattle.language.specs.Lexemes.{l_paren, dot, slash}
use Rattle.language.specs.Tokens.{Content, plain}
use Rattle.language.specs.Sentences.{Stmt, Out, ok, no, most_steps, most_lists, is, program}
use Rattle.language.specs.Grammar.{is_step}
use Rattle.language.specs.Bounds.{program_in, alone, reached, AloneStops, EarlierDecides, AsAlone, OneTooMany}
use Rattle.language.proofs.Tests.{never, either}
use Rattle.language.proofs.SentenceOutcomes.{before_end}
use Rattle.language.proofs.BoundsMet.{bounds_met}
use Rattle.language.proofs.Twins.{Equal, Freer, same, refused, stopped, program_twin}

-- ---- a program comes to the same, and not to 7; or there is a step too many, and it is passed

module _ (ts : List Content) where
  abbrev pub Same : Out (List Stmt) → Out (List Stmt) → Type 0
  Same o q = (o ≡ q) × ((n k t : ℕ) → o ≡ no n k t → n ≡ 5)

  abbrev pub Passed : Out (List Stmt) → Out (List Stmt) → Type 0
  Passed o q = (u : ℕ) × (o ≡ no 7 0 u) × (is_step ts u ≡ true) × (u < reached q)

  pub told : {o q : Out (List Stmt)} → Freer ts Equal o q → Same o q ⊎ Passed o q
  told (same {a} {at} h) = inl (ap (λ (x : ℕ). ok a at x) h, λ n k u e. never (cc))
  told refused = inl (refl, λ n k t e. cc)
  told (stopped {at} e h) = inr (at, refl, e, h.reaches)

  freed : (a b c d : ℕ) → a < c → b < d → Same (program_in ts a b) (program_in ts c d) ⊎ Passed (program_in ts a b) (program_in ts c d)
  freed a b c d h l = told ((program_twin ts ts (reached (program_in ts a b)) (λ i _. refl) a c b d h l).agrees (omega arith))

  inside : (u : ℕ) → is_step ts u ≡ true → u < length ts
  inside u e =
      elim (either (is ts u (plain dot)) _ e) [
        | inl a ↦ before_end ts (plain dot) refl a
        | inr b ↦ elim (either (is ts u (plain l_paren)) _ b) [
          | inl a ↦ before_end ts (plain l_paren) refl a
          | inr a ↦ before_end ts (plain slash) refl a
        ]
      ]

  -- with bounds of m and more there is no 7 before the token m
  seven_after : (m a b u : ℕ) → m ≤ a → m ≤ b → program_in ts a b ≡ no 7 0 u → m ≤ u
  seven_after zero a b u h l e = omega arith
  seven_after (suc m) zero b u h l e = absurd (omega arith)
  seven_after (suc m) (suc a) zero u h l e = absurd (omega arith)
  seven_after (suc m) (suc a) (suc b) u h l e =
      elim (freed a b (suc a) (suc b) (omega arith) (omega arith)) [
        | inl f ↦ absurd (omega (arith, f.1 7 0 u (f.0 ∙ e)))
        | inr f ↦ omega (arith, seven_after m a b f.0 (omega arith) (omega arith) f.1, rw e at f.3)
      ]

  module _ (a b : ℕ) (h : length ts ≤ a) (l : length ts ≤ b) where
    not_passed : (q : Out (List Stmt)) → ¬ Passed (program_in ts a b) q
    not_passed q f = omega (arith, seven_after (length ts) a b f.0 h l f.1, inside f.0 f.2)

    larger : (c d : ℕ) → a < c → b < d → Same (program_in ts a b) (program_in ts c d)
    larger c d i j = elim (freed a b c d i j) [ inl f ↦ f | inr f ↦ absurd (not_passed (program_in ts c d) f) ]

-- ---- the claims

pub alone_stops : AloneStops
alone_stops ts = (
  (from (length ts) (length ts) (omega arith) (omega arith)).1,
  λ lists steps h l.
      (larger ts lists steps h l (suc lists) (suc steps) (omega arith) (omega arith)).0 ∙ sym (from lists steps h l).0,
)
  where
    from : (lists steps : ℕ) → length ts ≤ lists → length ts ≤ steps → Same ts (alone ts) (program_in ts (suc lists) (suc steps))
    from lists steps h l = larger ts (length ts) (length ts) (omega arith) (omega arith) (suc lists) (suc steps) (omega arith) (omega arith)

-- 01's bounds, and none
pub bounded : (ts : List Content) → Same ts (program ts) (alone ts) ⊎ Passed ts (program ts) (alone ts)
bounded ts =
    let c = most_lists + suc (length ts) in
    let d = most_steps + suc (length ts) in
    let far : program_in ts c d ≡ alone ts = (alone_stops ts).1 c d (omega arith) (omega arith) in
    rw (bounds_met ts, ← far) (freed ts most_lists most_steps c d (omega arith) (omega arith))

pub earlier_decides : EarlierDecides
earlier_decides ts = (
  λ k t e. elim (bounded ts) [ inl f ↦ inl (f.0 ∙ e) | inr f ↦ inr (f.0, rw e at f.3, f.1) ],
  λ ss next x e. elim (bounded ts) [ inl f ↦ inl (f.0 ∙ e) | inr f ↦ inr (f.0, f.1) ],
)

pub as_alone : AsAlone
as_alone ts = (
  λ k t e. elim (bounded ts) [ inl f ↦ sym f.0 ∙ e | inr f ↦ let z : ◌≡◌ {A = ℕ} 5 7 = cc in absurd (omega (arith, z)) ],
  λ ss next x e. elim (bounded ts) [ inl f ↦ sym f.0 ∙ e | inr f ↦ never (cc) ],
)

pub one_too_many_lem : OneTooMany
one_too_many_lem ts u e =
    let i = sym (bounds_met ts) ∙ e in
    elim (freed ts most_lists most_steps (suc most_lists) (suc most_steps) (omega arith) (omega arith)) [
      | inl f ↦ absurd (omega (arith, f.1 7 0 u i))
      | inr f ↦ let z : f.0 ≡ u = cc in rw (← z) f.3
    ]

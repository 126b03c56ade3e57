-- 7 is given exactly at the token that the plain count of lists and steps names: along the grammar the count keeps pace.
use mathlib.Core.Path.{◌≡◌, refl, ap, ◌∙◌}
use mathlib.Core.Bool.{true}
use mathlib.Core.List.{List}
use mathlib.Core.Logic.{inl, inr}
use mathlib.Core.Option.{some}
use Prim.Native.Nat.{ℕ, ◌+◌, ◌≤◌, ◌<◌}
use native.Mathlib.Omega.{arith}
use borrow.Author.Tests.{eq-eqb}
use lib.ListN.{get_or}
use Rattle.language.specs.Lexemes.{l_paren, dot, colon, dec_literal}
use Rattle.language.specs.Tokens.{Content, eof, plain}
use Rattle.language.specs.Tables.{content_kind}
use Rattle.language.specs.Sentences.{Stmt, port, Out, ok, no, most_steps, most_lists, is, program}
use Rattle.language.specs.Grammar.{is_step}
use Rattle.language.specs.Bounds.{alone, reached}
use Rattle.language.specs.Counted.{turn, too_many, Counted, CountedInPrograms}
use Rattle.language.proofs.Tests.{never, either}
use Rattle.language.proofs.Forms.{port_kind}
use Rattle.language.proofs.Bounds.{Passed, bounded}
use Rattle.language.proofs.SentenceWalk.{Quiet, of_path, of_name, of_bool, of_string, of_hex, of_dec, of_quad, of_import, of_let, of_equals, not_kinds, Quad, Walk, found, refused, Told, program_told}
use Rattle.language.proofs.CountedTokens.{At, Passes, start, there, passed, opened, closed, dotted, slashed, after_comma, after_semi_colon, list_named, l_paren_named, dot_named, slash_named, none_named, not_before}

-- tokens that change nothing
quiet_passes : {c : Content} → Quiet c → Passes c
unfolding turn
quiet_passes of_path m o = refl
quiet_passes of_name m o = refl
quiet_passes of_bool m o = refl
quiet_passes of_string m o = refl
quiet_passes of_hex m o = refl
quiet_passes of_dec m o = refl
quiet_passes of_quad m o = refl
quiet_passes of_import m o = refl
quiet_passes of_let m o = refl
quiet_passes of_equals m o = refl

colon_passes : Passes (plain colon)
unfolding turn
colon_passes m o = refl

module _ (ts : List Content) where
  abbrev Here : ℕ → List ℕ → ℕ → Type 0
  Here m o at = At ts at m o

  -- the count has come to a token that is refused with 5, and names the one that is refused with 7
  data Counts : ℕ → ℕ → ℕ → Type 0 where
    comes : {k at m : ℕ} {o : List ℕ} → At ts at m o → Counts 5 k at
    names : {at : ℕ} → too_many ts ≡ some at → Counts 7 0 at

  quiet : {c : Content} {m at : ℕ} {o : List ℕ} → Quiet c → Here m o at → is ts at c ≡ true → Here m o (at + 1)
  quiet {c} q h e = passed ts c e h (not_kinds q).0 (quiet_passes q)

  -- a token, and a `:`
  with_colon : {c : Content} {m at : ℕ} {o : List ℕ} → Quiet c → Here m o at → is ts at c ≡ true → is ts (at + 1) (plain colon) ≡ true
      → Here m o (at + 2)
  with_colon q h e f = there ts (omega arith) (passed ts (plain colon) f (quiet q h e) refl colon_passes)

  a_port : {m at : ℕ} {o : List ℕ} → Here m o at → Quad ts at port → Here m o (at + 3)
  a_port {m} {at} {o} h q =
      let c = get_or ts (at + 2) eof in
      let k : is ts (at + 2) (plain (dec_literal 0)) ≡ true = eq-eqb (content_kind c) 18 (port_kind c q.there) in
      there ts (omega arith) (quiet of_dec (with_colon of_quad h q.quad q.colons) k)

  step_more : {m at : ℕ} {o : List ℕ} → Here m o at → most_steps ≤ m → is_step ts at ≡ true → Counts 7 0 at
  step_more {at = at} h l e =
      elim (either (is ts at (plain dot)) _ e) [
        | inl a ↦ names (dot_named ts a l h)
        | inr b ↦ elim (either (is ts at (plain l_paren)) _ b) [
          | inl a ↦ names (l_paren_named ts a l h)
          | inr a ↦ names (slash_named ts a l h)
        ]
      ]

  walk : Walk ts most_lists most_steps (Unit {0}) Here Counts
  walk = record {
    quiet = quiet;
    named_one = λ h n q. with_colon of_name h n q;
    a_port = a_port;
    dotted = λ h l q. dotted ts q (l tt) h;
    slashed = λ h l q. slashed ts q (l tt) h;
    opened = λ h l k q. opened ts q (l tt) (k tt) h;
    closed = λ h q. closed ts q h;
    after_comma = λ h q. after_comma ts q h;
    after_semi_colon = λ h q. after_semi_colon ts q h;
    not_expected = λ h. comes h;
    no_port = λ h q. comes (with_colon of_quad h q.quad q.colons);
    large_port = λ h q. comes (with_colon of_quad h q.quad q.colons);
    step_more = λ h l q. step_more h (l tt) q;
    list_more = λ h l q. names (list_named ts q (l tt) h);
    turns_out = λ h f. absurd (f tt);
  }

  abbrev Paced : Out (List Stmt) → Type 0
  Paced o = Told ts Here Counts walk (start ts) o

  program_paced : Paced (program ts)
  program_paced = program_told ts Here Counts walk (start ts)

  -- ---- so 7 is given at the token that is named

  module _ (u : ℕ) where
    seven_named : {o : Out (List Stmt)} → Paced o → o ≡ no 7 0 u → too_many ts ≡ some u
    seven_named (found h) e = never (cc)
    seven_named (refused (comes h)) e = let z : ◌≡◌ {A = ℕ} 5 7 = cc in absurd (omega (arith, z))
    seven_named (refused (names {at} h)) e = let z : at ≡ u = cc in h ∙ ap (λ (x : ℕ). some x) z

    -- a token that is named and that parsing has come past is the one that is refused
    past_named : {o : Out (List Stmt)} → Paced o → too_many ts ≡ some u → u < reached o → o ≡ no 7 0 u
    past_named (found h) e l = absurd (omega (arith, not_before ts e h.1))
    past_named (refused (comes h)) e l = absurd (omega (arith, not_before ts e h))
    past_named (refused (names {at} h)) e l = let z : at ≡ u = cc in ap (λ (x : ℕ). no 7 0 x) z

    -- where there is no refusal no token is named
    never_named : {o : Out (List Stmt)} → Paced o → too_many ts ≡ some u → (ss : List Stmt) (next x : ℕ) → ¬ o ≡ ok ss next x
    never_named (found h) e ss next x f = let z = none_named ts h.0 h.1 in never (cc)
    never_named (refused (comes h)) e ss next x f = never (cc)
    never_named (refused (names h)) e ss next x f = never (cc)

  -- where the grammar alone goes past the token that is refused, it is the one that is named
  stopped_named : (u : ℕ) → Passed ts (program ts) (alone ts) → too_many ts ≡ some u → program ts ≡ no 7 0 u
  stopped_named u f e =
      let n = seven_named f.0 program_paced f.1 in
      let z : f.0 ≡ u = cc in f.1 ∙ ap (λ (x : ℕ). no 7 0 x) z

  -- and it does so where 7 is given
  gone_past : (u : ℕ) → program ts ≡ no 7 0 u → u < reached (alone ts)
  gone_past u e =
      elim (bounded ts) [
        | inl f ↦ absurd (omega (arith, f.1 7 0 u e))
        | inr f ↦ let z : f.0 ≡ u = cc in rw (← z) f.3
      ]

-- ---- the claims

pub counted : Counted
counted ts u = (
  λ e. (seven_named ts u (program_paced ts) e, gone_past ts u e),
  λ h. elim (bounded ts) [
    | inl f ↦ past_named ts u (program_paced ts) h.0 (rw f.0 h.1)
    | inr f ↦ stopped_named ts u f h.0
  ],
)

pub counted_in_programs : CountedInPrograms
counted_in_programs ts ss next x u a = (
  seven_named ts u (program_paced ts),
  λ n. elim (bounded ts) [
    | inl f ↦ absurd (never_named ts u (program_paced ts) n ss next x (f.0 ∙ a))
    | inr f ↦ stopped_named ts u f n
  ],
)

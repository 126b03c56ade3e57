-- The names of statements stand in the order of the statements, so the first that is one too many is the earliest.
use Prim.Native.Nat.{ℕ, ◌<◌}
use mathlib.Core.Path.{◌≡◌, refl, sym, ◌∙◌}
use mathlib.Core.List.{List, [], ◌∷◌, ◌++◌}
use mathlib.Core.Logic.{◌⊎◌, inl, inr}
use native.Mathlib.Omega.{arith}
use Rattle.language.specs.Tokens.{Content}
use Rattle.language.specs.Sentences.{Stmt, import', let', expr'}
use Rattle.language.specs.Grammar.{Statement, is_import, is_let, is_expr, Program, is_end, is_next}
use Rattle.language.specs.Names.{NamedAt, TooMany, NamesAscend, EarlierName}
use Rattle.language.proofs.Tests.{never}
use Rattle.language.proofs.GrammarPlaces.{expr_on, stmt_on}
use Rattle.language.proofs.GrammarMet.{grammar_met}
use Rattle.language.proofs.Names.{one_token}

module _ (ts : List Content) where
  -- a statement's name stands in the statement
  named_in : {at next t : ℕ} {s : Stmt} → Statement ts at s next → NamedAt s t → (at < t) × (t < next)
  named_in (is_import a b c) e = (omega arith, omega arith)
  named_in (is_let a b c x d) e = (omega arith, omega (arith, expr_on ts x))
  named_in (is_expr x d) e = absurd e

  -- names stand after the token where the statements start
  pub named_on : {at next u : ℕ} {ss : List Stmt} → Program ts at ss next → (r : Stmt) (vs ws : List Stmt) → ss ≡ vs ++ r ∷ ws
      → NamedAt r u → at < u
  named_on (is_end e) r [] ws q n = never (cc)
  named_on (is_end e) r (v ∷ vs) ws q n = never (cc)
  named_on {u = u} (is_next {s = s} x p) r [] ws q n = let z : s ≡ r = cc in (named_in {t = u} x (rw z n)).0
  named_on (is_next {ss = ss} x p) r (v ∷ vs) ws q n =
      let z : ss ≡ vs ++ r ∷ ws = cc in omega (arith, stmt_on ts x, named_on p r vs ws z n)

  ascend : {at next t u : ℕ} {ss : List Stmt} → Program ts at ss next → (s r : Stmt) (us vs ws : List Stmt)
      → ss ≡ us ++ s ∷ vs ++ r ∷ ws → NamedAt s t → NamedAt r u → t < u
  ascend (is_end e) s r [] vs ws q m n = never (cc)
  ascend (is_end e) s r (v ∷ us) vs ws q m n = never (cc)
  ascend {t = t} (is_next {s = h} {ss} x p) s r [] vs ws q m n =
      let z : h ≡ s = cc in
      let y : ss ≡ vs ++ r ∷ ws = cc in
      omega (arith, (named_in {t = t} x (rw z m)).1, named_on p r vs ws y n)
  ascend (is_next {ss = ss} x p) s r (v ∷ us) vs ws q m n =
      let y : ss ≡ us ++ s ∷ vs ++ r ∷ ws = cc in ascend p s r us vs ws y m n

  pub too_named : (us : List Stmt) (s : Stmt) (u : ℕ) → TooMany ts us s u → NamedAt s u
  too_named us (let' t e) u m = m.0
  too_named us (import' t) u m = m.0
  too_named us (expr' e) u m = m

pub names_ascend : NamesAscend
names_ascend ts ss us vs ws s r next x t u e q m n = ascend ts ((grammar_met ts ss next).0 x e) s r us vs ws q m n

-- us and then s begin the list bs
abbrev Begins : (us : List Stmt) (s : Stmt) (bs : List Stmt) → Type 0
Begins us s bs = (ws : List Stmt) × (bs ≡ us ++ s ∷ ws)

-- of two places in a list one is before the other, or they are the same
placed : (bs us : List Stmt) (h s : Stmt) (cs vs : List Stmt) → bs ++ h ∷ cs ≡ us ++ s ∷ vs
    → Begins us s bs ⊎ (((bs ≡ us) × (h ≡ s)) ⊎ Begins bs h us)
placed [] [] h s cs vs q = inr (inl (refl, cc))
placed [] (u ∷ us) h s cs vs q = let z : h ≡ u = cc in inr (inr (us, rw z refl))
placed (b ∷ bs) [] h s cs vs q = let z : b ≡ s = cc in inl (bs, rw z refl)
placed (b ∷ bs) (u ∷ us) h s cs vs q =
    let z : b ≡ u = cc in
    let y : bs ++ h ∷ cs ≡ us ++ s ∷ vs = cc in
    elim (placed bs us h s cs vs y) [
      | inl f ↦ let g = f.1 in inl (f.0, cc)
      | inr f ↦ elim f [ inl g ↦ let k = g.0 in inr (inl (cc, g.1)) | inr g ↦ let k = g.1 in inr (inr (g.0, cc)) ]
    ]

pub earlier_name : EarlierName
earlier_name ts ss next x t e f us s vs u q m =
    elim (placed f.before us f.here s f.after vs (sym f.order ∙ q)) [
      | inl b ↦ absurd (f.first us s b.0 u b.1 m)
      | inr c ↦ elim c [
        | inl d ↦ omega (arith, one_token ts us s (rw (d.0, d.1) at f.too_many) m)
        | inr b ↦
            let o = rw b.1 at q in
            let h : t < u =
            names_ascend ts ss f.before b.0 vs f.here s next x t u e o (too_named ts f.before f.here t f.too_many)
            (too_named ts us s u m)
            in omega arith
      ]
    ]

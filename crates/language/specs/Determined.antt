-- "If two results satisfy the statement they are proved equal" (01, "What we hold each public call to").
use Rattle.std.specs.Prelude.{◌≡◌, List, ℕ}

-- what is promised leaves no choice
abbrev pub Determined : {A : Type 0} → (A → Type 0) → Type 0
Determined {A = A} Promised = (x y : A) → Promised x → Promised y → x ≡ y

-- of the five calls: each promise is of the bytes, the sizes of the tables, the answer and the tables as they are left
pub record CallsDetermined {S L P C K : Type 0}
    (Scan : List ℕ → ℕ → S → List ℕ → Type 0)
    (Lex : List ℕ → ℕ → L → List ℕ → Type 0)
    (Parse : List ℕ → ℕ → ℕ → P → List ℕ → List ℕ → Type 0)
    (Canon : List ℕ → ℕ → ℕ → C → List ℕ → List ℕ → Type 0)
    (Check : List ℕ → ℕ → ℕ → ℕ → ℕ → K → List ℕ → List ℕ → List ℕ → List ℕ → Type 0) : Type 0 where
  pub scan : (line : List ℕ) (n : ℕ) → Determined (λ ((r, t) : S × List ℕ). Scan line n r t)
  pub lex : (source : List ℕ) (n : ℕ) → Determined (λ ((r, t) : L × List ℕ). Lex source n r t)
  pub parse : (source : List ℕ) (t n : ℕ) → Determined (λ ((r, toks, tree) : P × List ℕ × List ℕ). Parse source t n r toks tree)
  pub canon : (source : List ℕ) (t n : ℕ) → Determined (λ ((r, toks, text) : C × List ℕ × List ℕ). Canon source t n r toks text)
  pub check : (source : List ℕ) (t n d k : ℕ)
      → Determined (λ ((r, toks, tree, found, held) : K × List ℕ × List ℕ × List ℕ × List ℕ). Check source t n d k r toks tree found held)

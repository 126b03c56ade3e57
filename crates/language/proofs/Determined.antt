-- A promise that says what its result is leaves no choice.
use mathlib.Core.Path.{◌≡◌, ◌∙⁻¹◌}
use Rattle.language.specs.Determined.{Determined, CallsDetermined}
use Rattle.language.specs.Numbers.{Scanned, Lexed, Parsed, Canonised, Checked}
use Rattle.language.specs.Entries.{ScanPromise, LexPromise, ParsePromise, CanonPromise, CheckPromise}

pub determined : {A : Type 0} {Promised : A → Type 0} {z : A} → ((x : A) → Promised x → x ≡ z) → Determined Promised
determined told x y p q = told x p ∙⁻¹ told y q

-- each call's is an equation for the answer, in whatever form, and one for each table
pub calls_determined : {S L P C K : Type 0} (s : Scanned → S) (l : Lexed → L) (p : Parsed → P) (c : Canonised → C) (k : Checked → K)
    → CallsDetermined (ScanPromise s) (LexPromise l) (ParsePromise p) (CanonPromise c) (CheckPromise k)
calls_determined s l p c k =
    record {
      scan = λ _ _. determined (λ _ h i. (h.answer i, h.table i));
      lex = λ _ _. determined (λ _ h i. (h.answer i, h.table i));
      parse = λ _ _ _. determined (λ _ h i. (h.answer i, h.tokens i, h.nodes i));
      canon = λ _ _ _. determined (λ _ h i. (h.answer i, h.table i, h.text i));
      check = λ _ _ _ _ _. determined (λ _ h i. (h.answer i, h.tokens i, h.nodes i, h.diags i, h.stmts i));
    }

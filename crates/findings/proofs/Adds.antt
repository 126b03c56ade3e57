-- What steps add, one after the other.
use mathlib.Core.Path.{◌≡◌, refl, ap, subst, ◌∙◌}
use mathlib.Core.Bool.{Bool, true, false}
use mathlib.Core.List.{List, [], ◌∷◌, ◌++◌, append-nil}
use Prim.Native.Nat.{ℕ, ◌+◌}
use native.Mathlib.Omega.{arith}
use lib.ListN.{length, length-append}
use Rattle.table.specs.Table.{put_row}
use Rattle.language.specs.Choice.{if'}
use Rattle.language.specs.Tokens as tokens
use Rattle.language.specs.Judgements as judgements
use Rattle.language.specs.Judgements.{Diag, diag, is_error, errors_in, warnings_in, unknown_name, unknown_item, unknown_module, not_imported, not_a_module, not_a_value, already_bound, no_members, operand_type, not_callable, too_many_args, too_few_args, arg_type, void_value, integral_too_large, multiple_imports, discarded_value, truncated, overflow}
use Rattle.language.specs.Findings.{diag_row}
use Rattle.language.specs.Numbers.{token_of, sum}
use Rattle.rows.specs.declared.token.Token.{Token}
use Rattle.rows.specs.Tokens.{token_as}
use Rattle.language.proofs.Tests.{each_side}
use Rattle.language.proofs.JudgementClaims.{all_counted, errors_append}
use Rattle.language.proofs.Comparisons.{sum_append}
use Rattle.findings.specs.declared.What.{What}
use Rattle.findings.specs.declared.Diagnostic.{Diagnostic}
use Rattle.findings.specs.declared.Counts.{Counts}
use Rattle.findings.specs.Findings.{kind_number, severity_number, shows_name, what_as, placed, at_token, diagnostic_as, diagnostic_row, plus_finding, plus_search, added, Reports, Adds}
use Rattle.findings.proofs.Rows.{no_rows, one_row, more_rows}
use Rattle.findings.proofs.Texts.{diagnostic_row_lem}

-- ---- one more

abbrev counts : Counts → ℕ → ℕ → ℕ → Counts
counts c e w m =
    record {
      used = c.used;
      imported = c.imported;
      slots = c.slots;
      errors = e;
      warnings = w;
      statements = c.statements;
      number = c.number;
      comparisons = m;
    }

-- ---- counts

added_is : (c : Counts) (ds : List Diag) (ls : List ℕ) {e w m : ℕ} → e ≡ c.errors + errors_in ds → w ≡ c.warnings + warnings_in ds
    → m ≡ c.comparisons + sum ls → counts c e w m ≡ added c ds ls
unfolding added
added_is c ds ls p q o = rw (p, q, o)

added_none : (c : Counts) → c ≡ added c [] []
unfolding errors_in warnings_in sum
added_none c = added_is c [] [] (omega arith) (omega arith) (omega arith)

-- a search
pub added_look : (c : Counts) (l : ℕ) → plus_search c l ≡ added c [] (l ∷ [])
unfolding errors_in warnings_in sum
added_look c l = added_is c [] (l ∷ []) (omega arith) (omega arith) (omega arith)

warnings_append : (ds es : List Diag) → warnings_in (ds ++ es) ≡ warnings_in ds + warnings_in es
warnings_append ds es =
    omega (arith, all_counted ds, all_counted es, all_counted (ds ++ es), errors_append ds es, length-append ds es)

added_both : (c : Counts) (ds es : List Diag) (ls ms : List ℕ) → added (added c ds ls) es ms ≡ added c (ds ++ es) (ls ++ ms)
unfolding added
added_both c ds es ls ms =
    added_is c (ds ++ es) (ls ++ ms) (omega (arith, errors_append ds es)) (omega (arith, warnings_append ds es)) (omega (arith, sum_append ls ms))

severity_is : (token_at : ℕ → tokens.Token) (w : judgements.What) → severity_number (kind_number (what_as token_at w)) ≡ if' (is_error w) 1 2
unfolding severity_number
severity_is t unknown_name = refl
severity_is t (unknown_item m) = refl
severity_is t unknown_module = refl
severity_is t not_imported = refl
severity_is t not_a_module = refl
severity_is t not_a_value = refl
severity_is t (already_bound k) = refl
severity_is t (no_members y) = refl
severity_is t (operand_type x y z) = refl
severity_is t (not_callable y) = refl
severity_is t (too_many_args f x y) = refl
severity_is t (too_few_args f x y) = refl
severity_is t (arg_type f i x y) = refl
severity_is t void_value = refl
severity_is t integral_too_large = refl
severity_is t multiple_imports = refl
severity_is t (discarded_value y) = refl
severity_is t (truncated n y) = refl
severity_is t (overflow x y) = refl

plus_by : (c : Counts) (w : What) (b : Bool) {e v m : ℕ} → severity_number (kind_number w) ≡ if' b 1 2 → e ≡ c.errors + if' b 1 0
    → v ≡ c.warnings + if' b 0 1 → m ≡ c.comparisons → plus_finding c w ≡ counts c e v m
unfolding plus_finding
plus_by c w true h p q o = let z : c.warnings + 0 ≡ c.warnings = omega arith in rw (h, p, q, o, z)
plus_by c w false h p q o = let z : c.errors + 0 ≡ c.errors = omega arith in rw (h, p, q, o, z)

plus_is : (s : List ℕ) (c : Counts) (n at : ℕ) (w : judgements.What) → plus_finding c (what_as (token_of s) w) ≡ added c (diag n at w ∷ []) []
unfolding added errors_in warnings_in sum
plus_is s c n at w = plus_by c (what_as (token_of s) w) (is_error w) (severity_is (token_of s) w) (omega arith) (omega arith) (omega arith)

-- ---- what is added

what_at : (tok : Token) (w : What) → (at_token tok w).what ≡ w
unfolding placed
what_at tok w = each_side (λ (d : Diagnostic). d.what ≡ w) (shows_name (kind_number w)) refl refl

found_more : (c : Counts) (ds : List Diag) (ls : List ℕ) → (added c ds ls).errors + (added c ds ls).warnings ≡ c.errors + c.warnings + length ds
unfolding added
found_more c ds ls = omega (arith, all_counted ds)

pub adds_none : (s : List ℕ) (c : Counts) (x : List ℕ) → Adds s c x c x [] []
adds_none s c x = record { counted = added_none c; diags = no_rows (diag_row (token_of s)) x (c.errors + c.warnings) }

pub adds_look : (s : List ℕ) {c c' : Counts} {x : List ℕ} (l : ℕ) → c' ≡ plus_search c l → Adds s c x c' x [] (l ∷ [])
adds_look s {c} {x = x} l p =
    record { counted = p ∙ added_look c l; diags = no_rows (diag_row (token_of s)) x (c.errors + c.warnings) }

-- one finding of the statement n, which is judged, that was reported
pub adds_reported : (s : List ℕ) (n at : ℕ) (w : judgements.What) {c c' : Counts} {x y : List ℕ} {d : Diagnostic} → n ≡ c.number
    → d ≡ diagnostic_as s at w → Reports c d x c' y → Adds s c x c' y (diag n at w ∷ []) []
adds_reported s n at w {c} {x = x} same e r =
    record {
      counted = r.counted ∙ ap (plus_finding c) (ap (λ (d : Diagnostic). d.what) e ∙ what_at (token_as (token_of s at)) (what_as (token_of s) w)) ∙ plus_is s c n at w;
      diags = r.table ∙ ap (put_row x (c.errors + c.warnings)) (rw (← same) (ap (diagnostic_row n) e) ∙ diagnostic_row_lem s n at w) ∙ one_row (diag_row (token_of s)) x (c.errors + c.warnings) (diag n at w);
    }

-- one step after another
pub adds_then : {s : List ℕ} {c c1 c2 : Counts} {x y z : List ℕ} {ds es : List Diag} {ls ms : List ℕ} → Adds s c x c1 y ds ls
    → Adds s c1 y c2 z es ms → Adds s c x c2 z (ds ++ es) (ls ++ ms)
adds_then {s} {c} {c1} {x = x} {ds = ds} {es} {ls} {ms} a b =
    let k : c1.errors + c1.warnings ≡ c.errors + c.warnings + length ds = rw a.counted (found_more c ds ls) in
    record {
      counted = b.counted ∙ ap (λ (d : Counts). added d es ms) a.counted ∙ added_both c ds es ls ms;
      diags = b.diags ∙ rw (a.diags, k) (more_rows (diag_row (token_of s)) x (c.errors + c.warnings) ds es);
    }

-- one that searches no name after another
pub adds_last : {s : List ℕ} {c c1 c2 : Counts} {x y z : List ℕ} {ds es : List Diag} {ls : List ℕ} → Adds s c x c1 y ds ls
    → Adds s c1 y c2 z es [] → Adds s c x c2 z (ds ++ es) ls
adds_last {s} {c} {c2 = c2} {x = x} {z = z} {ds} {es} {ls} a b =
    subst (λ (l : List ℕ). Adds s c x c2 z (ds ++ es) l) (append-nil ls) (adds_then a b)

-- what was found is counted, and so is what is compared; the other counts stay the same
module _ {s : List ℕ} {c c' : Counts} {x y : List ℕ} {ds : List Diag} {ls : List ℕ} (a : Adds s c x c' y ds ls) where
  pub adds_count : c'.errors + c'.warnings ≡ c.errors + c.warnings + length ds
  adds_count = rw a.counted (found_more c ds ls)

  pub adds_compared : c'.comparisons ≡ c.comparisons + sum ls
  unfolding added
  adds_compared = ap (λ (d : Counts). d.comparisons) a.counted

  pub adds_number : c'.number ≡ c.number
  unfolding added
  adds_number = ap (λ (d : Counts). d.number) a.counted

  pub adds_used : c'.used ≡ c.used
  unfolding added
  adds_used = ap (λ (d : Counts). d.used) a.counted

  pub adds_imported : c'.imported ≡ c.imported
  unfolding added
  adds_imported = ap (λ (d : Counts). d.imported) a.counted

  pub adds_slots : c'.slots ≡ c.slots
  unfolding added
  adds_slots = ap (λ (d : Counts). d.slots) a.counted

  pub adds_statements : c'.statements ≡ c.statements
  unfolding added
  adds_statements = ap (λ (d : Counts). d.statements) a.counted

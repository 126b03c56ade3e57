-- What the tables of names hold: the search finds the definition's binding or import.
use mathlib.Core.Path.{◌≡◌, refl, sym, ap, ◌∙◌}
use mathlib.Core.List.{List}
use mathlib.Core.Option.{Option, none, some}
use Prim.Native.Nat.{ℕ, zero, suc, ◌+◌, ◌≤◌, ◌<◌}
use native.Mathlib.Omega.{arith}
use Rattle.language.specs.Tokens.{Content}
use Rattle.language.specs.Judgements.{err, poisoned, unknown_name, not_imported, Binding, find, find_import, compared, bound_to, below, walk}
use Rattle.names.specs.Names.{name_word, listed, names_in, place, looked}
use Rattle.names.proofs.Names.{First, found_from, same_place}
use Rattle.findings.specs.declared.Counts.{Counts}
use Rattle.findings.specs.Findings.{plus_search}
use Rattle.values.specs.Values.{Judged, held_as, judged_as}
use Rattle.values.proofs.Values.{held_canon}
use Rattle.judging.specs.Judging.{binding_at, bound_in, import_at, imports_in, Sound}

module _ (s ws : List ℕ) (w : List ℕ) (used r : ℕ) (e : r ≡ place (names_in s ws used 0) w) where
  in_bindings : First (binding_at s ws) (λ b. b.name) (bound_in s ws used 0) used 0 w r
  unfolding bound_in
  in_bindings = found_from s ws (binding_at s ws) (λ b. b.name) (λ i. refl) used 0 w r e

  in_imports : First (import_at s ws) (λ m. m.name) (imports_in s ws used 0) used 0 w r
  unfolding imports_in
  in_imports = found_from s ws (import_at s ws) (λ m. m.name) (λ i. refl) used 0 w r e

  pub bound_found : r < used → find (bound_in s ws used 0) w ≡ some (binding_at s ws r)
  bound_found h = in_bindings.hit (omega arith) h

  pub bound_lost : used ≤ r → find (bound_in s ws used 0) w ≡ none
  bound_lost h = in_bindings.lost h

  pub import_found : r < used → find_import (imports_in s ws used 0) w ≡ some (import_at s ws r)
  import_found h = in_imports.hit (omega arith) h

  pub import_lost : used ≤ r → find_import (imports_in s ws used 0) w ≡ none
  import_lost h = in_imports.lost h

-- ---- a name's value

module _ (s : List ℕ) (ts : List Content) (t : ℕ) where
  module _ (ws : List ℕ) (w v : List ℕ) (used i : ℕ) (p : i ≡ place (names_in s ws used 0) w) (o : w ≡ v) where
    e : i ≡ place (names_in s ws used 0) v
    e = same_place (names_in s ws used 0) p o

    pub local_found : {r : Judged} → i < used → Sound ws used
        → r ≡ held_as t (name_word ws i 3) (name_word ws i 4) (name_word ws i 5) (name_word ws i 6) → r ≡ judged_as s (bound_to ts t (find (bound_in s ws used 0) v))
    local_found h c q =
        q ∙ held_canon s t (c i h)
        ∙ sym (ap (λ (o : Option Binding). judged_as s (bound_to ts t o)) (bound_found s ws v used i e h))

    pub local_lost : {r : Judged} → used ≤ i → r ≡ judged_as s (err t unknown_name) → r ≡ judged_as s (bound_to ts t (find (bound_in s ws used 0) v))
    local_lost h q = q ∙ rw (bound_lost s ws v used i e h)

-- what the search compares, of a table's names and of the bindings that it stands for
same_looks : (s ws w : List ℕ) (k i : ℕ) → looked (names_in s ws k i) w ≡ compared (bound_in s ws k i) w
unfolding looked names_in compared bound_in listed
same_looks s ws w zero i = refl
same_looks s ws w (suc k) i = rw (same_looks s ws w k (i + 1))

pub counted_look : (s ws : List ℕ) {w v : List ℕ} (used : ℕ) (c : Counts) {d : Counts} {n : ℕ} → d ≡ plus_search c n → n ≡ looked (names_in s ws used 0) w → w ≡ v
    → d ≡ plus_search c (compared (bound_in s ws used 0) v)
counted_look s ws {v = v} used c p q o = p ∙ ap (plus_search c) (q ∙ ap (looked (names_in s ws used 0)) o ∙ same_looks s ws v used 0)

-- ---- a path's module

module _ (s : List ℕ) (ws : List ℕ) (used i t n : ℕ) (ts : List Content) (w v : List ℕ) (p : i ≡ place (names_in s ws used 0) w) (o : w ≡ v) where
  e' : i ≡ place (names_in s ws used 0) v
  e' = same_place (names_in s ws used 0) p o

  pub below_failed : (top : ℕ) → i < used → top ≡ name_word ws i 4 → top ≡ 0 → poisoned ≡ below ts t n (find_import (imports_in s ws used 0) v)
  below_failed zero h q z = rw (import_found s ws v used i e' h, ← q)
  below_failed (suc m) h q z = absurd (omega arith)

  pub below_found : (top : ℕ) → i < used → top ≡ name_word ws i 4 → (top ≡ 0 → ⊥) → walk ts t n top t ≡ below ts t n (find_import (imports_in s ws used 0) v)
  below_found zero h q z = absurd (z refl)
  below_found (suc m) h q z = rw (import_found s ws v used i e' h, ← q)

  pub below_lost : used ≤ i → err t not_imported ≡ below ts t n (find_import (imports_in s ws used 0) v)
  below_lost h = rw (import_lost s ws v used i e' h)

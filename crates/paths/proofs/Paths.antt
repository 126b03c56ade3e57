-- A path through the constant table, name by name.
use mathlib.Core.Path.{◌≡◌, refl, sym, ap, ◌∙◌}
use mathlib.Core.Bool.{Bool, true, false, ◌&&◌, and-false}
use mathlib.Core.List.{List, [], ◌∷◌}
use mathlib.Core.Option.{Option, none, some}
use Prim.Native.Nat.{ℕ, zero, suc, ◌+◌, ◌-◌, ◌≤◌, ◌<◌}
use native.Mathlib.Omega.{arith}
use native.Mathlib.Decide.{dec_le}
use lib.Dec.{eqb}
use lib.ListN.{length}
use Rattle.std.specs.Prelude.{Ok}
use Rattle.constants.specs.Constants.{table_rows, kind_of, low_of, high_of, or_zero, entry_word}
use Rattle.constants.proofs.Entries.{words}
use Rattle.language.specs.Choice.{if'}
use Rattle.language.specs.Lexemes.{same}
use Rattle.language.specs.Tokens as tokens
use Rattle.language.specs.Tokens.{Content, contents}
use Rattle.language.specs.Values as values
use Rattle.language.specs.Values.{Entry, entries, entry_at, entry_name, table_text, lookup_from, lookup}
use Rattle.language.specs.Judgements.{err, poisoned, unknown_item, not_a_module, not_a_value, name_at, walk, last_item, inner_item}
use Rattle.language.specs.Terms as terms
use Rattle.language.specs.Judgements as judgements
use Rattle.language.proofs.TokensAt.{content_of_lem, past_token}
use Rattle.values.specs.declared.Term.{Term}
use Rattle.values.specs.Values.{judged_as}
use Rattle.values.proofs.Values.{some_kind}
use Rattle.paths.specs.Paths.{or_none}

-- no entry has an empty name
no_empty : (m : ℕ) → lookup m [] ≡ none
unfolding lookup_from entries table_text
no_empty m = simp and-false refl

-- an entry's number is 1 or more
abbrev AtLeast : ℕ → Option ℕ → Type 0
AtLeast k none = Unit {0}
AtLeast k (some j) = k ≤ j

at_least_step : (b : Bool) (k : ℕ) (o : Option ℕ) → AtLeast (suc k) o → AtLeast k (if' b (some k) o)
at_least_step true k o h = omega arith
at_least_step false k none h = h
at_least_step false k (some j) h = omega (arith, h)

at_least : (es : List Entry) (k m : ℕ) (bs : List ℕ) → AtLeast k (lookup_from es k m bs)
unfolding lookup_from
at_least [] k m bs = tt
at_least (e ∷ es) k m bs = at_least_step (eqb e.inside m && same (entry_name e) bs) k (lookup_from es (suc k) m bs) (at_least es (suc k) m bs)

is_none : (o : Option ℕ) → AtLeast 1 o → 0 ≡ or_zero o → o ≡ none
is_none none h e = refl
is_none (some j) h e = absurd (omega (arith, h, e))

is_some : (o : Option ℕ) (k : ℕ) → k ≡ or_zero o → (k ≡ 0 → ⊥) → o ≡ some k
is_some none k e n = absurd (n e)
is_some (some j) k e n = ap some (sym e)

module _ (s : List ℕ) where
  abbrev texts : List Content
  texts = contents (tokens.tokens s)

  module _ (p left inside at k : ℕ) (e : k ≡ or_zero (lookup inside (name_at texts (at + 2)))) where
    module _ (z : k ≡ 0) where
      none_there : lookup inside (name_at texts (at + 2)) ≡ none
      none_there = is_none (lookup inside (name_at texts (at + 2))) (at_least entries 1 inside (name_at texts (at + 2))) (sym z ∙ e)

      missing : (n : ℕ) → 0 < n → err (at + 2) (unknown_item inside) ≡ walk texts p n inside at
      unfolding walk
      missing zero h = absurd (omega arith)
      missing (suc zero) h =
          ap (λ (o : Option ℕ). elim o [ none ↦ err (at + 2) (unknown_item inside) | some j ↦ last_item texts p (at + 2) (entry_at j).value ]) (sym none_there)
      missing (suc (suc n)) h =
          ap (λ (o : Option ℕ). elim o [ none ↦ err (at + 2) (unknown_item inside) | some j ↦ inner_item texts (at + 2) (entry_at j).value (walk texts p (suc n) j (at + 2)) ]) (sym none_there)

    pub walk_missing : 0 < left → k ≡ 0 → err (at + 2) (unknown_item inside) ≡ walk texts p left inside at
    walk_missing l z = missing z left l

    module _ (n : k ≡ 0 → ⊥) where
      there : lookup inside (name_at texts (at + 2)) ≡ some k
      there = is_some (lookup inside (name_at texts (at + 2))) k e n

      -- a name that is found is a token of the source
      pub in_source : at + 2 < length (tokens.tokens s)
      in_source =
          elim (dec_le (suc (at + 2)) (length (tokens.tokens s))) [
            | yes h ↦ h
            | no h ↦
                let c : name_at texts (at + 2) ≡ [] = ap judgements.name_in (content_of_lem s (at + 2) ∙ ap (λ (t : tokens.Token). t.content) (past_token s (at + 2) (omega arith))) in
                let z : k ≡ 0 = e ∙ ap (λ (bs : List ℕ). or_zero (lookup inside bs)) c ∙ ap or_zero (no_empty inside) in
                absurd (n z)
          ]

      pub walk_last : left ≡ 1 → last_item texts p (at + 2) (entry_at k).value ≡ walk texts p left inside at
      unfolding walk
      walk_last l =
          rw l (ap (λ (o : Option ℕ). elim o [ none ↦ err (at + 2) (unknown_item inside) | some j ↦ last_item texts p (at + 2) (entry_at j).value ]) (sym there))

      inner : (m : ℕ) → walk texts p (suc (suc m)) inside at ≡ inner_item texts (at + 2) (entry_at k).value (walk texts p (suc m) k (at + 2))
      unfolding walk
      inner m =
          ap (λ (o : Option ℕ). elim o [ none ↦ err (at + 2) (unknown_item inside) | some j ↦ inner_item texts (at + 2) (entry_at j).value (walk texts p (suc m) j (at + 2)) ]) there

      not_module : (o : Option values.Value) (on : judgements.Judged terms.Term) → (kind_of o ≡ 0 → ⊥) → err (at + 2) not_a_module ≡ inner_item texts (at + 2) o on
      not_module none on h = absurd (h refl)
      not_module (some v) on h = refl

      a_module : (o : Option values.Value) (on : judgements.Judged terms.Term) → kind_of o ≡ 0 → on ≡ inner_item texts (at + 2) o on
      a_module none on h = refl
      a_module (some v) on h = absurd (some_kind v h)

      two_left : 0 < left → (left ≡ 1 → ⊥) → left ≡ suc (suc (left - 2))
      two_left l h = omega arith

      module _ (l : 0 < left) (h : left ≡ 1 → ⊥) where
        pub walk_stops : (kind_of (entry_at k).value ≡ 0 → ⊥) → err (at + 2) not_a_module ≡ walk texts p left inside at
        walk_stops z =
            not_module (entry_at k).value (walk texts p (suc (left - 2)) k (at + 2)) z ∙ sym (inner (left - 2))
            ∙ ap (λ (n : ℕ). walk texts p n inside at) (sym (two_left l h))

        pub walk_on : kind_of (entry_at k).value ≡ 0 → walk texts p (left - 1) k (at + 2) ≡ walk texts p left inside at
        walk_on z =
            let one : left - 1 ≡ suc (left - 2) = omega arith in
            ap (λ (n : ℕ). walk texts p n k (at + 2)) one ∙ a_module (entry_at k).value (walk texts p (suc (left - 2)) k (at + 2)) z ∙ sym (inner (left - 2))
            ∙ ap (λ (n : ℕ). walk texts p n inside at) (sym (two_left l h))

  pub walk_ended : (p left inside at : ℕ) → left ≤ 0 → poisoned ≡ walk texts p left inside at
  unfolding walk
  walk_ended p zero inside at h = refl
  walk_ended p (suc n) inside at h = absurd (omega arith)

-- the value of an entry, or none
pub item_value : (s : List ℕ) (ts : List Content) (p t k l h : ℕ) (o : Option values.Value) {w : Term} → k ≡ kind_of o → l ≡ low_of o → h ≡ high_of o
    → (k ≡ 0 → ⊥) → w ≡ record { at = p; form = 1; kind = k; lo = l; hi = h } → Ok w ≡ judged_as s (last_item ts p t o)
item_value s ts p t k l h none a b c n e = absurd (n a)
item_value s ts p t k l h (some v) a b c n e = ap Ok e ∙ rw (a, b, c)

pub item_module : (ts : List Content) (p t : ℕ) (o : Option values.Value) → kind_of o ≡ 0 → last_item ts p t o ≡ err t not_a_value
item_module ts p t none h = refl
item_module ts p t (some v) h = absurd (some_kind v h)

-- ---- the words of an entry

module _ (k : ℕ) {rows : List ℕ} {x : ℕ} (r : rows ≡ table_rows) where
  pub entry_kind : x ≡ entry_word rows k 3 → x ≡ kind_of (entry_at k).value
  entry_kind e = e ∙ rw r (words k).kind

  pub entry_low : x ≡ entry_word rows k 4 → x ≡ low_of (entry_at k).value
  entry_low e = e ∙ rw r (words k).low

  pub entry_high : x ≡ entry_word rows k 5 → x ≡ high_of (entry_at k).value
  entry_high e = e ∙ rw r (words k).high

-- a name that was read, looked up
pub looked : (s : List ℕ) (m t : ℕ) {k : ℕ} {w : List ℕ} → w ≡ name_at (contents (tokens.tokens s)) t → k ≡ or_zero (lookup m w)
    → k ≡ or_zero (lookup m (name_at (contents (tokens.tokens s)) t))
looked s m t e q = q ∙ ap (λ (w : List ℕ). or_zero (lookup m w)) e

-- ---- a module that was looked up

pub module_of : (o : Option ℕ) → AtLeast 1 o → or_none (or_zero o) ≡ o
module_of none h = refl
module_of (some zero) h = absurd (omega (arith, h))
module_of (some (suc j)) h = refl

pub found_module : (m : ℕ) (bs : List ℕ) → or_none (or_zero (lookup m bs)) ≡ lookup m bs
found_module m bs = module_of (lookup m bs) (at_least entries 1 m bs)

-- What each function gives and takes; every other entry gives nothing and takes nothing.
use Prim.Native.Nat.{ℕ, zero, suc, ◌≤◌, ◌<◌}
use native.Mathlib.Omega.{arith}
use native.Mathlib.Decide.{dec_lt}
use mathlib.Core.Path.{◌≡◌, refl, ◌∙◌, sym, ap}
use mathlib.Core.Bool.{Bool, true, false, ◌&&◌, ◌||◌, false≢true}
use mathlib.Core.List.{List, [], ◌∷◌}
use borrow.Author.Tests.{eqb-true, ne_eqb}
use lib.Dec.{eqb}
use lib.ListN.{length, get_or}
use Rattle.language.specs.Values.{ty_kind, Param, Entry, entries, entry_at}
use Rattle.language.proofs.Tests.{both}
use Rattle.language.proofs.SpellingRuns.{up_to, up_to_lem}
use Rattle.language.proofs.Table.{few_params}
use Rattle.constants.specs.declared.Parameter.{Parameter}
use Rattle.constants.specs.declared.Signature.{Signature}
use Rattle.constants.specs.Constants.{no_param, parameter_as, signature_as, param_of, signature_of}
use Rattle.constants.proofs.Entries.{past_entry}

-- a parameter that is not there
abbrev pub absent : Parameter
absent = parameter_as 1 0 0

-- the signature of an entry with a number
pub record Signed (j gives params : ℕ) (first second : Parameter) : Type 0 where
  pub is : signature_as gives params first second ≡ signature_of (entry_at j)

pub ping : Signed 7 10 1 (parameter_as 7 52 54) absent
unfolding entries signature_of
ping = record { is = refl }

pub pause : Signed 10 12 1 (parameter_as 5 43 47) absent
unfolding entries signature_of
pause = record { is = refl }

pub burst : Signed 11 11 2 (parameter_as 8 52 54) (parameter_as 9 54 58)
unfolding entries signature_of
burst = record { is = refl }

pub mark : Signed 12 1 1 (parameter_as 2 62 64) absent
unfolding entries signature_of
mark = record { is = refl }

pub pick : Signed 13 5 1 (parameter_as 4 68 72) absent
unfolding entries signature_of
pick = record { is = refl }

pub host : Signed 14 7 1 (parameter_as 3 76 82) absent
unfolding entries signature_of
host = record { is = refl }

-- what the code makes of it
pub signed : {j k gives params : ℕ} {a b p q : Parameter} → Signed j gives params a b → k ≡ j → p ≡ a → q ≡ b → {r : Signature}
    → r ≡ signature_as gives params p q → r ≡ signature_of (entry_at k)
signed {j} {k} {gives} {params} {a} {b} {p} {q} h e u v w =
    w ∙ ap (λ (x : Parameter). signature_as gives params x q) u ∙ ap (λ (x : Parameter). signature_as gives params a x) v ∙ h.is
    ∙ ap (λ (n : ℕ). signature_of (entry_at n)) (sym e)

-- ---- every other entry

takes_nothing : Entry → Bool
takes_nothing e = eqb (ty_kind e.gives) 1 && eqb (length e.params) 0

is_function : ℕ → Bool
is_function k = eqb k 7 || eqb k 10 || eqb k 11 || eqb k 12 || eqb k 13 || eqb k 14

test : ℕ → Bool
test k = is_function k || takes_nothing (entry_at k)

tested : up_to test 15 ≡ true
unfolding entries test is_function takes_nothing
tested = refl

nothing_by : (e : Entry) → takes_nothing e ≡ true → signature_as 1 0 absent absent ≡ signature_of e
unfolding takes_nothing signature_of
nothing_by e h =
    let x = both _ _ h in
    by e.params (eqb-true _ 0 x.1) (eqb-true _ 1 x.0)
  where
    by : (ps : List Param) → length ps ≡ 0 → ty_kind e.gives ≡ 1 → signature_as 1 0 absent absent ≡ signature_as (ty_kind e.gives) (length ps) (param_of ps 0) (param_of ps 1)
    by [] l g = rw g refl
    by (p ∷ ps) l g = absurd (omega (arith, l))

if_not : (a b : Bool) → a ≡ false → a || b ≡ true → b ≡ true
if_not false b e h = h
if_not true b e h = absurd (false≢true (sym e))

other : (k : ℕ) → (k ≡ 7 → ⊥) → (k ≡ 10 → ⊥) → (k ≡ 11 → ⊥) → (k ≡ 12 → ⊥) → (k ≡ 13 → ⊥) → (k ≡ 14 → ⊥)
    → signature_as 1 0 absent absent ≡ signature_of (entry_at k)
unfolding test is_function signature_of
other k a b c d e f =
    elim (dec_lt k 15) [
      | yes lt ↦ nothing_by (entry_at k) (within lt)
      | no ge ↦ past k (omega arith)
    ]
  where
    within : k < 15 → takes_nothing (entry_at k) ≡ true
    within lt = if_not (is_function k) _ (rw (ne_eqb k 7 a, ne_eqb k 10 b, ne_eqb k 11 c, ne_eqb k 12 d, ne_eqb k 13 e, ne_eqb k 14 f) refl) (up_to_lem test 15 tested k lt)

    past : (k : ℕ) → 15 ≤ k → signature_as 1 0 absent absent ≡ signature_of (entry_at k)
    past zero h = refl
    past (suc k) h = rw (past_entry k (omega arith)) refl

pub other_signed : {k : ℕ} → (k ≡ 7 → ⊥) → (k ≡ 10 → ⊥) → (k ≡ 11 → ⊥) → (k ≡ 12 → ⊥) → (k ≡ 13 → ⊥) → (k ≡ 14 → ⊥)
    → {p : Parameter} → p ≡ absent → {r : Signature} → r ≡ signature_as 1 0 p p → r ≡ signature_of (entry_at k)
other_signed {k} a b c d e f u w = w ∙ ap (λ (x : Parameter). signature_as 1 0 x x) u ∙ other k a b c d e f

-- ---- what is read of it

module _ (k : ℕ) {r : Signature} (h : r ≡ signature_of (entry_at k)) where
  pub gives_is : r.gives ≡ ty_kind (entry_at k).gives
  unfolding signature_of
  gives_is = ap (λ (x : Signature). x.gives) h

  pub params_are : (r.params ≡ length (entry_at k).params) × (r.params ≤ 2)
  unfolding signature_of
  params_are =
      let e : r.params ≡ length (entry_at k).params = ap (λ (x : Signature). x.params) h in
      (e, omega (arith, e, few_params k))

  pub first_is : (i : ℕ) → i ≡ 0 → r.first.ty ≡ ty_kind (get_or (entry_at k).params i no_param).type
  unfolding signature_of
  first_is i z = rw z (ap (λ (x : Signature). x.first.ty) h)

  pub second_is : (i : ℕ) → (i ≡ 0 → ⊥) → i < 2 → r.second.ty ≡ ty_kind (get_or (entry_at k).params i no_param).type
  unfolding signature_of
  second_is i z l = let e : i ≡ 1 = omega arith in rw e (ap (λ (x : Signature). x.second.ty) h)

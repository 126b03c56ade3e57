-- One judgement after another.
use mathlib.Core.Path.{◌≡◌, refl, ap, ◌∙◌}
use mathlib.Core.List.{List, ◌++◌, append_assoc}
use Prim.Native.Nat.{ℕ}
use Rattle.language.specs.Judgements.{What, Diag, Judged, val, err, poisoned, stopped, Judgement, goes_on, and_then}

-- what stops
abbrev pub NoValue : {A : Type 0} → Judged A → Type 0
NoValue (val v) = ⊥
NoValue (err at w) = Unit {0}
NoValue poisoned = Unit {0}
NoValue (stopped t) = Unit {0}

pub no_value_err : {A : Type 0} {o : Judged A} {p : ℕ} {w : What} → o ≡ err p w → NoValue o
no_value_err e = rw e tt

pub no_value_poisoned : {A : Type 0} {o : Judged A} → o ≡ poisoned → NoValue o
no_value_poisoned e = rw e tt

pub no_value_stopped : {A : Type 0} {o : Judged A} {t : ℕ} → o ≡ stopped t → NoValue o
no_value_stopped e = rw e tt

-- it stops whatever comes after it, of which a value would be another kind
abbrev pub failed : {A B : Type 0} → Judged A → Judged B
failed (val v) = poisoned
failed (err at w) = err at w
failed poisoned = poisoned
failed (stopped t) = stopped t

pub failed_stops : {A : Type 0} (B : Type 0) (o : Judged A) → NoValue (failed {A = A} {B = B} o)
failed_stops B (val v) = tt
failed_stops B (err at w) = tt
failed_stops B poisoned = tt
failed_stops B (stopped t) = tt

pub failed_same : {A : Type 0} (o : Judged A) → NoValue o → failed {A = A} {B = A} o ≡ o
failed_same (val v) h = absurd h
failed_same (err at w) h = refl
failed_same poisoned h = refl
failed_same (stopped t) h = refl

pub failed_twice : {A : Type 0} (B C : Type 0) (o : Judged A) → failed {A = B} {B = C} (failed {A = A} {B = B} o) ≡ failed {A = A} {B = C} o
failed_twice B C (val v) = refl
failed_twice B C (err at w) = refl
failed_twice B C poisoned = refl
failed_twice B C (stopped t) = refl

pub fails : {A B : Type 0} (j : Judgement A) (f : A → Judgement B) → NoValue j.out
    → and_then j f ≡ record { out = failed j.out; warns = j.warns; looks = j.looks }
unfolding and_then
fails {A} {B} j f h = by j.out h
  where
    by : (o : Judged A) → NoValue o → goes_on o j.warns j.looks f ≡ record { out = failed {A = A} {B = B} o; warns = j.warns; looks = j.looks }
    by (val v) h = absurd h
    by (err at w) h = refl
    by poisoned h = refl
    by (stopped t) h = refl

-- with a value it goes on
pub goes : {A B : Type 0} (j : Judgement A) (f : A → Judgement B) {v : A} → j.out ≡ val v
    → and_then j f ≡ record { out = (f v).out; warns = j.warns ++ (f v).warns; looks = j.looks ++ (f v).looks }
unfolding and_then
goes j f e = rw e

-- else it stays what it is
pub stays : {A : Type 0} (j : Judgement A) (f : A → Judgement A) → NoValue j.out → and_then j f ≡ j
stays {A} j f h =
    fails j f h ∙ ap (λ (o : Judged A). record { out = o; warns = j.warns; looks = j.looks }) (failed_same j.out h)

-- what it comes to is not asked what was found before
pub same_out : {A B : Type 0} (o : Judged A) (ws vs : List Diag) (ls ms : List ℕ) (f : A → Judgement B)
    → (goes_on o ws ls f).out ≡ (goes_on o vs ms f).out
same_out (val v) ws vs ls ms f = refl
same_out (err at w) ws vs ls ms f = refl
same_out poisoned ws vs ls ms f = refl
same_out (stopped t) ws vs ls ms f = refl

pub then_then : {A B C : Type 0} (j : Judgement A) (f : A → Judgement B) (g : B → Judgement C)
    → and_then (and_then j f) g ≡ and_then j (λ v. and_then (f v) g)
unfolding and_then
then_then {A} {B} j f g = by j.out
  where
    inner : (o : Judged B) (ws vs : List Diag) (ls ms : List ℕ)
        → goes_on o (ws ++ vs) (ls ++ ms) g
        ≡ record { out = (goes_on o vs ms g).out; warns = ws ++ (goes_on o vs ms g).warns; looks = ls ++ (goes_on o vs ms g).looks }
    inner (val u) ws vs ls ms = rw (append_assoc ws vs (g u).warns, append_assoc ls ms (g u).looks)
    inner (err at w) ws vs ls ms = refl
    inner poisoned ws vs ls ms = refl
    inner (stopped t) ws vs ls ms = refl

    by : (o : Judged A) → and_then (goes_on o j.warns j.looks f) g ≡ goes_on o j.warns j.looks (λ v. and_then (f v) g)
    by (val v) = inner (f v).out j.warns (f v).warns j.looks (f v).looks
    by (err at w) = refl
    by poisoned = refl
    by (stopped t) = refl

-- An answer goes by rows if it is found by one test after the other in their order.
use Prim.Native.Nat.{ℕ, ◌<◌}
use mathlib.Core.Path.{◌≡◌, refl, sym, ◌∙◌}
use mathlib.Core.Bool.{Bool, true, false, ◌&&◌, not}
use mathlib.Core.List.{List, [], ◌∷◌, ◌++◌, map, Memᴰ}
use mathlib.Core.Option.{Option, none, some}
use mathlib.Core.Logic.{◌↔◌, ◌⊎◌, inl, inr}
use native.Mathlib.Omega.{arith}
use borrow.Author.Tests.{ltb-true, ltb-false, eqb-true, eqb-false, eq-eqb, ne_eqb, not-true}
use lib.Dec.{ltb, eqb}
use Rattle.language.specs.Choice.{if'}
use Rattle.language.specs.Numbers.{Verdict, verdict}
use Rattle.language.specs.Exactly.{Row, bare, done, Given, Told, Exactly}
use Rattle.language.proofs.Tests.{both, never}

-- what is found is not nothing
pub absent : {B : Type 0} {o : Option B} {b : B} → o ≡ none → o ≡ some b → ⊥
absent e f = never (cc)

-- ---- the first row that holds

-- v is what that row tells
pub data Met (v : Verdict) : List Row → Type 1 where
  met_here : {r : Row} {rs : List Row} (h : r.when) → v ≡ r.told h → v.number ≡ r.number → Met v (r ∷ rs)
  met_later : {r : Row} {rs : List Row} → (¬ r.when) → Met v rs → Met v (r ∷ rs)

pub here : {v : Verdict} (r : Row) {rs : List Row} (h : r.when) → v ≡ r.told h → v.number ≡ r.number → Met v (r ∷ rs)
here r h t n = met_here h t n

pub later : {v : Verdict} {r : Row} {rs : List Row} → (¬ r.when) → Met v rs → Met v (r ∷ rs)
later h m = met_later h m

-- the row with a number
abbrev pub row_of : ℕ → List Row → Row
row_of n [] = bare n ⊥
row_of n (r ∷ rs) = elim (eqb n r.number) [ true ↦ r | false ↦ row_of n rs ]

-- n is no row's number
abbrev fresh : ℕ → List Row → Bool
fresh n [] = true
fresh n (r ∷ rs) = not (eqb n r.number) && fresh n rs

abbrev distinct : List Row → Bool
distinct [] = true
distinct (r ∷ rs) = fresh r.number rs && distinct rs

module _ (v : Verdict) where
  module _ (n : ℕ) (r : Row) (rs : List Row) (f : fresh n (r ∷ rs) ≡ true) where
    not_this : n ≡ r.number → ⊥
    not_this = eqb-false n r.number (not-true (eqb n r.number) (both (not (eqb n r.number)) (fresh n rs) f).0)

    not_these : fresh n rs ≡ true
    not_these = (both (not (eqb n r.number)) (fresh n rs) f).1

  -- a number that is met is a row's
  other : (n : ℕ) {rs : List Row} → fresh n rs ≡ true → Met v rs → v.number ≡ n → ⊥
  other n f (met_here {r} {rs} h t m) e = not_this n r rs f (sym e ∙ m)
  other n f (met_later {r} {rs} h m) e = other n (not_these n r rs f) m e

  untold : (n : ℕ) (rs : List Row) → fresh n rs ≡ true → v.number ≡ n → Told v rs
  untold n [] f e = tt
  untold n (r ∷ rs) f e = (λ q. absurd (not_this n r rs f (sym e ∙ q)), untold n rs (not_these n r rs f) e)

  module _ (r : Row) (rs : List Row) (d : distinct (r ∷ rs) ≡ true) where
    first_fresh : fresh r.number rs ≡ true
    first_fresh = (both (fresh r.number rs) (distinct rs) d).0

    rest_distinct : distinct rs ≡ true
    rest_distinct = (both (fresh r.number rs) (distinct rs) d).1

  module _ (n : ℕ) where
    abbrev Going : Bool → Row → List Row → Type 0
    Going t r rs = ◌↔◌ {0, 0} (v.number ≡ n) (elim t [ true ↦ r.when | false ↦ (¬ r.when) × Given n rs ])

    given_here : (t : Bool) (r : Row) (rs : List Row) → eqb n r.number ≡ t → r.when → v.number ≡ r.number → Going t r rs
    given_here true r rs e h m = (λ _. h, λ _. m ∙ sym (eqb-true n r.number e))
    given_here false r rs e h m = (λ q. absurd (eqb-false n r.number e (sym q ∙ m)), λ w. absurd (w.0 h))

    given_later : (t : Bool) (r : Row) (rs : List Row) → eqb n r.number ≡ t → (¬ r.when) → (v.number ≡ r.number → ⊥)
        → v.number ≡ n ↔ Given n rs → Going t r rs
    given_later true r rs e h m i = (λ q. absurd (m (q ∙ eqb-true n r.number e)), λ w. absurd (h w))
    given_later false r rs e h m i = (λ q. (h, i.0 q), λ w. i.1 w.1)

    given : {rs : List Row} → distinct rs ≡ true → Met v rs → v.number ≡ n ↔ Given n rs
    given d (met_here {r} {rs} h t m) = given_here (eqb n r.number) r rs refl h m
    given d (met_later {r} {rs} h m) =
        given_later (eqb n r.number) r rs refl h (other r.number (first_fresh r rs d) m) (given (rest_distinct r rs d) m)

  told : {rs : List Row} → distinct rs ≡ true → Met v rs → Told v rs
  told d (met_here {r} {rs} h t m) = (λ _. (h, t), untold r.number rs (first_fresh r rs d) m)
  told d (met_later {r} {rs} h m) = (λ q. absurd (other r.number (first_fresh r rs d) m q), told (rest_distinct r rs d) m)

  listed : {rs : List Row} → Met v rs → Memᴰ v.number (map (λ r. r.number) rs)
  listed (met_here h t m) = Memᴰ.head m
  listed (met_later h m) = Memᴰ.tail (listed m)

  pub exactly : (rs : List Row) → distinct rs ≡ true → Met v rs → Exactly v rs
  exactly rs d m = record { listed = listed m; given = λ n. given n d m; told = told d m }

-- ---- one test after the other

-- a test says whether something holds
abbrev pub Decides : Bool → Type 0 → Type 0
Decides t P = (t ≡ true → P) × (t ≡ false → ¬ P)

pub less : (a b : ℕ) → Decides (ltb a b) (a < b)
less a b = (ltb-true a b, λ e l. let k = ltb-false a b e in omega arith)

pub equal : (a b : ℕ) → Decides (eqb a b) (a ≡ b)
equal a b = (eqb-true a b, eqb-false a b)

module _ {A : Type 0} (f : A → Verdict) (n : ℕ) {rs : List Row} where
  -- what a test says, what one of two says, and what both say
  pub tested : {P : Type 0} (t : Bool) {x y : A} → Decides t P → f x ≡ verdict n 0 0 → Met (f y) rs
      → Met (f (if' t x y)) (bare n P ∷ rs)
  tested {P} true d e m = here (bare n P) (d.0 refl) e (rw e)
  tested false d e m = later (d.1 refl) m

  module _ {P Q : Type 0} where
    pub one_tested : (t u : Bool) {x y z : A} → Decides t P → Decides u Q → f x ≡ verdict n 0 0 → f y ≡ verdict n 0 0 → Met (f z) rs
        → Met (f (if' t x (if' u y z))) (bare n (P ⊎ Q) ∷ rs)
    one_tested true u d c e g m = here (bare n (P ⊎ Q)) (inl (d.0 refl)) e (rw e)
    one_tested false true d c e g m = here (bare n (P ⊎ Q)) (inr (c.0 refl)) g (rw g)
    one_tested false false d c e g m = later (λ w. elim w [ inl p ↦ d.1 refl p | inr q ↦ c.1 refl q ]) m

    pub both_tested : (t u : Bool) {x y z : A} → Decides t P → Decides u Q → f x ≡ verdict n 0 0 → Met (f y) rs → Met (f z) rs
        → Met (f (if' t (if' u x y) z)) (bare n (P × Q) ∷ rs)
    both_tested true true d c e m k = here (bare n (P × Q)) (d.0 refl, c.0 refl) e (rw e)
    both_tested true false d c e m k = later (λ w. c.1 refl w.1) m
    both_tested false u d c e m k = later (λ w. d.1 refl w.0) k

module _ {A : Type 0} (f : A → Verdict) where
  -- something is found, or nothing
  pub finds : {B : Type 0} (o : Option B) (x : B → A) {y : A} {r : Row} {rs : List Row}
      → ((b : B) → o ≡ some b → Met (f (x b)) (r ∷ rs)) → (o ≡ none → Met (f y) (r ∷ rs))
      → Met (f (elim o [ some b ↦ x b | none ↦ y ])) (r ∷ rs)
  finds none x h l = l refl
  finds (some b) x h l = h b refl

  -- where a part has refused, that; else what comes after it
  pub after : (rs : List Row) {qs : List Row} (v : Verdict) {x y : A} → fresh 0 rs ≡ true → Met v (rs ++ done) → f y ≡ v → Met (f x) qs
      → Met (f (if' (eqb v.number 0) x y)) (rs ++ qs)
  after [] v d (met_here h t n) e m = rw (eq-eqb v.number 0 n) m
  after [] v d (met_later h n) e m = absurd (h tt)
  after (r ∷ rs) v d (met_here h t n) e m =
      rw (ne_eqb v.number 0 (λ z. not_this v 0 r rs d (sym z ∙ n)), e) (met_here h t n)
  after (r ∷ rs) v d (met_later h n) e m = later h (after rs v (not_these v 0 r rs d) n e m)

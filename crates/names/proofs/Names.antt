-- Tables of names: keys, the search, and what it finds.
use mathlib.Core.Path.{◌≡◌, refl, sym, ap, ◌∙◌}
use mathlib.Core.Bool.{Bool, true, false, ◌||◌, false≢true}
use mathlib.Core.List.{List, [], ◌∷◌}
use mathlib.Core.Option.{none, some}
use Prim.Native.Nat.{ℕ, zero, suc, ◌+◌, ◌-◌, ◌≤◌, ◌<◌}
use native.Mathlib.Omega.{arith}
use native.Mathlib.Decide.{dec_le}
use borrow.Author.Tests.{eqb-true, eqb-false}
use lib.Dec.{eqb}
use lib.ListN.{length, get_or, drop, drop_of_length-le}
use lib.Seq.{drop-cons}
use Rattle.language.specs.Choice.{if'}
use Rattle.language.specs.Lexemes.{same}
use Rattle.language.specs.Judgements.{first_named}
use Rattle.language.proofs.Tests.{both, each_side}
use Rattle.names.proofs.Stores.{listed_long}
use Rattle.names.specs.declared.Found.{Found}
use Rattle.names.specs.Names.{turned, key_from, key_of, key_at, name_of, NoneOf, Keyed, Others, listed, names_in, place, looked, Finds}

-- ---- keys

module _ (w : List ℕ) (i k : ℕ) where
  pub key_step : i < length w → key_from (turned k + get_or w i 0) (drop (i + 1) w) ≡ key_from k (drop i w)
  unfolding key_from
  key_step h = let next : i + 1 ≡ suc i = omega arith in rw (next, drop-cons w i 0 h)

  pub key_end : length w ≤ i → k ≡ key_from k (drop i w)
  unfolding key_from
  key_end h = rw (drop_of_length-le w h)

same_key : (v w : List ℕ) (k : ℕ) → same v w ≡ true → key_from k v ≡ key_from k w
unfolding key_from
same_key [] [] k e = refl
same_key [] (y ∷ ys) k e = absurd (false≢true e)
same_key (x ∷ xs) [] k e = absurd (false≢true e)
same_key (x ∷ xs) (y ∷ ys) k e =
    let h = both (eqb x y) (same xs ys) e in
    rw (eqb-true x y h.0) (same_key xs ys (turned k + y) h.1)

-- a name with another key is another
pub other_key : (v w : List ℕ) {a b : ℕ} → a ≡ key_of v → b ≡ key_of w → (a ≡ b → ⊥) → false ≡ same v w
other_key v w p q n = by (same v w) refl
  where
    by : (t : Bool) → same v w ≡ t → false ≡ t
    by true e = absurd (n (p ∙ same_key v w 0 e ∙ sym q))
    by false e = refl

-- ---- the search

module _ (s : List ℕ) (ws : List ℕ) (w : List ℕ) (used i : ℕ) where
  pub search_start : 0 + place (names_in s ws (used - 0) 0) w ≡ place (names_in s ws used 0) w
  search_start = let e : used - 0 ≡ used = omega arith in rw e (omega arith)

  module _ (h : i < used) where
    more : used - i ≡ suc (used - (i + 1))
    more = omega arith

    module _ {p : List ℕ} {b : Bool} (q : p ≡ name_of s ws i) (o : b ≡ same p w) where
      tested : same (name_of s ws i) w ≡ b
      tested = sym (o ∙ ap (λ (x : List ℕ). same x w) q)

      pub search_hit : b ≡ true → i ≡ i + place (names_in s ws (used - i) i) w
      unfolding names_in listed place
      search_hit e = let t = tested ∙ e in rw (more, t) (omega arith)

      pub search_miss : b ≡ false → i + 1 + place (names_in s ws (used - (i + 1)) (i + 1)) w ≡ i + place (names_in s ws (used - i) i) w
      unfolding names_in listed place
      search_miss e = let t = tested ∙ e in rw (more, t) (omega arith)

  pub search_end : i ≤ used → used ≤ i → used ≡ i + place (names_in s ws (used - i) i) w
  unfolding names_in listed place
  search_end l h = let e : used - i ≡ 0 = omega arith in rw e (omega arith)

-- what it compares, by where it stops

looked_is : (xs : List (List ℕ)) (w : List ℕ) → (place xs w < length xs → place xs w + 1 ≡ looked xs w) × (length xs ≤ place xs w → length xs ≡ looked xs w)
unfolding place looked
looked_is [] w = (λ h. absurd (omega arith), λ h. refl)
looked_is (x ∷ xs) w = by (same x w) (looked_is xs w)
  where
    by : (b : Bool) → (place xs w < length xs → place xs w + 1 ≡ looked xs w) × (length xs ≤ place xs w → length xs ≡ looked xs w)
        → (if' b 0 (suc (place xs w)) < suc (length xs) → if' b 0 (suc (place xs w)) + 1 ≡ if' b 1 (suc (looked xs w)))
        × (suc (length xs) ≤ if' b 0 (suc (place xs w)) → suc (length xs) ≡ if' b 1 (suc (looked xs w)))
    by true g = (λ h. refl, λ h. absurd (omega arith))
    by false g = (λ h. omega (arith, g.0 (omega arith)), λ h. omega (arith, g.1 (omega arith)))

looked_most : (xs : List (List ℕ)) (w : List ℕ) → looked xs w ≤ length xs
unfolding looked
looked_most [] w = omega arith
looked_most (x ∷ xs) w = each_side (λ n. n ≤ suc (length xs)) (same x w) (omega arith) (omega (arith, looked_most xs w))

module _ (s : List ℕ) (ws : List ℕ) (w : List ℕ) (used : ℕ) where
  names_many : length (names_in s ws used 0) ≡ used
  unfolding names_in
  names_many = listed_long (name_of s ws) used 0

  pub hit_there : {i n : ℕ} → i ≡ place (names_in s ws used 0) w → i < used → n ≡ i + 1 → Finds (names_in s ws used 0) w (record { at = i; compared = n })
  hit_there {i} e h q =
      let inside : place (names_in s ws used 0) w < length (names_in s ws used 0) = omega (arith, names_many, e) in
      record { at = e; compared = q ∙ ap (λ (m : ℕ). m + 1) e ∙ (looked_is (names_in s ws used 0) w).0 inside }

  pub hit_nowhere : used ≡ place (names_in s ws used 0) w → Finds (names_in s ws used 0) w (record { at = used; compared = used })
  hit_nowhere e =
      let past : length (names_in s ws used 0) ≤ place (names_in s ws used 0) w = omega (arith, names_many, e) in
      record { at = e; compared = sym names_many ∙ (looked_is (names_in s ws used 0) w).1 past }

  -- no more than there are
  pub found_few : {r : Found} → Finds (names_in s ws used 0) w r → r.compared ≤ used
  found_few f = omega (arith, f.compared, looked_most (names_in s ws used 0) w, names_many)

-- entries with other keys are passed, each without a look at its name

module _ {ws : List ℕ} {used key : ℕ} where
  pub no_others : Others ws used key 0
  no_others = record { in_table = omega arith; other = λ i l h. absurd (omega arith) }

  pub eight_more : {n : ℕ} → Others ws used key n → n + 8 ≤ used → NoneOf ws key n (n + 8) → Others ws used key (n + 8)
  eight_more {n} o l g =
      record { in_table = l; other = λ i z h. elim (dec_le (suc i) n) [ yes d ↦ o.other i z d | no d ↦ g i (omega arith) h ] }

-- eight tests that are all false
both_false : (a b : Bool) → (a || b) ≡ false → (a ≡ false) × (b ≡ false)
both_false false false e = (refl, refl)
both_false false true e = absurd (false≢true (sym e))
both_false true b e = absurd (false≢true (sym e))

none_more : (ws : List ℕ) (key i : ℕ) {n m : ℕ} → NoneOf ws key i n → m ≡ n + 1 → eqb (key_at ws n) key ≡ false → NoneOf ws key i m
none_more ws key i {n} g e d u l h q =
    elim (dec_le (suc u) n) [ yes z ↦ g u l z q | no z ↦ let k : u ≡ n = omega arith in eqb-false (key_at ws n) key d (rw k at q) ]

module _ (ws : List ℕ) (key i : ℕ) where
  abbrev is : ℕ → Bool
  is n = eqb (key_at ws n) key

  pub none_of_8 : ((is i || is (i + 1)) || (is (i + 2) || is (i + 3))) || ((is (i + 4) || is (i + 5)) || (is (i + 6) || is (i + 7))) ≡ false → NoneOf ws key i (i + 8)
  none_of_8 e =
      let a = both_false _ _ e in
      let b = both_false _ _ a.0 in
      let c = both_false _ _ a.1 in
      let b0 = both_false _ _ b.0 in
      let b1 = both_false _ _ b.1 in
      let c0 = both_false _ _ c.0 in
      let c1 = both_false _ _ c.1 in
      let n0 : NoneOf ws key i i = λ m l h. absurd (omega arith) in
      let n1 : NoneOf ws key i (i + 1) = none_more ws key i n0 refl b0.0 in
      let n2 : NoneOf ws key i (i + 2) = none_more ws key i n1 (omega arith) b0.1 in
      let n3 : NoneOf ws key i (i + 3) = none_more ws key i n2 (omega arith) b1.0 in
      let n4 : NoneOf ws key i (i + 4) = none_more ws key i n3 (omega arith) b1.1 in
      let n5 : NoneOf ws key i (i + 5) = none_more ws key i n4 (omega arith) c0.0 in
      let n6 : NoneOf ws key i (i + 6) = none_more ws key i n5 (omega arith) c0.1 in
      let n7 : NoneOf ws key i (i + 7) = none_more ws key i n6 (omega arith) c1.0 in
      none_more ws key i n7 (omega arith) c1.1

module _ (s : List ℕ) (ws : List ℕ) (w : List ℕ) (used key : ℕ) (keyed : Keyed s ws used) (e : key ≡ key_of w) where
  passed : (n : ℕ) → n ≤ used → NoneOf ws key 0 n
      → n + place (names_in s ws (used - n) n) w ≡ place (names_in s ws used 0) w
  passed zero l o = search_start s ws w used 0
  passed (suc n) l o =
      let next : suc n ≡ n + 1 = omega arith in
      let miss = other_key (name_of s ws n) w (keyed.key n (omega arith)) e (o n (omega arith) (omega arith)) in
      rw next (search_miss s ws w used n (omega arith) refl miss refl ∙ passed n (omega arith) (λ i z h. o i z (omega arith)))

  pub search_from : (n : ℕ) → Others ws used key n → n + place (names_in s ws (used - n) n) w ≡ place (names_in s ws used 0) w
  search_from n o = passed n o.in_table o.other

-- ---- what it finds: a table's entries as a list, and the first of a name in it

-- of k entries from i on, which are the list xs, the one numbered r is the first of the name w
pub record First {A : Type 0} (entry : ℕ → A) (named : A → List ℕ) (xs : List A) (k i : ℕ) (w : List ℕ) (r : ℕ) : Type 0 where
  pub hit : {n : ℕ} → n ≡ i + r → r < k → first_named named xs w ≡ some (entry n)
  pub lost : k ≤ r → first_named named xs w ≡ none

module _ (s : List ℕ) (ws : List ℕ) {A : Type 0} (entry : ℕ → A) (named : A → List ℕ) (own : (i : ℕ) → named (entry i) ≡ name_of s ws i) where
  found_step : (k i : ℕ) (w : List ℕ) (r n : ℕ) (b : Bool) → same (name_of s ws i) w ≡ b → r ≡ if' b 0 (suc n)
      → First entry named (listed entry k (i + 1)) k (i + 1) w n → First entry named (listed entry (suc k) i) (suc k) i w r
  unfolding first_named listed
  found_step k i w r n true q e on =
      record { hit = λ {n = m} g h. let t : m ≡ i = omega arith in rw (own i, q, t); lost = λ h. absurd (omega arith) }
  found_step k i w r n false q e on =
      record { hit = λ g h. rw (own i, q) (on.hit (omega arith) (omega arith)); lost = λ h. rw (own i, q) (on.lost (omega arith)) }

  pub found_from : (k i : ℕ) (w : List ℕ) (r : ℕ) → r ≡ place (names_in s ws k i) w → First entry named (listed entry k i) k i w r
  unfolding names_in listed place first_named
  found_from zero i w r e = record { hit = λ g h. absurd (omega arith); lost = λ h. refl }
  found_from (suc k) i w r e =
      found_step k i w r (place (names_in s ws k (i + 1)) w) (same (name_of s ws i) w) refl e (found_from k (i + 1) w (place (names_in s ws k (i + 1)) w) refl)

-- of a name that is the same
pub same_place : (xs : List (List ℕ)) {w v : List ℕ} {i : ℕ} → i ≡ place xs w → w ≡ v → i ≡ place xs v
same_place xs p o = p ∙ ap (place xs) o

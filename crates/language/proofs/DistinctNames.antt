-- The distinct names among names: which they are, and what one name more adds to them.
use Prim.Native.Nat.{ℕ, ◌≤◌, ◌<◌}
use mathlib.Core.Path.{◌≡◌, refl, sym, ap, ◌∙◌}
use mathlib.Core.Bool.{Bool, true, false, ◌||◌, false≢true, or-true}
use mathlib.Core.List.{List, [], ◌∷◌, ◌++◌, append-nil, append_assoc, map, map-append, Memᴰ}
use mathlib.Core.Logic.{inl, inr}
use native.Mathlib.Omega.{arith}
use borrow.Author.Tests.{eq-eqb}
use lib.ListN.{length, length-append, length-map}
use Rattle.language.specs.Choice.{if'}
use Rattle.language.specs.Lexemes.{same}
use Rattle.language.specs.Names.{without, distinct, NewAfter}
use Rattle.language.proofs.Tests.{either, same_equal, each_side}

-- ---- the test of names

same_itself : (w : List ℕ) → same w w ≡ true
same_itself [] = refl
same_itself (x ∷ xs) = rw (eq-eqb x x refl) (same_itself xs)

-- whether w is among names
unfoldable pub among : List ℕ → List (List ℕ) → Bool
among w [] = false
among w (x ∷ xs) = same x w || among w xs

member_among : {w : List ℕ} {ws : List (List ℕ)} → Memᴰ w ws → among w ws ≡ true
unfolding among
member_among (Memᴰ.head {x} {xs} e) = rw (e, same_itself x)
member_among {w} (Memᴰ.tail {x} {xs} m) = rw (member_among m) (or-true (same x w))

among_member : (w : List ℕ) (ws : List (List ℕ)) → among w ws ≡ true → Memᴰ w ws
unfolding among
among_member w [] e = absurd (false≢true e)
among_member w (x ∷ xs) e =
    elim (either (same x w) (among w xs) e) [
      | inl h ↦ Memᴰ.head (sym (same_equal x w h))
      | inr h ↦ Memᴰ.tail (among_member w xs h)
    ]

-- ---- the distinct ones

module _ (w : List ℕ) where
  -- leaving out another name
  among_without : (x : List ℕ) (ws : List (List ℕ)) → same x w ≡ false → among w (without x ws) ≡ among w ws
  unfolding among without
  among_without x [] h = refl
  among_without x (y ∷ ys) h = by (same x y) refl (among_without x ys h)
    where
      by : (b : Bool) → same x y ≡ b → among w (without x ys) ≡ among w ys
          → among w (if' b (without x ys) (y ∷ without x ys)) ≡ same y w || among w ys
      by true e i = rw (← (same_equal x y e), h) i
      by false e i = rw i

  among_distinct : (ws : List (List ℕ)) → among w (distinct ws) ≡ among w ws
  unfolding among distinct
  among_distinct [] = refl
  among_distinct (x ∷ ws) = by (same x w) refl (among_distinct ws)
    where
      by : (b : Bool) → same x w ≡ b → among w (distinct ws) ≡ among w ws → b || among w (without x (distinct ws)) ≡ b || among w ws
      by true e i = refl
      by false e i = among_without x (distinct ws) e ∙ i

  without_more : (x : List ℕ) (ws : List (List ℕ)) → without x (ws ++ w ∷ []) ≡ without x ws ++ if' (same x w) [] (w ∷ [])
  unfolding without
  without_more x [] = refl
  without_more x (y ∷ ys) = by (same x y) (without_more x ys)
    where
      by : (b : Bool) → without x (ys ++ w ∷ []) ≡ without x ys ++ if' (same x w) [] (w ∷ [])
          → if' b (without x (ys ++ w ∷ [])) (y ∷ without x (ys ++ w ∷ []))
          ≡ if' b (without x ys) (y ∷ without x ys) ++ if' (same x w) [] (w ∷ [])
      by true i = i
      by false i = ap (λ (r : List (List ℕ)). y ∷ r) i

  -- one name more is a distinct one if it was not among them
  distinct_more : (ws : List (List ℕ)) → distinct (ws ++ w ∷ []) ≡ if' (among w ws) (distinct ws) (distinct ws ++ w ∷ [])
  unfolding among distinct without
  distinct_more [] = refl
  distinct_more (x ∷ ws) = rw (distinct_more ws) (by (among w ws) (same x w) (without_more x (distinct ws)))
    where
      by : (a b : Bool) → without x (distinct ws ++ w ∷ []) ≡ without x (distinct ws) ++ if' b [] (w ∷ [])
          → x ∷ without x (if' a (distinct ws) (distinct ws ++ w ∷ []))
          ≡ if' (b || a) (x ∷ without x (distinct ws)) (x ∷ without x (distinct ws) ++ w ∷ [])
      by true b h = rw (or-true b)
      by false true h = rw (h, append-nil)
      by false false h = rw h

-- so they do not get fewer
pub distinct_grows : (ws vs : List (List ℕ)) → length (distinct ws) ≤ length (distinct (ws ++ vs))
distinct_grows ws [] = rw append-nil (omega arith)
distinct_grows ws (v ∷ vs) =
    let one : length (distinct ws) ≤ length (distinct (ws ++ v ∷ [])) =
    rw (distinct_more v ws) (each_side (λ xs. length (distinct ws) ≤ length xs) (among v ws) (omega arith) (omega (arith, length-append (distinct ws) (v ∷ [])))) in
    let on = rw append_assoc at (distinct_grows (ws ++ v ∷ []) vs) in
    omega (arith, one, on)

-- ---- a table of things with names

module _ {A : Type 0} (name : A → List ℕ) where
  -- those of xs are the distinct names among ws, and no more than n
  pub record Kept (n : ℕ) (xs : List A) (ws : List (List ℕ)) : Type 0 where
    pub those : map name xs ≡ distinct ws
    pub most : length xs ≤ n

  pub none_kept : (n : ℕ) → Kept n [] []
  unfolding distinct
  none_kept n = record { those = refl; most = omega arith }

  module _ {n : ℕ} {xs : List A} {ws : List (List ℕ)} (k : Kept n xs ws) where
    stands : {b : Bool} (w : List ℕ) → among w (map name xs) ≡ b → among w ws ≡ b
    stands w e = sym (among_distinct w ws) ∙ rw k.those at e

    pub counted : length (distinct ws) ≡ length xs
    counted = rw (← k.those) (length-map xs name)

    -- a name that is among them
    pub repeated : (w : List ℕ) → among w (map name xs) ≡ true → Kept n xs (ws ++ w ∷ []) × (¬ NewAfter n ws w)
    repeated w e = (
      record { those = rw (distinct_more w ws, stands w e) k.those; most = k.most },
      λ h. h.new (among_member w ws (stands w e)),
    )

    -- one that is not, with room for it
    pub added : (x : A) → among (name x) (map name xs) ≡ false → length xs < n
        → Kept n (xs ++ x ∷ []) (ws ++ name x ∷ []) × (¬ NewAfter n ws (name x))
    added x e l = (
      record {
        those = rw (map-append name xs (x ∷ []), distinct_more (name x) ws, stands (name x) e, k.those);
        most = omega (arith, length-append xs (x ∷ []), l);
      },
      λ h. omega (arith, counted, h.count, l),
    )

    -- and with none
    pub filled : (w : List ℕ) → among w (map name xs) ≡ false → n ≤ length xs → NewAfter n ws w
    filled w e l =
        record {
          new = λ m. false≢true (sym (stands w e) ∙ member_among m);
          count = omega (arith, counted, l, k.most);
        }

-- Arguments that are judged: what is kept of them, and where the rows of the next one go.
use mathlib.Core.Path.{◌≡◌, refl, sym, ap, ◌∙◌}
use mathlib.Core.List.{List, [], ◌∷◌, ◌++◌}
use Prim.Native.Nat.{ℕ, ◌+◌, ◌≤◌, ◌<◌}
use native.Mathlib.Omega.{arith}
use lib.ListN.{length, get_or, length-append}
use Rattle.language.specs.Judgements.{Arg}
use Rattle.language.specs.Findings.{parts}
use Rattle.holding.specs.Holding.{put_held}
use Rattle.arguments.specs.declared.Given.{Given}
use Rattle.arguments.specs.declared.Kept.{Kept}
use Rattle.arguments.specs.Arguments.{given_as, after, end, spread, Keeps}

-- ---- rows, one argument more

pub end_snoc : (k : ℕ) (gs : List Arg) (a : Arg) → end k (gs ++ a ∷ []) ≡ end k gs + 1 + length (parts a.term)
unfolding end
end_snoc k [] a = refl
end_snoc k (g ∷ gs) a = end_snoc (after k g) gs a

pub spread_snoc : (s u : List ℕ) (k : ℕ) (gs : List Arg) (a : Arg)
    → spread s u k (gs ++ a ∷ []) ≡ put_held s (spread s u k gs) (end k gs + 1) (parts a.term)
unfolding spread end
spread_snoc s u k [] a = refl
spread_snoc s u k (g ∷ gs) a = spread_snoc s (put_held s u (k + 1) (parts g.term)) (after k g) gs a

pub end_far : (k : ℕ) (gs : List Arg) → k + length gs ≤ end k gs
unfolding end
end_far k [] = omega arith
end_far k (g ∷ gs) = omega (arith, end_far (after k g) gs)

-- ---- what is kept

pub keeps_none : (k : ℕ) {r : Kept} → r.count ≡ 0 → Keeps k [] r
keeps_none k z =
    record {
      count = z;
      first = λ a bs e. absurd (omega (arith, ap length e));
      second = λ a b bs e. absurd (omega (arith, ap length e));
      third = λ a b d bs e. absurd (omega (arith, ap length e));
    }

-- after k the argument g, which comes to a
module _ {k r : Kept} {g : Given} {start : ℕ} (n : r.count ≡ k.count + 1)
    (p : k.count ≡ 0 → r.first ≡ g) (p' : (k.count ≡ 0 → ⊥) → r.first ≡ k.first)
    (q : k.count ≡ 1 → r.second ≡ g) (q' : 1 < k.count → r.second ≡ k.second)
    (o : k.count ≡ 2 → r.third ≡ g.first) (o' : 2 < k.count → r.third ≡ k.third) where
  first_more : (gs : List Arg) (a : Arg) → Keeps start gs k → g ≡ given_as a (end start gs) → (b : Arg) (bs : List Arg) → gs ++ a ∷ [] ≡ b ∷ bs
      → r.first ≡ given_as b start
  unfolding end
  first_more [] a h e b bs z = p h.count ∙ e ∙ ap (λ (d : Arg). given_as d start) (ap (λ l. get_or l 0 a) z)
  first_more (x ∷ gs) a h e b bs z =
      p' (λ m. omega (arith, h.count)) ∙ h.first x gs refl ∙ ap (λ (d : Arg). given_as d start) (ap (λ l. get_or l 0 a) z)

  second_more : (gs : List Arg) (a : Arg) → Keeps start gs k → g ≡ given_as a (end start gs) → (b d : Arg) (bs : List Arg) → gs ++ a ∷ [] ≡ b ∷ d ∷ bs
      → r.second ≡ given_as d (after start b)
  unfolding end
  second_more [] a h e b d bs z = absurd (omega (arith, ap length z))
  second_more (x ∷ []) a h e b d bs z = q h.count ∙ e ∙ rw (ap (λ l. get_or l 0 a) z, ap (λ l. get_or l 1 a) z)
  second_more (x ∷ y ∷ gs) a h e b d bs z =
      q' (omega (arith, h.count)) ∙ h.second x y gs refl ∙ rw (ap (λ l. get_or l 0 a) z, ap (λ l. get_or l 1 a) z)

  third_more : (gs : List Arg) (a : Arg) → Keeps start gs k → g ≡ given_as a (end start gs) → (b d f : Arg) (bs : List Arg)
      → gs ++ a ∷ [] ≡ b ∷ d ∷ f ∷ bs → r.third ≡ f.at
  third_more [] a h e b d f bs z = absurd (omega (arith, ap length z))
  third_more (x ∷ []) a h e b d f bs z = absurd (omega (arith, ap length z))
  third_more (x ∷ y ∷ []) a h e b d f bs z =
      o h.count ∙ ap (λ (i : Given). i.first) e ∙ ap (λ (i : Arg). i.at) (ap (λ l. get_or l 2 a) z)
  third_more (x ∷ y ∷ i ∷ gs) a h e b d f bs z =
      o' (omega (arith, h.count)) ∙ h.third x y i gs refl ∙ ap (λ (i : Arg). i.at) (ap (λ l. get_or l 2 a) z)

  pub keeps_more : (gs : List Arg) (a : Arg) → Keeps start gs k → g ≡ given_as a (end start gs) → Keeps start (gs ++ a ∷ []) r
  keeps_more gs a h e =
      record {
        count = n ∙ ap (λ (m : ℕ). m + 1) h.count ∙ sym (length-append gs (a ∷ []));
        first = first_more gs a h e;
        second = second_more gs a h e;
        third = third_more gs a h e;
      }

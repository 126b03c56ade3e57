-- Encoded text may be put together, and cut at an ASCII byte.
use Prim.Native.Nat.{ℕ, ◌≤◌, ◌<◌}
use mathlib.Core.Path.{◌≡◌, refl, sym, ap, subst, ◌∙◌}
use mathlib.Core.Bool.{Bool, true}
use mathlib.Core.List.{List, [], ◌∷◌, ◌++◌, append_assoc}
use mathlib.Core.Logic.{◌⊎◌, inl, inr}
use native.Mathlib.Omega.{arith}
use borrow.Author.Tests.{le-leb, ltb-true}
use lib.Dec.{leb, ltb}
use Rattle.language.specs.Utf8.{is_scalar, encode, Encoded, nothing, another}
use Rattle.language.specs.Lexemes.{all}
use Rattle.language.proofs.Tests.{outside_test, never, by_cases}
use Rattle.language.proofs.SpellingRuns.{all_parts}

abbrev pub is_ascii : ℕ → Bool
is_ascii b = ltb b 128

-- bytes of a character that is not ASCII
abbrev High : List ℕ → Type 0
High [] = Unit {0}
High (b ∷ s) = (128 ≤ b) × High s

-- an encoding is the number, which is ASCII, or high bytes
encoding : (n : ℕ) → (encode n ≡ n ∷ []) ⊎ High (encode n)
unfolding encode
encoding n =
    by_cases (λ (e : List ℕ). (e ≡ n ∷ []) ⊎ High e) (leb n 0x7F) (λ _. inl refl)
    (λ _. by_cases (λ (e : List ℕ). (e ≡ n ∷ []) ⊎ High e) (leb n 0x7FF) (λ _. inr (omega arith, (omega arith, tt)))
    (λ _. by_cases (λ (e : List ℕ). (e ≡ n ∷ []) ⊎ High e) (leb n 0xFFFF) (λ _. inr (omega arith, (omega arith, (omega arith, tt))))
    (λ _. inr (omega arith, (omega arith, (omega arith, (omega arith, tt)))))))

-- ---- put together

-- two encoded texts
pub encoded_append : {p : List ℕ} (q : List ℕ) → Encoded p → Encoded q → Encoded (p ++ q)
encoded_append q nothing v = v
encoded_append q (another {s} n h w) v = rw append_assoc (another n h (encoded_append q w v))

-- an ASCII byte more
encoded_more : (b : ℕ) (s : List ℕ) → is_ascii b ≡ true → Encoded s → Encoded (b ∷ s)
unfolding encode is_scalar
encoded_more b s e w =
    let l : b < 128 = ltb-true b 128 e in
    let c : encode b ≡ b ∷ [] = rw (le-leb b 0x7F (omega arith)) in
    let k : is_scalar b ≡ true = rw (le-leb b 0x10FFFF (omega arith), outside_test 0xD800 0xDFFF b (omega arith)) in
    subst (λ (x : List ℕ). Encoded (x ++ s)) c (another b k w)

-- ASCII bytes alone
pub ascii_encoded : (w : List ℕ) → all is_ascii w ≡ true → Encoded w
ascii_encoded [] e = nothing
ascii_encoded (b ∷ w) e = let h = all_parts is_ascii b w e in encoded_more b w h.0 (ascii_encoded w h.1)

-- ---- cut

-- high bytes are before the ASCII byte a
module _ (a : ℕ) (q : List ℕ) (l : a < 128) where
  past_high : (e s p : List ℕ) → High e → e ++ s ≡ p ++ a ∷ q → (r : List ℕ) × (p ≡ e ++ r) × (s ≡ r ++ a ∷ q)
  past_high [] s p h x = (p, refl, x)
  past_high (b ∷ e) s [] h x = let z : b ≡ a = cc in absurd (omega (arith, h.0))
  past_high (b ∷ e) s (c ∷ p) h x =
      let y : e ++ s ≡ p ++ a ∷ q = cc in
      let d = past_high e s p h.1 y in
      (d.0, cc d.1, d.2)

  -- text that holds it is encoded before it and after it
  cut_at : {t : List ℕ} → Encoded t → (p : List ℕ) → t ≡ p ++ a ∷ q → Encoded p × Encoded q
  cut_at nothing [] x = never (cc)
  cut_at nothing (c ∷ p) x = never (cc)
  cut_at (another {s} n h w) p x = go (encoding n) p x (λ r y. cut_at w r y)
    where
      go : (encode n ≡ n ∷ []) ⊎ High (encode n) → (p : List ℕ) → encode n ++ s ≡ p ++ a ∷ q
          → ((r : List ℕ) → s ≡ r ++ a ∷ q → Encoded r × Encoded q) → Encoded p × Encoded q
      go (inr e) p x f =
          let d = past_high (encode n) s p e x in
          let k = f d.0 d.2 in
          (subst Encoded (sym d.1) (another n h k.0), k.1)
      go (inl e) [] x f =
          let y : n ∷ s ≡ a ∷ q = ap (λ (v : List ℕ). v ++ s) (sym e) ∙ x in
          let z : s ≡ q = cc in
          (nothing, subst Encoded z w)
      go (inl e) (c ∷ p) x f =
          let y : n ∷ s ≡ c ∷ (p ++ a ∷ q) = ap (λ (v : List ℕ). v ++ s) (sym e) ∙ x in
          let k = f p (cc) in
          let z : encode n ++ p ≡ c ∷ p = ap (λ (v : List ℕ). v ++ p) e ∙ cc in
          (subst Encoded z (another n h k.0), k.1)

pub cut : (p : List ℕ) (a : ℕ) (q : List ℕ) → is_ascii a ≡ true → Encoded (p ++ a ∷ q) → Encoded p × Encoded q
cut p a q e w = cut_at a q (ltb-true a 128 e) w p refl

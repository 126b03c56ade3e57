-- An entry stored behind those of a table of names: the others stay, and it is the last.
use mathlib.Core.Path.{◌≡◌, refl, sym, ap, ◌∙◌}
use mathlib.Core.List.{List, [], ◌∷◌, ◌++◌}
use Prim.Native.Nat.{ℕ, zero, suc, ◌+◌, ◌*◌, ◌/◌, ◌<◌}
use native.Mathlib.Omega.{arith}
use native.Mathlib.Decide.{dec_le}
use native.Mathlib.Numerals.{add-one}
use lib.ListN.{length, get_or, set, length-set}
use lib.Seq.{get_or-set_same, get_or-set_other}
use Rattle.language.specs.Tokens.{between}
use Rattle.names.specs.declared.Entry.{Entry}
use Rattle.names.specs.Names.{name_width, key_of, key_at, name_word, name_of, Keyed, stored, listed}

-- ---- lists of entries

module _ {A : Type 0} where
  -- two lists of the same
  pub same_listed : (f g : ℕ → A) (k i : ℕ) → ((n : ℕ) → n < i + k → f n ≡ g n) → listed f k i ≡ listed g k i
  unfolding listed
  same_listed f g zero i h = refl
  same_listed f g (suc k) i h =
      let on = same_listed f g k (i + 1) (λ n l. h n (omega arith)) in
      let e = h i (omega arith) in
      rw (on, e)

  last_listed : (f : ℕ → A) (k i : ℕ) → listed f (suc k) i ≡ listed f k i ++ f (i + k) ∷ []
  unfolding listed
  last_listed f zero i = let z : i + 0 ≡ i = omega arith in rw z
  last_listed f (suc k) i =
      let z : i + suc k ≡ i + 1 + k = omega arith in
      rw z (ap (λ (l : List A). f i ∷ l) (last_listed f k (i + 1)))

  pub listed_long : (f : ℕ → A) (k i : ℕ) → length (listed f k i) ≡ k
  unfolding listed
  listed_long f zero i = refl
  listed_long f (suc k) i = ap suc (listed_long f k (i + 1))

  -- one more, where those before are as they were
  pub listed_more : (f g : ℕ → A) (u : ℕ) (x : A) → ((n : ℕ) → n < u → g n ≡ f n) → g u ≡ x → listed g (u + 1) 0 ≡ listed f u 0 ++ x ∷ []
  listed_more f g u x h e =
      let z : 0 + u ≡ u = omega arith in
      let old = same_listed g f u 0 (λ n l. h n (omega arith)) in
      ap (λ (n : ℕ). listed g n 0) (add-one u) ∙ last_listed g u 0 ∙ rw (old, z, e)

-- ---- a table with an entry more

module _ (room : ℕ) (ws : List ℕ) (u : ℕ) (e : Entry) (size : length ws ≡ room * name_width) (fits : u < room) where
  abbrev at : ℕ
  at = room + 7 * u

  abbrev w1 : List ℕ
  w1 = set ws u e.key

  abbrev w2 : List ℕ
  w2 = set w1 at e.start

  abbrev w3 : List ℕ
  w3 = set w2 (at + 1) e.end

  abbrev w4 : List ℕ
  w4 = set w3 (at + 2) e.token

  abbrev w5 : List ℕ
  w5 = set w4 (at + 3) e.form

  abbrev w6 : List ℕ
  w6 = set w5 (at + 4) e.kind

  abbrev w7 : List ℕ
  w7 = set w6 (at + 5) e.lo

  abbrev now : List ℕ
  now = set w7 (at + 6) e.hi

  pub stored_long : length (stored room ws u e) ≡ length ws
  stored_long = simp length-set

  -- a word is as it was before those after it were stored
  module _ (p : ℕ) where
    kept7 : p < at + 6 → get_or now p 0 ≡ get_or w7 p 0
    kept7 l = get_or-set_other w7 (at + 6) p e.hi 0 (λ q. absurd (omega (arith, q)))

    kept6 : p < at + 5 → get_or now p 0 ≡ get_or w6 p 0
    kept6 l = kept7 (omega arith) ∙ get_or-set_other w6 (at + 5) p e.lo 0 (λ q. absurd (omega (arith, q)))

    kept5 : p < at + 4 → get_or now p 0 ≡ get_or w5 p 0
    kept5 l = kept6 (omega arith) ∙ get_or-set_other w5 (at + 4) p e.kind 0 (λ q. absurd (omega (arith, q)))

    kept4 : p < at + 3 → get_or now p 0 ≡ get_or w4 p 0
    kept4 l = kept5 (omega arith) ∙ get_or-set_other w4 (at + 3) p e.form 0 (λ q. absurd (omega (arith, q)))

    kept3 : p < at + 2 → get_or now p 0 ≡ get_or w3 p 0
    kept3 l = kept4 (omega arith) ∙ get_or-set_other w3 (at + 2) p e.token 0 (λ q. absurd (omega (arith, q)))

    kept2 : p < at + 1 → get_or now p 0 ≡ get_or w2 p 0
    kept2 l = kept3 (omega arith) ∙ get_or-set_other w2 (at + 1) p e.end 0 (λ q. absurd (omega (arith, q)))

    kept1 : p < at → get_or now p 0 ≡ get_or w1 p 0
    kept1 l = kept2 (omega arith) ∙ get_or-set_other w1 at p e.start 0 (λ q. absurd (omega (arith, q)))

    -- one that is none of the entry's
    other : (p ≡ u → ⊥) → p < at → get_or now p 0 ≡ get_or ws p 0
    other a l = kept1 l ∙ get_or-set_other ws u p e.key 0 (λ q. a q)

  rooms : length ws / name_width ≡ room
  rooms = omega (arith, size)

  rooms_now : length now / name_width ≡ room
  rooms_now = ap (λ (n : ℕ). n / name_width) stored_long ∙ rooms

  pub old_key : (i : ℕ) → i < u → key_at (stored room ws u e) i ≡ key_at ws i
  old_key i h = other i (λ q. absurd (omega (arith, q))) (omega arith)

  pub old_word : (i j : ℕ) → i < u → j < 7 → name_word (stored room ws u e) i j ≡ name_word ws i j
  old_word i j h l = rw (rooms_now, rooms) (other (room + 7 * i + j) (λ q. absurd (omega (arith, q))) (omega arith))

  pub new_key : key_at (stored room ws u e) u ≡ e.key
  new_key = kept1 u (omega arith) ∙ get_or-set_same ws u e.key 0 (omega (arith, size))

  pub new_start : name_word (stored room ws u e) u 0 ≡ e.start
  new_start =
      let z : room + 7 * u + 0 ≡ at = omega arith in
      let l : length w1 ≡ length ws = simp length-set in
      rw (rooms_now, z) (kept2 at (omega arith) ∙ get_or-set_same w1 at e.start 0 (omega (arith, size, l)))

  pub new_end : name_word (stored room ws u e) u 1 ≡ e.end
  new_end =
      let l : length w2 ≡ length ws = simp length-set in
      rw rooms_now (kept3 (at + 1) (omega arith) ∙ get_or-set_same w2 (at + 1) e.end 0 (omega (arith, size, l)))

  pub new_token : name_word (stored room ws u e) u 2 ≡ e.token
  new_token =
      let l : length w3 ≡ length ws = simp length-set in
      rw rooms_now (kept4 (at + 2) (omega arith) ∙ get_or-set_same w3 (at + 2) e.token 0 (omega (arith, size, l)))

  pub new_form : name_word (stored room ws u e) u 3 ≡ e.form
  new_form =
      let l : length w4 ≡ length ws = simp length-set in
      rw rooms_now (kept5 (at + 3) (omega arith) ∙ get_or-set_same w4 (at + 3) e.form 0 (omega (arith, size, l)))

  pub new_kind : name_word (stored room ws u e) u 4 ≡ e.kind
  new_kind =
      let l : length w5 ≡ length ws = simp length-set in
      rw rooms_now (kept6 (at + 4) (omega arith) ∙ get_or-set_same w5 (at + 4) e.kind 0 (omega (arith, size, l)))

  pub new_low : name_word (stored room ws u e) u 5 ≡ e.lo
  new_low =
      let l : length w6 ≡ length ws = simp length-set in
      rw rooms_now (kept7 (at + 5) (omega arith) ∙ get_or-set_same w6 (at + 5) e.lo 0 (omega (arith, size, l)))

  pub new_high : name_word (stored room ws u e) u 6 ≡ e.hi
  new_high =
      let l : length w7 ≡ length ws = simp length-set in
      rw rooms_now (get_or-set_same w7 (at + 6) e.hi 0 (omega (arith, size, l)))

  -- the names before are as they were, and the last is the entry's
  pub old_name : (s : List ℕ) (i : ℕ) → i < u → name_of s (stored room ws u e) i ≡ name_of s ws i
  old_name s i h = rw (old_word i 0 h (omega arith), old_word i 1 h (omega arith))

  pub new_name : (s : List ℕ) → name_of s (stored room ws u e) u ≡ between s e.start e.end
  new_name s = rw (new_start, new_end)

  pub store_key : (s : List ℕ) → Keyed s ws u → e.key ≡ key_of (between s e.start e.end) → Keyed s (stored room ws u e) (u + 1)
  store_key s keyed k =
      record {
        key = λ i h.
            elim (dec_le (suc i) u) [
              | yes g ↦ old_key i g ∙ keyed.key i g ∙ ap key_of (sym (old_name s i g))
              | no g ↦ let z : i ≡ u = omega arith in rw z (new_key ∙ k ∙ ap key_of (sym (new_name s)))
            ];
      }

-- How a table of names stands for a list of them.
use Rattle.std.specs.Prelude.{ℕ, zero, suc, ◌+◌, ◌*◌, ◌/◌, ◌%◌, ◌≤◌, ◌<◌, ◌≡◌, List, [], ◌∷◌, length, get_or, set}
use Rattle.language.specs.Choice.{if'}
use Rattle.language.specs.Lexemes.{same}
use Rattle.language.specs.Tokens.{between}
use Rattle.names.specs.declared.Entry.{Entry}
use Rattle.names.specs.declared.Found.{Found}

-- ---- keys

-- a key is turned by 5 bits, those from 2^58 on come down, and a byte is added
abbrev pub turned : ℕ → ℕ
turned k = k % 288230376151711744 * 32 + k / 288230376151711744

unfoldable pub key_from : ℕ → List ℕ → ℕ
key_from k [] = k
key_from k (b ∷ bs) = key_from (turned k + b) bs

abbrev pub key_of : List ℕ → ℕ
key_of bs = key_from 0 bs

-- ---- tables: the keys of all names that there is room for, then seven words for each

abbrev pub name_width : ℕ
name_width = 8

abbrev pub key_at : List ℕ → ℕ → ℕ
key_at ws i = get_or ws i 0

-- word j after the key of entry i
abbrev pub name_word : List ℕ → ℕ → ℕ → ℕ
name_word ws i j = get_or ws (length ws / name_width + 7 * i + j) 0

-- an entry stored in the row u of a table with room for so many names
abbrev pub stored : ℕ → List ℕ → ℕ → Entry → List ℕ
stored room ws u e =
    let at = room + 7 * u in
    set (set (set (set (set (set (set (set ws u e.key) at e.start) (at + 1) e.end) (at + 2) e.token) (at + 3) e.form) (at + 4) e.kind) (at + 5) e.lo) (at + 6) e.hi

-- what f gives of k numbers from i on
unfoldable pub listed : {A : Type 0} → (ℕ → A) → ℕ → ℕ → List A
listed f zero i = []
listed f (suc k) i = f i ∷ listed f k (i + 1)

module _ (s ws : List ℕ) where
  abbrev pub name_of : ℕ → List ℕ
  name_of i = between s (name_word ws i 0) (name_word ws i 1)

  -- k names from the entry i on
  unfoldable pub names_in : ℕ → ℕ → List (List ℕ)
  names_in k i = listed name_of k i

-- ---- the search

-- no key from i up to n is this one
abbrev pub NoneOf : List ℕ → ℕ → ℕ → ℕ → Type 0
NoneOf ws key i n = (m : ℕ) → i ≤ m → m < n → key_at ws m ≡ key → ⊥

-- each of the used entries has the key of its name
pub record Keyed (s ws : List ℕ) (used : ℕ) : Type 0 where
  pub key : (i : ℕ) → i < used → key_at ws i ≡ key_of (name_of s ws i)

-- the first n of the used entries have other keys than this one
pub record Others (ws : List ℕ) (used key n : ℕ) : Type 0 where
  pub in_table : n ≤ used
  pub other : NoneOf ws key 0 n

-- the number of the first name that is the same; how many there are where none is
unfoldable pub place : List (List ℕ) → List ℕ → ℕ
place [] w = 0
place (x ∷ xs) w = if' (same x w) 0 (suc (place xs w))

-- how many names the search compares: one for each that it looks at, the match included
unfoldable pub looked : List (List ℕ) → List ℕ → ℕ
looked [] w = 0
looked (x ∷ xs) w = if' (same x w) 1 (suc (looked xs w))

pub record Finds (xs : List (List ℕ)) (w : List ℕ) (r : Found) : Type 0 where
  pub at : r.at ≡ place xs w
  pub compared : r.compared ≡ looked xs w

-- When number 9 is given (01, "Numbers handed back"): "a 513th distinct let name or 65th distinct import name, failed ones
-- counted", over statements and contents alone. Nothing is judged here, so names that fail are counted like the others.
use Rattle.std.specs.Prelude.{ℕ, ◌≤◌, ◌<◌, ◌≡◌, ◌↔◌, length}
use mathlib.Core.List.{List, [], ◌∷◌, ◌++◌, Memᴰ}
use Rattle.language.specs.Choice.{if'}
use Rattle.language.specs.Lexemes.{same}
use Rattle.language.specs.Tokens.{Content}
use Rattle.language.specs.Sentences.{Stmt, import', let', expr', ok, program}
use Rattle.language.specs.Judgements.{named_number, names_number, name_at, refused, judge_all}

-- names other than w
unfoldable pub without : List ℕ → List (List ℕ) → List (List ℕ)
without w [] = []
without w (x ∷ xs) = if' (same w x) (without w xs) (x ∷ without w xs)

-- names in order, a name that occurred before left out
unfoldable pub distinct : List (List ℕ) → List (List ℕ)
distinct [] = []
distinct (w ∷ ws) = w ∷ without w (distinct ws)

-- w does not occur among the names ws, of which n are distinct
pub record NewAfter (n : ℕ) (ws : List (List ℕ)) (w : List ℕ) : Type 0 where
  pub new : ¬ Memᴰ w ws
  pub count : length (distinct ws) ≡ n

module _ (ts : List Content) where
  -- the names of the `let`s, and of the imports
  unfoldable pub let_names : List Stmt → List (List ℕ)
  let_names [] = []
  let_names (let' t e ∷ ss) = name_at ts t ∷ let_names ss
  let_names (import' t ∷ ss) = let_names ss
  let_names (expr' e ∷ ss) = let_names ss

  unfoldable pub import_names : List Stmt → List (List ℕ)
  import_names [] = []
  import_names (import' t ∷ ss) = name_at ts t ∷ import_names ss
  import_names (let' t e ∷ ss) = import_names ss
  import_names (expr' e ∷ ss) = import_names ss

  -- the statement after us has, at the token u, "a 513th distinct let name or 65th distinct import name"
  abbrev pub TooMany : List Stmt → Stmt → ℕ → Type 0
  TooMany us (let' t e) u = (t ≡ u) × NewAfter 512 (let_names us) (name_at ts t)
  TooMany us (import' t) u = (t ≡ u) × NewAfter 64 (import_names us) (name_at ts t)
  TooMany us (expr' e) u = ⊥

  -- "the earlier such name", at the token t: no statement before has one. It is the earlier by tokens too: `EarlierName`.
  pub record FirstTooMany (ss : List Stmt) (t : ℕ) : Type 0 where
    pub before : List Stmt
    pub here : Stmt
    pub after : List Stmt
    pub order : ss ≡ before ++ here ∷ after
    pub too_many : TooMany before here t
    pub first : (us : List Stmt) (s : Stmt) (vs : List Stmt) (u : ℕ) → before ≡ us ++ s ∷ vs → ¬ TooMany us s u

-- a statement has its name at the token u
abbrev pub NamedAt : Stmt → ℕ → Type 0
NamedAt (let' t e) u = t ≡ u
NamedAt (import' t) u = t ≡ u
NamedAt (expr' e) u = ⊥

-- ---- the claims

-- judging refuses statements with this number exactly when such a name stands there, at the earlier one, and no 8 is met before
abbrev pub NamesRefused : Type 0
NamesRefused =
    (ts : List Content) (ss : List Stmt) (t : ℕ)
    → judge_all ts ss ≡ refused names_number t ↔ FirstTooMany ts ss t × ((u : ℕ) → ¬ (judge_all ts ss ≡ refused named_number u))

-- of two statements of a program the one before has its name at the earlier token
abbrev pub NamesAscend : Type 0
NamesAscend =
    (ts : List Content) (ss us vs ws : List Stmt) (s r : Stmt) (next x t u : ℕ) → program ts ≡ ok ss next x
    → ss ≡ us ++ s ∷ vs ++ r ∷ ws → NamedAt s t → NamedAt r u → t < u

-- so "the earlier such name" is that of the earlier token: no name that is one too many stands before it
abbrev pub EarlierName : Type 0
EarlierName =
    (ts : List Content) (ss : List Stmt) (next x t : ℕ) → program ts ≡ ok ss next x → FirstTooMany ts ss t
    → (us : List Stmt) (s : Stmt) (vs : List Stmt) (u : ℕ) → ss ≡ us ++ s ∷ vs → TooMany ts us s u → t ≤ u

-- Slots, and how many rows there are (02, E2): "A let of a value not known before the run takes a slot, numbered in order of creation".
use Rattle.std.specs.Prelude.{ℕ, suc, ◌≤◌, ◌<◌, ◌≡◌, List, [], ◌∷◌, length}
use Rattle.language.specs.Tokens.{Content}
use Rattle.language.specs.Sentences.{Stmt, program_size}
use Rattle.language.specs.Terms.{Atom, constant, slot, Term, atom, called, divided, Terms, no_more, more}
use Rattle.language.specs.Judgements.{Diag, Deed, lets, emits, waits, evals, discards, Held, judged, judge_all}
use Rattle.language.specs.Findings.{rows_of}
use Rattle.language.specs.Numbers.{checked, held_by}

-- an expression reads none but the first n slots
abbrev pub ReadsAtom : ℕ → Atom → Type 0
ReadsAtom n (constant v) = Unit
ReadsAtom n (slot s t) = s < n

abbrev mutual
  pub Reads : ℕ → Term → Type 0
  Reads n (atom p a) = ReadsAtom n a
  Reads n (called p c f vs) = Reads n c × ReadsAll n vs
  Reads n (divided p a b) = Reads n a × Reads n b

  pub ReadsAll : ℕ → Terms → Type 0
  ReadsAll n no_more = Unit
  ReadsAll n (more v vs) = Reads n v × ReadsAll n vs

-- the slots that are made after a statement, where there were n; a `Let` makes the next one
abbrev pub Makes : ℕ → Deed → ℕ → Type 0
Makes n (lets s) m = (s ≡ n) × (m ≡ suc n)
Makes n emits m = m ≡ n
Makes n waits m = m ≡ n
Makes n evals m = m ≡ n
Makes n discards m = m ≡ n

-- "slots are numbered 0, 1, .. in order of creation and each slot that is read was made by a `Let` before it": statements that come to
-- m slots from n
pub data Slotted : ℕ → List Held → ℕ → Type 0 where
  none_held : {n : ℕ} → Slotted n [] n
  one_held : {n l m : ℕ} {h : Held} {hs : List Held} → Reads n h.term → Makes n h.deed l → Slotted l hs m → Slotted n (h ∷ hs) m

-- ---- the claims

-- of the statements that a source is judged to hold
abbrev pub SlotsNumbered : Type 0
SlotsNumbered = (s : List ℕ) → (m : ℕ) × Slotted 0 (held_by (checked s)) m

-- no more rows than nodes
abbrev pub RowsFew : Type 0
RowsFew =
    (ts : List Content) (ss : List Stmt) (ds : List Diag) (hs : List Held) (ls : List ℕ) → judge_all ts ss ≡ judged ds hs ls
    → length (rows_of hs) ≤ program_size ss

-- The lexemes of a source as one walk over its bytes, without the places.
use Prim.Native.Nat.{ℕ, zero, suc, ◌+◌, ◌-◌, ◌≤◌}
use mathlib.Core.Path.{◌≡◌, refl, ap, ap₂, ◌∙◌}
use mathlib.Core.Bool.{Bool, true, false}
use mathlib.Core.List.{List, [], ◌∷◌, ◌++◌, map, map-append}
use native.Mathlib.Omega.{arith}
use lib.Dec.{eqb}
use lib.ListN.{length, take, drop}
use lib.Seq.{drop-drop}
use Rattle.language.specs.Choice.{if'}
use Rattle.language.specs.Lexemes.{lexeme, placed, scan_from, scan}
use Rattle.language.specs.Tokens.{Line, line_at, onto, lines_from, Piece, piece_of, Item, item_of, items_from, items}
use Rattle.language.proofs.LexemeSizes.{size_fits}

-- the bytes up to the next byte 10
abbrev pub line_of : List ℕ → List ℕ
line_of [] = []
line_of (b ∷ s) = if' (eqb b 10) [] (b ∷ line_of s)

-- what the lexeme is that bytes start with
abbrev pub piece_at : List ℕ → Piece
piece_at bs = piece_of (lexeme bs).kind (take (lexeme bs).size bs)

-- what the lexemes are, after `skip` bytes of one that began before
unfoldable pub walk : ℕ → List ℕ → List Piece
walk skip [] = []
walk (suc skip) (b ∷ s) = walk skip s
walk zero (b ∷ s) = if' (eqb b 10) (walk 0 s) (piece_at (b ∷ line_of s) ∷ walk ((lexeme (b ∷ line_of s)).size - 1) s)

abbrev pub pieces : List Item → List Piece
pieces is = map (λ i. i.piece) is

-- ---- lines

-- the first line, which is empty where there is none, and those after it
abbrev first : List Line → Line
first [] = line_at 0 []
first (l ∷ ls) = l

abbrev later : List Line → List Line
later [] = []
later (l ∷ ls) = ls

-- the pieces of the line numbered n from `at` on, and of the lines after it
abbrev rest : ℕ → Line → ℕ → ℕ → List ℕ → List Line → List Piece
rest n l skip at s ls = pieces (map (item_of n l) (scan_from skip at s)) ++ pieces (items_from (suc n) ls)

-- the first line, then the others
by_first : (n : ℕ) (ls : List Line) → pieces (items_from n ls) ≡ rest n (first ls) 0 0 (first ls).bytes (later ls)
unfolding items_from scan_from
by_first n [] = refl
by_first n (l ∷ ls) = map-append (λ (i : Item). i.piece) (map (item_of n l) (scan l.bytes)) (items_from (suc n) ls)

-- a byte in front is of the first line
first_onto : (at b : ℕ) (ls : List Line) → (first (onto at b ls)).bytes ≡ b ∷ (first ls).bytes
first_onto at b [] = refl
first_onto at b (l ∷ ls) = refl

later_onto : (at b : ℕ) (ls : List Line) → later (onto at b ls) ≡ later ls
later_onto at b [] = refl
later_onto at b (l ∷ ls) = refl

-- which ends before byte 10
first_line : (at : ℕ) (s : List ℕ) → (first (lines_from at s)).bytes ≡ line_of s
unfolding lines_from
first_line at [] = refl
first_line at (b ∷ s) = go (eqb b 10) (first_line (suc at) s)
  where
    go : (t : Bool) → (first (lines_from (suc at) s)).bytes ≡ line_of s
        → (first (if' t (line_at at [] ∷ lines_from (suc at) s) (onto at b (lines_from (suc at) s)))).bytes ≡ if' t [] (b ∷ line_of s)
    go true h = refl
    go false h = first_onto at b (lines_from (suc at) s) ∙ ap (λ (x : List ℕ). b ∷ x) h

-- ---- the walk

-- the bytes after the first
drop_more : (at b : ℕ) (w s : List ℕ) → drop at w ≡ b ∷ s → drop (suc at) w ≡ s
drop_more at b w s e = let z : suc at ≡ at + 1 = omega arith in rw (z, ← drop-drop, e)

-- a walk over the rest s of a source, the line of which has been read up to `at`
abbrev Walks : List ℕ → Type 0
Walks s =
    (n : ℕ) (l : Line) (skip at pos : ℕ) → drop at l.bytes ≡ line_of s → skip ≤ length (line_of s)
    → rest n l skip at (line_of s) (later (lines_from pos s)) ≡ walk skip s

-- from the start of a line
from_start : (s : List ℕ) → Walks s → (n pos : ℕ) → pieces (items_from n (lines_from pos s)) ≡ walk 0 s
from_start s h n pos =
    let l = first (lines_from pos s) in
    let e : l.bytes ≡ line_of s = first_line pos s in
    by_first n (lines_from pos s)
    ∙ ap (λ (x : List ℕ). rest n l 0 0 x (later (lines_from pos s))) e
    ∙ h n l 0 0 pos e (omega arith)

-- a lexeme's piece is its own bytes'
own_piece : (n : ℕ) (l : Line) (at : ℕ) (s : List ℕ) → drop at l.bytes ≡ s → (item_of n l (placed at (lexeme s))).piece ≡ piece_at s
own_piece n l at s d = let z : at + (lexeme s).size - at ≡ (lexeme s).size = omega arith in rw (z, d)

-- a byte more in front
walks_more : (b : ℕ) (s : List ℕ) → Walks s → Walks (b ∷ s)
unfolding walk lines_from scan_from
walks_more b s ih n l skip at pos d h = go (eqb b 10) skip refl d h
  where
    go : (t : Bool) (skip : ℕ) → eqb b 10 ≡ t → drop at l.bytes ≡ if' t [] (b ∷ line_of s) → skip ≤ length (if' t [] (b ∷ line_of s))
        → rest n l skip at (if' t [] (b ∷ line_of s)) (later (if' t (line_at pos [] ∷ lines_from (suc pos) s) (onto pos b (lines_from (suc pos) s))))
        ≡ walk skip (b ∷ s)
    go true zero e d h = rw e (from_start s ih (suc n) (suc pos))
    go true (suc skip) e d h = absurd (omega arith)
    go false zero e d h =
        let k = size_fits b (line_of s) in
        rw (e, later_onto)
        (ap₂ (λ (p : Piece) (ps : List Piece). p ∷ ps) (own_piece n l at (b ∷ line_of s) d)
        (ih n l ((lexeme (b ∷ line_of s)).size - 1) (suc at) (suc pos) (drop_more at b l.bytes (line_of s) d) (omega arith)))
    go false (suc skip) e d h = rw later_onto (ih n l skip (suc at) (suc pos) (drop_more at b l.bytes (line_of s) d) (omega arith))

walks : (s : List ℕ) → Walks s
unfolding walk lines_from scan_from items_from
walks [] n l skip at pos d h = refl
walks (b ∷ s) n l skip at pos d h = walks_more b s (walks s) n l skip at pos d h

-- the pieces of a source
pub by_walk : (s : List ℕ) → pieces (items s) ≡ walk 0 s
unfolding items
by_walk s = from_start s (walks s) 1 0

-- The lexemes of a source from its first byte to its last: each at its place, and a byte 10 after each line.
use Prim.Native.Nat.{ℕ, zero, suc, ◌+◌, ◌-◌, ◌≤◌, ◌<◌}
use mathlib.Core.Path.{◌≡◌, refl, sym, ◌∙◌}
use mathlib.Core.Bool.{Bool, true, false}
use mathlib.Core.List.{List, [], ◌∷◌, ◌++◌, map, append_assoc, append-nil}
use native.Mathlib.Omega.{arith}
use native.Mathlib.Nat.{zero-add, add-zero}
use native.Mathlib.Numerals.{add-one}
use borrow.Author.Tests.{eqb-true}
use lib.Dec.{eqb}
use lib.ListN.{length, take, drop, take-append-drop, length-drop}
use lib.Seq.{length-take-le, drop_at, drop-drop}
use Rattle.language.specs.Lexemes.{Kind, lexeme_of, lexeme, scan_from}
use Rattle.language.specs.Tokens.{line_at, lines_from, piece_of, Item, item_of, items_from, items, Place, place_from, place_of}
use Rattle.language.proofs.LexemeSizes.{size_fits}
use Rattle.language.proofs.LexemeSpans.{scan_unfolds}
use Rattle.language.proofs.CutLexemes.{before_newline}

-- ---- lines

-- bytes of one line: none is 10
data OneLine : List ℕ → Type 0 where
  no_byte : OneLine []
  byte : {b : ℕ} {s : List ℕ} → eqb b 10 ≡ false → OneLine s → OneLine (b ∷ s)

-- a source by its lines
data Lined : List ℕ → Type 0 where
  no_line : Lined []
  last_line : {b : ℕ} {x : List ℕ} → OneLine (b ∷ x) → Lined (b ∷ x)
  a_line : {r : List ℕ} (x : List ℕ) → OneLine x → Lined r → Lined (x ++ 10 ∷ r)

-- a byte put in front of the first line
in_front : {b : ℕ} {s : List ℕ} → eqb b 10 ≡ false → Lined s → Lined (b ∷ s)
in_front e no_line = last_line (byte e no_byte)
in_front e (last_line h) = last_line (byte e h)
in_front {b} e (a_line x h w) = a_line (b ∷ x) (byte e h) w

-- every source is lines
lined : (s : List ℕ) → Lined s
lined [] = no_line
lined (b ∷ s) = go (eqb b 10) refl (lined s)
  where
    go : (t : Bool) → eqb b 10 ≡ t → Lined s → Lined (b ∷ s)
    go true e w = rw (eqb-true b 10 e) (a_line [] no_byte w)
    go false e w = in_front e w

-- the definition finds them: a last line
lines_last : {b : ℕ} {x : List ℕ} (at : ℕ) → OneLine (b ∷ x) → lines_from at (b ∷ x) ≡ line_at at (b ∷ x) ∷ []
unfolding lines_from
lines_last at (byte e no_byte) = rw e
lines_last at (byte e (byte f h)) = rw (e, lines_last (suc at) (byte f h))

-- and a line before byte 10
lines_first : {x : List ℕ} (at to : ℕ) (r : List ℕ) → OneLine x → at + length x ≡ to
    → lines_from at (x ++ 10 ∷ r) ≡ line_at at x ∷ lines_from (suc to) r
unfolding lines_from
lines_first at to r no_byte e = let z : at ≡ to = omega arith in rw z
lines_first at to r (byte f h) e = rw (f, lines_first (suc at) to r h (omega arith))

-- p bytes on in a line, the column is p more
place_on : {x : List ℕ} (n c p k q d : ℕ) (z : List ℕ) → OneLine x → p ≤ length x → p + k ≡ q → c + p ≡ d
    → place_from n c (x ++ z) q ≡ place_from n d (drop p (x ++ z)) k
unfolding place_from
place_on n c zero k q d z h l e f = let i : q ≡ k = omega arith in let j : c ≡ d = omega arith in rw (i, j)
place_on n c (suc p) k zero d z h l e f = absurd (omega arith)
place_on n c (suc p) k (suc q) d z no_byte l e f = absurd (omega arith)
place_on n c (suc p) k (suc q) d z (byte g h) l e f = rw g (place_on n (suc c) p k q d z h (omega arith) (omega arith) (omega arith))

-- ---- the walk

-- a line and a column
abbrev pub place : ℕ → ℕ → Place
place n c = record { line = n; column = c }

-- a lexeme of kind k with the bytes x, `at` in the source
abbrev pub item_at : ℕ → ℕ → ℕ → Kind → List ℕ → Item
item_at n c at k x = record { piece = piece_of k x; line = n; column = c; start = at; end = at + length x }

-- from `at` on the source has s, and its lexemes
pub data Walk (source : List ℕ) : ℕ → List ℕ → List Item → Type 0 where
  walk_end : {at : ℕ} → Walk source at [] []
  walk_newline : {at : ℕ} {s : List ℕ} {is : List Item} → Walk source (at + 1) s is → Walk source at (10 ∷ s) is
  walk_item : {at : ℕ} {s : List ℕ} {is : List Item} (n c : ℕ) (k : Kind) (x : List ℕ) → place_of source at ≡ place n c → 0 < length x
      → lexeme (x ++ s) ≡ lexeme_of k (length x) → Walk source (at + length x) s is → Walk source at (x ++ s) (item_at n c at k x ∷ is)

-- a lexeme of a line, by its bytes
item_here : (n start at m : ℕ) (k : Kind) (line x : List ℕ) → take (at + m - at) (drop at line) ≡ x → m ≡ length x
    → item_of n (line_at start line) (record { start = at; end = at + m; kind = k }) ≡ item_at n (suc at) (start + at) k x
item_here n start at m k line x e f = let z : start + (at + m) ≡ start + at + length x = omega arith in rw (e, z)

module _ (source : List ℕ) where
  -- the line numbered n, before z
  module _ (n start : ℕ) (line z : List ℕ) (is : List Item) (h : OneLine line)
      (right : (k : ℕ) → place_of source (start + k) ≡ place_from n 1 (line ++ z) k)
      (ends : (y : List ℕ) → 0 < length y → lexeme (y ++ z) ≡ lexeme y) (after : Walk source (start + length line) z is) where
    -- its byte `at` stands in the column `at + 1`
    column_right : (at : ℕ) → at ≤ length line → place_of source (start + at) ≡ place n (suc at)
    unfolding place_from
    column_right at l = right at ∙ place_on n 1 at 0 at (suc at) z h l (omega arith) (omega arith)

    -- from its byte `at` on
    line_from : (fuel at : ℕ) (y : List ℕ) → length y < fuel → drop at line ≡ y → at + length y ≡ length line
        → Walk source (start + at) (y ++ z) (map (item_of n (line_at start line)) (scan_from 0 at y) ++ is)
    line_from zero at y l e f = absurd (omega arith)
    line_from (suc fuel) at [] l e f = let k : at ≡ length line = omega arith in rw ((scan_unfolds at).0, k) after
    line_from (suc fuel) at (b ∷ y) l e f =
        let m = (lexeme (b ∷ y)).size in
        let k = (lexeme (b ∷ y)).kind in
        let x = take m (b ∷ y) in
        let fits = size_fits b y in
        let lx : length x ≡ m = length-take-le m (b ∷ y) fits.1 in
        let i : at + m - at ≡ m = omega arith in
        let j : start + (at + m) ≡ start + at + length x = omega arith in
        let parts : b ∷ y ++ z ≡ x ++ (drop m (b ∷ y) ++ z) = rw (← append_assoc, take-append-drop m (b ∷ y)) in
        let rule : lexeme (x ++ (drop m (b ∷ y) ++ z)) ≡ lexeme_of k (length x) = rw (← parts, lx) (ends (b ∷ y) (omega arith)) in
        let left : length (drop m (b ∷ y)) ≡ length (b ∷ y) - m = length-drop m (b ∷ y) in
        let more = line_from fuel (at + m) (drop m (b ∷ y)) (omega arith) (rw (← drop-drop, e)) (omega arith) in
        rw ((scan_unfolds at).1 b y, item_here n start at m k line x (rw (i, e)) (sym lx), parts)
        (walk_item n (suc at) k x (column_right at (omega arith)) (omega arith) rule
        (rw j at more))

    -- the whole line
    line_walk : Walk source start (line ++ z) (map (item_of n (line_at start line)) (scan_from 0 0 line) ++ is)
    line_walk = rw add-zero at (line_from (suc (length line)) 0 line (omega arith) refl (omega arith))

  -- the place after the byte 10 that ends a line
  next_line : (n at : ℕ) (x r : List ℕ) → OneLine x → ((k : ℕ) → place_of source (at + k) ≡ place_from n 1 (x ++ 10 ∷ r) k)
      → (k : ℕ) → place_of source (suc (at + length x) + k) ≡ place_from (suc n) 1 r k
  unfolding place_from
  next_line n at x r h right k =
      let m = length x in
      let e : suc (at + m) + k ≡ at + (m + suc k) = omega arith in
      rw e (right (m + suc k) ∙ rw (place_on n 1 m (suc k) (m + suc k) (1 + m) (10 ∷ r) h (omega arith) refl refl, drop_at))

  -- from the start of the line numbered n on
  lines_walk : {s : List ℕ} (n at : ℕ) → ((k : ℕ) → place_of source (at + k) ≡ place_from n 1 s k) → Lined s
      → Walk source at s (items_from n (lines_from at s))
  unfolding lines_from items_from place_from
  lines_walk n at right no_line = walk_end
  lines_walk n at right (last_line {b} {x} h) =
      let last = line_walk n at (b ∷ x) [] [] h (λ k. rw append-nil (right k)) (λ y _. rw append-nil) walk_end in
      rw lines_last (rw (append-nil (b ∷ x)) at last)
  lines_walk n at right (a_line {r} x h w) =
      let m = at + length x in
      let after = lines_walk (suc n) (suc m) (next_line n at x r h right) w in
      rw (lines_first at m r h refl) (line_walk n at x (10 ∷ r) _ h right (λ y l. before_newline y r l) (walk_newline (rw add-one after)))

  -- the whole source
  pub source_walk : Walk source 0 source (items source)
  unfolding items
  source_walk = lines_walk 1 0 (λ k. rw zero-add) (lined source)

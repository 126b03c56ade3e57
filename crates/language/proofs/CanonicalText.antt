-- A source is parts that are good; the canonical text of good parts is encoded, and is read as those parts.
use Prim.Native.Nat.{ℕ, zero, suc, ◌-◌}
use mathlib.Core.Path.{◌≡◌, refl, ap, ◌∙◌}
use mathlib.Core.Bool.{Bool, true, false, not, ◌&&◌, ◌||◌}
use mathlib.Core.List.{List, [], ◌∷◌, ◌++◌, append_assoc}
use mathlib.Core.Option.{none}
use native.Mathlib.Omega.{arith}
use borrow.Author.Tests.{not-true}
use lib.Dec.{eqb}
use lib.ListN.{length}
use lib.Seq.{take-append_seam}
use Rattle.language.specs.Choice.{if'}
use Rattle.language.specs.Utf8.{char_at, lead_of, follow, Encoded}
use Rattle.language.specs.Lexemes.{all, not_newline, is_blank, blank_run, lexeme}
use Rattle.language.specs.Tokens.{Piece, gap, Item, first_wrong}
use Rattle.language.specs.Canonical.{spell, ends_line, between', after, canonical}
use Rattle.language.proofs.Each.{All}
use Rattle.language.proofs.Tests.{both, inside, never, by_cases}
use Rattle.language.proofs.SpellingRuns.{all_parts, up_to_lem, implied}
use Rattle.language.proofs.CanonicalUtf8.{encoded_append, ascii_encoded}
use Rattle.language.proofs.CanonicalGood.{Part, literal, named, other, piece_for, content_for, Ends, end, space, is_visible, Good, ascii_char}
use Rattle.language.proofs.CanonicalSound.{Fine, a_gap, an_error, a_part, lexeme_fine}
use Rattle.language.proofs.CanonicalLines.{line_of, walk, pieces}
use Rattle.language.proofs.CanonicalJoin.{Reads, nothing, past, next, alone}

-- ---- a source is good parts

-- a line begins its source
line_first : (s : List ℕ) → (q : List ℕ) × (line_of s ++ q ≡ s)
line_first [] = ([], refl)
line_first (b ∷ s) = go (eqb b 10) (line_first s)
  where
    go : (t : Bool) → (q : List ℕ) × (line_of s ++ q ≡ s) → (q : List ℕ) × (if' t [] (b ∷ line_of s) ++ q ≡ b ∷ s)
    go true h = (b ∷ s, refl)
    go false h = (h.0, ap (λ (x : List ℕ). b ∷ x) h.1)

-- each piece of an encoded text, of which s is the rest
pub walk_fine : (s : List ℕ) (skip : ℕ) (p : List ℕ) → Encoded (p ++ s) → All Fine (walk skip s)
unfolding walk
walk_fine [] skip p w = tt
walk_fine (b ∷ s) (suc skip) p w = walk_fine s skip (p ++ b ∷ []) (rw append_assoc w)
walk_fine (b ∷ s) zero p w =
    let m : Encoded ((p ++ b ∷ []) ++ s) = rw append_assoc w in
    let q = line_first s in
    by_cases (All Fine) (eqb b 10) (λ _. walk_fine s 0 (p ++ b ∷ []) m)
    (λ _. (lexeme_fine b (line_of s) p q.0 (rw q.1 w), walk_fine s _ (p ++ b ∷ []) m))

-- pieces that are good parts
pub record Parts (qs : List Piece) : Type 0 where
  pub parts : List Part
  pub reads : Reads qs parts
  pub good : All Good parts

-- no error is first after a part either
after_part : (i : Item) (is : List Item) (p : Part) → i.piece ≡ piece_for p → first_wrong (i ∷ is) ≡ none → first_wrong is ≡ none
unfolding first_wrong
after_part i is (literal b) k e = rw k at e
after_part i is (named w) k e = rw k at e
after_part i is (other t) k e = rw k at e

-- lexemes without an error are parts
pub parts_of : (is : List Item) → All Fine (pieces is) → first_wrong is ≡ none → Parts (pieces is)
unfolding first_wrong
parts_of [] f e = record { parts = []; reads = nothing; good = tt }
parts_of (i ∷ is) f e = go refl f.0 (parts_of is f.1)
  where
    go : {q : Piece} → i.piece ≡ q → Fine q → (first_wrong is ≡ none → Parts (pieces is)) → Parts (pieces (i ∷ is))
    go k a_gap h = let d = h (rw k at e) in record { parts = d.parts; reads = past k d.reads; good = d.good }
    go k (an_error x) h =
        let c = rw k at e in
        never (cc)
    go k (a_part p j g) h =
        let d = h (after_part i is p (k ∙ j) e) in
        record { parts = p ∷ d.parts; reads = next p (k ∙ j) d.reads; good = (g, d.good) }

-- ---- good parts are read

-- the bytes left of a lexeme are stepped over
walk_skips : (w t : List ℕ) → walk (length w) (w ++ t) ≡ walk 0 t
unfolding walk
walk_skips [] t = refl
walk_skips (b ∷ w) t = walk_skips w t

-- bytes without newlines are of their line
not_newline_lem : (b : ℕ) → not_newline b ≡ true → eqb b 10 ≡ false
unfolding not_newline
not_newline_lem b e = not-true (eqb b 10) e

line_more : (w t : List ℕ) → all not_newline w ≡ true → line_of (w ++ t) ≡ w ++ line_of t
line_more [] t a = refl
line_more (b ∷ w) t a = let h = all_parts not_newline b w a in rw (not_newline_lem b h.0, line_more w t h.1)

-- a good part, and what ends it
one : (p : Part) → Good p → (t : List ℕ) → Ends (line_of t) → walk 0 (spell (content_for p) ++ t) ≡ piece_for p ∷ walk 0 t
unfolding walk
one p g t e =
    let h = all_parts not_newline g.front g.back g.clean in
    let z : suc (length g.back) - 1 ≡ length g.back = omega arith in
    rw (
      g.is,
      not_newline_lem g.front h.0,
      line_more g.back t h.1,
      g.reads (line_of t) e,
      take-append_seam,
      g.piece,
      z,
    )
    (ap (λ (qs : List Piece). piece_for p ∷ qs) (walk_skips g.back t))

-- a visible byte is not blank, and no newline
visible_tests : (b : ℕ) → is_visible b ≡ true → (is_blank b ≡ false) × (eqb b 10 ≡ false)
unfolding is_blank
visible_tests b e =
    let h = inside 33 126 b e in
    let k = up_to_lem (λ n. not (is_visible n) || (not (is_blank n) && not (eqb n 10))) 127 refl b (omega arith) in
    let t = both (not (is_blank b)) (not (eqb b 10)) (implied (is_visible b) _ e k) in
    (not-true (is_blank b) t.0, not-true (eqb b 10) t.1)

-- no blank character starts with it
dark_run : (b : ℕ) (s : List ℕ) → is_visible b ≡ true → blank_run 0 (line_of (b ∷ s)) ≡ 0
unfolding blank_run
dark_run b s e =
    let h = inside 33 126 b e in
    let t = visible_tests b e in
    rw (t.1, ascii_char b (line_of s) (omega arith), blank_run, t.0)

-- a space before a visible byte
a_space : (b : ℕ) (s : List ℕ) → is_visible b ≡ true → walk 0 (32 ∷ b ∷ s) ≡ gap ∷ walk 0 (b ∷ s)
unfolding walk lexeme char_at lead_of follow blank_run is_blank
a_space b s e =
    let z : suc (blank_run 0 (line_of (b ∷ s))) - 1 ≡ 0 = omega (arith, dark_run b s e) in
    ap (λ (n : ℕ). gap ∷ walk n (b ∷ s)) z

-- ---- the canonical text

-- what follows a part, and the text of the parts ps after it
abbrev tail : Bool → List Part → List ℕ
tail t ps = if' t (10 ∷ []) (between' (alone ps)) ++ canonical (alone ps)

-- the text of parts starts with the first of them
first_spelt : (p : Part) (ps : List Part) (g : Good p) → (s : List ℕ) × (canonical (alone (p ∷ ps)) ≡ g.front ∷ s)
unfolding canonical
first_spelt p ps g = (g.back ++ after (content_for p) (alone ps) ++ canonical (alone ps), rw g.is)

-- a part that follows has a space before it
spaced : (p : Part) (ps : List Part) → between' (alone (p ∷ ps)) ≡ 32 ∷ []
spaced (literal b) ps = refl
spaced (named w) ps = refl
spaced (other t) ps = refl

-- it ends the part, and reads as the others
tail_reads : (t : Bool) (ps : List Part) → All Good ps → Reads (walk 0 (canonical (alone ps))) ps
    → Ends (line_of (tail t ps)) × Reads (walk 0 (tail t ps)) ps
unfolding walk canonical spell
tail_reads true ps g r = (end, r)
tail_reads false [] g r = (end, nothing)
tail_reads false (p ∷ ps) g r =
    let f = first_spelt p ps g.0 in
    let e : tail false (p ∷ ps) ≡ 32 ∷ (g.0.front ∷ f.0) = rw (spaced p ps, f.1) in
    rw e (space, rw (a_space g.0.front f.0 g.0.starts) (past refl (rw f.1 at r)))

-- the text of good parts is read as those parts
pub text_reads : (ps : List Part) → All Good ps → Reads (walk 0 (canonical (alone ps))) ps
unfolding canonical spell walk
text_reads [] g = nothing
text_reads (p ∷ ps) g =
    let c = content_for p in
    let d = tail_reads (ends_line c) ps g.1 (text_reads ps g.1) in
    rw (append_assoc (spell c) (after c (alone ps)) (canonical (alone ps)), one p g.0 (tail (ends_line c) ps) d.0)
    (next p refl d.1)

-- ---- and is encoded

-- what follows a part is ASCII, and the spelling of a good part is encoded
between_encoded : (t : Bool) (ps : List Part) → Encoded (if' t (10 ∷ []) (between' (alone ps)))
between_encoded true ps = ascii_encoded (10 ∷ []) refl
between_encoded false [] = ascii_encoded [] refl
between_encoded false (p ∷ ps) = rw (spaced p ps) (ascii_encoded (32 ∷ []) refl)

pub text_encoded : (ps : List Part) → All Good ps → Encoded (canonical (alone ps))
unfolding canonical spell
text_encoded [] g = ascii_encoded [] refl
text_encoded (p ∷ ps) g =
    let c = content_for p in
    let spelt : Encoded (spell c) = rw g.0.is g.0.whole in
    encoded_append (canonical (alone ps))
    (encoded_append (after c (alone ps)) spelt (between_encoded (ends_line c) ps)) (text_encoded ps g.1)

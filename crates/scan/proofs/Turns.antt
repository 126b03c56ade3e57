-- A step of the scanner: what it found, and where it goes on.
use mathlib.Core.Path.{◌≡◌, refl, sym, ap, ◌∙◌}
use mathlib.Core.List.{List, [], ◌∷◌}
use Prim.Native.Nat.{ℕ, ◌+◌, ◌-◌, ◌≤◌, ◌<◌}
use native.Mathlib.Decide.{dec_lt}
use native.Mathlib.Omega.{arith}
use borrow.Author.Tests.{lt-ltb, le-ltb}
use lib.ListN.{length, get_or, drop, length-drop, drop_of_length-le}
use lib.Seq.{drop-drop}
use Rattle.language.specs.Lexemes.{placed, scan_from, lexeme}
use Rattle.language.proofs.Tests.{never}
use Rattle.language.proofs.LexemeSizes.{size_fits}
use Rattle.language.proofs.LexemeSpans.{scan_unfolds}
use Rattle.lexemes.specs.declared.Lexeme.{Lexeme}
use Rattle.lexemes.specs.Kinds.{kind_as, lexeme_as}
use Rattle.runs.proofs.Places.{here}
use Rattle.scan.specs.declared.Scanner.{Scanner}
use Rattle.std.specs.Prelude.{Option, Some, None}
use Rattle.scan.specs.Scanning.{step_at, GivesLexeme}

-- it found the lexeme that stands here, which has a byte and ends within the line, and goes on where that ends
pub record Turn (line : List ℕ) (pos : ℕ) (l : Lexeme) (to : ℕ) : Type 0 where
  pub is : l ≡ lexeme_as pos (lexeme (drop pos line))
  pub begins : l.start ≡ pos
  pub ends : l.end ≡ to
  pub kind : l.kind ≡ kind_as (lexeme (drop pos line)).kind
  pub past : to ≡ pos + (lexeme (drop pos line)).size
  pub forth : pos < to
  pub within : to ≤ length line
  pub rest : scan_from 0 pos (drop pos line) ≡ placed pos (lexeme (drop pos line)) ∷ scan_from 0 to (drop to line)

-- a lexeme stands at a place of the line, and the scanner goes on from `to`
abbrev pub Steps : List ℕ → ℕ → Lexeme → ℕ → Type 0
Steps line pos l to = (Some l ≡ step_at line pos) × (to ≡ l.end)

module _ (line : List ℕ) (pos : ℕ) where
  pub turn : (l : Lexeme) (to : ℕ) → Steps line pos l to → Turn line pos l to
  unfolding step_at
  turn l to (e, goes) =
      elim (dec_lt pos (length line)) [
        | no h ↦ let k : ◌≡◌ {A = Option Lexeme} (Some l) None = e ∙ rw (le-ltb pos (length line) (omega arith)) in never (cc)
        | yes h ↦
            let x = lexeme (drop pos line) in
            let k : Some l ≡ Some (lexeme_as pos x) = e ∙ rw (lt-ltb pos (length line) h) in
            let is : l ≡ lexeme_as pos x = cc in
            let past : to ≡ pos + x.size = goes ∙ ap (λ (m : Lexeme). m.end) is in
            let b : drop pos line ≡ get_or line pos 0 ∷ drop (pos + 1) line = here line pos h in
            let fits : (0 < x.size) × (x.size ≤ length (drop pos line)) = rw b (size_fits (get_or line pos 0) (drop (pos + 1) line)) in
            record {
              is = is;
              begins = ap (λ (m : Lexeme). m.start) is;
              ends = sym goes;
              kind = ap (λ (m : Lexeme). m.kind) is;
              past = past;
              forth = omega (arith, fits.0);
              within = omega (arith, fits.1, length-drop pos line);
              rest = rw (past, ← drop-drop x.size pos line) (rw b ((scan_unfolds pos).1 (get_or line pos 0) (drop (pos + 1) line)));
            }
      ]

  -- there is none: the place is the end of the line
  pub at_end : None ≡ step_at line pos → scan_from 0 pos (drop pos line) ≡ []
  unfolding step_at
  at_end e =
      elim (dec_lt pos (length line)) [
        | yes h ↦ let k : ◌≡◌ {A = Option Lexeme} None (Some (lexeme_as pos (lexeme (drop pos line)))) = e ∙ rw (lt-ltb pos (length line) h) in never (cc)
        | no h ↦ rw (drop_of_length-le line {i = pos} (omega arith)) (scan_unfolds pos).0
      ]

-- the scanner that a loop begins with is the new one
pub starts : {line : List ℕ} {at : ℕ} {x z : Scanner} → z ≡ x → (x.line.now ≡ line) × (x.pos ≡ at) → (z.line.now ≡ line) × (z.pos ≡ at)
starts e h = rw e h

-- what a call of `next` says, where the scanner x is on a line
module _ {line : List ℕ} {x y : Scanner} where
  pub steps : {l : Lexeme} → GivesLexeme x (Some l) y → x.line.now ≡ line → (y.line.now ≡ line) × Steps line x.pos l y.pos
  steps g e = (g.line ∙ e, (g.found ∙ ap (λ (s : List ℕ). step_at s x.pos) e, g.goes))

  pub ended : GivesLexeme x None y → x.line.now ≡ line → None ≡ step_at line x.pos
  ended g e = g.found ∙ ap (λ (s : List ℕ). step_at s x.pos) e

-- it comes nearer to the end of the line
pub nearer : (line : List ℕ) (pos : ℕ) (l : Lexeme) → Some l ≡ step_at line pos → length line - l.end < length line - pos
nearer line pos l e = let b = turn line pos l l.end (e, refl) in omega arith

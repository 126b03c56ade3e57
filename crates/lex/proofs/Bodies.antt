-- The bodies of the literals of a text, and the loop that looks for one.
use Prim.Native.Nat.{ℕ, suc, ◌+◌, ◌-◌, ◌≤◌, ◌<◌}
use mathlib.Core.Path.{◌≡◌, refl, sym, ◌∙◌}
use mathlib.Core.List.{List, [], ◌∷◌}
use native.Mathlib.Decide.{dec_le}
use native.Mathlib.Numerals.{add-one}
use native.Mathlib.Omega.{arith}
use borrow.Author.Tests.{le-leb, lt-leb}
use lib.ListN.{length, get_or, drop}
use lib.Seq.{drop-cons, take-take}
use Rattle.language.specs.Lexemes.{Kind, trivia, str, tok, error, scan_from, lexeme}
use Rattle.language.specs.Tokens.{unquoted, between, body_of, bodies_of, bodies_in}
use Rattle.language.proofs.Tests.{never}
use Rattle.language.proofs.Parts.{part_size}
use Rattle.lexemes.specs.declared.Lexeme.{Lexeme}
use Rattle.lexemes.specs.declared.LexemeKind.TheVariants as kind_is
use Rattle.std.specs.Prelude.{None}
use Rattle.scan.specs.Scanning as scanning
use Rattle.lexemes.specs.Kinds.{kind_as}
use Rattle.scan.specs.Scanning.{step_at}
use Rattle.scan.proofs.Parts.{some_body, no_body}
use Rattle.lex.specs.Lexing.{nth, body_at}
use Rattle.scan.proofs.Turns.{Steps, turn, at_end}

-- ---- the loop

-- what stands between the quotes
module _ (s : List ℕ) (at e : ℕ) (h : e ≤ length s) where
  pub unquoted_is : unquoted (between s at e) ≡ scanning.body_of s at e
  unquoted_is =
      elim (dec_le (at + 2) e) [
        | no k ↦ let z : e - at - 2 ≡ 0 = omega arith in rw (part_size s at e h, z) (no_body s at e (omega arith))
        | yes k ↦
            let m = e - (at + 1) in
            let r = drop (suc at) s in
            let d : drop at s ≡ get_or s at 0 ∷ r = drop-cons s at 0 (omega arith) in
            let n : e - at ≡ suc m = omega arith in
            let p : suc m - 2 ≡ e - 1 - (at + 1) = omega arith in
            rw (part_size s at e h, n, p, d) (take-take (e - 1 - (at + 1)) m r (omega arith) ∙ rw (← add-one at) (some_body s at e h (omega arith)))
      ]

-- the code's kind of a literal, and of what is none
pub is_literal_lem : (k : Kind) → kind_is.Str ≡ kind_as k → k ≡ str
is_literal_lem str e = refl
is_literal_lem trivia e = never (cc)
is_literal_lem (tok t) e = never (cc)
is_literal_lem (error x) e = never (cc)

pub no_literal : (k : Kind) (bs : List ℕ) → (kind_as k ≡ kind_is.Str → ⊥) → body_of k bs ≡ []
no_literal trivia bs o = refl
no_literal (tok t) bs o = refl
no_literal (error x) bs o = refl
no_literal str bs o = absurd (o refl)

-- the bodies from a lexeme on: its own where it is a literal, and those after
module _ (text : List ℕ) (pos : ℕ) (l : Lexeme) (to : ℕ) (e : Steps text pos l to) where
  abbrev after : List (List ℕ)
  after = bodies_of text (scan_from 0 to (drop to text))

  pub none_here : (l.kind ≡ kind_is.Str → ⊥) → bodies_of text (scan_from 0 pos (drop pos text)) ≡ after
  none_here h =
      let p = turn text pos l to e in
      let n = no_literal (lexeme (drop pos text)).kind (between text pos (pos + (lexeme (drop pos text)).size)) (rw p.kind at h) in
      rw (p.rest, n)

  pub one_here : l.kind ≡ kind_is.Str → {r : List ℕ} → r ≡ scanning.body_of text l.start l.end
      → bodies_of text (scan_from 0 pos (drop pos text)) ≡ r ∷ after
  one_here h {r} d =
      let p = turn text pos l to e in
      let end = pos + (lexeme (drop pos text)).size in
      let w : r ≡ unquoted (between text pos end) = d ∙ rw (p.begins, p.ends, p.past) (sym (unquoted_is text pos end (omega (arith, p.within, p.past)))) in
      rw (p.rest, is_literal_lem (lexeme (drop pos text)).kind (sym h ∙ p.kind), w)

-- the body numbered i is the one numbered `left` of the lexemes from `pos` on
pub record Looking (text : List ℕ) (i left pos : ℕ) : Type 0 where
  same : nth left (bodies_of text (scan_from 0 pos (drop pos text))) ≡ nth i (bodies_in text)

pub start : (text : List ℕ) (i pos : ℕ) → pos ≡ 0 → Looking text i i pos
start text i pos z = record { same = rw z }

module _ (text : List ℕ) (i left pos : ℕ) (k : Looking text i left pos) where
  pub none_left : None ≡ step_at text pos → [] ≡ nth i (bodies_in text)
  none_left e = rw (at_end text pos e) at k.same

  module _ (l : Lexeme) (to : ℕ) (e : Steps text pos l to) where
    -- no literal
    pub passed : (l.kind ≡ kind_is.Str → ⊥) → Looking text i left to
    passed h = record { same = rw (none_here text pos l to e h) at k.same }

    module _ (h : l.kind ≡ kind_is.Str) where
      -- a literal, and it is the one
      pub is_it : {r : List ℕ} → left ≡ 0 → r ≡ scanning.body_of text l.start l.end → r ≡ nth i (bodies_in text)
      is_it z d = rw (one_here text pos l to e h d, z) at k.same

      -- a literal, and it is not
      pub not_it : (left ≡ 0 → ⊥) → Looking text i (left - 1) to
      not_it z = let n : left ≡ suc (left - 1) = omega arith in record { same = rw (one_here text pos l to e h refl, n) at k.same }

-- ---- a string token of a source

module _ (s : List ℕ) (at e i : ℕ) where
  pub some_part : e ≤ length s → at ≤ e → nth i (bodies_in (between s at e)) ≡ body_at s at e i
  unfolding body_at
  some_part h k = rw (le-leb e (length s) h, le-leb at e k)

  pub no_part : 0 < (e - length s) + (at - e) → [] ≡ body_at s at e i
  unfolding body_at
  no_part h =
      elim (dec_le e (length s)) [
        | no below ↦ rw (lt-leb e (length s) (omega arith))
        | yes within ↦ rw (le-leb e (length s) within, lt-leb at e (omega arith))
      ]

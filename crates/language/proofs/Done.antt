-- Number 0: lexing and canonicalising answer it exactly for a source that lexes, with room for what they leave; and they
-- leave all of it.
use Prim.Native.Nat.{ℕ, ◌/◌, ◌≤◌, ◌<◌}
use mathlib.Core.Path.{◌≡◌, refl, sym, ap, ◌∙◌}
use mathlib.Core.List.{List}
use mathlib.Core.Option.{Option, none, some}
use native.Mathlib.Decide.{dec_le}
use native.Mathlib.Omega.{arith}
use borrow.Author.Tests.{lt-ltb, le-ltb, ne_eqb}
use lib.ListN.{length}
use Rattle.table.specs.Table.{pad_to, tabled}
use Rattle.language.specs.Utf8.{first_bad}
use Rattle.language.specs.Tokens.{items, Wrong, first_wrong, tokens, place_of}
use Rattle.language.specs.Tables.{token_row, token_width}
use Rattle.language.specs.Canonical.{text, Lexes, Fits}
use Rattle.language.specs.Numbers.{Verdict, verdict, placed, Lexed, lexed, lexical, lex_answer, lex_table, canonised, canonised_within, canon_answer, canon_tokens, canon_text}

-- ---- lex

-- a source that lexes, with room for its tokens
pub record LexesIn (s : List ℕ) (room : ℕ) : Type 0 where
  pub lexes : Lexes s
  pub fit : length (tokens s) ≤ room

module _ (s : List ℕ) (room : ℕ) where
  pub lex_done : LexesIn s room → lex_answer s room ≡ lexed (verdict 0 0 0) (length (tokens s))
  unfolding lex_answer
  lex_done h =
      let l = h.lexes in
      rw (le-ltb _ _ l.short, l.whole, lex_answer, l.good, lex_answer, le-ltb _ _ h.fit)

  module _ (z : (lex_answer s room).verdict.number ≡ 0) where
    -- it is no other number
    other : (v : Verdict) → lex_answer s room ≡ lexed v 0 → 0 < v.number → LexesIn s room
    other v e h = let d : v.number ≡ 0 = ap (λ (a : Lexed). a.verdict.number) (sym e) ∙ z in absurd (omega arith)

    module _ (h : length s ≤ 65536) where
      counted : first_bad s ≡ none → first_wrong (items s) ≡ none → LexesIn s room
      unfolding lex_answer
      counted e f =
          elim (dec_le (length (tokens s)) room) [
            | yes m ↦ record { lexes = record { short = h; whole = e; good = f }; fit = m }
            | no m ↦
                let l : room < length (tokens s) = omega arith in
                other (verdict 4 0 0) (rw (le-ltb _ _ h, e, lex_answer, f, lex_answer, lt-ltb _ _ l)) (omega arith)
          ]

      lexed_all : first_bad s ≡ none → (o : Option Wrong) → first_wrong (items s) ≡ o → LexesIn s room
      unfolding lex_answer
      lexed_all e (some w) f = other (lexical w) (rw (le-ltb _ _ h, e, lex_answer, f, lex_answer)) (omega arith)
      lexed_all e none f = counted e f

      encoded : (o : Option ℕ) → first_bad s ≡ o → LexesIn s room
      unfolding lex_answer
      encoded (some at) e = other (placed 2 (place_of s at)) (rw (le-ltb _ _ h, e, lex_answer)) (omega arith)
      encoded none e = lexed_all e (first_wrong (items s)) refl

    pub lex_done_only : LexesIn s room
    unfolding lex_answer
    lex_done_only =
        elim (dec_le (length s) 65536) [
          | yes h ↦ encoded h (first_bad s) refl
          | no h ↦ let m : 65536 < length s = omega arith in other (verdict 1 0 0) (rw (lt-ltb _ _ m)) (omega arith)
        ]

pub lex_leaves : (s : List ℕ) (n : ℕ) → LexesIn s (n / token_width) → lex_table s n ≡ tabled token_row token_width n (tokens s)
unfolding lex_table
lex_leaves s n h = rw (lex_done s (n / token_width) h)

-- ---- canonicalise

-- with room for its text too
pub record FitsIn (s : List ℕ) (token_room room : ℕ) : Type 0 where
  pub fits : Fits s
  pub tokens : length (tokens s) ≤ token_room
  pub bytes : length (text s) ≤ room

pub lexes_in : {s : List ℕ} {token_room room : ℕ} → FitsIn s token_room room → LexesIn s token_room
lexes_in h = record { lexes = h.fits.lexes; fit = h.tokens }

module _ (s : List ℕ) (token_room room : ℕ) where
  pub canon_done : FitsIn s token_room room
      → canon_answer s token_room room ≡ canonised (verdict 0 0 0) (length (tokens s)) (length (text s))
  unfolding canon_answer
  canon_done h = rw (lex_done s token_room (lexes_in h), le-ltb _ _ h.bytes, le-ltb _ _ h.fits.short)

  module _ (z : (canon_answer s token_room room).verdict.number ≡ 0) where
    -- lexing was done
    lexes_first : LexesIn s token_room
    unfolding canon_answer
    lexes_first =
        let n = (lex_answer s token_room).verdict.number in
        lex_done_only s token_room
        (elim (dec_le n 0) [ yes h ↦ omega arith | no h ↦ let d : n ≡ 0 → ⊥ = λ e. omega arith in rw (ne_eqb _ _ d) at z ])

    judged : (canonised_within room (length (tokens s)) (length (text s))).verdict.number ≡ 0
    unfolding canon_answer
    judged = rw (lex_done s token_room lexes_first) at z

    pub canon_done_only : FitsIn s token_room room
    canon_done_only =
        let l = lexes_first in
        elim (dec_le (length (text s)) room) [
          | yes h ↦
              elim (dec_le (length (text s)) 65536) [
                | yes k ↦ record { fits = record { lexes = l.lexes; short = k }; tokens = l.fit; bytes = h }
                | no k ↦
                    let m : 65536 < length (text s) = omega arith in
                    absurd (omega (arith, rw (le-ltb _ _ h, lt-ltb _ _ m) at judged))
              ]
          | no h ↦ let m : room < length (text s) = omega arith in absurd (omega (arith, rw (lt-ltb _ _ m) at judged))
        ]

module _ (s : List ℕ) (t n : ℕ) (h : FitsIn s (t / token_width) n) where
  pub canon_leaves_tokens : canon_tokens s t n ≡ tabled token_row token_width t (tokens s)
  unfolding canon_tokens
  canon_leaves_tokens = rw (canon_done s (t / token_width) n h)

  pub canon_leaves_text : canon_text s t n ≡ pad_to n (text s)
  unfolding canon_text
  canon_leaves_text = rw (canon_done s (t / token_width) n h)

-- The literals of a string, written one by one as the scanner finds them.
use Prim.Native.Nat.{ℕ, ◌+◌, ◌*◌, ◌-◌, ◌≤◌, ◌<◌}
use mathlib.Core.Path.{◌≡◌, refl, sym, ap, ◌∙◌}
use mathlib.Core.List.{List, [], ◌∷◌, ◌++◌, append_assoc, append-nil}
use native.Mathlib.Omega.{arith}
use borrow.Author.Tests.{eq-eqb, ne_eqb}
use lib.ListN.{length, drop, length-take}
use Rattle.language.specs.Lexemes.{scan_from}
use Rattle.language.specs.Tokens.{unquoted, between, bodies_of, bodies_in}
use Rattle.language.specs.Canonical.{quoted, spell_bodies}
use Rattle.language.proofs.Parts.{part_size}
use Rattle.lexemes.specs.declared.Lexeme.{Lexeme}
use Rattle.lexemes.specs.declared.LexemeKind.TheVariants as kind_is
use Rattle.std.specs.Prelude.{None}
use Rattle.scan.specs.Scanning as scanning
use Rattle.scan.specs.Scanning.{step_at}
use Rattle.scan.proofs.Turns.{Steps, turn, at_end}
use Rattle.lex.proofs.Bodies.{unquoted_is, none_here, one_here}
use Rattle.writer.specs.Writing.{Writes}
use Rattle.canon.specs.Spelling.{literals_text, literal_text}
use Rattle.writer.proofs.Laws.{none, ◌then◌, bytes_are}

-- ---- one literal more

bodies_more : (c : List ℕ) (cs : List (List ℕ)) (b : List ℕ) → spell_bodies c cs ++ 32 ∷ quoted b ≡ spell_bodies c (cs ++ b ∷ [])
bodies_more c [] b = refl
bodies_more c (d ∷ ds) b = append_assoc (quoted c) (32 ∷ spell_bodies d ds) (32 ∷ quoted b) ∙ rw (bodies_more d ds b)

some_byte : (c : List ℕ) (cs : List (List ℕ)) → 0 < length (spell_bodies c cs)
some_byte c [] = omega arith
some_byte c (d ∷ ds) = omega arith

literal_more : (bs : List (List ℕ)) (b : List ℕ) (at end : ℕ) → end ≡ at + length (literals_text bs)
    → literals_text bs ++ literal_text at end b ≡ literals_text (bs ++ b ∷ [])
literal_more [] b at end e = rw (eq-eqb end at (omega arith))
literal_more (c ∷ cs) b at end e = rw (ne_eqb end at (λ h. omega (arith, some_byte c cs))) (bodies_more c cs b)

-- ---- what stands between the quotes

unquoted_short : (b : List ℕ) → length (unquoted b) ≤ length b - 2
unquoted_short b = omega (arith, length-take (length b - 2) (drop 1 b))

module _ (s : List ℕ) (at e : ℕ) (h : e ≤ length s) where
  body_short : length (scanning.body_of s at e) ≤ e - at - 2
  body_short = omega (arith, ap length (unquoted_is s at e h), unquoted_short (between s at e), part_size s at e h)

-- ---- the loop

-- the literals before `pos` are written
pub record Telling (part t : List ℕ) (at : ℕ) (u : List ℕ) (end pos : ℕ) : Type 0 where
  done : List (List ℕ)
  whole : done ++ bodies_of part (scan_from 0 pos (drop pos part)) ≡ bodies_in part
  pub writes : Writes t at (literals_text done) end u
  pub few : end ≤ at + 3 * pos
  pub within : pos ≤ length part

module _ (part t : List ℕ) (at : ℕ) where
  pub start : (pos : ℕ) → pos ≡ 0 → Telling part t at t at pos
  start pos z = record { done = []; whole = rw z; writes = none t at; few = omega arith; within = omega arith }

  module _ (u : List ℕ) (end pos : ℕ) (k : Telling part t at u end pos) where
    pub all_told : None ≡ step_at part pos → length part ≤ 65536
        → Writes t at (literals_text (bodies_in part)) end u × (end ≤ at + 262144)
    all_told e h =
        let all : k.done ≡ bodies_in part = sym (append-nil k.done) ∙ rw (at_end part pos e) at k.whole in
        (rw (← all) k.writes, omega (arith, k.few, k.within))

    module _ (l : Lexeme) (next : ℕ) (e : Steps part pos l next) where
      -- no literal
      pub passed : (l.kind ≡ kind_is.Str → ⊥) → Telling part t at u end next
      passed h =
          let p = turn part pos l next e in
          record {
            done = k.done;
            whole = rw (none_here part pos l next e h) at k.whole;
            writes = k.writes;
            few = omega (arith, k.few, p.forth);
            within = p.within;
          }

      module _ {r : List ℕ} (d : r ≡ scanning.body_of part l.start l.end) where
        short : length r ≤ next - pos - 2
        short =
            let p = turn part pos l next e in
            let w : r ≡ scanning.body_of part pos next = d ∙ rw (p.begins, p.ends) in
            rw w (body_short part pos next p.within)

        -- what the call asks for
        pub room : length part ≤ 65536 → at ≤ 65536 → (length r ≤ 65536) × (end ≤ 524287)
        room h m = let p = turn part pos l next e in (omega (arith, short, p.within), omega (arith, k.few, k.within))

        -- a literal
        pub told : l.kind ≡ kind_is.Str → {v : List ℕ} {to : ℕ} → Writes u end (literal_text at end r) to v × (to ≤ end + length r + 3)
            → Telling part t at v to next
        told h {v} {to} w =
            let p = turn part pos l next e in
            record {
              done = k.done ++ r ∷ [];
              whole = append_assoc k.done (r ∷ []) _ ∙ rw (one_here part pos l next e h d) at k.whole;
              writes = bytes_are _ (literal_more k.done r at end k.writes.answer) (k.writes then w.0);
              few = omega (arith, k.few, w.1, short, p.forth);
              within = p.within;
            }

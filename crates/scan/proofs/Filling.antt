-- Filling a table with the lexemes of a line, one turn of the loop after the other.
use mathlib.Core.Path.{◌≡◌, refl, sym, ap, ◌∙◌}
use mathlib.Core.List.{List, [], ◌∷◌, ◌++◌, append_assoc, append-nil}
use Prim.Native.Nat.{ℕ, ◌+◌, ◌≤◌}
use native.Mathlib.Omega.{arith}
use lib.ListN.{length, drop, length-append}
use Rattle.table.specs.Table.{pad_to, tabled, put_row}
use Rattle.table.proofs.Laws.{put_next, tabled_none}
use Rattle.language.specs.Lexemes.{Placed, placed, scan_from, scan, lexeme}
use Rattle.language.specs.Tables.{lexeme_row, lexeme_width}
use Rattle.lexemes.specs.declared.Lexeme.{Lexeme}
use Rattle.lexemes.specs.Kinds.{row_of}
use Rattle.lexemes.proofs.Rows.{row_is, row_width}
use Rattle.std.specs.Prelude.{None}
use Rattle.scan.specs.Scanning.{step_at}
use Rattle.scan.proofs.Turns.{Steps, turn, at_end}

-- `count` lexemes are done, their rows are in the table of n words, and the scanner stands at `pos`
pub record Filling (line : List ℕ) (n : ℕ) (table : List ℕ) (count pos : ℕ) : Type 0 where
  pub done : List Placed
  pub whole : done ++ scan_from 0 pos (drop pos line) ≡ scan line
  pub rows : table ≡ tabled lexeme_row lexeme_width n done
  pub counted : count ≡ length done
  pub within : pos ≤ length line
  pub few : count ≤ pos

module _ (line : List ℕ) (n : ℕ) (table : List ℕ) where
  pub start : table ≡ pad_to n [] → (pos : ℕ) → pos ≡ 0 → Filling line n table 0 pos
  start e pos z =
      record { done = []; whole = rw z; rows = e ∙ sym (tabled_none lexeme_row lexeme_width n); counted = refl; within = omega arith; few = omega arith }

  module _ (count pos : ℕ) (f : Filling line n table count pos) where
    module _ (l : Lexeme) (to : ℕ) (e : Steps line pos l to) where
      more : Filling line n (put_row table count (row_of l)) (count + 1) to
      more =
          let s = turn line pos l to e in
          let x = lexeme (drop pos line) in
          let p = placed pos x in
          let r : row_of l ≡ lexeme_row p = ap row_of s.is ∙ row_is pos x in
          record {
            done = f.done ++ p ∷ [];
            whole = append_assoc f.done (p ∷ []) (scan_from 0 to (drop to line)) ∙ ap (λ (s : List Placed). f.done ++ s) (sym s.rest) ∙ f.whole;
            rows = rw (f.rows, f.counted, r) (put_next lexeme_row lexeme_width row_width (omega arith) n f.done p);
            counted = let c = f.counted in simp length-append (omega arith);
            within = s.within;
            few = omega (arith, f.few, s.forth);
          }

      -- the same from what the calls say of their results
      pub more_is : {r t : List ℕ} → r ≡ row_of l → t ≡ put_row table count r → Filling line n t (count + 1) to
      more_is e d = let z = d ∙ ap (put_row table count) e in rw z more

    -- at the end of the line all lexemes are done
    module _ (e : None ≡ step_at line pos) where
      all_done : f.done ≡ scan line
      all_done = sym (append-nil f.done) ∙ ap (λ (s : List Placed). f.done ++ s) (sym (at_end line pos e)) ∙ f.whole

      pub counted_all : count ≡ length (scan line)
      counted_all = f.counted ∙ ap length all_done

      pub rows_all_lem : table ≡ tabled lexeme_row lexeme_width n (scan line)
      rows_all_lem = f.rows ∙ ap (tabled lexeme_row lexeme_width n) all_done

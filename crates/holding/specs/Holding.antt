-- How rows of the table of what is held stand for terms, and a step for a judgement.
use Rattle.std.specs.Prelude.{ℕ, ◌+◌, ◌≡◌, List, length, Result, Ok, Err}
use Rattle.table.specs.Table.{put_row}
use Rattle.language.specs.Terms as terms
use Rattle.language.specs.Judgements as judgements
use Rattle.language.specs.Judgements.{val}
use Rattle.language.specs.Findings as rows
use Rattle.language.specs.Findings.{parts, stmt_row}
use Rattle.language.specs.Numbers.{token_of}
use Rattle.findings.specs.declared.Counts.{Counts}
use Rattle.findings.specs.Findings.{put_rows, Adds}
use Rattle.values.specs.declared.Term.{Term}
use Rattle.values.specs.declared.Halt.{Halt}
use Rattle.holding.specs.declared.Valued.{Valued}
use Rattle.values.specs.Values.{Judged, Judgement, term_as, judged_as}

-- so many rows can be counted and stored
abbrev pub most_rows : ℕ
most_rows = 4294967296

-- the rows of a source's statements, stored from the row k on
abbrev pub put_held : List ℕ → List ℕ → ℕ → List rows.Row → List ℕ
put_held s t k rs = put_rows (stmt_row (token_of s)) t k rs

-- one row
pub record Puts (s : List ℕ) (row at kind slot : ℕ) (v : Term) (x y : List ℕ) : Type 0 where
  pub is : (e : terms.Term) → v ≡ term_as e → y ≡ put_row x row (stmt_row (token_of s) (rows.row at kind slot e))

-- ---- judgements

-- what judging comes to, the counts then, and the next free row of the table of what is held
pub record Step : Type 0 where
  pub out : Judged
  pub counts : Counts
  pub next : ℕ

abbrev pub step : Judged → Counts → ℕ → Step
step o c next = record { out = o; counts = c; next = next }

-- the same of the code's answer, which has a next row where there is a value
abbrev pub stepped : Result Valued Halt → Counts → Step
stepped (Ok v) c = step (Ok v.term) c v.next
stepped (Err h) c = step (Err h) c 0

-- the code's judgement r, and the table of findings from x to y, are what the judgement j says
pub record Judges (s : List ℕ) (r : Judgement) (x y : List ℕ) (c : Counts) (j : judgements.Judgement terms.Term) : Type 0 where
  pub out : r.out ≡ judged_as s j.out
  pub adds : Adds s c x r.counts y j.warns j.looks

-- the same of a step, for which the row `at` was kept: the table of what is held goes from u to v, with the parts' rows and no other
-- from the next row on. Of that table nothing is said where there is no value.
pub record Agrees (s : List ℕ) (r : Step) (x y u v : List ℕ) (c : Counts) (at : ℕ) (j : judgements.Judgement terms.Term) : Type 0 where
  pub out : r.out ≡ judged_as s j.out
  pub adds : Adds s c x r.counts y j.warns j.looks
  pub next : (e : terms.Term) → j.out ≡ val e → r.next ≡ at + 1 + length (parts e)
  pub rows : (e : terms.Term) → j.out ≡ val e → v ≡ put_held s u (at + 1) (parts e)

-- Slots and the statements that are held (02, E2; `Slots.antt` of the crate `language`), said of what calls of check answer.
use Rattle.std.specs.Prelude.{ℕ, ◌≡◌, List}
use Rattle.language.specs.Findings.{rows_of, stmt_row, stmt_width}
use Rattle.language.specs.Numbers.{token_of, checked, held_by}
use Rattle.language.specs.Left.{Leaves}
use Rattle.language.specs.Slots.{Slotted}
use Rattle.checker.specs.declared.CheckAnswer.{CheckAnswer}
use Rattle.checker.specs.Entry.{CheckSource}

-- where no error was found the table of statements has the rows of statements whose slots are "numbered 0, 1, .. in order of creation
-- and each slot that is read was made by a `Let` before it"
pub record CheckSlots (source : List ℕ) (k : ℕ) (r : CheckAnswer) (held : List ℕ) : Type 0 where
  pub slots : ℕ
  pub numbered : Slotted 0 (held_by (checked source)) slots
  pub rows : r.errors ≡ 0
      → Leaves (stmt_row (token_of source)) stmt_width k (rows_of (held_by (checked source))) r.verdict.number r.statements held

abbrev pub ChecksSlot : Type 0
ChecksSlot =
    (source : List ℕ) (t n d k : ℕ) (r : CheckAnswer) (toks tree found held : List ℕ)
    → CheckSource source t n d k r toks tree found held → CheckSlots source k r held

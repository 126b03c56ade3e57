-- The number of its statement on each finding (02, E7; `Numbered.antt` of the crate `language`), said of what calls of check answer
-- and leave.
use Rattle.std.specs.Prelude.{ℕ, ◌+◌, ◌/◌, ◌≤◌, List}
use Rattle.language.specs.Findings.{diag_width}
use Rattle.language.specs.Numbered.{Numbered}
use Rattle.checker.specs.declared.CheckAnswer.{CheckAnswer}
use Rattle.checker.specs.Entry.{CheckSource}

-- of the rows of findings that were counted and that fit
abbrev pub CheckNumbers : Type 0
CheckNumbers =
    (source : List ℕ) (t n d k : ℕ) (r : CheckAnswer) (toks tree found held : List ℕ)
    → CheckSource source t n d k r toks tree found held
    → (rows : ℕ) → rows ≤ r.errors + r.warnings → rows ≤ d / diag_width → Numbered source rows found

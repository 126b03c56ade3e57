use mathlib.Core.Path.{◌∙◌}
use Rattle.lex.proofs.Bodies.{some_part, no_part}
use native.Mathlib.Omega.{arith}
use Rattle.lex.proofs.string_body.Goals as goal
use Rattle.lex.proofs.string_body.Goals.{then-end-source+else-start-end, else-end-source}

pub returns-then-start-end : goal.returns-then-start-end
returns-then-start-end c = c.nth_body.ensures ∙ some_part _ _ _ _ c.if-end-source.true c.if-start-end.true

pub returns : goal.returns
returns c = no_part _ _ _ _ (elim c.if-end-source.branch [ then-end-source+else-start-end w ↦ omega arith | else-end-source w ↦ omega arith ])

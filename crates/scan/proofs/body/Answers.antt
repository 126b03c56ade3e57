use native.Mathlib.Omega.{arith}
use Rattle.scan.proofs.Parts.{some_body, no_body}
use Rattle.scan.proofs.body.Goals as goal
use Rattle.scan.proofs.body.Goals.{then-end-line+then-start-end+else-start-end-2, then-end-line+else-start-end, else-end-line}

pub returns-then-start-end-2 : goal.returns-then-start-end-2
returns-then-start-end-2 c = some_body _ _ _ c.if-end-line.true c.if-start-end-2.true

pub returns : goal.returns
returns c = no_body _ _ _ (elim c.if-end-line.branch [ then-end-line+then-start-end+else-start-end-2 w ↦ omega arith | then-end-line+else-start-end w ↦ omega arith | else-end-line w ↦ omega arith ])

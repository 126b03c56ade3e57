use Rattle.rows.proofs.TokenRows.{some_row}
use Rattle.statements.proofs.Statements.{does_discard, does_other}
use Rattle.statements.proofs.does.Goals as goal

pub put-requires : goal.put-requires
put-requires c = (some_row c.rows.ensures, c.requires.held)

pub report-requires : goal.report-requires
report-requires c = rw c.held_to-held.ensures c.requires.findings

pub returns-then-kind-eq-DISCARD : goal.returns-then-kind-eq-DISCARD
returns-then-kind-eq-DISCARD c = does_discard _ c.args.t c.type_of-ty.ensures c.deed_of-kind.ensures (c.put.ensures _ c.rows.ensures) c.held_to-held.ensures c.if-kind-eq-DISCARD.true c.at.ensures c.at-then-kind-eq-DISCARD.ensures c.report.ensures

pub returns-else-kind-eq-DISCARD : goal.returns-else-kind-eq-DISCARD
returns-else-kind-eq-DISCARD c = does_other _ c.args.t c.type_of-ty.ensures c.deed_of-kind.ensures (c.put.ensures _ c.rows.ensures) c.held_to-held.ensures c.if-kind-eq-DISCARD.false

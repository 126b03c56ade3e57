use Rattle.statements.proofs.Statements.{tells_fits, tells_large}
use Rattle.statements.proofs.tell.Goals as goal

pub report-requires : goal.report-requires
report-requires c = c.requires.findings

pub returns-in-Some : goal.returns-in-Some
returns-in-Some c = tells_fits _ c.args.t c.narrow.ensures c.in-Some.is c.does.ensures

pub returns-in-None : goal.returns-in-None
returns-in-None c = tells_large _ c.args.t c.narrow.ensures c.in-None.is c.at.ensures c.at-in-None.ensures c.report.ensures

use Rattle.statements.proofs.Turns.{twice}
use Rattle.statements.proofs.bound_twice.Goals as goal

pub returns : goal.returns
returns c = twice _ c.args.first c.at-then.ensures c.at.ensures c.report.ensures

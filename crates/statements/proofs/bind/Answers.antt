use mathlib.Core.Path.{refl, ap, sym, ◌∙◌}
use Rattle.std.specs.Prelude.{Err}
use Rattle.statements.proofs.Turns.{binds_val, binds_none, binds_err, binds_stop, binds_as}
use Rattle.statements.proofs.bind.Goals as goal

pub report-requires : goal.report-requires
report-requires c = c.requires.findings

pub returns-in-Ok : goal.returns-in-Ok
returns-in-Ok c = binds_as _ c.in-Ok.is (binds_val refl c.bind_value.ensures)

pub returns-in-Found : goal.returns-in-Found
returns-in-Found c = binds_as _ c.in-Err.is (binds_err (rw c.no_value.ensures at c.entry.ensures) (ap Err c.in-Found.is) c.report.ensures)

pub returns-in-Poisoned : goal.returns-in-Poisoned
returns-in-Poisoned c = binds_as _ c.in-Err.is (binds_none (rw c.no_value-in-Poisoned.ensures at c.entry-in-Poisoned.ensures) (ap Err c.in-Poisoned.is))

pub returns-in-Stopped : goal.returns-in-Stopped
returns-in-Stopped c = binds_as _ c.in-Err.is (binds_stop (ap Err c.in-Stopped.is))

use native.Mathlib.Omega.{arith}
use Rattle.rows.proofs.TokenRows.{some_row, rows_long}
use Rattle.rows.proofs.tokens.Tokens.two_after.Goals as goal

pub two_after-requires : goal.two_after-requires
two_after-requires c = some_row c.self.invariant

pub returns-clause-value : goal.returns-clause-value
returns-clause-value c = rw (← c.self.view_is) (c.two_after.ensures _ c.self.invariant)

pub returns-clause-few : goal.returns-clause-few
returns-clause-few c = rw (← c.self.view_is) (omega (arith, rows_long c.self.invariant, c.self.told))

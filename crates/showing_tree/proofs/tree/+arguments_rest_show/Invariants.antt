-- The cycle of calls. Its measure is the row, which a child's is before, and for one row the order show, rest, arguments. The
-- loop over arguments goes up to the call's row.
use Rattle.std.proofs.Common.{◌+◌, ◌*◌, ◌-◌}
use Rattle.showing_tree.proofs.tree.+arguments_rest_show.Given as goal

abbrev pub decreases-arguments : goal.decreases-arguments
decreases-arguments g l = 3 * l.i

abbrev pub decreases-rest : goal.decreases-rest
decreases-rest g l = 3 * l.i + 1

abbrev pub decreases-show : goal.decreases-show
decreases-show g l = 3 * l.i + 2

abbrev pub decreases-arguments-loop-shown : goal.decreases-arguments-loop-shown
decreases-arguments-loop-shown g l = l.i - l.shown

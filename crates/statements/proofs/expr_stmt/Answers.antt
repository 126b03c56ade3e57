use native.Mathlib.Omega.{arith}
use mathlib.Core.Path.{refl, ap, ◌∙◌}
use Rattle.std.specs.Prelude.{Err}
use Rattle.judging.specs.Judging.{known_in}
use Rattle.judging.proofs.Trees.{at_row, row_in, first_at}
use Rattle.judging.proofs.Steps.{stepped_as}
use Rattle.statements.proofs.Statements.{expr_fits, fits_expr, room_after, expr_val, expr_err, expr_none, expr_stop}
use Rattle.statements.proofs.Turns.{slots_are}
use Rattle.statements.proofs.expr_stmt.Goals as goal

pub judge-requires : goal.judge-requires
judge-requires c = record { ready = c.requires.ready; fits = fits_expr (expr_fits c.requires.stmt_fits.0) c.node_word-e.ensures refl }

pub node_word-t-requires : goal.node_word-t-requires
node_word-t-requires c = (row_in (at_row c.node_word-e.ensures c.requires.stmt_fits.0.rep), omega arith)

pub tell-requires : goal.tell-requires
tell-requires c = room_after (expr_fits c.requires.stmt_fits.0) _ _ _ (stepped_as _ c.in-Ok.is (c.judge.ensures c.args.counts.now.number (known_in c.args.scope.now.toks.now c.args.scope.now.bindings.now c.args.scope.now.imports.now c.args.counts.now) c.requires.stmt_fits.0.tree refl (record { is = refl }) (at_row c.node_word-e.ensures c.requires.stmt_fits.0.rep)))

pub report-requires : goal.report-requires
report-requires c = (room_after (expr_fits c.requires.stmt_fits.0) _ _ _ (stepped_as _ c.in-Err-Found.is (c.judge.ensures c.args.counts.now.number (known_in c.args.scope.now.toks.now c.args.scope.now.bindings.now c.args.scope.now.imports.now c.args.counts.now) c.requires.stmt_fits.0.tree refl (record { is = refl }) (at_row c.node_word-e.ensures c.requires.stmt_fits.0.rep)))).findings

pub returns-in-Ok : goal.returns-in-Ok
returns-in-Ok c = λ n k e num kn rep. expr_val _ n k e (stepped_as _ c.in-Ok.is (c.judge.ensures n k e num kn (at_row c.node_word-e.ensures rep))) num (slots_are kn) refl (c.node_word-t.ensures ∙ first_at (at_row c.node_word-e.ensures rep)) c.tell.ensures

pub returns-in-Err-Found : goal.returns-in-Err-Found
returns-in-Err-Found c = λ n k e num kn rep. expr_err _ n k e (stepped_as _ c.in-Err-Found.is (c.judge.ensures n k e num kn (at_row c.node_word-e.ensures rep))) num (slots_are kn) (ap Err c.in-Err-Found.field-0-is) c.report.ensures

pub returns-in-Err-Poisoned : goal.returns-in-Err-Poisoned
returns-in-Err-Poisoned c = λ n k e num kn rep. expr_none _ n k e (stepped_as _ c.in-Err-Poisoned.is (c.judge.ensures n k e num kn (at_row c.node_word-e.ensures rep))) num (slots_are kn) (ap Err c.in-Err-Poisoned.field-0-is)

pub returns-in-Err-Stopped : goal.returns-in-Err-Stopped
returns-in-Err-Stopped c = λ n k e num kn rep. expr_stop _ n k e (stepped_as _ c.in-Err-Stopped.is (c.judge.ensures n k e num kn (at_row c.node_word-e.ensures rep))) num (slots_are kn) (ap Err c.in-Err-Stopped.field-0-is)

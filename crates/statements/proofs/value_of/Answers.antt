use mathlib.Core.Path.{refl, sym}
use Rattle.std.proofs.lemmas.Result.{err_from_is_err_and}
use Rattle.arguments.proofs.Outs.{halted}
use Rattle.rows.proofs.TokenRows.{some_row}
use Rattle.statements.proofs.Turns.{value_same, value_kept, value_failed, values_as}
use Rattle.statements.proofs.value_of.Goals as goal

pub returns-in_err-value : goal.returns-in_err-value
returns-in_err-value c =
    let p = err_from_is_err_and c.from_residual.result c.from_residual.ensures.1 in
    rw (p.1, p.2) (λ d. values_as d c.in_err-value.was (value_same (halted refl)))

pub used-requires : goal.used-requires
used-requires c = some_row c.rows.ensures

pub returns-in_err-term : goal.returns-in_err-term
returns-in_err-term c =
    let p = err_from_is_err_and c.from_residual-in_err-term.result c.from_residual-in_err-term.ensures.1 in
    rw (p.1, p.2) (λ d. values_as d c.in_ok-value.was (value_failed (c.used.ensures _ c.rows.ensures) c.in_err-term.was))

pub returns : goal.returns
returns c = λ d. values_as d c.in_ok-value.was (value_kept (c.used.ensures _ c.rows.ensures) c.in_ok-term.was)

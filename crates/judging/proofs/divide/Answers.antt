use mathlib.Core.Path.{refl, sym}
use Rattle.std.proofs.lemmas.Result.{err_from_is_err_and}
use Rattle.rows.proofs.TokenRows.{some_row}
use Rattle.arguments.proofs.Outs.{halted}
use Rattle.judging.proofs.Slashes.{divide_void, divide_ends, divide_goes}
use Rattle.judging.proofs.divide.Goals as goal

pub used-requires : goal.used-requires
used-requires c = some_row c.rows-rows.ensures

pub narrow_to-requires : goal.narrow_to-requires
narrow_to-requires c = (some_row c.rows-rows.ensures, c.requires.0)

pub returns-in_err-b : goal.returns-in_err-b
returns-in_err-b c =
    let p = err_from_is_err_and c.from_residual.result c.from_residual.ensures.1 in
    rw (p.1, p.2) (divide_void (c.used.ensures _ c.rows-rows.ensures) (halted c.in_err-b.was) (sym c.in_err-b.was) refl)

pub returns-in_err-term : goal.returns-in_err-term
returns-in_err-term c =
    let p = err_from_is_err_and c.from_residual-in_err-term.result c.from_residual-in_err-term.ensures.1 in
    rw (p.1, p.2) (divide_ends (c.used.ensures _ c.rows-rows.ensures) c.in_ok-b.was c.operand-otherwise.ensures (c.narrow_to.ensures.by_index _ c.rows-rows.ensures) (halted c.in_err-term.was) (sym c.in_err-term.was) refl)

pub returns : goal.returns
returns c = divide_goes (c.used.ensures _ c.rows-rows.ensures) c.in_ok-b.was c.operand-otherwise.ensures (c.narrow_to.ensures.by_index _ c.rows-rows.ensures) c.in_ok-term.was (c.join.ensures _)

use native.Mathlib.Omega.{arith}
use Rattle.std.proofs.lemmas.Result.{err_from_is_err_and}
use Rattle.numerals.proofs.Digits.{finished, suffix, none_of, some_of, out_of_range_lem, again}
use Rattle.numerals.proofs.read_digits.Goals as goal

pub returns-then-BASE-d : goal.returns-then-BASE-d
returns-then-BASE-d g c =
    suffix c.loop-b.invariant c.loop-b-test.true c.digit-d.result c.digit-d.ensures (omega arith)

pub returns-in_err-v : goal.returns-in_err-v
returns-in_err-v g c =
    let p = err_from_is_err_and c.from_residual.result c.from_residual.ensures.1 in
    let q = none_of _ _ _ c.in_err-v.ensures.value in
    rw (p.1, p.2, q.1) (out_of_range_lem c.loop-b.invariant c.loop-b-test.true c.digit-d.result c.digit-d.ensures (omega arith) c.push.result c.push.ensures q.0)

pub loop-b-preserved : goal.loop-b-preserved
loop-b-preserved g c =
    let q = some_of _ _ _ c.in_ok-v.ensures.value in
    again c.loop-b.invariant c.loop-b-test.true c.digit-d.result c.digit-d.ensures (omega arith) c.push.result c.push.ensures _ q

pub returns : goal.returns
returns g c = finished c.loop-b.invariant c.loop-b-test.false

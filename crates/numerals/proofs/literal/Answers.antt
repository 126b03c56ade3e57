use native.Mathlib.Omega.{arith}
use Rattle.std.specs.Prelude.{Ok, Err}
use Rattle.std.proofs.lemmas.Result.{err_from_is_err_and}
use Rattle.numerals.proofs.Numerals.{word_ends, two_digits, hexadecimal, leading_zero, decimal}
use Rattle.numerals.proofs.literal.Goals as goal

pub slice_bounds-read_digits-count : goal.slice_bounds-read_digits-count
slice_bounds-read_digits-count c = two_digits c.args.line.now c.args.at _ c.requires _ c.starts_hex.ensures c.if-starts_hex.true

pub slice_bounds-read_digits-start : goal.slice_bounds-read_digits-start
slice_bounds-read_digits-start c = omega (arith, two_digits c.args.line.now c.args.at _ c.requires _ c.starts_hex.ensures c.if-starts_hex.true)

pub slice_bounds-read_digits-end : goal.slice_bounds-read_digits-end
slice_bounds-read_digits-end c = omega (arith, (word_ends c.args.line.now c.args.at _ c.requires).1)

pub returns-in_err-v : goal.returns-in_err-v
returns-in_err-v c =
    let p = err_from_is_err_and c.from_residual.result c.from_residual.ensures.1 in
    rw (p.1, p.2) (hexadecimal c.args.line.now c.args.at _ c.requires _ c.starts_hex.ensures c.if-starts_hex.true (Err _) c.in_err-v.ensures)

pub returns-then-starts_hex : goal.returns-then-starts_hex
returns-then-starts_hex c =
    hexadecimal c.args.line.now c.args.at _ c.requires _ c.starts_hex.ensures c.if-starts_hex.true (Ok _) c.in_ok-v.ensures

pub returns-then-starts_zero : goal.returns-then-starts_zero
returns-then-starts_zero c =
    leading_zero c.args.line.now c.args.at _ c.requires _ c.starts_hex.ensures c.if-starts_hex.false _ c.starts_zero.ensures c.if-starts_zero.true

pub slice_bounds-read_digits-count-2 : goal.slice_bounds-read_digits-count-2
slice_bounds-read_digits-count-2 c = (word_ends c.args.line.now c.args.at _ c.requires).0

pub slice_bounds-read_digits-start-2 : goal.slice_bounds-read_digits-start-2
slice_bounds-read_digits-start-2 c = omega (arith, (word_ends c.args.line.now c.args.at _ c.requires).0)

pub slice_bounds-read_digits-end-2 : goal.slice_bounds-read_digits-end-2
slice_bounds-read_digits-end-2 c = omega (arith, (word_ends c.args.line.now c.args.at _ c.requires).1)

pub returns-in_err-v-2 : goal.returns-in_err-v-2
returns-in_err-v-2 c =
    let p = err_from_is_err_and c.from_residual-in_err-v-2.result c.from_residual-in_err-v-2.ensures.1 in
    rw (p.1, p.2) (decimal c.args.line.now c.args.at _ c.requires _ c.starts_hex.ensures c.if-starts_hex.false _ c.starts_zero.ensures c.if-starts_zero.false (Err _) c.in_err-v-2.ensures)

pub returns : goal.returns
returns c =
    decimal c.args.line.now c.args.at _ c.requires _ c.starts_hex.ensures c.if-starts_hex.false _ c.starts_zero.ensures c.if-starts_zero.false (Ok _) c.in_ok-v-2.ensures

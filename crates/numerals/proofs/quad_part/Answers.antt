use native.Mathlib.Omega.{arith}
use borrow.Author.Tests.{leb-true}
use Rattle.numerals.proofs.Quads.{part_ends, too_long, zero_first, not_number, byte, not_byte}
use Rattle.numerals.proofs.quad_part.Goals as goal
use Rattle.numerals.proofs.quad_part.Goals.{else-v-eq0-via-then-v-eq0+else-lo-le255, else-v-eq0-via-else-v-eq0}

pub returns-then-end-at-gt3 : goal.returns-then-end-at-gt3
returns-then-end-at-gt3 c =
    too_long c.args.line.now c.args.at _ c.requires c.if-end-at-gt3.true

pub starts_zero-requires : goal.starts_zero-requires
starts_zero-requires c =
    (part_ends c.args.line.now c.args.at _ c.requires).0

pub returns-then-starts_zero : goal.returns-then-starts_zero
returns-then-starts_zero c =
    zero_first c.args.line.now c.args.at _ c.requires c.if-end-at-gt3.false _ c.starts_zero.ensures c.if-starts_zero.true

pub slice_bounds-read_digits-end : goal.slice_bounds-read_digits-end
slice_bounds-read_digits-end c = omega (arith, (part_ends c.args.line.now c.args.at _ c.requires).1)

pub returns-in_default : goal.returns-in_default
returns-in_default c =
    not_number c.args.line.now c.args.at _ c.requires c.if-end-at-gt3.false _ c.starts_zero.ensures c.if-starts_zero.false _ c.read_digits.ensures _ c.in_default.is

pub overflow_cast-result : goal.overflow_cast-result
overflow_cast-result c = omega (arith, leb-true)

pub returns-then-lo-le255 : goal.returns-then-lo-le255
returns-then-lo-le255 c =
    byte c.args.line.now c.args.at _ c.requires c.if-end-at-gt3.false _ c.starts_zero.ensures c.if-starts_zero.false _ c.read_digits.ensures _ c.in-Ok.is c.if-v-eq0.true c.if-lo-le255.true

pub returns : goal.returns
returns c =
    not_byte c.args.line.now c.args.at _ c.requires c.if-end-at-gt3.false _ c.starts_zero.ensures c.if-starts_zero.false _ c.read_digits.ensures _ c.in-Ok.is (elim c.else-v-eq0.branch [ else-v-eq0-via-then-v-eq0+else-lo-le255 w ↦ omega arith | else-v-eq0-via-else-v-eq0 w ↦ omega arith ])

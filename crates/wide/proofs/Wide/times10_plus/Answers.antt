use Rattle.std.proofs.Common.{arith, rules}
use Rattle.wide.specs.Wide.{value_of}
use Rattle.wide.proofs.Words.{small_fits, small_tenfold, over_early, under, copy_under, sum_under, copies_fit, copies_over}
use Rattle.wide.proofs.Wide.times10_plus.Goals as goal

pub overflow_mul-lo : goal.overflow_mul-lo
overflow_mul-lo c =
    record { fits = (small_fits c.args.self.hi _ _ _ _ c.if-hi-lo.true c.requires c.wrapping_add_u64.ensures.value c.wrapping_add_u64-twice.ensures.value).0 }

pub overflow_add-lo : goal.overflow_add-lo
overflow_add-lo c =
    record { fits = (small_fits c.args.self.hi _ _ _ _ c.if-hi-lo.true c.requires c.wrapping_add_u64.ensures.value c.wrapping_add_u64-twice.ensures.value).1 }

pub returns-then-hi-lo : goal.returns-then-hi-lo
returns-then-hi-lo c =
    rw c.from.ensures (small_tenfold c.args.self.hi c.args.self.lo c.args.d _ _ c.if-hi-lo.true c.requires c.wrapping_add_u64.ensures.value c.wrapping_add_u64-twice.ensures.value)

pub returns-then-hi-gt1152921504606846975 : goal.returns-then-hi-gt1152921504606846975
returns-then-hi-gt1152921504606846975 c = over_early 10 _ _ _ (omega arith)

pub plus-lesser-requires : goal.plus-lesser-requires
plus-lesser-requires c = (copy_under c.times2.ensures.1, search rules)

pub times8-requires : goal.times8-requires
times8-requires c = under c.if-hi-gt1152921504606846975.false

pub plus-all-requires : goal.plus-all-requires
plus-all-requires c = (c.times8.ensures.1, sum_under c.times2.ensures.1 (rw c.from-2.ensures at c.plus-lesser.ensures.1))

pub returns-then-all-lt9223372036854775808 : goal.returns-then-all-lt9223372036854775808
returns-then-all-lt9223372036854775808 c =
    let a = c.args in
    copies_fit (value_of a.self) a.d _ _ _ _ _ c.times2.ensures.0 c.times8.ensures.0 (rw c.from-2.ensures at c.plus-lesser.ensures.0) c.plus-all.ensures.0 (search rules) c.if-all-lt9223372036854775808.true

pub returns : goal.returns
returns c =
    let a = c.args in
    copies_over (value_of a.self) a.d _ _ _ _ _ c.times2.ensures.0 c.times8.ensures.0 (rw c.from-2.ensures at c.plus-lesser.ensures.0) c.plus-all.ensures.0 c.if-all-lt9223372036854775808.false

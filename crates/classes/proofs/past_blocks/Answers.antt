use Rattle.std.proofs.Common.{◌≡◌, ◌+◌, ◌-◌, ◌∙◌, sym, arith}
use Rattle.classes.proofs.Runs.{run_block}
use Rattle.classes.proofs.past_blocks.Goals as goal

pub loop-i-preserved : goal.loop-i-preserved
loop-i-preserved g c =
    let n : c.loop-i.i + g.row.N - c.loop-i.i ≡ g.row.N = omega arith in
    run_block g.C.Class.member g.row.N c.loop-i.invariant c.loop-i-test.true (sym (rw n at c.all_of.ensures) ∙ c.if-not-all_of.false)

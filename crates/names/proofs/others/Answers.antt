use Rattle.names.proofs.Names.{no_others, eight_more}
use Rattle.names.proofs.others.Goals as goal

pub loop-i-init : goal.loop-i-init
loop-i-init c = no_others

pub returns-then-any8 : goal.returns-then-any8
returns-then-any8 c = c.loop-i.invariant

pub loop-i-preserved : goal.loop-i-preserved
loop-i-preserved c = eight_more c.loop-i.invariant c.loop-i-test.true (c.any8.ensures c.if-any8.false)

pub returns : goal.returns
returns c = c.loop-i.invariant

use native.Mathlib.Omega.{arith}
use Rattle.terkinoha.proofs.Bodies.{begin, none_there, this_one, another}
use Rattle.terkinoha.proofs.terkinoha_body_at.Goals as goal

pub loop-n-init : goal.loop-n-init
loop-n-init c = begin (omega arith) c.terkinoha_next_body-body.ensures

pub returns-then-body-eq0 : goal.returns-then-body-eq0
returns-then-body-eq0 c = none_there c.loop-n.invariant c.if-body-eq0.true

pub loop-n-preserved : goal.loop-n-preserved
loop-n-preserved c = another c.loop-n.invariant c.if-body-eq0.false (omega arith) c.terkinoha_next_body-body-in-loop-n.ensures

pub returns : goal.returns
returns c = this_one c.loop-n.invariant (omega arith)

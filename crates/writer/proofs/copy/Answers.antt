use borrow.Author.Rules.{rules}
use Rattle.writer.proofs.Laws.{copy_none, copy_one, copy_all, size}
use Rattle.writer.proofs.copy.Goals as goal

pub loop-i-init : goal.loop-i-init
loop-i-init c = copy_none _ _ _

pub loop-i-preserved : goal.loop-i-preserved
loop-i-preserved c = copy_one _ _ _ c.loop-i.invariant (search rules) c.put_byte.ensures

pub shape_of-text : goal.shape_of-text
shape_of-text c = size c.loop-i.invariant.writes

pub returns : goal.returns
returns c = copy_all _ _ _ c.loop-i.invariant (search rules)

use Rattle.checker.proofs.done.Goals as goal

pub returns : goal.returns
returns c = rw c.new.ensures

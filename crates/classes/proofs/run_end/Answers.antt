use Rattle.std.proofs.lemmas.List.{take_rest}
use Rattle.classes.proofs.Runs.{run_some, run_none}
use Rattle.classes.proofs.run_end.Goals as goal

pub returns-in-Some : goal.returns-in-Some
returns-in-Some g c = run_some g.C.Class.member _ _ c.requires (rw take_rest at c.in-Some.ensures)

pub returns-in-None : goal.returns-in-None
returns-in-None g c = run_none g.C.Class.member _ _ c.requires (rw take_rest at c.in-None.ensures)

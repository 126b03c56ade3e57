use Rattle.constants.proofs.name_text.Goals as goal

pub returns-then-from_table : goal.returns-then-from_table
returns-then-from_table c = rw c.if-from_table.true c.part.ensures

pub returns : goal.returns
returns c = rw c.if-from_table.false c.part-2.ensures

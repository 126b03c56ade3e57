use Rattle.lexemes.proofs.row_of.Goals as goal

pub returns : goal.returns
returns c = rw (c.class_of.ensures, c.kind_of.ensures, c.value_of-value.ensures)

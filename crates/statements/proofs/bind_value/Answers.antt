use mathlib.Core.Path.{refl}
use Rattle.rows.proofs.TokenRows.{some_row}
use Rattle.statements.proofs.Turns.{value_atom, value_slot}
use Rattle.statements.proofs.bind_value.Goals as goal

pub returns-then-v-le-SLOT : goal.returns-then-v-le-SLOT
returns-then-v-le-SLOT c = value_atom c.if-v-le-SLOT.true c.entry.ensures

pub put-requires : goal.put-requires
put-requires c = (some_row c.rows.ensures, c.requires.held)

pub returns : goal.returns
returns c = value_slot c.if-v-le-SLOT.false refl c.type_of-ty.ensures (c.put.ensures _ c.rows.ensures) c.slot_made.ensures c.entry-2.ensures

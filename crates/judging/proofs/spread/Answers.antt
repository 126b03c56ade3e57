use mathlib.Core.Path.{refl}
use Rattle.rows.proofs.TokenRows.{some_row}
use Rattle.judging.proofs.Slashes.{spread_is}
use Rattle.judging.proofs.spread.Goals as goal

pub put_part-requires : goal.put_part-requires
put_part-requires c = (some_row c.rows-rows.ensures, c.requires.0)

pub put_part-requires-2 : goal.put_part-requires-2
put_part-requires-2 c = (some_row c.rows-rows.ensures, c.requires.1)

pub returns : goal.returns
returns c = λ d. spread_is (c.put_part.ensures _ c.rows-rows.ensures) (c.put_part-2.ensures _ c.rows-rows.ensures) refl refl refl

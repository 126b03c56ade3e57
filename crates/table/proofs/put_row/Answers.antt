use mathlib.Core.Path.{refl, sym}
use lib.ListN.{length}
use native.Mathlib.Omega.{arith}
use Rattle.table.proofs.Stores.{copied, row_start}
use Rattle.table.proofs.Laws.{put_full}
use Rattle.table.proofs.put_row.Goals as goal

pub overflow_mul-start : goal.overflow_mul-start
overflow_mul-start c = omega (arith, row_start c.args.row (length c.args.words.now) c.requires.0 c.requires.1)

pub overflow_add-start : goal.overflow_add-start
overflow_add-start c = omega (arith, row_start c.args.row (length c.args.words.now) c.requires.0 c.requires.1)

pub returns-then-start-width : goal.returns-then-start-width
returns-then-start-width c = copied _ _ _ _ c.if-start-width.true c.copy_from_slice.ensures.after (omega arith)

pub returns-else-start-width : goal.returns-else-start-width
returns-else-start-width c = sym (put_full _ _ _ _ refl c.if-start-width.false)

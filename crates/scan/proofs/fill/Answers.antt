use mathlib.Core.Path.{refl}
use Rattle.scan.proofs.Filling.{start, more_is, counted_all, rows_all_lem}
use Rattle.scan.proofs.Turns.{starts, steps, ended}
use borrow.Author.Rules.{rules}
use Rattle.scan.proofs.fill.Goals as goal

pub loop-found-init : goal.loop-found-init
loop-found-init c =
    let b = starts c.into_iter-found-iterator.ensures.into_iter_gives c.new-found-items.ensures in
    (refl, b.0, start _ _ _ c.requires.table_value _ b.1)

pub loop-found-preserved : goal.loop-found-preserved
loop-found-preserved c =
    let i = c.loop-found.invariant in
    let s = steps c.in-Some.ensures.steps i.1 in
    (search rules, s.0, more_is _ _ _ _ _ i.2 _ _ s.1 c.row_of.ensures c.put_row.ensures)

pub returns-clause-value : goal.returns-clause-value
returns-clause-value c = let i = c.loop-found.invariant in counted_all _ _ _ _ _ i.2 (ended c.in-None.ensures.steps i.1)

pub returns-clause-table_after : goal.returns-clause-table_after
returns-clause-table_after c = let i = c.loop-found.invariant in rows_all_lem _ _ _ _ _ i.2 (ended c.in-None.ensures.steps i.1)

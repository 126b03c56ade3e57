use Rattle.scan.proofs.Turns.{starts, steps, ended}
use Rattle.terkinoha.proofs.Bodies.{start, none_left, passed, is_it}
use Rattle.terkinoha.proofs.literal_from.Goals as goal

pub loop-found-init : goal.loop-found-init
loop-found-init c =
    let b = starts c.into_iter-found-iterator.ensures.into_iter_gives c.at-found-items.ensures in
    (b.0, start _ _ _ b.1)

pub returns-in-Str : goal.returns-in-Str
returns-in-Str c =
    let i = c.loop-found.invariant in
    is_it _ _ _ i.1 _ _ (steps c.in-Some.ensures.steps i.0).1 c.in-Str.is

pub loop-found-preserved : goal.loop-found-preserved
loop-found-preserved c =
    let i = c.loop-found.invariant in
    let s = steps c.in-Some.ensures.steps i.0 in
    (s.0, passed _ _ _ i.1 _ _ s.1 c.in_default.not-Str)

pub returns : goal.returns
returns c =
    let i = c.loop-found.invariant in
    none_left _ _ _ i.1 (ended c.in-None.ensures.steps i.0)

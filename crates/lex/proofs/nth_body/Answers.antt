use Rattle.scan.proofs.Turns.{starts, steps, ended}
use Rattle.lex.proofs.Bodies.{start, none_left, is_it, not_it, passed}
use Rattle.lex.proofs.nth_body.Goals as goal

pub loop-found-init : goal.loop-found-init
loop-found-init c =
    let b = starts c.into_iter-found-iterator.ensures.into_iter_gives c.new-found-items.ensures in
    (b.0, start _ _ _ b.1)

pub returns-then-left-eq0 : goal.returns-then-left-eq0
returns-then-left-eq0 c =
    let i = c.loop-found.invariant in
    is_it _ _ _ _ i.1 _ _ (steps c.in-Some.ensures.steps i.0).1 c.in-Str.is c.if-left-eq0.true c.body.ensures

pub loop-found-preserved-in-Str : goal.loop-found-preserved-in-Str
loop-found-preserved-in-Str c =
    let i = c.loop-found.invariant in
    let s = steps c.in-Some.ensures.steps i.0 in
    (s.0, not_it _ _ _ _ i.1 _ _ s.1 c.in-Str.is c.if-left-eq0.false)

pub loop-found-preserved : goal.loop-found-preserved
loop-found-preserved c =
    let i = c.loop-found.invariant in
    let s = steps c.in-Some.ensures.steps i.0 in
    (s.0, passed _ _ _ _ i.1 _ _ s.1 c.in_default.not-Str)

pub returns : goal.returns
returns c =
    let i = c.loop-found.invariant in
    none_left _ _ _ _ i.1 (ended c.in-None.ensures.steps i.0)

use Rattle.writer.proofs.Laws.{size}
use Rattle.scan.proofs.Turns.{starts, steps, ended}
use Rattle.canon.proofs.Strings.{start, all_told, passed, room, told}
use borrow.Author.Rules.{rules}
use Rattle.canon.proofs.literals.Goals as goal

pub loop-found-init : goal.loop-found-init
loop-found-init c =
    let b = starts c.into_iter-found-iterator.ensures.into_iter_gives c.new-found-items.ensures in
    (b.0, start _ _ _ _ b.1)

pub literal_text-end-requires : goal.literal_text-end-requires
literal_text-end-requires c =
    let i = c.loop-found.invariant in
    room _ _ _ _ _ _ i.1 _ _ (steps c.in-Some.ensures.steps i.0).1 c.body-body.ensures (search rules) (search rules)

pub loop-found-preserved-in-Str : goal.loop-found-preserved-in-Str
loop-found-preserved-in-Str c =
    let i = c.loop-found.invariant in
    let s = steps c.in-Some.ensures.steps i.0 in
    (s.0, told _ _ _ _ _ _ i.1 _ _ s.1 c.body-body.ensures c.in-Str.is (c.literal_text-end.ensures.writes, c.literal_text-end.ensures.upper_bound))

pub loop-found-preserved : goal.loop-found-preserved
loop-found-preserved c =
    let i = c.loop-found.invariant in
    let s = steps c.in-Some.ensures.steps i.0 in
    (s.0, passed _ _ _ _ _ _ i.1 _ _ s.1 c.in_default.not-Str)

pub shape_of-text : goal.shape_of-text
shape_of-text c = size c.loop-found.invariant.1.writes

pub returns : goal.returns
returns c =
    let i = c.loop-found.invariant in
    let both = all_told _ _ _ _ _ _ i.1 (ended c.in-None.ensures.steps i.0) (search rules) in
    record { writes = both.0; upper_bound = both.1 }

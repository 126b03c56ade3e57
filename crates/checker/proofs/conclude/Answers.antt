use Rattle.checker.proofs.Entry.{with_errors, too_many_lem, accepted}
use Rattle.checker.proofs.conclude.Goals as goal

pub returns-then-counts-ne0 : goal.returns-then-counts-ne0
returns-then-counts-ne0 c s toks tree found ds hs ls p o g =
    with_errors p o c.args.counts g c.if-counts-ne0.true c.clear.ensures c.done.ensures

pub returns-then-stmts-counts : goal.returns-then-stmts-counts
returns-then-stmts-counts c s toks tree found ds hs ls p o g =
    λ r a b e f q. too_many_lem p o c.args.counts g c.if-counts-ne0.false c.if-stmts-counts.true c.new.ensures q

pub returns : goal.returns
returns c s toks tree found ds hs ls p o g =
    accepted p o c.args.counts g c.if-counts-ne0.false c.if-stmts-counts.false c.done-2.ensures

use native.Mathlib.Omega.{arith}
use lib.Seq.{length-take-le}
use mathlib.Core.Path.{sym}
use Rattle.terkinoha.proofs.Bodies.{blank, too_short, nowhere, bounds, there}
use borrow.Author.Rules.{rules}
use Rattle.terkinoha.proofs.terkinoha_next_body.Goals as goal

pub returns-then-source-to : goal.returns-then-source-to
returns-then-source-to c = blank c.default.ensures (too_short _ _ _ c.if-source-to.true)

pub slice_bounds-literal_from-end : goal.slice_bounds-literal_from-end
slice_bounds-literal_from-end c = sym (length-take-le _ _ (omega arith))

pub overflow_add-result : goal.overflow_add-result
overflow_add-result c = let b = bounds c.args.source.now c.args.at c.args.end _ c.in-Some.ensures in search rules

pub overflow_sub-result : goal.overflow_sub-result
overflow_sub-result c = let b = bounds c.args.source.now c.args.at c.args.end _ c.in-Some.ensures in omega arith

pub returns-in-Some : goal.returns-in-Some
returns-in-Some c = there _ _ _ _ c.in-Some.ensures (omega arith)

pub returns-in-None : goal.returns-in-None
returns-in-None c = blank c.default-in-None.ensures (nowhere _ _ _ c.in-None.ensures (omega arith))

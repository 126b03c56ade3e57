use mathlib.Core.Path.{sym, ◌∙◌}
use lib.Seq.{get_or-take, length-take-le}
use native.Mathlib.Omega.{arith}
use Rattle.lex.proofs.Places.{next_line, next_column, arrived}
use Rattle.lex.proofs.loc_of.Goals as goal
use Rattle.lex.proofs.loc_of.Goals.{then-b-eq10, else-b-eq10}

pub loop-b-preserved : goal.loop-b-preserved
loop-b-preserved c =
    let n = length-take-le c.args.at c.args.source.now c.requires.0 in
    let b = get_or-take c.args.at c.args.source.now c.loop-b.b-index 0 (omega arith) in
    elim c.if-b-eq10.branch [
      | then-b-eq10 w ↦ rw (w.line-is, w.column-is) (next_line _ _ _ _ _ c.loop-b.invariant (omega arith) c.requires.0 (sym b ∙ w.if-b-eq10.true))
      | else-b-eq10 w ↦ rw (w.line-is, w.column-is) (next_column _ _ _ _ _ c.loop-b.invariant (omega arith) c.requires.0 (λ z. w.if-b-eq10.false (b ∙ z)))
    ]

pub returns : goal.returns
returns c =
    let n = length-take-le c.args.at c.args.source.now c.requires.0 in
    arrived _ _ _ _ _ c.loop-b.invariant (omega arith)

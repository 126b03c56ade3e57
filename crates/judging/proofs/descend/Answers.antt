use borrow.Author.Rules.{rules}
use Prim.Native.Nat.{◌<◌}
use native.Mathlib.Omega.{arith}
use lib.ListN.{length, length-set}
use Rattle.judging.proofs.Trees.{row_in}
use Rattle.judging.proofs.Climbing.{start, down_rep, down_on}
use Rattle.judging.proofs.descend.Goals as goal

pub loop-depth-init : goal.loop-depth-init
loop-depth-init c = (c.requires.rows_len, search rules, λ e rep. start)

pub node_word-requires : goal.node_word-requires
node_word-requires c = let d = c.loop-depth.invariant.2 c.requires.tree_at.tree c.requires.tree_at.rep in (row_in (down_rep c.requires.tree_at.rep d.down), omega arith)

pub returns-then-node_word-lt-MEMBER : goal.returns-then-node_word-lt-MEMBER
returns-then-node_word-lt-MEMBER c = record { long = c.loop-depth.invariant.1; ends = λ h. absurd (omega (arith, h, c.node_word.ensures, c.if-node_word-lt-MEMBER.true)); walks = c.loop-depth.invariant.2 }

pub node_word-row-requires : goal.node_word-row-requires
node_word-row-requires c = let d = c.loop-depth.invariant.2 c.requires.tree_at.tree c.requires.tree_at.rep in (row_in (down_rep c.requires.tree_at.rep d.down), omega arith)

pub loop-depth-preserved : goal.loop-depth-preserved
loop-depth-preserved c = let l : c.loop-depth.depth < length c.loop-depth.rows = omega (arith, c.loop-depth-test.true, c.loop-depth.invariant.0) in
    (simp length-set c.loop-depth.invariant.0, omega (arith, c.loop-depth-test.true), λ e rep. let d = c.loop-depth.invariant.2 e rep in down_on d.down l (omega (arith, c.node_word.ensures, c.if-node_word-lt-MEMBER.false)) c.node_word-row.ensures)

pub returns : goal.returns
returns c = record { long = c.loop-depth.invariant.1; ends = λ h. omega (arith, c.loop-depth-test.false); walks = c.loop-depth.invariant.2 }

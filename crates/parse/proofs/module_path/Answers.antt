use Prim.Native.Nat.{suc, ◌+◌}
use mathlib.Core.Path.{refl, ◌∙◌}
use lib.ListN.{length}
use Rattle.parse.proofs.Looks.{seen, unseen, inside}
use Rattle.parse.proofs.Nodes.{no_names, name_pushed, path_pushed}
use Rattle.parse.proofs.Answers.{met_ok, met_no}
use Rattle.parse.proofs.Steps.{path_open, path_stop, path_bad, path_more}
use native.Mathlib.Omega.{arith}
use Rattle.parse.proofs.module_path.Goals as goal

-- The invariant: the names read so far stand after the nodes that were there, and the path that is read from here on is the
-- whole path. The measure is what is left of the tokens.

pub loop-at-init : goal.loop-at-init
loop-at-init c =
    let a = c.args in
    let i = inside a.toks.now a.at 11 c.requires.at_value.0 in
    (omega arith, omega arith, omega arith, refl, λ ts ns rep l h. (suc (length ts), omega arith, path_open rep _ _ c.requires.at_value.1, no_names _ l h))

pub returns-then-kind_at-ne-IDENTIFIER-clause-after : goal.returns-then-kind_at-ne-IDENTIFIER-clause-after
returns-then-kind_at-ne-IDENTIFIER-clause-after c = λ ts ns rep l h. let g = c.loop-at.invariant.4 ts ns rep l h in
    met_no refl (g.2 ∙ path_bad rep _ _ _ _ g.0 g.1 (seen c.kind_at.ensures c.loop-at-test.true) (unseen c.kind_at-in-loop-at.ensures c.if-kind_at-ne-IDENTIFIER.true))

pub loop-at-preserved : goal.loop-at-preserved
loop-at-preserved c =
    let a = c.args in
    let v = c.loop-at in
    let is13 = seen c.kind_at-in-loop-at.ensures c.if-kind_at-ne-IDENTIFIER.false in
    let i = inside a.toks.now (v.next + 1) 11 is13 in (
      omega arith,
      omega arith,
      omega arith,
      omega (arith, c.push.auto.nodes),
      λ ts ns rep l h. let g = v.invariant.4 ts ns rep l h in
          let m = path_more rep a.at a.steps v.names v.next g.0 g.1 (seen c.kind_at.ensures c.loop-at-test.true) is13 in
          (m.0, m.1, g.2 ∙ m.2, name_pushed g.3 (omega arith) c.push.ensures),
    )

pub returns-clause-after : goal.returns-clause-after
returns-clause-after c = λ ts ns rep l h.
    let v = c.loop-at in
    let g = v.invariant.4 ts ns rep l h in
    met_ok (g.2 ∙ path_stop rep _ _ _ _ g.0 v.invariant.2 g.1 (unseen c.kind_at.ensures c.loop-at-test.false)) (path_pushed g.3 c.push-2.ensures)

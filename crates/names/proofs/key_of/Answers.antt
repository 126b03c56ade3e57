use mathlib.Core.Path.{refl, ◌∙◌}
use Rattle.names.proofs.Names.{key_step, key_end}
use native.Mathlib.Omega.{arith}
use borrow.Author.Rules.{rules}
use Rattle.names.proofs.key_of.Goals as goal

pub loop-b-init : goal.loop-b-init
loop-b-init c = (refl, omega arith)

pub loop-b-preserved : goal.loop-b-preserved
loop-b-preserved c = (key_step _ _ _ c.loop-b-test.true ∙ c.loop-b.invariant.0, search rules)

pub returns : goal.returns
returns c = key_end _ _ _ c.loop-b-test.false ∙ c.loop-b.invariant.0

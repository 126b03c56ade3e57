use mathlib.Core.Path.{refl}
use Rattle.parse.proofs.Nodes.{linked, unlinked}
use native.Mathlib.Omega.{arith}
use Rattle.parse.proofs.link.Goals as goal

pub returns-then-i-nodes : goal.returns-then-i-nodes
returns-then-i-nodes c = linked _ _ _ _ (omega arith) refl

pub returns-else-i-nodes : goal.returns-else-i-nodes
returns-else-i-nodes c = unlinked _ _ _ _ (omega arith) refl

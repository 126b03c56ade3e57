use mathlib.Core.Path.{refl}
use Rattle.fitting.proofs.Fitting.{widen_same, widen_more}
use Rattle.fitting.proofs.widened.Goals as goal

pub returns-then-bits-clause-by_index : goal.returns-then-bits-clause-by_index
returns-then-bits-clause-by_index c = λ s o. widen_more s _ _ c.type_of-ty.ensures c.bits.ensures c.bits-2.ensures c.if-bits.true (c.warn.ensures.by_index s o) refl refl

pub returns-else-bits-clause-by_index : goal.returns-else-bits-clause-by_index
returns-else-bits-clause-by_index c = λ s o. widen_same s _ _ c.type_of-ty.ensures c.bits.ensures c.bits-2.ensures c.if-bits.false refl refl

use Rattle.constants.proofs.Entries.{function_found, function_missed, function_ended, function_start}
use mathlib.Core.Path.{◌∙◌}
use Rattle.constants.proofs.function_named.Goals as goal

pub loop-k-init : goal.loop-k-init
loop-k-init c = function_start _ _

pub returns-then-is_function-has_span : goal.returns-then-is_function-has_span
returns-then-is_function-has_span c = function_found _ _ _ c.loop-k-test.true c.is_function.ensures c.has_span.ensures c.if-is_function-has_span.true ∙ c.loop-k.invariant

pub loop-k-preserved : goal.loop-k-preserved
loop-k-preserved c = function_missed _ _ _ c.loop-k-test.true c.is_function.ensures c.has_span.ensures c.if-is_function-has_span.false ∙ c.loop-k.invariant

pub returns : goal.returns
returns c = function_ended _ _ _ c.loop-k-test.false ∙ c.loop-k.invariant

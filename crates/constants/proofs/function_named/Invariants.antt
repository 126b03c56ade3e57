use Prim.Native.Nat.{◌-◌}
use mathlib.Core.Path.{◌≡◌}
use Rattle.constants.specs.Constants.{function_from, function_named}
use Rattle.constants.proofs.function_named.Given as goal

abbrev pub invariant-loop-k : goal.invariant-loop-k
invariant-loop-k l = function_from (15 - l.k) l.k l.start l.end ≡ function_named l.start l.end

use Prim.Native.Nat.{◌-◌}
use Rattle.names.specs.Names.{Others}
use Rattle.names.proofs.others.Given as goal

abbrev pub invariant-loop-i : goal.invariant-loop-i
invariant-loop-i l = Others l.names l.used l.key l.i

abbrev pub decreases-loop-i : goal.decreases-loop-i
decreases-loop-i l = l.used - l.i

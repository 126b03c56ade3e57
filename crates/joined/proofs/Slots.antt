-- The contract's equation, and the language's claims.
use mathlib.Core.List.{List}
use Prim.Native.Nat.{ℕ}
use Rattle.language.proofs.Slots.{slots_numbered}
use Rattle.joined.specs.Slots.{ChecksSlot}
use Rattle.joined.proofs.Left.{calls_leave}

pub checks_slot : ChecksSlot
checks_slot source t n d k r toks tree found held c =
    let h = slots_numbered source in
    record { slots = h.0; numbered = h.1; rows = (calls_leave.check source t n d k r toks tree found held c).stmts }

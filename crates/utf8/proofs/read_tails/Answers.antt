use mathlib.Core.Path.{◌∙◌}
use mathlib.Core.Logic.{inl, inr}
use native.Mathlib.Omega.{arith}
use Rattle.utf8.proofs.Tails.{more, ended, too_low, too_high, done}
use Rattle.utf8.proofs.read_tails.Goals as goal

pub returns-in_err-b : goal.returns-in_err-b
returns-in_err-b c =
    let h = c.in_err-b.ensures in
    c.from_residual.ensures ∙ ended _ _ _ _ _ _ _ _ _ c.loop-left.invariant (omega arith) h.lookup.3

pub returns-then-b-low : goal.returns-then-b-low
returns-then-b-low c =
    let here = c.in_ok-b.ensures.lookup.3 in
    elim c.then-b-low.either [
      | inl h ↦ too_low _ _ _ _ _ _ _ _ _ c.loop-left.invariant (omega arith) here.0 (rw (here.1 0) at h)
      | inr h ↦ too_high _ _ _ _ _ _ _ _ _ c.loop-left.invariant (omega arith) here.0 (rw (here.1 0) at h.1)
    ]

pub loop-left-preserved : goal.loop-left-preserved
loop-left-preserved c =
    let here = c.in_ok-b.ensures.lookup.3 in
    let byte = here.1 0 in
    (more _ _ _ _ _ _ _ _ _ c.loop-left.invariant (omega arith) here.0 _ (rw byte at c.from.ensures) (rw byte at c.if-b-low.false) (rw byte at c.if-high-b.false))

pub returns : goal.returns
returns c = done _ _ _ _ _ _ _ _ _ c.loop-left.invariant (omega arith)

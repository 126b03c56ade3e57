use mathlib.Core.Path.{sym, ◌∙◌}
use native.Mathlib.Omega.{arith}
use Rattle.utf8.proofs.Places.{bad_char}
use Rattle.runs.proofs.Runs.{blank_space, blank_more, blank_other, blank_none, blank_end_lem}
use Rattle.runs.proofs.eat_spaces.Goals as goal

pub loop-i-preserved-then-line-i-eq32 : goal.loop-i-preserved-then-line-i-eq32
loop-i-preserved-then-line-i-eq32 c = blank_space c.loop-i.invariant c.loop-i-test.true c.if-line-i-eq32.true

pub returns-then-not-is_space : goal.returns-then-not-is_space
returns-then-not-is_space c =
    blank_other c.loop-i.invariant c.loop-i-test.true _ c.in-Some.ensures (sym c.is_space.ensures ∙ c.if-not-is_space.true)

pub loop-i-smaller : goal.loop-i-smaller
loop-i-smaller c =
    let o = bad_char _ _ c.loop-i-test.true _ c.in-Some.ensures in
    omega (arith, o.further, o.in_source)

pub loop-i-preserved : goal.loop-i-preserved
loop-i-preserved c =
    blank_more c.loop-i.invariant c.loop-i-test.true _ c.in-Some.ensures (sym c.is_space.ensures ∙ c.if-not-is_space.false)

pub returns-in_default : goal.returns-in_default
returns-in_default c = blank_none c.loop-i.invariant c.loop-i-test.true c.in_default.ensures

pub returns : goal.returns
returns c = blank_end_lem c.loop-i.invariant c.loop-i-test.false

use mathlib.Core.Path.{ap, ◌∙◌}
use native.Mathlib.Omega.{arith}
use Rattle.utf8.specs.Decoding.{bad_of}
use Rattle.utf8.proofs.Places.{bad_ascii, bad_char, bad_here, bad_end}
use Rattle.utf8.proofs.first_bad.Goals as goal

pub loop-i-preserved-then-src-i-lt128 : goal.loop-i-preserved-then-src-i-lt128
loop-i-preserved-then-src-i-lt128 c =
    let o = bad_ascii _ _ c.loop-i-test.true c.if-src-i-lt128.true in
    let p = c.ascii_end-i-then-src-i-lt128.ensures in
    (p.in_source, p.same ∙ o.same ∙ c.loop-i.invariant.1)

pub returns-in_default : goal.returns-in_default
returns-in_default c = bad_here _ _ c.loop-i-test.true c.in_default.ensures ∙ ap bad_of c.loop-i.invariant.1

pub loop-i-smaller : goal.loop-i-smaller
loop-i-smaller c =
    let o = bad_char _ _ c.loop-i-test.true _ c.in-Some.ensures in
    omega (arith, o.further, o.in_source)

pub loop-i-preserved : goal.loop-i-preserved
loop-i-preserved c =
    let o = bad_char _ _ c.loop-i-test.true _ c.in-Some.ensures in
    (o.in_source, o.same ∙ c.loop-i.invariant.1)

pub returns : goal.returns
returns c = bad_end _ _ c.loop-i-test.false ∙ ap bad_of c.loop-i.invariant.1

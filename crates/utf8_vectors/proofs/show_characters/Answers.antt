use Rattle.std.proofs.Common.{arith}
use Rattle.utf8.proofs.Places.{bad_char}
use Rattle.utf8_vectors.proofs.show_characters.Goals as goal

pub loop-place-smaller : goal.loop-place-smaller
loop-place-smaller g c =
    let o = bad_char _ _ c.loop-place-test.true _ c.in-Some.ensures in
    omega (arith, o.further, o.in_source)

pub loop-place-preserved : goal.loop-place-preserved
loop-place-preserved g c =
    let o = bad_char _ _ c.loop-place-test.true _ c.in-Some.ensures in
    o.in_source

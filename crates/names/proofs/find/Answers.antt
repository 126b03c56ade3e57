use mathlib.Core.Path.{refl, ◌∙◌}
use Rattle.names.proofs.Names.{search_from, search_hit, search_miss, search_end, hit_there, hit_nowhere}
use native.Mathlib.Omega.{arith}
use Rattle.names.proofs.find.Goals as goal

pub loop-i-init : goal.loop-i-init
loop-i-init c =
    search_from _ _ _ _ _ c.requires.1 c.requires.2 _ c.others-start.ensures

pub returns-then-is_named : goal.returns-then-is_named
returns-then-is_named c =
    let same = c.is_named.ensures (c.requires.1.key _ c.loop-i-test.true) c.requires.2 in
    hit_there _ _ _ _ (search_hit _ _ _ _ _ c.loop-i-test.true refl same c.if-is_named.true ∙ c.loop-i.invariant) c.loop-i-test.true refl

pub loop-i-preserved : goal.loop-i-preserved
loop-i-preserved c =
    let same = c.is_named.ensures (c.requires.1.key _ c.loop-i-test.true) c.requires.2 in
    search_miss _ _ _ _ _ c.loop-i-test.true refl same c.if-is_named.false ∙ c.loop-i.invariant

pub returns : goal.returns
returns c = hit_nowhere _ _ _ _ (search_end _ _ _ _ _ (omega (arith, c.others-start.ensures.in_table)) c.loop-i-test.false ∙ c.loop-i.invariant)

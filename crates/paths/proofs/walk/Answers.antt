use Prim.Native.Nat.{◌+◌}
use mathlib.Core.Path.{refl, sym, ap, ◌∙◌}
use Rattle.language.specs.Judgements.{unknown_item, not_a_module}
use Rattle.values.specs.Values.{judged_as}
use Rattle.values.proofs.Values.{judged_err}
use Rattle.paths.proofs.Paths.{looked, walk_missing, walk_last, walk_stops, walk_on, walk_ended, in_source, entry_kind}
use native.Mathlib.Omega.{arith}
use Rattle.paths.proofs.walk.Goals as goal

pub loop-left-init : goal.loop-left-init
loop-left-init c = refl

pub lookup-k-requires : goal.lookup-k-requires
lookup-k-requires c = c.new-table.ensures

pub returns-then-k-eq0 : goal.returns-then-k-eq0
returns-then-k-eq0 c = c.error.ensures ∙ judged_err _ _ (unknown_item c.loop-left.inside) c.two_after-tok.ensures.value refl ∙ ap (judged_as _) (walk_missing c.args.toks.now c.args.t c.loop-left.left c.loop-left.inside c.loop-left.at c.lookup-k.result (looked c.args.toks.now c.loop-left.inside (c.loop-left.at + 2) (c.name.ensures _ c.two_after-tok.ensures.value) c.lookup-k.ensures.0) c.loop-left-test.true c.if-k-eq0.true ∙ c.loop-left.invariant)

pub last_item-requires : goal.last_item-requires
last_item-requires c = c.new-table.ensures.0

pub returns-then-left-eq1 : goal.returns-then-left-eq1
returns-then-left-eq1 c = c.last_item.ensures _ _ c.two_after-tok.ensures.value ∙ ap (judged_as _) (walk_last c.args.toks.now c.args.t c.loop-left.left c.loop-left.inside c.loop-left.at c.lookup-k.result (looked c.args.toks.now c.loop-left.inside (c.loop-left.at + 2) (c.name.ensures _ c.two_after-tok.ensures.value) c.lookup-k.ensures.0) c.if-k-eq0.false c.if-left-eq1.true ∙ c.loop-left.invariant)

pub returns-then-kind-ne-NONE : goal.returns-then-kind-ne-NONE
returns-then-kind-ne-NONE c = c.error-then-kind-ne-NONE.ensures ∙ judged_err _ _ not_a_module c.two_after-tok.ensures.value refl ∙ ap (judged_as _) (walk_stops c.args.toks.now c.args.t c.loop-left.left c.loop-left.inside c.loop-left.at c.lookup-k.result (looked c.args.toks.now c.loop-left.inside (c.loop-left.at + 2) (c.name.ensures _ c.two_after-tok.ensures.value) c.lookup-k.ensures.0) c.if-k-eq0.false c.loop-left-test.true c.if-left-eq1.false (λ z. c.if-kind-ne-NONE.true ((entry_kind c.lookup-k.result c.new-table.ensures.0 c.entry_word-kind.ensures) ∙ z)) ∙ c.loop-left.invariant)

pub overflow_add-at : goal.overflow_add-at
overflow_add-at c = omega (arith, in_source c.args.toks.now c.args.t c.loop-left.left c.loop-left.inside c.loop-left.at c.lookup-k.result (looked c.args.toks.now c.loop-left.inside (c.loop-left.at + 2) (c.name.ensures _ c.two_after-tok.ensures.value) c.lookup-k.ensures.0) c.if-k-eq0.false, c.two_after-tok.ensures.few)

pub loop-left-smaller : goal.loop-left-smaller
loop-left-smaller c = omega (arith, c.loop-left-test.true)

pub loop-left-preserved : goal.loop-left-preserved
loop-left-preserved c = walk_on c.args.toks.now c.args.t c.loop-left.left c.loop-left.inside c.loop-left.at c.lookup-k.result (looked c.args.toks.now c.loop-left.inside (c.loop-left.at + 2) (c.name.ensures _ c.two_after-tok.ensures.value) c.lookup-k.ensures.0) c.if-k-eq0.false c.loop-left-test.true c.if-left-eq1.false (sym (entry_kind c.lookup-k.result c.new-table.ensures.0 c.entry_word-kind.ensures) ∙ c.if-kind-ne-NONE.false) ∙ c.loop-left.invariant

pub returns : goal.returns
returns c = ap (judged_as _) (walk_ended _ _ _ _ _ c.loop-left-test.false ∙ c.loop-left.invariant)

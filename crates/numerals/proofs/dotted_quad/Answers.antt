use Rattle.numerals.proofs.Quads.{earlier, start, no_digits, digits, fits, whole, no_dot, next}
use Rattle.numerals.proofs.dotted_quad.Goals as goal

pub loop-i-init : goal.loop-i-init
loop-i-init c = start _ _ c.requires

pub returns-then-end-i : goal.returns-then-end-i
returns-then-end-i c = no_digits c.loop-i.invariant _ c.eat_digits-end.ensures c.if-end-i.true

pub quad_part-last-requires : goal.quad_part-last-requires
quad_part-last-requires c =
    digits c.loop-i.invariant _ c.eat_digits-end.ensures c.if-end-i.false

pub join-requires : goal.join-requires
join-requires c =
    fits c.loop-i.invariant _ c.eat_digits-end.ensures c.if-end-i.false _ c.quad_part-last.ensures

pub returns-then-dots-eq0 : goal.returns-then-dots-eq0
returns-then-dots-eq0 c =
    whole c.loop-i.invariant _ c.eat_digits-end.ensures c.if-end-i.false _ c.quad_part-last.ensures _ c.join.ensures c.if-dots-eq0.true

pub returns-then-peek-ne46 : goal.returns-then-peek-ne46
returns-then-peek-ne46 c =
    no_dot c.loop-i.invariant _ c.eat_digits-end.ensures c.if-end-i.false _ (earlier _ c.if-dots-eq0.false) _ c.peek.ensures c.if-peek-ne46.true

pub quad_part-n-requires : goal.quad_part-n-requires
quad_part-n-requires c =
    digits c.loop-i.invariant _ c.eat_digits-end.ensures c.if-end-i.false

pub join-address-requires : goal.join-address-requires
join-address-requires c =
    fits c.loop-i.invariant _ c.eat_digits-end.ensures c.if-end-i.false _ c.quad_part-n.ensures

pub loop-i-preserved : goal.loop-i-preserved
loop-i-preserved c =
    next c.loop-i.invariant _ c.eat_digits-end.ensures c.if-end-i.false _ c.quad_part-n.ensures _ c.join-address.ensures _ (earlier _ c.if-dots-eq0.false) _ c.peek.ensures c.if-peek-ne46.false

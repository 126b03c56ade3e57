use native.Mathlib.Omega.{arith}
use mathlib.Core.Path.{refl, sym, ◌∙◌}
use Rattle.judging.proofs.Trees.{at_arg, next_falls, unmet_on, unmet_met, unmet_end}
use Rattle.judging.proofs.any_named.Goals as goal

pub loop-next-init : goal.loop-next-init
loop-next-init c = λ ps rep. record { others = ps; rep = rep; same = refl }

pub overflow_sub-j : goal.overflow_sub-j
overflow_sub-j c = omega (arith, c.loop-next-test.true)

pub node_word-requires : goal.node_word-requires
node_word-requires c = let u = c.loop-next.invariant c.requires.args c.requires.rep in let p = at_arg u.rep c.loop-next-test.true refl in (p.inside, omega arith)

pub returns-then-node_word-eq-NAMED_ARGUMENT : goal.returns-then-node_word-eq-NAMED_ARGUMENT
returns-then-node_word-eq-NAMED_ARGUMENT c = λ ps rep. let u = c.loop-next.invariant ps rep in let p = at_arg u.rep c.loop-next-test.true refl in unmet_met u p (sym c.node_word.ensures ∙ c.if-node_word-eq-NAMED_ARGUMENT.true)

pub node_word-next-requires : goal.node_word-next-requires
node_word-next-requires c = let u = c.loop-next.invariant c.requires.args c.requires.rep in let p = at_arg u.rep c.loop-next-test.true refl in (p.inside, omega arith)

pub loop-next-smaller : goal.loop-next-smaller
loop-next-smaller c = let u = c.loop-next.invariant c.requires.args c.requires.rep in let p = at_arg u.rep c.loop-next-test.true refl in next_falls refl c.loop-next-test.true p.below c.node_word-next.ensures p.onward

pub loop-next-preserved : goal.loop-next-preserved
loop-next-preserved c = λ ps rep. let u = c.loop-next.invariant ps rep in let p = at_arg u.rep c.loop-next-test.true refl in unmet_on u p (λ q. c.if-node_word-eq-NAMED_ARGUMENT.false (c.node_word.ensures ∙ q)) c.node_word-next.ensures

pub returns : goal.returns
returns c = λ ps rep. unmet_end (c.loop-next.invariant ps rep) c.loop-next-test.false

use borrow.Author.Rules.{rules}
use mathlib.Core.Path.{◌∙◌, sym, refl}
use Rattle.constants.proofs.Entries.{found, missed, ended}
use Rattle.constants.proofs.lookup.Goals as goal

pub loop-i-init : goal.loop-i-init
loop-i-init c = refl

pub returns-then-is_hit : goal.returns-then-is_hit
returns-then-is_hit c = (found _ _ c.loop-i.i c.loop-i-test.true (let g = c.requires in rw (sym g.0, sym g.1) (sym c.is_hit.ensures ∙ c.if-is_hit.true)) ∙ c.loop-i.invariant, search rules)

pub loop-i-preserved : goal.loop-i-preserved
loop-i-preserved c = missed _ _ c.loop-i.i c.loop-i-test.true (let g = c.requires in rw (sym g.0, sym g.1) (sym c.is_hit.ensures ∙ c.if-is_hit.false)) ∙ c.loop-i.invariant

pub returns : goal.returns
returns c = (ended _ _ _ c.loop-i-test.false ∙ c.loop-i.invariant, search rules)

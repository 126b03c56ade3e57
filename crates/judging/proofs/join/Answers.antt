use mathlib.Core.Path.{refl}
use Rattle.judging.proofs.Slashes.{left_stays, right_stays, both_fold}
use Rattle.judging.proofs.join.Goals as goal

pub returns-then-left-ne-CONSTANT : goal.returns-then-left-ne-CONSTANT
returns-then-left-ne-CONSTANT c = λ d. left_stays c.if-left-ne-CONSTANT.true (c.spread.ensures d)

pub returns-then-right-ne-CONSTANT : goal.returns-then-right-ne-CONSTANT
returns-then-right-ne-CONSTANT c = λ d. right_stays c.if-right-ne-CONSTANT.true (c.spread-then-right-ne-CONSTANT.ensures d)

pub returns : goal.returns
returns c = λ d. both_fold c.if-left-ne-CONSTANT.false c.if-right-ne-CONSTANT.false c.constant.ensures refl refl refl

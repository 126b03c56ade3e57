use mathlib.Core.Path.{◌∙◌}
use Rattle.parse.proofs.TokenRows.{near, far}
use Rattle.parse.proofs.at_token.Goals as goal

pub returns-then-at-count : goal.returns-then-at-count
returns-then-at-count c = c.at_row.ensures ∙ near _ _ _ _ _ c.if-at-count.true

pub returns : goal.returns
returns c = c.at_row-2.ensures ∙ far _ _ _ _ _ c.if-at-count.false

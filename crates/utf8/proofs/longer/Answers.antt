use mathlib.Core.Path.{◌∙◌}
use Rattle.utf8.proofs.Leads.{small}
use Rattle.utf8.proofs.Chars.{longer_place, not_place}
use Rattle.utf8.proofs.longer.Goals as goal

pub returns-in_err-lead : goal.returns-in_err-lead
returns-in_err-lead c = c.from_residual.ensures ∙ not_place _ _ c.requires.0 c.in_err-lead.ensures

pub read_tails-requires-clause-small : goal.read_tails-requires-clause-small
read_tails-requires-clause-small c = small _ _ c.requires.1 c.in_ok-lead.ensures

pub returns : goal.returns
returns c = longer_place _ _ c.requires.0 _ _ c.read_tails.ensures c.in_ok-lead.ensures

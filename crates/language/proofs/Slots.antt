-- Slots are numbered in order, and a slot that is read was made before.
use Rattle.language.specs.Tokens.{tokens, contents}
use Rattle.language.specs.Numbers.{checked}
use Rattle.language.specs.Slots.{SlotsNumbered}
use Rattle.language.proofs.FindingTokens.{outcome_grounded}

pub slots_numbered : SlotsNumbered
unfolding checked
slots_numbered s = (outcome_grounded (contents (tokens s))).slots

use Rattle.constants.proofs.Entries.{span_is}
use Rattle.constants.proofs.has_span.Goals as goal

pub returns : goal.returns
returns c = span_is c.requires _ _ _ c.entry_word-a.ensures c.entry_word-e.ensures

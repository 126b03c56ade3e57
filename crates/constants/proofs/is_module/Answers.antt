use Rattle.constants.proofs.Entries.{module_is}
use Rattle.constants.proofs.is_module.Goals as goal

pub returns : goal.returns
returns c = module_is c.requires _ c.entry_word-start.ensures c.entry_word-end.ensures c.entry_word-kind.ensures

use Rattle.constants.proofs.Entries.{function_is}
use Rattle.constants.proofs.is_function.Goals as goal

pub returns : goal.returns
returns c = function_is c.requires _ c.entry_word-kind.ensures c.entry_word-own.ensures

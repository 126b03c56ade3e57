use Rattle.std.proofs.Common.{rules}
use Rattle.wide.proofs.Words.{lower_fits}
use Rattle.wide.proofs.Wide.div16.Goals as goal

pub overflow_add-rest : goal.overflow_add-rest
overflow_add-rest c = record { fits = lower_fits _ _ (search rules) }

use Rattle.fitting.proofs.Fitting.{warned, one_more_lem}
use Rattle.fitting.proofs.warn.Goals as goal

pub returns : goal.returns
returns c = record { by_index = λ s o. warned s _ (c.token_at.ensures s o) c.at.ensures c.report.ensures; warnings_bound = one_more_lem c.report.ensures }

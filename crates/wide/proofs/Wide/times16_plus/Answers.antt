use Rattle.std.proofs.Common.{arith}
use Rattle.wide.proofs.Words.{fits_case, over_early}
use Rattle.wide.proofs.Wide.times16_plus.Goals as goal

pub returns-then-hi-gt576460752303423487 : goal.returns-then-hi-gt576460752303423487
returns-then-hi-gt576460752303423487 c = over_early 16 _ _ _ (omega arith)

pub returns : goal.returns
returns c = fits_case _ _ _ (omega arith) (omega arith) (omega arith)

use mathlib.Core.Path.{refl}
use Rattle.fitting.proofs.Fitting.{bytes_fit, bytes_large}
use Rattle.fitting.proofs.as_bytes.Goals as goal

pub returns-in-Some : goal.returns-in-Some
returns-in-Some c = λ s o. bytes_fit s _ c.narrow.ensures c.in-Some.is refl

pub returns-in-None : goal.returns-in-None
returns-in-None c = λ s o. bytes_large s _ c.narrow.ensures (c.token_at.ensures s o) c.in-None.is c.error.ensures

use mathlib.Core.Path.{sym, ap}
use Rattle.lexemes.specs.Kinds.{kind_number}
use Rattle.lexemes.proofs.kind_of.Goals as goal

pub returns-in-Tok : goal.returns-in-Tok
returns-in-Tok c = rw c.kind.ensures (sym (ap kind_number c.in-Tok.is))

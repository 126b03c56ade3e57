use mathlib.Core.Path.{◌∙◌}
use Rattle.names.proofs.Names.{other_key}
use Rattle.names.proofs.is_named.Goals as goal

pub returns-then-names-i : goal.returns-then-names-i
returns-then-names-i c = λ p q. other_key _ _ p q c.if-names-i.true

pub returns : goal.returns
returns c = λ p q. c.same.ensures ∙ rw (c.part.ensures, c.word-e.ensures, c.word-a.ensures)

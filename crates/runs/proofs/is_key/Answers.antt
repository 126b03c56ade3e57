use Rattle.std.proofs.Common.{sym, ◌∙◌}
use borrow.Author.Tests.{ne_eqb}
use Rattle.language.proofs.Sames.{other_size}
use Rattle.runs.proofs.Keys.{same_pairs}
use Rattle.runs.proofs.is_key.Goals as goal

pub returns-then-word-key : goal.returns-then-word-key
returns-then-word-key c = c.all_same.ensures ∙ same_pairs _ _ c.if-word-key.true

pub returns-else-word-key : goal.returns-else-word-key
returns-else-word-key c = ne_eqb _ _ c.if-word-key.false ∙ sym (other_size _ _ c.if-word-key.false)

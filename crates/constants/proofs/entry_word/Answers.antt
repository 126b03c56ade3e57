use Rattle.constants.proofs.Entries.{word_past, word_at}
use Rattle.constants.proofs.entry_word.Goals as goal

pub returns-then-k-gt-LAST : goal.returns-then-k-gt-LAST
returns-then-k-gt-LAST c = word_past _ _ _ c.if-k-gt-LAST.true

pub returns : goal.returns
returns c = word_at _ _ _ c.if-k-eq0.false c.if-k-gt-LAST.false

use Rattle.writer.proofs.Laws.{bytes_are}
use Rattle.writer.proofs.Digits.{lower}
use Rattle.writer.proofs.decimal_word.Goals as goal

pub returns : goal.returns
returns c = record { writes = bytes_are _ (lower _ _ c.from.ensures) c.decimal.ensures.writes; upper_bound = c.decimal.ensures.upper_bound }

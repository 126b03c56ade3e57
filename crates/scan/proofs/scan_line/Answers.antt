use borrow.Author.Rules.{rules}
use Rattle.scan.proofs.Answers.{refused, accepted}
use Rattle.scan.proofs.scan_line.Goals as goal

pub returns-in-Ok : goal.returns-in-Ok
returns-in-Ok c = accepted _ _ _ c.in-Ok.ensures.0 _ c.new.ensures c.in-Ok.ensures.1

pub returns-in-Err : goal.returns-in-Err
returns-in-Err c = refused _ _ _ c.in-Err.ensures _ c.from.ensures _ c.clear.ensures (search rules)

use Rattle.scan.proofs.Starts.{comment_is}
use Rattle.scan.proofs.comment.Goals as goal

pub returns : goal.returns
returns c = comment_is c.args.line.now c.args.at _ c.eat_comment.ensures

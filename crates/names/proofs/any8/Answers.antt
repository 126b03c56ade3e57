use Rattle.names.proofs.Names.{none_of_8}
use Rattle.names.proofs.any8.Goals as goal

pub returns : goal.returns
returns c =
    λ e. none_of_8 c.args.names.now c.args.key c.args.i e

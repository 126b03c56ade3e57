use Rattle.constants.proofs.Signatures.{params_are}
use Rattle.arguments.proofs.parameters.Goals as goal

pub returns : goal.returns
returns c = params_are c.args.f c.signature_of-signature.ensures

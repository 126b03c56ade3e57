use Rattle.constants.proofs.Signatures.{gives_is}
use Rattle.arguments.proofs.given_type.Goals as goal

pub returns : goal.returns
returns c = gives_is c.args.f c.signature_of-signature.ensures

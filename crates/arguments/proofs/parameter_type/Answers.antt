use Rattle.constants.proofs.Signatures.{first_is, second_is}
use Rattle.arguments.proofs.parameter_type.Goals as goal

pub returns-then-i-eq0 : goal.returns-then-i-eq0
returns-then-i-eq0 c = first_is c.args.f c.signature_of-signature.ensures _ c.if-i-eq0.true

pub returns : goal.returns
returns c = second_is c.args.f c.signature_of-signature.ensures _ c.if-i-eq0.false c.requires

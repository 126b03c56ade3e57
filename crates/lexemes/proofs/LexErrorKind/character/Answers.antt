use borrow.Enum.Refused.{opened}
use Rattle.lexemes.proofs.Plain.{other_error}
use Rattle.lexemes.proofs.LexErrorKind.character.Goals as goal

pub returns : goal.returns
returns c = other_error c.args.self (opened c.in_default.in_default-own.keys2)

use mathlib.Core.Path.{ap, ◌∙◌}
use Rattle.std.specs.Prelude.{Err}
use Rattle.language.specs.Terms.{term_type}
use Rattle.language.specs.Judgements.{no_members}
use Rattle.findings.specs.declared.What.TheVariants.{NoMembers}
use Rattle.values.specs.declared.Halt.TheVariants.{Found}
use Rattle.values.proofs.Values.{judged_err}
use Rattle.judging.proofs.member.Goals as goal

pub returns : goal.returns
returns c = record { is = λ e q. ap (λ d. Err (Found d)) c.at-2.ensures ∙ judged_err _ c.args.t (no_members (term_type e)) c.at.ensures (ap NoMembers (c.type_of-ty.ensures.is e q)) }

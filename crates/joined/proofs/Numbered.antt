-- The contract's equations, and the language's claim.
use Rattle.language.proofs.Numbered.{findings_numbered}
use Rattle.joined.specs.Numbered.{CheckNumbers}

pub check_numbers : CheckNumbers
check_numbers source t n d k r toks tree found held c = rw (c.answer, c.diags) (findings_numbered source t n d k)

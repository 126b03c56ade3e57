use Rattle.utf8.proofs.Places.{two_passed}
use Rattle.utf8.proofs.two_octets.Goals as goal

pub returns : goal.returns
returns c = λ e.
    let next = c.in-Some.ensures.lookup.3 in
    two_passed _ _ next.0 (rw (next.1 0) at e)

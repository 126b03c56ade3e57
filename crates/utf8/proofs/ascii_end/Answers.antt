use Rattle.utf8.proofs.Places.{ascii_passed, pass_on}
use Rattle.utf8.proofs.ascii_end.Goals as goal

pub returns : goal.returns
returns c =
    let blocks = c.ascii_blocks-blocks.ensures in
    pass_on blocks (rw c.long_run_end.ensures (ascii_passed _ _ blocks.in_source))

use native.Mathlib.Omega.{arith}
use Rattle.writer.proofs.Digits.{buffer, all_digits}
use Rattle.writer.proofs.number.Goals as goal

pub slice_bounds-copy-end : goal.slice_bounds-copy-end
slice_bounds-copy-end g c =
    omega (arith, (buffer g.B.Base.BASE g.row.N _ g.met.B.Base.two c.requires.some c.requires.fits c.digits-start.ensures.value c.digits-start.ensures.text_after).size)

pub returns : goal.returns
returns g c =
    let digits = buffer g.B.Base.BASE g.row.N _ g.met.B.Base.two c.requires.some c.requires.fits c.digits-start.ensures.value c.digits-start.ensures.text_after in
    let both = all_digits digits c.copy.ensures in
    record { writes = both.0; upper_bound = both.1 }

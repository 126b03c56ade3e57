use mathlib.Core.Path.{◌∙◌}
use Rattle.utf8.proofs.Chars.{past_end, ascii_place}
use Rattle.utf8.proofs.decode.Goals as goal

pub returns-in_err-b : goal.returns-in_err-b
returns-in_err-b c = let h = c.in_err-b.ensures in c.from_residual.ensures ∙ past_end _ _ h.lookup.3

pub returns-then-b-lt128 : goal.returns-then-b-lt128
returns-then-b-lt128 c =
    let here = c.in_ok-b.ensures.lookup.3 in
    let byte = here.1 0 in
    ascii_place _ _ here.0 _ (c.from.ensures ∙ byte) (rw byte at c.if-b-lt128.true)

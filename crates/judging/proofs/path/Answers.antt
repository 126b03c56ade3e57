use mathlib.Core.Path.{refl, ap, ◌∙◌}
use Rattle.language.specs.Judgements.{not_imported}
use Rattle.values.specs.Values.{judged_as}
use Rattle.values.proofs.Values.{judged_err}
use Rattle.judging.proofs.Names.{below_failed, below_found, below_lost}
use Rattle.judging.proofs.path.Goals as goal

pub find-place-requires : goal.find-place-requires
find-place-requires c = (c.requires.0, rw c.bytes.ensures c.requires.1, c.key_of.ensures)

pub returns-then-counts-i : goal.returns-then-counts-i
returns-then-counts-i c =
    let p = rw c.bytes.ensures at c.find-place.ensures in
    record { is = c.error.ensures ∙ judged_err _ _ not_imported c.at-tok.ensures refl ∙ ap (judged_as _) (below_lost _ _ _ _ _ _ _ _ _ p.at (c.name-name.ensures _ c.at-tok.ensures) c.if-counts-i.true); counted = refl }

pub returns-then-top-eq0 : goal.returns-then-top-eq0
returns-then-top-eq0 c =
    let p = rw c.bytes.ensures at c.find-place.ensures in
    record { is = ap (judged_as _) (below_failed _ _ _ _ _ _ _ _ _ p.at (c.name-name.ensures _ c.at-tok.ensures) _ c.if-counts-i.false c.word-top.ensures c.if-top-eq0.true); counted = refl }

pub returns : goal.returns
returns c =
    let p = rw c.bytes.ensures at c.find-place.ensures in
    record { is = c.walk.ensures ∙ ap (judged_as _) (below_found _ _ _ _ _ _ _ _ _ p.at (c.name-name.ensures _ c.at-tok.ensures) _ c.if-counts-i.false c.word-top.ensures c.if-top-eq0.false); counted = refl }

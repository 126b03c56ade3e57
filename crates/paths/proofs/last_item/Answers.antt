use mathlib.Core.Path.{refl, sym, ap, ◌∙◌}
use Rattle.language.specs.Tokens.{tokens, contents}
use Rattle.language.specs.Values.{entry_at}
use Rattle.language.specs.Judgements.{not_a_value}
use Rattle.values.specs.Values.{judged_as}
use Rattle.values.proofs.Values.{judged_err}
use Rattle.paths.proofs.Paths.{entry_kind, entry_low, entry_high, item_value, item_module}
use Rattle.paths.proofs.last_item.Goals as goal

pub returns-then-kind-eq-NONE : goal.returns-then-kind-eq-NONE
returns-then-kind-eq-NONE c =
    let k = c.args.k in
    λ s t e. c.error.ensures ∙ judged_err s t not_a_value e refl
    ∙ sym (ap (judged_as s) (item_module (contents (tokens s)) c.args.p t (entry_at k).value (sym (entry_kind k c.requires c.entry_word-kind.ensures) ∙ c.if-kind-eq-NONE.true)))

pub returns : goal.returns
returns c =
    let k = c.args.k in
    λ s t e. item_value s (contents (tokens s)) c.args.p t _ _ _ (entry_at k).value (entry_kind k c.requires c.entry_word-kind.ensures)
    (entry_low k c.requires c.entry_word-lo.ensures) (entry_high k c.requires c.entry_word-hi.ensures) c.if-kind-eq-NONE.false c.constant.ensures

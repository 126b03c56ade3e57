use native.Mathlib.Omega.{arith}
use mathlib.Core.Path.{refl, ◌∙◌}
use Rattle.language.specs.Tokens.{tokens, contents}
use Rattle.language.specs.Judgements.{unknown_name}
use Rattle.names.proofs.Names.{found_few}
use Rattle.values.proofs.Values.{judged_err}
use Rattle.judging.proofs.Names.{local_found, local_lost, counted_look}
use Rattle.judging.proofs.local.Goals as goal

pub find-place-requires : goal.find-place-requires
find-place-requires c = (c.requires.used_in_bounds.0, rw c.bytes.ensures c.requires.used_in_bounds.1, c.key_of.ensures)

pub searched-requires : goal.searched-requires
searched-requires c = let few = found_few _ _ _ _ c.find-place.ensures in omega (arith, few, c.requires.used_le_most_names.0, c.requires.used_le_most_names.1)

pub returns-then-used-i : goal.returns-then-used-i
returns-then-used-i c =
    let p = rw c.bytes.ensures at c.find-place.ensures in
    record {
      is = λ e k. local_lost _ (contents (tokens c.args.scope.now.toks.now)) c.args.t _ _ _ _ _ p.at (c.name-name.ensures c.args.t e) c.if-used-i.true (c.error.ensures ∙ judged_err _ c.args.t unknown_name e refl);
      counted = λ e. counted_look _ _ _ c.args.counts.now c.searched.ensures p.compared (c.name-name.ensures c.args.t e);
    }

pub returns : goal.returns
returns c =
    let p = rw c.bytes.ensures at c.find-place.ensures in
    record {
      is = λ e k. local_found _ (contents (tokens c.args.scope.now.toks.now)) c.args.t _ _ _ _ _ p.at (c.name-name.ensures c.args.t e) c.if-used-i.false k (c.held.ensures ∙ rw (c.word.ensures, c.word-2.ensures, c.word-3.ensures, c.word-4.ensures));
      counted = λ e. counted_look _ _ _ c.args.counts.now c.searched.ensures p.compared (c.name-name.ensures c.args.t e);
    }

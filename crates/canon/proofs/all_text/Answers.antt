use Rattle.writer.proofs.Laws.{size}
use Rattle.canon.proofs.Texts.{start, some_token, stopped, finished, row_fits, next_fits, more}
use mathlib.Core.Path.{refl}
use borrow.Author.Rules.{rules}
use Rattle.canon.proofs.all_text.Goals as goal

pub loop-i-init : goal.loop-i-init
loop-i-init c = (some_token _ _ _ c.requires, start _ _)

pub shape_of-text-then-at-gt-MOST_BYTES : goal.shape_of-text-then-at-gt-MOST_BYTES
shape_of-text-then-at-gt-MOST_BYTES c = size c.loop-i.invariant.1.writes

pub returns-then-at-gt-MOST_BYTES : goal.returns-then-at-gt-MOST_BYTES
returns-then-at-gt-MOST_BYTES c = stopped _ _ _ c.requires _ _ _ _ c.loop-i.invariant.1 c.if-at-gt-MOST_BYTES.true

pub token_text-end-requires : goal.token_text-end-requires
token_text-end-requires c = (row_fits _ _ _ c.requires _ _ _ _ c.loop-i.invariant.1 (search rules) refl refl, search rules)

pub bounds-toks-row : goal.bounds-toks-row
bounds-toks-row c = let f = row_fits _ _ _ c.requires _ _ _ _ c.loop-i.invariant.1 (search rules) refl refl in search rules

pub bounds-toks-next : goal.bounds-toks-next
bounds-toks-next c = next_fits _ _ _ c.requires _ _ _ _ c.loop-i.invariant.1 (search rules) refl refl

pub loop-i-preserved : goal.loop-i-preserved
loop-i-preserved c = (search rules, more _ _ _ c.requires _ _ _ _ c.loop-i.invariant.1 (search rules) refl refl c.token_text-end.ensures.writes c.separator-at.ensures.writes)

pub shape_of-text : goal.shape_of-text
shape_of-text c = size c.loop-i.invariant.1.writes

pub returns : goal.returns
returns c = finished _ _ _ c.requires _ _ _ _ c.loop-i.invariant.1 (search rules)

use lib.ListN.{length}
use mathlib.Core.Logic.{inl, inr}
use Rattle.std.proofs.lemmas.Result.{err_from_is_err_and}
use Rattle.canon.proofs.Answers.{unlexed, lexed_all, too_long, accepted}
use borrow.Author.Rules.{rules}
use Rattle.canon.proofs.text_into.Goals as goal

pub returns-in_err-count : goal.returns-in_err-count
returns-in_err-count c =
    let p = err_from_is_err_and c.from_residual.result c.from_residual.ensures.1 in
    rw (p.1, p.2) (unlexed _ _ _ _ c.in_err-count.ensures)

pub all_text-size-requires : goal.all_text-size-requires
all_text-size-requires c = lexed_all _ _ (length c.args.text.now) c.in_ok-count.ensures

pub returns-then-room-size : goal.returns-then-room-size
returns-then-room-size c = too_long _ _ _ c.in_ok-count.ensures _ c.clear_bytes.ensures (search rules) c.all_text-size.ensures (inl c.if-room-size.true)

pub returns-then-size-gt-MOST_BYTES : goal.returns-then-size-gt-MOST_BYTES
returns-then-size-gt-MOST_BYTES c = too_long _ _ _ c.in_ok-count.ensures _ c.clear_bytes.ensures (search rules) c.all_text-size.ensures (inr c.if-size-gt-MOST_BYTES.true)

pub returns : goal.returns
returns c = accepted _ _ _ c.in_ok-count.ensures _ c.clear_bytes.ensures (search rules) c.all_text-size.ensures c.if-room-size.false c.if-size-gt-MOST_BYTES.false c.new.ensures

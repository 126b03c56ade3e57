use Rattle.table.proofs.Laws.{tabled_own}
use borrow.Author.Rules.{rules}
use Rattle.utf8.proofs.Places.{bad_within}
use Rattle.scan.proofs.Answers.{too_long, bad_byte, full, fits}
use native.Mathlib.Omega.{arith}
use Rattle.scan.proofs.scan_into.Goals as goal

pub returns-then-line-gt-MOST_BYTES : goal.returns-then-line-gt-MOST_BYTES
returns-then-line-gt-MOST_BYTES c = too_long _ _ c.if-line-gt-MOST_BYTES.true

pub overflow_add-result : goal.overflow_add-result
overflow_add-result c = let h = bad_within _ _ (c.in-Some.ensures) in omega arith

pub returns-in-Some : goal.returns-in-Some
returns-in-Some c = bad_byte _ _ c.if-line-gt-MOST_BYTES.false _ (c.in-Some.ensures)

pub returns-then-room-count : goal.returns-then-room-count
returns-then-room-count c = full _ _ c.if-line-gt-MOST_BYTES.false (c.in_default.ensures) _ c.fill-count.ensures.value c.if-room-count.true

pub returns : goal.returns
returns c = (fits _ _ c.if-line-gt-MOST_BYTES.false (c.in_default.ensures) _ c.fill-count.ensures.value c.if-room-count.false, tabled_own _ _ _ _ _ c.fill-count.ensures.table_after (search rules))

use mathlib.Core.Path.{refl}
use Rattle.table.proofs.Laws.{tabled_own}
use Rattle.utf8.proofs.Places.{bad_within}
use Rattle.std.proofs.lemmas.Result.{err_from_is_err_and}
use Rattle.language.specs.Numbers.{verdict, placed, lexical}
use Rattle.lex.proofs.Answers.{too_long, bad_byte, wrong_one, full, fits, placed_as, stopped, few, no_wrong, finished}
use native.Mathlib.Omega.{arith}
use borrow.Author.Rules.{rules}
use Rattle.lex.proofs.tokens_into.Goals as goal

pub returns-then-source-gt-MOST_BYTES : goal.returns-then-source-gt-MOST_BYTES
returns-then-source-gt-MOST_BYTES c = (verdict 1 0 0, refl, too_long _ _ c.if-source-gt-MOST_BYTES.true, refl)

pub loc_of-requires : goal.loc_of-requires
loc_of-requires c = let h = bad_within _ _ (c.in-Some.ensures) in (omega arith, c.if-source-gt-MOST_BYTES.false)

pub returns-in-Some : goal.returns-in-Some
returns-in-Some c = (placed 2 _, refl, bad_byte _ _ c.if-source-gt-MOST_BYTES.false _ (c.in-Some.ensures), placed_as _ _ c.loc_of.ensures)

pub returns-in_err-lexer : goal.returns-in_err-lexer
returns-in_err-lexer c =
    let p = err_from_is_err_and c.from_residual.result c.from_residual.ensures.1 in
    let o = stopped _ _ _ _ c.clear.ensures _ c.in_err-lexer.ensures in
    rw (p.1, p.2) (lexical o.0, refl, wrong_one _ _ c.if-source-gt-MOST_BYTES.false (c.in_default.ensures) _ o.1, o.2)

pub finish-done-requires : goal.finish-done-requires
finish-done-requires c = few _ _ _ _ c.clear.ensures _ c.in_ok-lexer.ensures c.if-source-gt-MOST_BYTES.false

pub returns-then-room-done : goal.returns-then-room-done
returns-then-room-done c =
    let z = c.clear.ensures in
    let f = c.in_ok-lexer.ensures in
    let a = full _ _ c.if-source-gt-MOST_BYTES.false (c.in_default.ensures) (no_wrong _ _ _ _ z _ f) _ (finished _ _ _ _ z _ f c.finish-done.ensures).counted c.if-room-done.true in
    (verdict 4 0 0, refl, a, refl)

pub returns : goal.returns
returns c =
    let z = c.clear.ensures in
    let f = c.in_ok-lexer.ensures in
    let h = finished _ _ _ _ z _ f c.finish-done.ensures in (
      fits _ _ c.if-source-gt-MOST_BYTES.false (c.in_default.ensures) (no_wrong _ _ _ _ z _ f) _ h.counted c.if-room-done.false,
      tabled_own _ _ _ _ _ h.rows (search rules),
    )

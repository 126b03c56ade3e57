use Rattle.lex.proofs.Lines.{start, stopped, more, finished}
use Rattle.std.proofs.lemmas.Result.{err_from_is_err_and}
use Rattle.lex.proofs.feed_lines.Goals as goal

pub loop-at-init : goal.loop-at-init
loop-at-init c = start _ _ _ c.new-lexer.ensures

pub returns-in_err-lexer : goal.returns-in_err-lexer
returns-in_err-lexer c =
    let p = err_from_is_err_and c.from_residual.result c.from_residual.ensures.1 in
    rw (p.1, p.2) (stopped _ _ _ _ _ c.loop-at.invariant c.loop-at-test.true _ c.line_end-end.ensures.value _ c.in_err-lexer.ensures)

pub loop-at-preserved : goal.loop-at-preserved
loop-at-preserved c = more _ _ _ _ _ c.loop-at.invariant c.loop-at-test.true _ c.line_end-end.ensures.value _ c.in_ok-lexer.ensures

pub returns : goal.returns
returns c = finished _ _ _ _ _ c.loop-at.invariant c.loop-at-test.false

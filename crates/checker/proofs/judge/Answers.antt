use mathlib.Core.Path.{sym}
use native.Mathlib.Omega.{arith}
use lib.Seq.{length-take-le}
use Rattle.checker.proofs.Parsed.{token_words, node_words, lexed_part, rows_fit}
use Rattle.checker.proofs.Entry.{concluded, refused_stmt}
use Rattle.checker.proofs.judge.Goals as goal

pub overflow_mul-token_words : goal.overflow_mul-token_words
overflow_mul-token_words c = omega (arith, token_words c.requires.parses)

pub overflow_mul-node_words : goal.overflow_mul-node_words
overflow_mul-node_words c = omega (arith, node_words c.requires.parses)

pub slice_bounds-new-end : goal.slice_bounds-new-end
slice_bounds-new-end c = sym (length-take-le _ _ (token_words c.requires.parses).1)

pub new-lexed-requires : goal.new-lexed-requires
new-lexed-requires c = lexed_part c.requires.parses

pub slice_bounds-run-end : goal.slice_bounds-run-end
slice_bounds-run-end c = sym (length-take-le _ _ (node_words c.requires.parses))

pub run-requires : goal.run-requires
run-requires c = rows_fit c.requires.parses

pub returns-in-Ok : goal.returns-in-Ok
returns-in-Ok c = concluded c.requires.parses c.run.auto.diags c.run.auto.stmts (rw c.new-lexed.ensures at c.run.ensures) _ _ c.requires.diags_value c.in-Ok.is (λ z. c.conclude.ensures z _ _ _)

pub returns-in-Err : goal.returns-in-Err
returns-in-Err c = refused_stmt c.requires.parses c.run.auto.diags c.run.auto.stmts (rw c.new-lexed.ensures at c.run.ensures) c.in-Err.is (rw c.new-lexed.ensures at c.placed.ensures)

use Rattle.checker.proofs.check_statements.Goals as goal

pub returns-in-Err : goal.returns-in-Err
returns-in-Err c = c.in-Err.ensures _ _ _ _ _ (rw (c.judge.auto.diags, c.judge.auto.stmts) at c.give_up.ensures)

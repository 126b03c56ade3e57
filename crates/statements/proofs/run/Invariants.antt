use Rattle.statements.proofs.Runs.{Looped}
use Rattle.statements.proofs.run.Given as goal

abbrev pub invariant-loop-i : goal.invariant-loop-i
invariant-loop-i l = Looped l.toks l.nodes l.initial.diags l.initial.stmts l.diags l.stmts l.checker.bindings l.checker.imports l.counts l.i

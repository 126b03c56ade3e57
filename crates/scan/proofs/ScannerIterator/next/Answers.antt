use mathlib.Core.Path.{refl}
use Rattle.scan.proofs.Starts.{step_found, step_done}
use Rattle.scan.proofs.Turns.{nearer}
use borrow.Author.Rules.{rules}
use Rattle.scan.proofs.ScannerIterator.next.Goals as goal

pub returns-then-self-clause-steps : goal.returns-then-self-clause-steps
returns-then-self-clause-steps c = record { found = step_found _ _ _ c.if-self.true c.lexeme-found.ensures; line = refl; goes = refl }

pub returns-then-self-clause-goes : goal.returns-then-self-clause-goes
returns-then-self-clause-goes c = let n = nearer _ _ _ (step_found _ _ _ c.if-self.true c.lexeme-found.ensures) in search rules

pub returns-clause-steps : goal.returns-clause-steps
returns-clause-steps c = record { found = step_done _ _ c.if-self.false; line = refl; goes = refl }

use native.Mathlib.Omega.{arith}
use mathlib.Core.Path.{ap, ◌∙◌}
use Rattle.std.specs.Prelude.{Ok}
use Rattle.std.proofs.lemmas.Result.{err_from_is_err_and}
use Rattle.statements.proofs.Runs.{start, again_went, again_name, again_import, room_name, room_import, run_stopped, finished}
use Rattle.statements.proofs.Turns.{told_as}
use Rattle.statements.proofs.run.Goals as goal
use Rattle.statements.proofs.run.Goals.{in-Went, in-Binds, in-Imports}

pub loop-i-init : goal.loop-i-init
loop-i-init c = start c.requires c.new-checker.ensures.0 c.new-checker.ensures.1 c.start-counts.ensures

pub returns-in_err-turn : goal.returns-in_err-turn
returns-in_err-turn c =
    let p = err_from_is_err_and c.from_residual.result c.from_residual.ensures.1 in
    rw (p.1, p.2) (run_stopped c.loop-i.invariant _ _ c.stmt.ensures (told_as _ c.in_err-turn.was))

pub put-requires : goal.put-requires
put-requires c = omega (arith, c.loop-i.invariant.names, room_name c.loop-i.invariant _ _ c.stmt.ensures (told_as _ (c.in_ok-turn.was ∙ ap Ok c.in-Binds.is)))

pub named_one-counts-requires : goal.named_one-counts-requires
named_one-counts-requires c = room_name c.loop-i.invariant _ _ c.stmt.ensures (told_as _ (c.in_ok-turn.was ∙ ap Ok c.in-Binds.is))

pub put-requires-in-Imports : goal.put-requires-in-Imports
put-requires-in-Imports c = omega (arith, c.loop-i.invariant.modules, room_import c.loop-i.invariant _ _ c.stmt.ensures (told_as _ (c.in_ok-turn.was ∙ ap Ok c.in-Imports.is)))

pub imported_one-counts-requires : goal.imported_one-counts-requires
imported_one-counts-requires c = room_import c.loop-i.invariant _ _ c.stmt.ensures (told_as _ (c.in_ok-turn.was ∙ ap Ok c.in-Imports.is))

pub loop-i-preserved : goal.loop-i-preserved
loop-i-preserved c = elim c.match-turn.branch [
  | in-Went w ↦ rw (w.checker-is, w.counts-is) (again_went c.loop-i.invariant _ _ c.stmt.ensures c.stmt.auto.diags c.stmt.auto.stmts (told_as _ (c.in_ok-turn.was ∙ ap Ok w.in-Went.is)))
  | in-Binds w ↦ rw (w.checker-is, w.counts-is) (again_name c.loop-i.invariant _ _ c.stmt.ensures c.stmt.auto.diags c.stmt.auto.stmts (told_as _ (c.in_ok-turn.was ∙ ap Ok w.in-Binds.is)) w.put.ensures w.named_one-counts.ensures)
  | in-Imports w ↦ rw (w.checker-is, w.counts-is) (again_import c.loop-i.invariant _ _ c.stmt.ensures c.stmt.auto.diags c.stmt.auto.stmts (told_as _ (c.in_ok-turn.was ∙ ap Ok w.in-Imports.is)) w.put-in-Imports.ensures w.imported_one-counts.ensures)
]

pub returns : goal.returns
returns c = finished c.loop-i.invariant c.loop-i-test.false

use mathlib.Core.Path.{refl, sym}
use native.Mathlib.Omega.{arith}
use Rattle.std.proofs.lemmas.Result.{err_from_is_err_and}
use Rattle.language.proofs.NodeClaims.{some_node}
use Rattle.arguments.proofs.Outs.{halted}
use Rattle.judging.proofs.Trees.{row_in}
use Rattle.judging.proofs.Steps.{leaf_step, leaf_ends}
use Rattle.judging.proofs.Climbing.{fits_look}
use Rattle.judging.proofs.Leaves.{leaf_parts}
use Rattle.judging.proofs.lowest.Goals as goal

pub leaf-requires : goal.leaf-requires
leaf-requires c = record { ready = c.requires.ready; node_width_in_bounds = (row_in c.requires.fits.0.rep, fits_look c.requires.fits.0) }

pub returns-in_err-term : goal.returns-in_err-term
returns-in_err-term c =
    let p = err_from_is_err_and c.from_residual.result c.from_residual.ensures.1 in
    rw (p.1, p.2)
    (λ n k e x u kn rep. leaf_ends _ (c.leaf.ensures n k e x kn rep c.requires.fits.1) (halted c.in_err-term.was) (sym c.in_err-term.was) refl)

pub overflow_add-result : goal.overflow_add-result
overflow_add-result c = omega (arith, some_node c.requires.fits.0.tree, c.requires.fits.0.rows)

pub returns : goal.returns
returns c = λ n k e x u kn rep. rw (← c.in_ok-term.was) (leaf_step _ (c.leaf.ensures n k e x kn rep c.requires.fits.1) (leaf_parts c.args.scope.now.toks.now n k rep c.requires.fits.1) refl)

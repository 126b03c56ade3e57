use native.Mathlib.Omega.{arith}
use mathlib.Core.Path.{refl, sym, ◌∙◌}
use Rattle.statements.proofs.StmtRows.{begun_number, same_knows, same_ready, import_room, stmt_fits, row_import, row_let, row_expr, row_passed}
use Rattle.statements.proofs.stmt.Goals as goal

pub import-requires : goal.import-requires
import-requires c =
    let ready = (same_ready c.args.counts.now _ refl refl c.begun.ensures c.requires.ready) in
    record { modules = (ready.modules, ready.keyed_modules); room = import_room c.requires.row_fits.1 c.begun.ensures c.requires.row_fits.0 (sym c.node_word.ensures ∙ c.in-11.is) }

pub let_stmt-requires : goal.let_stmt-requires
let_stmt-requires c = record { ready = (same_ready c.args.counts.now _ refl refl c.begun.ensures c.requires.ready); stmt_fits = (stmt_fits c.requires.row_fits.1 c.begun.ensures c.requires.row_fits.0 (omega (arith, c.node_word.ensures, c.in-12.is)), c.requires.row_fits.1) }

pub expr_stmt-requires : goal.expr_stmt-requires
expr_stmt-requires c = record { ready = (same_ready c.args.counts.now _ refl refl c.begun.ensures c.requires.ready); stmt_fits = (stmt_fits c.requires.row_fits.1 c.begun.ensures c.requires.row_fits.0 (omega (arith, c.node_word.ensures, c.in-13.is)), c.requires.row_fits.1) }

pub returns-in-11 : goal.returns-in-11
returns-in-11 c = λ n k ss num kn a. row_import c.requires.row_fits.1 c.args.scope.now.toks.now n k c.args.counts.now c.args.diags.now c.args.stmts.now c.begun.ensures (sym c.node_word.ensures ∙ c.in-11.is) c.node_word-in-11.ensures a (c.import.ensures n k _ _ (begun_number c.args.counts.now c.begun.ensures num) (same_knows c.args.counts.now _ refl refl c.begun.ensures refl kn))

pub returns-in-12 : goal.returns-in-12
returns-in-12 c = λ n k ss num kn a. row_let c.requires.row_fits.1 c.args.scope.now.toks.now n k c.args.counts.now c.args.diags.now c.args.stmts.now c.begun.ensures (sym c.node_word.ensures ∙ c.in-12.is) a (λ e rep. c.let_stmt.ensures n k e (begun_number c.args.counts.now c.begun.ensures num) (same_knows c.args.counts.now _ refl refl c.begun.ensures refl kn) rep)

pub returns-in-13 : goal.returns-in-13
returns-in-13 c = λ n k ss num kn a. row_expr c.requires.row_fits.1 c.args.scope.now.toks.now n k c.args.counts.now c.args.diags.now c.args.stmts.now c.begun.ensures (sym c.node_word.ensures ∙ c.in-13.is) a (λ e rep. c.expr_stmt.ensures n k e (begun_number c.args.counts.now c.begun.ensures num) (same_knows c.args.counts.now _ refl refl c.begun.ensures refl kn) rep)

pub returns-in_default : goal.returns-in_default
returns-in_default c = λ n k ss num kn a. row_passed c.requires.row_fits.1 c.args.scope.now.toks.now n k c.args.counts.now c.args.diags.now c.args.stmts.now (λ q. c.in_default.in_default-own.rest.0.0.1 (c.node_word.ensures ∙ q)) (λ q. c.in_default.in_default-own.rest.0.1 (c.node_word.ensures ∙ q)) (λ q. c.in_default.in_default-own.rest.1 (c.node_word.ensures ∙ q)) a

use mathlib.Core.Path.{refl, ◌∙◌}
use Rattle.table.proofs.Laws.{pad_own}
use Rattle.checker.proofs.Parsed.{parses}
use Rattle.checker.proofs.Entry.{not_parsed, as_before}
use Rattle.checker.proofs.check_source.Goals as goal

pub returns-then-verdict-ne-DONE : goal.returns-then-verdict-ne-DONE
returns-then-verdict-ne-DONE c =
    not_parsed c.parse_source-parsed.ensures c.if-verdict-ne-DONE.true c.refused.ensures c.clear.ensures c.clear-2.ensures

pub check_statements-requires : goal.check_statements-requires
check_statements-requires c = record { parses = parses c.parse_source-parsed.ensures c.if-verdict-ne-DONE.false; diags_value = (pad_own _ _ _ c.clear.ensures refl, pad_own _ _ _ c.clear-2.ensures refl) }

pub shape_of-diags : goal.shape_of-diags
shape_of-diags c = c.diags-2-1.given ∙ c.diags-1.given

pub shape_of-stmts : goal.shape_of-stmts
shape_of-stmts c = c.stmts-2-1.given ∙ c.stmts-1.given

pub returns : goal.returns
returns c =
    as_before c.parse_source-parsed.ensures c.diags-1.given c.stmts-1.given c.check_statements.ensures

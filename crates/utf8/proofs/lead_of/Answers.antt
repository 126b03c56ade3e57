use mathlib.Core.Path.{◌∙◌}
use native.Mathlib.Omega.{arith}
use Rattle.language.proofs.Utf8Rows.{rows, numbered}
use Rattle.utf8.proofs.Leads.{row_in, row_ascii, no_row}
use Rattle.utf8.proofs.lead_of.Goals as goal

pub returns-in-0-to-127 : goal.returns-in-0-to-127
returns-in-0-to-127 c = c.starts-in-0-to-127.ensures ∙ row_ascii _ _ c.from-octet.ensures (omega arith)

pub returns-in-224 : goal.returns-in-224
returns-in-224 c = c.starts.ensures ∙ row_in _ _ c.from-octet.ensures (numbered rows 2 (omega arith)) (omega arith) (omega arith)

pub returns-in-237 : goal.returns-in-237
returns-in-237 c = c.starts-in-237.ensures ∙ row_in _ _ c.from-octet.ensures (numbered rows 4 (omega arith)) (omega arith) (omega arith)

pub returns-in-240 : goal.returns-in-240
returns-in-240 c = c.starts-in-240.ensures ∙ row_in _ _ c.from-octet.ensures (numbered rows 6 (omega arith)) (omega arith) (omega arith)

pub returns-in-244 : goal.returns-in-244
returns-in-244 c = c.starts-in-244.ensures ∙ row_in _ _ c.from-octet.ensures (numbered rows 8 (omega arith)) (omega arith) (omega arith)

pub returns-in-194-to-223 : goal.returns-in-194-to-223
returns-in-194-to-223 c = c.starts-in-194-to-223.ensures ∙ row_in _ _ c.from-octet.ensures (numbered rows 1 (omega arith)) (omega arith) (omega arith)

pub returns-in-225-to-236 : goal.returns-in-225-to-236
returns-in-225-to-236 c = c.starts-in-225-to-236.ensures ∙ row_in _ _ c.from-octet.ensures (numbered rows 3 (omega arith)) (omega arith) (omega arith)

pub returns-in-238-to-239 : goal.returns-in-238-to-239
returns-in-238-to-239 c = c.starts-in-238-to-239.ensures ∙ row_in _ _ c.from-octet.ensures (numbered rows 5 (omega arith)) (omega arith) (omega arith)

pub returns-in-241-to-243 : goal.returns-in-241-to-243
returns-in-241-to-243 c = c.starts-in-241-to-243.ensures ∙ row_in _ _ c.from-octet.ensures (numbered rows 7 (omega arith)) (omega arith) (omega arith)

pub returns-in_default : goal.returns-in_default
returns-in_default c = no_row _ (omega arith)

pub returns-in_default-2 : goal.returns-in_default-2
returns-in_default-2 c = no_row _ (omega arith)

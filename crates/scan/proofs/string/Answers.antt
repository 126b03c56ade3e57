use Rattle.scan.proofs.Starts.{string_closed, string_open}
use mathlib.Core.Path.{sym, ◌∙◌}
use Rattle.scan.proofs.string.Goals as goal

pub returns-then-peek-eq34 : goal.returns-then-peek-eq34
returns-then-peek-eq34 c = string_closed c.args.line.now c.args.at _ c.eat_body-end.ensures (sym c.peek.ensures ∙ c.if-peek-eq34.true)

pub returns : goal.returns
returns c = string_open c.args.line.now c.args.at _ c.eat_body-end.ensures (λ z. c.if-peek-eq34.false (c.peek.ensures ∙ z))

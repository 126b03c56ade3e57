use mathlib.Core.Logic.{inl, inr}
use Rattle.scan.proofs.Numbers.{quad_ends, address, malformed, no_quad}
use Rattle.scan.proofs.Scanner.number.Goals as goal

pub returns-in_default : goal.returns-in_default
returns-in_default c =
    no_quad c.args.line.now c.args.at _ c.dotted_quad.ensures c.in_default.is _ c.eat_word-end.ensures _ c.integer.ensures

pub eat_word-end-requires-2 : goal.eat_word-end-requires-2
eat_word-end-requires-2 c =
    quad_ends c.args.line.now c.args.at _ c.dotted_quad.ensures _ c.in-Some.is c.requires.0

pub returns-then-end-quad : goal.returns-then-end-quad
returns-then-end-quad c =
    address c.args.line.now c.args.at _ c.dotted_quad.ensures _ c.in-Some.is _ c.eat_word-end-2.ensures _ c.in-Some-address.is c.if-end-quad.true

pub returns-else-end-quad : goal.returns-else-end-quad
returns-else-end-quad c =
    malformed c.args.line.now c.args.at _ c.dotted_quad.ensures _ c.in-Some.is _ c.eat_word-end-2.ensures (inr c.if-end-quad.false)

pub returns-in_default-address : goal.returns-in_default-address
returns-in_default-address c =
    malformed c.args.line.now c.args.at _ c.dotted_quad.ensures _ c.in-Some.is _ c.eat_word-end-2.ensures (inl c.in_default-address.is)

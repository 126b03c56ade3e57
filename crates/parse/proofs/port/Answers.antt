use borrow.Enum.Refused.{opened}
use Rattle.parse.proofs.Looks.{port_not, port_good, port_large, port_huge}
use Rattle.parse.proofs.port.Goals as goal

pub returns-in_default : goal.returns-in_default
returns-in_default c = port_not _ _ c.tok_at.ensures (opened c.in_default.in_default-own.keys2)

pub returns-then-v-le-LARGEST_PORT : goal.returns-then-v-le-LARGEST_PORT
returns-then-v-le-LARGEST_PORT c = port_good _ _ c.tok_at.ensures _ c.in-DecLiteral.is c.if-v-eq0.true c.if-v-le-LARGEST_PORT.true

pub returns-else-v-le-LARGEST_PORT : goal.returns-else-v-le-LARGEST_PORT
returns-else-v-le-LARGEST_PORT c = port_large _ _ c.tok_at.ensures _ c.in-DecLiteral.is c.if-v-eq0.true c.if-v-le-LARGEST_PORT.false

pub returns-else-v-eq0 : goal.returns-else-v-eq0
returns-else-v-eq0 c = port_huge _ _ c.tok_at.ensures _ c.in-DecLiteral.is c.if-v-eq0.false

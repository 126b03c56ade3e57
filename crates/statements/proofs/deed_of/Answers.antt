use Rattle.statements.proofs.Statements.{deed_pkt, deed_generator, deed_jump, deed_void, deed_other}
use Rattle.statements.proofs.deed_of.Goals as goal

pub returns-in-10 : goal.returns-in-10
returns-in-10 c = deed_pkt c.in-10.is

pub returns-in-11 : goal.returns-in-11
returns-in-11 c = deed_generator c.in-11.is

pub returns-in-12 : goal.returns-in-12
returns-in-12 c = deed_jump c.in-12.is

pub returns-in-1 : goal.returns-in-1
returns-in-1 c = deed_void c.in-1.is

pub returns-in_default : goal.returns-in_default
returns-in_default c = deed_other c.in_default.in_default-own.rest.0.0.0.1 c.in_default.in_default-own.rest.0.0.1 c.in_default.in_default-own.rest.0.1 c.in_default.in_default-own.rest.1

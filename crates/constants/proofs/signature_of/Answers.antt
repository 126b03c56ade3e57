use Rattle.constants.proofs.Signatures.{signed, ping, pause, burst, mark, pick, host, other_signed}
use Rattle.constants.proofs.signature_of.Goals as goal

pub returns-in-7 : goal.returns-in-7
returns-in-7 c = signed ping c.in-7.is c.param.ensures c.param-none.ensures c.takes.ensures

pub returns-in-10 : goal.returns-in-10
returns-in-10 c = signed pause c.in-10.is c.param-in-10.ensures c.param-none.ensures c.takes-in-10.ensures

pub returns-in-11 : goal.returns-in-11
returns-in-11 c = signed burst c.in-11.is c.param-in-11.ensures c.param-in-11-2.ensures c.takes-in-11.ensures

pub returns-in-12 : goal.returns-in-12
returns-in-12 c = signed mark c.in-12.is c.param-in-12.ensures c.param-none.ensures c.takes-in-12.ensures

pub returns-in-13 : goal.returns-in-13
returns-in-13 c = signed pick c.in-13.is c.param-in-13.ensures c.param-none.ensures c.takes-in-13.ensures

pub returns-in-14 : goal.returns-in-14
returns-in-14 c = signed host c.in-14.is c.param-in-14.ensures c.param-none.ensures c.takes-in-14.ensures

pub returns-in_default : goal.returns-in_default
returns-in_default c =
    let r = c.in_default.in_default-own.rest in
    other_signed r.0.0.0.0.0.1 r.0.0.0.0.1 r.0.0.0.1 r.0.0.1 r.0.1 r.1 c.param-none.ensures c.takes-in_default.ensures

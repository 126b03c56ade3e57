use Prim.Native.Nat.{◌+◌}
use mathlib.Core.Path.{refl, sym, ◌∙◌}
use Rattle.language.specs.Sentences.{literal, sock4}
use Rattle.parse.proofs.Looks.{seen, unseen, inside, is_good, port_place, port_inside}
use Rattle.parse.proofs.Nodes.{leaf_pushed}
use Rattle.parse.proofs.Answers.{handed, met_ok, met_no, ahead_no}
use Rattle.parse.proofs.Steps.{address_plain, address_port, address_refused}
use native.Mathlib.Omega.{arith}
use Rattle.parse.proofs.address.Goals as goal

pub returns-then-kind_at-ne-COLON-clause-ahead : goal.returns-then-kind_at-ne-COLON-clause-ahead
returns-then-kind_at-ne-COLON-clause-ahead c = omega (arith, inside c.args.toks.now c.args.at 13 c.requires.at_value)

pub returns-then-kind_at-ne-COLON-clause-after : goal.returns-then-kind_at-ne-COLON-clause-after
returns-then-kind_at-ne-COLON-clause-after c = λ ts ns rep l h. met_ok (address_plain rep _ _ (unseen c.kind_at.ensures c.if-kind_at-ne-COLON.true)) (leaf_pushed (literal _) l h refl refl c.push.ensures)

pub returns-in_err-port : goal.returns-in_err-port
returns-in_err-port c =
    let r = handed c.from_residual.ensures.1 in
    let e = sym c.in_err-port.was ∙ c.port.ensures in
    record { ahead = ahead_no r (omega (arith, port_place (c.args.at + 2) _ _ e)); after = λ ts ns rep l h. met_no r (address_refused rep _ _ (seen c.kind_at.ensures c.if-kind_at-ne-COLON.false) _ e) }

pub returns : goal.returns
returns c =
    let p = is_good (c.args.at + 2) _ (sym c.in_ok-port.was ∙ c.port.ensures) in
    record { ahead = omega (arith, port_inside c.args.toks.now (c.args.at + 2) p); after = λ ts ns rep l h. met_ok (address_port rep _ _ (seen c.kind_at.ensures c.if-kind_at-ne-COLON.false) p) (leaf_pushed (sock4 _) l h refl refl c.push-2.ensures) }

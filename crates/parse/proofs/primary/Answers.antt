use mathlib.Core.Path.{refl}
use Rattle.language.specs.Sentences.{literal, local}
use Rattle.parse.proofs.Looks.{seen, unseen, inside, literal_seen, literal_inside}
use Rattle.parse.proofs.Nodes.{leaf_pushed}
use Rattle.parse.proofs.Answers.{met_ok, met_no, met_by}
use Rattle.parse.proofs.Steps.{primary_literal, primary_address, primary_name, primary_local, primary_no}
use native.Mathlib.Omega.{arith}
use Rattle.parse.proofs.primary.Goals as goal

pub returns-then-is_literal : goal.returns-then-is_literal
returns-then-is_literal c =
    let lit = literal_seen c.kind_at-kind.ensures c.is_literal.ensures c.if-is_literal.true in
    record { ahead = omega (arith, literal_inside c.args.toks.now c.args.at lit); after = λ ts ns rep l h. met_ok (primary_literal rep _ _ lit) (leaf_pushed (literal _) l h refl refl c.push.ensures) }

pub returns-then-kind_at-eq-DOUBLE_COLON-clause-after : goal.returns-then-kind_at-eq-DOUBLE_COLON-clause-after
returns-then-kind_at-eq-DOUBLE_COLON-clause-after c = λ ts ns rep l h. met_by (primary_name rep _ _ (seen c.kind_at-kind.ensures c.in-13.is)) (c.module_path.ensures.after ts ns rep l h)

pub returns-in-15-clause-after : goal.returns-in-15-clause-after
returns-in-15-clause-after c = λ ts ns rep l h. met_by (primary_address rep _ _ (seen c.kind_at-kind.ensures c.in-15.is)) (c.address.ensures.after ts ns rep l h)

pub returns-else-kind_at-eq-DOUBLE_COLON : goal.returns-else-kind_at-eq-DOUBLE_COLON
returns-else-kind_at-eq-DOUBLE_COLON c =
    let is13 = seen c.kind_at-kind.ensures c.in-13.is in
    record { ahead = omega (arith, inside c.args.toks.now c.args.at 11 is13); after = λ ts ns rep l h. met_ok (primary_local rep _ _ is13 (unseen c.kind_at.ensures c.if-kind_at-eq-DOUBLE_COLON.false)) (leaf_pushed (local _) l h refl refl c.push-in-13.ensures) }

pub returns-in_default-clause-after : goal.returns-in_default-clause-after
returns-in_default-clause-after c = λ ts ns rep l h. let k = c.kind_at-kind in
    met_no refl (primary_no rep _ _ (literal_seen k.ensures c.is_literal.ensures c.if-is_literal.false) (unseen k.ensures c.in_default.in_default-own.rest.0.1) (unseen k.ensures c.in_default.in_default-own.rest.1))

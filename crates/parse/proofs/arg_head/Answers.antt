use Prim.Native.Nat.{◌+◌}
use Rattle.parse.proofs.Looks.{seen, unseen, inside, named_yes, named_bare, named_no, head_named, head_bare}
use native.Mathlib.Omega.{arith}
use borrow.Author.Rules.{rules}
use Rattle.parse.proofs.arg_head.Goals as goal

pub returns-then-kind_at-eq-COLON : goal.returns-then-kind_at-eq-COLON
returns-then-kind_at-eq-COLON c =
    let is6 = seen c.kind_at-then-kind_at-eq-IDENTIFIER.ensures c.if-kind_at-eq-COLON.true in
    record { kind_value = head_named _ _ (named_yes _ _ (seen c.kind_at.ensures c.if-kind_at-eq-IDENTIFIER.true) is6); at_le_value = omega (arith, inside c.args.toks.now (c.args.at + 1) 4 is6) }

pub returns-else-kind_at-eq-COLON : goal.returns-else-kind_at-eq-COLON
returns-else-kind_at-eq-COLON c = record { kind_value = head_bare _ _ (named_bare _ _ (seen c.kind_at.ensures c.if-kind_at-eq-IDENTIFIER.true) (unseen c.kind_at-then-kind_at-eq-IDENTIFIER.ensures c.if-kind_at-eq-COLON.false)); at_le_value = search rules }

pub returns-else-kind_at-eq-IDENTIFIER : goal.returns-else-kind_at-eq-IDENTIFIER
returns-else-kind_at-eq-IDENTIFIER c = record { kind_value = head_bare _ _ (named_no _ _ (unseen c.kind_at.ensures c.if-kind_at-eq-IDENTIFIER.false)); at_le_value = search rules }

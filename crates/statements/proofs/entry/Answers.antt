use mathlib.Core.Path.{refl}
use Rattle.rows.proofs.TokenRows.{is_named_lem, not_named}
use Rattle.statements.proofs.entry.Goals as goal

pub returns-then-tok-eq-IDENTIFIER : goal.returns-then-tok-eq-IDENTIFIER
returns-then-tok-eq-IDENTIFIER c =
    record {
      named = λ s e k. record { name = is_named_lem s c.args.t e c.if-tok-eq-IDENTIFIER.true refl; key = k; token = refl };
      stands = record { form = refl; kind = refl; low = refl; high = refl };
    }

pub returns : goal.returns
returns c =
    record {
      named = λ s e k. record { name = not_named s c.args.t e c.if-tok-eq-IDENTIFIER.false refl; key = k; token = refl };
      stands = record { form = refl; kind = refl; low = refl; high = refl };
    }

-- The contract's equation, and the language's claims.
use mathlib.Core.Path.{◌≡◌, sym, ◌∙◌}
use mathlib.Core.List.{List}
use Prim.Native.Nat.{ℕ, ◌*◌, ◌≤◌}
use native.Mathlib.Omega.{arith}
use native.Mathlib.Decide.{dec_le}
use Rattle.language.specs.Numbers.{comparisons}
use Rattle.language.proofs.Comparisons.{comparisons_few}
use Rattle.checker.specs.declared.CheckAnswer.{CheckAnswer}
use Rattle.checker.specs.Entry.{CheckSource}
use Rattle.joined.specs.Comparisons.{CheckCompares, ChecksCompare, RoomsAside}
use Rattle.joined.proofs.Left.{calls_leave}

pub checks_compare : ChecksCompare
checks_compare source t n d k r toks tree found held c =
    let l = calls_leave.check source t n d k r toks tree found held c in
    record {
      counted = l.compares;
      refused = l.none_compared;
      few = elim (dec_le r.verdict.number 0) [
        | yes z ↦ omega (arith, l.compares (omega arith), comparisons_few source)
        | no z ↦ omega (arith, l.none_compared (λ e. omega arith))
      ];
    }

pub rooms_aside : RoomsAside
rooms_aside source t n d k t' n' d' k' r q a b x y a' b' x' y' c e z w =
    (checks_compare source t n d k r a b x y c).counted z ∙ sym ((checks_compare source t' n' d' k' q a' b' x' y' e).counted w)

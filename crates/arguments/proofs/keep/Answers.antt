use Rattle.arguments.proofs.Arguments.{keeps_more}
use mathlib.Core.Path.{refl}
use native.Mathlib.Omega.{arith}
use Rattle.arguments.proofs.keep.Goals as goal

pub returns-in-0 : goal.returns-in-0
returns-in-0 c = ((λ start gs a h e. keeps_more refl (λ z. refl) (λ z. absurd (z c.in-0.is)) (λ z. absurd (omega arith)) (λ z. absurd (omega arith)) (λ z. absurd (omega arith)) (λ z. absurd (omega arith)) gs a h e), (record { first = omega (arith, c.requires.1.first, c.requires.2); second = omega (arith, c.requires.1.second, c.requires.2) }))

pub returns-in-1 : goal.returns-in-1
returns-in-1 c = ((λ start gs a h e. keeps_more refl (λ z. absurd (omega arith)) (λ z. refl) (λ z. refl) (λ z. absurd (omega arith)) (λ z. absurd (omega arith)) (λ z. absurd (omega arith)) gs a h e), (record { first = omega (arith, c.requires.1.first, c.requires.2); second = omega (arith, c.requires.1.second, c.requires.2) }))

pub returns-in-2 : goal.returns-in-2
returns-in-2 c = ((λ start gs a h e. keeps_more refl (λ z. absurd (omega arith)) (λ z. refl) (λ z. absurd (omega arith)) (λ z. refl) (λ z. refl) (λ z. absurd (omega arith)) gs a h e), (record { first = omega (arith, c.requires.1.first, c.requires.2); second = omega (arith, c.requires.1.second, c.requires.2) }))

pub returns-in_default : goal.returns-in_default
returns-in_default c = ((λ start gs a h e. keeps_more refl (λ z. absurd (omega arith)) (λ z. refl) (λ z. absurd (omega arith)) (λ z. refl) (λ z. absurd (omega arith)) (λ z. refl) gs a h e), (record { first = omega (arith, c.requires.1.first, c.requires.2); second = omega (arith, c.requires.1.second, c.requires.2) }))

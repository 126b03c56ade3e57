-- What the code's judgement says of the language's.
use mathlib.Core.Path.{◌≡◌, refl}
use mathlib.Core.List.{List}
use Prim.Native.Nat.{ℕ}
use Rattle.std.specs.Prelude.{Ok, Err}
use Rattle.language.specs.Terms as terms
use Rattle.language.specs.Judgements as judgements
use Rattle.language.specs.Judgements.{val, err, poisoned, stopped}
use Rattle.language.proofs.Tests.{never}
use Rattle.values.specs.declared.Term.{Term}
use Rattle.values.specs.declared.Halt.{Halt}
use Rattle.values.specs.Values.{Judged, term_as, judged_as}
use Rattle.arguments.proofs.Then.{NoValue, failed}

-- the term that the code's stands for
pub record ValueOf (o : judgements.Judged terms.Term) (v : Term) : Type 0 where
  pub term : terms.Term
  pub is : o ≡ val term
  pub as' : v ≡ term_as term

-- it has none
abbrev pub HasNone : Judged → Type 0
HasNone r = (v : Term) → r ≡ Ok v → ⊥

module _ (s : List ℕ) {r : Judged} where
  pub has_value : {v : Term} (o : judgements.Judged terms.Term) → r ≡ judged_as s o → r ≡ Ok v → ValueOf o v
  has_value {v} (val e) g q = let z : v ≡ term_as e = cc in record { term = e; is = refl; as' = z }
  has_value (err at w) g q = never cc
  has_value poisoned g q = never cc
  has_value (stopped t) g q = never cc

  pub has_none : (o : judgements.Judged terms.Term) → r ≡ judged_as s o → HasNone r → NoValue o
  has_none (val e) g h = h (term_as e) g
  has_none (err at w) g h = tt
  has_none poisoned g h = tt
  has_none (stopped t) g h = tt

  -- where it has none, that is handed on
  pub failed_as : (o : judgements.Judged terms.Term) → NoValue o → r ≡ judged_as s o → r ≡ judged_as s (failed o)
  failed_as (val e) h g = absurd h
  failed_as (err at w) h g = g
  failed_as poisoned h g = g
  failed_as (stopped t) h g = g

-- ---- of the code's alone: whether it has a value

pub halted : {r : Judged} {h : Halt} → r ≡ Err h → HasNone r
halted e v q = never cc

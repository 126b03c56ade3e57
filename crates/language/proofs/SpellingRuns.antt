-- Tests of all bytes of a list, runs of bytes with a test, and tests that antt computes for each number below a bound.
use Prim.Native.Nat.{ℕ, zero, suc, ◌<◌}
use mathlib.Core.Path.{◌≡◌, refl, ap}
use mathlib.Core.Bool.{Bool, true, false, ◌&&◌, ◌||◌, not, false≢true}
use mathlib.Core.List.{List, [], ◌∷◌, ◌++◌}
use native.Mathlib.Omega.{arith}
use native.Mathlib.Decide.{dec_lt}
use lib.ListN.{length, take}
use Rattle.language.specs.Choice.{if'}
use Rattle.language.specs.Lexemes.{run, all}
use Rattle.language.proofs.Tests.{both}

-- both tests
pub and : {a b : Bool} → a ≡ true → b ≡ true → a && b ≡ true
and d e = rw (d, e)

module _ (p : ℕ → Bool) where
  -- the first byte, and the others
  pub all_parts : (b : ℕ) (w : List ℕ) → all p (b ∷ w) ≡ true → (p b ≡ true) × (all p w ≡ true)
  all_parts b w e = both (p b) (all p w) e

  pub all_append : (w v : List ℕ) → all p w ≡ true → all p v ≡ true → all p (w ++ v) ≡ true
  all_append [] v d e = e
  all_append (b ∷ w) v d e = let h = all_parts b w d in and {a = p b} h.0 (all_append w v h.1 e)

  -- the bytes of a run
  pub all_run : (s : List ℕ) → all p (take (run p s) s) ≡ true
  all_run [] = refl
  all_run (b ∷ s) = go (p b) refl (all_run s)
    where
      go : (t : Bool) → p b ≡ t → all p (take (run p s) s) ≡ true → all p (take (if' t (suc (run p s)) 0) (b ∷ s)) ≡ true
      go true e h = and {a = p b} e h
      go false e h = refl

  -- a run of them all, up to where p fails
  pub run_all : (w r : List ℕ) → all p w ≡ true → run p r ≡ 0 → run p (w ++ r) ≡ length w
  run_all [] r e h = h
  run_all (b ∷ w) r e h = let k = all_parts b w e in rw k.0 (ap suc (run_all w r k.1 h))

  -- what passes p passes another test
  pub all_also : (q : ℕ → Bool) → ((b : ℕ) → p b ≡ true → q b ≡ true) → (w : List ℕ) → all p w ≡ true → all q w ≡ true
  all_also q f [] e = refl
  all_also q f (b ∷ w) e = let h = all_parts b w e in and {a = q b} (f b h.0) (all_also q f w h.1)

-- ---- every number below a bound

abbrev pub up_to : (ℕ → Bool) → ℕ → Bool
up_to p zero = true
up_to p (suc n) = p n && up_to p n

pub up_to_lem : (p : ℕ → Bool) (n : ℕ) → up_to p n ≡ true → (d : ℕ) → d < n → p d ≡ true
up_to_lem p zero e d h = absurd (omega arith)
up_to_lem p (suc n) e d h =
    let k = both (p n) (up_to p n) e in
    elim (dec_lt d n) [
      | yes lt ↦ up_to_lem p n k.1 d lt
      | no ge ↦ let z : d ≡ n = omega arith in rw z k.0
    ]

-- the second test, where it goes by the first
pub implied : (a b : Bool) → a ≡ true → not a || b ≡ true → b ≡ true
implied true b e h = h
implied false b e h = absurd (false≢true e)

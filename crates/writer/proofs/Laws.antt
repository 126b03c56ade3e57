-- What holds of writing: none, one, one piece after the other, and what a text holds that was written from its start.
use Prim.Native.Nat.{ℕ, suc, ◌+◌, ◌≤◌, ◌<◌}
use mathlib.Core.Path.{◌≡◌, refl, ap, ◌∙◌}
use mathlib.Core.List.{List, [], ◌∷◌, ◌++◌}
use native.Mathlib.Omega.{arith}
use lib.ListN.{length, get_or, set, take, length-append}
use lib.Seq.{sets, length-sets, take_all, length-take-le}
use Rattle.table.specs.Table.{pad_to}
use Rattle.table.proofs.Laws.{puts_end}
use Rattle.table.proofs.Stores.{copy_more}
use Rattle.writer.specs.Writing.{Writes}

pub none : (t : List ℕ) (at : ℕ) → Writes t at [] at t
none t at = record { answer = omega arith; text = refl }

-- a text keeps its length
pub size : {t u : List ℕ} {at r : ℕ} {x : List ℕ} → Writes t at x r u → length u ≡ length t
size {t} {u} {at} {r} {x} w = ap length w.text ∙ length-sets t at x

-- stores one after the other
sets_append : (t : List ℕ) (at : ℕ) (x y : List ℕ) → sets (sets t at x) (at + length x) y ≡ sets t at (x ++ y)
sets_append t at [] y = let e : at + 0 ≡ at = omega arith in rw e
sets_append t at (a ∷ x) y = let e : at + suc (length x) ≡ suc at + length x = omega arith in rw e (sets_append (set t at a) (suc at) x y)

infixr 20 ◌then◌
pub ◌then◌ : {t u v : List ℕ} {at k r : ℕ} {x y : List ℕ} → Writes t at x k u → Writes u k y r v → Writes t at (x ++ y) r v
◌then◌ {t} {u} {v} {at} {k} {r} {x} {y} a b =
    record {
      answer = omega (arith, a.answer, b.answer, length-append x y);
      text = b.text ∙ rw (a.text, a.answer) (sets_append t at x y);
    }

-- the bytes by another name
pub bytes_are : {t u : List ℕ} {at r : ℕ} {x : List ℕ} (y : List ℕ) → x ≡ y → Writes t at x r u → Writes t at y r u
bytes_are y e w = rw (← e) w

-- after what is there, with zeros behind it
pub after : {t u : List ℕ} {at r : ℕ} {x : List ℕ} → Writes t at x r u → (done : List ℕ) → length done ≡ at → t ≡ pad_to (length t) done
    → u ≡ pad_to (length t) (done ++ x)
after {t} {u} {at} {r} {x} w done l e =
    w.text ∙ ap (λ (z : List ℕ). sets z at x) e ∙ rw (← l) (puts_end (length t) done x)

-- ---- a run of bytes

-- the first i of them are written
pub record Copying (t : List ℕ) (at : ℕ) (bytes : List ℕ) (i : ℕ) (u : List ℕ) : Type 0 where
  pub within : i ≤ length bytes
  pub writes : Writes t at (take i bytes) (at + i) u

module _ (t : List ℕ) (at : ℕ) (bytes : List ℕ) where
  pub copy_none : Copying t at bytes 0 t
  copy_none = record { within = omega arith; writes = record { answer = refl; text = refl } }

  module _ {i : ℕ} {u : List ℕ} (c : Copying t at bytes i u) where
    pub copy_one : i < length bytes → {v : List ℕ} → v ≡ set u (at + i) (get_or bytes i 0) → Copying t at bytes (i + 1) v
    copy_one h e =
        record {
          within = omega arith;
          writes =
              record {
                answer = omega (arith, length-take-le (i + 1) bytes (omega arith));
                text = e ∙ copy_more t bytes u at i h c.writes.text;
              };
        }

    pub copy_all : length bytes ≤ i → Writes t at bytes (at + length bytes) u
    copy_all h =
        let w = bytes_are bytes (take_all i bytes h) c.writes in
        record { answer = refl; text = w.text }

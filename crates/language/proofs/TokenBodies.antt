-- The bodies of literals in a part of a source that is whole lexemes.
use Prim.Native.Nat.{ℕ, ◌+◌, ◌-◌, ◌<◌}
use mathlib.Core.Path.{◌≡◌, refl, ◌∙◌}
use mathlib.Core.List.{List, [], ◌∷◌, ◌++◌, append_assoc, append-nil}
use native.Mathlib.Omega.{arith}
use lib.ListN.{length, length-append}
use lib.Seq.{take_at, drop_at}
use Rattle.language.specs.Lexemes.{Kind, lexeme_of, lexeme, scan_from}
use Rattle.language.specs.Tokens.{body_of, bodies_of, bodies_in}
use Rattle.language.proofs.LexemeSpans.{scan_unfolds}
use Rattle.language.proofs.CutLexemes.{cut}

-- the text t, before z, is whole lexemes, and the literals among them have the bodies bs
pub data Held : List ℕ → List ℕ → List (List ℕ) → Type 0 where
  held_none : {z : List ℕ} → Held [] z []
  held_more : {t z : List ℕ} {bs : List (List ℕ)} (k : Kind) (x : List ℕ) → 0 < length x → lexeme (x ++ z) ≡ lexeme_of k (length x)
      → Held t (x ++ z) bs → Held (t ++ x) z (bs ++ body_of k x)

-- the lexeme after t, and those after it
one_lexeme : (t x u : List ℕ) (k : Kind) → 0 < length x → lexeme (x ++ u) ≡ lexeme_of k (length x)
    → bodies_of (t ++ (x ++ u)) (scan_from 0 (length t) (x ++ u)) ≡ body_of k x ++ bodies_of (t ++ (x ++ u)) (scan_from 0 (length t + length x) u)
one_lexeme t [] u k h e = absurd (omega arith)
one_lexeme t (b ∷ x) u k h e =
    let n = length (b ∷ x) in
    rw ((scan_unfolds (length t)).1 b (x ++ u), e, drop_at (b ∷ x) u n refl)
    (rw (drop_at t (b ∷ x ++ u) (length t) refl, take_at (b ∷ x) u (length t + n - length t) (omega arith)))

-- the text t and a part u of what follows it: the bodies that t holds, and those of u
bodies_to : {t z : List ℕ} {bs : List (List ℕ)} → Held t z bs → (u v : List ℕ) → z ≡ u ++ v
    → bodies_in (t ++ u) ≡ bs ++ bodies_of (t ++ u) (scan_from 0 (length t) u)
bodies_to held_none u v e = refl
bodies_to (held_more {t} {z} {bs} k x h q w) u v e =
    let whole : lexeme ((x ++ u) ++ v) ≡ lexeme_of k (length x) = rw (append_assoc, ← e) q in
    let l = length-append x u in
    let first : lexeme (x ++ u) ≡ lexeme_of k (length x) = cut (x ++ u) v (omega arith) (rw whole (omega arith)) ∙ whole in
    rw (append_assoc t x u, append_assoc bs (body_of k x), length-append t x, ← one_lexeme t x u k h first)
    (bodies_to w (x ++ u) v (rw (e, append_assoc)))

-- the literals of a text that is held are those that its lexemes have
pub bodies_of_lem : {t z : List ℕ} {bs : List (List ℕ)} → Held t z bs → bodies_in t ≡ bs
bodies_of_lem {t} {z} {bs} w = rw (append-nil t, (scan_unfolds (length t)).0, append-nil bs) at (bodies_to w [] z refl)

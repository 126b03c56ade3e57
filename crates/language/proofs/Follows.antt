-- No program starts with the tokens up to the one that is refused, and none asks for a token past its end.
use mathlib.Core.Path.{◌≡◌, sym, ◌∙◌}
use mathlib.Core.Logic.{inl, inr}
use mathlib.Core.List.{List, ◌++◌}
use Prim.Native.Nat.{ℕ, suc, ◌+◌, ◌≤◌}
use native.Mathlib.Omega.{arith}
use lib.ListN.{length, get_or, get_or-append}
use Rattle.language.specs.Tokens.{Content, eof, tokens, contents}
use Rattle.language.specs.Bounds.{alone, reached}
use Rattle.language.specs.Follows.{NoneFollows}
use Rattle.language.specs.Sound.{NoneAfter}
use Rattle.language.proofs.TokenContents.{as_many}
use Rattle.language.proofs.GrammarStops.{whole_read}
use Rattle.language.proofs.Twins.{program_twin}
use Rattle.language.proofs.Bounds.{told, alone_stops, as_alone}

-- lists with the same tokens up to where one comes to, with bounds that are none to either
same_alone : (ts us : List Content) (t : ℕ) → ((i : ℕ) → i ≤ t → get_or us i eof ≡ get_or ts i eof) → reached (alone ts) ≤ t
    → alone us ≡ alone ts
same_alone ts us t shared l =
    let b = length ts + length us in
    let p = (alone_stops ts).1 b b (omega arith) (omega arith) in
    let q = (alone_stops us).1 (suc b) (suc b) (omega arith) (omega arith) in
    elim (told ts ((program_twin ts us t shared b (suc b) b (suc b) (omega arith) (omega arith)).agrees (rw p l))) [
      | inl f ↦ sym q ∙ sym f.0 ∙ p
      | inr f ↦ absurd (omega (arith, (alone_stops ts).0 7 0 f.0 (sym p ∙ f.1)))
    ]

pub none_follows : NoneFollows
none_follows ts us n k t e shared = same_alone ts us t shared (rw e (omega arith)) ∙ e

pub none_after : NoneAfter
none_after s us ss next x e =
    let ts = contents (tokens s) in
    let a = (as_alone ts).1 ss next x e in
    same_alone ts (ts ++ us) next
    (λ i l. get_or-append ts us eof i (omega (arith, l, whole_read s ss next x e, as_many (tokens s)))) (rw a (omega arith))
    ∙ a

-- The places that check shows are those of tokens of the source.
use Prim.Native.Nat.{ℕ, ◌<◌}
use mathlib.Core.Path.{◌≡◌}
use mathlib.Core.List.{List}
use lib.ListN.{length}
use Rattle.language.specs.Tokens.{Content, tokens, contents}
use Rattle.language.specs.Judgements.{What, already_bound}
use Rattle.language.specs.Numbers.{checked, held_by}
use Rattle.language.specs.Sound.{PlacesInside}
use Rattle.language.proofs.TokenContents.{as_many}
use Rattle.language.proofs.FindingTokens.{Shown, name_there, good_at, There, outcome_grounded}
use Rattle.language.proofs.HeldRows.{rows_good}

-- a name that was bound before has a token
bound_there : (ts : List Content) (t at : ℕ) (w : What) → w ≡ already_bound t → Shown ts w at → t < length ts
bound_there ts t at w e h = name_there ts (rw e at h).1

pub places_inside : PlacesInside
unfolding checked
places_inside s t =
    let cs = contents (tokens s) in
    let g = outcome_grounded cs in
    let r = rows_good cs (held_by (checked s)) g.kept in
    rw (as_many (tokens s)) (
      λ d m. let h = g.found.holds d m in (h.there, λ e. bound_there cs t d.at d.what e h.shown),
      λ x m. let h = r.holds x m in (h.there, good_at cs (There cs) h.slots x.term h.good),
      λ m e. g.stopped m t e,
    )

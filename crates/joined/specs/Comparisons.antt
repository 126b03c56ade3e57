-- Counted name comparisons (02, E8; `Comparisons.antt` of the crate `language`), said of what calls of check answer.
use Rattle.std.specs.Prelude.{ℕ, ◌*◌, ◌≤◌, ◌≡◌, List}
use Rattle.language.specs.Numbers.{comparisons}
use Rattle.language.specs.Comparisons.{searches, names_bound}
use Rattle.checker.specs.declared.CheckAnswer.{CheckAnswer}
use Rattle.checker.specs.Entry.{CheckSource}

pub record CheckCompares (source : List ℕ) (r : CheckAnswer) : Type 0 where
  -- "The count equals that search's steps in the definition"
  pub counted : r.verdict.number ≡ 0 → r.comparisons ≡ comparisons source
  -- "is 0 on refusal"
  pub refused : (r.verdict.number ≡ 0 → ⊥) → r.comparisons ≡ 0
  -- "is at most the number of lets and local uses judged, times the names bound at the end"
  pub few : r.comparisons ≤ searches source * names_bound source

abbrev pub ChecksCompare : Type 0
ChecksCompare =
    (source : List ℕ) (t n d k : ℕ) (r : CheckAnswer) (toks tree found held : List ℕ)
    → CheckSource source t n d k r toks tree found held → CheckCompares source r

-- it does not depend on any room: two calls that are done count the same
abbrev pub RoomsAside : Type 0
RoomsAside =
    (source : List ℕ) (t n d k t' n' d' k' : ℕ) (r q : CheckAnswer) (a b x y a' b' x' y' : List ℕ)
    → CheckSource source t n d k r a b x y → CheckSource source t' n' d' k' q a' b' x' y'
    → r.verdict.number ≡ 0 → q.verdict.number ≡ 0 → r.comparisons ≡ q.comparisons

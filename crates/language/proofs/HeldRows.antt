-- The rows of statements stand at tokens, and each has a good expression.
use Prim.Native.Nat.{ℕ, suc}
use mathlib.Core.Path.{refl}
use mathlib.Core.List.Memᴰ
use mathlib.Core.List.{List, [], ◌∷◌}
use Rattle.language.specs.Tokens.{Content}
use Rattle.language.specs.Terms.{Term, atom, called, divided, Terms, no_more, more, term_at}
use Rattle.language.specs.Judgements.{Held}
use Rattle.language.specs.Findings.{Row, parts, arg_parts, rows_of}
use Rattle.language.proofs.Each.{Each, of_none, each_cons, of_both}
use Rattle.language.proofs.FindingTokens.{Good, GoodAll, good_at, There, Kept}

module _ (ts : List Content) where
  pub record GoodRow (r : Row) : Type 0 where
    pub there : There ts r.at
    pub slots : ℕ
    pub good : Good ts (There ts) slots r.term

  part_row : (m k s : ℕ) (v : Term) → Good ts (There ts) m v → GoodRow (record { at = term_at v; kind = k; slot = s; term = v })
  part_row m k s v h = record { there = good_at ts (There ts) m v h; slots = m; good = h }

  mutual
    unfolding parts arg_parts

    parts_good : (m : ℕ) (v : Term) → Good ts (There ts) m v → Each GoodRow (parts v)
    parts_good m (atom p a) h = of_none
    parts_good m (called p c f vs) h =
        each_cons (part_row m 6 0 c h.1) (of_both (parts_good m c h.1) (args_good m 0 vs h.3))
    parts_good m (divided p a b) h =
        each_cons (part_row m 8 0 a h.1) (of_both (parts_good m a h.1) (each_cons (part_row m 9 0 b h.2) (parts_good m b h.2)))

    args_good : (m i : ℕ) (vs : Terms) → GoodAll ts (There ts) m vs → Each GoodRow (arg_parts i vs)
    args_good m i no_more h = of_none
    args_good m i (more v vs) h = each_cons (part_row m 7 i v h.0) (of_both (parts_good m v h.0) (args_good m (suc i) vs h.1))

  pub rows_good : (hs : List Held) → Each (Kept ts) hs → Each GoodRow (rows_of hs)
  unfolding rows_of
  rows_good [] h = of_none
  rows_good (g ∷ hs) h =
      let k = h.holds g (Memᴰ.head refl) in
      of_both (each_cons (record { there = k.there; slots = k.slots; good = k.right }) (parts_good k.slots g.term k.right))
      (rows_good hs (record { holds = λ x m. h.holds x (Memᴰ.tail m) }))

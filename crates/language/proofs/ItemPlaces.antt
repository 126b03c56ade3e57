-- Every lexeme stands at the place of its first byte, whether it is a token or not.
use Prim.Native.Nat.{ℕ, ◌+◌, ◌≤◌, ◌<◌}
use mathlib.Core.Path.{◌≡◌, sym, ap}
use mathlib.Core.List.{List}
use native.Mathlib.Omega.{arith}
use lib.ListN.{length, length-append}
use Rattle.language.specs.Tokens.{Item, Place, place_of, ItemsPlaced}
use Rattle.language.proofs.Each.{Each, of_none, of_one, of_both}
use Rattle.language.proofs.TokenPlaces.{Walk, walk_end, walk_newline, walk_item, source_walk}

module _ (source : List ℕ) where
  abbrev Right : Item → Type 0
  Right i =
      (i.line ≡ (place_of source i.start).line) × (i.column ≡ (place_of source i.start).column) × (i.start < i.end)
      × (i.end ≤ length source)

  each_placed : {at : ℕ} {s : List ℕ} {is : List Item} → Walk source at s is → at + length s ≡ length source → Each Right is
  each_placed walk_end e = of_none
  each_placed (walk_newline w) e = each_placed w (omega arith)
  each_placed (walk_item {s} n c k x r h g w) e =
      let l = length-append x s in
      of_both
      (of_one (ap (λ (p : Place). p.line) (sym r), ap (λ (p : Place). p.column) (sym r), omega arith, omega arith))
      (each_placed w (omega arith))

pub items_placed : ItemsPlaced
items_placed s = (each_placed s (source_walk s) (omega arith)).holds

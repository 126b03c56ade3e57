-- The contents of tokens decide all but places.
use mathlib.Core.Path.{◌≡◌, refl, sym, ap, ◌∙◌}
use mathlib.Core.List.{List, [], ◌∷◌, map}
use Prim.Native.Nat.{suc}
use lib.ListN.{length}
use Rattle.language.specs.Tokens.{Content, Token, contents}
use Rattle.language.specs.Tables.{unplaced, ContentsDecide}

-- what is read off the contents is read off the list of them
of_contents : {A : Type 0} (f : Content → A) (ts : List Token) → map (λ t. f t.content) ts ≡ map f (contents ts)
of_contents f [] = refl
of_contents f (t ∷ ts) = ap (λ (xs : List _). f t.content ∷ xs) (of_contents f ts)

pub as_many : (ts : List Token) → length ts ≡ length (contents ts)
as_many [] = refl
as_many (t ∷ ts) = ap suc (as_many ts)

pub contents_decide : ContentsDecide
contents_decide ts us e =
    (as_many ts ∙ ap length e ∙ sym (as_many us), of_contents unplaced ts ∙ ap (map unplaced) e ∙ sym (of_contents unplaced us))

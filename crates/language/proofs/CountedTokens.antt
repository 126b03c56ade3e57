-- The count of lists and steps, token by token.
use Prim.Native.Nat.{ℕ, suc, ◌+◌, ◌≤◌, ◌<◌}
use mathlib.Core.Path.{◌≡◌, refl, sym, ap, ◌∙◌}
use mathlib.Core.Bool.{true, false, or-true}
use mathlib.Core.List.{List, [], ◌∷◌}
use mathlib.Core.Option.{Option, none, some}
use native.Mathlib.Omega.{arith}
use native.Mathlib.Numerals.{add-one}
use native.Mathlib.Decide.{dec_lt}
use borrow.Author.Tests.{eqb-true, le-leb, lt-leb}
use lib.Dec.{eqb, leb}
use lib.ListN.{length, get_or, drop, drop_of_length-le}
use lib.Seq.{drop-cons}
use Rattle.language.specs.Lexemes.{l_paren, r_paren, dot, semi_colon, comma, slash}
use Rattle.language.specs.Tokens.{Content, eof, plain}
use Rattle.language.specs.Tables.{content_kind}
use Rattle.language.specs.Sentences.{most_steps, most_lists, is}
use Rattle.language.specs.Counted.{Effect, over, one_more, counts, turn, too_many_from, too_many}
use Rattle.language.proofs.Tests.{never}
use Rattle.language.proofs.SentenceOutcomes.{before_end}

-- the kind of a token is all that counts
by_kind : (c d : Content) (m : ℕ) (o : List ℕ) → content_kind c ≡ content_kind d → turn c m o ≡ turn d m o
unfolding turn
by_kind c d m o e = rw e

-- what comes of a turn
module _ (i : ℕ) (r : List Content) where
  abbrev told : Effect → Option ℕ
  told over = none
  told one_more = some i
  told (counts n p) = too_many_from (suc i) n p r

  told_by : (t : Effect) → elim t [ over ↦ none | one_more ↦ some i | counts n p ↦ too_many_from (suc i) n p r ] ≡ told t
  told_by over = refl
  told_by one_more = refl
  told_by (counts n p) = refl

  one : (c : Content) (m : ℕ) (o : List ℕ) → too_many_from i m o (c ∷ r) ≡ told (turn c m o)
  unfolding too_many_from
  one c m o = told_by (turn c m o)

  -- a token that is named is not before the first that is counted
  told_after : (t : Effect) (u : ℕ) → ((n : ℕ) (p : List ℕ) → too_many_from (suc i) n p r ≡ some u → suc i ≤ u) → told t ≡ some u
      → i ≤ u
  told_after over u l e = never (cc)
  told_after one_more u l e = let f : i ≡ u = cc in omega arith
  told_after (counts n p) u l e = omega (arith, l n p e)

named_after : (i m : ℕ) (o : List ℕ) (r : List Content) (u : ℕ) → too_many_from i m o r ≡ some u → i ≤ u
unfolding too_many_from
named_after i m o [] u e = never (cc)
named_after i m o (c ∷ r) u e =
    told_after i r (turn c m o) u (λ n p. named_after (suc i) n p r u) (sym (one i r c m o) ∙ e)

-- a token that changes nothing
abbrev pub Passes : Content → Type 0
Passes d = (m : ℕ) (o : List ℕ) → turn d m o ≡ counts m o

module _ (ts : List Content) where
  -- the count comes to the token i, with so many steps made there and around it
  pub record At (i m : ℕ) (o : List ℕ) : Type 0 where
    pub whole : too_many ts ≡ too_many_from i m o (drop i ts)

  pub start : At 0 0 []
  start = record { whole = refl }

  pub there : {i j m : ℕ} {o : List ℕ} → i ≡ j → At i m o → At j m o
  there e h = rw (← e) h

  -- a token of the kind of d
  module _ (d : Content) {i m : ℕ} {o : List ℕ} (e : is ts i d ≡ true) (h : At i m o) where
    here : i < length ts → too_many ts ≡ told i (drop (suc i) ts) (turn d m o)
    here l =
        h.whole ∙ rw (drop-cons ts i eof l) (one i (drop (suc i) ts) (get_or ts i eof) m o)
        ∙ ap (told i (drop (suc i) ts)) (by_kind (get_or ts i eof) d m o (eqb-true (content_kind (get_or ts i eof)) (content_kind d) e))

    next : (n : ℕ) (p : List ℕ) → eqb 1 (content_kind d) ≡ false → turn d m o ≡ counts n p → At (i + 1) n p
    next n p k f = rw add-one (record { whole = here (before_end ts d k e) ∙ ap (told i (drop (suc i) ts)) f })

    stop : eqb 1 (content_kind d) ≡ false → turn d m o ≡ one_more → too_many ts ≡ some i
    stop k f = here (before_end ts d k e) ∙ ap (told i (drop (suc i) ts)) f

    pub passed : eqb 1 (content_kind d) ≡ false → Passes d → At (i + 1) m o
    passed k f = next m o k (f m o)

  module _ {i m : ℕ} {o : List ℕ} where
    pub opened : is ts i (plain l_paren) ≡ true → m < most_steps → length o < most_lists → At i m o → At (i + 1) 0 (suc m ∷ o)
    unfolding turn
    opened e l k h = next (plain l_paren) e h 0 (suc m ∷ o) refl (rw (lt-leb most_steps m l, lt-leb most_lists (length o) k))

    pub closed : {n : ℕ} → is ts i (plain r_paren) ≡ true → At i m (n ∷ o) → At (i + 1) n o
    unfolding turn
    closed {n} e h = next (plain r_paren) e h n o refl refl

    pub dotted : is ts i (plain dot) ≡ true → m < most_steps → At i m o → At (i + 1) (suc m) o
    unfolding turn
    dotted e l h = next (plain dot) e h (suc m) o refl (rw (lt-leb most_steps m l))

    pub slashed : is ts i (plain slash) ≡ true → m < most_steps → At i m o → At (i + 1) (suc m) o
    unfolding turn
    slashed e l h = next (plain slash) e h (suc m) o refl (rw (lt-leb most_steps m l))

    pub after_comma : is ts i (plain comma) ≡ true → At i m o → At (i + 1) 0 o
    unfolding turn
    after_comma e h = next (plain comma) e h 0 o refl refl

    pub after_semi_colon : is ts i (plain semi_colon) ≡ true → At i m o → At (i + 1) 0 o
    unfolding turn
    after_semi_colon e h = next (plain semi_colon) e h 0 o refl refl

    -- the 33rd list, and the 65th step
    pub list_named : is ts i (plain l_paren) ≡ true → most_lists ≤ length o → At i m o → too_many ts ≡ some i
    unfolding turn
    list_named e l h = stop (plain l_paren) e h refl (rw (le-leb most_lists (length o) l, or-true (leb most_steps m)))

    pub l_paren_named : is ts i (plain l_paren) ≡ true → most_steps ≤ m → At i m o → too_many ts ≡ some i
    unfolding turn
    l_paren_named e l h = stop (plain l_paren) e h refl (rw (le-leb most_steps m l))

    pub dot_named : is ts i (plain dot) ≡ true → most_steps ≤ m → At i m o → too_many ts ≡ some i
    unfolding turn
    dot_named e l h = stop (plain dot) e h refl (rw (le-leb most_steps m l))

    pub slash_named : is ts i (plain slash) ≡ true → most_steps ≤ m → At i m o → too_many ts ≡ some i
    unfolding turn
    slash_named e l h = stop (plain slash) e h refl (rw (le-leb most_steps m l))

    -- at `Eof`, and past the end, no token is named
    pub none_named : is ts i eof ≡ true → At i m o → too_many ts ≡ none
    unfolding turn too_many_from
    none_named e h =
        elim (dec_lt i (length ts)) [ yes l ↦ here eof e h l | no l ↦ h.whole ∙ rw (drop_of_length-le ts {i = i} (omega arith)) ]

    -- a token that is named is not before the one that the count has come to
    pub not_before : {u : ℕ} → too_many ts ≡ some u → At i m o → i ≤ u
    not_before {u} e h = named_after i m o (drop i ts) u (sym h.whole ∙ e)

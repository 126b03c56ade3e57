-- The proofs of the claims of specs/Canonical.antt.
use Prim.Native.Nat.{ℕ}
use mathlib.Core.Path.{◌≡◌, refl, sym, ap, subst, ◌∙◌}
use mathlib.Core.List.{List, []}
use mathlib.Core.Option.{none}
use Rattle.language.specs.Utf8.{first_bad}
use Rattle.language.specs.Tokens.{eof_token, items, tokens, contents}
use Rattle.language.specs.Canonical.{canonical, text, Lexes, RoundTrip, OwnText, SameText}
use Rattle.language.proofs.Utf8.{good_is_encoded}
use Rattle.language.proofs.CanonicalGood.{Part}
use Rattle.language.proofs.CanonicalLines.{pieces, by_walk}
use Rattle.language.proofs.CanonicalJoin.{Reads, no_error, joins, alone, tokens_join, joins_text}
use Rattle.language.proofs.Each.{All}
use Rattle.language.proofs.CanonicalSound.{Fine}
use Rattle.language.proofs.CanonicalText.{walk_fine, Parts, parts_of, text_reads, text_encoded}

-- the contents of a source that reads as parts
contents_join : (s : List ℕ) (ps : List Part) → Reads (pieces (items s)) ps → contents (tokens s) ≡ joins ps
unfolding tokens
contents_join s ps r = tokens_join (items s) ps (eof_token s) r refl none

module _ (s : List ℕ) (h : Lexes s) where
  -- its good parts
  parts : Parts (pieces (items s))
  parts = parts_of (items s) (subst (All Fine) (sym (by_walk s)) (walk_fine s 0 [] (good_is_encoded.0 s h.whole))) h.good

  -- the text is that of the parts, each alone
  by_parts : text s ≡ canonical (alone parts.parts)
  by_parts = ap canonical (contents_join s parts.parts parts.reads) ∙ joins_text parts.parts

  -- so it is read as the same parts
  again : Reads (pieces (items (text s))) parts.parts
  again = rw (by_walk (text s), by_parts) (text_reads parts.parts parts.good)

  -- with the same contents
  same_contents : contents (tokens (text s)) ≡ contents (tokens s)
  same_contents = contents_join (text s) parts.parts again ∙ sym (contents_join s parts.parts parts.reads)

  -- and it is encoded
  text_whole : first_bad (text s) ≡ none
  text_whole = rw by_parts (good_is_encoded.1 _ (text_encoded parts.parts parts.good))

pub round_trip : RoundTrip
round_trip s f =
    let h = f.lexes in
    (record { short = f.short; whole = text_whole s h; good = no_error (items (text s)) (parts s h).parts (again s h) }, same_contents s h)

pub own_text : OwnText
own_text s f = ap canonical (round_trip s f).1

pub same_text : SameText
same_text s t f g = (λ e. sym (round_trip s f).1 ∙ ap (λ (x : List ℕ). contents (tokens x)) e ∙ (round_trip t g).1, λ e. ap canonical e)

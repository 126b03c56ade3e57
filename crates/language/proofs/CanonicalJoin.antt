-- From parts to tokens: joining literals goes by contents alone, and changes no canonical text.
use Prim.Native.Nat.{ℕ}
use mathlib.Core.Path.{◌≡◌, refl, ap, ap₂, ◌∙◌}
use mathlib.Core.List.{List, [], ◌∷◌, ◌++◌, append_assoc}
use mathlib.Core.Option.{Option, none, some}
use Rattle.language.specs.Choice.{if'}
use Rattle.language.specs.Tokens.{Content, eof, plain, name, string, Token, Piece, gap, Item, Pending, flushed, joined, item_token, stepped, tokens_from, contents, first_wrong}
use Rattle.language.specs.Canonical.{quoted, spell_bodies, spell, ends_line, between', canonical}
use Rattle.language.proofs.CanonicalGood.{Part, literal, named, other, piece_for, content_for}
use Rattle.language.proofs.CanonicalLines.{pieces}

-- pieces are parts with gaps between them, and no error
pub data Reads : List Piece → List Part → Type 0 where
  nothing : Reads [] []
  past : {q : Piece} {qs : List Piece} {ps : List Part} → q ≡ gap → Reads qs ps → Reads (q ∷ qs) ps
  next : {q : Piece} {qs : List Piece} {ps : List Part} (p : Part) → q ≡ piece_for p → Reads qs ps → Reads (q ∷ qs) (p ∷ ps)

-- so no first error is found
pub no_error : (is : List Item) (ps : List Part) → Reads (pieces is) ps → first_wrong is ≡ none
unfolding first_wrong
no_error [] ps nothing = refl
no_error (i ∷ is) ps (past e r) = rw e (no_error is ps r)
no_error (i ∷ is) (x ∷ ps) (next (literal b) e r) = rw e (no_error is ps r)
no_error (i ∷ is) (x ∷ ps) (next (named b) e r) = rw e (no_error is ps r)
no_error (i ∷ is) (x ∷ ps) (next (other t) e r) = rw e (no_error is ps r)

-- ---- contents

-- literals before contents
abbrev join : List ℕ → List (List ℕ) → List Content → List Content
join b bs [] = string b bs ∷ []
join b bs (eof ∷ cs) = string b bs ∷ eof ∷ cs
join b bs (plain t ∷ cs) = string b bs ∷ plain t ∷ cs
join b bs (name w ∷ cs) = string b bs ∷ name w ∷ cs
join b bs (string d ds ∷ cs) = string b (bs ++ d ∷ ds) ∷ cs

-- the contents of parts, joined and each alone
abbrev pub joins : List Part → List Content
joins [] = eof ∷ []
joins (literal b ∷ ps) = join b [] (joins ps)
joins (named w ∷ ps) = name w ∷ joins ps
joins (other t ∷ ps) = plain t ∷ joins ps

abbrev pub alone : List Part → List Content
alone [] = eof ∷ []
alone (p ∷ ps) = content_for p ∷ alone ps

-- a literal after those that are pending
join_twice : (b : List ℕ) (bs : List (List ℕ)) (d : List ℕ) (cs : List Content) → join b (bs ++ d ∷ []) cs ≡ join b bs (join d [] cs)
join_twice b bs d [] = refl
join_twice b bs d (eof ∷ cs) = refl
join_twice b bs d (plain t ∷ cs) = refl
join_twice b bs d (name w ∷ cs) = refl
join_twice b bs d (string e es ∷ cs) = ap (λ (x : List (List ℕ)). string b x ∷ cs) (append_assoc bs (d ∷ []) (e ∷ es))

-- contents after the literals that are pending
abbrev held : Option Pending → List Content → List Content
held none cs = cs
held (some p) cs = join p.first p.others cs

-- one more is pending
held_more : (o : Option Pending) (i : Item) (b : List ℕ) (cs : List Content) → held (some (joined o i b)) cs ≡ held o (join b [] cs)
held_more none i b cs = refl
held_more (some p) i b cs = join_twice p.first p.others b cs

-- a token that is no literal, after the literals that are pending
held_token : (c : Content) → ((b : List ℕ) (bs : List (List ℕ)) (cs : List Content) → string b bs ∷ c ∷ cs ≡ join b bs (c ∷ cs))
    → (o : Option Pending) (i : Item) (ts : List Token) (e : Token) (cs : List Content) → contents (ts ++ e ∷ []) ≡ cs
    → contents (flushed o ++ item_token i c ∷ ts ++ e ∷ []) ≡ held o (c ∷ cs)
held_token c k none i ts e cs h = ap (λ (x : List Content). c ∷ x) h
held_token c k (some p) i ts e cs h = ap (λ (x : List Content). string p.first p.others ∷ c ∷ x) h ∙ k p.first p.others cs

-- the tokens of lexemes, with the last one
pub tokens_join : (is : List Item) (ps : List Part) (e : Token) → Reads (pieces is) ps → e.content ≡ eof → (o : Option Pending)
    → contents (tokens_from o is ++ e ∷ []) ≡ held o (joins ps)
unfolding tokens_from
tokens_join [] ps e nothing h none = rw h
tokens_join [] ps e nothing h (some p) = rw h
tokens_join (i ∷ is) ps e (past k r) h o = rw k (tokens_join is ps e r h o)
tokens_join (i ∷ is) (x ∷ ps) e (next p k r) h o =
    ap (λ (q : Piece). contents (stepped q i o (λ x. tokens_from x is) ++ e ∷ [])) k ∙ go p (λ q. tokens_join is ps e r h q)
  where
    go : (p : Part) → ((o : Option Pending) → contents (tokens_from o is ++ e ∷ []) ≡ held o (joins ps))
        → contents (stepped (piece_for p) i o (λ x. tokens_from x is) ++ e ∷ []) ≡ held o (joins (p ∷ ps))
    go (literal b) f = f (some (joined o i b)) ∙ held_more o i b (joins ps)
    go (named w) f = held_token (name w) (λ b bs cs. refl) o i (tokens_from none is) e (joins ps) (f none)
    go (other t) f = held_token (plain t) (λ b bs cs. refl) o i (tokens_from none is) e (joins ps) (f none)

-- ---- canonical text

-- the same text, and the same space before it
abbrev Same : List Content → List Content → Type 0
Same cs ds = (canonical cs ≡ canonical ds) × (between' cs ≡ between' ds)

-- a string's bodies are spelt as tokens are, with a space between
regroup : (q s a c : List ℕ) → q ++ 32 ∷ s ++ a ++ c ≡ q ++ 32 ∷ [] ++ (s ++ a ++ c)
regroup q s a c = simp append_assoc

same_join : (b : List ℕ) (cs : List Content) → Same (join b [] cs) (string b [] ∷ cs)
unfolding canonical spell
same_join b [] = (refl, refl)
same_join b (eof ∷ cs) = (refl, refl)
same_join b (plain t ∷ cs) = (refl, refl)
same_join b (name w ∷ cs) = (refl, refl)
same_join b (string d ds ∷ cs) = (regroup (quoted b) (spell_bodies d ds) (between' cs) (canonical cs), refl)

-- a content before texts that are the same
same_before : (c : Content) (cs ds : List Content) → Same cs ds → canonical (c ∷ cs) ≡ canonical (c ∷ ds)
unfolding canonical
same_before c cs ds h = ap₂ (λ (b t : List ℕ). spell c ++ if' (ends_line c) (10 ∷ []) b ++ t) h.1 h.0

same_joins : (ps : List Part) → Same (joins ps) (alone ps)
same_joins [] = (refl, refl)
same_joins (literal b ∷ ps) =
    let h = same_join b (joins ps) in
    (h.0 ∙ same_before (string b []) (joins ps) (alone ps) (same_joins ps), h.1)
same_joins (named w ∷ ps) = (same_before (name w) (joins ps) (alone ps) (same_joins ps), refl)
same_joins (other t ∷ ps) = (same_before (plain t) (joins ps) (alone ps) (same_joins ps), refl)

-- joining changes no text
pub joins_text : (ps : List Part) → canonical (joins ps) ≡ canonical (alone ps)
joins_text ps = (same_joins ps).0

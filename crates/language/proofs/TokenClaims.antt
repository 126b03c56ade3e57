-- The tokens of a source, by a walk over its lexemes with the literals that are pending.
use Prim.Native.Nat.{ℕ, ◌+◌, ◌-◌, ◌≤◌, ◌<◌}
use mathlib.Core.Path.{◌≡◌, refl, sym, ap}
use mathlib.Core.List.Memᴰ
use mathlib.Core.List.{List, [], ◌∷◌, ◌++◌, append_assoc, append-nil, Memᴰ}
use mathlib.Core.Option.{Option, none, some}
use mathlib.Core.Logic.{◌⊎◌, inl, inr}
use native.Mathlib.Omega.{arith}
use lib.ListN.{length, drop, length-append, length-drop}
use lib.Seq.{take-append_seam, take_at, drop_at, drop-drop}
use Rattle.language.specs.Lexemes.{Tok, l_paren, r_paren, dot, double_colon, colon, semi_colon, equals, comma, slash, import_keyword, let_keyword, identifier, boolean_literal, ipv4_literal, hex_literal, dec_literal, unexpected_char, Kind, trivia, str, tok, error, lexeme_of, lexeme}
use Rattle.language.specs.Tables.{content_kind}
use Rattle.language.specs.Tokens.{eof, plain, name, string, Token, content_of, unquoted, Item, items, Pending, joined, pending_token, flushed, item_token, tokens_from, tokens, eof_token, Place, place_of, between, PlacesRight, Ordered, ordered_none, ordered_one, TokensInOrder, NamesHeld, body_of, bodies_in, BodiesHeld}
use Rattle.language.specs.Canonical.{spell, AsSpelt}
use Rattle.language.proofs.LexemeTexts.{lexeme_spelt}
use Rattle.language.proofs.CutLexemes.{newline}
use Rattle.language.proofs.TokenBodies.{Held, held_none, held_more, bodies_of_lem}
use Rattle.language.proofs.TokenPlaces.{place, item_at, Walk, walk_end, walk_newline, walk_item, source_walk}

-- a lexeme's token is a name with its bytes, or plain
content_cases : (t : Tok) (x : List ℕ) → (content_of t x ≡ name x) ⊎ (content_of t x ≡ plain t)
content_cases identifier x = inl refl
content_cases l_paren x = inr refl
content_cases r_paren x = inr refl
content_cases dot x = inr refl
content_cases double_colon x = inr refl
content_cases colon x = inr refl
content_cases semi_colon x = inr refl
content_cases equals x = inr refl
content_cases comma x = inr refl
content_cases slash x = inr refl
content_cases import_keyword x = inr refl
content_cases let_keyword x = inr refl
content_cases (boolean_literal b) x = inr refl
content_cases (ipv4_literal n) x = inr refl
content_cases (hex_literal n) x = inr refl
content_cases (dec_literal n) x = inr refl

-- it is plain only where its kind is not a name's, and its kind is not that of `Eof`
kind_cases : (t : Tok) (x : List ℕ) → (content_kind (content_of t x) ≡ 13 → content_of t x ≡ name x) × (1 < content_kind (content_of t x))
kind_cases identifier x = (λ k. refl, omega arith)
kind_cases l_paren x = (λ k. absurd (omega arith), omega arith)
kind_cases r_paren x = (λ k. absurd (omega arith), omega arith)
kind_cases dot x = (λ k. absurd (omega arith), omega arith)
kind_cases double_colon x = (λ k. absurd (omega arith), omega arith)
kind_cases colon x = (λ k. absurd (omega arith), omega arith)
kind_cases semi_colon x = (λ k. absurd (omega arith), omega arith)
kind_cases equals x = (λ k. absurd (omega arith), omega arith)
kind_cases comma x = (λ k. absurd (omega arith), omega arith)
kind_cases slash x = (λ k. absurd (omega arith), omega arith)
kind_cases import_keyword x = (λ k. absurd (omega arith), omega arith)
kind_cases let_keyword x = (λ k. absurd (omega arith), omega arith)
kind_cases (boolean_literal b) x = (λ k. absurd (omega arith), omega arith)
kind_cases (ipv4_literal n) x = (λ k. absurd (omega arith), omega arith)
kind_cases (hex_literal n) x = (λ k. absurd (omega arith), omega arith)
kind_cases (dec_literal n) x = (λ k. absurd (omega arith), omega arith)

module _ (source : List ℕ) where
  -- from `at` on the source has s
  record Reads (at : ℕ) (s : List ℕ) : Type 0 where
    rest : drop at source ≡ s
    in_room : at ≤ length source

  -- what is claimed of a token
  record Good (t : Token) : Type 0 where
    right : place_of source t.start ≡ place t.line t.column
    some_byte : t.start < t.end
    in_room : t.end ≤ length source
    going : 1 < content_kind t.content
    kinded : content_kind t.content ≡ 13 → (bs : List ℕ) × (t.content ≡ name bs)
    named : (bs : List ℕ) → t.content ≡ name bs → between source t.start t.end ≡ bs
    bodied : (b : List ℕ) (bs : List (List ℕ)) → t.content ≡ string b bs → bodies_in (between source t.start t.end) ≡ b ∷ bs
    spelt : ((n : ℕ) → t.content ≡ plain (hex_literal n) → ⊥) → ((b : List ℕ) (bs : List (List ℕ)) → t.content ≡ string b bs → ⊥)
        → spell t.content ≡ between source t.start t.end

  -- tokens from `at` on, in order
  data Told : ℕ → List Token → Type 0 where
    told_none : {at : ℕ} → at ≤ length source → Told at []
    told_one : {at : ℕ} {ts : List Token} (t : Token) → at ≤ t.start → Good t → Told t.end ts → Told at (t ∷ ts)

  -- the token of literals that are pending `at` in the source, before s; the tokens before it end at `from`
  record Waiting (from at : ℕ) (s : List ℕ) (p : Pending) : Type 0 where
    good : Good (pending_token p)
    behind : from ≤ p.start
    before : p.end ≤ at
    text : List ℕ
    reads : Reads p.start (text ++ s)
    upto : p.start + length text ≡ at
    held : Held text s (p.first ∷ p.others)

  -- there may be none pending
  data Waits (from at : ℕ) (s : List ℕ) : Option Pending → Type 0 where
    idle : from ≤ at → Waits from at s none
    busy : {p : Pending} → Waiting from at s p → Waits from at s (some p)

  -- the literals that are pending, before other tokens
  flush : {from at : ℕ} {s : List ℕ} {ts : List Token} {p : Option Pending} → Waits from at s p → ((f : ℕ) → f ≤ at → Told f ts)
      → Told from (flushed p ++ ts)
  flush {from} (idle l) more = more from l
  flush (busy {p} w) more = told_one (pending_token p) w.behind w.good (more p.end w.before)

  -- bytes x, `at` in the source, before s
  module _ (at : ℕ) (x s : List ℕ) (h : 0 < length x) (q : Reads at (x ++ s)) where
    -- what follows them
    reads_on : Reads (at + length x) s
    reads_on =
        let l = simp (length-drop, length-append) at (ap length q.rest) in
        record { rest = rw (← drop-drop, q.rest) (drop_at x s (length x) refl); in_room = omega arith }

    -- their span
    span : between source at (at + length x) ≡ x
    span = rw q.rest (take_at x s (at + length x - at) (omega arith))

    -- they are literals to the end of the last, from the first on
    ended : (from n c : ℕ) (first : List ℕ) (others : List (List ℕ)) → place_of source at ≡ place n c → from ≤ at
        → Held x s (first ∷ others)
        → Waiting from (at + length x) s (record { first = first; others = others; line = n; column = c; start = at; end = at + length x })
    ended from n c first others r l w =
        record {
          good =
              record {
                right = r;
                some_byte = omega arith;
                in_room = reads_on.in_room;
                going = omega arith;
                kinded = λ k. absurd (omega arith);
                named = λ bs e. cc;
                bodied = λ b bs e. rw span (cc (bodies_of_lem w));
                spelt = λ _ other. absurd (other first others refl);
              };
          behind = l;
          before = omega arith;
          text = x;
          reads = q;
          upto = refl;
          held = w;
        }

  -- they are a lexeme of kind k
  module _ (at : ℕ) (k : Kind) (x s : List ℕ) (h : 0 < length x) (rule : lexeme (x ++ s) ≡ lexeme_of k (length x))
      (q : Reads at (x ++ s)) where
    -- it has no body
    silent : {from : ℕ} {p : Option Pending} → body_of k x ≡ [] → Waits from at (x ++ s) p → Waits from (at + length x) s p
    silent e (idle l) = idle (omega arith)
    silent e (busy {p} w) =
        busy (record {
          good = w.good;
          behind = w.behind;
          before = omega (arith, w.before);
          text = w.text ++ x;
          reads = rw append_assoc w.reads;
          upto = rw length-append (omega (arith, w.upto));
          held = rw (e, append-nil p.others) at (held_more k x h rule w.held);
        })

    -- it is a literal
    literal : {from : ℕ} {p : Option Pending} (n c : ℕ) → body_of k x ≡ unquoted x ∷ [] → place_of source at ≡ place n c
        → Waits from at (x ++ s) p
        → Waits from (at + length x) s (some (joined p (item_at n c at str x) (unquoted x)))
    literal {from} n c e r (idle l) = busy (ended at x s h q from n c (unquoted x) [] r l (rw e at (held_more k x h rule held_none)))
    literal {from} n c e r (busy {p} w) =
        let text = w.text ++ x in
        let to : p.start + length text ≡ at + length x = rw length-append (omega (arith, w.upto)) in
        let q' : Reads p.start (text ++ s) = rw append_assoc w.reads in
        let held' = rw e at (held_more k x h rule w.held) in
        rw to at (busy (ended p.start text s (rw length-append (omega arith)) q' from p.line p.column p.first
        (p.others ++ unquoted x ∷ []) w.good.right w.behind held'))

    -- it is a token, spelt with its bytes but for hexadecimals
    spelt_item : (t : Tok) → k ≡ tok t → ((n : ℕ) → t ≡ hex_literal n → ⊥) → spell (content_of t x) ≡ x
    spelt_item t e = rw (rule, e, take-append_seam x s) at (lexeme_spelt (x ++ s))

    good_item : (n c : ℕ) (t : Tok) → k ≡ tok t → place_of source at ≡ place n c
        → Good (item_token (item_at n c at (tok t) x) (content_of t x))
    good_item n c t is r =
        record {
          right = r;
          some_byte = omega arith;
          in_room = (reads_on at x s h q).in_room;
          going = (kind_cases t x).1;
          kinded = λ k. (x, (kind_cases t x).0 k);
          named = λ bs e. elim (content_cases t x) [ inl f ↦ rw (span at x s h q) (cc) | inr f ↦ cc ];
          bodied = λ b bs e. elim (content_cases t x) [ inl f ↦ cc | inr f ↦ cc ];
          spelt = λ other _. rw (span at x s h q) (spelt_item t is (λ i e. other i (ap (λ (u : Tok). content_of u x) e)));
        }

  -- the tokens of a walk
  told : {at : ℕ} {s : List ℕ} {is : List Item} → Walk source at s is → (from : ℕ) (p : Option Pending) → Reads at s → Waits from at s p
      → Told from (tokens_from p is)
  unfolding tokens_from
  told walk_end from p q w = rw (← append-nil (flushed p)) (flush w (λ f h. told_none (omega (arith, q.in_room))))
  told {at} (walk_newline {s} v) from p q w =
      let x : List ℕ = 10 ∷ [] in
      told v from p (reads_on at x s (omega arith) q) (silent at (error (unexpected_char 10)) x s (omega arith) (newline s) q refl w)
  told {at} (walk_item {s} n c trivia x r h g v) from p q w = told v from p (reads_on at x s h q) (silent at trivia x s h g q refl w)
  told {at} (walk_item {s} n c (error e) x r h g v) from p q w = told v from p (reads_on at x s h q) (silent at (error e) x s h g q refl w)
  told {at} (walk_item {s} n c str x r h g v) from p q w =
      told v from (some (joined p (item_at n c at str x) (unquoted x))) (reads_on at x s h q) (literal at str x s h g q n c refl r w)
  told {at} (walk_item {s} n c (tok t) x r h g v) from p q w =
      flush w (λ f l. told_one _ l (good_item at (tok t) x s h g q n c t refl r)
      (told v (at + length x) none (reads_on at x s h q) (idle (omega arith))))

  -- all tokens
  all_told : Told 0 (tokens_from none (items source))
  all_told = told (source_walk source) 0 none (record { rest = refl; in_room = omega arith }) (idle (omega arith))

  -- each is good
  each_good : {at : ℕ} {ts : List Token} {t : Token} → Told at ts → Memᴰ t ts → Good t
  each_good (told_none l) m = absurd (Memᴰ.not-nil m)
  each_good (told_one u l g w) m = elim (Memᴰ.cases_cons m) [ inl e ↦ rw e g | inr n ↦ each_good w n ]

  -- with the end after them they are in order
  in_order : {at : ℕ} {ts : List Token} → Told at ts → Ordered at (ts ++ eof_token source ∷ [])
  in_order (told_none l) = ordered_one (eof_token source) l (omega arith) ordered_none
  in_order (told_one t l g w) = ordered_one t l (omega (arith, g.some_byte)) (in_order w)

pub places_right : PlacesRight
places_right s t m =
    let g = each_good s (all_told s) m in
    (ap (λ (p : Place). p.line) (sym g.right), ap (λ (p : Place). p.column) (sym g.right), g.some_byte, g.in_room)

pub tokens_in_order : TokensInOrder
unfolding tokens
tokens_in_order s = in_order s (all_told s)

-- none before the last is `Eof`, nor of its kind
pub not_end_kind : (s : List ℕ) (t : Token) → Memᴰ t (tokens_from none (items s)) → 1 < content_kind t.content
not_end_kind s t m = (each_good s (all_told s) m).going

pub not_end : (s : List ℕ) (t : Token) → Memᴰ t (tokens_from none (items s)) → t.content ≡ eof → ⊥
not_end s t m e = omega (arith, not_end_kind s t m, ap content_kind e)

-- a token is good, or it is the end
good_or_last : (s : List ℕ) (t : Token) → Memᴰ t (tokens s) → Good s t ⊎ (t ≡ eof_token s)
unfolding tokens
good_or_last s t m =
    elim (Memᴰ.append_cases (tokens_from none (items s)) m) [
      | inl n ↦ inl (each_good s (all_told s) n)
      | inr n ↦ inr (Memᴰ.eq_of_singleton n)
    ]

good_or_end : (s : List ℕ) (t : Token) → Memᴰ t (tokens s) → Good s t ⊎ (t.content ≡ eof)
good_or_end s t m = elim (good_or_last s t m) [ inl g ↦ inl g | inr e ↦ inr (ap (λ (u : Token). u.content) e) ]

pub names_held : NamesHeld
names_held s t bs m e = elim (good_or_end s t m) [ inl g ↦ g.named bs e | inr f ↦ cc ]

pub bodies_held : BodiesHeld
bodies_held s t b bs m e = elim (good_or_end s t m) [ inl g ↦ g.bodied b bs e | inr f ↦ cc ]

-- a token of a name's kind is a name: `plain identifier`, which the definitions could write, is the content of no token
pub name_kind : (s : List ℕ) (t : Token) → Memᴰ t (tokens s) → content_kind t.content ≡ 13
    → (bs : List ℕ) × (t.content ≡ name bs)
name_kind s t m k = elim (good_or_end s t m) [ inl g ↦ g.kinded k | inr f ↦ absurd (omega (arith, rw f at k)) ]

-- a token that is not the end has a byte, and its span lies in the source
pub span_held : (s : List ℕ) (t : Token) → Memᴰ t (tokens s) → (t.content ≡ eof → ⊥) → (t.start < t.end) × (t.end ≤ length s)
span_held s t m n = elim (good_or_end s t m) [ inl g ↦ (g.some_byte, g.in_room) | inr f ↦ absurd (n f) ]

-- the end is spelt with no bytes
spelt_last : (s : List ℕ) → spell eof ≡ between s (length s) (length s)
unfolding spell
spelt_last s = let n : length s - length s ≡ 0 = omega arith in rw n

pub as_spelt : AsSpelt
as_spelt s t m f g = elim (good_or_last s t m) [ inl h ↦ h.spelt f g | inr e ↦ rw e (spelt_last s) ]

-- Two tables that hold all tokens of their sources have the same rows, places aside, where the contents are the same; and
-- where they have the same rows, the sources have the same text.
use Prim.Native.Nat.{ℕ, suc, ◌+◌, ◌-◌, ◌*◌, ◌≤◌, ◌<◌}
use mathlib.Core.Path.{◌≡◌, refl, sym, ap, ◌∙◌}
use mathlib.Core.Bool.{Bool, true, false}
use mathlib.Core.List.Memᴰ
use mathlib.Core.List.{List, [], ◌∷◌, Memᴰ}
use mathlib.Core.Logic.{inl, inr}
use mathlib.Core.Option.{none}
use native.Mathlib.Decide.{dec_le}
use native.Mathlib.Omega.{arith}
use borrow.Author.Tests.{eqb-true}
use lib.Dec.{eqb}
use lib.ListN.{length, get_or, length-map}
use Rattle.language.specs.Tables.{token_width, content_kind, content_low, content_high}
use Rattle.language.specs.Tokens.{Content, eof, string, Token, items, tokens_from, eof_token, tokens, contents, between, bodies_in}
use Rattle.language.specs.Canonical.{spell, after, canonical, text}
use Rattle.language.proofs.TokenClaims.{places_right, names_held, bodies_held, name_kind}
use Rattle.language.proofs.TokenContents.{contents_decide}
use Rattle.language.specs.Numbers.{token_of}
use Rattle.language.proofs.TokensAt.{content_of_lem, long_tokens, last_token}
use Rattle.lex.specs.Lexing.{nth, body_at}
use Rattle.lex.proofs.Bodies.{some_part}
use Rattle.lex.specs.Entry.{Lexes}
use Rattle.canon.specs.Spelling.{kind_text, row_text}
use Rattle.joined.specs.Canonical.{SameRow, SameRows}
use Rattle.canon.proofs.Contents.{gap_is, string_kind}
use Rattle.canon.proofs.Rows.{before, counted, RowIs, row_past, row_is, row_text_lem}

-- ---- bodies

-- a span lies in the source
in_source : (s : List ℕ) (t : Token) → Memᴰ t (tokens s) → (t.start ≤ t.end) × (t.end ≤ length s)
unfolding tokens
in_source s t m =
    elim (Memᴰ.append_cases (tokens_from none (items s)) m) [
      | inl n ↦ let p = places_right s t n in (omega (arith, p.2), p.3)
      | inr n ↦ rw (Memᴰ.eq_of_singleton n) (omega arith, omega arith)
    ]

-- the bodies of a string, one by one
each_body : (s : List ℕ) (t : Token) (b : List ℕ) (bs : List (List ℕ)) → Memᴰ t (tokens s) → t.content ≡ string b bs
    → (i : ℕ) → body_at s t.start t.end i ≡ nth i (b ∷ bs)
each_body s t b bs m e i =
    let p = in_source s t m in
    sym (some_part s t.start t.end i p.1 p.0) ∙ ap (nth i) (bodies_held s t b bs m e)

-- lists of bodies are the same where each body is
nth_same : (xs ys : List (List ℕ)) → length xs ≡ length ys → ((i : ℕ) → nth i xs ≡ nth i ys) → xs ≡ ys
nth_same [] [] l f = refl
nth_same [] (y ∷ ys) l f = absurd (omega arith)
nth_same (x ∷ xs) [] l f = absurd (omega arith)
nth_same (x ∷ xs) (y ∷ ys) l f = rw (f 0, nth_same xs ys (omega arith) (λ i. f (suc i)))

-- ---- rows

-- only names and strings are spelt by their span
kind_text_lem : (k low high : ℕ) {p q : List ℕ} → (k ≡ 13 → p ≡ q) → (k ≡ 16 → bodies_in p ≡ bodies_in q)
    → kind_text k low high p ≡ kind_text k low high q
unfolding kind_text
kind_text_lem k low high {p} {q} f g = go (eqb k 13) (eqb k 16) refl refl
  where
    go : (a b : Bool) → eqb k 13 ≡ a → eqb k 16 ≡ b → kind_text k low high p ≡ kind_text k low high q
    go true b d e = rw (d, f (eqb-true k 13 d))
    go false true d e = rw (d, e, g (eqb-true k 16 e))
    go false false d e = rw (d, e)

-- the last is the end
at_end : (s : List ℕ) (i : ℕ) → length (before s) ≡ i → token_of s i ≡ eof_token s
at_end s i e =
    let z : i ≡ length (tokens s) - 1 = omega (arith, e, long_tokens s) in
    ap (token_of s) z ∙ last_token s

-- a row of each table, with the tokens x and y
module _ {s u a b : List ℕ} {row : ℕ} {x y : Token} (p : RowIs s a row x) (q : RowIs u b row y) where
  -- the same content, the same row
  module _ (e : x.content ≡ y.content) where
    same_name : content_kind x.content ≡ 13 → between s x.start x.end ≡ between u y.start y.end
    same_name k =
        let n = name_kind s x p.listed k in
        names_held s x n.0 p.listed n.1 ∙ sym (names_held u y n.0 q.listed (sym e ∙ n.1))

    same_bodies : content_kind x.content ≡ 16 → (j : ℕ) → body_at s x.start x.end j ≡ body_at u y.start y.end j
    same_bodies k j =
        let n = string_kind x.content k in
        each_body s x n.0 n.1 p.listed n.2 j ∙ sym (each_body u y n.0 n.1 q.listed (sym e ∙ n.2) j)

    same_row_lem : SameRow s u a b row
    same_row_lem =
        record {
          kind = p.kind ∙ ap content_kind e ∙ sym q.kind;
          low = p.low ∙ ap content_low e ∙ sym q.low;
          high = p.high ∙ ap content_high e ∙ sym q.high;
          name = λ k. rw (p.start, p.end, q.start, q.end) (same_name (sym p.kind ∙ k));
          bodies = λ k j. rw (p.start, p.end, q.start, q.end) (same_bodies (sym p.kind ∙ k) j);
        }

  -- the same row, the same spelling
  module _ (w : SameRow s u a b row) where
    kinds : content_kind x.content ≡ content_kind y.content
    kinds = sym p.kind ∙ w.kind ∙ q.kind

    bodies_same : content_kind x.content ≡ 16
        → bodies_in (between s x.start x.end) ≡ bodies_in (between u y.start y.end)
    bodies_same k =
        let n = string_kind x.content k in
        let o = string_kind y.content (sym kinds ∙ k) in
        let xs = n.0 ∷ n.1 in
        let ys = o.0 ∷ o.1 in
        let long : length xs ≡ length ys = ap content_low (sym n.2) ∙ sym p.low ∙ w.low ∙ q.low ∙ ap content_low o.2 in
        let each : (j : ℕ) → nth j xs ≡ nth j ys =
        λ j. sym (each_body s x n.0 n.1 p.listed n.2 j)
        ∙ rw (p.start, p.end, q.start, q.end) at (w.bodies (p.kind ∙ k) j)
        ∙ each_body u y o.0 o.1 q.listed o.2 j in
        bodies_held s x n.0 n.1 p.listed n.2 ∙ nth_same xs ys long each
        ∙ sym (bodies_held u y o.0 o.1 q.listed o.2)

    texts : row_text s a row ≡ row_text u b row
    texts =
        rw (w.kind, w.low, w.high)
        (kind_text_lem (get_or b row 0) (get_or b (row + 5) 0) (get_or b (row + 6) 0) (λ k. w.name (w.kind ∙ k))
        (λ k. rw (p.start, p.end, q.start, q.end) (bodies_same (sym p.kind ∙ w.kind ∙ k))))

-- ---- tables

-- contents of the same kind, spelt in the same way
record Alike (c d : Content) : Type 0 where
  spelt : spell c ≡ spell d
  kind : content_kind c ≡ content_kind d

abbrev EachAlike : List Content → List Content → Type 0
EachAlike cs ds = (length cs ≡ length ds) × ((i : ℕ) → i < length cs → Alike (get_or cs i eof) (get_or ds i eof))

-- what follows them
follow : {c d : Content} (cs ds : List Content) → Alike c d → EachAlike cs ds → after c cs ≡ after d ds
follow {c} {d} [] [] e (l, f) = rw e.kind
follow [] (y ∷ ys) e (l, f) = absurd (omega arith)
follow (x ∷ xs) [] e (l, f) = absurd (omega arith)
follow {c} {d} (x ∷ xs) (y ∷ ys) e (l, f) = sym (gap_is c x xs) ∙ rw (e.kind, (f 0 (omega arith)).kind) (gap_is d y ys)

-- lists of them have the same text
same_canonical : (cs ds : List Content) → EachAlike cs ds → canonical cs ≡ canonical ds
unfolding canonical
same_canonical [] [] (l, f) = refl
same_canonical [] (y ∷ ys) (l, f) = absurd (omega arith)
same_canonical (x ∷ xs) [] (l, f) = absurd (omega arith)
same_canonical (x ∷ xs) (y ∷ ys) (l, f) =
    let more : EachAlike xs ys = (omega arith, λ i m. f (suc i) (omega arith)) in
    let e = f 0 (omega arith) in
    rw (e.spelt, follow xs ys e more, same_canonical xs ys more)

module _ {s u a b : List ℕ} {c d : ℕ} (h : Lexes s a c) (g : Lexes u b d) where
  -- the same contents, the same rows
  pub same_rows : contents (tokens s) ≡ contents (tokens u) → SameRows s u a b
  same_rows e i =
      let n : c ≡ d = h.counted ∙ (contents_decide (tokens s) (tokens u) e).0 ∙ sym g.counted in
      elim (dec_le (suc i) c) [
        | yes m ↦
            let k : i < d = omega arith in
            let f : (token_of s i).content ≡ (token_of u i).content =
            sym (content_of_lem s i) ∙ ap (λ (cs : List Content). get_or cs i eof) e ∙ content_of_lem u i in
            same_row_lem (row_is s a c h i m refl) (row_is u b d g i k refl) f
        | no m ↦ past i (omega arith) (omega arith)
      ]
    where
      past : (i : ℕ) → c ≤ i → d ≤ i → SameRow s u a b (token_width * i)
      past i m k =
          let z : token_width * i + 0 ≡ token_width * i = omega arith in
          let none : get_or a (token_width * i) 0 ≡ 0 = rw z at (row_past s a c h i 0 m) in
          record {
            kind = none ∙ sym (rw z at (row_past u b d g i 0 k));
            low = row_past s a c h i 5 m ∙ sym (row_past u b d g i 5 k);
            high = row_past s a c h i 6 m ∙ sym (row_past u b d g i 6 k);
            name = λ e. absurd (omega arith);
            bodies = λ e. absurd (omega arith);
          }

  -- the same rows, as many, the same text
  module _ (n : c ≡ d) (w : SameRows s u a b) where
    alike : (i : ℕ) → i < c → Alike (token_of s i).content (token_of u i).content
    alike i m =
        let k : i < d = omega arith in
        let p : RowIs s a (token_width * i) (token_of s i) = row_is s a c h i m refl in
        let q : RowIs u b (token_width * i) (token_of u i) = row_is u b d g i k refl in
        let same = counted s a c h in
        let same' = counted u b d g in
        let spelt : spell (token_of s i).content ≡ spell (token_of u i).content =
        elim (dec_le (suc i) (length (before s))) [
          | yes l ↦
              let l' : i < length (before u) = omega arith in
              sym (row_text_lem s a c h i m refl l) ∙ texts p q (w i) ∙ row_text_lem u b d g i k refl l'
          | no l ↦ rw (at_end s i (omega arith), at_end u i (omega arith))
        ] in
        record { spelt = spelt; kind = kinds p q (w i) }

    pub same_written : text s ≡ text u
    same_written =
        let e : length (contents (tokens s)) ≡ c = length-map (tokens s) (λ t. t.content) ∙ sym h.counted in
        let f : length (contents (tokens u)) ≡ d = length-map (tokens u) (λ t. t.content) ∙ sym g.counted in
        same_canonical (contents (tokens s)) (contents (tokens u))
        (e ∙ n ∙ sym f, λ i m. rw (content_of_lem s i, content_of_lem u i) (alike i (omega arith)))

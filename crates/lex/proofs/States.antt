-- What the lexer's steps do to the state that a lexer and its table hold.
use mathlib.Core.Path.{◌≡◌, refl, ap, ◌∙◌, subst}
use mathlib.Core.List.{List, [], ◌∷◌, ◌++◌}
use Rattle.std.specs.Prelude as code
use Rattle.std.specs.Prelude.{Some, None}
use mathlib.Core.Option.{Option, none, some}
use Prim.Native.Nat.{ℕ, ◌+◌, ◌*◌}
use native.Mathlib.Decide.{dec_le}
use native.Mathlib.Numerals.{add-one}
use native.Mathlib.Omega.{arith}
use lib.ListN.{length, length-append}
use lib.Seq.{length-sets}
use Rattle.table.specs.Table.{tabled, put_row}
use Rattle.language.proofs.TokensAt.{row_width}
use Rattle.table.proofs.Laws.{put_fits, put_full, put_next, tabled_own}
use Rattle.wide.specs.declared.Wide.{Wide}
use Rattle.language.specs.Lexemes as language
use Rattle.language.specs.Lexemes.{l_paren, r_paren, dot, double_colon, colon, semi_colon, equals, comma, slash, import_keyword, let_keyword, identifier, boolean_literal, ipv4_literal, hex_literal, dec_literal}
use Rattle.language.specs.Tables.{token_row, token_width}
use Rattle.language.specs.Tokens.{Token, Piece, gap, body, token, wrong, Item, content_of, Pending, flushed, pending_token, item_token, Wrong, or_else, first_wrong}
use Rattle.rows.specs.declared.token.Tok.{Tok}
use Rattle.rows.specs.Tokens.{tok_as, tok_number, tok_value}
use Rattle.lex.specs.declared.PendingStr.{PendingStr}
use Rattle.lex.specs.declared.Lexer.{Lexer}
use Rattle.lex.specs.Lexing.{State, stated, flushed_state, step_to, feed, waiting, PendingIs, Holds, Flushes, Tokens, Finishes}

-- ---- lists of lexemes

pub feed_append : (s : State) (is js : List Item) → feed s (is ++ js) ≡ feed (feed s is) js
unfolding feed
feed_append s [] js = refl
feed_append s (i ∷ is) js = feed_append (step_to i.piece i s) is js

abbrev pub either : Option Wrong → Option Wrong → Option Wrong
either none o = o
either (some w) o = some w

pub wrong_append : (is js : List Item) → first_wrong (is ++ js) ≡ either (first_wrong is) (first_wrong js)
unfolding first_wrong
wrong_append [] js = refl
wrong_append (i ∷ is) js = go i.piece (wrong_append is js)
  where
    here : Piece → Option Wrong → Option Wrong
    here p o = or_else p i o (λ e j. some (record { kind = e; at = j }))

    go : (p : Piece) → first_wrong (is ++ js) ≡ either (first_wrong is) (first_wrong js) → here p (first_wrong (is ++ js)) ≡ either (here p (first_wrong is)) (first_wrong js)
    go gap h = h
    go (body b) h = h
    go (token c) h = h
    go (wrong e) h = refl

-- the first error of lexemes that come after some with none
pub wrong_after : (is js : List Item) → first_wrong is ≡ none → first_wrong (is ++ js) ≡ first_wrong js
wrong_after is js e = wrong_append is js ∙ rw e

-- ---- a row

next_row : {t : List ℕ} (n : ℕ) (ks : List Token) (k : Token) → t ≡ tabled token_row token_width n ks
    → put_row t (length ks) (token_row k) ≡ tabled token_row token_width n (ks ++ k ∷ [])
next_row n ks k e = rw e (put_next token_row token_width row_width (omega arith) n ks k)

put_length : (t : List ℕ) (k : ℕ) (ws : List ℕ) → length (put_row t k ws) ≡ length t
put_length t k ws =
    elim (dec_le (k * length ws + length ws) (length t)) [
      | yes h ↦ rw (put_fits t k (length ws) ws refl h) (length-sets t (k * length ws) ws)
      | no h ↦ rw (put_full t k (length ws) ws refl (omega arith))
    ]

-- the lexer after a row
abbrev pushed : Lexer → Lexer
pushed x = record { lno = x.lno; count = x.count + 1; pending = None }

-- a row stored at the count is one token more, and no literal waits
module _ (x : Lexer) (t u ws : List ℕ) (e : u ≡ put_row t x.count ws) where
  put_size : length u ≡ length t
  put_size = ap length e ∙ put_length t x.count ws

  put_token : (s : State) (k : Token) → ws ≡ token_row k → Holds x t s → Holds (pushed x) u (stated (s.done ++ k ∷ []) none)
  put_token s k r h =
      let z : u ≡ tabled token_row token_width (length t) (s.done ++ k ∷ []) = e ∙ rw (r, h.counted) (next_row (length t) s.done k h.rows) in
      record {
        rows = tabled_own token_row token_width (length t) (length u) (s.done ++ k ∷ []) z refl;
        counted = let d = h.counted in simp length-append (omega arith);
        waits = tt;
      }

-- ---- the literals that wait

-- some wait
module _ (x : Lexer) (t : List ℕ) where
  abbrev string_row : PendingStr → List ℕ
  string_row p = 16 ∷ p.line ∷ p.column ∷ p.start ∷ p.end ∷ (p.others + 1) ∷ 0 ∷ []

  pub flush_some : (p : PendingStr) → x.pending ≡ Some p → (u : List ℕ) → u ≡ put_row t x.count (string_row p) → Flushes x t (pushed x) u
  unfolding token_row
  flush_some p z u e =
      record {
        lines = refl;
        count = let w : waiting x.pending ≡ p.others + 1 = ap waiting z in omega arith;
        bodies = refl;
        size = put_size x t u (string_row p) e;
        holds = λ s h. go s.done s.pending h;
      }
    where
      go : (ks : List Token) (o : Option Pending) → Holds x t (stated ks o) → Holds (pushed x) u (stated (ks ++ flushed o) none)
      go ks none h = absurd (subst (λ (r : code.Option PendingStr). PendingIs r none) z h.waits)
      go ks (some q) h =
          let w = subst (λ (r : code.Option PendingStr). PendingIs r (some q)) z h.waits in
          put_token x t u (string_row p) e (stated ks (some q)) (pending_token q) (rw (w.0, w.1, w.2, w.3, w.4, add-one)) h

-- ---- a token

-- a token's row as the code makes it
abbrev row_of : ℕ → ℕ → ℕ → ℕ → ℕ → Wide → List ℕ
row_of k n c from to v = k ∷ n ∷ c ∷ from ∷ to ∷ v.lo ∷ v.hi ∷ []

abbrev eof_row : ℕ → ℕ → List ℕ
eof_row n all = 1 ∷ (n + 1) ∷ 1 ∷ all ∷ all ∷ 0 ∷ 0 ∷ []

-- is the language's
row_is : (l : language.Tok) (bs : List ℕ) (i : Item)
    → row_of (tok_number (tok_as l)) i.line i.column i.start i.end (tok_value (tok_as l)) ≡ token_row (item_token i (content_of l bs))
unfolding token_row
row_is l_paren bs i = refl
row_is r_paren bs i = refl
row_is dot bs i = refl
row_is double_colon bs i = refl
row_is colon bs i = refl
row_is semi_colon bs i = refl
row_is equals bs i = refl
row_is comma bs i = refl
row_is slash bs i = refl
row_is import_keyword bs i = refl
row_is let_keyword bs i = refl
row_is identifier bs i = refl
row_is (boolean_literal b) bs i = refl
row_is (ipv4_literal v) bs i = refl
row_is (hex_literal v) bs i = refl
row_is (dec_literal v) bs i = refl

-- after the literals that wait a row is stored
module _ (x : Lexer) (t : List ℕ) (y : Lexer) (u : List ℕ) (f : Flushes x t y u) (v : List ℕ) where
  pub token_after : (start from to : ℕ) (k : Tok) (kind : ℕ) (value : Wide) → kind ≡ tok_number k → value ≡ tok_value k
      → v ≡ put_row u y.count (row_of kind y.lno (from + 1) (start + from) (start + to) value) → Tokens x t start from to k (pushed y) v
  token_after start from to k kind value d w e =
      let row = row_of kind y.lno (from + 1) (start + from) (start + to) value in
      record {
        lines = f.lines;
        count = let n = f.count in omega arith;
        bodies = refl;
        size = put_size y u v row e ∙ f.size;
        holds =
            λ s i l bs a h g.
            put_token y u v row e (flushed_state s) (item_token i (content_of l bs))
            (rw (d, w, a, f.lines, ← h.line, ← h.column, ← h.begins, ← h.ends) (row_is l bs i)) (f.holds s g);
      }

  pub finish_after : (all : ℕ) → v ≡ put_row u y.count (eof_row y.lno all) → Finishes x t all (pushed y) v
  unfolding token_row
  finish_after all e =
      let row = eof_row y.lno all in
      record {
        size = put_size y u v row e ∙ f.size;
        holds = λ s k r h. put_token y u v row e (flushed_state s) k (rw (r, f.lines)) (f.holds s h);
      }

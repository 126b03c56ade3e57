-- Feeding the lexemes of a line to the lexer, one turn of the loop after the other.
use mathlib.Core.Path.{◌≡◌, refl, sym, ap, ◌∙◌}
use mathlib.Core.List.{List, [], ◌∷◌, ◌++◌, map, append_assoc, append-nil}
use mathlib.Core.Option.{none, some}
use Prim.Native.Nat.{ℕ, ◌+◌, ◌-◌, ◌≤◌}
use native.Mathlib.Omega.{arith}
use lib.ListN.{length, take, drop}
use Rattle.language.specs.Lexemes as language
use Rattle.language.specs.Lexemes.{Kind, trivia, str, tok, error, placed, scan_from, lexeme}
use Rattle.language.specs.Tokens.{line_at, Piece, wrong, Item, unquoted, piece_of, item_of, Wrong, or_else, first_wrong}
use Rattle.language.specs.Numbers as numbers
use Rattle.language.proofs.Tests.{never}
use Rattle.lexemes.specs.declared.LexErrorKind.{LexErrorKind}
use Rattle.lexemes.specs.declared.LexemeKind.{LexemeKind}
use Rattle.lexemes.specs.declared.LexemeKind.TheVariants as kind_is
use Rattle.lexemes.specs.declared.Lexeme.{Lexeme}
use Rattle.std.specs.Prelude.{Ok, Err, None}
use Rattle.lexemes.specs.Kinds.{error_as, kind_as}
use Rattle.scan.specs.Scanning.{step_at}
use Rattle.rows.specs.Rows.{verdict_as}
use Rattle.scan.proofs.Turns.{Steps, turn, at_end}
use Rattle.lexemes.proofs.Rows.{same_error}
use Rattle.lex.specs.declared.Lexer.{Lexer}
use Rattle.lex.specs.declared.LexError.TheVariants.{Lexical}
use Rattle.lex.specs.Lexing.{verdict_of, waiting, State, step_to, feed, Holds, Stands, Strings, Tokens, line_items, Feeds}
use Rattle.lex.proofs.States.{feed_append, wrong_after}

-- ---- a step of the lexer

-- what a turn does to the lexer and its table, by the kind of the lexeme, which stands from `from` up to `to`
abbrev pub Turned : LexemeKind → ℕ → ℕ → ℕ → Lexer → List ℕ → Lexer → List ℕ → Type 0
Turned kind_is.Trivia start from to y u z v = (z ≡ y) × (v ≡ u)
Turned kind_is.Str start from to y u z v = Strings y start from to z × (v ≡ u)
Turned (kind_is.Tok k) start from to y u z v = Tokens y u start from to k z v
Turned (kind_is.Error e) start from to y u z v = ⊥

-- an item is fed, which is the piece p
record Stepped (p : Piece) (i : Item) (y : Lexer) (u : List ℕ) (z : Lexer) (v : List ℕ) : Type 0 where
  right : or_else {A = Wrong} p i none (λ e j. some (record { kind = e; at = j })) ≡ none
  holds : (s : State) → Holds y u s → Holds z v (step_to p i s)
  lines : z.lno ≡ y.lno
  few : z.count + waiting z.pending ≤ y.count + waiting y.pending + 1
  size : length v ≡ length u

stepped : (k : Kind) (bs : List ℕ) (start from to : ℕ) (i : Item) (y z : Lexer) (u v : List ℕ) → Stands y.lno start from to i
    → Turned (kind_as k) start from to y u z v → Stepped (piece_of k bs) i y u z v
stepped trivia bs start from to i y z u v h (a, b) =
    rw (a, b) (record { right = refl; holds = λ s g. g; lines = refl; few = omega arith; size = refl })
stepped str bs start from to i y z u v h (a, b) =
    record {
      right = refl;
      holds = λ s g. rw b (record { rows = g.rows; counted = a.count ∙ g.counted; waits = a.waits s.pending i (unquoted bs) h g.waits });
      lines = a.lines;
      few = omega (arith, a.count, a.bodies);
      size = ap length b;
    }
stepped (tok t) bs start from to i y z u v h a =
    record { right = refl; holds = λ s g. a.holds s i t bs refl h g; lines = a.lines; few = let w = ap waiting a.bodies in omega (arith, a.count, w); size = a.size }
stepped (error x) bs start from to i y z u v h a = absurd a

-- which error of the language the code's stands for
wrong_kind : (k : Kind) (bs : List ℕ) (e : LexErrorKind) → kind_is.Error e ≡ kind_as k → (o : language.LexErrorKind) × (piece_of k bs ≡ wrong o) × (e ≡ error_as o)
wrong_kind trivia bs e h = never (cc)
wrong_kind str bs e h = never (cc)
wrong_kind (tok t) bs e h = never (cc)
wrong_kind (error o) bs e h = (o, refl, cc)

-- the verdict at an error
verdict_is : (o : language.LexErrorKind) (k : LexErrorKind) (start from to : ℕ) {n : ℕ} {i : Item} → k ≡ error_as o → Stands n start from to i
    → verdict_of (Lexical k (record { line = n; column = from + 1 })) ≡ verdict_as (numbers.lexical (record { kind = o; at = i }))
verdict_is o k start from to e h = rw (e, (same_error o).0, (same_error o).1, ← h.line, ← h.column)

-- ---- the loop

-- the lexemes `done` of a line that starts at `start` are fed, and the scanner stands at `pos`: x and t were before the
-- first of them, y and u are now
pub record Feeding (x : Lexer) (t : List ℕ) (start : ℕ) (line : List ℕ) (y : Lexer) (u : List ℕ) (pos : ℕ) : Type 0 where
  pub done : List Item
  pub whole : done ++ map (item_of x.lno (line_at start line)) (scan_from 0 pos (drop pos line)) ≡ line_items x.lno start line
  pub right : first_wrong done ≡ none
  pub holds : (s : State) → Holds x t s → Holds y u (feed s done)
  pub lines : y.lno ≡ x.lno
  pub few : y.count + waiting y.pending ≤ start + pos
  pub within : pos ≤ length line
  pub size : length u ≡ length t

module _ (x : Lexer) (t : List ℕ) (start : ℕ) (line : List ℕ) where
  pub begun : x.count + waiting x.pending ≤ start → (pos : ℕ) → pos ≡ 0 → Feeding x t start line x t pos
  unfolding first_wrong feed
  begun h pos z =
      record { done = []; whole = rw z; right = refl; holds = λ s g. g; lines = refl; few = omega arith; within = omega arith; size = refl }

  module _ (y : Lexer) (u : List ℕ) (pos : ℕ) (f : Feeding x t start line y u pos) where
    module _ (l : Lexeme) (to : ℕ) (e : Steps line pos l to) where
      -- what the calls ask for
      pub room : start + length line ≤ 65536 → (start + l.end ≤ 65536) × (l.start ≤ l.end) × (y.count + waiting y.pending ≤ 65536)
      room h = let b = turn line pos l to e in let n = f.few in let w = f.within in (omega arith, omega arith, omega arith)

      -- this lexeme, and those that are left
      abbrev bytes : List ℕ
      bytes = take (pos + (lexeme (drop pos line)).size - pos) (drop pos line)

      abbrev item : Item
      item = item_of x.lno (line_at start line) (placed pos (lexeme (drop pos line)))

      abbrev after : List Item
      after = map (item_of x.lno (line_at start line)) (scan_from 0 to (drop to line))

      whole_here : f.done ++ item ∷ after ≡ line_items x.lno start line
      whole_here = rw (turn line pos l to e).rest at f.whole

      stands : Stands y.lno start l.start l.end item
      stands = let b = turn line pos l to e in record { line = sym f.lines; column = omega arith; begins = omega arith; ends = omega arith }

      -- a lexeme that is no error is fed
      pub more : {k : LexemeKind} {z : Lexer} {v : List ℕ} → l.kind ≡ k → Turned k start l.start l.end y u z v → Feeding x t start line z v to
      unfolding first_wrong feed
      more {k} {z} {v} d w =
          let b = turn line pos l to e in
          let m : k ≡ kind_as (lexeme (drop pos line)).kind = sym d ∙ b.kind in
          let g = stepped (lexeme (drop pos line)).kind bytes start l.start l.end item y z u v stands (rw m at w) in
          record {
            done = f.done ++ item ∷ [];
            whole = append_assoc f.done (item ∷ []) after ∙ whole_here;
            right = wrong_after f.done (item ∷ []) f.right ∙ g.right;
            holds = λ s h. rw feed_append (g.holds (feed s f.done) (f.holds s h));
            lines = g.lines ∙ f.lines;
            few = omega (arith, g.few, f.few, b.forth);
            within = b.within;
            size = g.size ∙ f.size;
          }

      -- at an error it stops
      pub stopped : (k : LexErrorKind) → l.kind ≡ kind_is.Error k
          → Feeds x t (Err (Lexical k (record { line = y.lno; column = l.start + 1 }))) u x.lno (start + length line) (line_items x.lno start line)
      unfolding first_wrong
      stopped k d =
          let b = turn line pos l to e in
          let o = wrong_kind (lexeme (drop pos line)).kind bytes k (sym d ∙ b.kind) in
          record {
            size = f.size;
            few = tt;
            fed =
                λ s h. (
                  record { kind = o.0; at = item },
                  ap first_wrong (sym whole_here) ∙ wrong_after f.done (item ∷ after) f.right ∙ rw o.1,
                  verdict_is o.0 k start l.start l.end o.2 stands,
                );
          }

    -- at the end of the line all lexemes are fed
    pub finished : None ≡ step_at line pos → Feeds x t (Ok y) u x.lno (start + length line) (line_items x.lno start line)
    finished e =
        let all : f.done ≡ line_items x.lno start line = sym (append-nil f.done) ∙ rw (at_end line pos e) at f.whole in
        record {
          size = f.size;
          few = (f.lines, omega (arith, f.few, f.within));
          fed = λ s h. rw (← all) (f.right, f.holds s h);
        }

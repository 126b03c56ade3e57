-- A source cut into lines, and the loop that feeds them to the lexer.
use Prim.Native.Nat.{ℕ, suc, ◌+◌, ◌-◌, ◌≤◌, ◌<◌}
use mathlib.Core.Path.{◌≡◌, refl, sym, ap, ◌∙◌}
use mathlib.Core.Bool.{Bool, true, false}
use mathlib.Core.List.{List, [], ◌∷◌, ◌++◌, append_assoc, append-nil}
use mathlib.Core.Option.{none, some}
use native.Mathlib.Numerals.{add-one}
use native.Mathlib.Omega.{arith}
use lib.Dec.{eqb}
use lib.ListN.{length, get_or, take, drop, length-drop, drop_of_length-le}
use lib.Seq.{drop-cons, drop-drop}
use Rattle.language.specs.Lexemes.{run, not_newline}
use Rattle.language.specs.Tables.{token_row, token_width}
use Rattle.language.specs.Tokens.{Line, line_at, onto, lines_from, lines, Item, items_from, items, first_wrong, between}
use Rattle.language.proofs.Tests.{by_cases}
use Rattle.language.proofs.Parts.{part_size}
use Rattle.table.specs.Table.{pad_to}
use Rattle.table.proofs.Laws.{tabled_none}
use Rattle.language.proofs.LexemeSizes.{run_fits}
use Rattle.lex.specs.declared.Lexer.{Lexer}
use Rattle.lex.specs.declared.LexError.{LexError}
use Rattle.std.specs.Prelude.{Result, Ok, Err, None}
use Rattle.lex.proofs.States.{feed_append, wrong_append}
use Rattle.lex.specs.Lexing.{waiting, begun, feed, line_items, Few, FedIs, Feeds, line_end, FeedsAll}

-- ---- a line, and the lines after it

module _ (b : ℕ) (r : List ℕ) where
  run_none : eqb b 10 ≡ true → run not_newline (b ∷ r) ≡ 0
  unfolding not_newline
  run_none e = rw e

  run_one : eqb b 10 ≡ false → run not_newline (b ∷ r) ≡ suc (run not_newline r)
  unfolding not_newline
  run_one e = rw e

-- the first line of b and r has n bytes
abbrev Cut : ℕ → ℕ → List ℕ → ℕ → Type 0
Cut at b r n = lines_from at (b ∷ r) ≡ line_at at (take n (b ∷ r)) ∷ lines_from (suc (at + n)) (drop n r)

cut_last : (at b : ℕ) (t : Bool) → eqb b 10 ≡ t → Cut at b [] (run not_newline (b ∷ []))
unfolding lines_from
cut_last at b true e = rw (run_none b [] e, e)
cut_last at b false e = rw (run_one b [] e, e)

cut_more : (at b c : ℕ) (r : List ℕ) → Cut (suc at) c r (run not_newline (c ∷ r)) → (t : Bool) → eqb b 10 ≡ t
    → Cut at b (c ∷ r) (run not_newline (b ∷ c ∷ r))
unfolding lines_from
cut_more at b c r more true e = let z : at + 0 ≡ at = omega arith in rw (run_none b (c ∷ r) e, e, z)
cut_more at b c r more false e =
    let n = run not_newline (c ∷ r) in
    let z : at + suc n ≡ suc at + n = omega arith in
    let w : lines_from at (b ∷ c ∷ r) ≡ onto at b (lines_from (suc at) (c ∷ r)) = rw e in
    rw (run_one b (c ∷ r) e, z) (w ∙ ap (onto at b) more)

cut : (at b : ℕ) (r : List ℕ) → Cut at b r (run not_newline (b ∷ r))
cut at b [] = cut_last at b (eqb b 10) refl
cut at b (c ∷ r) = cut_more at b c r (cut (suc at) c r) (eqb b 10) refl

no_lines : (at : ℕ) → lines_from at [] ≡ []
unfolding lines_from
no_lines at = refl

no_items : (n : ℕ) → items_from n [] ≡ []
unfolding items_from
no_items n = refl

-- a line has a byte at least, or byte 10 after it
pub few_lines : (at : ℕ) (s : List ℕ) → length (lines_from at s) ≤ length s
unfolding lines_from
few_lines at [] = omega arith
few_lines at (b ∷ s) =
    let h = few_lines (suc at) s in
    by_cases (λ (ls : List Line). length ls ≤ suc (length s)) (eqb b 10) (λ _. omega arith) (λ _. go (lines_from (suc at) s) h)
  where
    go : (ls : List Line) → length ls ≤ length s → length (onto at b ls) ≤ suc (length s)
    go [] h = omega arith
    go (l ∷ ls) h = omega arith

-- a line ends within the source
pub end_within : (s : List ℕ) (at e : ℕ) → at ≤ length s → e ≡ line_end s at → (at ≤ e) × (e ≤ length s)
end_within s at e l q = let h = run_fits not_newline (drop at s) in let k = length-drop at s in (omega arith, omega arith)

-- the line that starts at `at` and ends at e
module _ (s : List ℕ) (at : ℕ) (l : at < length s) (e : ℕ) (q : e ≡ line_end s at) where
  within_source : (at ≤ e) × (e ≤ length s)
  within_source = end_within s at e (omega arith) q

  -- it ends where its bytes do
  line_size : at + length (between s at e) ≡ e
  line_size = let h = within_source in omega (arith, part_size s at e h.1)

  next_line : lines_from at (drop at s) ≡ line_at at (between s at e) ∷ lines_from (e + 1) (drop (e + 1) s)
  next_line =
      let n = run not_newline (drop at s) in
      let r = drop (suc at) s in
      let h : drop at s ≡ get_or s at 0 ∷ r = drop-cons s at 0 l in
      let k : lines_from at (drop at s) ≡ line_at at (take n (drop at s)) ∷ lines_from (suc (at + n)) (drop n r) = rw h (cut at (get_or s at 0) r) in
      let a : n ≡ e - at = omega arith in
      let b : suc (at + n) ≡ e + 1 = omega arith in
      let c : suc at + n ≡ e + 1 = omega arith in
      let d : drop n r ≡ drop (e + 1) s = drop-drop n (suc at) s ∙ ap (λ (m : ℕ). drop m s) c in
      k ∙ rw (d, b, a)

  next_items : (n : ℕ) → items_from (n + 1) (lines_from at (drop at s))
      ≡ line_items (n + 1) at (between s at e) ++ items_from (n + 1 + 1) (lines_from (e + 1) (drop (e + 1) s))
  unfolding items_from
  next_items n = rw (next_line, add-one (n + 1), items_from)

  next_count : length (lines_from at (drop at s)) ≡ suc (length (lines_from (e + 1) (drop (e + 1) s)))
  next_count = ap length next_line

-- ---- the loop

-- the lexer x was fed all lines before `at`, and the table was t at first. What it holds is said where t was all zero.
pub record LinesFed (s t : List ℕ) (u : List ℕ) (x : Lexer) (at : ℕ) : Type 0 where
  pub done : List Item
  pub whole : done ++ items_from (x.lno + 1) (lines_from at (drop at s)) ≡ items s
  pub fed : t ≡ pad_to (length t) [] → FedIs (Ok x) u (feed begun done) (first_wrong done)
  pub counted : x.lno + length (lines_from at (drop at s)) ≡ length (lines s)
  pub size : length u ≡ length t
  pub few_lines : x.lno ≤ at
  pub few_tokens : x.count + waiting x.pending ≤ at
  pub fewer : x.count + waiting x.pending ≤ length s
  pub within : at ≤ length s + 1

pub start : (s t : List ℕ) (x : Lexer) → (x.lno ≡ 0) × (x.count ≡ 0) × (x.pending ≡ None) → LinesFed s t t x 0
unfolding items feed first_wrong
start s t x e =
    record {
      done = [];
      whole = rw e.0;
      fed = λ z. (refl, record { rows = z ∙ sym (tabled_none token_row token_width (length t)); counted = e.1; waits = rw e.2 tt });
      counted = rw e.0 (omega arith);
      size = refl;
      few_lines = omega (arith, e.0);
      few_tokens = omega (arith, e.1, ap waiting e.2);
      fewer = omega (arith, e.1, ap waiting e.2);
      within = omega arith;
    }

module _ (s t u : List ℕ) (x : Lexer) (at : ℕ) (f : LinesFed s t u x at) where
  -- a line more
  module _ (l : at < length s) (e : ℕ) (q : e ≡ line_end s at) where
    -- what the call asks for
    pub ready : length s ≤ 65536 → Few x at × (at + length (between s at e) ≤ 65536)
    ready h =
        let few : Few x at = record { lines = omega (arith, f.few_lines); tokens = f.few_tokens; short = omega arith } in
        (few, omega (arith, line_size s at l e q, (within_source s at l e q).1))

    abbrev line : List Item
    line = line_items (x.lno + 1) at (between s at e)

    abbrev rest : List Item
    rest = items_from (x.lno + 1 + 1) (lines_from (e + 1) (drop (e + 1) s))

    joined : f.done ++ (line ++ rest) ≡ items s
    joined = rw (next_items s at l e q x.lno) at f.whole

    -- where it stops, the whole stops
    stops : (v : LexError) (w : List ℕ) → Feeds x u (Err v) w (x.lno + 1) e line → FeedsAll t (Err v) w s
    stops v w r =
        record {
          size = r.size ∙ f.size;
          few = tt;
          fed = λ z.
              let g = f.fed z in
              let h = r.fed (feed begun f.done) g.1 in
              let k : first_wrong (line ++ rest) ≡ some h.0 = wrong_append line rest ∙ rw h.1 in
              let m : first_wrong (f.done ++ (line ++ rest)) ≡ some h.0 = wrong_append f.done (line ++ rest) ∙ rw g.0 k in
              (h.0, rw joined at m, h.2);
        }

    goes : (y : Lexer) (w : List ℕ) → Feeds x u (Ok y) w (x.lno + 1) e line → LinesFed s t w y (e + 1)
    goes y w r =
        let i = within_source s at l e q in
        let n = r.few.0 in
        let m = r.few.1 in
        let o = f.few_lines in
        record {
          done = f.done ++ line;
          whole = rw n (append_assoc f.done line rest ∙ joined);
          fed = λ z.
              let g = f.fed z in
              let h = r.fed (feed begun f.done) g.1 in
              let k : first_wrong (f.done ++ line) ≡ none = wrong_append f.done line ∙ rw g.0 h.0 in
              (k, rw (feed_append begun f.done line) h.1);
          counted = omega (arith, f.counted, next_count s at l e q, n);
          size = r.size ∙ f.size;
          few_lines = omega (arith, i.0, n, o);
          few_tokens = omega (arith, m);
          fewer = omega (arith, m, i.1);
          within = omega (arith, i.1);
        }

    -- the same from what the call says of its result
    abbrev Said : Result Lexer LexError → List ℕ → Type 0
    Said r w = Feeds x u r w (x.lno + 1) (at + length (between s at e)) line

    pub stopped : (v : LexError) {w : List ℕ} → Said (Err v) w → FeedsAll t (Err v) w s
    stopped v {w} g = stops v w (rw (line_size s at l e q) at g)

    pub more : (y : Lexer) {w : List ℕ} → Said (Ok y) w → LinesFed s t w y (e + 1)
    more y {w} g = goes y w (rw (line_size s at l e q) at g)

  pub finished : length s ≤ at → FeedsAll t (Ok x) u s
  finished h =
      let d : drop at s ≡ [] = drop_of_length-le s {i = at} h in
      let a : f.done ++ items_from (x.lno + 1) (lines_from at []) ≡ items s = rw d at f.whole in
      let b : f.done ++ [] ≡ items s = rw (no_lines at, no_items (x.lno + 1)) at a in
      let c : f.done ≡ items s = sym (append-nil f.done) ∙ b in
      let k : x.lno + length (lines_from at []) ≡ length (lines s) = rw d at f.counted in
      let m : x.lno + 0 ≡ length (lines s) = rw (no_lines at) at k in
      record { size = f.size; few = (omega arith, f.fewer); fed = λ z. rw (← c) (f.fed z) }

-- What calls count and leave: one law over a table, cited for each, and each answer's counts.
use Prim.Native.Nat.{ℕ, zero, suc, ◌+◌, ◌*◌, ◌/◌, ◌≤◌, ◌<◌}
use mathlib.Core.Path.{◌≡◌, refl, sym, ap, ◌∙◌}
use mathlib.Core.Bool.{Bool, true, false}
use mathlib.Core.List.{List, [], ◌∷◌, ◌++◌}
use mathlib.Core.Option.{Option, none, some}
use mathlib.Core.Logic.{◌⊎◌, inl, inr}
use native.Mathlib.Nat.{add-zero, div-one}
use native.Mathlib.Omega.{arith}
use borrow.Author.Tests.{eqb-true, eqb-false, eq-eqb, ne_eqb}
use lib.Dec.{ltb, eqb}
use lib.ListN.{length, get_or, take, drop, length-take, length-append}
use lib.Seq.{length-take-le, take_all, split_at, get_or-take, get_or-append-add}
use Rattle.table.specs.Table.{pad_to, flat, tabled}
use Rattle.table.proofs.Laws.{length_tabled, tabled_none, tabled_word, tabled_past, pad_word}
use Rattle.language.specs.Choice.{if'}
use Rattle.language.specs.Utf8.{first_bad}
use Rattle.language.specs.Lexemes.{Placed, scan}
use Rattle.language.specs.Tokens.{most_bytes, items, first_wrong, tokens, contents}
use Rattle.language.specs.Canonical.{text}
use Rattle.language.specs.Tables.{lexeme_row, lexeme_width, token_row, token_width}
use Rattle.language.specs.Sentences.{Out, ok, no, Stmt, nodes, node_row, node_width}
use Rattle.language.specs.Judgements.{What, unknown_name, unknown_item, unknown_module, not_imported, not_a_module, not_a_value, already_bound, no_members, operand_type, not_callable, too_many_args, too_few_args, arg_type, void_value, integral_too_large, multiple_imports, discarded_value, truncated, overflow, Diag, is_error, errors_in, warnings_in, Held, Outcome, judged, refused}
use Rattle.language.specs.Findings.{severity_of, detail, diag_row, diag_width, Row, rows_of, stmt_row, stmt_width}
use Rattle.language.specs.Numbers.{Verdict, verdict, placed, token_place, Scanned, scan_answer, scan_table, Lexed, lex_answer, lex_table, Parsed, parsed_as, parse_answer, parsed_nodes, parse_tokens, parse_nodes, Canonised, canonised, canon_answer, canon_tokens, canon_text, Checked, refused_check, checked, found_by, held_by, rows_by, looks_by, sum, comparisons, checked_within, judged_within, check_answer, token_of, check_tokens, check_nodes, check_diags, check_stmts, statements_of}
use Rattle.language.specs.Exactly.{parse}
use Rattle.language.specs.Left.{AllZero, Leaves, byte_row, severe, ScanLeft, LexLeft, ParseLeft, CanonLeft, CheckLeft}
use Rattle.language.proofs.Names.{refused_for}
use Rattle.language.proofs.Tests.{each_side, by_cases, both_sides}
use Rattle.language.proofs.TokensAt.{row_width}
use Rattle.language.proofs.NodeClaims.{row_long}
use Rattle.language.proofs.JudgementClaims.{all_counted}
use Rattle.language.proofs.SentenceRefusals.{refused_number}

-- a count that is zero on refusal and else m
abbrev pub Counts : ℕ → ℕ → ℕ → Type 0
Counts number count m = ((number ≡ 0 → ⊥) → count ≡ 0) × (number ≡ 0 → count ≡ m)

-- where something is counted nothing is refused
counted_done : {number count m : ℕ} → Counts number count m → (count ≡ 0 → ⊥) → number ≡ 0
counted_done {number} c h = by (eqb number 0) refl
  where
    by : (b : Bool) → eqb number 0 ≡ b → number ≡ 0
    by true e = eqb-true number 0 e
    by false e = absurd (h (c.0 (eqb-false number 0 e)))

-- ---- one table

pub zero_words : (n : ℕ) → AllZero (pad_to n [])
zero_words n i = pad_word n [] i (omega arith)

module _ {A : Type 0} (row : A → List ℕ) (width : ℕ) (each : (x : A) → length (row x) ≡ width) (n : ℕ) where
  -- the rows that fit are the first
  first_rows : (xs : List A) → tabled row width n xs ≡ tabled row width n (take (n / width) xs)
  unfolding tabled
  first_rows xs = rw (take_all (n / width) (take (n / width) xs) (rw length-take (omega arith)))

  rows_word : (p q : List A) (x : A) → length p < n / width → (j : ℕ) → j < width
      → get_or (tabled row width n (p ++ x ∷ q)) (width * length p + j) 0 ≡ get_or (row x) j 0
  rows_word p q x h j l =
      let xs = p ++ x ∷ q in
      let long : length xs ≡ length p + length (x ∷ q) = length-append p (x ∷ q) in
      let at : get_or xs (length p) x ≡ x = rw (← add-zero (length p)) (get_or-append-add p (x ∷ q) 0 x) in
      let fit : length (take (n / width) xs) ≤ n / width = rw length-take (omega arith) in
      let inside : length p < length (take (n / width) xs) = rw length-take (omega arith) in
      rw (first_rows xs)
      (tabled_word row width each n (take (n / width) xs) fit (length p) j inside l x
      ∙ ap (λ (y : A). get_or (row y) j 0) (get_or-take (n / width) xs (length p) x h ∙ at))

  rows_past : (xs : List A) (i j : ℕ) → (length xs ≤ i) ⊎ (n / width ≤ i) → get_or (tabled row width n xs) (width * i + j) 0 ≡ 0
  rows_past xs i j h =
      let fit : length (take (n / width) xs) ≤ n / width = rw length-take (omega arith) in
      let end : length (take (n / width) xs) ≤ i = rw length-take (elim h [ inl a ↦ omega arith | inr a ↦ omega arith ]) in
      rw (first_rows xs) (tabled_past row width each n (take (n / width) xs) fit i j end)

module _ {A : Type 0} (row : A → List ℕ) (width : ℕ) (each : (x : A) → length (row x) ≡ width) where
  -- a table that is laid out by the number, with a count that goes by it too
  pub leaves : {n : ℕ} {xs : List A} {number count : ℕ} {t : List ℕ} → t ≡ tabled row width n (if' (eqb number 0) xs [])
      → Counts number count (length xs) → Leaves row width n xs number count t
  leaves {n} {xs} {number} {count} {t} e c =
      record {
        size = rw e (length_tabled row width n _);
        refused = λ z. (c.0 z, λ i. rw (e, ne_eqb number 0 z, tabled_none row width n) (zero_words n i));
        counted = c.1;
        rows = λ z.
            let f : t ≡ tabled row width n xs = rw (eq-eqb number 0 z) at e in
            record {
              word = λ p q x a h j l. rw (f, a) (rows_word row width each n p q x h j l);
              past = λ i j h. rw f (rows_past row width each n xs i j h);
            };
      }

-- a row that is counted, and that fits, is the one at its place in the list
pub counted_row : {A : Type 0} {row : A → List ℕ} {width n : ℕ} {xs : List A} {number count : ℕ} {t : List ℕ}
    → Leaves row width n xs number count t → (i : ℕ) → i < count → i < n / width → (z : A)
    → (i < length xs) × ((j : ℕ) → j < width → get_or t (width * i + j) 0 ≡ get_or (row (get_or xs i z)) j 0)
counted_row {xs = xs} c i h l z =
    let done = counted_done (λ z. (c.refused z).0, c.counted) (λ q. omega (arith, q)) in
    let inside : i < length xs = omega (arith, c.counted done) in
    let long : length (take i xs) ≡ i = length-take-le i xs (omega arith) in
    (inside, λ j m. rw long at ((c.rows done).word (take i xs) (drop (suc i) xs) (get_or xs i z) (split_at xs i z inside) (rw long l) j m))

-- ---- the counts of answers

module _ {A : Type 0} (P : A → Type 0) where
  found_or : {B : Type 0} (o : Option B) {x : B → A} {y : A} → ((b : B) → P (x b)) → P y → P (elim o [ some b ↦ x b | none ↦ y ])
  found_or (some b) h l = h b
  found_or none h l = l

-- refused with a number other than 0; done
none_counted : (number m : ℕ) → 0 < number → Counts number 0 m
none_counted number m h = (λ _. refl, λ z. absurd (omega arith))

counted_all : (m : ℕ) → Counts 0 m m
counted_all m = (λ z. absurd (z refl), λ _. refl)

scan_counts : (line : List ℕ) (room : ℕ) → let a = scan_answer line room in Counts a.verdict.number a.count (length (scan line))
unfolding scan_answer
scan_counts line room =
    let m = length (scan line) in
    let P : Scanned → Type 0 = λ a. Counts a.verdict.number a.count m in
    each_side P (ltb most_bytes (length line)) (none_counted 1 m (omega arith))
    (found_or P (first_bad line) (λ _. none_counted 2 m (omega arith))
    (each_side P (ltb room m) (none_counted 4 m (omega arith)) (counted_all m)))

lex_counts : (s : List ℕ) (room : ℕ) → let a = lex_answer s room in Counts a.verdict.number a.count (length (tokens s))
unfolding lex_answer
lex_counts s room =
    let m = length (tokens s) in
    let P : Lexed → Type 0 = λ a. Counts a.verdict.number a.count m in
    each_side P (ltb most_bytes (length s)) (none_counted 1 m (omega arith))
    (found_or P (first_bad s) (λ _. none_counted 2 m (omega arith))
    (found_or P (first_wrong (items s)) (λ _. none_counted 3 m (omega arith))
    (each_side P (ltb room m) (none_counted 4 m (omega arith)) (counted_all m))))

-- where a part refused, its number is not 0
refused_too : (number m : ℕ) → eqb number 0 ≡ false → Counts number 0 m
refused_too number m e = (λ _. refl, λ z. absurd (eqb-false number 0 e z))

-- the tokens that lexing counted, where it is done
same_count : {number count m : ℕ} → Counts number count m → eqb number 0 ≡ true → count ≡ m
same_count {number} c e = c.1 (eqb-true number 0 e)

module _ (s : List ℕ) where
  abbrev ParseCounts : Parsed → Type 0
  ParseCounts a =
      Counts a.verdict.number a.tokens (length (tokens s)) × Counts a.verdict.number a.nodes (length (parsed_nodes (parse s)))

  parsed_counts : (room count : ℕ) → count ≡ length (tokens s) → (o : Out (List Stmt)) → parse s ≡ o → ParseCounts (parsed_as s room count o)
  parsed_counts room count c (ok ss at x) e =
      each_side ParseCounts (ltb room (length (nodes ss)))
      (none_counted 6 _ (omega arith), none_counted 6 _ (omega arith)) (rw (c, e) (counted_all _, counted_all _))
  parsed_counts room count c (no n k at) e =
      let h : 0 < n = elim (refused_number (contents (tokens s)) n k at e) [ inl f ↦ omega arith | inr f ↦ omega arith ] in
      (none_counted n _ h, none_counted n _ h)

  parse_counts : (t n : ℕ) → ParseCounts (parse_answer s t n)
  unfolding parse_answer
  parse_counts t n =
      let l = lex_answer s t in
      by_cases ParseCounts (eqb l.verdict.number 0)
      (λ e. parsed_counts n l.count (same_count (lex_counts s t) e) (parse s) refl)
      (λ e. (refused_too _ _ e, refused_too _ _ e))

  abbrev CanonCounts : Canonised → Type 0
  CanonCounts a =
      Counts a.verdict.number a.tokens (length (tokens s)) × Counts a.verdict.number a.bytes (length (text s))

  canon_counts : (t n : ℕ) → CanonCounts (canon_answer s t n)
  unfolding canon_answer
  canon_counts t n =
      let l = lex_answer s t in
      let refused : CanonCounts (canonised (verdict 10 0 0) 0 0) = (none_counted 10 _ (omega arith), none_counted 10 _ (omega arith)) in
      by_cases CanonCounts (eqb l.verdict.number 0)
      (λ e.
      each_side CanonCounts (ltb n (length (text s))) refused
      (each_side CanonCounts (ltb most_bytes (length (text s))) refused
      (rw (same_count (lex_counts s t) e) (counted_all _, counted_all _))))
      (λ e. (refused_too _ _ e, refused_too _ _ e))

-- ---- check

-- errors and warnings, by the severities of their rows
module _ (s : List ℕ) where
  pub row_severity : (at : ℕ) (w : What) → (detail (token_of s) at w).severity ≡ severity_of w
  row_severity at unknown_name = refl
  row_severity at (unknown_item m) = refl
  row_severity at unknown_module = refl
  row_severity at not_imported = refl
  row_severity at not_a_module = refl
  row_severity at not_a_value = refl
  row_severity at (already_bound t) = refl
  row_severity at (no_members t) = refl
  row_severity at (operand_type x t u) = refl
  row_severity at (not_callable t) = refl
  row_severity at (too_many_args f a b) = refl
  row_severity at (too_few_args f a b) = refl
  row_severity at (arg_type f i t u) = refl
  row_severity at void_value = refl
  row_severity at (overflow t u) = refl
  row_severity at integral_too_large = refl
  row_severity at multiple_imports = refl
  row_severity at (discarded_value t) = refl
  row_severity at (truncated n t) = refl

  one_error : (b : Bool) → if' {A = ℕ} (eqb (if' b 1 2) 1) 1 0 ≡ if' b 1 0
  one_error true = refl
  one_error false = refl

  one_warning : (b : Bool) → if' {A = ℕ} (eqb (if' b 1 2) 2) 1 0 ≡ if' b 0 1
  one_warning true = refl
  one_warning false = refl

  severe_errors : (ds : List Diag) → severe s 1 ds ≡ errors_in ds
  unfolding severe errors_in diag_row
  severe_errors [] = refl
  severe_errors (d ∷ ds) = rw (row_severity d.at d.what, one_error (is_error d.what), severe_errors ds)

  severe_warnings : (ds : List Diag) → severe s 2 ds ≡ warnings_in ds
  unfolding severe warnings_in diag_row
  severe_warnings [] = refl
  severe_warnings (d ∷ ds) = rw (row_severity d.at d.what, one_warning (is_error d.what), severe_warnings ds)

  record CheckCounts (ds : List Diag) (hs : List Held) (ls : List ℕ) (a : Checked) : Type 0 where
    tokens : Counts a.verdict.number a.tokens (length (tokens s))
    nodes : Counts a.verdict.number a.nodes (length (parsed_nodes (parse s)))
    errors : Counts a.verdict.number a.errors (errors_in ds)
    warnings : Counts a.verdict.number a.warnings (warnings_in ds)
    stmts : a.errors ≡ 0 → Counts a.verdict.number a.statements (length (rows_of hs))
    none_held : (a.errors ≡ 0 → ⊥) → a.statements ≡ 0
    compared : Counts a.verdict.number a.comparisons (sum ls)

  check_refused : (ds : List Diag) (hs : List Held) (ls : List ℕ) (v : Verdict) → 0 < v.number → CheckCounts ds hs ls (refused_check v)
  check_refused ds hs ls v h =
      record {
        tokens = none_counted v.number _ h;
        nodes = none_counted v.number _ h;
        errors = none_counted v.number _ h;
        warnings = none_counted v.number _ h;
        stmts = λ _. none_counted v.number _ h;
        none_held = λ z. absurd (z refl);
        compared = none_counted v.number _ h;
      }

  within_counts : (room t n : ℕ) (ds : List Diag) (hs : List Held) (ls : List ℕ) → t ≡ length (tokens s) → n ≡ length (parsed_nodes (parse s))
      → CheckCounts ds hs ls (checked_within room t n ds hs (sum ls))
  within_counts room t n ds hs ls c e =
      by_cases (CheckCounts ds hs ls) (eqb (errors_in ds) 0)
      (λ z.
      each_side (CheckCounts ds hs ls) (ltb room (length (rows_of hs))) (check_refused ds hs ls (verdict 11 0 0) (omega arith))
      (record {
        tokens = rw c (counted_all _);
        nodes = rw e (counted_all _);
        errors = rw (eqb-true (errors_in ds) 0 z) (counted_all 0);
        warnings = counted_all _;
        stmts = λ _. counted_all _;
        none_held = λ n. absurd (n refl);
        compared = counted_all _;
      }))
      (λ z.
      record {
        tokens = rw c (counted_all _);
        nodes = rw e (counted_all _);
        errors = counted_all _;
        warnings = counted_all _;
        stmts = λ n. absurd (eqb-false (errors_in ds) 0 z n);
        none_held = λ _. refl;
        compared = counted_all _;
      })

  judged_counts : (room t n : ℕ) → t ≡ length (tokens s) → n ≡ length (parsed_nodes (parse s)) → (o : Outcome) → checked s ≡ o
      → CheckCounts (found_by o) (held_by o) (looks_by o) (judged_within s room t n o)
  unfolding checked
  judged_counts room t n c e (refused m at) q =
      check_refused [] [] [] (placed m (token_place s at))
      (elim (refused_for (contents (tokens s)) (statements_of (parse s)) m at q) [ inl e ↦ omega (arith, e) | inr e ↦ omega (arith, e) ])
  judged_counts room t n c e (judged ds hs ls) q = within_counts room t n ds hs ls c e

  check_counts : (t n k : ℕ) → CheckCounts (found_by (checked s)) (held_by (checked s)) (looks_by (checked s)) (check_answer s t n k)
  unfolding check_answer
  check_counts t n k =
      let p = parse_answer s t n in
      let c = parse_counts s t n in
      let P = CheckCounts (found_by (checked s)) (held_by (checked s)) (looks_by (checked s)) in
      by_cases P (eqb p.verdict.number 0)
      (λ e. judged_counts k p.tokens p.nodes (same_count c.0 e) (same_count c.1 e) (checked s) refl)
      (λ e. check_refused _ _ _ p.verdict (let z = eqb-false p.verdict.number 0 e in omega (arith, z)))

-- ---- the claims

lexeme_long : (p : Placed) → length (lexeme_row p) ≡ lexeme_width
unfolding lexeme_row
lexeme_long p = refl

pub scan_left : ScanLeft
unfolding scan_table
scan_left line n = leaves lexeme_row lexeme_width lexeme_long refl (scan_counts line (n / lexeme_width))

pub lex_left : LexLeft
unfolding lex_table
lex_left s n = leaves token_row token_width row_width refl (lex_counts s (n / token_width))

pub parse_left : ParseLeft
unfolding parse_tokens parse_nodes
parse_left s t n =
    let c = parse_counts s (t / token_width) (n / node_width) in
    record { tokens = leaves token_row token_width row_width refl c.0; nodes = leaves node_row node_width row_long refl c.1 }

-- a text is a table of its bytes
flat_bytes : (bs : List ℕ) → flat byte_row bs ≡ bs
flat_bytes [] = refl
flat_bytes (b ∷ bs) = ap (λ (xs : List ℕ). b ∷ xs) (flat_bytes bs)

pad_take : (n : ℕ) (bs : List ℕ) → pad_to n (take n bs) ≡ pad_to n bs
unfolding pad_to
pad_take zero bs = refl
pad_take (suc n) [] = refl
pad_take (suc n) (b ∷ bs) = ap (λ (xs : List ℕ). b ∷ xs) (pad_take n bs)

text_table : (n : ℕ) (bs : List ℕ) → pad_to n bs ≡ tabled byte_row 1 n bs
unfolding tabled
text_table n bs = rw (flat_bytes (take (n / 1) bs), div-one) (sym (pad_take n bs))

pub canon_left : CanonLeft
unfolding canon_tokens canon_text
canon_left s t n =
    let c = canon_counts s (t / token_width) n in
    record { tokens = leaves token_row token_width row_width refl c.0; text = leaves byte_row 1 (λ _. refl) (text_table n _) c.1 }

module _ (s : List ℕ) where
  diag_long : (d : Diag) → length (diag_row (token_of s) d) ≡ diag_width
  unfolding diag_row
  diag_long d = refl

  stmt_long : (h : Row) → length (stmt_row (token_of s) h) ≡ stmt_width
  unfolding stmt_row
  stmt_long h = refl

-- of check, where no error was counted, or one was
module _ {A : Type 0} (xs : List A) (errors : ℕ) where
  clean : (number : ℕ) → (number ≡ 0 → errors ≡ 0) → if' (eqb number 0) (if' (eqb errors 0) xs []) [] ≡ if' (eqb number 0) xs []
  clean number h = both_sides (λ a b. a ≡ b) (eqb number 0) (λ e. rw (eq-eqb errors 0 (h (eqb-true number 0 e)))) (λ _. refl)

  dropped : (b : Bool) → (errors ≡ 0 → ⊥) → if' b (if' (eqb errors 0) xs []) [] ≡ []
  dropped true h = rw (ne_eqb errors 0 h)
  dropped false h = refl

pub check_left : CheckLeft
unfolding check_tokens check_nodes check_diags check_stmts comparisons
check_left s t n d k =
    let a = check_answer s (t / token_width) (n / node_width) (k / stmt_width) in
    let c = check_counts s (t / token_width) (n / node_width) (k / stmt_width) in
    let ds = found_by (checked s) in
    let hs = rows_by (checked s) in
    let number = a.verdict.number in
    record {
      tokens = leaves token_row token_width row_width refl c.tokens;
      nodes = leaves node_row node_width row_long refl c.nodes;
      diags = leaves (diag_row (token_of s)) diag_width (diag_long s) refl
          (λ z. rw (c.errors.0 z, c.warnings.0 z), λ z. rw (c.errors.1 z, c.warnings.1 z) (all_counted ds));
      wrong = λ z. c.errors.1 z ∙ sym (severe_errors s ds);
      warned = λ z. c.warnings.1 z ∙ sym (severe_warnings s ds);
      stmts = λ e. leaves (stmt_row (token_of s)) stmt_width (stmt_long s)
          (ap (tabled (stmt_row (token_of s)) stmt_width k) (clean hs (errors_in ds) number (λ z. sym (c.errors.1 z) ∙ e))) (c.stmts e);
      none_held = λ e. (
        c.none_held e,
        let z : number ≡ 0 = counted_done c.errors e in
            let f : errors_in ds ≡ 0 → ⊥ = λ q. e (c.errors.1 z ∙ q) in
            λ i. rw (dropped hs (errors_in ds) (eqb number 0) f, tabled_none) (zero_words k i),
      );
      compares = c.compared.1;
      none_compared = c.compared.0;
    }

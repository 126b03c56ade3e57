-- The proofs of the claims of specs/Canonical.antt.
use Prim.Native.Nat.{ℕ, ◌/◌, ◌≤◌}
use mathlib.Core.Path.{◌≡◌, sym, ap, ◌∙◌}
use mathlib.Core.Bool.{Bool, true, false}
use mathlib.Core.List.Memᴰ
use mathlib.Core.List.{List, [], Memᴰ}
use native.Mathlib.Omega.{arith}
use lib.Dec.{eqb}
use lib.ListN.{length, take}
use Rattle.table.specs.Table.{pad_to}
use Rattle.table.proofs.Laws.{pad_prefix}
use Rattle.language.specs.Choice.{if'}
use Rattle.language.specs.Tables.{token_width}
use Rattle.language.specs.Tokens.{tokens, contents}
use Rattle.language.specs.Canonical.{text}
use Rattle.language.specs.Sentences.{node_width}
use Rattle.language.specs.Judgements.{errors_in}
use Rattle.language.specs.Findings.{stmt_width}
use Rattle.language.specs.Numbers.{verdict, lexed, canonised, parse_answer, parse_nodes, found_by, checked, check_answer, check_nodes}
use Rattle.language.specs.Checks.{diags_left, stmts_left, CheckedAlike}
use Rattle.parse.specs.declared.ParseAnswer.{ParseAnswer}
use Rattle.parse.specs.Entry.{parsed_as}
use Rattle.checker.specs.declared.CheckAnswer.{CheckAnswer}
use Rattle.checker.specs.Entry.{checked_as, CheckSource}
use Rattle.language.proofs.Canonical.{round_trip, own_text, same_text}
use Rattle.language.proofs.TokenContents.{contents_decide}
use Rattle.language.proofs.ParseClaims.{text_parsed}
use Rattle.language.proofs.CheckClaims.{text_checked}
use Rattle.language.proofs.Done.{LexesIn, lex_done, lex_leaves, FitsIn, lexes_in, canon_done, canon_done_only, canon_leaves_tokens, canon_leaves_text}
use Rattle.lex.specs.declared.Lexed.{Lexed}
use Rattle.lex.specs.Lexing.{lexed_as}
use Rattle.lex.specs.Entry.{LexSource, Lexes}
use Rattle.canon.specs.declared.Canonised.{Canonised}
use Rattle.canon.specs.Entry.{canonised_as, CanonSource}
use Rattle.joined.specs.Canonical.{Done, text_left, SameRows, DoneExactly, TextLexes, TextStays, SameTexts, SameTables, TextParses, SameLeft, TextChecks}
use Rattle.lex.proofs.Left.{holds}
use Rattle.joined.proofs.SameRows.{same_rows, same_written}

-- ---- what a call that is done left

module _ {s : List ℕ} {t n : ℕ} {r : Canonised} {toks left : List ℕ} (c : CanonSource s t n r toks left) (z : Done r) where
  fits : FitsIn s (t / token_width) n
  fits = canon_done_only s (t / token_width) n (sym (ap (λ (x : Canonised). x.verdict.number) c.answer) ∙ z)

  answer_is : r ≡ canonised_as (canonised (verdict 0 0 0) (length (tokens s)) (length (text s)))
  answer_is = c.answer ∙ ap canonised_as (canon_done s (t / token_width) n fits)

  counted : r.tokens ≡ length (tokens s)
  counted = ap (λ (x : Canonised). x.tokens) answer_is

  all_tokens : Lexes s toks r.tokens
  all_tokens = holds s t (lexes_in fits) (c.table ∙ canon_leaves_tokens s t n fits) counted

  text_is : left ≡ pad_to n (text s)
  text_is = c.text ∙ canon_leaves_text s t n fits

  -- its text is the text of the source
  written : text_left r left ≡ text s
  written = ap (λ (x : Canonised). take x.bytes left) answer_is ∙ rw text_is (pad_prefix n (text s) fits.bytes)

  -- ---- that text, as a source

  same : contents (tokens (text s)) ≡ contents (tokens s)
  same = (round_trip s fits.fits).1

  own : text (text s) ≡ text s
  own = own_text s fits.fits

  as_many : length (tokens (text s)) ≡ length (tokens s)
  as_many = (contents_decide (tokens (text s)) (tokens s) same).0

  text_lexes_in : {room : ℕ} → r.tokens ≤ room → LexesIn (text s) room
  text_lexes_in h = record { lexes = (round_trip s fits.fits).0; fit = omega (arith, h, as_many, counted) }

  text_fits : {room m : ℕ} → r.tokens ≤ room → r.bytes ≤ m → FitsIn (text s) room m
  text_fits h b =
      let l = text_lexes_in h in
      record {
        fits = record { lexes = l.lexes; short = rw own fits.fits.short };
        tokens = l.fit;
        bytes = omega (arith, b, ap length own, ap (λ (x : Canonised). x.bytes) answer_is);
      }

  lexed_again : {k : ℕ} {q : Lexed} {table : List ℕ} → LexSource (text s) k q table → r.tokens ≤ k / token_width
      → (q.verdict.number ≡ 0) × (q.tokens ≡ r.tokens) × (contents (tokens (text s)) ≡ contents (tokens s))
      × SameRows s (text s) toks table
  lexed_again {k = n} {q} {table} l room =
      let h = text_lexes_in room in
      let e : q ≡ lexed_as (lexed (verdict 0 0 0) (length (tokens (text s)))) =
      l.answer ∙ ap lexed_as (lex_done (text s) (n / token_width) h) in
      let k : q.tokens ≡ length (tokens (text s)) = ap (λ (x : Lexed). x.tokens) e in
      let all : Lexes (text s) table q.tokens = holds (text s) n h (l.table ∙ lex_leaves (text s) n h) k in
      (ap (λ (x : Lexed). x.verdict.number) e, k ∙ as_many ∙ sym counted, same, same_rows all_tokens all (sym same))

  canonised_again : {k m : ℕ} {q : Canonised} {table kept : List ℕ} → CanonSource (text s) k m q table kept
      → r.tokens ≤ k / token_width → r.bytes ≤ m → (q ≡ r) × (kept ≡ pad_to m (text s))
  canonised_again {k} {m} d a b =
      let h = text_fits a b in (
        d.answer ∙ rw (canon_done (text s) (k / token_width) m h, as_many, own) (sym answer_is),
        d.text ∙ canon_leaves_text (text s) k m h ∙ ap (pad_to m) own,
      )

-- ---- the claims

pub done_exactly : DoneExactly
done_exactly source t n r toks left c =
    let answers : FitsIn source (t / token_width) n → Done r =
    λ h. ap (λ (x : Canonised). x.verdict.number) (c.answer ∙ ap canonised_as (canon_done source (t / token_width) n h)) in (
      λ z. ((fits c z).fits, (fits c z).tokens, (fits c z).bytes, written c z),
      λ h. answers (record { fits = h.0; tokens = h.1; bytes = h.2 }),
    )

pub text_lexes : TextLexes
text_lexes source t n r toks left c z k q table l h = rw (written c z) (lexed_again c z (rw (written c z) at l) h)

pub text_stays : TextStays
text_stays source t n r toks left c z k m q table kept d a b =
    rw (written c z) (canonised_again c z (rw (written c z) at d) a b)

pub same_texts : SameTexts
same_texts s u t n k m r q a b x y c d z w =
    let both = same_text s u (fits c z).fits (fits d w).fits in
    (λ e. both.0 (sym (written c z) ∙ e ∙ written d w), λ e. written c z ∙ both.1 e ∙ sym (written d w))

pub same_tables : SameTables
same_tables s u t n k m r q a b x y c d z w =
    let told = (same_texts s u t n k m r q a b x y c d z w).0 in
    let h = all_tokens c z in
    let g = all_tokens d w in (
      λ e. (counted c z ∙ (contents_decide (tokens s) (tokens u) (told e)).0 ∙ sym (counted d w), same_rows h g (told e)),
      λ e. written c z ∙ same_written h g e.0 e.1 ∙ sym (written d w),
    )

-- ---- parse and check

-- a field of two answers, to the text and to its source
same_field : {A B : Type 0} (f : A → B) (answer : List ℕ → A) {s u : List ℕ} {p q : A} → p ≡ answer s → q ≡ answer u → u ≡ text s
    → f (answer (text s)) ≡ f (answer s) → f q ≡ f p
same_field f answer c d w e = ap f d ∙ ap (λ (v : List ℕ). f (answer v)) w ∙ e ∙ sym (ap f c)

pub text_parses : TextParses
text_parses s t n r toks left c z j m p q a b x y f g =
    let w = written c z in
    let h = text_parsed s (fits c z).fits in
    let k = h.1 (j / token_width) (m / node_width) in
    let answer : List ℕ → ParseAnswer = λ v. parsed_as (parse_answer v (j / token_width) (m / node_width)) in (
      g.nodes ∙ ap (λ (v : List ℕ). parse_nodes v j m) w ∙ h.0 j m ∙ sym f.nodes,
      same_field (λ (v : ParseAnswer). v.verdict.number) answer f.answer g.answer w k.verdict.number,
      same_field (λ (v : ParseAnswer). v.verdict.kind) answer f.answer g.answer w k.verdict.kind,
      same_field (λ (v : ParseAnswer). v.tokens) answer f.answer g.answer w k.tokens,
      same_field (λ (v : ParseAnswer). v.nodes) answer f.answer g.answer w k.nodes,
    )

-- a member of a list that is kept or dropped is a member of it
kept : {A : Type 0} {c : A} {xs : List A} (b : Bool) → Memᴰ c (if' b xs []) → Memᴰ c xs
kept true m = m
kept false m = absurd (Memᴰ.not-nil m)

-- what calls of check leave for the text and for its source
same_left : (s : List ℕ) → CheckedAlike (text s) s → {t m d k : ℕ} {p q : CheckAnswer} {a b x y v w g h : List ℕ}
    → CheckSource s t m d k p a x v g → CheckSource (text s) t m d k q b y w h → SameLeft (text s) s d k w v h g
same_left s l {t} {m} {d} {k} e f =
    let u = text s in
    let two = l.diags t m k d in
    let both = l.stmts t m k in
    let done = eqb (check_answer u (t / token_width) (m / node_width) (k / stmt_width)).verdict.number 0 in
    let clean = eqb (errors_in (found_by (checked u))) 0 in
    record {
      found = diags_left u t m k;
      held = stmts_left u t m k;
      diags = (f.diags ∙ two.0, e.diags ∙ two.1);
      stmts = (f.stmts ∙ both.0, e.stmts ∙ both.1);
      finding = λ c n. l.finding c (kept done n);
      statement = λ c n. l.statement c (kept clean (kept done n));
    }

pub text_checks : TextChecks
text_checks s t n r toks left c z j m d k p q a b x y v w g h e f =
    let u = written c z in
    let l = text_checked s (fits c z).fits in
    let o = l.answer (j / token_width) (m / node_width) (k / stmt_width) in
    let answer : List ℕ → CheckAnswer = λ i. checked_as (check_answer i (j / token_width) (m / node_width) (k / stmt_width)) in (
      f.nodes ∙ ap (λ (i : List ℕ). check_nodes i j m k) u ∙ l.nodes j m k ∙ sym e.nodes,
      same_field (λ (i : CheckAnswer). i.verdict.number) answer e.answer f.answer u o.verdict.number,
      same_field (λ (i : CheckAnswer). i.verdict.kind) answer e.answer f.answer u o.verdict.kind,
      same_field (λ (i : CheckAnswer). i.tokens) answer e.answer f.answer u o.tokens,
      same_field (λ (i : CheckAnswer). i.nodes) answer e.answer f.answer u o.nodes,
      same_field (λ (i : CheckAnswer). i.errors) answer e.answer f.answer u o.errors,
      same_field (λ (i : CheckAnswer). i.warnings) answer e.answer f.answer u o.warnings,
      same_field (λ (i : CheckAnswer). i.statements) answer e.answer f.answer u o.statements,
      same_field (λ (i : CheckAnswer). i.comparisons) answer e.answer f.answer u o.comparisons,
      rw u (same_left s l e (rw u at f)),
    )

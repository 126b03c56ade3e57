-- Checking goes by contents alone.
use Prim.Native.Nat.{ℕ, ◌/◌}
use mathlib.Core.Path.{◌≡◌, refl, sym, ap, ◌∙◌}
use mathlib.Core.Bool.{Bool, true}
use mathlib.Core.List.{List, []}
use native.Mathlib.Omega.{arith}
use lib.Dec.{ltb, eqb}
use lib.ListN.{length}
use Rattle.language.specs.Choice.{if'}
use Rattle.language.specs.Tokens.{Content, name, Token, tokens, contents, between}
use Rattle.language.specs.Tables.{token_width}
use Rattle.language.specs.Sentences.{is, program, node_width}
use Rattle.language.specs.Values.{is_string, Ty, ty_void, ty_bool, ty_int, ty_ip4, ty_sock4, ty_bytes, ty_pkt, ty_pkt_gen, ty_time_jump, ty_function, ty_integer}
use Rattle.language.specs.Judgements.{What, unknown_name, unknown_item, unknown_module, not_imported, not_a_module, not_a_value, already_bound, no_members, operand_type, not_callable, too_many_args, too_few_args, arg_type, void_value, integral_too_large, multiple_imports, discarded_value, truncated, overflow, Diag, errors_in, Held, Outcome, judged, refused, judge_all, name_at}
use Rattle.language.specs.Findings.{ty_text, what_kind, Detail, named, detail, diag_row, Row, rows_of, stmt_row, stmt_width}
use Rattle.language.specs.Canonical.{text, Lexes}
use Rattle.language.specs.Numbers.{Verdict, placed, Parsed, token_place, parse_answer, SameVerdict, SameParse, Checked, sum, refused_check, held_by, statements_of, checked, checked_within, judged_within, check_answer, token_of, check_nodes, check_diags, check_stmts}
use Rattle.language.specs.Checks.{TokenShown, SameCheck, SameDetail, SameFinding, SameStatement, bodies_at, CheckedByContents, TextChecked}
use Rattle.language.proofs.Tests.{each_side, both_sides}
use Rattle.language.proofs.Canonical.{round_trip}
use Rattle.language.proofs.ParseClaims.{same_nowhere, same_token, parsed_by_contents}
use Rattle.language.proofs.TokenTexts.{name_shown, bodies_shown}
use Rattle.language.proofs.FindingTokens.{Shown, Right, outcome_grounded}
use Rattle.language.proofs.HeldRows.{GoodRow, rows_good}

-- ---- answers

-- what follows parsing, by whether it is done: the answer goes by the contents but for the places of tokens
checked_after : List ℕ → ℕ → List Content → Parsed → Bool → Checked
checked_after s room cs p done =
    if' done (judged_within s room p.tokens p.nodes (judge_all cs (statements_of (program cs)))) (refused_check p.verdict)

checked_by : (s : List ℕ) (t n k : ℕ)
    → let p = parse_answer s t n in check_answer s t n k ≡ checked_after s k (contents (tokens s)) p (eqb p.verdict.number 0)
unfolding check_answer checked checked_after
checked_by s t n k = refl

module _ (s u : List ℕ) where
  -- answers that differ in their verdicts alone
  alike : (a : Checked) (v : Verdict) → SameVerdict s u a.verdict v
      → SameCheck s u a
      (record { verdict = v; tokens = a.tokens; nodes = a.nodes; errors = a.errors; warnings = a.warnings; statements = a.statements; comparisons = a.comparisons })
  alike a v e = record { verdict = e; tokens = refl; nodes = refl; errors = refl; warnings = refl; statements = refl; comparisons = refl }

  same : (a : Checked) → a.verdict.line ≡ 0 → a.verdict.column ≡ 0 → SameCheck s u a a
  same a l c = alike a a.verdict (same_nowhere a.verdict l c)

  same_at : (n at : ℕ) → SameCheck s u (refused_check (placed n (token_place s at))) (refused_check (placed n (token_place u at)))
  same_at n at = alike (refused_check (placed n (token_place s at))) (placed n (token_place u at)) (same_token s u n 0 at)

  same_within : (room t n : ℕ) (ds : List Diag) (hs : List Held) (c : ℕ)
      → let a = checked_within room t n ds hs c in SameCheck s u a a
  same_within room t n ds hs c =
      each_side (λ a. SameCheck s u a a) (eqb (errors_in ds) 0)
      (each_side (λ a. SameCheck s u a a) (ltb room (length (rows_of hs))) (same _ refl refl) (same _ refl refl)) (same _ refl refl)

  module _ {p q : Parsed} (h : SameParse s u p q) where
    same_judged : (room : ℕ) (o : Outcome)
        → SameCheck s u (judged_within s room p.tokens p.nodes o) (judged_within u room q.tokens q.nodes o)
    same_judged room (refused m at) = same_at m at
    same_judged room (judged ds hs ls) = rw (h.tokens, h.nodes) (same_within room q.tokens q.nodes ds hs (sum ls))

    same_after : (room : ℕ) (cs : List Content) (a b : Bool) → a ≡ b
        → SameCheck s u (checked_after s room cs p a) (checked_after u room cs q b)
    unfolding checked_after
    same_after room cs a b e =
        rw e
        (both_sides (SameCheck s u) b
        (λ _. same_judged room (judge_all cs (statements_of (program cs))))
        (λ _. alike (refused_check p.verdict) q.verdict h.verdict))

same_answer : (s u : List ℕ) → Lexes s → Lexes u → contents (tokens s) ≡ contents (tokens u) → (t n k : ℕ)
    → SameCheck s u (check_answer s t n k) (check_answer u t n k)
same_answer s u h l e t n k =
    let p = (parsed_by_contents s u h l e).1 t n in
    rw (checked_by s t n k, checked_by u t n k, e)
    (same_after s u p k (contents (tokens u)) _ _ (ap (λ (m : ℕ). eqb m 0) p.verdict.number))

-- and so is its number, by the words of tables
same_number : (s u : List ℕ) → Lexes s → Lexes u → contents (tokens s) ≡ contents (tokens u) → (t n k : ℕ)
    → (check_answer s (t / token_width) (n / node_width) (k / stmt_width)).verdict.number
    ≡ (check_answer u (t / token_width) (n / node_width) (k / stmt_width)).verdict.number
same_number s u h l e t n k = (same_answer s u h l e (t / token_width) (n / node_width) (k / stmt_width)).verdict.number

-- ---- findings

-- a type's text is none of the source
pub no_source : (t : Ty) → ty_text t ≡ 1 → ⊥
no_source ty_void e = omega arith
no_source ty_bool e = omega arith
no_source ty_pkt e = omega arith
no_source ty_pkt_gen e = omega arith
no_source ty_time_jump e = omega arith
no_source (ty_int t) e = omega arith
no_source ty_ip4 e = omega arith
no_source ty_sock4 e = omega arith
no_source ty_bytes e = omega arith
no_source (ty_function k) e = omega arith
no_source ty_integer e = omega arith

module _ (s u : List ℕ) where
  -- details that go by no token
  same_detail : (w : What) (a : Detail) → (a.text ≡ 1 → ⊥) → (what_kind w ≡ 8 → ⊥) → SameDetail s u w a a
  same_detail w a n b =
      record {
        severity = refl;
        kind = refl;
        text = refl;
        name = λ e. absurd (n e);
        start = λ _. refl;
        end = λ _. refl;
        type = refl;
        bound = λ t e. absurd (b (ap what_kind e));
        first = λ _. refl;
        second = λ _. refl;
        third = refl;
      }

  -- two tokens that show the same name
  module _ (t v : Token) (e : between s t.start t.end ≡ between u v.start v.end) where
    -- the words after the name are the same, or they are the place of one token
    same_shown : (w : What) (a b c d : ℕ)
        → ((x : ℕ) → w ≡ already_bound x → TokenShown s (named w t a b) x × TokenShown u (named w v c d) x)
        → (((x : ℕ) → w ≡ already_bound x → ⊥) → (a ≡ c) × (b ≡ d)) → SameDetail s u w (named w t a b) (named w v c d)
    same_shown w a b c d bound more =
        record {
          severity = refl;
          kind = refl;
          text = refl;
          name = λ _. e;
          start = λ n. absurd (n refl);
          end = λ n. absurd (n refl);
          type = refl;
          bound = bound;
          first = λ n. (more n).0;
          second = λ n. (more n).1;
          third = refl;
        }

    same_named : (w : What) (a b : ℕ) → (what_kind w ≡ 8 → ⊥) → SameDetail s u w (named w t a b) (named w v a b)
    same_named w a b n = same_shown w a b a b (λ x q. absurd (n (ap what_kind q))) (λ _. (refl, refl))

    same_bound : (x : ℕ)
        → SameDetail s u (already_bound x) (named (already_bound x) t (token_of s x).line (token_of s x).column)
        (named (already_bound x) v (token_of u x).line (token_of u x).column)
    same_bound x =
        same_shown (already_bound x) _ _ _ _ (λ y q. let z : x ≡ y = cc in rw z ((refl, refl), (refl, refl))) (λ n. absurd (n x refl))

  module _ (e : contents (tokens s) ≡ contents (tokens u)) where
    abbrev cs : List Content
    cs = contents (tokens s)

    same_name : (at : ℕ) → is cs at (name []) ≡ true
        → between s (token_of s at).start (token_of s at).end ≡ between u (token_of u at).start (token_of u at).end
    same_name at h =
        name_shown s at h ∙ ap (λ (x : List Content). name_at x at) e ∙ sym (name_shown u at (rw e at h))

    shows : (at : ℕ) (w : What) (a b : ℕ) → is cs at (name []) ≡ true → (what_kind w ≡ 8 → ⊥)
        → SameDetail s u w (named w (token_of s at) a b) (named w (token_of u at) a b)
    shows at w a b h = same_named (token_of s at) (token_of u at) (same_name at h) w a b

    same_what : (at : ℕ) (w : What) → Shown cs w at → SameDetail s u w (detail (token_of s) at w) (detail (token_of u) at w)
    same_what at unknown_name h = shows at unknown_name 0 0 h (omega arith)
    same_what at (unknown_item m) h = shows at (unknown_item m) m 0 h.0 (omega arith)
    same_what at unknown_module h = shows at unknown_module 0 0 h (omega arith)
    same_what at not_imported h = shows at not_imported 0 0 h (omega arith)
    same_what at not_a_module h = shows at not_a_module 0 0 h (omega arith)
    same_what at not_a_value h = shows at not_a_value 0 0 h (omega arith)
    same_what at multiple_imports h = shows at multiple_imports 0 0 h (omega arith)
    same_what at (already_bound t) h = same_bound (token_of s at) (token_of u at) (same_name at h.0) t
    same_what at (no_members t) h = same_detail _ _ (no_source t) (omega arith)
    same_what at (operand_type x t f) h = same_detail _ _ (no_source f) (omega arith)
    same_what at (not_callable t) h = same_detail _ _ (no_source t) (omega arith)
    same_what at (too_many_args f a b) h = same_detail _ _ (no_source (ty_function f)) (omega arith)
    same_what at (too_few_args f a b) h = same_detail _ _ (no_source (ty_function f)) (omega arith)
    same_what at (arg_type f i t x) h = same_detail _ _ (no_source x) (omega arith)
    same_what at void_value h = same_detail _ _ (omega arith) (omega arith)
    same_what at (overflow t x) h = same_detail _ _ (no_source t) (omega arith)
    same_what at (discarded_value t) h = same_detail _ _ (no_source t) (omega arith)
    same_what at (truncated n t) h = same_detail _ _ (no_source t) (omega arith)
    same_what at integral_too_large h = same_detail _ _ (omega arith) (omega arith)

    -- a finding has its statement's number in both
    same_finding : (d : Diag) → Shown cs d.what d.at → SameFinding s u d
    unfolding diag_row
    same_finding d h = record { detail = same_what d.at d.what h; statement = refl }

    -- ---- statements

    same_bodies : (t : ℕ) → Right cs (is_string t) → bodies_at s t ≡ bodies_at u t
    same_bodies t (b, bs, h) = bodies_shown s t b bs h ∙ sym (bodies_shown u t b bs (rw e at h))

    same_row_lem : (r : Row) → GoodRow cs r → SameStatement s u r
    unfolding stmt_row
    same_row_lem r h = record { does = refl; says = refl; bodies = λ p t q. same_bodies t (rw q at h.good).1 }

-- ---- the claims

pub checked_by_contents : CheckedByContents
unfolding checked check_nodes check_diags check_stmts
checked_by_contents s u h l e =
    let g = outcome_grounded (contents (tokens s)) in
    record {
      answer = same_answer s u h l e;
      nodes = λ t n k. rw (same_number s u h l e t n k, e);
      outcome = rw e;
      diags = λ t n k m. (refl, rw (same_number s u h l e t n k, e));
      stmts = λ t n k. (refl, rw (same_number s u h l e t n k, e));
      finding = λ d m. same_finding s u e d (g.found.holds d m).shown;
      statement = λ r m. same_row_lem s u e r ((rows_good (contents (tokens s)) (held_by (checked s)) g.kept).holds r m);
    }

pub text_checked : TextChecked
text_checked s f = let r = round_trip s f in checked_by_contents (text s) s r.0 f.lexes r.1

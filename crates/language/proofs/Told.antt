-- What rows tell: everything is read back from them.
use Prim.Native.Nat.{ℕ, zero, suc, ◌+◌, ◌*◌, ◌/◌, ◌%◌, ◌<◌}
use mathlib.Core.Path.{◌≡◌, refl, sym, ap, ◌∙◌}
use mathlib.Core.Bool.{Bool, true, false}
use mathlib.Core.List.{List, [], ◌∷◌, ◌++◌, map, append_assoc, Memᴰ}
use mathlib.Core.Option.{some}
use native.Mathlib.Nat.{div-add-mod'}
use native.Mathlib.Omega.{arith}
use borrow.Author.Tests.{eqb-true, eqb-false}
use lib.Dec.{eqb}
use lib.ListN.{length, get_or}
use Rattle.language.specs.Choice.{if'}
use Rattle.language.specs.Lexemes.{Tok, l_paren, r_paren, dot, double_colon, colon, semi_colon, equals, comma, slash, import_keyword, let_keyword, identifier, boolean_literal, ipv4_literal, hex_literal, dec_literal, LexErrorKind, unexpected_char, unterminated_string, int_out_of_range, int_leading_zero, int_invalid_suffix, bad_ipv4_literal, Kind, trivia, str, tok, error}
use Rattle.language.specs.Tables.{tok_kind, word_limit, tok_low, tok_high, error_kind, error_char, class_of, kind_of, low_of, high_of, lexeme_row, content_kind, content_low, content_high, token_row}
use Rattle.language.specs.Integers.{u8, u16, u32, u64}
use Rattle.language.specs.Tokens.{Content, eof, plain, name, string, Token, tokens, contents, between, bodies_in}
use Rattle.language.specs.Values.{Value, is_integer, is_bool, is_sized, is_ip4, is_sock4, is_string, is_text, is_function, Ty, ty_void, ty_bool, ty_int, ty_ip4, ty_sock4, ty_bytes, ty_pkt, ty_pkt_gen, ty_time_jump, ty_function, ty_integer, ty_kind, type_of, entries, entry_at}
use Rattle.language.specs.Terms.{constant, slot, Term, atom, called, divided, Terms, no_more, more, count, term_at, term_type}
use Rattle.language.specs.Judgements.{Side, left, right, What, unknown_name, unknown_item, unknown_module, not_imported, not_a_module, not_a_value, already_bound, no_members, operand_type, not_callable, too_many_args, too_few_args, arg_type, void_value, integral_too_large, multiple_imports, discarded_value, truncated, overflow, Deed, lets, emits, waits, evals, discards, Held}
use Rattle.language.specs.Findings.{ty_entry, side_kind, Detail, detail, diag_row, value_text, shown_low, shown_high, Row, row, part, parts, arg_parts, rows_of, deed_kind, deed_slot, form_of, term_text, term_low, term_high, stmt_row}
use Rattle.language.specs.Numbers.{checked}
use Rattle.language.specs.Told.{LexemesDetermine, TokensDetermine, BodiesCounted, Apart, RealTy, PlainTy, RealValue, RealTerm, RealTerms, RealHeld, RealWhat, FindingsDetermine, StatementsDetermine, CheckedReal}
use Rattle.language.proofs.Tests.{never}
use Rattle.language.proofs.Forms.{no_end, no_string, tok_form}
use Rattle.language.proofs.Each.{Each}
use Rattle.language.proofs.TokenContents.{as_many}
use Rattle.language.proofs.FindingTokens.{NamedTy, Shown, name_there, Right, Good, GoodAll, There, Kept, outcome_grounded}
use Rattle.language.proofs.TokenClaims.{names_held, bodies_held, name_kind}

-- what has one number of a list of numbered things, and else the last
module _ {A : Type 0} where
  numbered : List (ℕ × A) → A → ℕ → A
  numbered [] z k = z
  numbered (p ∷ ps) z k = if' (eqb k p.0) p.1 (numbered ps z k)

-- a number of two words
word_back : (n : ℕ) → n / word_limit * word_limit + n % word_limit ≡ n
word_back n = div-add-mod' n word_limit

-- ---- lexemes

read_tok : ℕ → ℕ → ℕ → Tok
read_tok k low high =
    numbered ((2, l_paren) ∷ (3, r_paren) ∷ (4, dot) ∷ (5, double_colon) ∷ (6, colon) ∷ (7, semi_colon) ∷ (8, equals) ∷ (9, comma)
    ∷ (10, slash) ∷ (11, import_keyword) ∷ (12, let_keyword) ∷ (13, identifier) ∷ (14, boolean_literal (eqb low 1)) ∷ (15, ipv4_literal low)
    ∷ (17, hex_literal (high * word_limit + low)) ∷ (18, dec_literal (high * word_limit + low)) ∷ []) l_paren k

tok_back : (t : Tok) → read_tok (tok_kind t) (tok_low t) (tok_high t) ≡ t
unfolding read_tok numbered
tok_back l_paren = refl
tok_back r_paren = refl
tok_back dot = refl
tok_back double_colon = refl
tok_back colon = refl
tok_back semi_colon = refl
tok_back equals = refl
tok_back comma = refl
tok_back slash = refl
tok_back import_keyword = refl
tok_back let_keyword = refl
tok_back identifier = refl
tok_back (boolean_literal true) = refl
tok_back (boolean_literal false) = refl
tok_back (ipv4_literal n) = refl
tok_back (hex_literal n) = ap hex_literal (word_back n)
tok_back (dec_literal n) = ap dec_literal (word_back n)

read_error : ℕ → ℕ → LexErrorKind
read_error k low =
    numbered ((1, unexpected_char low) ∷ (2, unterminated_string) ∷ (3, int_out_of_range) ∷ (4, int_leading_zero) ∷ (5, int_invalid_suffix)
    ∷ (6, bad_ipv4_literal) ∷ []) int_out_of_range k

error_back : (e : LexErrorKind) → read_error (error_kind e) (error_char e) ≡ e
unfolding read_error numbered
error_back (unexpected_char c) = refl
error_back unterminated_string = refl
error_back int_out_of_range = refl
error_back int_leading_zero = refl
error_back int_invalid_suffix = refl
error_back bad_ipv4_literal = refl

read_kind : ℕ → ℕ → ℕ → ℕ → Kind
read_kind c k low high = numbered ((1, trivia) ∷ (2, str) ∷ (3, tok (read_tok k low high)) ∷ (4, error (read_error k low)) ∷ []) trivia c

kind_back : (k : Kind) → read_kind (class_of k) (kind_of k) (low_of k) (high_of k) ≡ k
unfolding read_kind numbered
kind_back trivia = refl
kind_back str = refl
kind_back (tok t) = ap tok (tok_back t)
kind_back (error e) = ap error (error_back e)

pub lexemes_determine : LexemesDetermine
unfolding lexeme_row
lexemes_determine p q e =
    let word : (i : ℕ) → get_or (lexeme_row p) i 0 ≡ get_or (lexeme_row q) i 0 = λ i. ap (λ (ws : List ℕ). get_or ws i 0) e in
    let kind : p.kind ≡ q.kind =
    sym (kind_back p.kind) ∙ rw (word 2, word 3, word 4, word 5) (kind_back q.kind) in
    rw (word 0, word 1, kind)

-- ---- tokens

-- contents with the same words, names and strings aside
content_told : (c d : Content) → content_kind c ≡ content_kind d → content_low c ≡ content_low d → content_high c ≡ content_high d
    → (content_kind c ≡ 13 → c ≡ d) → (content_kind c ≡ 16 → c ≡ d) → c ≡ d
content_told (name bs) d k l h f g = f refl
content_told (string b bs) d k l h f g = g refl
content_told eof eof k l h f g = refl
content_told eof (plain u) k l h f g = absurd (no_end (tok_form u (sym k)))
content_told eof (name bs) k l h f g = absurd (omega arith)
content_told eof (string b bs) k l h f g = absurd (omega arith)
content_told (plain t) eof k l h f g = absurd (no_end (tok_form t k))
content_told (plain t) (plain u) k l h f g = ap plain (sym (tok_back t) ∙ rw (k, l, h) (tok_back u))
content_told (plain t) (name bs) k l h f g = f k
content_told (plain t) (string b bs) k l h f g = g k

string_kind : (c : Content) → content_kind c ≡ 16 → (b : List ℕ) × (bs : List (List ℕ)) × (c ≡ string b bs)
string_kind eof e = absurd (omega arith)
string_kind (plain t) e = absurd (no_string (tok_form t e))
string_kind (name bs) e = absurd (omega arith)
string_kind (string b bs) e = (b, bs, refl)

pub tokens_determine : TokensDetermine
unfolding token_row
tokens_determine s t u m n e =
    let word : (i : ℕ) → get_or (token_row t) i 0 ≡ get_or (token_row u) i 0 = λ i. ap (λ (ws : List ℕ). get_or ws i 0) e in
    let span : between s t.start t.end ≡ between s u.start u.end = rw (word 3, word 4) in
    let names : content_kind t.content ≡ 13 → t.content ≡ u.content = λ k.
    let a = name_kind s t m k in
    let b = name_kind s u n (sym (word 0) ∙ k) in
    let same : a.0 ≡ b.0 = sym (names_held s t a.0 m a.1) ∙ span ∙ names_held s u b.0 n b.1 in
    a.1 ∙ ap name same ∙ sym b.1 in
    let strings : content_kind t.content ≡ 16 → t.content ≡ u.content = λ k.
    let a = string_kind t.content k in
    let b = string_kind u.content (sym (word 0) ∙ k) in
    let same : a.0 ∷ a.1 ≡ b.0 ∷ b.1 =
    sym (bodies_held s t a.0 a.1 m a.2) ∙ ap bodies_in span ∙ bodies_held s u b.0 b.1 n b.2 in
    let first : a.0 ≡ b.0 = cc in
    let others : a.1 ≡ b.1 = cc in
    a.2 ∙ rw (first, others) (sym b.2) in
    let content = content_told t.content u.content (word 0) (word 5) (word 6) names strings in
    rw (content, word 1, word 2, word 3, word 4)

pub bodies_counted : BodiesCounted
unfolding token_row
bodies_counted s t m k =
    let a = string_kind t.content k in
    rw (bodies_held s t a.0 a.1 m a.2) (ap content_low a.2)

-- ---- types, sides and entries of the table

-- a function by the start of its name
read_function : ℕ → ℕ
read_function start = numbered ((26, 7) ∷ (38, 10) ∷ (47, 11) ∷ (58, 12) ∷ (64, 13) ∷ (72, 14) ∷ []) 7 start

function_back : (k : ℕ) → (entry_at k).value ≡ some (is_function k) → read_function (entry_at k).start ≡ k
unfolding entries read_function numbered
function_back zero h = never (cc)
function_back (suc zero) h = never (cc)
function_back (suc (suc zero)) h = never (cc)
function_back (suc (suc (suc zero))) h = never (cc)
function_back (suc (suc (suc (suc zero)))) h = never (cc)
function_back (suc (suc (suc (suc (suc zero))))) h = never (cc)
function_back (suc (suc (suc (suc (suc (suc zero)))))) h = never (cc)
function_back (suc (suc (suc (suc (suc (suc (suc zero))))))) h = refl
function_back (suc (suc (suc (suc (suc (suc (suc (suc zero)))))))) h = never (cc)
function_back (suc (suc (suc (suc (suc (suc (suc (suc (suc zero))))))))) h = never (cc)
function_back (suc (suc (suc (suc (suc (suc (suc (suc (suc (suc zero)))))))))) h = refl
function_back (suc (suc (suc (suc (suc (suc (suc (suc (suc (suc (suc zero))))))))))) h = refl
function_back (suc (suc (suc (suc (suc (suc (suc (suc (suc (suc (suc (suc zero)))))))))))) h = refl
function_back (suc (suc (suc (suc (suc (suc (suc (suc (suc (suc (suc (suc (suc zero))))))))))))) h = refl
function_back (suc (suc (suc (suc (suc (suc (suc (suc (suc (suc (suc (suc (suc (suc zero)))))))))))))) h = refl
function_back (suc (suc (suc (suc (suc (suc (suc (suc (suc (suc (suc (suc (suc (suc (suc k))))))))))))))) h = never (cc)

read_ty : ℕ → ℕ → Ty
read_ty k start =
    numbered ((1, ty_void) ∷ (2, ty_bool) ∷ (3, ty_int u8) ∷ (4, ty_int u16) ∷ (5, ty_int u32) ∷ (6, ty_int u64) ∷ (7, ty_ip4) ∷ (8, ty_sock4)
    ∷ (9, ty_bytes) ∷ (10, ty_pkt) ∷ (11, ty_pkt_gen) ∷ (12, ty_time_jump) ∷ (14, ty_function (read_function start)) ∷ (16, ty_integer) ∷ []) ty_bool k

plain_back : (t : Ty) (start : ℕ) → PlainTy t → read_ty (ty_kind t) start ≡ t
unfolding read_ty numbered
plain_back ty_void start h = refl
plain_back ty_bool start h = refl
plain_back (ty_int u8) start h = refl
plain_back (ty_int u16) start h = refl
plain_back (ty_int u32) start h = refl
plain_back (ty_int u64) start h = refl
plain_back ty_ip4 start h = refl
plain_back ty_sock4 start h = refl
plain_back ty_bytes start h = refl
plain_back ty_pkt start h = refl
plain_back ty_pkt_gen start h = refl
plain_back ty_time_jump start h = refl
plain_back ty_integer start h = refl
plain_back (ty_function k) start h = never (cc)

ty_back : (t : Ty) → RealTy t → read_ty (ty_kind t) (entry_at (ty_entry t)).start ≡ t
unfolding read_ty numbered
ty_back ty_void h = refl
ty_back ty_bool h = refl
ty_back (ty_int u8) h = refl
ty_back (ty_int u16) h = refl
ty_back (ty_int u32) h = refl
ty_back (ty_int u64) h = refl
ty_back ty_ip4 h = refl
ty_back ty_sock4 h = refl
ty_back ty_bytes h = refl
ty_back ty_pkt h = refl
ty_back ty_pkt_gen h = refl
ty_back ty_time_jump h = refl
ty_back ty_integer h = refl
ty_back (ty_function k) h = ap ty_function (function_back k h)

read_side : ℕ → Side
read_side k = numbered ((1, left) ∷ (2, right) ∷ []) left k

side_back : (x : Side) → read_side (side_kind x) ≡ x
unfolding read_side numbered
side_back left = refl
side_back right = refl

-- ---- findings

-- all but a name that is bound twice, which tells the place of a token
read_what : ℕ → ℕ → ℕ → ℕ → ℕ → ℕ → What
read_what k start ty a b c =
    numbered ((1, unknown_name) ∷ (2, unknown_item a) ∷ (4, unknown_module) ∷ (5, not_imported) ∷ (6, not_a_module) ∷ (7, not_a_value)
    ∷ (9, no_members (read_ty ty start)) ∷ (10, operand_type (read_side a) (read_ty b 0) (read_ty ty start)) ∷ (11, not_callable (read_ty ty start))
    ∷ (12, too_many_args (read_function start) a b) ∷ (13, too_few_args (read_function start) a b)
    ∷ (19, arg_type a b (read_ty c 0) (read_ty ty start)) ∷ (21, void_value) ∷ (22, integral_too_large) ∷ (23, multiple_imports)
    ∷ (24, discarded_value (read_ty ty start)) ∷ (25, truncated (b * word_limit + a) (read_ty ty start))
    ∷ (26, overflow (read_ty ty start) (read_ty a 0)) ∷ []) unknown_name k

module _ (token_at : ℕ → Token) (n : ℕ) where
  what_back : (at : ℕ) (w : What) → RealWhat n w
      → let d = detail token_at at w in (d.kind ≡ 8 → ⊥) → read_what d.kind d.start d.type d.first d.second d.third ≡ w
  unfolding read_what numbered
  what_back at unknown_name r h = refl
  what_back at (unknown_item m) r h = refl
  what_back at unknown_module r h = refl
  what_back at not_imported r h = refl
  what_back at not_a_module r h = refl
  what_back at not_a_value r h = refl
  what_back at (already_bound t) r h = absurd (h refl)
  what_back at (no_members t) r h = ap no_members (ty_back t r)
  what_back at (operand_type x t u) r h = rw (side_back x, plain_back t 0 r.0, ty_back u r.1)
  what_back at (not_callable t) r h = ap not_callable (ty_back t r)
  what_back at (too_many_args f a b) r h = rw (function_back f r)
  what_back at (too_few_args f a b) r h = rw (function_back f r)
  what_back at (arg_type f i t u) r h = rw (plain_back t 0 r.0, ty_back u r.1)
  what_back at void_value r h = refl
  what_back at integral_too_large r h = refl
  what_back at multiple_imports r h = refl
  what_back at (discarded_value t) r h = ap discarded_value (ty_back t r)
  what_back at (truncated m t) r h = rw (word_back m, ty_back t r)
  what_back at (overflow t u) r h = rw (ty_back t r.0, plain_back u 0 r.1)

  -- a name that is bound twice
  bound_back : (at : ℕ) (w : What) → RealWhat n w
      → let d = detail token_at at w in
      d.kind ≡ 8 → (t : ℕ) × (w ≡ already_bound t) × (t < n) × (d.first ≡ (token_at t).line) × (d.second ≡ (token_at t).column)
  bound_back at (already_bound t) r h = (t, refl, r, refl, refl)
  bound_back at unknown_name r h = absurd (omega arith)
  bound_back at (unknown_item m) r h = absurd (omega arith)
  bound_back at unknown_module r h = absurd (omega arith)
  bound_back at not_imported r h = absurd (omega arith)
  bound_back at not_a_module r h = absurd (omega arith)
  bound_back at not_a_value r h = absurd (omega arith)
  bound_back at (no_members t) r h = absurd (omega arith)
  bound_back at (operand_type x t u) r h = absurd (omega arith)
  bound_back at (not_callable t) r h = absurd (omega arith)
  bound_back at (too_many_args f a b) r h = absurd (omega arith)
  bound_back at (too_few_args f a b) r h = absurd (omega arith)
  bound_back at (arg_type f i t u) r h = absurd (omega arith)
  bound_back at void_value r h = absurd (omega arith)
  bound_back at (overflow t u) r h = absurd (omega arith)
  bound_back at integral_too_large r h = absurd (omega arith)
  bound_back at multiple_imports r h = absurd (omega arith)
  bound_back at (discarded_value t) r h = absurd (omega arith)
  bound_back at (truncated m t) r h = absurd (omega arith)

pub findings_determine : FindingsDetermine
unfolding diag_row
findings_determine token_at n apart d e h g r q eq =
    let at = apart d.at e.at h g (word 0) (word 1) in
    let what = by (eqb x.kind 8) refl in
    rw (word 11, at, what)
  where
    x : Detail
    x = detail token_at d.at d.what

    word : (i : ℕ) → get_or (diag_row token_at d) i 0 ≡ get_or (diag_row token_at e) i 0
    word i = ap (λ (ws : List ℕ). get_or ws i 0) eq

    by : (b : Bool) → eqb x.kind 8 ≡ b → d.what ≡ e.what
    by true k =
        let t = bound_back token_at n d.at d.what r (eqb-true x.kind 8 k) in
        let u = bound_back token_at n e.at e.what q (sym (word 3) ∙ eqb-true x.kind 8 k) in
        let same : t.0 ≡ u.0 =
        apart t.0 u.0 t.2 u.2 (sym t.3 ∙ word 8 ∙ u.3) (sym t.4 ∙ word 9 ∙ u.4) in
        t.1 ∙ ap already_bound same ∙ sym u.1
    by false k =
        let o = eqb-false x.kind 8 k in
        sym (what_back token_at n d.at d.what r o)
        ∙ rw (word 3, word 5, word 7, word 8, word 9, word 10) (what_back token_at n e.at e.what q (λ z. o (word 3 ∙ z)))

-- ---- statements

read_value : ℕ → ℕ → ℕ → ℕ → Value
read_value ty text low high =
    numbered ((2, is_bool (eqb low 1)) ∷ (3, is_sized u8 low) ∷ (4, is_sized u16 low) ∷ (5, is_sized u32 low) ∷ (6, is_sized u64 low)
    ∷ (7, is_ip4 low) ∷ (8, is_sock4 low high) ∷ (9, if' (eqb text 1) (is_string low) (is_text low high)) ∷ (14, is_function (read_function low))
    ∷ (16, is_integer (high * word_limit + low)) ∷ []) (is_ip4 0) ty

value_back : (v : Value) → RealValue v → read_value (ty_kind (type_of v)) (value_text v) (shown_low v) (shown_high v) ≡ v
unfolding read_value numbered
value_back (is_integer n) h = ap is_integer (word_back n)
value_back (is_bool true) h = refl
value_back (is_bool false) h = refl
value_back (is_sized u8 n) h = refl
value_back (is_sized u16 n) h = refl
value_back (is_sized u32 n) h = refl
value_back (is_sized u64 n) h = refl
value_back (is_ip4 n) h = refl
value_back (is_sock4 n p) h = refl
value_back (is_string t) h = refl
value_back (is_text a b) h = refl
value_back (is_function k) h = ap is_function (function_back k h)

read_deed : ℕ → ℕ → Deed
read_deed k s = numbered ((1, lets s) ∷ (2, emits) ∷ (3, waits) ∷ (4, evals) ∷ (5, discards) ∷ []) emits k

deed_back : (d : Deed) → read_deed (deed_kind d) (deed_slot d) ≡ d
unfolding read_deed numbered
deed_back (lets s) = refl
deed_back emits = refl
deed_back waits = refl
deed_back evals = refl
deed_back discards = refl

module _ (token_at : ℕ → Token) (n : ℕ) (apart : Apart token_at n) where
  -- rows with the same words, one by one
  abbrev Alike : List Row → List Row → Type 0
  Alike [] [] = Unit {0}
  Alike [] (s ∷ ss) = ⊥
  Alike (r ∷ rs) [] = ⊥
  Alike (r ∷ rs) (s ∷ ss) = (stmt_row token_at r ≡ stmt_row token_at s) × Alike rs ss

  alike : (rs ss : List Row) → map (stmt_row token_at) rs ≡ map (stmt_row token_at) ss → Alike rs ss
  alike [] [] e = tt
  alike [] (s ∷ ss) e = never (cc)
  alike (r ∷ rs) [] e = never (cc)
  alike (r ∷ rs) (s ∷ ss) e = (cc, alike rs ss (cc))

  -- what an expression's own row tells of it
  record Own (v w : Term) : Type 0 where
    form : form_of v ≡ form_of w
    line : (token_at (term_at v)).line ≡ (token_at (term_at w)).line
    column : (token_at (term_at v)).column ≡ (token_at (term_at w)).column
    type : ty_kind (term_type v) ≡ ty_kind (term_type w)
    text : term_text v ≡ term_text w
    low : term_low v ≡ term_low w
    high : term_high v ≡ term_high w

  own : (r s : Row) → stmt_row token_at r ≡ stmt_row token_at s → Own r.term s.term
  unfolding stmt_row
  own r s e =
      let word : (i : ℕ) → get_or (stmt_row token_at r) i 0 ≡ get_or (stmt_row token_at s) i 0 = λ i. ap (λ (ws : List ℕ). get_or ws i 0) e in
      record { form = word 4; line = word 5; column = word 6; type = word 7; text = word 8; low = word 9; high = word 10 }

  place : {p q : ℕ} → p < n → q < n → (token_at p).line ≡ (token_at q).line → (token_at p).column ≡ (token_at q).column → p ≡ q
  place {p} {q} h g l c = apart p q h g l c

  mutual
    unfolding parts arg_parts

    term_told : (v w : Term) (xs ys : List Row) → RealTerm n v → RealTerm n w → Own v w → Alike (parts v ++ xs) (parts w ++ ys)
        → (v ≡ w) × Alike xs ys
    term_told (atom p (constant v)) (atom q (constant w)) xs ys h g o a =
        let at : p ≡ q = place h.0 g.0 o.line o.column in
        let same : v ≡ w = sym (value_back v h.1) ∙ rw (o.type, o.text, o.low, o.high) (value_back w g.1) in
        (rw (at, same), a)
    term_told (atom p (slot s t)) (atom q (slot z u)) xs ys h g o a =
        let at : p ≡ q = place h.0 g.0 o.line o.column in
        let ty : t ≡ u = sym (plain_back t 0 h.1) ∙ rw o.type (plain_back u 0 g.1) in
        (rw (at, ty, o.low), a)
    term_told (called p c f vs) (called q d k ws) xs ys h g o a =
        let at : p ≡ q = place h.0 g.0 o.line o.column in
        let b = term_told c d (arg_parts 0 vs ++ xs) (arg_parts 0 ws ++ ys) h.1 g.1 (own _ _ a.0)
        (rw (append_assoc (parts c) (arg_parts 0 vs) xs, append_assoc (parts d) (arg_parts 0 ws) ys) at a.1) in
        let e = args_told vs ws 0 xs ys h.2 g.2 o.high b.1 in
        (rw (at, b.0, o.low, e.0), e.1)
    term_told (divided p v w) (divided q x y) xs ys h g o a =
        let at : p ≡ q = place h.0 g.0 o.line o.column in
        let b = term_told v x (part 9 0 w ∷ parts w ++ xs) (part 9 0 y ∷ parts y ++ ys) h.1 g.1 (own _ _ a.0)
        (rw (append_assoc (parts v) (part 9 0 w ∷ parts w) xs, append_assoc (parts x) (part 9 0 y ∷ parts y) ys) at a.1) in
        let e = term_told w y xs ys h.2 g.2 (own _ _ b.1.0) b.1.1 in
        (rw (at, b.0, e.0), e.1)
    term_told (atom p (constant v)) (atom q (slot z u)) xs ys h g o a = absurd (omega (arith, o.form))
    term_told (atom p (constant v)) (called q d k ws) xs ys h g o a = absurd (omega (arith, o.form))
    term_told (atom p (constant v)) (divided q x y) xs ys h g o a = absurd (omega (arith, o.form))
    term_told (atom p (slot s t)) (atom q (constant w)) xs ys h g o a = absurd (omega (arith, o.form))
    term_told (atom p (slot s t)) (called q d k ws) xs ys h g o a = absurd (omega (arith, o.form))
    term_told (atom p (slot s t)) (divided q x y) xs ys h g o a = absurd (omega (arith, o.form))
    term_told (called p c f vs) (atom q (constant w)) xs ys h g o a = absurd (omega (arith, o.form))
    term_told (called p c f vs) (atom q (slot z u)) xs ys h g o a = absurd (omega (arith, o.form))
    term_told (called p c f vs) (divided q x y) xs ys h g o a = absurd (omega (arith, o.form))
    term_told (divided p v w) (atom q (constant x)) xs ys h g o a = absurd (omega (arith, o.form))
    term_told (divided p v w) (atom q (slot z u)) xs ys h g o a = absurd (omega (arith, o.form))
    term_told (divided p v w) (called q d k ws) xs ys h g o a = absurd (omega (arith, o.form))

    args_told : (vs ws : Terms) (i : ℕ) (xs ys : List Row) → RealTerms n vs → RealTerms n ws → count vs ≡ count ws
        → Alike (arg_parts i vs ++ xs) (arg_parts i ws ++ ys) → (vs ≡ ws) × Alike xs ys
    args_told no_more no_more i xs ys h g e a = (refl, a)
    args_told no_more (more w ws) i xs ys h g e a = absurd (omega (arith, e))
    args_told (more v vs) no_more i xs ys h g e a = absurd (omega (arith, e))
    args_told (more v vs) (more w ws) i xs ys h g e a =
        let b = term_told v w (arg_parts (suc i) vs ++ xs) (arg_parts (suc i) ws ++ ys) h.0 g.0 (own _ _ a.0)
        (rw (append_assoc (parts v) (arg_parts (suc i) vs) xs, append_assoc (parts w) (arg_parts (suc i) ws) ys) at a.1) in
        let c = args_told vs ws (suc i) xs ys h.1 g.1 (omega (arith, e)) b.1 in
        (rw (b.0, c.0), c.1)

  held_told : (hs gs : List Held) → RealHeld n hs → RealHeld n gs → Alike (rows_of hs) (rows_of gs) → hs ≡ gs
  unfolding rows_of stmt_row
  held_told [] [] h g a = refl
  held_told [] (y ∷ gs) h g a = absurd a
  held_told (x ∷ hs) [] h g a = absurd a
  held_told (x ∷ hs) (y ∷ gs) h g a =
      let word : (i : ℕ) → get_or (stmt_row token_at (head_row x)) i 0 ≡ get_or (stmt_row token_at (head_row y)) i 0 = λ i. ap (λ (ws : List ℕ). get_or ws i 0) a.0 in
      let at : x.at ≡ y.at = place h.0 g.0 (word 0) (word 1) in
      let deed : x.deed ≡ y.deed = sym (deed_back x.deed) ∙ rw (word 2, word 3) (deed_back y.deed) in
      let b = term_told x.term y.term (rows_of hs) (rows_of gs) h.1 g.1 (own (head_row x) (head_row y) a.0) a.1 in
      let rest = held_told hs gs h.2 g.2 b.1 in
      rw (at, deed, b.0, rest)
    where
      head_row : Held → Row
      head_row z = row z.at (deed_kind z.deed) (deed_slot z.deed) z.term

pub statements_determine : StatementsDetermine
statements_determine token_at n apart hs gs h g e = held_told token_at n apart hs gs h g (alike token_at n apart (rows_of hs) (rows_of gs) e)

-- ---- what is found and held in a source

named_real : (t : Ty) → NamedTy t → RealTy t
named_real ty_void h = tt
named_real ty_bool h = tt
named_real (ty_int t) h = tt
named_real ty_ip4 h = tt
named_real ty_sock4 h = tt
named_real ty_bytes h = tt
named_real ty_pkt h = tt
named_real ty_pkt_gen h = tt
named_real ty_time_jump h = tt
named_real ty_integer h = tt
named_real (ty_function k) h = h.itself

module _ (ts : List Content) where
  what_real : (at : ℕ) (w : What) → Shown ts w at → RealWhat (length ts) w
  what_real at unknown_name h = tt
  what_real at (unknown_item m) h = tt
  what_real at unknown_module h = tt
  what_real at not_imported h = tt
  what_real at not_a_module h = tt
  what_real at not_a_value h = tt
  what_real at (already_bound t) h = name_there ts h.1
  what_real at (no_members t) h = named_real t h
  what_real at (operand_type s t u) h = (h.0, named_real u h.1)
  what_real at (not_callable t) h = named_real t h
  what_real at (too_many_args f a b) h = h.itself
  what_real at (too_few_args f a b) h = h.itself
  what_real at (arg_type f i t u) h = (h.2, named_real u h.3)
  what_real at void_value h = tt
  what_real at integral_too_large h = tt
  what_real at multiple_imports h = tt
  what_real at (discarded_value t) h = named_real t h
  what_real at (truncated m t) h = named_real t h
  what_real at (overflow t u) h = (named_real t h.0, h.1)

  value_real : (v : Value) → Right ts v → RealValue v
  value_real (is_integer n) h = tt
  value_real (is_bool b) h = tt
  value_real (is_sized t n) h = tt
  value_real (is_ip4 n) h = tt
  value_real (is_sock4 n p) h = tt
  value_real (is_string t) h = tt
  value_real (is_text a b) h = tt
  value_real (is_function k) h = h.itself

  mutual
    term_real : (m : ℕ) (v : Term) → Good ts (There ts) m v → RealTerm (length ts) v
    term_real m (atom p (constant v)) h = (h.0, value_real v h.1)
    term_real m (atom p (slot s t)) h = (h.0, h.1.1)
    term_real m (called p c f vs) h = (h.0, term_real m c h.1, terms_real m vs h.3)
    term_real m (divided p a b) h = (h.0, term_real m a h.1, term_real m b h.2)

    terms_real : (m : ℕ) (vs : Terms) → GoodAll ts (There ts) m vs → RealTerms (length ts) vs
    terms_real m no_more h = tt
    terms_real m (more v vs) h = (term_real m v h.0, terms_real m vs h.1)

  held_real : (hs : List Held) → Each (Kept ts) hs → RealHeld (length ts) hs
  held_real [] h = tt
  held_real (x ∷ hs) h =
      let k = h.holds x (Memᴰ.head refl) in
      (k.there, term_real k.slots x.term k.right, held_real hs (record { holds = λ y m. h.holds y (Memᴰ.tail m) }))

pub checked_real : CheckedReal
unfolding checked
checked_real s =
    let cs = contents (tokens s) in
    let g = outcome_grounded cs in
    rw (as_many (tokens s)) (
      λ d m. let h = g.found.holds d m in (h.there, what_real cs d.at d.what h.shown),
      held_real cs _ g.kept,
    )

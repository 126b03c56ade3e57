-- The rows of tokens stand for the contents of the tokens: what a caller of `program` has to show.
use mathlib.Core.Path.{◌≡◌, refl, sym, ap, ◌∙◌}
use mathlib.Core.List.{List}
use Prim.Native.Nat.{ℕ, ◌+◌, ◌*◌, ◌/◌, ◌%◌, ◌≤◌, ◌<◌}
use native.Mathlib.Omega.{arith}
use native.Mathlib.Decide.{dec_le}
use borrow.Author.Tests.{eq-eqb, ne_eqb, le-leb, lt-leb}
use lib.ListN.{length, get_or, get_or-map, get_or-eq_default}
use Rattle.table.specs.Table.{flat}
use Rattle.table.proofs.Laws.{length_flat, flat_word}
use Rattle.language.specs.Lexemes.{l_paren, r_paren, dot, double_colon, colon, semi_colon, equals, comma, slash, import_keyword, let_keyword, identifier, boolean_literal, ipv4_literal, hex_literal, dec_literal}
use Rattle.language.specs.Tables.{word_limit, content_kind, content_low, content_high, token_row, token_width}
use Rattle.language.specs.Tokens.{Content, eof, plain, name, string, Token, contents}
use Rattle.language.specs.Sentences.{port_of}
use Rattle.language.proofs.TokenContents.{as_many}
use Rattle.language.proofs.TokensAt.{row_width}
use Rattle.parse.specs.Parsing.{port_of_tok, port_at, Rep}
use Rattle.rows.specs.Tokens.{kind_at, tok_of}
use Rattle.rows.proofs.Toks.{kind_in, kind_past, tok_in, tok_past}

-- past the end
abbrev end : Token
end = record { content = eof; line = 0; column = 0; start = 0; end = 0 }

-- a word of a row
word_at : (ts : List Token) (at j : ℕ) → j < 7 → at < length ts → get_or (flat token_row ts) (token_width * at + j) 0 ≡ get_or (token_row (get_or ts at end)) j 0
word_at ts at j h lt = flat_word token_row token_width row_width ts at j lt h end

content_at : (ts : List Token) (at : ℕ) → get_or (contents ts) at eof ≡ (get_or ts at end).content
content_at ts at = get_or-map (λ (t : Token). t.content) ts at end

-- a value of two words is a port where it fits in 16 bits
port_value : (n : ℕ) → port_of_tok (tok_of 18 (n % word_limit) (n / word_limit)) ≡ port_of (plain (dec_literal n))
unfolding port_of_tok tok_of
port_value n = elim (dec_le n 65535) [
  | yes h ↦ rw (eq-eqb (n / word_limit) 0 (omega arith), le-leb (n % word_limit) 65535 (omega arith), le-leb n 65535 h)
  | no h ↦ rw (lt-leb n 65535 (omega arith)) (elim (dec_le word_limit n) [
    | yes g ↦ rw (ne_eqb (n / word_limit) 0 (λ z. omega arith))
    | no g ↦ rw (eq-eqb (n / word_limit) 0 (omega arith), lt-leb (n % word_limit) 65535 (omega arith))
  ])
]

port_content : (c : Content) → port_of_tok (tok_of (content_kind c) (content_low c) (content_high c)) ≡ port_of c
unfolding port_of_tok tok_of
port_content eof = refl
port_content (plain l_paren) = refl
port_content (plain r_paren) = refl
port_content (plain dot) = refl
port_content (plain double_colon) = refl
port_content (plain colon) = refl
port_content (plain semi_colon) = refl
port_content (plain equals) = refl
port_content (plain comma) = refl
port_content (plain slash) = refl
port_content (plain import_keyword) = refl
port_content (plain let_keyword) = refl
port_content (plain identifier) = refl
port_content (plain (boolean_literal b)) = refl
port_content (plain (ipv4_literal n)) = refl
port_content (plain (hex_literal n)) = refl
port_content (plain (dec_literal n)) = port_value n
port_content (name bs) = refl
port_content (string b bs) = refl

rows_long : (ts : List Token) → length (flat token_row ts) ≡ token_width * length ts
rows_long ts = length_flat token_row token_width row_width ts ∙ omega arith

module _ (ts : List Token) (at : ℕ) where
  past_end : length (flat token_row ts) < token_width * at + token_width → get_or (contents ts) at eof ≡ eof
  past_end h = let past : length ts ≤ at = omega (arith, rows_long ts) in content_at ts at ∙ ap (λ (t : Token). t.content) (get_or-eq_default ts end past)

  kind_word : at < length ts → get_or (flat token_row ts) (token_width * at) 0 ≡ content_kind (get_or ts at end).content
  unfolding token_row
  kind_word h = let e : token_width * at ≡ token_width * at + 0 = omega arith in rw e (word_at ts at 0 (omega arith) h)

  kind_row : kind_at (flat token_row ts) at ≡ content_kind (get_or (contents ts) at eof)
  kind_row = elim (dec_le (token_width * at + token_width) (length (flat token_row ts))) [
    | yes h ↦ sym (kind_in (flat token_row ts) at h) ∙ rw (content_at ts at) (kind_word (omega (arith, rows_long ts)))
    | no h ↦ let past : length (flat token_row ts) < token_width * at + token_width = omega arith in sym (kind_past (flat token_row ts) at past) ∙ rw (past_end past)
  ]

  port_row : port_at (flat token_row ts) at ≡ port_of (get_or (contents ts) at eof)
  unfolding token_row port_at port_of_tok
  port_row = elim (dec_le (token_width * at + token_width) (length (flat token_row ts))) [
    | yes h ↦
        let lt : at < length ts = omega (arith, rows_long ts) in
        rw (← tok_in (flat token_row ts) at h refl, kind_word lt, word_at ts at 5 (omega arith) lt, word_at ts at 6 (omega arith) lt, content_at ts at) (port_content (get_or ts at end).content)
    | no h ↦ let past : length (flat token_row ts) < token_width * at + token_width = omega arith in rw (← tok_past (flat token_row ts) at past, past_end past)
  ]

pub represented : (ts : List Token) → Rep (flat token_row ts) (contents ts)
represented ts = record { long = rows_long ts ∙ ap (λ (n : ℕ). token_width * n) (as_many ts); kinds = kind_row ts; ports = port_row ts }

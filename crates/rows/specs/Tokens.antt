-- How the code's tokens stand for the language's, and what the rows of a token table say of them.
use Rattle.std.specs.Prelude.{ℕ, ◌+◌, ◌*◌, ◌%◌, ◌≡◌, not, List, eqb, leb, length, get_or}
use Rattle.table.specs.Table.{flat}
use Rattle.wide.specs.declared.Wide.{Wide}
use Rattle.wide.specs.Wide.{wide_of}
use Rattle.language.specs.Choice.{if'}
use Rattle.language.specs.Lexemes as language
use Rattle.language.specs.Lexemes.{l_paren, r_paren, dot, double_colon, colon, semi_colon, equals, comma, slash, import_keyword, let_keyword, identifier, boolean_literal, ipv4_literal, hex_literal, dec_literal}
use Rattle.language.specs.Tables.{bit, content_kind, content_low, content_high, token_row, token_width}
use Rattle.language.specs.Tokens as tokens
use Rattle.rows.specs.declared.token.Tok.{Tok}
use Rattle.rows.specs.declared.token.Tok.TheVariants as tok_is
use Rattle.rows.specs.declared.token.Token.{Token}

-- ---- tokens

abbrev pub tok_as : language.Tok → Tok
tok_as l_paren = tok_is.LParen
tok_as r_paren = tok_is.RParen
tok_as dot = tok_is.Dot
tok_as double_colon = tok_is.DoubleColon
tok_as colon = tok_is.Colon
tok_as semi_colon = tok_is.SemiColon
tok_as equals = tok_is.Equals
tok_as comma = tok_is.Comma
tok_as slash = tok_is.Slash
tok_as import_keyword = tok_is.ImportKeyword
tok_as let_keyword = tok_is.LetKeyword
tok_as identifier = tok_is.Identifier
tok_as (boolean_literal b) = tok_is.BooleanLiteral b
tok_as (ipv4_literal n) = tok_is.IPv4Literal n
tok_as (hex_literal n) = tok_is.HexLiteral (wide_of n)
tok_as (dec_literal n) = tok_is.DecLiteral (wide_of n)

abbrev pub tok_number : Tok → ℕ
tok_number tok_is.Eof = 1
tok_number tok_is.LParen = 2
tok_number tok_is.RParen = 3
tok_number tok_is.Dot = 4
tok_number tok_is.DoubleColon = 5
tok_number tok_is.Colon = 6
tok_number tok_is.SemiColon = 7
tok_number tok_is.Equals = 8
tok_number tok_is.Comma = 9
tok_number tok_is.Slash = 10
tok_number tok_is.ImportKeyword = 11
tok_number tok_is.LetKeyword = 12
tok_number tok_is.Identifier = 13
tok_number (tok_is.BooleanLiteral b) = 14
tok_number (tok_is.IPv4Literal n) = 15
tok_number (tok_is.StringLiteral n) = 16
tok_number (tok_is.HexLiteral w) = 17
tok_number (tok_is.DecLiteral w) = 18

abbrev pub zeros : Wide
zeros = record { hi = 0; lo = 0 }

abbrev pub tok_value : Tok → Wide
tok_value tok_is.Eof = zeros
tok_value tok_is.LParen = zeros
tok_value tok_is.RParen = zeros
tok_value tok_is.Dot = zeros
tok_value tok_is.DoubleColon = zeros
tok_value tok_is.Colon = zeros
tok_value tok_is.SemiColon = zeros
tok_value tok_is.Equals = zeros
tok_value tok_is.Comma = zeros
tok_value tok_is.Slash = zeros
tok_value tok_is.ImportKeyword = zeros
tok_value tok_is.LetKeyword = zeros
tok_value tok_is.Identifier = zeros
tok_value (tok_is.BooleanLiteral b) = record { hi = 0; lo = bit b }
tok_value (tok_is.IPv4Literal n) = record { hi = 0; lo = n }
tok_value (tok_is.StringLiteral n) = record { hi = 0; lo = n }
tok_value (tok_is.HexLiteral w) = w
tok_value (tok_is.DecLiteral w) = w

-- ---- rows

-- the token with a kind and the two words of its value; a kind that no token has is `Eof`'s
unfoldable pub tok_of : ℕ → ℕ → ℕ → Tok
tok_of kind lo hi =
    if' (eqb kind 2) tok_is.LParen
    (if' (eqb kind 3) tok_is.RParen
    (if' (eqb kind 4) tok_is.Dot
    (if' (eqb kind 5) tok_is.DoubleColon
    (if' (eqb kind 6) tok_is.Colon
    (if' (eqb kind 7) tok_is.SemiColon
    (if' (eqb kind 8) tok_is.Equals
    (if' (eqb kind 9) tok_is.Comma
    (if' (eqb kind 10) tok_is.Slash
    (if' (eqb kind 11) tok_is.ImportKeyword
    (if' (eqb kind 12) tok_is.LetKeyword
    (if' (eqb kind 13) tok_is.Identifier
    (if' (eqb kind 14) (tok_is.BooleanLiteral (not (eqb lo 0)))
    (if' (eqb kind 15) (tok_is.IPv4Literal (lo % 4294967296))
    (if' (eqb kind 16) (tok_is.StringLiteral lo)
    (if' (eqb kind 17) (tok_is.HexLiteral (record { hi = hi; lo = lo }))
    (if' (eqb kind 18) (tok_is.DecLiteral (record { hi = hi; lo = lo })) tok_is.Eof))))))))))))))))

-- the kind of the token in a row: `Eof` past the last whole row
unfoldable pub kind_at : List ℕ → ℕ → ℕ
kind_at toks at = if' (leb (token_width * at + token_width) (length toks)) (get_or toks (token_width * at) 0) 1

-- and the token
unfoldable pub tok_at : List ℕ → ℕ → Tok
tok_at toks at =
    if' (leb (token_width * at + token_width) (length toks))
    (tok_of (get_or toks (token_width * at) 0) (get_or toks (token_width * at + 5) 0) (get_or toks (token_width * at + 6) 0))
    tok_is.Eof

-- the row of a token
abbrev pub token_as : tokens.Token → Token
token_as t =
    record {
      kind = content_kind t.content;
      line = t.line;
      column = t.column;
      start = t.start;
      end = t.end;
      lo = content_low t.content;
      hi = content_high t.content;
    }

-- row i of a token table
abbrev pub row_token : List ℕ → ℕ → Token
row_token toks i =
    record {
      kind = get_or toks (token_width * i) 0;
      line = get_or toks (token_width * i + 1) 0;
      column = get_or toks (token_width * i + 2) 0;
      start = get_or toks (token_width * i + 3) 0;
      end = get_or toks (token_width * i + 4) 0;
      lo = get_or toks (token_width * i + 5) 0;
      hi = get_or toks (token_width * i + 6) 0;
    }

-- the rows of a source's tokens, and nothing more
pub record TokenTable (s toks : List ℕ) : Type 0 where
  pub rows : toks ≡ flat token_row (tokens.tokens s)

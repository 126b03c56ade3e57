-- The code's row of a lexeme is the language's.
use mathlib.Core.Path.{◌≡◌, refl}
use mathlib.Core.List.{List, [], ◌∷◌}
use Prim.Native.Nat.{ℕ, ◌+◌, ◌≤◌}
use native.Mathlib.Omega.{arith}
use lib.ListN.{length}
use Rattle.language.specs.Lexemes as language
use Rattle.language.specs.Lexemes.{Kind, Placed, trivia, str, tok, error, placed}
use Rattle.language.specs.Lexemes.{l_paren, r_paren, dot, double_colon, colon, semi_colon, equals, comma, slash, import_keyword, let_keyword, identifier, boolean_literal, ipv4_literal, hex_literal, dec_literal, unexpected_char, unterminated_string, int_out_of_range, int_leading_zero, int_invalid_suffix, bad_ipv4_literal}
use Rattle.language.specs.Tables.{lexeme_row, lexeme_width, tok_kind, tok_low, tok_high, error_kind, class_of, kind_of, low_of, high_of}
use Rattle.language.specs.Tables as tables
use Rattle.rows.specs.Tokens.{tok_as, tok_number, tok_value}
use Rattle.lexemes.specs.declared.Lexeme.{Lexeme}
use Rattle.lexemes.specs.Kinds.{error_as, kind_as, lexeme_as, error_number, error_char, class_number, kind_number, kind_value, row_of}

-- what the numbers of a code's kind are, all four together, so that each kind is met once
record Same (t : language.Tok) : Type 0 where
  number : tok_number (tok_as t) ≡ tok_kind t
  low : (tok_value (tok_as t)).lo ≡ tok_low t
  high : (tok_value (tok_as t)).hi ≡ tok_high t

same_tok : (t : language.Tok) → Same t
same_tok l_paren = record { number = refl; low = refl; high = refl }
same_tok r_paren = record { number = refl; low = refl; high = refl }
same_tok dot = record { number = refl; low = refl; high = refl }
same_tok double_colon = record { number = refl; low = refl; high = refl }
same_tok colon = record { number = refl; low = refl; high = refl }
same_tok semi_colon = record { number = refl; low = refl; high = refl }
same_tok equals = record { number = refl; low = refl; high = refl }
same_tok comma = record { number = refl; low = refl; high = refl }
same_tok slash = record { number = refl; low = refl; high = refl }
same_tok import_keyword = record { number = refl; low = refl; high = refl }
same_tok let_keyword = record { number = refl; low = refl; high = refl }
same_tok identifier = record { number = refl; low = refl; high = refl }
same_tok (boolean_literal b) = record { number = refl; low = refl; high = refl }
same_tok (ipv4_literal n) = record { number = refl; low = refl; high = refl }
same_tok (hex_literal n) = record { number = refl; low = refl; high = refl }
same_tok (dec_literal n) = record { number = refl; low = refl; high = refl }

pub same_error : (e : language.LexErrorKind) → (error_number (error_as e) ≡ error_kind e) × (error_char (error_as e) ≡ tables.error_char e)
same_error (unexpected_char c) = (refl, refl)
same_error unterminated_string = (refl, refl)
same_error int_out_of_range = (refl, refl)
same_error int_leading_zero = (refl, refl)
same_error int_invalid_suffix = (refl, refl)
same_error bad_ipv4_literal = (refl, refl)

pub row_is : (at : ℕ) (l : language.Lexeme) → row_of (lexeme_as at l) ≡ lexeme_row (placed at l)
unfolding lexeme_row
row_is at l = go l.kind
  where
    words : ℕ → ℕ → ℕ → ℕ → List ℕ
    words c k x y = at ∷ (at + l.size) ∷ c ∷ k ∷ x ∷ y ∷ []

    go : (k : Kind) → words (class_number (kind_as k)) (kind_number (kind_as k)) (kind_value (kind_as k)).lo (kind_value (kind_as k)).hi
        ≡ words (class_of k) (kind_of k) (low_of k) (high_of k)
    go trivia = refl
    go str = refl
    go (tok t) = let s = same_tok t in rw (s.number, s.low, s.high)
    go (error e) = let s = same_error e in rw (s.0, s.1)

pub row_width : (p : Placed) → length (lexeme_row p) ≡ lexeme_width
unfolding lexeme_row
row_width p = refl

pub row_long : (l : Lexeme) {r : List ℕ} → r ≡ row_of l → length r ≤ 4096
row_long l e = rw e (omega arith)

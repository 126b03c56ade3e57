-- Which bytes a row of the token table stands for, and what it is to write those of all rows.
use Rattle.std.specs.Prelude.{ℕ, ◌+◌, ◌*◌, ◌≤◌, ◌≡◌, List, [], ◌∷◌, eqb, length, get_or}
use Rattle.table.specs.Table.{pad_to}
use Rattle.language.specs.Choice.{if'}
use Rattle.language.specs.Lexemes.{import_word, let_word, true_word, false_word}
use Rattle.language.specs.Integers.{decimal, hexadecimal}
use Rattle.language.specs.Tables.{word_limit, token_width}
use Rattle.language.specs.Tokens.{between, bodies_in, most_bytes}
use Rattle.language.specs.Canonical.{spell_digits, spell_quad, quoted, spell_bodies, text}

-- ---- strings

-- all literals of a string
abbrev pub literals_text : List (List ℕ) → List ℕ
literals_text [] = []
literals_text (b ∷ bs) = spell_bodies b bs

-- one of them, where the text of the string starts at `from`: all but the first stand after a space
abbrev pub literal_text : ℕ → ℕ → List ℕ → List ℕ
literal_text from at b = if' (eqb at from) (quoted b) (32 ∷ quoted b)

-- ---- the rows of the token table, by their numbers

-- punctuation of one byte
unfoldable pub mark_of : ℕ → ℕ
mark_of k =
    if' (eqb k 2) 40
    (if' (eqb k 3) 41
    (if' (eqb k 4) 46
    (if' (eqb k 6) 58
    (if' (eqb k 7) 59
    (if' (eqb k 8) 61
    (if' (eqb k 9) 44 47))))))

-- a boolean
abbrev pub bool_text : ℕ → List ℕ
bool_text low = if' (eqb low 0) false_word true_word

-- a token that is always spelt in the same way
unfoldable pub fixed_text : ℕ → ℕ → List ℕ
fixed_text k low =
    if' (eqb k 5) (58 ∷ 58 ∷ [])
    (if' (eqb k 11) import_word
    (if' (eqb k 12) let_word
    (if' (eqb k 14) (bool_text low) (mark_of k ∷ []))))

-- a token of the kind k: its value in two words, and the bytes of its span
unfoldable pub kind_text : ℕ → ℕ → ℕ → List ℕ → List ℕ
kind_text k low high bytes =
    if' (eqb k 13) bytes
    (if' (eqb k 15) (spell_quad low)
    (if' (eqb k 16) (literals_text (bodies_in bytes))
    (if' (eqb k 17) (48 ∷ 120 ∷ spell_digits (hexadecimal (high * word_limit + low)))
    (if' (eqb k 18) (spell_digits (decimal (high * word_limit + low))) (fixed_text k low)))))

-- the token whose row starts at this word of a table
abbrev pub row_text : List ℕ → List ℕ → ℕ → List ℕ
row_text source toks row =
    kind_text (get_or toks row 0) (get_or toks (row + 5) 0) (get_or toks (row + 6) 0)
    (between source (get_or toks (row + 3) 0) (get_or toks (row + 4) 0))

-- what stands between two tokens, by their kinds
abbrev pub gap_text : ℕ → ℕ → List ℕ
gap_text k next = if' (eqb k 7) (10 ∷ []) (if' (eqb next 1) [] (32 ∷ []))

-- ---- the whole text

-- a row that lies in the table, with a span that lies in the source
pub record RowFits (source toks : List ℕ) (row : ℕ) : Type 0 where
  pub room : row + token_width ≤ length toks
  pub forth : get_or toks (row + 3) 0 ≤ get_or toks (row + 4) 0
  pub within : get_or toks (row + 4) 0 ≤ length source
  pub short : length source ≤ most_bytes

-- the text of a source is written to t, which is all zero: all of it, or so much that more than 65,536 bytes were counted
pub record WritesText (source t : List ℕ) (r : ℕ) (u : List ℕ) : Type 0 where
  pub size : length u ≡ length t
  pub most : r ≤ length (text source)
  pub whole : r ≤ most_bytes → (r ≡ length (text source)) × (t ≡ pad_to (length t) [] → u ≡ pad_to (length t) (text source))

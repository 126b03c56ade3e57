-- Canonical text (01, "Canonical text"): the tokens of a source, spelt in one way. It is said of contents alone.
use Rattle.std.specs.Prelude.{ℕ, ◌+◌, ◌/◌, ◌%◌, ◌≤◌, ◌≡◌, Bool, true, false, ltb, eqb, length}
use mathlib.Core.List.{List, [], ◌∷◌, ◌++◌, Memᴰ}
use Rattle.std.proofs.Math.Option.{none}
use Rattle.language.specs.Choice.{if'}
use Rattle.language.specs.Integers.{decimal, hexadecimal}
use Rattle.language.specs.Lexemes.{Tok, l_paren, r_paren, dot, double_colon, colon, semi_colon, equals, comma, slash, import_keyword, let_keyword, identifier, boolean_literal, ipv4_literal, hex_literal, dec_literal, import_word, let_word, true_word, false_word}
use Rattle.language.specs.Utf8.{first_bad}
use Rattle.language.specs.Tables.{content_kind}
use Rattle.language.specs.Tokens.{most_bytes, Content, eof, plain, name, string, Token, items, first_wrong, tokens, contents, between}

-- ---- a token's spelling

-- a digit, "with lower case"
abbrev pub spell_digit : ℕ → ℕ
spell_digit d = if' (ltb d 10) (48 + d) (87 + d)

abbrev pub spell_digits : List ℕ → List ℕ
spell_digits [] = []
spell_digits (d ∷ ds) = spell_digit d ∷ spell_digits ds

-- the four numbers of an address, with dots between
abbrev pub spell_quad : ℕ → List ℕ
spell_quad n =
    spell_digits (decimal (n / 0x1000000 % 0x100))
    ++ 46 ∷ spell_digits (decimal (n / 0x10000 % 0x100))
    ++ 46 ∷ spell_digits (decimal (n / 0x100 % 0x100))
    ++ 46 ∷ spell_digits (decimal (n % 0x100))

-- "Words, punctuation and quads as spelt, decimals plain, hexadecimals `0x` with lower case and no leading zeros"
unfoldable pub spell_tok : Tok → List ℕ
spell_tok l_paren = 40 ∷ []
spell_tok r_paren = 41 ∷ []
spell_tok dot = 46 ∷ []
spell_tok double_colon = 58 ∷ 58 ∷ []
spell_tok colon = 58 ∷ []
spell_tok semi_colon = 59 ∷ []
spell_tok equals = 61 ∷ []
spell_tok comma = 44 ∷ []
spell_tok slash = 47 ∷ []
spell_tok import_keyword = import_word
spell_tok let_keyword = let_word
-- never met: a name's content has its bytes
spell_tok identifier = []
spell_tok (boolean_literal true) = true_word
spell_tok (boolean_literal false) = false_word
spell_tok (ipv4_literal n) = spell_quad n
spell_tok (hex_literal n) = 48 ∷ 120 ∷ spell_digits (hexadecimal n)
spell_tok (dec_literal n) = spell_digits (decimal n)

abbrev pub quoted : List ℕ → List ℕ
quoted b = 34 ∷ b ++ 34 ∷ []

-- "strings as their bodies in quotes with one space between"
abbrev pub spell_bodies : List ℕ → List (List ℕ) → List ℕ
spell_bodies b [] = quoted b
spell_bodies b (c ∷ cs) = quoted b ++ 32 ∷ spell_bodies c cs

unfoldable pub spell : Content → List ℕ
spell eof = []
spell (plain t) = spell_tok t
spell (name bs) = bs
spell (string b bs) = spell_bodies b bs

-- ---- the text

-- the content has the kind of `;`
abbrev pub ends_line : Content → Bool
ends_line c = eqb (content_kind c) (content_kind (plain semi_colon))

-- what follows a token: "Byte 10 after each `;`; between other neighbours one space; nothing else at the end"
abbrev pub between' : List Content → List ℕ
between' [] = []
between' (eof ∷ cs) = []
between' (plain t ∷ cs) = 32 ∷ []
between' (name bs ∷ cs) = 32 ∷ []
between' (string b bs ∷ cs) = 32 ∷ []

abbrev pub after : Content → List Content → List ℕ
after c cs = if' (ends_line c) (10 ∷ []) (between' cs)

-- "Tokens in order"; "No tokens, no bytes"
unfoldable pub canonical : List Content → List ℕ
canonical [] = []
canonical (c ∷ cs) = spell c ++ after c cs ++ canonical cs

abbrev pub text : List ℕ → List ℕ
text s = canonical (contents (tokens s))

-- ---- the claims

-- a source is lexed without a refusal, the room aside
pub record Lexes (s : List ℕ) : Type 0 where
  pub short : length s ≤ most_bytes
  pub whole : first_bad s ≡ none
  pub good : first_wrong (items s) ≡ none

-- a source whose canonical text is within the size limit
pub record Fits (s : List ℕ) : Type 0 where
  pub lexes : Lexes s
  pub short : length (text s) ≤ most_bytes

-- the text lexes, to the same contents
abbrev pub RoundTrip : Type 0
RoundTrip = (s : List ℕ) → Fits s → Lexes (text s) × (contents (tokens (text s)) ≡ contents (tokens s))

-- "is its own canonical text"
abbrev pub OwnText : Type 0
OwnText = (s : List ℕ) → Fits s → text (text s) ≡ text s

-- "equal canonical text exactly when the tokens agree, places aside"
abbrev pub SameText : Type 0
SameText =
    (s t : List ℕ) → Fits s → Fits t
    → (text s ≡ text t → contents (tokens s) ≡ contents (tokens t)) × (contents (tokens s) ≡ contents (tokens t) → text s ≡ text t)

-- "so an identity copy or empty text is excluded as well": a source whose text is neither
abbrev pub NotACopy : Type 0
NotACopy = (s : List ℕ) × Fits s × (text s ≡ s → ⊥) × (text s ≡ [] → ⊥)

-- "Words, punctuation and quads as spelt, decimals plain": all but hexadecimals and strings are spelt as the source has them
abbrev pub AsSpelt : Type 0
AsSpelt =
    (s : List ℕ) (t : Token) → Memᴰ t (tokens s) → ((n : ℕ) → t.content ≡ plain (hex_literal n) → ⊥)
    → ((b : List ℕ) (bs : List (List ℕ)) → t.content ≡ string b bs → ⊥) → spell t.content ≡ between s t.start t.end

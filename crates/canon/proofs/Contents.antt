-- What a token's row stands for is the spelling of its content.
use Prim.Native.Nat.{ℕ, ◌+◌, ◌*◌, ◌/◌, ◌%◌}
use mathlib.Core.Path.{◌≡◌, refl}
use mathlib.Core.Bool.{true, false}
use mathlib.Core.List.{List, ◌∷◌}
use native.Mathlib.Nat.{div-add-mod'}
use native.Mathlib.Omega.{arith}
use borrow.Author.Tests.{ne_eqb}
use Rattle.language.specs.Lexemes.{Tok, l_paren, r_paren, dot, double_colon, colon, semi_colon, equals, comma, slash, import_keyword, let_keyword, identifier, boolean_literal, ipv4_literal, hex_literal, dec_literal}
use Rattle.language.specs.Tokens.{Content, eof, plain, name, string, bodies_in}
use Rattle.language.specs.Tables.{word_limit, tok_kind, tok_low, tok_high, content_kind, content_low, content_high}
use Rattle.language.specs.Canonical.{spell_tok, spell, after}
use Rattle.language.proofs.Tests.{never}
use Rattle.language.proofs.Forms.{no_string, no_end, tok_form}
use Rattle.canon.specs.Spelling.{mark_of, fixed_text, kind_text, gap_text}

-- ---- what follows a token

pub gap_is : (c d : Content) (cs : List Content) → gap_text (content_kind c) (content_kind d) ≡ after c (d ∷ cs)
gap_is c eof cs = refl
gap_is c (plain t) cs = rw (ne_eqb (tok_kind t) 1 (λ e. no_end (tok_form t e)))
gap_is c (name bs) cs = refl
gap_is c (string b bs) cs = refl

-- ---- a token's spelling

-- a number in two words
two_words : (n : ℕ) → n / word_limit * word_limit + n % word_limit ≡ n
two_words n = div-add-mod' n word_limit

tok_text : (t : Tok) (bytes : List ℕ) → (tok_kind t ≡ 13 → ⊥) → kind_text (tok_kind t) (tok_low t) (tok_high t) bytes ≡ spell_tok t
unfolding kind_text fixed_text mark_of spell_tok
tok_text l_paren bytes h = refl
tok_text r_paren bytes h = refl
tok_text dot bytes h = refl
tok_text double_colon bytes h = refl
tok_text colon bytes h = refl
tok_text semi_colon bytes h = refl
tok_text equals bytes h = refl
tok_text comma bytes h = refl
tok_text slash bytes h = refl
tok_text import_keyword bytes h = refl
tok_text let_keyword bytes h = refl
tok_text identifier bytes h = absurd (h refl)
tok_text (boolean_literal true) bytes h = refl
tok_text (boolean_literal false) bytes h = refl
tok_text (ipv4_literal n) bytes h = refl
tok_text (hex_literal n) bytes h = rw (two_words n)
tok_text (dec_literal n) bytes h = rw (two_words n)

-- a token before the end; none is `plain identifier`, since a name has its bytes
pub content_text : (c : Content) (bytes : List ℕ) → (c ≡ eof → ⊥) → (content_kind c ≡ 13 → (bs : List ℕ) × (c ≡ name bs)) → ((bs : List ℕ) → c ≡ name bs → bytes ≡ bs)
    → ((b : List ℕ) (bs : List (List ℕ)) → c ≡ string b bs → bodies_in bytes ≡ b ∷ bs)
    → kind_text (content_kind c) (content_low c) (content_high c) bytes ≡ spell c
unfolding kind_text spell
content_text eof bytes n k f g = absurd (n refl)
content_text (plain t) bytes n k f g = tok_text t bytes (λ e. never (cc (k e).1))
content_text (name bs) bytes n k f g = f bs refl
content_text (string b bs) bytes n k f g = rw (g b bs refl)

-- which contents have the kind of strings
pub string_kind : (c : Content) → content_kind c ≡ 16 → (b : List ℕ) × (bs : List (List ℕ)) × (c ≡ string b bs)
string_kind eof e = absurd (omega arith)
string_kind (plain t) e = absurd (no_string (tok_form t e))
string_kind (name bs) e = absurd (omega arith)
string_kind (string b bs) e = (b, bs, refl)

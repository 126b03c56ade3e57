-- Tokens by their tags.
use Prim.Native.Nat.{ℕ, suc}
use mathlib.Core.Path.{◌≡◌, refl, sym, ap, ◌∙◌}
use mathlib.Core.Bool.{true, not, false≢true}
use mathlib.Core.List.{List}
use borrow.Author.Tests.{eq-eqb}
use lib.Dec.{eqb}
use types.Run.{OneOf}
use denote.Enum.Declared.{tag_of}
use Rattle.language.specs.Lexemes.{all}
use Rattle.language.proofs.Tests.{of_each}
use Rattle.rows.specs.declared.token.Tok.{Tok}
use Rattle.rows.specs.declared.token.Tok.TheVariants as tok_is
use Rattle.rows.specs.Tokens.{tok_number}
use Rattle.rows.specs.contracts.token.Tok as tok

-- x is no key
pub strange : (ks : List ℕ) (x : ℕ) → all (λ k. not (eqb k x)) ks ≡ true → OneOf ks x → ⊥
strange ks x a h = false≢true (ap not (sym (eq-eqb x x refl)) ∙ of_each (λ k. not (eqb k x)) ks x a h)

-- tokens are numbered in the order of their tags
pub number_tag : (t : Tok) → tok_number t ≡ suc (tag_of tok.the_type t)
number_tag tok_is.Eof = refl
number_tag tok_is.LParen = refl
number_tag tok_is.RParen = refl
number_tag tok_is.Dot = refl
number_tag tok_is.DoubleColon = refl
number_tag tok_is.Colon = refl
number_tag tok_is.SemiColon = refl
number_tag tok_is.Equals = refl
number_tag tok_is.Comma = refl
number_tag tok_is.Slash = refl
number_tag tok_is.ImportKeyword = refl
number_tag tok_is.LetKeyword = refl
number_tag tok_is.Identifier = refl
number_tag (tok_is.BooleanLiteral b) = refl
number_tag (tok_is.IPv4Literal n) = refl
number_tag (tok_is.StringLiteral n) = refl
number_tag (tok_is.HexLiteral w) = refl
number_tag (tok_is.DecLiteral w) = refl

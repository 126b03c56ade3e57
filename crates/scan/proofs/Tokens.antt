-- Which token a word is, and a byte.
use Prim.Native.Nat.{ℕ}
use mathlib.Core.Path.{◌≡◌, sym, ◌∙◌}
use mathlib.Core.Bool.{Bool, true, false}
use mathlib.Core.List.{List}
use borrow.Author.Tests.{ne_eqb}
use Rattle.language.specs.Lexemes.{same, import_word, let_word, true_word, false_word, word, punctuation}
use Rattle.rows.specs.declared.token.Tok.TheVariants as tok_is
use Rattle.rows.specs.Tokens.{tok_as}
use Rattle.std.specs.Prelude.{None}
use Rattle.scan.specs.Scanning.{mark_as}

-- what a test came to is so of what it tests
pub told : {t u v : Bool} → t ≡ u → t ≡ v → u ≡ v
told e h = sym e ∙ h

module _ (w : List ℕ) where
  pub word_import : same w import_word ≡ true → tok_is.ImportKeyword ≡ tok_as (word w)
  unfolding word
  word_import h = rw h

  module _ (no-import : same w import_word ≡ false) where
    pub word_let : same w let_word ≡ true → tok_is.LetKeyword ≡ tok_as (word w)
    unfolding word
    word_let h = rw (no-import, h)

    module _ (no-let : same w let_word ≡ false) where
      pub word_true : same w true_word ≡ true → tok_is.BooleanLiteral true ≡ tok_as (word w)
      unfolding word
      word_true h = rw (no-import, no-let, h)

      module _ (no_true : same w true_word ≡ false) where
        pub word_false : same w false_word ≡ true → tok_is.BooleanLiteral false ≡ tok_as (word w)
        unfolding word
        word_false h = rw (no-import, no-let, no_true, h)

        pub word_other : same w false_word ≡ false → tok_is.Identifier ≡ tok_as (word w)
        unfolding word
        word_other h = rw (no-import, no-let, no_true, h)

pub no_mark : (b : ℕ) →
    (((((Unit {0} × (b ≡ 40 → ⊥)) × (b ≡ 41 → ⊥)) × (b ≡ 46 → ⊥)) × (b ≡ 59 → ⊥)) × (b ≡ 61 → ⊥)) × (b ≡ 44 → ⊥)
    → None ≡ mark_as (punctuation b)
unfolding punctuation
no_mark b r =
    rw (
      ne_eqb b 40 r.0.0.0.0.0.1,
      ne_eqb b 41 r.0.0.0.0.1,
      ne_eqb b 46 r.0.0.0.1,
      ne_eqb b 59 r.0.0.1,
      ne_eqb b 61 r.0.1,
      ne_eqb b 44 r.1,
    )

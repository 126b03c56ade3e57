-- What the code sees of a token: its kind, whether it is a port, whether it names an argument.
use mathlib.Core.Path.{◌≡◌, refl, sym, ap, ◌∙◌}
use mathlib.Core.Bool.{Bool, true, false, not}
use mathlib.Core.List.{List, [], ◌∷◌}
use mathlib.Core.Logic.{◌⊎◌, inl, inr}
use Prim.Native.Nat.{ℕ, suc, ◌+◌, ◌*◌, ◌≤◌, ◌<◌}
use native.Mathlib.Omega.{arith}
use native.Mathlib.Decide.{dec_le}
use borrow.Author.Tests.{not-true, eq-eqb, ne_eqb, le-leb, lt-leb}
use lib.Dec.{eqb}
use lib.ListN.{length, get_or}
use Rattle.wide.specs.declared.Wide.{Wide}
use Rattle.language.specs.Tables.{content_kind, token_width}
use Rattle.language.specs.Tokens.{Content, eof}
use Rattle.language.specs.Sentences.{Port, port, too_large, not_port}
use Rattle.parse.specs.Parsing.{literal_kind, port_as, place_of, port_of_tok, port_at, is_named, arg_kind, value_from, Rep}
use Rattle.language.proofs.Tests.{never, of_each}
use Rattle.rows.specs.declared.token.Tok.{Tok}
use Rattle.rows.specs.declared.token.Tok.TheVariants.{DecLiteral}
use Rattle.rows.specs.Tokens.{kind_at, tok_at}
use Rattle.rows.specs.contracts.token.Tok as tok
use Rattle.rows.proofs.Toks.{kind_past, tok_past}
use Rattle.rows.proofs.Plain.{number_tag}
use types.Run.{OneOf}
use denote.Enum.Declared.{tag_of}
use Rattle.std.specs.Prelude.{Ok, Err}
use Rattle.parse.specs.declared.ParseError.{ParseError}
use Rattle.parse.specs.declared.ParseError.TheVariants.{UnexpectedToken, IntOutOfRange}

-- ---- kinds

-- the number r that the code has seen is what stands there
pub seen : {r k n : ℕ} → r ≡ k → r ≡ n → k ≡ n
seen p q = sym p ∙ q

pub unseen : {r k n : ℕ} → r ≡ k → (r ≡ n → ⊥) → k ≡ n → ⊥
unseen p f q = f (p ∙ q)

module _ (toks : List ℕ) (at : ℕ) where
  -- a token that is not `Eof` has a row
  pub inside : (n : ℕ) → kind_at toks at ≡ suc (suc n) → token_width * at + token_width ≤ length toks
  inside n e = elim (dec_le (token_width * at + token_width) (length toks)) [
    | yes h ↦ h
    | no h ↦ let one = kind_past toks at (omega arith) in absurd (omega (arith, one, e))
  ]

  pub eof_or_row : (kind_at toks at ≡ 1) ⊎ (token_width * at + token_width ≤ length toks)
  eof_or_row = elim (dec_le (token_width * at + token_width) (length toks)) [ yes h ↦ inr h | no h ↦ inl (sym (kind_past toks at (omega arith))) ]

  pub row_of : (kind_at toks at ≡ 1 → ⊥) → token_width * at + token_width ≤ length toks
  row_of some = elim (dec_le (token_width * at + token_width) (length toks)) [ yes h ↦ h | no h ↦ absurd (some (sym (kind_past toks at (omega arith)))) ]

  module _ {ts : List Content} (rep : Rep toks ts) (n : ℕ) where
    pub kind_is : kind_at toks at ≡ n → content_kind (get_or ts at eof) ≡ n
    kind_is e = sym (rep.kinds at) ∙ e

    pub is_true : kind_at toks at ≡ n → eqb (content_kind (get_or ts at eof)) n ≡ true
    is_true e = eq-eqb _ _ (kind_is e)

    pub is_false : (kind_at toks at ≡ n → ⊥) → eqb (content_kind (get_or ts at eof)) n ≡ false
    is_false f = ne_eqb _ _ (λ q. f (rep.kinds at ∙ q))

-- ---- literals

pub literal_seen : {r b : Bool} {k n : ℕ} → k ≡ n → r ≡ literal_kind k → r ≡ b → literal_kind n ≡ b
literal_seen e p q = rw e at (sym p ∙ q)

pub literal_inside : (toks : List ℕ) (at : ℕ) → literal_kind (kind_at toks at) ≡ true → token_width * at + token_width ≤ length toks
literal_inside toks at e = row_of toks at (λ one. let z : false ≡ true = rw one at e in never (cc))

-- ---- ports

-- the tags of the tokens that are no decimals
abbrev others : List ℕ
others = 0 ∷ 1 ∷ 2 ∷ 3 ∷ 4 ∷ 5 ∷ 6 ∷ 7 ∷ 8 ∷ 9 ∷ 10 ∷ 11 ∷ 12 ∷ 13 ∷ 14 ∷ 15 ∷ 16 ∷ []

pub other_port : (t : Tok) → OneOf others (tag_of tok.the_type t) → port_of_tok t ≡ not_port
unfolding port_of_tok
other_port t h = rw (number_tag t, not-true (eqb (suc (tag_of tok.the_type t)) 18) (of_each (λ k. not (eqb (suc k) 18)) others (tag_of tok.the_type t) refl h)) refl

module _ {t : Tok} (toks : List ℕ) (at : ℕ) (e : t ≡ tok_at toks at) where
  port_at_lem : port_of_tok t ≡ port_at toks at
  unfolding port_at
  port_at_lem = rw e

  pub port_not : OneOf others (tag_of tok.the_type t) → Err (UnexpectedToken at) ≡ port_as at (port_at toks at)
  port_not h = ap (port_as at) (sym (other_port t h) ∙ port_at_lem)

  module _ (v : Wide) (q : t ≡ DecLiteral v) where
    pub port_good : v.hi ≡ 0 → v.lo ≤ 65535 → Ok tt ≡ port_as at (port_at toks at)
    unfolding port_of_tok
    port_good z h = rw (← port_at_lem, q) (rw (eq-eqb _ _ z, le-leb _ _ h) refl)

    pub port_large : v.hi ≡ 0 → 65535 < v.lo → Err (IntOutOfRange at) ≡ port_as at (port_at toks at)
    unfolding port_of_tok
    port_large z h = rw (← port_at_lem, q) (rw (eq-eqb _ _ z, lt-leb _ _ h) refl)

    pub port_huge : (v.hi ≡ 0 → ⊥) → Err (IntOutOfRange at) ≡ port_as at (port_at toks at)
    unfolding port_of_tok
    port_huge z = rw (← port_at_lem, q) (rw (ne_eqb _ _ z) refl)

-- what the code's answer says of the port
pub is_good : (at : ℕ) (p : Port) → Ok tt ≡ port_as at p → p ≡ port
is_good at port e = refl
is_good at too_large e = never (cc)
is_good at not_port e = never (cc)

pub port_place : (at : ℕ) (p : Port) (x : ParseError) → Err x ≡ port_as at p → place_of x ≡ at
port_place at port x e = never (cc)
port_place at too_large x e = let q : x ≡ IntOutOfRange at = cc in rw q
port_place at not_port x e = let q : x ≡ UnexpectedToken at = cc in rw q

-- a port has a row
pub port_inside : (toks : List ℕ) (at : ℕ) → port_at toks at ≡ port → token_width * at + token_width ≤ length toks
unfolding port_at port_of_tok
port_inside toks at e = elim (dec_le (token_width * at + token_width) (length toks)) [
  | yes h ↦ h
  | no h ↦ let z : not_port ≡ port = rw (← tok_past toks at (omega arith)) at e in never (cc)
]

-- ---- the names of arguments

module _ (toks : List ℕ) (at : ℕ) where
  pub named_yes : kind_at toks at ≡ 13 → kind_at toks (at + 1) ≡ 6 → is_named toks at ≡ true
  unfolding is_named
  named_yes p q = rw (eq-eqb _ _ p, eq-eqb _ _ q)

  pub named_bare : kind_at toks at ≡ 13 → (kind_at toks (at + 1) ≡ 6 → ⊥) → is_named toks at ≡ false
  unfolding is_named
  named_bare p q = rw (eq-eqb _ _ p, ne_eqb _ _ q)

  pub named_no : (kind_at toks at ≡ 13 → ⊥) → is_named toks at ≡ false
  unfolding is_named
  named_no p = rw (ne_eqb _ _ p)

pub head_named : (b : Bool) (at : ℕ) → b ≡ true → (10 ≡ arg_kind b) × (at + 2 ≡ value_from b at)
head_named b at e = rw e (refl, refl)

pub head_bare : (b : Bool) (at : ℕ) → b ≡ false → (9 ≡ arg_kind b) × (at ≡ value_from b at)
head_bare b at e = rw e (refl, refl)

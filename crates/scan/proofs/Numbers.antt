-- What starts with a digit: a quad, or an integer.
use Prim.Native.Nat.{ℕ, zero, suc, ◌+◌, ◌-◌, ◌<◌, ◌≤◌}
use mathlib.Core.Path.{◌≡◌, refl, sym, ap, ◌∙◌}
use mathlib.Core.Bool.{Bool, true, false}
use mathlib.Core.List.{List}
use mathlib.Core.Option.{none, some}
use mathlib.Core.Option as math
use Rattle.std.specs.Prelude.{Option, Some, None}
use mathlib.Core.Logic.{◌⊎◌, inl, inr, ⊎_elim}
use native.Mathlib.Omega.{arith}
use borrow.Author.Tests.{eqb-true}
use lib.Dec.{eqb}
use lib.ListN.{length, get_or, take, drop, length-drop}
use lib.Seq.{drop-drop}
use Rattle.language.proofs.LexemeSizes.{run_fits}
use Rattle.language.specs.Choice.{if'}
use Rattle.language.specs.Lexemes as language
use Rattle.language.specs.Lexemes.{is_digit, is_word, run, octet, quad, not_quad, joined, further, quad_from, quad_lexeme, integer, number, lexeme_of, error, bad_ipv4_literal}
use Rattle.language.proofs.Tests.{never}
use Rattle.rows.specs.declared.token.Tok.TheVariants.{IPv4Literal}
use Rattle.lexemes.specs.declared.LexErrorKind.TheVariants as error_is
use Rattle.lexemes.specs.declared.LexemeKind.{LexemeKind}
use Rattle.lexemes.specs.declared.LexemeKind.TheVariants as kind_is
use Rattle.lexemes.specs.Kinds.{kind_as, lexeme_as}
use Rattle.language.specs.Tokens.{between}
use Rattle.classes.specs.Runs.{run_end}
use Rattle.runs.proofs.Places.{run_between}
use Rattle.numerals.specs.declared.Quad.{Quad}
use Rattle.numerals.specs.Numerals.{octet_as, quad_as}
use Rattle.numerals.proofs.Quads.{stands}
use Rattle.scan.proofs.Starts.{made}

-- a quad takes n bytes at the most
abbrev Within : ℕ → language.Quad → Type 0
Within n (quad m a) = m ≤ n
Within n not_quad = Unit {0}

further_within : (n m : ℕ) → n ≤ m → (q : language.Quad) → Within (m - n) q → Within m (further n q)
further_within n m h (quad k a) w = omega arith
further_within n m h not_quad w = tt

quad_within : (d : ℕ) (a : math.Option ℕ) (t : List ℕ) → Within (length t) (quad_from d a t)
unfolding quad_from
quad_within zero a t = go (eqb (run is_digit t) 0)
  where
    go : (k : Bool) → Within (length t) (if' k not_quad (quad (run is_digit t) (joined a (octet (take (run is_digit t) t)))))
    go true = tt
    go false = run_fits is_digit t
quad_within (suc d) a t =
    let n = run is_digit t in
    let b = joined a (octet (take n t)) in
    go n (eqb n 0) (eqb (get_or t n 0) 46) refl (quad_from d b (drop (suc n) t)) (quad_within d b (drop (suc n) t))
  where
    go : (n : ℕ) (k l : Bool) → eqb (get_or t n 0) 46 ≡ l → (q : language.Quad) → Within (length (drop (suc n) t)) q → Within (length t) (if' k not_quad (if' l (further (suc n) q) not_quad))
    go n true l e q w = tt
    go n false true e q w = further_within (suc n) (length t) (stands t n (get_or t n 0) refl (omega (arith, eqb-true (get_or t n 0) 46 e))) q (rw length-drop at w)
    go n false false e q w = tt

abbrev number_from : language.Quad → List ℕ → language.Lexeme
number_from q t =
    elim q [
      | quad n a ↦ quad_lexeme n a (run is_word (drop n t))
      | not_quad ↦ lexeme_of (integer (take (run is_word t) t)) (run is_word t)
    ]

bad_quad : (n more : ℕ) (a : math.Option ℕ) → (octet_as a ≡ None) ⊎ (more ≡ 0 → ⊥) → quad_lexeme n a more ≡ lexeme_of (error bad_ipv4_literal) (n + more)
bad_quad n more none h = refl
bad_quad n zero (some a) (inl e) = never (cc)
bad_quad n zero (some a) (inr f) = absurd (f refl)
bad_quad n (suc more) (some a) h = refl

good_said : (a : math.Option ℕ) (n : ℕ) → octet_as a ≡ Some n → a ≡ some n
good_said none n e = never (cc)
good_said (some m) n e = let p : m ≡ n = cc in rw p

-- what a quad is that the code finds at `at` as f
record Found (at : ℕ) (f : Quad) (q : language.Quad) : Type 0 where
  bytes : ℕ
  address : math.Option ℕ
  is : q ≡ quad bytes address
  end : at + bytes ≡ f.end
  said : octet_as address ≡ f.address

found : (at : ℕ) (f : Quad) (q : language.Quad) → quad_as at q ≡ Some f → Found at f q
found at f (quad m a) w =
    let e : f ≡ record { end = at + m; address = octet_as a } = cc in
    record { bytes = m; address = a; is = refl; end = ap (λ (g : Quad). g.end) (sym e); said = ap (λ (g : Quad). g.address) (sym e) }
found at f not_quad w = never (cc)

not_found : (at : ℕ) (q : language.Quad) → quad_as at q ≡ None → q ≡ not_quad
not_found at (quad m a) w = never (cc)
not_found at not_quad w = refl

-- r is what the code finds at `at`
module _ (s : List ℕ) (at : ℕ) (r : Option Quad) (r-said : r ≡ quad_as at (quad_from 3 (some 0) (drop at s))) where
  number_from_lem : {q : language.Quad} → quad_from 3 (some 0) (drop at s) ≡ q → number (drop at s) ≡ number_from q (drop at s)
  unfolding number
  number_from_lem e = ap (λ (q : language.Quad). number_from q (drop at s)) e

  module _ (f : Quad) (w : r ≡ Some f) where
    here : Found at f (quad_from 3 (some 0) (drop at s))
    here = found at f (quad_from 3 (some 0) (drop at s)) (sym r-said ∙ w)

    pub quad_ends : at < length s → f.end ≤ length s
    quad_ends h = omega (arith, length-drop at s, here.end, rw here.is at (quad_within 3 (some 0) (drop at s)))

    -- e is where the word characters after it end
    module _ (e : ℕ) (k : e ≡ run_end is_word s f.end) where
      number_is : number (drop at s) ≡ quad_lexeme here.bytes here.address (run is_word (drop f.end s))
      number_is = number_from_lem here.is ∙ rw (drop-drop, here.end)

      pub address : (a : ℕ) → f.address ≡ Some a → e ≡ f.end → made at e (kind_is.Tok (IPv4Literal a)) ≡ lexeme_as at (number (drop at s))
      unfolding run_end
      address a g z =
          let n : run is_word (drop f.end s) ≡ 0 = omega arith in
          rw (number_is, good_said here.address a (here.said ∙ g), n, here.end, z)

      pub malformed : (f.address ≡ None) ⊎ (e ≡ f.end → ⊥) → made at e (kind_is.Error error_is.IPv4Literal) ≡ lexeme_as at (number (drop at s))
      unfolding run_end
      malformed h =
          let p : e ≡ at + (here.bytes + run is_word (drop f.end s)) = omega (arith, here.end) in
          let c : (octet_as here.address ≡ None) ⊎ (run is_word (drop f.end s) ≡ 0 → ⊥) = ⊎_elim (λ x. inl (here.said ∙ x)) (λ x. inr (λ y. x (omega arith))) h in
          rw (number_is, bad_quad here.bytes (run is_word (drop f.end s)) here.address c, p)

  pub no_quad : r ≡ None → (e : ℕ) → e ≡ run_end is_word s at → (k : LexemeKind) → k ≡ kind_as (integer (between s at e)) → made at e k ≡ lexeme_as at (number (drop at s))
  unfolding run_end
  no_quad w e f k g =
      rw (number_from_lem (not_found at (quad_from 3 (some 0) (drop at s)) (sym r-said ∙ w)), g, run_between is_word s at e f, f)

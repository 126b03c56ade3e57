-- What a value comes to that is fitted to a type.
use Rattle.std.specs.Prelude.{ℕ, ◌+◌, ◌*◌, ◌%◌, ◌≡◌, Bool, true, false, ◌&&◌, ◌||◌, List, [], ◌∷◌, eqb, leb}
use Rattle.language.specs.Choice.{if'}
use Rattle.language.specs.Integers.{IntType, low_bits}
use Rattle.language.specs.Tables.{word_limit}
use Rattle.language.specs.Values.{is_sized, Ty, int_kind, ty_kind}
use Rattle.language.specs.Terms as terms
use Rattle.language.specs.Terms.{constant, atom, term_type}
use Rattle.language.specs.Judgements as judgements
use Rattle.language.specs.Judgements.{val, diag, judgement, as_it_is, narrow_to, fit}
use Rattle.language.specs.Numbers.{token_of}
use Rattle.findings.specs.declared.Counts.{Counts}
use Rattle.findings.specs.declared.What.{What}
use Rattle.findings.specs.Findings.{what_as, Adds}
use Rattle.values.specs.declared.Term.{Term}
use Rattle.values.specs.Values.{Judgement}
use Rattle.values.specs.Values.{Judged, term_as, is_integral, judged_as}
use Rattle.holding.specs.Holding.{Judges}

-- ---- the numbers of types

-- how many bits a type has
unfoldable pub bits_by : ℕ → ℕ
bits_by k = if' (eqb k 2) 1 (if' (eqb k 3) 8 (if' (eqb k 4) 16 (if' (eqb k 5) 32 (if' (eqb k 6) 64 0))))

-- what an integer type holds of a word
unfoldable pub low_by : ℕ → ℕ → ℕ
low_by k n = if' (eqb k 3) (n % 256) (if' (eqb k 4) (n % 65536) (if' (eqb k 5) (n % 4294967296) n))

-- a value of the second type can be passed, as it is, for a parameter of the first
unfoldable pub fits_by : ℕ → ℕ → Bool
fits_by w k =
    if' (is_integral w) (is_integral k)
    (if' (eqb w 9) (is_integral k || (eqb 9 k || (eqb 10 k || eqb 7 k)))
    (if' (eqb w 11) (eqb 11 k || eqb 10 k)
    (if' (eqb w 7) (eqb 7 k)
    (if' (eqb w 8) (eqb 8 k)
    (if' (eqb w 10) (eqb 10 k)
    (if' (eqb w 12) (eqb 12 k) false))))))

-- an integer that has no size
abbrev pub is_unsized : Term → Bool
is_unsized v = eqb v.form 1 && eqb v.kind 16

-- the number that two words are
abbrev pub number_of : Term → ℕ
number_of v = v.hi * word_limit + v.lo

-- ---- integer types

-- a finding at the token t
pub record Warns (s : List ℕ) (t : ℕ) (what : What) (c : Counts) (x : List ℕ) (c' : Counts) (y : List ℕ) : Type 0 where
  pub is : (n : ℕ) (w : judgements.What) → n ≡ c.number → what ≡ what_as (token_of s) w → Adds s c x c' y (diag n t w ∷ []) []

-- a number that is known, cut to an integer type
pub record Cuts (s : List ℕ) (wanted t : ℕ) (v : Term) (c : Counts) (x : List ℕ) (r : Judgement) (y : List ℕ) : Type 0 where
  pub is : (n : ℕ) (ty : IntType) → n ≡ c.number → wanted ≡ int_kind ty
      → Judges s r x y c (judgement (val (atom v.at (constant (is_sized ty (low_bits ty (number_of v)))))) (judgements.cut n t ty (number_of v)))

-- a value that is not known
pub record Widens (s : List ℕ) (wanted t : ℕ) (v : Term) (c : Counts) (x : List ℕ) (r : Judgement) (y : List ℕ) : Type 0 where
  pub is : (n : ℕ) (ty : IntType) (e : terms.Term) → n ≡ c.number → wanted ≡ int_kind ty → v ≡ term_as e
      → Judges s r x y c (judgement (val e) (judgements.widened n t ty (term_type e)))

-- to an integer type by its number: v starts at the token t, and comes to `otherwise` where it is no number
pub record Narrows (s : List ℕ) (wanted t : ℕ) (v : Term) (otherwise : Judged) (c : Counts) (x : List ℕ) (r : Judgement) (y : List ℕ) : Type 0 where
  pub is : (n : ℕ) (ty : IntType) (e : terms.Term) (o : judgements.Judged terms.Term) → n ≡ c.number → wanted ≡ int_kind ty → v ≡ term_as e
      → otherwise ≡ judged_as s o → Judges s r x y c (narrow_to n ty t (judgement o []) e)

-- ---- other types

-- an integer with no size, to a type by its number
pub record Unsized (s : List ℕ) (wanted t : ℕ) (v : Term) (r : Judged) : Type 0 where
  pub is : (n : ℕ) (ty : Ty) (e : terms.Term) (o : judgements.Judged terms.Term) → wanted ≡ ty_kind ty → v ≡ term_as e → is_unsized v ≡ true
      → r ≡ judged_as s (fit n ty t (judgement o []) e).out

-- a value as it is, if it fits
pub record Kept (s : List ℕ) (wanted : ℕ) (v : Term) (otherwise r : Judged) : Type 0 where
  pub is : (ty : Ty) (e : terms.Term) (o : judgements.Judged terms.Term) → wanted ≡ ty_kind ty → v ≡ term_as e → otherwise ≡ judged_as s o
      → r ≡ judged_as s (as_it_is ty (judgement o []) e).out

-- to a type that is no integer's
pub record Plain (s : List ℕ) (wanted t : ℕ) (v : Term) (otherwise r : Judged) : Type 0 where
  pub is : (n : ℕ) (ty : Ty) (e : terms.Term) (o : judgements.Judged terms.Term) → wanted ≡ ty_kind ty → v ≡ term_as e → otherwise ≡ judged_as s o
      → leb 3 wanted && leb wanted 6 ≡ false → r ≡ judged_as s (fit n ty t (judgement o []) e).out

-- to the type of a parameter
pub record Fits (s : List ℕ) (wanted t : ℕ) (v : Term) (otherwise : Judged) (c : Counts) (x : List ℕ) (r : Judgement) (y : List ℕ) : Type 0 where
  pub is : (n : ℕ) (ty : Ty) (e : terms.Term) (o : judgements.Judged terms.Term) → n ≡ c.number → wanted ≡ ty_kind ty → v ≡ term_as e
      → otherwise ≡ judged_as s o → Judges s r x y c (fit n ty t (judgement o []) e)

-- Counted name comparisons (02, E8): "Report how many binding names were compared with a wanted name, searching in order of binding
-- and stopping at the match. The count equals that search's steps in the definition, and is at most the number of lets and local
-- uses judged, times the names bound at the end." The count is `comparisons` (Numbers.antt); that it is the answer's, and 0 on
-- refusal, is in `CheckLeft` (Left.antt), and that a source and its canonical text have the same in `TextChecked` (Checks.antt).
use Rattle.std.specs.Prelude.{ℕ, ◌+◌, ◌*◌, ◌≤◌, ◌≡◌, List, [], ◌∷◌, map, length}
use Prim.Native.String.{String}
use Rattle.language.specs.Tokens.{tokens, contents}
use Rattle.language.specs.Sentences.{Expr, literal, sock4, local, path, member, call, slash', Args, none_given, given, named, Stmt, import', let', expr', program}
use Rattle.language.specs.Names.{let_names, distinct}
use Rattle.language.specs.Numbers.{statements_of, checked, looks_by, comparisons}
use Rattle.language.specs.Samples.{bytes}

-- the statements of a source; none where it does not parse
abbrev pub statements_in : List ℕ → List Stmt
statements_in s = statements_of (program (contents (tokens s)))

-- "the number of lets and local uses judged": each takes one search
abbrev pub searches : List ℕ → ℕ
searches s = length (looks_by (checked s))

-- "the names bound at the end", failed ones too
abbrev pub names_bound : List ℕ → ℕ
names_bound s = length (distinct (let_names (contents (tokens s)) (statements_in s)))

-- the lets and local uses that stand in a source, judged or not
unfoldable mutual
  pub uses_in : Expr → ℕ
  uses_in (literal t) = 0
  uses_in (sock4 t) = 0
  uses_in (local t) = 1
  uses_in (path t m) = 0
  uses_in (member e t) = uses_in e
  uses_in (slash' a b) = uses_in a + uses_in b
  uses_in (call e t g) = uses_in e + arg_uses g

  pub arg_uses : Args → ℕ
  arg_uses none_given = 0
  arg_uses (given g e) = arg_uses g + uses_in e
  arg_uses (named g t e) = arg_uses g + uses_in e

abbrev pub stmt_uses : Stmt → ℕ
stmt_uses (import' t) = 0
stmt_uses (let' t e) = 1 + uses_in e
stmt_uses (expr' e) = uses_in e

unfoldable pub all_uses : List Stmt → ℕ
all_uses [] = 0
all_uses (s ∷ ss) = stmt_uses s + all_uses ss

-- ---- the claims

-- "is at most the number of lets and local uses judged, times the names bound at the end"
abbrev pub ComparisonsFew : Type 0
ComparisonsFew = (s : List ℕ) → comparisons s ≤ searches s * names_bound s

-- and no more are judged than there are
abbrev pub SearchesFew : Type 0
SearchesFew = (s : List ℕ) → searches s ≤ all_uses (statements_in s)

-- counted by hand: sources, and what each search compares
pub record Counted : Type 0 where
  pub source : String
  pub looks : List ℕ

abbrev pub looked : String → List ℕ → Counted
looked t ls = record { source = t; looks = ls }

abbrev pub worked_looks : List Counted
worked_looks =
    -- two lets and their uses: the second let misses `a`, `a` is found first, `b` second
    looked "let a=1; let b=a; b;" (0 ∷ 1 ∷ 1 ∷ 2 ∷ [])
    -- a name that is bound already stops at the match, and its value is not judged
    ∷ looked "let a=1; let b=2; let a=b;" (0 ∷ 1 ∷ 1 ∷ [])
    -- a miss looks at all; the right of `/` is not judged where the left errs
    ∷ looked "let a=1; let b=2; x; x/a; 1.2.3.4/b;" (0 ∷ 1 ∷ 2 ∷ 2 ∷ 2 ∷ [])
    -- a failed name is bound, and found by its use; imports and paths take no search
    ∷ looked "import bench; let a=x; a; bench::HTTP; import q;" (0 ∷ 0 ∷ 1 ∷ [])
    -- callees and arguments, left to right; none after one that errs
    ∷ looked "import bench; let a=1; let f=bench::pick; f(f(a)); f(x, a); a(f);" (0 ∷ 1 ∷ 2 ∷ 2 ∷ 1 ∷ 2 ∷ 2 ∷ 1 ∷ [])
    ∷ []

abbrev pub LooksWorked : Type 0
LooksWorked = map (λ c. looks_by (checked (bytes c.source))) worked_looks ≡ map (λ c. c.looks) worked_looks

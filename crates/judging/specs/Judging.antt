-- How the tables of names, the rows of trees and the code's judgements stand for the language's.
use Rattle.std.specs.Prelude.{ℕ, suc, ◌+◌, ◌*◌, ◌/◌, ◌≤◌, ◌<◌, ◌≡◌, Bool, true, false, List, [], ◌∷◌, ◌⊎◌, length, get_or, Result, Ok, Err}
use Rattle.std.proofs.Math.Option.{Option, some}
use Rattle.language.specs.Tokens as tokens
use Rattle.language.specs.Tokens.{Content, contents}
use Rattle.language.specs.Sentences.{Expr, literal, sock4, local, path, member, call, slash', Args, none_given, given, named, first_of, expr_size, args_size, node_width}
use Rattle.language.specs.Integers.{u16}
use Rattle.language.specs.Values.{Value, is_sized, Ty, ty_ip4, ty_kind, same_ty}
use Rattle.language.specs.Terms as terms
use Rattle.language.specs.Terms.{Atom, divided, term_at, term_type, constant_of, function_of}
use Rattle.language.specs.Judgements as judgements
use Rattle.language.specs.Judgements.{val, err, Judgement, judgement, fine, wrong, Import, Binding, Known, known, name_at, find, compared, most_names, find_import, bound_to, below, and_then, no_members, operand_type, used, Arg, any_named, bind_all, called_name, of_function, applied, left_operand, right_operand, joined, over, membered, judge, judge_args}
use Rattle.language.specs.Findings.{parts}
use Rattle.language.specs.Numbers.{token_of}
use Rattle.rows.specs.Rows.{node_word}
use Rattle.rows.specs.declared.token.Token.{Token}
use Rattle.rows.specs.Tokens.{token_as}
use Rattle.names.specs.Names.{name_width, name_word, name_of, listed, Keyed}
use Rattle.findings.specs.declared.Counts.{Counts}
use Rattle.findings.specs.declared.Side.{Side}
use Rattle.findings.specs.Findings.{side_as, most_compared, plus_search}
use Rattle.values.specs.declared.Term.{Term}
use Rattle.values.specs.declared.Halt.{Halt}
use Rattle.values.specs.Values as code
use Rattle.values.specs.Values.{Judged, term_as, opened, Canon, judged_as}
use Rattle.paths.specs.Paths.{or_none}
use Rattle.holding.specs.Holding.{Step, most_rows, put_held, Puts, Agrees}
use Rattle.arguments.specs.Arguments.{Bound}
use Rattle.judging.specs.declared.Spine.{Spine}
use Rattle.judging.specs.declared.Callee.{Callee}

-- so many findings can be counted and stored
abbrev pub most_findings : ℕ
most_findings = most_rows

-- ---- tables of names

module _ (s ws : List ℕ) where
  abbrev pub atom_in : ℕ → Option Atom
  atom_in i = opened (name_word ws i 3) (name_word ws i 4) (name_word ws i 5) (name_word ws i 6)

  abbrev pub binding_at : ℕ → Binding
  binding_at i = record { name = name_of s ws i; tok = name_word ws i 2; value = atom_in i }

  -- k bindings from the entry i on
  unfoldable pub bound_in : ℕ → ℕ → List Binding
  bound_in k i = listed binding_at k i

  abbrev pub import_at : ℕ → Import
  import_at i = record { name = name_of s ws i; found = or_none (name_word ws i 4) }

  unfoldable pub imports_in : ℕ → ℕ → List Import
  imports_in k i = listed import_at k i

-- what is known, in the two tables of names
abbrev pub known_in : List ℕ → List ℕ → List ℕ → Counts → Known
known_in s bindings imports c = known (imports_in s imports c.imported 0) (bound_in s bindings c.used 0) c.slots

pub record Knows (s bindings imports : List ℕ) (c : Counts) (k : Known) : Type 0 where
  pub is : k ≡ known_in s bindings imports c

-- each of the used entries has the words of what it stands for
abbrev pub Sound : List ℕ → ℕ → Type 0
Sound ws used = (i : ℕ) → i < used → Canon (name_word ws i 3) (name_word ws i 4) (name_word ws i 5) (name_word ws i 6)

-- the tables have the entries that are counted, each is as it was written, and each name has its key
pub record Ready (s bindings imports : List ℕ) (c : Counts) : Type 0 where
  pub bound : c.used ≤ length bindings / name_width
  pub few : c.used ≤ most_names
  pub modules : c.imported ≤ length imports / name_width
  pub sound : Sound bindings c.used
  pub keyed : Keyed s bindings c.used
  pub keyed_modules : Keyed s imports c.imported

-- ---- names

-- a name at the token t
pub record LocalIs (s bindings : List ℕ) (c : Counts) (tok : Token) (t : ℕ) (r : code.Judgement) : Type 0 where
  pub is : tok ≡ token_as (token_of s t) → Sound bindings c.used
      → r.out ≡ judged_as s (bound_to (contents (tokens.tokens s)) t (find (bound_in s bindings c.used 0) (name_at (contents (tokens.tokens s)) t)))
  pub counted : tok ≡ token_as (token_of s t)
      → r.counts ≡ plus_search c (compared (bound_in s bindings c.used 0) (name_at (contents (tokens.tokens s)) t))

pub record PathIs (s imports : List ℕ) (c : Counts) (t names : ℕ) (r : code.Judgement) : Type 0 where
  pub is : r.out
      ≡ judged_as s (below (contents (tokens.tokens s)) t names (find_import (imports_in s imports c.imported 0) (name_at (contents (tokens.tokens s)) t)))
  pub counted : r.counts ≡ c

-- ---- trees: rows of the node table

-- an argument as it is passed, with a name's token or without
pub data Passed : Type 0 where
  unnamed : Expr → Passed
  named_as : ℕ → Expr → Passed

abbrev pub value_of : Passed → Expr
value_of (unnamed e) = e
value_of (named_as t e) = e

abbrev pub is_named : Passed → Bool
is_named (unnamed e) = false
is_named (named_as t e) = true

-- arguments, first to last, behind others
abbrev pub pass : Args → Passed → Args
pass g (unnamed e) = given g e
pass g (named_as t e) = named g t e

unfoldable pub passed : Args → List Passed → Args
passed g [] = g
passed g (p ∷ ps) = passed (pass g p) ps

unfoldable pub passed_size : List Passed → ℕ
passed_size [] = 0
passed_size (p ∷ ps) = expr_size (value_of p) + 1 + passed_size ps

mutual
  -- the tree stands at row i, its parts below it
  pub data RepAt (ws : List ℕ) : ℕ → Expr → Type 0 where
    is_literal_lem : {i : ℕ} → node_width * i + node_width ≤ length ws → node_word ws i 0 ≡ 2 → RepAt ws i (literal (node_word ws i 1))
    is_sock4_lem : {i : ℕ} → node_width * i + node_width ≤ length ws → node_word ws i 0 ≡ 3 → RepAt ws i (sock4 (node_word ws i 1))
    is_local : {i : ℕ} → node_width * i + node_width ≤ length ws → node_word ws i 0 ≡ 4 → RepAt ws i (local (node_word ws i 1))
    -- the last name's token can be counted
    is_path : {i : ℕ} → node_width * i + node_width ≤ length ws → node_word ws i 0 ≡ 5 → node_word ws i 1 + 2 * node_word ws i 2 ≤ most_rows
        → RepAt ws i (path (node_word ws i 1) (node_word ws i 2))
    is_member : {i : ℕ} {e : Expr} → node_width * i + node_width ≤ length ws → node_word ws i 0 ≡ 6 → node_word ws i 1 ≡ first_of e
        → node_word ws i 2 < i → RepAt ws (node_word ws i 2) e → RepAt ws i (member e (node_word ws i 3))
    is_slash : {i : ℕ} {a b : Expr} → node_width * i + node_width ≤ length ws → node_word ws i 0 ≡ 7 → node_word ws i 1 ≡ first_of a
        → node_word ws i 2 < i → node_word ws i 3 < i → RepAt ws (node_word ws i 2) a → RepAt ws (node_word ws i 3) b → RepAt ws i (slash' a b)
    is_call : {i : ℕ} {e : Expr} {ps : List Passed} → node_width * i + node_width ≤ length ws → node_word ws i 0 ≡ 8
        → node_word ws i 1 ≡ first_of e → node_word ws i 2 < i → RepAt ws (node_word ws i 2) e → ArgsAt ws i (node_word ws i 3) ps
        → RepAt ws i (call e (node_word ws i 4) (passed none_given ps))

  -- the arguments from row j on, where next is j + 1, of the call at row i; 0 where there are no more
  pub data ArgsAt (ws : List ℕ) : ℕ → ℕ → List Passed → Type 0 where
    no_args : {i : ℕ} → ArgsAt ws i 0 []
    is_arg : {i j : ℕ} {e : Expr} {ps : List Passed} → node_width * j + node_width ≤ length ws → node_word ws j 0 ≡ 9 → j < i
        → node_word ws j 2 < j → (node_word ws j 3 ≡ 0) ⊎ (suc j < node_word ws j 3) → RepAt ws (node_word ws j 2) e
        → ArgsAt ws i (node_word ws j 3) ps → ArgsAt ws i (suc j) (unnamed e ∷ ps)
    is_named_arg : {i j : ℕ} {e : Expr} {ps : List Passed} → node_width * j + node_width ≤ length ws → node_word ws j 0 ≡ 10 → j < i
        → node_word ws j 2 < j → (node_word ws j 3 ≡ 0) ⊎ (suc j < node_word ws j 3) → RepAt ws (node_word ws j 2) e
        → ArgsAt ws i (node_word ws j 3) ps → ArgsAt ws i (suc j) (named_as (node_word ws j 1) e ∷ ps)

-- some tree stands at row i
pub record TreeAt (ws : List ℕ) (i : ℕ) : Type 0 where
  pub tree : Expr
  pub rep : RepAt ws i tree

-- a call does
pub record CallFits (ws : List ℕ) (i : ℕ) : Type 0 where
  pub tree : Expr
  pub rep : RepAt ws i tree
  pub kind : node_word ws i 0 ≡ 8

-- some arguments of the call at row i do, from row next - 1 on
pub record ChainFits (ws : List ℕ) (i next : ℕ) : Type 0 where
  pub args : List Passed
  pub rep : ArgsAt ws i next args

-- ---- the left spine: what stands before a `.`, a `/` or a `(`

abbrev pub left_of : Expr → Expr
left_of (literal t) = literal t
left_of (sock4 t) = sock4 t
left_of (local t) = local t
left_of (path t m) = path t m
left_of (member e t) = e
left_of (slash' a b) = a
left_of (call e t g) = e

-- how many nodes are behind it
abbrev pub rest_size : Expr → ℕ
rest_size (literal t) = 0
rest_size (sock4 t) = 0
rest_size (local t) = 0
rest_size (path t m) = 0
rest_size (member e t) = 0
rest_size (slash' a b) = expr_size b
rest_size (call e t g) = args_size g

-- d steps to the left from the tree e at row i lead to the tree u at a row; `rows` holds the rows on the way
pub data Down (ws rows : List ℕ) (i : ℕ) (e : Expr) : ℕ → ℕ → Expr → Type 0 where
  top : {d : ℕ} → d ≡ 0 → Down ws rows i e d i e
  deeper : {d f row next : ℕ} {u : Expr} → Down ws rows i e d row u → f ≡ d + 1 → get_or rows d 0 ≡ row → 6 ≤ node_word ws row 0
      → next ≡ node_word ws row 2 → Down ws rows i e f next (left_of u)

pub record Descends (ws rows : List ℕ) (i d row : ℕ) (e : Expr) : Type 0 where
  pub tree : Expr
  pub down : Down ws rows i e d row tree

-- a leaf ends the spine, or the room for it
pub record Descended (s : Spine) (ws rows : List ℕ) (i : ℕ) : Type 0 where
  pub long : s.depth ≤ 64
  pub ends : 6 ≤ node_word ws s.row 0 → 0 < s.depth
  pub walks : (e : Expr) → RepAt ws i e → Descends ws rows i s.depth s.row e

-- ---- what goes on with the value on the left

-- of `/` at the token `at`, when both operands are values
abbrev pub over_both : ℕ → ℕ → ℕ → terms.Term → terms.Term → Judgement terms.Term
over_both n at p ip b = and_then (used b) (λ w. and_then (right_operand n p w) (λ port. fine (joined at ip port)))

module _ (ts : List Content) (n : ℕ) (k : Known) where
  -- after it was seen to be no void value
  abbrev pub going : Expr → terms.Term → Judgement terms.Term
  going (literal t) v = fine v
  going (sock4 t) v = fine v
  going (local t) v = fine v
  going (path t m) v = fine v
  going (member e t) v = wrong t (no_members (term_type v))
  going (slash' a b) v = and_then (left_operand v) (λ ip. and_then (judge ts n k b) (over_both n (first_of a) (first_of b) ip))
  going (call e t g) v = of_function n (called_name e) t g (judge_args ts n k g) v (function_of (term_type v))

  -- from what the left came to on
  abbrev pub rest : Expr → terms.Term → Judgement terms.Term
  rest (literal t) v = fine v
  rest (sock4 t) v = fine v
  rest (local t) v = fine v
  rest (path t m) v = fine v
  rest (member e t) v = membered t v
  rest (slash' a b) v = over n (first_of a) (first_of b) (judge ts n k b) v
  rest (call e t g) v = applied n (called_name e) t g (judge_args ts n k g) v

  -- all arguments, and then they are bound
  abbrev pub bound : ℕ → ℕ → Args → Judgement terms.Terms
  bound at f g = and_then (judge_args ts n k g) (bind_all n at f)

-- ---- steps

pub record MemberIs (s : List ℕ) (t : ℕ) (v : Term) (r : Judged) : Type 0 where
  pub is : (e : terms.Term) → v ≡ term_as e → r ≡ judged_as s (err t (no_members (term_type e)))

pub record OperandIs (s : List ℕ) (v : Term) (side : Side) (wanted : ℕ) (r : Judged) : Type 0 where
  pub is : (e : terms.Term) (d : judgements.Side) (ty : Ty) → v ≡ term_as e → side ≡ side_as d → wanted ≡ ty_kind ty
      → r ≡ judged_as s (err (term_at e) (operand_type d ty (term_type e)))

-- e was judged with the row `at` kept: v, the next free row, and the table from u to t
pub record Left (s u t : List ℕ) (at : ℕ) (e : terms.Term) (v : Term) (next : ℕ) : Type 0 where
  pub value : v ≡ term_as e
  pub free : next ≡ at + 1 + length (parts e)
  pub table : t ≡ put_held s u (at + 1) (parts e)

-- what the right of `/` is, where it is known: 16 bits
abbrev pub Port : terms.Term → Type 0
Port b = (c : Value) → constant_of b ≡ some c → (m : ℕ) × (c ≡ is_sized u16 m)

-- both operands stay
pub record Spreads (s : List ℕ) (place at next : ℕ) (v w : Term) (end : ℕ) (c : Counts) (t : List ℕ) (r : Step) (z : List ℕ) : Type 0 where
  pub is : (a b : terms.Term) (u m x : List ℕ) → Left s u m (at + 1) a v next → Left s m t next b w end
      → Agrees s r x x u z c at (fine (divided place a b))

-- both operands of `/` at the token `place` are what they must be
pub record Joins (s : List ℕ) (place at next : ℕ) (v w : Term) (end : ℕ) (c : Counts) (t : List ℕ) (r : Step) (z : List ℕ) : Type 0 where
  pub is : (a b : terms.Term) (u m x : List ℕ) → same_ty ty_ip4 (term_type a) ≡ true → Port b → Left s u m (at + 1) a v next → Left s m t next b w end
      → Agrees s r x x u z c at (fine (joined place a b))

-- `/` of which both operands came to values, v with the row at + 1 and w with the row `next`; p is the right one's first token
pub record Divides (s : List ℕ) (place p at next : ℕ) (v w : Term) (end : ℕ) (c : Counts) (x t : List ℕ) (r : Step) (y z : List ℕ) : Type 0 where
  pub is : (n : ℕ) (a b : terms.Term) (u m : List ℕ) → n ≡ c.number → same_ty ty_ip4 (term_type a) ≡ true → Left s u m (at + 1) a v next
      → Left s m t next b w end → Agrees s r x y u z c at (over_both n place p a b)

-- the callee c of the call at row i, for which the row at + 1 is kept: the function and the called name, with its row written; or why
-- the call comes to no value, whatever its arguments are
abbrev pub CalleeOf : List ℕ → ℕ → Term → Result Callee Halt → List ℕ → List ℕ → Expr → ℕ → Args → terms.Term → Type 0
CalleeOf s at c (Ok f) u v e t g d =
    (function_of (term_type d) ≡ some f.entry) × (any_named g ≡ false) × (f.name ≡ called_name e) × Puts s (at + 1) c.at 6 0 c u v
CalleeOf s at c (Err h) u v e t g d =
    (n : ℕ) (r : Judgement (List Arg)) → (p : judgements.Judged terms.Term) × (of_function n (called_name e) t g r d (function_of (term_type d)) ≡ judgement p []) × (Err h ≡ judged_as s p)

pub record CalleeIs (s ws : List ℕ) (i at : ℕ) (c : Term) (r : Result Callee Halt) (u v : List ℕ) : Type 0 where
  pub is : (e : Expr) (t : ℕ) (g : Args) (d : terms.Term) → RepAt ws i (call e t g) → c ≡ term_as d → CalleeOf s at c r u v e t g d

-- the call at the token `at` of the function f, whose arguments are g, with rows from `row` on
abbrev pub Calls : List ℕ → ℕ → Known → Args → ℕ → ℕ → ℕ → Counts → List ℕ → List ℕ → Step → List ℕ → List ℕ → Type 0
Calls s n k g at f row c x u r y v = Bound s r x y u v c at f row (bound (contents (tokens.tokens s)) n k at f g)

-- ---- room

-- a search more can be counted
abbrev pub LookFits : Counts → Type 0
LookFits c = c.comparisons + most_names ≤ most_compared

-- a tree stands at row i, and its findings, what it compares and its rows can be counted on from c and `at`
pub record Fits (ws : List ℕ) (i at : ℕ) (c : Counts) : Type 0 where
  pub tree : Expr
  pub rep : RepAt ws i tree
  pub room : c.errors + c.warnings + expr_size tree + 2 ≤ most_findings
  pub rows : at + expr_size tree ≤ most_rows
  pub looks : c.comparisons + most_names * expr_size tree ≤ most_compared

-- the same after the value on its left, for which the row at + 1 is kept
pub record StepFits (ws : List ℕ) (i at next : ℕ) (c : Counts) : Type 0 where
  pub tree : Expr
  pub rep : RepAt ws i tree
  pub inner : 6 ≤ node_word ws i 0
  pub behind : at + 2 ≤ next
  pub room : c.errors + c.warnings + rest_size tree + 3 ≤ most_findings
  pub rows : next + rest_size tree ≤ most_rows
  pub looks : c.comparisons + most_names * rest_size tree ≤ most_compared

-- the same of the arguments from row next - 1 on
pub record ArgsFit (ws : List ℕ) (i next row : ℕ) (c : Counts) : Type 0 where
  pub args : List Passed
  pub rep : ArgsAt ws i next args
  pub room : c.errors + c.warnings + passed_size args + 3 ≤ most_findings
  pub rows : row + passed_size args ≤ most_rows
  pub looks : c.comparisons + most_names * passed_size args ≤ most_compared

-- d steps down the spine of a tree that fits, something was judged
pub record ClimbFits (s bindings imports ws rows : List ℕ) (i d at : ℕ) (out : Step) (x u : List ℕ) : Type 0 where
  pub counts : Counts
  pub fits : Fits ws i at counts
  pub row : ℕ
  pub below : Expr
  pub down : Down ws rows i fits.tree d row below
  pub found : List ℕ
  pub held : List ℕ
  pub agrees : Agrees s out found x held u counts (at + d)
      (judge (contents (tokens.tokens s)) counts.number (known_in s bindings imports counts) below)

-- What no answer shows (01: "`unreachable!`, `unwrap` and `expect` become proved facts"). Definitions are total: where a tree would
-- name a token that is not there or not of its kind, or a path would have no name to look up, some value stands. The claims say
-- that no program has such a tree, and that whatever stood there, each program would be judged alike.
use Rattle.std.specs.Prelude.{ℕ, zero, suc, ◌+◌, ◌*◌, ◌≤◌, ◌<◌, ◌≡◌, Bool, ◌||◌, ltb, length, get_or}
use mathlib.Core.List.{List, [], ◌∷◌, ◌++◌, Memᴰ}
use Rattle.std.proofs.Math.Option.{Option, none, some}
use Rattle.language.specs.Choice.{if'}
use Rattle.language.specs.Lexemes.{l_paren, boolean_literal, ipv4_literal, hex_literal, dec_literal}
use Rattle.language.specs.Tokens.{Content, eof, plain, name, string, tokens, contents}
use Rattle.language.specs.Sentences.{Expr, literal, sock4, local, path, member, call, slash', Args, none_given, given, named, Stmt, import', let', expr', first_of, largest_port, ok, is, is_literal, program}
use Rattle.language.specs.Tables.{content_low}
use Rattle.language.specs.Bounds.{alone}
use Rattle.language.specs.Values.{Value, is_sock4, entry_at, lookup}
use Rattle.language.specs.Terms.{Atom, constant, slot, Term, atom, term_at, term_type, atom_of}
use Rattle.language.specs.Judgements.{named_number, names_number, most_names, most_imports, unknown_item, unknown_module, not_imported, already_bound, multiple_imports, Diag, diag, Judged, val, err, poisoned, stopped, Judgement, judgement, fine, and_then, Import, Binding, Known, known, find, find_import, compared, lets, Held, held, Turn, goes, refuses, Outcome, judged, refused, content, literal_at, last_item, inner_item, bound_to, used, Arg, next_arg, called_name, applied, over, membered, told, onward}
use Rattle.language.specs.Findings.{Row}
use Rattle.language.specs.Numbers.{statements_of, checked, found_by, rows_by}

-- ---- trees that name tokens of the right kinds

module _ (ts : List Content) where
  -- the token t is there, with this content
  abbrev pub Stands : ℕ → Content → Type 0
  Stands t c = (t < length ts) × (get_or ts t eof ≡ c)

  abbrev pub NameStands : ℕ → Type 0
  NameStands t = (bs : List ℕ) × Stands t (name bs)

  abbrev pub AddressStands : ℕ → Type 0
  AddressStands t = (n : ℕ) × Stands t (plain (ipv4_literal n))

  -- "the port must be a decimal token up to 65,535"
  abbrev pub PortStands : ℕ → Type 0
  PortStands t = (n : ℕ) × Stands t (plain (dec_literal n)) × (n ≤ largest_port)

  -- a bool, a string, an integer or an address
  pub data LiteralStands (t : ℕ) : Type 0 where
    a_bool : (b : Bool) → Stands t (plain (boolean_literal b)) → LiteralStands t
    a_string : (b : List ℕ) (bs : List (List ℕ)) → Stands t (string b bs) → LiteralStands t
    a_hex : (n : ℕ) → Stands t (plain (hex_literal n)) → LiteralStands t
    a_dec : (n : ℕ) → Stands t (plain (dec_literal n)) → LiteralStands t
    an_address : (n : ℕ) → Stands t (plain (ipv4_literal n)) → LiteralStands t

  -- a path has a name after its first, and each of its names is one
  abbrev pub PathStands : ℕ → ℕ → Type 0
  PathStands t n = (0 < n) × ((j : ℕ) → j ≤ n → NameStands (t + 2 * j))

  abbrev mutual
    pub SoundExpr : Expr → Type 0
    SoundExpr (literal t) = LiteralStands t
    SoundExpr (sock4 t) = AddressStands t × PortStands (t + 2)
    SoundExpr (local t) = NameStands t
    SoundExpr (path t n) = PathStands t n
    SoundExpr (member e t) = SoundExpr e × NameStands t
    SoundExpr (call e t g) = SoundExpr e × Stands t (plain l_paren) × SoundArgs g
    SoundExpr (slash' a b) = SoundExpr a × SoundExpr b

    pub SoundArgs : Args → Type 0
    SoundArgs none_given = Unit {0}
    SoundArgs (given g e) = SoundArgs g × SoundExpr e
    SoundArgs (named g t e) = SoundArgs g × NameStands t × SoundExpr e

  abbrev pub SoundStmt : Stmt → Type 0
  SoundStmt (import' t) = NameStands t
  SoundStmt (let' t e) = NameStands t × SoundExpr e
  SoundStmt (expr' e) = SoundExpr e

-- ---- judging with other values where something cannot happen

-- what stands for the bytes of a token that is no name, the value of one that is no literal, the number of one that is no address or
-- no decimal, for what a path comes to that has no name to look up, and for arguments with a named one, which are refused before
pub record MadeUp : Type 0 where
  pub bytes : List ℕ
  pub value : Value
  pub number : ℕ
  pub walked : Judged Term
  pub given : Judgement (List Arg)

-- the definitions of Judgements.antt, of the same names without `Or`, but that these stand there
module _ (ts : List Content) (x : MadeUp) where
  abbrev pub bytes_or : Content → List ℕ
  bytes_or (name bs) = bs
  bytes_or eof = x.bytes
  bytes_or (plain t) = x.bytes
  bytes_or (string b bs) = x.bytes

  unfoldable pub name_or : ℕ → List ℕ
  name_or t = bytes_or (content ts t)

  unfoldable pub literal_or : ℕ → Value
  literal_or t = if' (is_literal ts t || is ts t (plain (ipv4_literal 0))) (literal_at ts t) x.value

  unfoldable pub number_or : Content → ℕ → ℕ
  number_or c t = if' (is ts t c) (content_low (content ts t)) x.number

  unfoldable pub walk_or : ℕ → ℕ → ℕ → ℕ → Judged Term
  walk_or p zero m t = x.walked
  walk_or p (suc zero) m t = elim (lookup m (name_or (t + 2))) [
    | none ↦ err (t + 2) (unknown_item m)
    | some k ↦ last_item ts p (t + 2) (entry_at k).value
  ]
  walk_or p (suc (suc n)) m t = elim (lookup m (name_or (t + 2))) [
    | none ↦ err (t + 2) (unknown_item m)
    | some k ↦ inner_item ts (t + 2) (entry_at k).value (walk_or p (suc n) k (t + 2))
  ]

  abbrev pub below_or : ℕ → ℕ → Option Import → Judged Term
  below_or t n none = err t not_imported
  below_or t n (some i) = elim i.found [ none ↦ poisoned | some m ↦ walk_or t n m t ]

  module _ (n : ℕ) where
    unfoldable mutual
      pub judge_or : Known → Expr → Judgement Term
      judge_or k (literal t) = fine (atom t (constant (literal_or t)))
      judge_or k (sock4 t) =
          fine (atom t (constant (is_sock4 (number_or (plain (ipv4_literal 0)) t) (number_or (plain (dec_literal 0)) (t + 2)))))
      judge_or k (local t) =
          record { out = bound_to ts t (find k.bindings (name_or t)); warns = []; looks = compared k.bindings (name_or t) ∷ [] }
      judge_or k (path t m) = judgement (below_or t m (find_import k.imports (name_or t))) []
      judge_or k (member e t) = and_then (judge_or k e) (membered t)
      judge_or k (slash' a b) = and_then (judge_or k a) (over n (first_of a) (first_of b) (judge_or k b))
      judge_or k (call e t g) = and_then (judge_or k e) (applied n (called_name e) t g (judge_args_or k g))

      pub judge_args_or : Known → Args → Judgement (List Arg)
      judge_args_or k none_given = fine []
      judge_args_or k (given g e) = and_then (judge_args_or k g) (next_arg (first_of e) (judge_or k e))
      judge_args_or k (named g t e) = x.given

    abbrev pub imported_or : Known → ℕ → Option ℕ → Turn
    imported_or k t (some m) = goes (known (k.imports ++ record { name = name_or t; found = some m } ∷ []) k.bindings k.slots) [] [] []
    imported_or k t none =
        goes (known (k.imports ++ record { name = name_or t; found = none } ∷ []) k.bindings k.slots) (diag n t unknown_module ∷ []) [] []

    abbrev pub import_stmt_or : Known → ℕ → Option Import → Turn
    import_stmt_or k t (some i) = goes k (diag n t multiple_imports ∷ []) [] []
    import_stmt_or k t none =
        if' (ltb (length k.imports) most_imports) (imported_or k t (lookup 0 (name_or t))) (refuses names_number t)

    abbrev pub bind_or : Known → ℕ → Option Atom → ℕ → Known
    bind_or k t v m = known k.imports (k.bindings ++ record { name = name_or t; tok = t; value = v } ∷ []) m

    abbrev pub bound_as_or : Known → ℕ → Term → Option Atom → List Diag → List ℕ → Turn
    bound_as_or k t v (some a) ws ls = goes (bind_or k t (some a) k.slots) ws [] ls
    bound_as_or k t v none ws ls =
        goes (bind_or k t (some (slot k.slots (term_type v))) (suc k.slots)) ws (held t (lets k.slots) v ∷ []) ls

    abbrev pub bound_or : Known → ℕ → Judged Term → List Diag → List ℕ → Turn
    bound_or k t (val v) ws ls = bound_as_or k t v (atom_of v) ws ls
    bound_or k t (err at w) ws ls = goes (bind_or k t none k.slots) (ws ++ diag n at w ∷ []) [] ls
    bound_or k t poisoned ws ls = goes (bind_or k t none k.slots) ws [] ls
    bound_or k t (stopped p) ws ls = refuses named_number p

    abbrev pub let_stmt_or : Known → ℕ → Expr → ℕ → Option Binding → Turn
    let_stmt_or k t e l (some b) = goes k (diag n t (already_bound b.tok) ∷ []) [] (l ∷ [])
    let_stmt_or k t e l none =
        let j = and_then (judge_or k e) used in
        if' (ltb (length k.bindings) most_names) (bound_or k t j.out j.warns (l ∷ j.looks)) (refuses names_number t)

    unfoldable pub stmt_or : Known → Stmt → Turn
    stmt_or k (import' t) = import_stmt_or k t (find_import k.imports (name_or t))
    stmt_or k (let' t e) = let_stmt_or k t e (compared k.bindings (name_or t)) (find k.bindings (name_or t))
    stmt_or k (expr' e) = told ts n k (first_of e) (judge_or k e).out (judge_or k e).warns (judge_or k e).looks

  unfoldable pub run_or : List Stmt → ℕ → Known → List Diag → List Held → List ℕ → Outcome
  run_or [] n k ds hs ls = judged ds hs ls
  run_or (s ∷ ss) n k ds hs ls = onward ts (stmt_or n k s) ds hs ls (λ k' es gs ms. run_or ss (suc n) k' es gs ms)

  abbrev pub judge_all_or : List Stmt → Outcome
  judge_all_or ss = run_or ss 1 (known [] [] 0) [] [] []

-- ---- the claims

-- each statement of a source that parses is such a tree
abbrev pub TreesSound : Type 0
TreesSound =
    (s : List ℕ) (ss : List Stmt) (next x : ℕ) → program (contents (tokens s)) ≡ ok ss next x
    → (a : Stmt) → Memᴰ a ss → SoundStmt (contents (tokens s)) a

-- what parses asks for no token past `Eof`: whatever stood there, the trees would be the same. Where a token is refused, that is one
-- of the source's (`StopsInside`: Grammar.antt), and none after it matters (`NoneFollows`: Follows.antt).
abbrev pub NoneAfter : Type 0
NoneAfter =
    (s : List ℕ) (us : List Content) (ss : List Stmt) (next x : ℕ) → program (contents (tokens s)) ≡ ok ss next x
    → alone (contents (tokens s) ++ us) ≡ ok ss next x

-- judging asks for none of these values: whatever they are, it comes to the same
abbrev pub NothingMadeUp : Type 0
NothingMadeUp =
    (s : List ℕ) (x : MadeUp) → judge_all_or (contents (tokens s)) x (statements_of (program (contents (tokens s)))) ≡ checked s

-- and the places that check shows are those of tokens of the source: of each finding, and where its name was bound first; of each
-- row of a statement, and of its expression; of a name that is one too many, and of the `(` of number 8. Of 5 and 7 it is
-- `StopsInside` (Grammar.antt).
abbrev pub PlacesInside : Type 0
PlacesInside =
    (s : List ℕ) (t : ℕ)
    → ((d : Diag) → Memᴰ d (found_by (checked s)) → (d.at < length (tokens s)) × (d.what ≡ already_bound t → t < length (tokens s)))
    × ((r : Row) → Memᴰ r (rows_by (checked s)) → (r.at < length (tokens s)) × (term_at r.term < length (tokens s)))
    × ((m : ℕ) → checked s ≡ refused m t → t < length (tokens s))

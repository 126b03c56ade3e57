-- When number 8 is given (02, E2): "8 is from now on, at its `(`, a call with a named argument whose callee was judged to be a function;
-- between 8 and 9 the earlier token decides." What is judged is said here by rules over trees.
use Rattle.std.specs.Prelude.{ℕ, suc, ◌<◌, ◌≡◌, true, false, List, [], ◌∷◌, ◌↔◌, ◌⊎◌, length}
use Rattle.std.proofs.Math.Option.{none, some}
use Rattle.language.specs.Tokens.{Content}
use Rattle.language.specs.Sentences.{Expr, member, call, slash', Args, given, Stmt, let', expr', ok, program}
use Rattle.language.specs.Values.{ty_ip4, same_ty}
use Rattle.language.specs.Terms.{Term, term_type, function_of}
use Rattle.language.specs.Judgements.{named_number, names_number, most_names, Diag, val, stopped, Known, known, find, Held, goes, refused, name_at, Arg, any_named, judge, judge_args, stmt, judge_all}
use Rattle.language.specs.Names.{FirstTooMany}

-- ---- expressions of the statement numbered n, where k is known

module _ (ts : List Content) (n : ℕ) (k : Known) where
  -- "whose callee was judged to be a function"
  pub record IsFunction (c : Expr) : Type 0 where
    pub value : Term
    pub entry : ℕ
    pub judged : (judge ts n k c).out ≡ val value
    pub function : function_of (term_type value) ≡ some entry

  -- what is judged where an expression is: itself; what stands before a `.`, a `/` or a `(`; what is right of a `/` where the left
  -- came to an Ip4; an argument where the callee came to a function, no argument is named, and those before it came to values
  mutual
    pub data Judges : Expr → Expr → Type 0 where
      itself : {e : Expr} → Judges e e
      object : {e x : Expr} {t : ℕ} → Judges e x → Judges (member e t) x
      left_operand_lem : {a b x : Expr} → Judges a x → Judges (slash' a b) x
      right_operand_lem : {a b x : Expr} (v : Term) → (judge ts n k a).out ≡ val v → same_ty ty_ip4 (term_type v) ≡ true → Judges b x
          → Judges (slash' a b) x
      callee : {c x : Expr} {t : ℕ} {g : Args} → Judges c x → Judges (call c t g) x
      argument : {c x : Expr} {t : ℕ} {g : Args} → IsFunction c → any_named g ≡ false → JudgesArg g x → Judges (call c t g) x

    pub data JudgesArg : Args → Expr → Type 0 where
      last : {g : Args} {e x : Expr} (vs : List Arg) → (judge_args ts n k g).out ≡ val vs → Judges e x → JudgesArg (given g e) x
      before : {g : Args} {e x : Expr} → JudgesArg g x → JudgesArg (given g e) x

  -- "a call with a named argument", whose `(` is the token t, among them
  pub record Met (e : Expr) (t : ℕ) : Type 0 where
    pub callee : Expr
    pub args : Args
    pub judged : Judges e (call callee t args)
    pub function : IsFunction callee
    pub named : any_named args ≡ true

-- ---- statements

module _ (ts : List Content) where
  -- from the statements ss, the first numbered n, where k is known, to those at rs, numbered from m on, where j is known
  pub data Reaches : ℕ → Known → List Stmt → ℕ → Known → List Stmt → Type 0 where
    here : {n : ℕ} {k : Known} {ss : List Stmt} → Reaches n k ss n k ss
    next : {n m : ℕ} {k k' j : Known} {s : Stmt} {ss rs : List Stmt} {ds : List Diag} {hs : List Held} {ls : List ℕ}
        → stmt ts n k s ≡ goes k' ds hs ls → Reaches (suc n) k' ss m j rs → Reaches n k (s ∷ ss) m j rs

  -- the expression that a statement judges: of a `let` where its name is not bound, and is not the 513th
  pub data Holds (k : Known) : Stmt → Expr → Type 0 where
    of_expr : {e : Expr} → Holds k (expr' e) e
    of_let : {t : ℕ} {e : Expr} → find k.bindings (name_at ts t) ≡ none → length k.bindings < most_names → Holds k (let' t e) e

  pub record NamedCall (ss : List Stmt) (t : ℕ) : Type 0 where
    pub number : ℕ
    pub before : Known
    pub this : Stmt
    pub after : List Stmt
    pub reached : Reaches 1 (known [] [] 0) ss number before (this ∷ after)
    pub expr : Expr
    pub holds : Holds before this expr
    pub met : Met ts number before expr t

-- ---- the claims

-- judging an expression stops exactly where such a call is met
abbrev pub StopsWhere : Type 0
StopsWhere = (ts : List Content) (n : ℕ) (k : Known) (e : Expr) (t : ℕ) → (judge ts n k e).out ≡ stopped t ↔ Met ts n k e t

-- judging statements is refused with 8 exactly where one is, and else with 9
abbrev pub NamedRefused : Type 0
NamedRefused = (ts : List Content) (ss : List Stmt) (t : ℕ) → judge_all ts ss ≡ refused named_number t ↔ NamedCall ts ss t

abbrev pub RefusedFor : Type 0
RefusedFor = (ts : List Content) (ss : List Stmt) (m t : ℕ) → judge_all ts ss ≡ refused m t → (m ≡ named_number) ⊎ (m ≡ names_number)

-- "between 8 and 9 the earlier token decides": where both are there, 8 is met, and it is the earlier
abbrev pub NamedEarlier : Type 0
NamedEarlier =
    (ts : List Content) (ss : List Stmt) (next x t u : ℕ) → program ts ≡ ok ss next x → NamedCall ts ss t → FirstTooMany ts ss u → t < u

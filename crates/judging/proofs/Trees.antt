-- Rows of trees: what stands at a row, by its kind.
use mathlib.Core.Path.{◌≡◌, refl, sym, ap, subst, ◌∙◌}
use mathlib.Core.Bool.{Bool, true, false}
use mathlib.Core.List.{List, [], ◌∷◌}
use mathlib.Core.Logic.{◌⊎◌, inl, inr}
use Prim.Native.Nat.{ℕ, suc, ◌+◌, ◌-◌, ◌*◌, ◌≤◌, ◌<◌}
use native.Mathlib.Omega.{arith}
use borrow.Author.Tests.{ne_eqb}
use lib.Dec.{eqb}
use lib.ListN.{length}
use Rattle.language.specs.Choice.{if'}
use Rattle.language.specs.Tokens.{Content}
use Rattle.language.specs.Sentences.{Expr, Args, none_given, given, named, literal, sock4, local, path, member, call, slash', first_of, expr_size, args_size, node_width}
use Rattle.language.specs.Judgements.{Known, and_then, any_named, called_name, judge}
use Rattle.rows.specs.Rows.{node_word}
use Rattle.holding.specs.Holding.{most_rows}
use Rattle.judging.specs.Judging.{Passed, unnamed, named_as, value_of, is_named, passed, passed_size, RepAt, is_literal_lem, is_sock4_lem, is_local, is_path, is_member, is_slash, is_call, ArgsAt, no_args, is_arg, is_named_arg, left_of, rest_size, rest}

-- ---- one row

-- the tree by the kind of its row: a case over a number has only the trees with it
pub record MemberAt (ws : List ℕ) (i : ℕ) (e : Expr) : Type 0 where
  pub inner : Expr
  pub is : e ≡ member inner (node_word ws i 3)

pub record SlashAt (ws : List ℕ) (i : ℕ) (e : Expr) : Type 0 where
  pub left : Expr
  pub right : Expr
  pub first : node_word ws i 1 ≡ first_of left
  pub near : node_word ws i 3 < i
  pub right_rep : RepAt ws (node_word ws i 3) right
  pub is : e ≡ slash' left right

pub record CallAt (ws : List ℕ) (i : ℕ) (e : Expr) : Type 0 where
  pub callee : Expr
  pub args : List Passed
  pub near : node_word ws i 2 < i
  pub callee_rep : RepAt ws (node_word ws i 2) callee
  pub args_rep : ArgsAt ws i (node_word ws i 3) args
  pub is : e ≡ call callee (node_word ws i 4) (passed none_given args)

pub data RowOf (ws : List ℕ) (i : ℕ) (e : Expr) : ℕ → Type 0 where
  a_literal : e ≡ literal (node_word ws i 1) → RowOf ws i e 2
  a_sock4 : e ≡ sock4 (node_word ws i 1) → RowOf ws i e 3
  a_local : e ≡ local (node_word ws i 1) → RowOf ws i e 4
  a_path : e ≡ path (node_word ws i 1) (node_word ws i 2) → node_word ws i 1 + 2 * node_word ws i 2 ≤ most_rows → RowOf ws i e 5
  a_member : MemberAt ws i e → RowOf ws i e 6
  a_slash : SlashAt ws i e → RowOf ws i e 7
  a_call : CallAt ws i e → RowOf ws i e 8

module _ {ws : List ℕ} where
  pub row_in : {i : ℕ} {e : Expr} → RepAt ws i e → node_width * i + node_width ≤ length ws
  row_in (is_literal_lem f k) = f
  row_in (is_sock4_lem f k) = f
  row_in (is_local f k) = f
  row_in (is_path f k l) = f
  row_in (is_member f k z n r) = f
  row_in (is_slash f k z n m a b) = f
  row_in (is_call f k z n r a) = f

  -- a row names the first token
  pub first_at : {i : ℕ} {e : Expr} → RepAt ws i e → node_word ws i 1 ≡ first_of e
  first_at (is_literal_lem f k) = refl
  first_at (is_sock4_lem f k) = refl
  first_at (is_local f k) = refl
  first_at (is_path f k l) = refl
  first_at (is_member f k z n r) = z
  first_at (is_slash f k z n m a b) = z
  first_at (is_call f k z n r a) = z

  own_row : {i : ℕ} {e : Expr} → RepAt ws i e → RowOf ws i e (node_word ws i 0)
  own_row (is_literal_lem f k) = rw k (a_literal refl)
  own_row (is_sock4_lem f k) = rw k (a_sock4 refl)
  own_row (is_local f k) = rw k (a_local refl)
  own_row (is_path f k l) = rw k (a_path refl l)
  own_row (is_member {e = e} f k z n r) = rw k (a_member (record { inner = e; is = refl }))
  own_row (is_slash {a = a} {b = b} f k z n m u v) =
      rw k (a_slash (record { left = a; right = b; first = z; near = m; right_rep = v; is = refl }))
  own_row (is_call {e = e} {ps = ps} f k z n r a) =
      rw k (a_call (record { callee = e; args = ps; near = n; callee_rep = r; args_rep = a; is = refl }))

  pub row_of : {i k : ℕ} {e : Expr} → RepAt ws i e → node_word ws i 0 ≡ k → RowOf ws i e k
  row_of {i} {e = e} r q = subst (λ (k : ℕ). RowOf ws i e k) q (own_row r)

  kinds_of : {i k : ℕ} {e : Expr} → RowOf ws i e k → (2 ≤ k) × (k ≤ 8)
  kinds_of (a_literal w) = omega arith
  kinds_of (a_sock4 w) = omega arith
  kinds_of (a_local w) = omega arith
  kinds_of (a_path w l) = omega arith
  kinds_of (a_member m) = omega arith
  kinds_of (a_slash m) = omega arith
  kinds_of (a_call m) = omega arith

  pub kinds : {i : ℕ} {e : Expr} → RepAt ws i e → (2 ≤ node_word ws i 0) × (node_word ws i 0 ≤ 8)
  kinds r = kinds_of (own_row r)

  pub at_member : {i : ℕ} {e : Expr} → RepAt ws i e → node_word ws i 0 ≡ 6 → MemberAt ws i e
  at_member r q = elim (row_of r q) [ a_member m ↦ m ]

  pub at_slash : {i : ℕ} {e : Expr} → RepAt ws i e → node_word ws i 0 ≡ 7 → SlashAt ws i e
  at_slash r q = elim (row_of r q) [ a_slash m ↦ m ]

  pub at_call : {i : ℕ} {e : Expr} → RepAt ws i e → node_word ws i 0 ≡ 8 → CallAt ws i e
  at_call r q = elim (row_of r q) [ a_call m ↦ m ]

  -- the one kind that is left
  pub call_kind_lem : {i : ℕ} {e : Expr} → RepAt ws i e → 6 ≤ node_word ws i 0 → (node_word ws i 0 ≡ 6 → ⊥) → (node_word ws i 0 ≡ 7 → ⊥) → node_word ws i 0 ≡ 8
  call_kind_lem r l p q = omega (arith, kinds r, l, p, q)

  pub at_row : {i j : ℕ} {e : Expr} → j ≡ i → RepAt ws i e → RepAt ws j e
  at_row q r = rw q r

  pub same_tree : {i : ℕ} {e d : Expr} → e ≡ d → RepAt ws i e → RepAt ws i d
  same_tree {i} q r = subst (λ (t : Expr). RepAt ws i t) q r

-- both operands of a row that is `/`
pub slash_parts : {ws : List ℕ} {i : ℕ} {a b : Expr} → RepAt ws i (slash' a b)
    → (node_word ws i 1 ≡ first_of a) × (node_word ws i 3 < i) × RepAt ws (node_word ws i 3) b
slash_parts (is_slash f k z n m u v) = (z, m, v)

-- ---- the tree on the left

pub record StepAt (ws : List ℕ) (i : ℕ) (e : Expr) : Type 0 where
  pub near : node_word ws i 2 < i
  pub rep : RepAt ws (node_word ws i 2) (left_of e)
  pub size_is : expr_size e ≡ expr_size (left_of e) + rest_size e + 1
  pub is : (ts : List Content) (n : ℕ) (k : Known) → judge ts n k e ≡ and_then (judge ts n k (left_of e)) (rest ts n k e)

pub at_step : {ws : List ℕ} {i : ℕ} {e : Expr} → RepAt ws i e → 6 ≤ node_word ws i 0 → StepAt ws i e
unfolding judge
at_step (is_literal_lem f k) l = absurd (omega arith)
at_step (is_sock4_lem f k) l = absurd (omega arith)
at_step (is_local f k) l = absurd (omega arith)
at_step (is_path f k b) l = absurd (omega arith)
at_step (is_member f k z n r) l = record { near = n; rep = r; size_is = omega arith; is = λ ts m o. refl }
at_step (is_slash f k z n m u v) l = record { near = n; rep = u; size_is = omega arith; is = λ ts h o. refl }
at_step (is_call f k z n r a) l = record { near = n; rep = r; size_is = omega arith; is = λ ts m o. refl }

-- ---- the token of the called name

pub called_path : {ws : List ℕ} {i t m : ℕ} {e : Expr} → RepAt ws i e → node_word ws i 0 ≡ 5 → t ≡ node_word ws i 1 → m ≡ node_word ws i 2
    → (t + 2 * m ≤ most_rows) × (t + 2 * m ≡ called_name e)
called_path r q p o = elim (row_of r q) [ a_path w l ↦ rw (p, o, w) (l, refl) ]

pub called_member : {ws : List ℕ} {i t : ℕ} {e : Expr} → RepAt ws i e → node_word ws i 0 ≡ 6 → t ≡ node_word ws i 3 → t ≡ called_name e
called_member r q p = rw (at_member r q).is p

pub called_other : {ws : List ℕ} {i t : ℕ} {e : Expr} → RepAt ws i e → (node_word ws i 0 ≡ 5 → ⊥) → (node_word ws i 0 ≡ 6 → ⊥) → t ≡ node_word ws i 1
    → t ≡ called_name e
called_other (is_literal_lem f k) p q e = e
called_other (is_sock4_lem f k) p q e = e
called_other (is_local f k) p q e = e
called_other (is_path f k l) p q e = absurd (p k)
called_other (is_member f k z n r) p q e = absurd (q k)
called_other (is_slash f k z n m u v) p q e = e ∙ z
called_other (is_call f k z n r a) p q e = e ∙ z

-- ---- arguments

-- the argument at row j, and those behind it
pub record ArgAt (ws : List ℕ) (i j : ℕ) (ps : List Passed) : Type 0 where
  pub arg : Passed
  pub others : List Passed
  pub inside : node_width * j + node_width ≤ length ws
  pub below : j < i
  pub near : node_word ws j 2 < j
  pub onward : (node_word ws j 3 ≡ 0) ⊎ (suc j < node_word ws j 3)
  pub rep : RepAt ws (node_word ws j 2) (value_of arg)
  pub others_rep : ArgsAt ws i (node_word ws j 3) others
  pub given : (node_word ws j 0 ≡ 10 → ⊥) → is_named arg ≡ false
  pub named : node_word ws j 0 ≡ 10 → is_named arg ≡ true
  pub is : ps ≡ arg ∷ others

module _ {ws : List ℕ} {i : ℕ} where
  pub at_none : {next : ℕ} {ps : List Passed} → ArgsAt ws i next ps → next ≡ 0 → ps ≡ []
  at_none no_args z = refl
  at_none (is_arg f k b n m u v) z = absurd (omega arith)
  at_none (is_named_arg f k b n m u v) z = absurd (omega arith)

  pub at_arg : {next j : ℕ} {ps : List Passed} → ArgsAt ws i next ps → (next ≡ 0 → ⊥) → j ≡ next - 1 → ArgAt ws i j ps
  at_arg no_args z q = absurd (z refl)
  at_arg {j = k} (is_arg {j = j} {e = e} {ps = ps} f h b n m u v) z q =
      let w : k ≡ j = omega arith in
      rw w (record {
        arg = unnamed e;
        others = ps;
        inside = f;
        below = b;
        near = n;
        onward = m;
        rep = u;
        others_rep = v;
        given = λ g. refl;
        named = λ g. absurd (omega arith);
        is = refl;
      })
  at_arg {j = k} (is_named_arg {j = j} {e = e} {ps = ps} f h b n m u v) z q =
      let w : k ≡ j = omega arith in
      rw w (record {
        arg = named_as (node_word ws j 1) e;
        others = ps;
        inside = f;
        below = b;
        near = n;
        onward = m;
        rep = u;
        others_rep = v;
        given = λ g. absurd (g h);
        named = λ g. refl;
        is = refl;
      })

-- how far a walk along arguments has to go
abbrev pub left : ℕ → ℕ → ℕ
left i next = if' (eqb next 0) 0 (i + 1 - next)

pub next_falls : {i j next m o : ℕ} → j ≡ next - 1 → (next ≡ 0 → ⊥) → j < i → m ≡ o → (o ≡ 0) ⊎ (suc j < o) → left i m < left i next
next_falls {i} {j} {next} e h b q (inl z) = rw (q, z, ne_eqb next 0 h) (omega arith)
next_falls {i} {j} {next} {o = o} e h b q (inr z) = rw (q, ne_eqb next 0 h, ne_eqb o 0 (λ y. omega arith)) (omega arith)

-- whether one is named
unfoldable pub some_named : List Passed → Bool
some_named [] = false
some_named (p ∷ ps) = if' (is_named p) true (some_named ps)

always : (b : Bool) (ps : List Passed) (g : Args) → any_named g ≡ true → any_named (passed g ps) ≡ true
unfolding passed
always b [] g h = h
always b (unnamed e ∷ ps) g h = always b ps (given g e) h
always b (named_as t e ∷ ps) g h = always b ps (named g t e) refl

some_named_lem : (ps : List Passed) (g : Args) → any_named g ≡ false → any_named (passed g ps) ≡ some_named ps
unfolding passed some_named
some_named_lem [] g h = h
some_named_lem (unnamed e ∷ ps) g h = some_named_lem ps (given g e) h
some_named_lem (named_as t e ∷ ps) g h = always true ps (named g t e) refl

pub any_named_lem : (ps : List Passed) → any_named (passed none_given ps) ≡ some_named ps
any_named_lem ps = some_named_lem ps none_given refl

-- a walk that has met no name yet
pub record Unmet (ws : List ℕ) (i next : ℕ) (ps : List Passed) : Type 0 where
  pub others : List Passed
  pub rep : ArgsAt ws i next others
  pub same : some_named ps ≡ some_named others

pub unmet_on : {ws : List ℕ} {i j next m : ℕ} {ps : List Passed} (u : Unmet ws i next ps) (p : ArgAt ws i j u.others) → (node_word ws j 0 ≡ 10 → ⊥)
    → m ≡ node_word ws j 3 → Unmet ws i m ps
unfolding some_named
unmet_on {ws} {i} {ps = ps} u p h e =
    let f = p.given h in
    subst (λ (z : ℕ). Unmet ws i z ps) (sym e) (record {
      others = p.others;
      rep = p.others_rep;
      same = u.same ∙ ap some_named p.is ∙ ap (λ (b : Bool). if' b true (some_named p.others)) f;
    })

pub unmet_met : {ws : List ℕ} {i j next : ℕ} {ps : List Passed} (u : Unmet ws i next ps) (p : ArgAt ws i j u.others) → node_word ws j 0 ≡ 10
    → true ≡ any_named (passed none_given ps)
unfolding some_named
unmet_met {ps = ps} u p h =
    sym (any_named_lem ps ∙ u.same ∙ ap some_named p.is ∙ ap (λ (b : Bool). if' b true (some_named p.others)) (p.named h))

pub unmet_end : {ws : List ℕ} {i next : ℕ} {ps : List Passed} (u : Unmet ws i next ps) → next ≡ 0 → false ≡ any_named (passed none_given ps)
unfolding some_named
unmet_end {ps = ps} u z = sym (any_named_lem ps ∙ u.same ∙ ap some_named (at_none u.rep z))

-- ---- sizes

args_size_lem : (ps : List Passed) (g : Args) → args_size (passed g ps) ≡ args_size g + passed_size ps
unfolding passed passed_size
args_size_lem [] g = omega arith
args_size_lem (unnamed e ∷ ps) g = omega (arith, args_size_lem ps (given g e))
args_size_lem (named_as t e ∷ ps) g = omega (arith, args_size_lem ps (named g t e))

pub passed_size_lem : (ps : List Passed) → args_size (passed none_given ps) ≡ passed_size ps
passed_size_lem ps = omega (arith, args_size_lem ps none_given)

-- What the rules of the grammar allow is found, and so what is found is what they allow.
use Prim.Native.Nat.{ℕ, zero, suc, ◌+◌, ◌-◌, ◌≤◌, ◌<◌}
use mathlib.Core.Path.{◌≡◌, refl, sym, ap, ◌∙◌}
use mathlib.Core.Bool.{Bool, true, false, false≢true}
use mathlib.Core.List.{List, [], ◌∷◌, ◌++◌, append_assoc, append-nil}
use mathlib.Core.Logic.{◌⊎◌, inl, inr}
use native.Mathlib.Omega.{arith}
use native.Mathlib.Numerals.{add-one}
use borrow.Author.Tests.{eqb-true, ne_eqb}
use lib.ListN.{get_or}
use Rattle.language.specs.Lexemes.{r_paren, l_paren, dot, double_colon, colon, semi_colon, comma, slash, import_keyword, let_keyword, boolean_literal, hex_literal, dec_literal, ipv4_literal}
use Rattle.language.specs.Tokens.{Content, eof, plain, name, string}
use Rattle.language.specs.Tables.{content_kind}
use Rattle.language.specs.Sentences.{Expr, literal, sock4, local, path, member, call, slash', Args, none_given, given, named, Stmt, import', let', expr', Port, port, too_large, not_port, port_of, Out, ok, most_steps, most_lists, is, is_name, is_literal, address, named', primary, links, chain_of, arg_of, list_at, chain_at, expr_at, ended, import_at, let_at, stmt_at, names, slashes_at, args_at, stmts}
use Rattle.language.specs.Grammar.{steps_of, is_port, Takes, One, Other, PathNames, is_start, is_name_lem, Chain, is_literal_lem, is_address, is_sock4_lem, is_local, is_path, is_member, is_call, Slashed, is_chain, is_slash, Expression, is_expression, Argument, is_given, is_named_lem, Arguments, is_none, is_more, Bracketed, is_closed, is_last, Statement, is_import, is_let, is_expr, Program, is_end, is_next, GrammarMet, OneReading}
use Rattle.language.proofs.Tests.{either}
use Rattle.language.proofs.GrammarSound.{found_program}
use Rattle.language.proofs.SentenceUnfolds.{names_unfold, slashes_unfold, expr_unfolds, args_unfold, list_unfolds, stmts_unfold, program_unfolds}

pub is_good : (p : Port) → is_port p ≡ true → p ≡ port
is_good port e = refl
is_good too_large e = absurd (false≢true e)
is_good not_port e = absurd (false≢true e)

module _ (ts : List Content) where
  -- ---- tokens of another kind

  abbrev kind_at : ℕ → ℕ
  kind_at at = content_kind (get_or ts at eof)

  kind_is : (at : ℕ) (c : Content) → is ts at c ≡ true → kind_at at ≡ content_kind c
  kind_is at c e = eqb-true (kind_at at) (content_kind c) e

  pub is_not : (at : ℕ) (c : Content) → (kind_at at ≡ content_kind c → ⊥) → is ts at c ≡ false
  is_not at c h = ne_eqb (kind_at at) (content_kind c) h

  -- after an expression that is not gone on with
  record Ends (at : ℕ) : Type 0 where
    no_list : is ts at (plain l_paren) ≡ false
    no_dot : is ts at (plain dot) ≡ false

  ends : {at : ℕ} (c : Content) → is ts at c ≡ true → (content_kind c ≡ 2 → ⊥) × (content_kind c ≡ 4 → ⊥) → Ends at
  ends {at} c e o =
      let k = kind_is at c e in
      record { no_list = is_not at (plain l_paren) (λ q. o.0 (sym k ∙ q)); no_dot = is_not at (plain dot) (λ q. o.1 (sym k ∙ q)) }

  -- after a whole expression
  record Stops (at : ℕ) : Type 0 where
    no_link : Ends at
    no_slash : is ts at (plain slash) ≡ false

  stops : {at : ℕ} (c : Content) → is ts at c ≡ true → (content_kind c ≡ 2 → ⊥) × (content_kind c ≡ 4 → ⊥) × (content_kind c ≡ 10 → ⊥)
      → Stops at
  stops {at} c e o =
      let k = kind_is at c e in
      record { no_link = ends c e (o.0, o.1); no_slash = is_not at (plain slash) (λ q. o.2 (sym k ∙ q)) }

  -- ---- what an expression starts with

  literal_kind_lem : (at : ℕ) → is_literal ts at ≡ true → 13 ≤ kind_at at
  literal_kind_lem at e =
      elim (either (is ts at (plain (boolean_literal true))) _ e) [
        | inl a ↦ omega (arith, kind_is at (plain (boolean_literal true)) a)
        | inr b ↦ elim (either (is ts at (string [] [])) _ b) [
          | inl a ↦ omega (arith, kind_is at (string [] []) a)
          | inr c ↦ elim (either (is ts at (plain (hex_literal 0))) _ c) [
            | inl a ↦ omega (arith, kind_is at (plain (hex_literal 0)) a)
            | inr a ↦ omega (arith, kind_is at (plain (dec_literal 0)) a)
          ]
        ]
      ]

  pub chain_starts : {d at next : ℕ} {e : Expr} → Chain ts d at e next → 13 ≤ kind_at at
  chain_starts {at = at} (is_literal_lem a) = literal_kind_lem at a.passes
  chain_starts {at = at} (is_address a b) = omega (arith, kind_is at (plain (ipv4_literal 0)) a.passes)
  chain_starts {at = at} (is_sock4_lem a b c) = omega (arith, kind_is at (plain (ipv4_literal 0)) a.passes)
  chain_starts {at = at} (is_local a b) = omega (arith, kind_is at (name []) a.passes)
  chain_starts {at = at} (is_path a p m b) = omega (arith, kind_is at (name []) a.passes)
  chain_starts (is_member c a b) = chain_starts c
  chain_starts (is_call c l) = chain_starts c

  pub slashed_starts : {d at next : ℕ} {e : Expr} → Slashed ts d at e next → 13 ≤ kind_at at
  slashed_starts (is_chain c) = chain_starts c
  slashed_starts (is_slash c a r) = slashed_starts c

  pub expr_starts : {d at next : ℕ} {e : Expr} → Expression ts d at e next → 13 ≤ kind_at at
  expr_starts (is_expression c l) = slashed_starts c

  arg_starts : {d at next : ℕ} {g h : Args} → Argument ts d at g h next → 13 ≤ kind_at at
  arg_starts (is_given f c) = expr_starts c
  arg_starts {at = at} (is_named_lem a b c) = omega (arith, kind_is at (name []) a.passes)

  stmt_starts : {at next : ℕ} {s : Stmt} → Statement ts at s next → 11 ≤ kind_at at
  stmt_starts {at} (is_import a b c) = omega (arith, kind_is at (plain import_keyword) a.passes)
  stmt_starts {at} (is_let a b c e f) = omega (arith, kind_is at (plain let_keyword) a.passes)
  stmt_starts (is_expr e f) = omega (arith, expr_starts e)

  -- ---- a chain with no step

  names_met : {at n next : ℕ} → PathNames ts at n next → (s : ℕ) → names ts 0 at s ≡ names ts n next s
  names_met is_start s = refl
  names_met (is_name_lem {n = n} {mid} {t} {next} p a b) s =
      let q = rw a.after at b.passes in
      let e : next ≡ mid + 2 = omega (arith, a.after, b.after) in
      rw (e, ← add-one n) (names_met p s ∙ names_unfold ts n mid s ∙ rw (a.passes, q))

  -- a token that starts no literal
  no_literal : (at : ℕ) → (kind_at at ≡ 13) ⊎ (kind_at at ≡ 15) → is_literal ts at ≡ false
  no_literal at (inl k) = rw k
  no_literal at (inr k) = rw k

  -- the primary of a chain is found, with all its steps left
  record Starts (at : ℕ) (e : Expr) (next : ℕ) : Type 0 where
    finds : (s : ℕ) → primary ts at s ≡ ok e next s

  address_met : {at next : ℕ} {e : Expr} → is ts at (plain (ipv4_literal 0)) ≡ true → ((s : ℕ) → address ts at s ≡ ok e next s)
      → Starts at e next
  unfolding primary
  address_met {at} a h = record { finds = λ s. rw (no_literal at (inr (kind_is at (plain (ipv4_literal 0)) a)), a) (h s) }

  named_met : {at next : ℕ} {e : Expr} → is_name ts at ≡ true → ((s : ℕ) → named' ts at s ≡ ok e next s) → Starts at e next
  unfolding primary
  named_met {at} a h =
      let k = kind_is at (name []) a in
      record { finds = λ s. rw (no_literal at (inl k), is_not at (plain (ipv4_literal 0)) (λ q. omega arith), a) (h s) }

  literal_met : {at next : ℕ} → Takes (is_literal ts at) at next → Starts at (literal at) next
  unfolding primary
  literal_met a = record { finds = λ s. rw (a.passes, a.after) }

  bare_met : {at next : ℕ} → One ts (plain (ipv4_literal 0)) at next → Other ts (plain colon) next → Starts at (literal at) next
  unfolding address
  bare_met a b = let c = rw a.after at b in address_met a.passes (λ s. rw (a.after, c))

  sock4_met : {at mid t next : ℕ} → One ts (plain (ipv4_literal 0)) at mid → One ts (plain colon) mid t
      → Takes (is_port (port_of (get_or ts t eof))) t next → Starts at (sock4 at) next
  unfolding address
  sock4_met {at} {mid} {t} {next} a b c =
      let colon' = rw a.after at b.passes in
      let two : t ≡ at + 2 = omega (arith, a.after, b.after) in
      let three : next ≡ at + 3 = omega (arith, c.after) in
      let good = is_good (port_of (get_or ts (at + 2) eof)) (rw two at c.passes) in
      address_met a.passes (λ s. rw (three, colon', good))

  local_met : {at next : ℕ} → One ts (name []) at next → Other ts (plain double_colon) next → Starts at (local at) next
  unfolding named'
  local_met a b = let c = rw a.after at b in named_met a.passes (λ s. rw (a.after, c))

  -- a path with a name has a `::`
  has_colons : {at n next : ℕ} → PathNames ts at n next → 0 < n → is ts at (plain double_colon) ≡ true
  has_colons is_start m = absurd (omega arith)
  has_colons (is_name_lem is_start a b) m = a.passes
  has_colons (is_name_lem (is_name_lem p c d) a b) m = has_colons (is_name_lem p c d) (omega arith)

  path_met : {at n mid next : ℕ} → One ts (name []) at mid → PathNames ts mid n next → 0 < n → Other ts (plain double_colon) next
      → Starts at (path at n) next
  unfolding named'
  path_met {at} {n} {mid} {next} a p m b =
      let colons = rw a.after at (has_colons p m) in
      named_met a.passes (λ s.
      let stop : names ts n next s ≡ ok n next s = names_unfold ts n next s ∙ rw b in
      let found : names ts 0 (at + 1) s ≡ ok n next s = rw a.after at (names_met p s ∙ stop) in
      rw (colons, found))

  -- ---- steps

  links_stop : {at : ℕ} (list : ℕ → Out Args) (s : ℕ) (e : Expr) → Ends at → links ts list s e at ≡ ok e at s
  unfolding links
  links_stop list zero e h = rw (h.no_list, h.no_dot)
  links_stop list (suc s) e h = rw (h.no_list, h.no_dot)

  chain_start : {at next : ℕ} {e : Expr} (list : ℕ → Out Args) (left s : ℕ) → s ≡ left + 0 → Starts at e next
      → chain_of ts list s at ≡ links ts list left e next
  unfolding chain_of
  chain_start list left s q h = let same : s ≡ left = omega arith in rw (same, h.finds left)

  link_member : {mid t next : ℕ} (list : ℕ → Out Args) (s : ℕ) (e : Expr) → One ts (plain dot) mid t → One ts (name []) t next
      → links ts list (suc s) e mid ≡ links ts list s (member e t) next
  unfolding links
  link_member {mid} {t} {next} list s e a b =
      let k = kind_is mid (plain dot) a.passes in
      let two : next ≡ mid + 2 = omega (arith, a.after, b.after) in
      let n = rw a.after at b.passes in
      rw (is_not mid (plain l_paren) (λ q. omega arith), a.passes, n, a.after, two)

  link_call : {mid next : ℕ} {g : Args} (list : ℕ → Out Args) (s : ℕ) (e : Expr) → is ts mid (plain l_paren) ≡ true
      → list mid ≡ ok g next 0 → links ts list (suc s) e mid ≡ links ts list s (call e mid g) next
  unfolding links
  link_call list s e a l = rw (a, l)

  -- ---- `/`

  slashes_stop : (d : ℕ) (e : Expr) (at s : ℕ) → Other ts (plain slash) at → slashes_at ts d e at s ≡ ok e at s
  slashes_stop d e at zero o = (slashes_unfold ts d e at 0).0 ∙ rw o
  slashes_stop d e at (suc s) o = (slashes_unfold ts d e at s).1 ∙ rw o

  slash_on : {mid t next : ℕ} {r : Expr} (d : ℕ) (e : Expr) (s left : ℕ) → One ts (plain slash) mid t
      → chain_at ts d s t ≡ ok r next left → slashes_at ts d e mid (suc s) ≡ slashes_at ts d (slash' e r) next left
  slash_on {mid} d e s left a h = let c = rw a.after at h in (slashes_unfold ts d e mid s).1 ∙ rw (a.passes, c)

  -- ---- arguments

  given_met : {next left : ℕ} {e : Expr} (d : ℕ) (g : Args) (at : ℕ) → (is_name ts at ≡ true → Other ts (plain colon) (at + 1))
      → expr_at ts d at ≡ ok e next left → arg_of ts (expr_at ts d) g at ≡ ok (given g e) next 0
  unfolding arg_of
  given_met {next} {e = e} d g at f h = by (is_name ts at) refl
    where
      by : (b : Bool) → is_name ts at ≡ b → arg_of ts (expr_at ts d) g at ≡ ok (given g e) next 0
      by true q = rw (q, f q, h)
      by false q = rw (q, h)

  named_arg_met : {at mid t next left : ℕ} {e : Expr} (d : ℕ) (g : Args) → One ts (name []) at mid → One ts (plain colon) mid t
      → expr_at ts d t ≡ ok e next left → arg_of ts (expr_at ts d) g at ≡ ok (named g at e) next 0
  unfolding arg_of
  named_arg_met {at} {mid} {t} d g a b h =
      let two : t ≡ at + 2 = omega (arith, a.after, b.after) in
      let c = rw a.after at b.passes in
      let l = rw two at h in
      rw (a.passes, c, l)

  args_close : {at next : ℕ} (d : ℕ) (g : Args) → One ts (plain r_paren) at next → args_at ts d g at ≡ ok g next 0
  args_close {at} d g a = args_unfold ts d g at ∙ rw (a.passes, a.after)

  module _ {t : ℕ} {h : Args} (d : ℕ) (g : Args) (at : ℕ) (o : 13 ≤ kind_at at)
      (f : arg_of ts (expr_at ts d) g at ≡ ok h t 0) where
    not_closed : is ts at (plain r_paren) ≡ false
    not_closed = is_not at (plain r_paren) (λ q. omega arith)

    args_comma : {next : ℕ} → One ts (plain comma) t next → args_at ts d g at ≡ args_at ts d h next
    args_comma a = args_unfold ts d g at ∙ rw (not_closed, f, a.passes, a.after)

    args_last : {next : ℕ} → One ts (plain r_paren) t next → args_at ts d g at ≡ ok h next 0
    args_last a =
        let k = kind_is t (plain r_paren) a.passes in
        args_unfold ts d g at ∙ rw (not_closed, f, is_not t (plain comma) (λ q. omega arith), a.passes, a.after)

  -- ---- by the rules

  pub opens : {d at next : ℕ} {g : Args} → Bracketed ts d at g next → is ts at (plain l_paren) ≡ true
  opens (is_closed a g b) = a.passes
  opens (is_last a g h b) = a.passes

  mutual
    chain_met : {d at next : ℕ} {e : Expr} → Chain ts d at e next → (left s : ℕ) → s ≡ left + steps_of e
        → chain_at ts d s at ≡ links ts (list_at ts d) left e next
    chain_met (is_literal_lem {d} a) left s h = chain_start (list_at ts d) left s h (literal_met a)
    chain_met (is_address {d} a b) left s h = chain_start (list_at ts d) left s h (bare_met a b)
    chain_met (is_sock4_lem {d} a b c) left s h = chain_start (list_at ts d) left s h (sock4_met a b c)
    chain_met (is_local {d} a b) left s h = chain_start (list_at ts d) left s h (local_met a b)
    chain_met (is_path {d} a p m b) left s h = chain_start (list_at ts d) left s h (path_met a p m b)
    chain_met (is_member {d} {e = e} c a b) left s h =
        chain_met c (suc left) s (omega arith) ∙ link_member (list_at ts d) left e a b
    chain_met (is_call {d} {e = e} c l) left s h =
        chain_met c (suc left) s (omega arith) ∙ link_call (list_at ts d) left e (opens l) (list_met l)

    slashed_met : {d at next : ℕ} {e : Expr} → Slashed ts d at e next → Ends next → (left : ℕ) → left + steps_of e ≡ most_steps
        → expr_at ts d at ≡ slashes_at ts d e next left
    slashed_met (is_chain {d} {at} {e = e} c) o left h =
        let found = chain_met c left most_steps (sym h) ∙ links_stop (list_at ts d) left e o in expr_unfolds ts d at ∙ rw found
    slashed_met (is_slash {d} {e = e} {r} c a q) o left h =
        let found = chain_met q left (left + steps_of r) refl ∙ links_stop (list_at ts d) left r o in
        slashed_met c (ends (plain slash) a.passes (omega arith)) (suc (left + steps_of r)) (omega arith)
        ∙ slash_on d e (left + steps_of r) left a found

    expr_met : {d at next : ℕ} {e : Expr} → Expression ts d at e next → Stops next
        → (left : ℕ) × (expr_at ts d at ≡ ok e next left)
    expr_met (is_expression {d} {next = next} {e} c l) o =
        let left = most_steps - steps_of e in
        (left, slashed_met c o.no_link left (omega arith) ∙ slashes_stop d e next left o.no_slash)

    arg_met : {d at next : ℕ} {g h : Args} → Argument ts d at g h next → Stops next → arg_of ts (expr_at ts d) g at ≡ ok h next 0
    arg_met (is_given {d} {at} {g = g} f c) o = given_met d g at f (expr_met c o).1
    arg_met (is_named_lem {d} {g = g} a b c) o = named_arg_met d g a b (expr_met c o).1

    args_met : {d at next : ℕ} {g : Args} → Arguments ts d at g next → args_at ts d none_given at ≡ args_at ts d g next
    args_met is_none = refl
    args_met (is_more {d} {mid = mid} {g = g} gs a b) =
        args_met gs ∙ args_comma d g mid (arg_starts a) (arg_met a (stops (plain comma) b.passes (omega arith))) b

    list_met : {d at next : ℕ} {g : Args} → Bracketed ts d at g next → list_at ts d at ≡ ok g next 0
    list_met (is_closed {d} {at} {g = g} a gs b) = (list_unfolds ts d at).1 ∙ (rw a.after at (args_met gs)) ∙ args_close d g b
    list_met (is_last {d} {at} {t = t} {g = g} a gs c b) =
        (list_unfolds ts d at).1 ∙ (rw a.after at (args_met gs))
        ∙ args_last d g t (arg_starts c) (arg_met c (stops (plain r_paren) b.passes (omega arith))) b

  -- ---- statements

  ended_met : {A : Type 0} {at next : ℕ} (a : A) → One ts (plain semi_colon) at next → ended ts a at ≡ ok a next 0
  ended_met a h = rw (h.passes, h.after)

  whole_met : {at mid : ℕ} {e : Expr} → Expression ts most_lists at e mid → is ts mid (plain semi_colon) ≡ true
      → (left : ℕ) × (expr_at ts most_lists at ≡ ok e mid left)
  whole_met c o = expr_met c (stops (plain semi_colon) o (omega arith))

  stmt_met : {at next : ℕ} {s : Stmt} → Statement ts at s next → stmt_at ts at ≡ ok s next 0
  unfolding stmt_at import_at let_at
  stmt_met {at} (is_import {t = t} {mid} a b c) =
      let two : mid ≡ at + 2 = omega (arith, a.after, b.after) in
      let n = rw a.after at b.passes in
      rw (a.passes, n, ← two, ← a.after) (ended_met (import' t) c)
  stmt_met {at} (is_let {t = t} {mid} {u} {v} {e = e} a b c x o) =
      let k = kind_is at (plain let_keyword) a.passes in
      let two : mid ≡ at + 2 = omega (arith, a.after, b.after) in
      let three : u ≡ at + 3 = omega (arith, c.after) in
      let n = rw a.after at b.passes in
      let q = rw two at c.passes in
      let found = ap (expr_at ts most_lists) (sym three) ∙ (whole_met x o.passes).1 in
      rw (is_not at (plain import_keyword) (λ j. omega arith), a.passes, n, q, found, ← a.after) (ended_met (let' t e) o)
  stmt_met {at} (is_expr {e = e} x o) =
      let k = expr_starts x in
      let found = (whole_met x o.passes).1 in
      rw (is_not at (plain import_keyword) (λ j. omega arith), is_not at (plain let_keyword) (λ j. omega arith), found)
      (ended_met (expr' e) o)

  program_met : {at next : ℕ} {ss : List Stmt} → Program ts at ss next → (us : List Stmt) → stmts ts us at ≡ ok (us ++ ss) next 0
  program_met {at} (is_end e) us = stmts_unfold ts us at ∙ rw (e, append-nil us)
  program_met {at} (is_next {s = s} x p) us =
      let k = stmt_starts x in
      let more = rw append_assoc at (program_met p (us ++ s ∷ [])) in
      stmts_unfold ts us at ∙ rw (is_not at eof (λ j. omega arith), stmt_met x) more

pub grammar_met : GrammarMet
grammar_met ts ss next =
    (λ x e. let h = rw e at (found_program ts) in h.holds, λ p. program_unfolds ts ∙ program_met ts p [])

pub one_reading : OneReading
one_reading ts ss us m n p q =
    let a = (grammar_met ts ss m).1 p in
    let b = (grammar_met ts us n).1 q in
    ((cc), (cc))

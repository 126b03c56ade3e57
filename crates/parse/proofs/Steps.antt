-- One law for each step of the grammar: what the definition gives from what the code saw and from what its parts give.
use mathlib.Core.Path.{◌≡◌, refl, sym, ◌∙◌}
use mathlib.Core.Bool.{Bool, true, false, ◌&&◌}
use mathlib.Core.List.{List, [], ◌∷◌, ◌++◌}
use Prim.Native.Nat.{ℕ, zero, suc, ◌+◌, ◌-◌, ◌*◌, ◌≤◌, ◌<◌}
use native.Mathlib.Omega.{arith}
use native.Mathlib.Numerals.{sub-one}
use lib.Dec.{eqb}
use lib.ListN.{length, get_or}
use Rattle.language.specs.Choice.{if'}
use Rattle.language.specs.Tables.{content_kind, token_width}
use Rattle.language.specs.Tokens.{Content, eof}
use Rattle.language.specs.Sentences.{Expr, literal, sock4, local, path, member, call, slash', Args, none_given, given, named, Stmt, import', let', expr', Port, port, too_large, not_port, Out, ok, no, and_then, most_steps, most_lists, names_from, address, named', primary, links, chain_of, slashes, expr_of, arg_of, args_of, list_at, expr_at, ended, import_at, let_at, stmt_at, stmts_from, program}
use Rattle.rows.specs.Tokens.{kind_at}
use Rattle.parse.specs.Parsing.{no_of, literal_kind, port_as, port_at, is_named, value_from, with_arg, expr_stmt, Rep}
use Rattle.std.specs.Prelude.{Err}
use Rattle.language.proofs.Tests.{never}
use Rattle.parse.specs.declared.ParseError.{ParseError}
use Rattle.parse.specs.declared.ParseError.TheVariants.{UnexpectedToken, IntOutOfRange}
use Rattle.parse.proofs.Looks.{inside, kind_is, is_true, is_false}

-- a path whose names after the first are still to be read, n of them read
abbrev pub path_from : List Content → ℕ → ℕ → ℕ → ℕ → ℕ → Out Expr
path_from ts at k n next s = and_then (names_from ts k n next s) (λ m after x. ok (path at m) after x)

module _ {toks : List ℕ} {ts : List Content} (rep : Rep toks ts) where
  -- ---- paths
  module _ (at s : ℕ) where
    pub path_open : kind_at toks (at + 1) ≡ 5 → named' ts at s ≡ path_from ts at (suc (length ts)) 0 (at + 1) s
    unfolding named'
    path_open is5 = rw (is_true toks (at + 1) rep 5 is5, named')

    module _ (n next : ℕ) where
      pub path_stop : (k : ℕ) → token_width * next ≤ length toks → length ts < next + k → (kind_at toks next ≡ 5 → ⊥) → path_from ts at k n next s ≡ ok (path at n) next s
      unfolding names_from
      path_stop zero le lt no5 = absurd (omega (arith, rep.long))
      path_stop (suc k) le lt no5 = rw (is_false toks next rep 5 no5, names_from)

      pub path_bad : (k : ℕ) → length ts < next + k → kind_at toks next ≡ 5 → (kind_at toks (next + 1) ≡ 13 → ⊥) → path_from ts at k n next s ≡ no 5 1 (next + 1)
      unfolding names_from
      path_bad zero lt is5 no13 = absurd (omega (arith, rep.long, inside toks next 3 is5))
      path_bad (suc k) lt is5 no13 = rw (is_true toks next rep 5 is5, names_from) (rw (is_false toks (next + 1) rep 13 no13) refl)

      pub path_more : (k : ℕ) → length ts < next + k → kind_at toks next ≡ 5 → kind_at toks (next + 1) ≡ 13
          → (k' : ℕ) × (length ts < next + 2 + k') × (path_from ts at k n next s ≡ path_from ts at k' (n + 1) (next + 2) s)
      unfolding names_from
      path_more zero lt is5 is13 = absurd (omega (arith, rep.long, inside toks next 3 is5))
      path_more (suc k) lt is5 is13 = (k, omega arith, rw (is_true toks next rep 5 is5, names_from) (rw (is_true toks (next + 1) rep 13 is13) refl))

    -- ---- addresses
    pub address_plain : (kind_at toks (at + 1) ≡ 6 → ⊥) → address ts at s ≡ ok (literal at) (at + 1) s
    unfolding address
    address_plain no6 = rw (is_false toks (at + 1) rep 6 no6, address)

    module _ (is6 : kind_at toks (at + 1) ≡ 6) where
      pub address_port : port_at toks (at + 2) ≡ port → address ts at s ≡ ok (sock4 at) (at + 3) s
      unfolding address
      address_port p = rw (is_true toks (at + 1) rep 6 is6, address) (rw (sym (rep.ports (at + 2)) ∙ p) refl)

      address_large : port_at toks (at + 2) ≡ too_large → address ts at s ≡ no 5 2 (at + 2)
      unfolding address
      address_large p = rw (is_true toks (at + 1) rep 6 is6, address) (rw (sym (rep.ports (at + 2)) ∙ p) refl)

      address_bad : port_at toks (at + 2) ≡ not_port → address ts at s ≡ no 5 1 (at + 2)
      unfolding address
      address_bad p = rw (is_true toks (at + 1) rep 6 is6, address) (rw (sym (rep.ports (at + 2)) ∙ p) refl)

      pub address_refused : (x : ParseError) → Err x ≡ port_as (at + 2) (port_at toks (at + 2)) → address ts at s ≡ no_of x
      address_refused x e = go (port_at toks (at + 2)) refl
        where
          go : (p : Port) → port_at toks (at + 2) ≡ p → address ts at s ≡ no_of x
          go port q = let f : Err x ≡ port_as (at + 2) port = rw q at e in never (cc)
          go too_large q = let f : Err x ≡ port_as (at + 2) too_large = rw q at e in let g : x ≡ IntOutOfRange (at + 2) = cc in rw g (address_large q)
          go not_port q = let f : Err x ≡ port_as (at + 2) not_port = rw q at e in let g : x ≡ UnexpectedToken (at + 2) = cc in rw g (address_bad q)

    -- ---- primaries
    pub primary_literal : literal_kind (kind_at toks at) ≡ true → primary ts at s ≡ ok (literal at) (at + 1) s
    unfolding primary
    primary_literal e = rw (rw (rep.kinds at) at e, primary)

    pub primary_no : literal_kind (kind_at toks at) ≡ false → (kind_at toks at ≡ 15 → ⊥) → (kind_at toks at ≡ 13 → ⊥) → primary ts at s ≡ no 5 1 at
    unfolding primary
    primary_no e no15 no13 = rw (rw (rep.kinds at) at e, is_false toks at rep 15 no15, is_false toks at rep 13 no13, primary)

    pub primary_address : kind_at toks at ≡ 15 → primary ts at s ≡ address ts at s
    unfolding primary
    primary_address e = let k = kind_is toks at rep 15 e in rw (k, primary)

    pub primary_name : kind_at toks at ≡ 13 → primary ts at s ≡ named' ts at s
    unfolding primary
    primary_name e = let k = kind_is toks at rep 13 e in rw (k, primary)

    pub primary_local : kind_at toks at ≡ 13 → (kind_at toks (at + 1) ≡ 5 → ⊥) → primary ts at s ≡ ok (local at) (at + 1) s
    unfolding named'
    primary_local e no5 = primary_name e ∙ rw (is_false toks (at + 1) rep 5 no5, named')

  -- ---- members and calls
  module _ (p : ℕ → Out Args) (e : Expr) (at : ℕ) where
    pub links_stop : (s : ℕ) → (kind_at toks at ≡ 2 → ⊥) → (kind_at toks at ≡ 4 → ⊥) → links ts p s e at ≡ ok e at s
    unfolding links
    links_stop zero no2 no4 = rw (is_false toks at rep 2 no2, links) (rw (is_false toks at rep 4 no4) refl)
    links_stop (suc s) no2 no4 = rw (is_false toks at rep 2 no2, links) (rw (is_false toks at rep 4 no4) refl)

    pub links_call_7 : (s : ℕ) → s ≡ 0 → kind_at toks at ≡ 2 → links ts p s e at ≡ no 7 0 at
    unfolding links
    links_call_7 s z is2 = rw z (rw (is_true toks at rep 2 is2, links) refl)

    pub links_dot_7 : (s : ℕ) → s ≡ 0 → kind_at toks at ≡ 4 → links ts p s e at ≡ no 7 0 at
    unfolding links
    links_dot_7 s z is4 = let k = kind_is toks at rep 4 is4 in rw z (rw (k, links) refl)

    pub links_dot_5 : (s : ℕ) → (s ≡ 0 → ⊥) → kind_at toks at ≡ 4 → (kind_at toks (at + 1) ≡ 13 → ⊥) → links ts p s e at ≡ no 5 1 (at + 1)
    unfolding links
    links_dot_5 zero some is4 no13 = absurd (some refl)
    links_dot_5 (suc s) some is4 no13 = let k = kind_is toks at rep 4 is4 in rw (k, links) (rw (is_false toks (at + 1) rep 13 no13) refl)

    pub links_dot : (s : ℕ) → (s ≡ 0 → ⊥) → kind_at toks at ≡ 4 → kind_at toks (at + 1) ≡ 13 → links ts p s e at ≡ links ts p (s - 1) (member e (at + 1)) (at + 2)
    unfolding links
    links_dot zero some is4 is13 = absurd (some refl)
    links_dot (suc s) some is4 is13 = let k = kind_is toks at rep 4 is4 in rw (sub-one (suc s)) (rw (k, links) (rw (is_true toks (at + 1) rep 13 is13) refl))

    pub links_call : (s x next : ℕ) (g : Args) → (s ≡ 0 → ⊥) → kind_at toks at ≡ 2 → p at ≡ ok g next x → links ts p s e at ≡ links ts p (s - 1) (call e at g) next
    unfolding links
    links_call zero x next g some is2 q = absurd (some refl)
    links_call (suc s) x next g some is2 q = rw (sub-one (suc s)) (rw (is_true toks at rep 2 is2, links) (rw q refl))

    pub links_no : (s n k a : ℕ) → (s ≡ 0 → ⊥) → kind_at toks at ≡ 2 → p at ≡ no n k a → links ts p s e at ≡ no n k a
    unfolding links
    links_no zero n k a some is2 q = absurd (some refl)
    links_no (suc s) n k a some is2 q = rw (is_true toks at rep 2 is2, links) (rw q refl)

  -- ---- `/`
  module _ (p : ℕ → ℕ → Out Expr) (e : Expr) (at : ℕ) where
    pub slashes_stop : (k s : ℕ) → s < k → (kind_at toks at ≡ 10 → ⊥) → slashes ts p k e at s ≡ ok e at s
    unfolding slashes
    slashes_stop zero s lt no10 = absurd (omega arith)
    slashes_stop (suc k) zero lt no10 = rw (is_false toks at rep 10 no10, slashes)
    slashes_stop (suc k) (suc s) lt no10 = rw (is_false toks at rep 10 no10, slashes)

    pub slashes_7 : (k s : ℕ) → s < k → s ≡ 0 → kind_at toks at ≡ 10 → slashes ts p k e at s ≡ no 7 0 at
    unfolding slashes
    slashes_7 zero s lt z is10 = absurd (omega arith)
    slashes_7 (suc k) s lt z is10 = rw z (rw (is_true toks at rep 10 is10, slashes) refl)

    pub slashes_no : (k s n j a : ℕ) → s < k → (s ≡ 0 → ⊥) → kind_at toks at ≡ 10 → p (s - 1) (at + 1) ≡ no n j a → slashes ts p k e at s ≡ no n j a
    unfolding slashes
    slashes_no zero s n j a lt some is10 q = absurd (omega arith)
    slashes_no (suc k) zero n j a lt some is10 q = absurd (some refl)
    slashes_no (suc k) (suc s) n j a lt some is10 q = let q' = rw (sub-one (suc s)) at q in rw (is_true toks at rep 10 is10, slashes) (rw q' refl)

    pub slashes_go : (k s x next : ℕ) (r : Expr) → s < k → (s ≡ 0 → ⊥) → kind_at toks at ≡ 10 → p (s - 1) (at + 1) ≡ ok r next x → x ≤ s - 1
        → (k' : ℕ) × (x < k') × (slashes ts p k e at s ≡ slashes ts p k' (slash' e r) next x)
    unfolding slashes
    slashes_go zero s x next r lt some is10 q le = absurd (omega arith)
    slashes_go (suc k) zero x next r lt some is10 q le = absurd (some refl)
    slashes_go (suc k) (suc s) x next r lt some is10 q le = let q' = rw (sub-one (suc s)) at q in (k, omega arith, rw (is_true toks at rep 10 is10, slashes) (rw q' refl))

  -- ---- arguments
  pub arg_is : (p : ℕ → Out Expr) (g : Args) (at : ℕ) → arg_of ts p g at ≡ and_then (p (value_from (is_named toks at) at)) (λ e next x. ok (with_arg (is_named toks at) g at e) next 0)
  unfolding arg_of is_named
  arg_is p g at = rw (rep.kinds at, rep.kinds (at + 1)) (both (eqb (content_kind (get_or ts at eof)) 13) (eqb (content_kind (get_or ts (at + 1) eof)) 6))
    where
      both : (a b : Bool) → if' a (if' b (and_then (p (at + 2)) (λ e next x. ok (named g at e) next 0)) (and_then (p at) (λ e next x. ok (given g e) next 0))) (and_then (p at) (λ e next x. ok (given g e) next 0))
          ≡ and_then (p (value_from (a && b) at)) (λ e next x. ok (with_arg (a && b) g at e) next 0)
      both true true = refl
      both true false = refl
      both false b = refl

  -- its value starts at v
  module _ (p : ℕ → Out Expr) (g : Args) (at v : ℕ) (ev : v ≡ value_from (is_named toks at) at) where
    pub arg_no : (n j a : ℕ) → p v ≡ no n j a → arg_of ts p g at ≡ no n j a
    arg_no n j a q = rw (arg_is p g at, ← ev, q) refl

    pub arg_go : (e : Expr) (next x : ℕ) → p v ≡ ok e next x → arg_of ts p g at ≡ ok (with_arg (is_named toks at) g at e) next 0
    arg_go e next x q = rw (arg_is p g at, ← ev, q) refl

  module _ (p : ℕ → Out Expr) (g : Args) (at : ℕ) where
    pub args_end : (k : ℕ) → length ts < at + k → kind_at toks at ≡ 3 → args_of ts p k g at ≡ ok g (at + 1) 0
    unfolding args_of
    args_end zero lt is3 = absurd (omega (arith, rep.long, inside toks at 1 is3))
    args_end (suc k) lt is3 = rw (is_true toks at rep 3 is3, args_of)

    module _ (k : ℕ) (le : token_width * at ≤ length toks) (lt : length ts < at + k) (no3 : kind_at toks at ≡ 3 → ⊥) where
      some : (k : ℕ) → length ts < at + k → (j : ℕ) × (k ≡ suc j)
      some zero lt = absurd (omega (arith, rep.long))
      some (suc j) lt = (j, refl)

      pub args_no : (n j a : ℕ) → arg_of ts p g at ≡ no n j a → args_of ts p k g at ≡ no n j a
      unfolding args_of
      args_no n j a q = rw (some k lt).1 (rw (is_false toks at rep 3 no3, args_of) (rw q refl))

      module _ (h : Args) (next x : ℕ) (q : arg_of ts p g at ≡ ok h next x) where
        pub args_last : kind_at toks next ≡ 3 → args_of ts p k g at ≡ ok h (next + 1) 0
        unfolding args_of
        args_last is3 = let z = kind_is toks next rep 3 is3 in rw (some k lt).1 (rw (is_false toks at rep 3 no3, args_of) (rw q (rw (z, and_then) refl)))

        pub args_bad : (kind_at toks next ≡ 9 → ⊥) → (kind_at toks next ≡ 3 → ⊥) → args_of ts p k g at ≡ no 5 1 next
        unfolding args_of
        args_bad no9 nor3 =
            rw (some k lt).1 (rw (is_false toks at rep 3 no3, args_of) (rw q (rw (is_false toks next rep 9 no9, and_then) (rw (is_false toks next rep 3 nor3) refl))))

        go : (j : ℕ) → k ≡ suc j → kind_at toks next ≡ 9 → args_of ts p k g at ≡ args_of ts p j h (next + 1)
        unfolding args_of
        go j f is9 = rw f (rw (is_false toks at rep 3 no3, args_of) (rw q (rw (is_true toks next rep 9 is9, and_then) refl)))

        pub args_more : kind_at toks next ≡ 9 → at < next → (k' : ℕ) × (length ts < next + 1 + k') × (args_of ts p k g at ≡ args_of ts p k' h (next + 1))
        args_more is9 up = let f = some k lt in (f.0, omega (arith, f.1), go f.0 f.1 is9)

  -- ---- statements
  pub ended_ok : {A : Type 0} (a : A) (at : ℕ) → kind_at toks at ≡ 7 → ended ts a at ≡ ok a (at + 1) 0
  ended_ok a at is7 = rw (is_true toks at rep 7 is7)

  pub ended_no : {A : Type 0} (a : A) (at : ℕ) → (kind_at toks at ≡ 7 → ⊥) → ended ts a at ≡ no 5 1 at
  ended_no a at no7 = rw (is_false toks at rep 7 no7)

  module _ (at : ℕ) where
    pub import_bad : (kind_at toks (at + 1) ≡ 13 → ⊥) → import_at ts at ≡ no 5 1 (at + 1)
    unfolding import_at
    import_bad no13 = rw (is_false toks (at + 1) rep 13 no13)

    pub import_name_lem : kind_at toks (at + 1) ≡ 13 → import_at ts at ≡ ended ts (import' (at + 1)) (at + 2)
    unfolding import_at
    import_name_lem is13 = rw (is_true toks (at + 1) rep 13 is13)

    pub let_bad : (kind_at toks (at + 1) ≡ 13 → ⊥) → let_at ts at ≡ no 5 1 (at + 1)
    unfolding let_at
    let_bad no13 = rw (is_false toks (at + 1) rep 13 no13)

    module _ (is13 : kind_at toks (at + 1) ≡ 13) where
      pub let_unequal : (kind_at toks (at + 2) ≡ 8 → ⊥) → let_at ts at ≡ no 5 1 (at + 2)
      unfolding let_at
      let_unequal no8 = rw (is_true toks (at + 1) rep 13 is13) (rw (is_false toks (at + 2) rep 8 no8) refl)

      module _ (is8 : kind_at toks (at + 2) ≡ 8) where
        pub let_no : (n k a : ℕ) → expr_at ts most_lists (at + 3) ≡ no n k a → let_at ts at ≡ no n k a
        unfolding let_at
        let_no n k a q = rw (is_true toks (at + 1) rep 13 is13) (rw (is_true toks (at + 2) rep 8 is8) (rw q refl))

        pub let_go : (e : Expr) (next x : ℕ) → expr_at ts most_lists (at + 3) ≡ ok e next x → let_at ts at ≡ ended ts (let' (at + 1) e) next
        unfolding let_at
        let_go e next x q = rw (is_true toks (at + 1) rep 13 is13) (rw (is_true toks (at + 2) rep 8 is8) (rw q refl))

    pub stmt_import : kind_at toks at ≡ 11 → stmt_at ts at ≡ import_at ts at
    unfolding stmt_at
    stmt_import e = rw (is_true toks at rep 11 e)

    pub stmt_let : kind_at toks at ≡ 12 → stmt_at ts at ≡ let_at ts at
    unfolding stmt_at
    stmt_let e = let k = kind_is toks at rep 12 e in rw k

    pub stmt_expr : (kind_at toks at ≡ 11 → ⊥) → (kind_at toks at ≡ 12 → ⊥) → stmt_at ts at ≡ expr_stmt ts at
    unfolding stmt_at
    stmt_expr no11 no12 = rw (is_false toks at rep 11 no11) (rw (is_false toks at rep 12 no12) refl)

  -- ---- programs
  module _ (ss : List Stmt) (at : ℕ) where
    pub stmts_end : (k : ℕ) → token_width * at ≤ length toks → length ts < at + k → kind_at toks at ≡ 1 → stmts_from ts k ss at ≡ ok ss at 0
    unfolding stmts_from
    stmts_end zero le lt is1 = absurd (omega (arith, rep.long))
    stmts_end (suc k) le lt is1 = rw (is_true toks at rep 1 is1, stmts_from)

    pub stmts_no : (k n j a : ℕ) → token_width * at ≤ length toks → length ts < at + k → (kind_at toks at ≡ 1 → ⊥) → stmt_at ts at ≡ no n j a → stmts_from ts k ss at ≡ no n j a
    unfolding stmts_from
    stmts_no zero n j a le lt no1 q = absurd (omega (arith, rep.long))
    stmts_no (suc k) n j a le lt no1 q = rw (is_false toks at rep 1 no1, stmts_from) (rw q refl)

    pub stmts_more : (k next y : ℕ) (s : Stmt) → token_width * at ≤ length toks → length ts < at + k → (kind_at toks at ≡ 1 → ⊥) → stmt_at ts at ≡ ok s next y → at < next
        → (k' : ℕ) × (length ts < next + k') × (stmts_from ts k ss at ≡ stmts_from ts k' (ss ++ s ∷ []) next)
    unfolding stmts_from
    stmts_more zero next y s le lt no1 q up = absurd (omega (arith, rep.long))
    stmts_more (suc k) next y s le lt no1 q up = (k, omega arith, rw (is_false toks at rep 1 no1, stmts_from) (rw q refl))

-- ---- parts after each other

module _ (ts : List Content) where
  pub chain_go : (p : ℕ → Out Args) (s at x next : ℕ) (e : Expr) → primary ts at s ≡ ok e next x → chain_of ts p s at ≡ links ts p s e next
  unfolding chain_of
  chain_go p s at x next e q = rw q

  pub chain_no : (p : ℕ → Out Args) (s at n k a : ℕ) → primary ts at s ≡ no n k a → chain_of ts p s at ≡ no n k a
  unfolding chain_of
  chain_no p s at n k a q = rw q

  pub expr_go : (p : ℕ → ℕ → Out Expr) (at x next : ℕ) (e : Expr) → p most_steps at ≡ ok e next x → expr_of ts p at ≡ slashes ts p (suc most_steps) e next x
  unfolding expr_of
  expr_go p at x next e q = rw q

  pub expr_no : (p : ℕ → ℕ → Out Expr) (at n k a : ℕ) → p most_steps at ≡ no n k a → expr_of ts p at ≡ no n k a
  unfolding expr_of
  expr_no p at n k a q = rw q

  pub list_shut : (d at : ℕ) → d ≡ 0 → list_at ts d at ≡ no 7 0 at
  unfolding list_at
  list_shut d at e = rw e

  pub list_open : (d at : ℕ) → (d ≡ 0 → ⊥) → list_at ts d at ≡ args_of ts (expr_at ts (d - 1)) (suc (length ts)) none_given (at + 1)
  unfolding list_at
  list_open zero at some = absurd (some refl)
  list_open (suc d) at some = rw (sub-one (suc d))

  pub stmt_go : (at x next : ℕ) (e : Expr) → expr_at ts most_lists at ≡ ok e next x → expr_stmt ts at ≡ ended ts (expr' e) next
  stmt_go at x next e q = rw q

  pub stmt_bad : (at n k a : ℕ) → expr_at ts most_lists at ≡ no n k a → expr_stmt ts at ≡ no n k a
  stmt_bad at n k a q = rw q

  pub program_is : program ts ≡ stmts_from ts (suc (length ts)) [] 0
  unfolding program
  program_is = refl

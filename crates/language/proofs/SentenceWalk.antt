-- One walk along the grammar. `Here made outer at` is what is known where parsing has come to the token `at`, with so many steps
-- made in the expression that is being read and in those around it, one for each list that is open. Where every token that is
-- taken keeps it (`Walk`), it holds where parsing ends; and what follows of it at a token that is refused holds of the refusal.
use mathlib.Core.Path.{◌≡◌, refl}
use mathlib.Core.Bool.{true, false}
use mathlib.Core.List.{List, [], ◌∷◌, ◌++◌}
use mathlib.Core.Logic.{inl, inr}
use Prim.Native.Nat.{ℕ, zero, suc, ◌+◌, ◌≤◌, ◌<◌}
use native.Mathlib.Omega.{arith}
use lib.Dec.{eqb}
use lib.ListN.{length, get_or}
use Rattle.language.specs.Lexemes.{l_paren, r_paren, dot, double_colon, colon, semi_colon, equals, comma, slash, import_keyword, let_keyword, boolean_literal, ipv4_literal, hex_literal, dec_literal}
use Rattle.language.specs.Tokens.{Content, eof, plain, name, string}
use Rattle.language.specs.Tables.{content_kind}
use Rattle.language.specs.Sentences.{Expr, sock4, member, call, slash', Args, none_given, given, named, Stmt, import', let', expr', Port, port, too_large, not_port, port_of, Out, ok, no, and_then, unexpected, out_of_range, most_steps, most_lists, is, is_name, is_literal, names_from, address, named', primary, links, chain_of, slashes, arg_of, args_of, ended, import_at, program}
use Rattle.language.specs.Grammar.{is_step}
use Rattle.language.specs.Bounds.{expr_in, list_in, whole_in, let_in, stmt_in, stmts_in, program_in}
use Rattle.language.proofs.Tests.{either, by_cases}
use Rattle.language.proofs.SentenceOutcomes.{at_dot, at_list, at_slash}
use Rattle.language.proofs.BoundsMet.{bounds_met}

-- the tokens that make no step, open or close no list and end nothing, but for `:`
pub data Quiet : Content → Type 0 where
  of_path : Quiet (plain double_colon)
  of_name : Quiet (name [])
  of_bool : Quiet (plain (boolean_literal true))
  of_string : Quiet (string [] [])
  of_hex : Quiet (plain (hex_literal 0))
  of_dec : Quiet (plain (dec_literal 0))
  of_quad : Quiet (plain (ipv4_literal 0))
  of_import : Quiet (plain import_keyword)
  of_let : Quiet (plain let_keyword)
  of_equals : Quiet (plain equals)

-- none of them is `Eof` or `:`
pub not_kinds : {c : Content} → Quiet c → (eqb 1 (content_kind c) ≡ false) × (eqb 6 (content_kind c) ≡ false)
not_kinds of_path = (refl, refl)
not_kinds of_name = (refl, refl)
not_kinds of_bool = (refl, refl)
not_kinds of_string = (refl, refl)
not_kinds of_hex = (refl, refl)
not_kinds of_dec = (refl, refl)
not_kinds of_quad = (refl, refl)
not_kinds of_import = (refl, refl)
not_kinds of_let = (refl, refl)
not_kinds of_equals = (refl, refl)

-- a quad, its `:`, and what stands where a port should
pub record Quad (ts : List Content) (at : ℕ) (p : Port) : Type 0 where
  pub quad : is ts at (plain (ipv4_literal 0)) ≡ true
  pub colons : is ts (at + 1) (plain colon) ≡ true
  pub there : port_of (get_or ts (at + 2) eof) ≡ p

-- within any bounds. `Sure` is what makes the count of steps sure: a property that needs no count leaves it impossible, and may
-- then be asked of parts with any turns and steps.
module _ (ts : List Content) (lists steps : ℕ) (Sure : Type 0) (Here : ℕ → List ℕ → ℕ → Type 0) (Refused : ℕ → ℕ → ℕ → Type 0) where
  -- what is to be shown of single tokens
  pub record Walk : Type 0 where
    pub quiet : {c : Content} {m at : ℕ} {o : List ℕ} → Quiet c → Here m o at → is ts at c ≡ true → Here m o (at + 1)
    -- an argument's name, and a port
    pub named_one : {m at : ℕ} {o : List ℕ} → Here m o at → is_name ts at ≡ true → is ts (at + 1) (plain colon) ≡ true → Here m o (at + 2)
    pub a_port : {m at : ℕ} {o : List ℕ} → Here m o at → Quad ts at port → Here m o (at + 3)
    -- steps
    pub dotted : {m at : ℕ} {o : List ℕ} → Here m o at → (Sure → m < steps) → is ts at (plain dot) ≡ true → Here (suc m) o (at + 1)
    pub slashed : {m at : ℕ} {o : List ℕ} → Here m o at → (Sure → m < steps) → is ts at (plain slash) ≡ true → Here (suc m) o (at + 1)
    pub opened : {m at : ℕ} {o : List ℕ} → Here m o at → (Sure → m < steps) → (Sure → length o < lists) → is ts at (plain l_paren) ≡ true
        → Here 0 (suc m ∷ o) (at + 1)
    pub closed : {m n at : ℕ} {o : List ℕ} → Here m (n ∷ o) at → is ts at (plain r_paren) ≡ true → Here n o (at + 1)
    -- after these an expression starts
    pub after_comma : {m at : ℕ} {o : List ℕ} → Here m o at → is ts at (plain comma) ≡ true → Here 0 o (at + 1)
    pub after_semi_colon : {m at : ℕ} {o : List ℕ} → Here m o at → is ts at (plain semi_colon) ≡ true → Here 0 o (at + 1)
    -- refusals
    pub not_expected : {m at : ℕ} {o : List ℕ} → Here m o at → Refused 5 1 at
    pub no_port : {m at : ℕ} {o : List ℕ} → Here m o at → Quad ts at not_port → Refused 5 1 (at + 2)
    pub large_port : {m at : ℕ} {o : List ℕ} → Here m o at → Quad ts at too_large → Refused 5 2 (at + 2)
    pub step_more : {m at : ℕ} {o : List ℕ} → Here m o at → (Sure → steps ≤ m) → is_step ts at ≡ true → Refused 7 0 at
    pub list_more : {m at : ℕ} {o : List ℕ} → Here m o at → (Sure → lists ≤ length o) → is ts at (plain l_paren) ≡ true → Refused 7 0 at
    -- where nothing is asked of the steps, turns may run out
    pub turns_out : {m at : ℕ} {o : List ℕ} → Here m o at → ¬ Sure → Refused 7 0 at

  -- an outcome: P of the next token and the steps that are left
  pub data Walked {A : Type 0} (P : ℕ → ℕ → Type 0) : Out A → Type 0 where
    found : {a : A} {at s : ℕ} → P at s → Walked P (ok a at s)
    refused : {n k at : ℕ} → Refused n k at → Walked P (no n k at)

  pub onward : {A B : Type 0} {P Q : ℕ → ℕ → Type 0} {q : Out A} {f : A → ℕ → ℕ → Out B} → Walked P q
      → ((a : A) (at s : ℕ) → P at s → Walked Q (f a at s)) → Walked Q (and_then q f)
  onward (found {a} {at} {s} h) r = r a at s h
  onward (refused h) r = refused h

  -- with so many steps made there, whatever steps are left
  abbrev pub Made : ℕ → List ℕ → ℕ → ℕ → Type 0
  Made m o at s = Here m o at

  -- with any number of them
  abbrev pub Some : List ℕ → ℕ → ℕ → Type 0
  Some o at s = (m : ℕ) × Here m o at

  -- those that are made and those that are left are all, and m of them were made before
  pub record Split (m : ℕ) (o : List ℕ) (at s : ℕ) : Type 0 where
    pub made : ℕ
    pub placed : Here made o at
    pub all : Sure → made + s ≡ steps
    pub before : Sure → m ≤ made

  -- at the end of a program, an `Eof`
  abbrev pub Over : ℕ → ℕ → Type 0
  Over at s = (is ts at eof ≡ true) × Here 0 [] at

  module _ (w : Walk) where
    move : {i j m : ℕ} {o : List ℕ} → i ≡ j → Here m o i → Here m o j
    move e h = rw (← e) h

    -- ---- a primary has no step

    module _ (m : ℕ) (o : List ℕ) where
      pub names_walked : (fuel n at s : ℕ) → Here m o at → Walked (Made m o) (names_from ts fuel n at s)
      unfolding names_from
      names_walked zero n at s h = refused (w.not_expected h)
      names_walked (suc fuel) n at s h =
          by_cases (Walked (Made m o)) (is ts at (plain double_colon))
          (λ e. let i = w.quiet of_path h e in
          by_cases (Walked (Made m o)) (is_name ts (at + 1))
          (λ q. names_walked fuel (n + 1) (at + 2) s (move (omega arith) (w.quiet of_name i q))) (λ _. refused (w.not_expected i)))
          (λ _. found h)

      address_walked : (at s : ℕ) → is ts at (plain (ipv4_literal 0)) ≡ true → Here m o at → Walked (Made m o) (address ts at s)
      unfolding address
      address_walked at s a h =
          by_cases (Walked (Made m o)) (is ts (at + 1) (plain colon)) (λ e. by e (port_of (get_or ts (at + 2) eof)) refl)
          (λ _. found (w.quiet of_quad h a))
        where
          by : is ts (at + 1) (plain colon) ≡ true → (p : Port) → port_of (get_or ts (at + 2) eof) ≡ p
              → Walked {A = Expr} (Made m o)
              (elim p [ port ↦ ok (sock4 at) (at + 3) s | too_large ↦ out_of_range (at + 2) | not_port ↦ unexpected (at + 2) ])
          by e port t = found (w.a_port h (record { quad = a; colons = e; there = t }))
          by e too_large t = refused (w.large_port h (record { quad = a; colons = e; there = t }))
          by e not_port t = refused (w.no_port h (record { quad = a; colons = e; there = t }))

      named_walked : (at s : ℕ) → is_name ts at ≡ true → Here m o at → Walked (Made m o) (named' ts at s)
      unfolding named'
      named_walked at s a h =
          by_cases (Walked (Made m o)) (is ts (at + 1) (plain double_colon))
          (λ _. onward (names_walked (suc (length ts)) 0 (at + 1) s (w.quiet of_name h a)) (λ n next x l. found l))
          (λ _. found (w.quiet of_name h a))

      -- a bool, a string or an integer
      literal_walked : (at : ℕ) → is_literal ts at ≡ true → Here m o at → Here m o (at + 1)
      literal_walked at e h =
          elim (either (is ts at (plain (boolean_literal true))) _ e) [
            | inl a ↦ w.quiet of_bool h a
            | inr b ↦ elim (either (is ts at (string [] [])) _ b) [
              | inl a ↦ w.quiet of_string h a
              | inr c ↦ elim (either (is ts at (plain (hex_literal 0))) _ c) [ inl a ↦ w.quiet of_hex h a | inr a ↦ w.quiet of_dec h a ]
            ]
          ]

      primary_walked : (at s : ℕ) → Here m o at → Walked (Made m o) (primary ts at s)
      unfolding primary
      primary_walked at s h =
          by_cases (Walked (Made m o)) (is_literal ts at) (λ e. found (literal_walked at e h))
          (λ _. by_cases (Walked (Made m o)) (is ts at (plain (ipv4_literal 0))) (λ e. address_walked at s e h)
          (λ _. by_cases (Walked (Made m o)) (is_name ts at) (λ e. named_walked at s e h) (λ _. refused (w.not_expected h))))

    -- ---- steps

    -- a list from its `(` on, which is a step
    abbrev Listed : List ℕ → (ℕ → Out Args) → Type 0
    Listed o list =
        (at m : ℕ) → is ts at (plain l_paren) ≡ true → (Sure → m < steps) → Here m o at → Walked (Made (suc m) o) (list at)

    abbrev Chained : List ℕ → (ℕ → ℕ → Out Expr) → Type 0
    Chained o chain = (s at m : ℕ) → (Sure → m + s ≡ steps) → Here m o at → Walked (Split m o) (chain s at)

    module _ (o : List ℕ) (list : ℕ → Out Args) (listed : Listed o list) where
      pub links_walked : (k s : ℕ) (e : Expr) (at m : ℕ) → (Sure → k ≤ m) → (Sure → m + s ≡ steps) → Here m o at
          → Walked (Split k o) (links ts list s e at)
      unfolding links
      links_walked k zero e at m l a h =
          by_cases (Walked (Split k o)) (is ts at (plain l_paren))
          (λ q. refused (w.step_more h (λ z. omega (arith, a z)) (at_list ts at q)))
          (λ _. by_cases (Walked (Split k o)) (is ts at (plain dot))
          (λ q. refused (w.step_more h (λ z. omega (arith, a z)) (at_dot ts at q)))
          (λ _. found (record { made = m; placed = h; all = a; before = l })))
      links_walked k (suc s) e at m l a h =
          by_cases (Walked (Split k o)) (is ts at (plain l_paren))
          (λ q. onward (listed at m q (λ z. omega (arith, a z)) h)
          (λ g next x i. links_walked k s (call e at g) next (suc m) (λ z. omega (arith, l z)) (λ z. omega (arith, a z)) i))
          (λ _. by_cases (Walked (Split k o)) (is ts at (plain dot))
          (λ q. let i = w.dotted h (λ z. omega (arith, a z)) q in
          by_cases (Walked (Split k o)) (is_name ts (at + 1))
          (λ n. links_walked k s (member e (at + 1)) (at + 2) (suc m) (λ z. omega (arith, l z)) (λ z. omega (arith, a z))
          (move (omega arith) (w.quiet of_name i n)))
          (λ _. refused (w.not_expected i)))
          (λ _. found (record { made = m; placed = h; all = a; before = l })))

      pub chain_walked : Chained o (chain_of ts list)
      unfolding chain_of
      chain_walked s at m a h =
          onward (primary_walked m o at s h) (λ e next x i. links_walked m s e next m (λ _. omega arith) a i)

    module _ (o : List ℕ) (chain : ℕ → ℕ → Out Expr) (chained : Chained o chain) where
      pub slashes_walked : (f : ℕ) (e : Expr) (at s m : ℕ) → (Sure → s < f) → (Sure → m + s ≡ steps) → Here m o at
          → Walked (Some o) (slashes ts chain f e at s)
      unfolding slashes
      slashes_walked zero e at s m l a h = refused (w.turns_out h (λ z. omega (arith, l z)))
      slashes_walked (suc f) e at zero m l a h =
          by_cases (Walked (Some o)) (is ts at (plain slash))
          (λ q. refused (w.step_more h (λ z. omega (arith, a z)) (at_slash ts at q))) (λ _. found (m, h))
      slashes_walked (suc f) e at (suc s) m l a h =
          by_cases (Walked (Some o)) (is ts at (plain slash))
          (λ q. onward (chained s (at + 1) (suc m) (λ z. omega (arith, a z)) (w.slashed h (λ z. omega (arith, a z)) q))
          (λ r next left i.
          slashes_walked f (slash' e r) next left i.made (λ z. omega (arith, i.all z, i.before z, a z, l z)) i.all i.placed))
          (λ _. found (m, h))

      pub expr_walked : (at : ℕ) → Here 0 o at → Walked (Some o) (expr_in ts steps chain at)
      unfolding expr_in
      expr_walked at h =
          onward (chained steps at 0 (λ _. omega arith) h)
          (λ e next s i. slashes_walked (suc steps) e next s i.made (λ z. omega (arith, i.all z)) i.all i.placed)

    -- ---- arguments: each starts with no step made

    module _ (o : List ℕ) (expr : ℕ → Out Expr) (exprs : (at : ℕ) → Here 0 o at → Walked (Some o) (expr at)) where
      -- an expression that becomes an argument
      arg_as : (f : Expr → Args) (at : ℕ) → Here 0 o at → Walked (Some o) (and_then (expr at) (λ e next x. ok (f e) next 0))
      arg_as f at h = onward (exprs at h) (λ e next x i. found i)

      arg_walked : (g : Args) (at : ℕ) → Here 0 o at → Walked (Some o) (arg_of ts expr g at)
      unfolding arg_of
      arg_walked g at h =
          by_cases (Walked (Some o)) (is_name ts at)
          (λ n. by_cases (Walked (Some o)) (is ts (at + 1) (plain colon))
          (λ q. arg_as (λ e. named g at e) (at + 2) (w.named_one h n q)) (λ _. arg_as (λ e. given g e) at h))
          (λ _. arg_as (λ e. given g e) at h)

    -- after the `)` the expression around it goes on
    module _ (m : ℕ) (o : List ℕ) (expr : ℕ → Out Expr) (exprs : (at : ℕ) → Here 0 (m ∷ o) at → Walked (Some (m ∷ o)) (expr at)) where
      pub args_walked : (fuel : ℕ) (g : Args) (at : ℕ) → Here 0 (m ∷ o) at → Walked (Made m o) (args_of ts expr fuel g at)
      unfolding args_of
      args_walked zero g at h = refused (w.not_expected h)
      args_walked (suc fuel) g at h =
          by_cases (Walked (Made m o)) (is ts at (plain r_paren)) (λ q. found (w.closed h q))
          (λ _. onward (arg_walked (m ∷ o) expr exprs g at h) (λ k next x i.
          by_cases (Walked (Made m o)) (is ts next (plain comma)) (λ q. args_walked fuel k (next + 1) (w.after_comma i.1 q))
          (λ _. by_cases (Walked (Made m o)) (is ts next (plain r_paren)) (λ q. found (w.closed i.1 q))
          (λ _. refused (w.not_expected i.1)))))

    -- ---- lists and whole expressions

    expr_by : (o : List ℕ) (d : ℕ) → Listed o (list_in ts steps d) → (at : ℕ) → Here 0 o at → Walked (Some o) (whole_in ts d steps at)
    expr_by o d listed = expr_walked o (chain_of ts (list_in ts steps d)) (chain_walked o (list_in ts steps d) listed)

    -- those that are open and those that may be opened are all
    pub list_walked : (d : ℕ) (o : List ℕ) → (Sure → length o + d ≡ lists) → Listed o (list_in ts steps d)
    unfolding list_in
    list_walked zero o a at m q l h = refused (w.list_more h (λ z. omega (arith, a z)) q)
    list_walked (suc d) o a at m q l h =
        args_walked (suc m) o (whole_in ts d steps) (expr_by (suc m ∷ o) d (list_walked d (suc m ∷ o) (λ z. omega (arith, a z))))
        (suc (length ts)) none_given (at + 1) (w.opened h l (λ z. omega (arith, a z)) q)

    pub whole_walked : (at : ℕ) → Here 0 [] at → Walked (Some []) (whole_in ts lists steps at)
    whole_walked = expr_by [] lists (list_walked lists [] (λ _. omega arith))

    -- ---- statements: each starts with no step made, and no list open

    pub ended_walked : {A : Type 0} (s : A) (at m : ℕ) → Here m [] at → Walked (Made 0 []) (ended ts s at)
    ended_walked s at m h =
        by_cases (Walked (Made 0 [])) (is ts at (plain semi_colon)) (λ q. found (w.after_semi_colon h q))
        (λ _. refused (w.not_expected h))

    -- an expression that becomes a statement
    stmt_as : (f : Expr → Stmt) (at : ℕ) → Here 0 [] at
        → Walked (Made 0 []) (and_then (whole_in ts lists steps at) (λ e next x. ended ts (f e) next))
    stmt_as f at h = onward (whole_walked at h) (λ e next x i. ended_walked (f e) next i.0 i.1)

    import_walked : (at : ℕ) → is ts at (plain import_keyword) ≡ true → Here 0 [] at → Walked (Made 0 []) (import_at ts at)
    unfolding import_at
    import_walked at e h =
        let i = w.quiet of_import h e in
        by_cases (Walked (Made 0 [])) (is_name ts (at + 1))
        (λ q. ended_walked (import' (at + 1)) (at + 2) 0 (move (omega arith) (w.quiet of_name i q))) (λ _. refused (w.not_expected i))

    let_walked : (at : ℕ) → is ts at (plain let_keyword) ≡ true → Here 0 [] at → Walked (Made 0 []) (let_in ts lists steps at)
    unfolding let_in
    let_walked at e h =
        let i = w.quiet of_let h e in
        by_cases (Walked (Made 0 [])) (is_name ts (at + 1))
        (λ q. let j : Here 0 [] (at + 2) = move (omega arith) (w.quiet of_name i q) in
        by_cases (Walked (Made 0 [])) (is ts (at + 2) (plain equals))
        (λ p. stmt_as (λ r. let' (at + 1) r) (at + 3) (move (omega arith) (w.quiet of_equals j p))) (λ _. refused (w.not_expected j)))
        (λ _. refused (w.not_expected i))

    pub stmt_walked : (at : ℕ) → Here 0 [] at → Walked (Made 0 []) (stmt_in ts lists steps at)
    unfolding stmt_in
    stmt_walked at h =
        by_cases (Walked (Made 0 [])) (is ts at (plain import_keyword)) (λ e. import_walked at e h)
        (λ _. by_cases (Walked (Made 0 [])) (is ts at (plain let_keyword)) (λ e. let_walked at e h) (λ _. stmt_as (λ r. expr' r) at h))

    pub stmts_walked : (fuel : ℕ) (ss : List Stmt) (at : ℕ) → Here 0 [] at → Walked Over (stmts_in ts lists steps fuel ss at)
    unfolding stmts_in
    stmts_walked zero ss at h = refused (w.not_expected h)
    stmts_walked (suc fuel) ss at h =
        by_cases (Walked Over) (is ts at eof) (λ e. found (e, h))
        (λ _. onward (stmt_walked at h) (λ s next x i. stmts_walked fuel (ss ++ s ∷ []) next i))

    pub program_walked : Here 0 [] 0 → Walked Over (program_in ts lists steps)
    unfolding program_in
    program_walked h = stmts_walked (suc (length ts)) [] 0 h

-- ---- a program within 01's bounds

-- what holds at its start, and is kept, holds at its end, and of its refusal
module _ (ts : List Content) (Here : ℕ → List ℕ → ℕ → Type 0) (Refused : ℕ → ℕ → ℕ → Type 0)
    (w : Walk ts most_lists most_steps (Unit {0}) Here Refused) (start : Here 0 [] 0) where
  abbrev pub Told : Out (List Stmt) → Type 0
  Told o = Walked ts most_lists most_steps (Unit {0}) Here Refused (Over ts most_lists most_steps (Unit {0}) Here Refused) o

  pub program_told : Told (program ts)
  program_told = rw (bounds_met ts) (program_walked ts most_lists most_steps (Unit {0}) Here Refused w start)

  pub at_end : {ss : List Stmt} {next x : ℕ} → program ts ≡ ok ss next x → Here 0 [] next
  at_end {ss} {next} {x} e = by (rw e at program_told)
    where
      by : Told (ok ss next x) → Here 0 [] next
      by (found h) = h.1

  pub at_refusal : {n k t : ℕ} → program ts ≡ no n k t → Refused n k t
  at_refusal {n} {k} {t} e = by (rw e at program_told)
    where
      by : Told (no n k t) → Refused n k t
      by (refused h) = h

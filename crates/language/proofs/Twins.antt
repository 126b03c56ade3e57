-- Two runs side by side: one on the tokens ts, and one with larger bounds on tokens us that are the same up to t. Where the first has
-- not come past t, the second comes to the same; or the first stopped at a list or a step too many, and the second goes past it.
use mathlib.Core.Path.{◌≡◌, refl, sym, ◌∙◌}
use mathlib.Core.Bool.{Bool, true, false, false≢true}
use mathlib.Core.List.{List, [], ◌∷◌, ◌++◌}
use Prim.Native.Nat.{ℕ, zero, suc, ◌+◌, ◌≤◌, ◌<◌}
use native.Mathlib.Omega.{arith}
use lib.Dec.{eqb}
use lib.ListN.{length, get_or}
use Rattle.language.specs.Choice.{if'}
use Rattle.language.specs.Lexemes.{l_paren, r_paren, dot, double_colon, colon, semi_colon, equals, comma, slash, import_keyword, let_keyword, ipv4_literal}
use Rattle.language.specs.Tokens.{Content, eof, plain, name}
use Rattle.language.specs.Tables.{content_kind}
use Rattle.language.specs.Sentences.{Expr, sock4, member, call, slash', Args, none_given, given, named, Stmt, import', let', expr', Port, port, too_large, not_port, port_of, Out, ok, no, and_then, unexpected, out_of_range, is, is_name, is_literal, names_from, address, named', primary, links, chain_of, slashes, arg_of, args_of, ended, import_at}
use Rattle.language.specs.Grammar.{is_step}
use Rattle.language.specs.Bounds.{expr_in, list_in, whole_in, let_in, stmt_in, stmts_in, program_in, reached}
use Rattle.language.proofs.Tests.{both_sides}
use Rattle.language.proofs.SentenceOutcomes.{before_end, not_end, at_list, at_dot, at_slash}
use Rattle.language.proofs.BoundsPlaces.{On, went, halted, either, both, names_on, links_on, chain_on, slashes_on, args_on_lem, list_on, list_past, whole_on, ended_on, stmts_on}

-- ---- what is known where both find the same: of the next token, and of the steps that are left in the first and in the second

abbrev Any : ℕ → ℕ → ℕ → Type 0
Any at s r = Unit {0}

abbrev pub Equal : ℕ → ℕ → ℕ → Type 0
Equal at s r = s ≡ r

abbrev After : ℕ → ℕ → ℕ → ℕ → Type 0
After u at s r = u < at

-- fewer are left in the first, fewer than i; and fewer than j in the second
record Left (i j at s r : ℕ) : Type 0 where
  fewer : s < r
  within : s < i
  also_within : r < j

-- ---- a run goes on, also past t (BoundsPlaces.antt)

abbrev Goes : {A B : Type 0} → (A → ℕ → ℕ → Out B) → Type 0
Goes f = (m : ℕ) (a : _) (at s : ℕ) → m ≤ at → On m (f a at s)

module _ (ts : List Content) (d n : ℕ) where
  links_go : (m s : ℕ) (x : Expr) (at z : ℕ) → m ≤ at → On m (links ts (list_in ts n d) s x at)
  links_go m s x at z = links_on ts m (list_in ts n d) (list_on ts m n d) s x at

  chain_go : (m s at : ℕ) → m ≤ at → On m (chain_of ts (list_in ts n d) s at)
  chain_go m = chain_on ts m (list_in ts n d) (list_on ts m n d)

  slashes_go : (m fuel : ℕ) (x : Expr) (at s : ℕ) → m ≤ at → On m (slashes ts (chain_of ts (list_in ts n d)) fuel x at s)
  slashes_go m = slashes_on ts m (chain_of ts (list_in ts n d)) (chain_go m)

  -- after an argument
  rest_go : (fuel m : ℕ) (a : Args) (at s : ℕ) → m ≤ at
      → On m (if' (is ts at (plain comma)) (args_of ts (whole_in ts d n) fuel a (at + 1))
      (if' (is ts at (plain r_paren)) (ok a (at + 1) 0) (unexpected at)))
  rest_go fuel m a at s h =
      either (is ts at (plain comma)) (args_on_lem ts m (whole_in ts d n) (whole_on ts m d n) fuel a (at + 1) (omega arith))
      (either (is ts at (plain r_paren)) (went (omega arith)) (halted h))

-- ---- two outcomes

module _ (ts : List Content) where
  -- the same value (P says what is known of it) or the same 5; or there was a step too many, and it is passed
  pub data Freer {A : Type 0} (P : ℕ → ℕ → ℕ → Type 0) : Out A → Out A → Type 0 where
    same : {a : A} {at s r : ℕ} → P at s r → Freer P (ok a at s) (ok a at r)
    refused : {k at : ℕ} → Freer P (no 5 k at) (no 5 k at)
    stopped : {at : ℕ} {o : Out A} → is_step ts at ≡ true → On (suc at) o → Freer P (no 7 0 at) o

  ok_then : {A B : Type 0} {P Q : ℕ → ℕ → ℕ → Type 0} {a : A} {at s : ℕ} {q : Out A} {o : Out B} (g : A → ℕ → ℕ → Out B)
      → Freer P (ok a at s) q → ((r : ℕ) → P at s r → Freer Q o (g a at r)) → Freer Q o (and_then q g)
  ok_then g (same {r} p) f = f r p

  no_then : {A B : Type 0} {P Q : ℕ → ℕ → ℕ → Type 0} {n k at : ℕ} {q : Out A} {g : A → ℕ → ℕ → Out B}
      → Freer P (no n k at) q → Goes g → Freer Q (no n k at) (and_then q g)
  no_then refused f = refused
  no_then (stopped {at} e h) f = stopped e (both h (f (suc at)))

module _ (ts us : List Content) (t : ℕ) (shared : (i : ℕ) → i ≤ t → get_or us i eof ≡ get_or ts i eof) where
  -- the first stands at the token m or after it, and where it does not stand past t the second is as it, or freer
  pub record Twin {A : Type 0} (m : ℕ) (P : ℕ → ℕ → ℕ → Type 0) (o q : Out A) : Type 0 where
    pub reaches : m ≤ reached o
    pub agrees : reached o ≤ t → Freer ts P o q

  module _ {A : Type 0} {P : ℕ → ℕ → ℕ → Type 0} {m : ℕ} where
    alike : {a : A} {at s r : ℕ} → (m ≤ at) × P at s r → Twin m P (ok a at s) (ok a at r)
    alike h = record { reaches = h.0; agrees = λ _. same h.1 }

    denied : {k at : ℕ} → m ≤ at → Twin {A = A} m P (no 5 k at) (no 5 k at)
    denied h = record { reaches = h; agrees = λ _. refused }

    too_many_lem : {at : ℕ} {q : Out A} → m ≤ at → is_step ts at ≡ true → On (suc at) q → Twin m P (no 7 0 at) q
    too_many_lem h e on = record { reaches = h; agrees = λ _. stopped e on }

    later : {n : ℕ} {o q : Out A} → m ≤ n → Twin n P o q → Twin m P o q
    later h i = record { reaches = omega (arith, i.reaches); agrees = i.agrees }

    -- past t nothing is asked but that the first goes on
    ahead : {n : ℕ} {o q : Out A} → m ≤ n → On n o → (n ≤ t → Twin n P o q) → Twin m P o q
    ahead h on i = record { reaches = omega (arith, on.reaches); agrees = λ l. (i (omega (arith, on.reaches))).agrees l }

    -- a token that is no later than m is the same on both lists, where that is asked
    reads : {o : Out A} (at : ℕ) (f : Content → Out A) → at ≤ m → Twin m P o (f (get_or ts at eof)) → Twin m P o (f (get_or us at eof))
    reads at f h i = record { reaches = i.reaches; agrees = λ l. rw (shared at (omega (arith, i.reaches))) (i.agrees l) }

    choose : (f : Content → Bool) (at : ℕ) {o q x y : Out A} → at ≤ m → (f (get_or ts at eof) ≡ true → Twin m P o x)
        → (f (get_or ts at eof) ≡ false → Twin m P q y)
        → Twin m P (if' (f (get_or ts at eof)) o q) (if' (f (get_or us at eof)) x y)
    choose f at {x} {y} h i j = reads at (λ z. if' (f z) x y) h (both_sides (Twin m P) (f (get_or ts at eof)) i j)

  test : {A : Type 0} {P : ℕ → ℕ → ℕ → Type 0} {m : ℕ} (c : Content) (at : ℕ) {o q x y : Out A} → m ≤ at
      → (is ts at c ≡ true → Twin at P o x) → (is ts at c ≡ false → Twin at P q y)
      → Twin m P (if' (is ts at c) o q) (if' (is us at c) x y)
  test c at h i j = later h (choose (λ z. is (z ∷ []) 0 c) at (omega arith) i j)

  onward : {A B : Type 0} {m : ℕ} {P Q : ℕ → ℕ → ℕ → Type 0} {o q : Out A} {f g : A → ℕ → ℕ → Out B} → Twin m P o q
      → ((a : A) (at s r : ℕ) → m ≤ at → at ≤ t → P at s r → Twin at Q (f a at s) (g a at r))
      → Goes f → Goes g → Twin m Q (and_then o f) (and_then q g)
  onward {o = ok a at s} {g} h i f _ =
      let on = f at a at s (omega arith) in
      record {
        reaches = omega (arith, h.reaches, on.reaches);
        agrees = λ l.
            let u : at ≤ t = omega (arith, on.reaches) in
            ok_then ts g (h.agrees u) (λ r p. (i a at s r h.reaches u p).agrees l);
      }
  onward {o = no n k at} h i f g = record { reaches = h.reaches; agrees = λ l. no_then ts (h.agrees l) g }

  -- ---- turns: each run has one for each token that is left

  record Enough (f g at : ℕ) : Type 0 where
    turn : 0 < f
    also_turn : 0 < g
    turns : length ts < at + f
    also_turns : length us < at + g

  -- a token that is not `Eof` is inside of both
  inner : {i : ℕ} (c : Content) → eqb 1 (content_kind c) ≡ false → is ts i c ≡ true → i ≤ t → (i < length ts) × (i < length us)
  inner {i} c k e l = (before_end ts c k e, before_end us c k (rw (shared i l) e))

  -- ---- a primary

  names_twin : (f g n at s r : ℕ) → at ≤ t → Enough f g at → Twin at Any (names_from ts f n at s) (names_from us g n at r)
  unfolding names_from
  names_twin zero g n at s r l i = absurd (omega arith)
  names_twin (suc f) zero n at s r l i = absurd (omega arith)
  names_twin (suc f) (suc g) n at s r l i =
      test (plain double_colon) at (omega arith)
      (λ p. let j = inner (plain double_colon) refl p l in
      test (name []) (at + 1) (omega arith)
      (λ _. ahead (omega arith) (names_on ts (at + 2) f (n + 1) (at + 2) s (omega arith))
      (λ k. names_twin f g (n + 1) (at + 2) s r k (omega arith)))
      (λ _. denied (omega arith)))
      (λ _. alike (omega arith))

  address_twin : (at s r : ℕ) → Twin (at + 1) Any (address ts at s) (address us at r)
  unfolding address
  address_twin at s r =
      test (plain colon) (at + 1) (omega arith)
      (λ _. later (omega arith) (reads (at + 2) (λ c. to (port_of c) r) (omega arith) (by (port_of (get_or ts (at + 2) eof)))))
      (λ _. alike (omega arith))
    where
      to : Port → ℕ → Out Expr
      to p x = elim p [ port ↦ ok (sock4 at) (at + 3) x | too_large ↦ out_of_range (at + 2) | not_port ↦ unexpected (at + 2) ]

      by : (p : Port) → Twin (at + 2) Any (to p s) (to p r)
      by port = alike (omega arith)
      by too_large = denied (omega arith)
      by not_port = denied (omega arith)

  named_twin : (at s r : ℕ) → Twin (at + 1) Any (named' ts at s) (named' us at r)
  unfolding named'
  named_twin at s r =
      test (plain double_colon) (at + 1) (omega arith)
      (λ _. onward (ahead (omega arith) (names_on ts (at + 1) (suc (length ts)) 0 (at + 1) s (omega arith))
      (λ l. names_twin (suc (length ts)) (suc (length us)) 0 (at + 1) s r l (omega arith)))
      (λ n next x y _ _ _. alike (omega arith)) (λ m n next x h. went h) (λ m n next x h. went h))
      (λ _. alike (omega arith))

  -- an expression's outcome stands at its first token or after it, and after it where that one is a name
  record Begins (m at : ℕ) : Type 0 where
    first : at ≤ m
    after : m ≤ at + 1
    no_name : is_name ts at ≡ false → m ≤ at

  here : {at : ℕ} → Begins at at
  here = record { first = omega arith; after = omega arith; no_name = λ _. omega arith }

  past_name : {at : ℕ} → is_name ts at ≡ true → Begins (at + 1) at
  past_name p = record { first = omega arith; after = omega arith; no_name = λ e. absurd (false≢true (sym e ∙ p)) }

  primary_twin : (m at s r : ℕ) → Begins m at → Twin m Any (primary ts at s) (primary us at r)
  unfolding primary
  primary_twin m at s r b =
      choose (λ c. is_literal (c ∷ []) 0) at b.first (λ _. alike (b.after, tt))
      (λ _. choose (λ c. is (c ∷ []) 0 (plain (ipv4_literal 0))) at b.first (λ _. later b.after (address_twin at s r))
      (λ _. choose (λ c. is_name (c ∷ []) 0) at b.first (λ _. later b.after (named_twin at s r)) (λ e. denied (b.no_name e))))

  module _ (n k : ℕ) (steps : n < k) where
    module _ (d e : ℕ) (more : d < e)
        (lists : (at : ℕ) → is ts at (plain l_paren) ≡ true → Twin at Any (list_in ts n d at) (list_in us k e at)) where
      -- ---- steps

      links_twin : (i j s r : ℕ) (x : Expr) (at : ℕ) → Left i j at s r
          → Twin at (Left i j) (links ts (list_in ts n d) s x at) (links us (list_in us k e) r x at)
      unfolding links
      links_twin i j s zero x at l = absurd (omega arith)
      links_twin i j zero (suc r) x at l =
          test (plain l_paren) at (omega arith)
          (λ p. too_many_lem (omega arith) (at_list ts at p)
          (both (list_past us (suc at) k e at (omega arith) (omega arith)) (λ g. links_go us e k (suc at) r (call x at g))))
          (λ _. test (plain dot) at (omega arith)
          (λ p. too_many_lem (omega arith) (at_dot ts at p)
          (either (is_name us (at + 1)) (links_go us e k (suc at) r (member x (at + 1)) (at + 2) 0 (omega arith)) (halted (omega arith))))
          (λ _. alike (omega arith)))
      links_twin i j (suc s) (suc r) x at l =
          test (plain l_paren) at (omega arith)
          (λ p. onward (lists at p) (λ g next y z _ _ _. links_twin i j s r (call x at g) next (omega arith))
          (λ m g. links_go ts d n m s (call x at g)) (λ m g. links_go us e k m r (call x at g)))
          (λ _. test (plain dot) at (omega arith)
          (λ _. test (name []) (at + 1) (omega arith)
          (λ _. later (omega arith) (links_twin i j s r (member x (at + 1)) (at + 2) (omega arith))) (λ _. denied (omega arith)))
          (λ _. alike (omega arith)))

      chain_twin : (m s r at : ℕ) → s < r → Begins m at
          → Twin m (Left (suc s) (suc r)) (chain_of ts (list_in ts n d) s at) (chain_of us (list_in us k e) r at)
      unfolding chain_of
      chain_twin m s r at h b =
          onward (primary_twin m at s r b) (λ x next y z _ _ _. links_twin (suc s) (suc r) s r x next (omega arith))
          (λ m. links_go ts d n m s) (λ m. links_go us e k m r)

      slashes_twin : (f g : ℕ) (x : Expr) (at s r : ℕ) → Left f g at s r
          → Twin at Any (slashes ts (chain_of ts (list_in ts n d)) f x at s) (slashes us (chain_of us (list_in us k e)) g x at r)
      unfolding slashes
      slashes_twin zero g x at s r l = absurd (omega arith)
      slashes_twin (suc f) zero x at s r l = absurd (omega arith)
      slashes_twin (suc f) (suc g) x at s zero l = absurd (omega arith)
      slashes_twin (suc f) (suc g) x at zero (suc r) l =
          test (plain slash) at (omega arith)
          (λ p. too_many_lem (omega arith) (at_slash ts at p)
          (both (chain_go us e k (suc at) r (at + 1) (omega arith)) (λ y. slashes_go us e k (suc at) g (slash' x y))))
          (λ _. alike (omega arith))
      slashes_twin (suc f) (suc g) x at (suc s) (suc r) l =
          test (plain slash) at (omega arith)
          (λ _. later (omega arith) (onward (chain_twin (at + 1) s r (at + 1) (omega arith) here)
          (λ y next a b _ _ i. slashes_twin f g (slash' x y) next a b (omega arith))
          (λ m y. slashes_go ts d n m f (slash' x y)) (λ m y. slashes_go us e k m g (slash' x y))))
          (λ _. alike (omega arith))

      whole_twin : (m at : ℕ) → Begins m at → Twin m Any (whole_in ts d n at) (whole_in us e k at)
      unfolding expr_in
      whole_twin m at b =
          onward (chain_twin m n k at steps b) (λ x next s r _ _ l. slashes_twin (suc n) (suc k) x next s r l)
          (λ m. slashes_go ts d n m (suc n)) (λ m. slashes_go us e k m (suc k))

      -- ---- arguments

      -- an expression that becomes an argument
      arg_as : (f : Expr → Args) {m at : ℕ} → Begins m at
          → Twin m Any (and_then (whole_in ts d n at) (λ x next s. ok (f x) next 0)) (and_then (whole_in us e k at) (λ x next s. ok (f x) next 0))
      arg_as f {m} {at} b =
          onward (whole_twin m at b) (λ x next s r _ _ _. alike (omega arith)) (λ m x next s h. went h) (λ m x next s h. went h)

      arg_twin : (a : Args) (at : ℕ) → Twin at Any (arg_of ts (whole_in ts d n) a at) (arg_of us (whole_in us e k) a at)
      unfolding arg_of
      arg_twin a at =
          test (name []) at (omega arith)
          (λ p. test (plain colon) (at + 1) (omega arith)
          (λ _. later (omega arith) (arg_as (λ x. named a at x) here)) (λ _. arg_as (λ x. given a x) (past_name p)))
          (λ _. arg_as (λ x. given a x) here)

      args_twin : (f g : ℕ) (a : Args) (at : ℕ) → Enough f g at
          → Twin at Any (args_of ts (whole_in ts d n) f a at) (args_of us (whole_in us e k) g a at)
      unfolding args_of
      args_twin zero g a at i = absurd (omega arith)
      args_twin (suc f) zero a at i = absurd (omega arith)
      args_twin (suc f) (suc g) a at i =
          test (plain r_paren) at (omega arith) (λ _. alike (omega arith))
          (λ _. onward (arg_twin a at)
          (λ b next s r h l _. test (plain comma) next (omega arith)
          (λ p. let j = inner (plain comma) refl p l in later (omega arith) (args_twin f g b (next + 1) (omega arith)))
          (λ _. test (plain r_paren) next (omega arith) (λ _. alike (omega arith)) (λ _. denied (omega arith))))
          (rest_go ts d n f) (rest_go us e k g))

    -- ---- lists

    list_twin : (d e at : ℕ) → d < e → is ts at (plain l_paren) ≡ true → Twin at Any (list_in ts n d at) (list_in us k e at)
    unfolding list_in
    list_twin d zero at h p = absurd (omega arith)
    list_twin zero (suc e) at h p = too_many_lem (omega arith) (at_list ts at p) (list_past us (suc at) k (suc e) at (omega arith) (omega arith))
    list_twin (suc d) (suc e) at h p =
        later (omega arith) (args_twin d e (omega arith) (λ u. list_twin d e u (omega arith)) (suc (length ts)) (suc (length us)) none_given
        (at + 1) (omega arith))

  -- ---- statements

  module _ (d e n k : ℕ) (lists : d < e) (steps : n < k) where
    ended_twin : (u : ℕ) (s : Stmt) (at : ℕ) → u ≤ at → Twin at (After u) (ended ts s at) (ended us s at)
    ended_twin u s at h = test (plain semi_colon) at (omega arith) (λ _. alike (omega arith)) (λ _. denied (omega arith))

    -- an expression that becomes a statement
    stmt_as : (u : ℕ) (f : Expr → Stmt) (at : ℕ) → u ≤ at
        → Twin at (After u) (and_then (whole_in ts d n at) (λ x next s. ended ts (f x) next))
        (and_then (whole_in us e k at) (λ x next s. ended us (f x) next))
    stmt_as u f at h =
        onward (whole_twin n k steps d e lists (λ v. list_twin n k steps d e v lists) at at here)
        (λ x next s r i _ _. ended_twin u (f x) next (omega arith))
        (λ m x next _. ended_on ts m (f x) next) (λ m x next _. ended_on us m (f x) next)

    stmt_twin : (at : ℕ) → Twin at (After at) (stmt_in ts d n at) (stmt_in us e k at)
    unfolding stmt_in import_at let_in
    stmt_twin at =
        test (plain import_keyword) at (omega arith)
        (λ _. test (name []) (at + 1) (omega arith)
        (λ _. later (omega arith) (ended_twin at (import' (at + 1)) (at + 2) (omega arith))) (λ _. denied (omega arith)))
        (λ _. test (plain let_keyword) at (omega arith)
        (λ _. test (name []) (at + 1) (omega arith)
        (λ _. test (plain equals) (at + 2) (omega arith)
        (λ _. later (omega arith) (stmt_as at (λ x. let' (at + 1) x) (at + 3) (omega arith))) (λ _. denied (omega arith)))
        (λ _. denied (omega arith)))
        (λ _. stmt_as at (λ x. expr' x) at (omega arith)))

    stmts_twin : (f g : ℕ) (ss : List Stmt) (at : ℕ) → Enough f g at → Twin at Equal (stmts_in ts d n f ss at) (stmts_in us e k g ss at)
    unfolding stmts_in
    stmts_twin zero g ss at i = absurd (omega arith)
    stmts_twin (suc f) zero ss at i = absurd (omega arith)
    stmts_twin (suc f) (suc g) ss at i =
        test eof at (omega arith) (λ _. alike (omega arith))
        (λ p. onward (stmt_twin at)
        (λ s next x y h l o. let a = not_end ts p in
        let b : at < length us = not_end us (rw (shared at (omega arith)) p) in
        stmts_twin f g (ss ++ s ∷ []) next (omega arith))
        (λ m s next _. stmts_on ts m d n f (ss ++ s ∷ []) next) (λ m s next _. stmts_on us m e k g (ss ++ s ∷ []) next))

    pub program_twin : Twin 0 Equal (program_in ts d n) (program_in us e k)
    unfolding program_in
    program_twin = stmts_twin (suc (length ts)) (suc (length us)) [] 0 (omega arith)

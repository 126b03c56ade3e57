-- How many statements end before a token: inside a statement the count stays as it is, and its `;` adds one.
use Prim.Native.Nat.{ℕ, zero, suc, ◌+◌, ◌≤◌, ◌<◌}
use mathlib.Core.Path.{◌≡◌, refl, sym, ◌∙◌}
use mathlib.Core.Bool.{Bool}
use mathlib.Core.List.{List, [], ◌∷◌}
use native.Mathlib.Omega.{arith}
use native.Mathlib.Numerals.{add-one}
use borrow.Author.Tests.{eqb-true}
use lib.ListN.{length, get_or, take}
use lib.Seq.{take-nil, take_all}
use Rattle.language.specs.Choice.{if'}
use Rattle.language.specs.Lexemes.{l_paren, r_paren, dot, double_colon, colon, semi_colon, equals, comma, slash, import_keyword, let_keyword, ipv4_literal}
use Rattle.language.specs.Tokens.{Content, eof, plain, name}
use Rattle.language.specs.Tables.{content_kind}
use Rattle.language.specs.Sentences.{Expr, Args, Stmt, port_of, is}
use Rattle.language.specs.Grammar.{is_port, Takes, One, PathNames, is_start, is_name_lem, Chain, is_literal_lem, is_address, is_sock4_lem, is_local, is_path, is_member, is_call, Slashed, is_chain, is_slash, Expression, is_expression, Argument, is_given, is_named_lem, Arguments, is_none, is_more, Bracketed, is_closed, is_last, Statement, is_import, is_let, is_expr, Program, is_end, is_next}
use Rattle.language.specs.Numbered.{ends}
use Rattle.language.proofs.Forms.{port_kind}
use Rattle.language.proofs.SentenceOutcomes.{before_end}
use Rattle.language.proofs.GrammarMet.{is_good, is_not, chain_starts}

-- ---- one token more

step : (ts : List Content) (i : ℕ) → ends (take (suc i) ts) ≡ ends (take i ts) + if' (is ts i (plain semi_colon)) 1 0
unfolding ends
step [] zero = refl
step [] (suc i) = refl
step (c ∷ ts) zero = omega arith
step (c ∷ ts) (suc i) = omega (arith, step ts i)

rising : (ts : List Content) (i j : ℕ) → i ≤ j → ends (take i ts) ≤ ends (take j ts)
unfolding ends
rising [] i j h = rw (take-nil i, take-nil j) (omega arith)
rising (c ∷ ts) zero j h = omega arith
rising (c ∷ ts) (suc i) zero h = absurd (omega arith)
rising (c ∷ ts) (suc i) (suc j) h = omega (arith, rising ts i j (omega arith))

module _ (ts : List Content) where
  -- how many statements end before the token i
  abbrev pub before : ℕ → ℕ
  before i = ends (take i ts)

  pub before_most : (i : ℕ) → before i ≤ ends ts
  before_most i = rw (take_all (i + length ts) ts (omega arith)) at (rising ts i (i + length ts) (omega arith))

  -- ---- tokens of a kind

  -- no `;`
  other : {b : Bool} {at next : ℕ} → Takes b at next → (content_kind (get_or ts at eof) ≡ 7 → ⊥) → before next ≡ before at
  other {at = at} a k = rw (a.after, add-one at, step ts at, is_not ts at (plain semi_colon) k) (omega arith)

  one : {at next : ℕ} (c : Content) → (content_kind c ≡ 7 → ⊥) → One ts c at next → before next ≡ before at
  one {at} c k a = let e = eqb-true (content_kind (get_or ts at eof)) (content_kind c) a.passes in other a (λ q. k (sym e ∙ q))

  a_port : {at next : ℕ} → Takes (is_port (port_of (get_or ts at eof))) at next → before next ≡ before at
  a_port {at} a =
      let c = get_or ts at eof in
      let k = port_kind c (is_good (port_of c) a.passes) in other a (λ q. omega (arith, k, q))

  ended : {at next : ℕ} → One ts (plain semi_colon) at next → before next ≡ suc (before at)
  ended {at} a = rw (a.after, add-one at, step ts at, a.passes) (omega arith)

  -- ---- expressions have none

  names_quiet : {at n next : ℕ} → PathNames ts at n next → before next ≡ before at
  names_quiet is_start = refl
  names_quiet (is_name_lem p a b) = omega (arith, names_quiet p, one (plain double_colon) (omega arith) a, one (name []) (omega arith) b)

  mutual
    chain_quiet : {d at next : ℕ} {e : Expr} → Chain ts d at e next → before next ≡ before at
    chain_quiet (is_literal_lem a) = let k = chain_starts ts (is_literal_lem {d = 0} a) in other a (λ q. omega (arith, k, q))
    chain_quiet (is_address a b) = one (plain (ipv4_literal 0)) (omega arith) a
    chain_quiet (is_sock4_lem a b c) = omega (arith, one (plain (ipv4_literal 0)) (omega arith) a, one (plain colon) (omega arith) b, a_port c)
    chain_quiet (is_local a b) = one (name []) (omega arith) a
    chain_quiet (is_path a p m b) = omega (arith, one (name []) (omega arith) a, names_quiet p)
    chain_quiet (is_member c a b) = omega (arith, chain_quiet c, one (plain dot) (omega arith) a, one (name []) (omega arith) b)
    chain_quiet (is_call c l) = omega (arith, chain_quiet c, list_quiet l)

    slashed_quiet : {d at next : ℕ} {e : Expr} → Slashed ts d at e next → before next ≡ before at
    slashed_quiet (is_chain c) = chain_quiet c
    slashed_quiet (is_slash c a r) = omega (arith, slashed_quiet c, one (plain slash) (omega arith) a, chain_quiet r)

    expr_quiet : {d at next : ℕ} {e : Expr} → Expression ts d at e next → before next ≡ before at
    expr_quiet (is_expression c l) = slashed_quiet c

    arg_quiet : {d at next : ℕ} {g h : Args} → Argument ts d at g h next → before next ≡ before at
    arg_quiet (is_given f c) = expr_quiet c
    arg_quiet (is_named_lem a b c) = omega (arith, one (name []) (omega arith) a, one (plain colon) (omega arith) b, expr_quiet c)

    args_quiet : {d at next : ℕ} {g : Args} → Arguments ts d at g next → before next ≡ before at
    args_quiet is_none = refl
    args_quiet (is_more g a b) = omega (arith, args_quiet g, arg_quiet a, one (plain comma) (omega arith) b)

    list_quiet : {d at next : ℕ} {g : Args} → Bracketed ts d at g next → before next ≡ before at
    list_quiet (is_closed a g b) = omega (arith, one (plain l_paren) (omega arith) a, args_quiet g, one (plain r_paren) (omega arith) b)
    list_quiet (is_last a g h b) =
        omega (arith, one (plain l_paren) (omega arith) a, args_quiet g, arg_quiet h, one (plain r_paren) (omega arith) b)

  -- ---- statements

  -- a statement has its `;` last and no other
  record Closes (at next : ℕ) : Type 0 where
    last : ℕ
    quiet : before last ≡ before at
    close : One ts (plain semi_colon) last next

  stmt_closes : {at next : ℕ} {s : Stmt} → Statement ts at s next → Closes at next
  stmt_closes (is_import {mid = mid} a b c) =
      record { last = mid; quiet = omega (arith, one (plain import_keyword) (omega arith) a, one (name []) (omega arith) b); close = c }
  stmt_closes (is_let {v = v} a b c e f) =
      record {
        last = v;
        quiet = omega (
          arith,
          one (plain let_keyword) (omega arith) a,
          one (name []) (omega arith) b,
          one (plain equals) (omega arith) c,
          expr_quiet e,
        );
        close = f;
      }
  stmt_closes (is_expr {mid = mid} e f) = record { last = mid; quiet = expr_quiet e; close = f }

  module _ {at next : ℕ} {s : Stmt} (x : Statement ts at s next) where
    pub stmt_inside : next ≤ length ts
    stmt_inside = let c = (stmt_closes x).close in omega (arith, before_end ts (plain semi_colon) refl c.passes, c.after)

    pub stmt_ended : before next ≡ suc (before at)
    stmt_ended = let c = stmt_closes x in omega (arith, c.quiet, ended c.close)

    -- so before each of its tokens as many end as before the first
    pub stmt_held : (t : ℕ) → at ≤ t → t < next → before t ≡ before at
    stmt_held t h l =
        let c = stmt_closes x in
        omega (arith, c.quiet, rising ts at t h, rising ts t c.last (omega (arith, c.close.after)))

  -- a program that is read to the last token, which is an `Eof`, has as many as end in it
  pub program_ended : {at next : ℕ} {ss : List Stmt} → Program ts at ss next → suc next ≡ length ts → ends ts ≡ before at + length ss
  program_ended (is_end {at} e) h =
      let last = one eof (omega arith) (record { passes = e; after = refl }) in
      omega (arith, rw (take_all (at + 1) ts (omega arith)) at last)
  program_ended (is_next x p) h = omega (arith, stmt_ended x, program_ended p h)

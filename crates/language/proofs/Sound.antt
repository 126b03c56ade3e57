-- The trees of a program name tokens that are there and of their kinds: each rule of the grammar says so.
use Prim.Native.Nat.{ℕ, ◌+◌, ◌*◌, ◌≤◌, ◌<◌}
use mathlib.Core.Path.{◌≡◌, refl, ◌∙◌}
use mathlib.Core.Bool.{Bool, true, false}
use mathlib.Core.List.{List, []}
use mathlib.Core.Logic.{inl, inr}
use native.Mathlib.Omega.{arith}
use native.Mathlib.Decide.{dec_le}
use borrow.Author.Tests.{eqb-true, leb-true}
use lib.Dec.{eqb, leb}
use lib.ListN.{length, get_or}
use Rattle.language.specs.Choice.{if'}
use Rattle.language.specs.Lexemes.{l_paren, boolean_literal, ipv4_literal, hex_literal, dec_literal}
use Rattle.language.specs.Tokens.{Content, eof, plain, name, string, eof_token, tokens, contents}
use Rattle.language.specs.Tables.{content_kind}
use Rattle.language.specs.Sentences.{Expr, Args, Stmt, port, too_large, port_of, largest_port, is, is_literal}
use Rattle.language.specs.Numbers.{token_of}
use Rattle.language.specs.Grammar.{is_port, PathNames, is_start, is_name_lem, Chain, is_literal_lem, is_address, is_sock4_lem, is_local, is_path, is_member, is_call, Slashed, is_chain, is_slash, Expression, is_expression, Argument, is_given, is_named_lem, Arguments, is_none, is_more, Bracketed, is_closed, is_last, Statement, is_import, is_let, is_expr, Program, is_end, is_next}
use Rattle.language.specs.Sound.{NameStands, AddressStands, PortStands, LiteralStands, a_bool, a_string, a_hex, a_dec, an_address, SoundExpr, SoundArgs, SoundStmt, TreesSound}
use Rattle.language.proofs.Tests.{either}
use Rattle.language.proofs.Each.{Each, of_none, of_one, of_both}
use Rattle.language.proofs.Forms.{of_l_paren, of_boolean, of_ipv4, of_hex, of_dec, ContentOf, of_plain, of_string, content_form, no_string, port_kind}
use Rattle.language.proofs.TokenContents.{as_many}
use Rattle.language.proofs.TokensAt.{mem_at, content_of_lem}
use Rattle.language.proofs.TokenClaims.{name_kind}
use Rattle.language.proofs.SentenceOutcomes.{before_end}
use Rattle.language.proofs.GrammarPlaces.{names_next}
use Rattle.language.proofs.GrammarMet.{is_good, opens, grammar_met}

-- ---- contents by their kinds

l_paren_of : {c : Content} → ContentOf 2 c → c ≡ plain l_paren
l_paren_of (of_plain of_l_paren) = refl

bool_of : {c : Content} → ContentOf 14 c → (b : Bool) × (c ≡ plain (boolean_literal b))
bool_of (of_plain (of_boolean {b})) = (b, refl)

address_of : {c : Content} → ContentOf 15 c → (n : ℕ) × (c ≡ plain (ipv4_literal n))
address_of (of_plain (of_ipv4 {n})) = (n, refl)

string_of : {c : Content} → ContentOf 16 c → (b : List ℕ) × (bs : List (List ℕ)) × (c ≡ string b bs)
string_of (of_plain x) = absurd (no_string x)
string_of (of_string {b} {bs}) = (b, bs, refl)

hex_of : {c : Content} → ContentOf 17 c → (n : ℕ) × (c ≡ plain (hex_literal n))
hex_of (of_plain (of_hex {n})) = (n, refl)

dec_of : {c : Content} → ContentOf 18 c → (n : ℕ) × (c ≡ plain (dec_literal n))
dec_of (of_plain (of_dec {n})) = (n, refl)

-- a port is a decimal that is not too large
port_of_lem : (c : Content) → ContentOf 18 c → is_port (port_of c) ≡ true → (n : ℕ) × (c ≡ plain (dec_literal n)) × (n ≤ largest_port)
port_of_lem c (of_plain (of_dec {n})) e = (n, refl, leb-true n largest_port (fits (leb n largest_port) e))
  where
    fits : (b : Bool) → is_port (if' b port too_large) ≡ true → b ≡ true
    fits true f = refl
    fits false f = f

module _ (ts : List Content) where
  -- ---- tokens that pass a test are there, with a content of that kind

  module _ (t : ℕ) (c : Content) (k : eqb 1 (content_kind c) ≡ false) (e : is ts t c ≡ true) where
    there : t < length ts
    there = before_end ts c k e

    form : ContentOf (content_kind c) (get_or ts t eof)
    form = content_form (get_or ts t eof) (eqb-true _ (content_kind c) e)

  address_stands : {t : ℕ} → is ts t (plain (ipv4_literal 0)) ≡ true → AddressStands ts t
  address_stands e =
      let a = address_of (form _ (plain (ipv4_literal 0)) refl e) in (a.0, (there _ (plain (ipv4_literal 0)) refl e, a.1))

  port_stands : {t : ℕ} → is_port (port_of (get_or ts t eof)) ≡ true → PortStands ts t
  port_stands {t} e =
      let k : is ts t (plain (dec_literal 0)) ≡ true = rw (port_kind (get_or ts t eof) (is_good _ e)) in
      let a = port_of_lem (get_or ts t eof) (form _ (plain (dec_literal 0)) refl k) e in
      (a.0, (there _ (plain (dec_literal 0)) refl k, a.1), a.2)

  literal_stands : {t : ℕ} → is_literal ts t ≡ true → LiteralStands ts t
  literal_stands {t} e =
      elim (either (is ts t (plain (boolean_literal true))) _ e) [
        | inl h ↦ let a = bool_of (form _ (plain (boolean_literal true)) refl h) in a_bool a.0 (there _ (plain (boolean_literal true)) refl h, a.1)
        | inr o ↦ elim (either (is ts t (string [] [])) _ o) [
          | inl h ↦ let a = string_of (form _ (string [] []) refl h) in a_string a.0 a.1 (there _ (string [] []) refl h, a.2)
          | inr p ↦ elim (either (is ts t (plain (hex_literal 0))) _ p) [
            | inl h ↦ let a = hex_of (form _ (plain (hex_literal 0)) refl h) in a_hex a.0 (there _ (plain (hex_literal 0)) refl h, a.1)
            | inr h ↦ let a = dec_of (form _ (plain (dec_literal 0)) refl h) in a_dec a.0 (there _ (plain (dec_literal 0)) refl h, a.1)
          ]
        ]
      ]

  -- ---- trees, where each token of a name's kind is a name

  module _ (name-stands : (t : ℕ) → is ts t (name []) ≡ true → NameStands ts t) where
    names_stand : {mid n next : ℕ} (at : ℕ) → NameStands ts at → mid ≡ at + 1 → PathNames ts mid n next → (j : ℕ) → j ≤ n
        → NameStands ts (at + 2 * j)
    names_stand at f h is_start j l = let e : at + 2 * j ≡ at = omega arith in rw e f
    names_stand at f h (is_name_lem {n = n} {t = t} p a b) j l =
        elim (dec_le j n) [
          | Dec.yes m ↦ names_stand at f h p j m
          | Dec.no m ↦ let last : t ≡ at + 2 * j = omega (arith, names_next ts p, a.after) in name-stands (at + 2 * j) (rw last at b.passes)
        ]

    mutual
      chain_sound : {d at next : ℕ} {e : Expr} → Chain ts d at e next → SoundExpr ts e
      chain_sound (is_literal_lem a) = literal_stands a.passes
      chain_sound (is_address a b) = let h = address_stands a.passes in an_address h.0 h.1
      chain_sound (is_sock4_lem {at = at} {t = t} a b c) =
          let e : t ≡ at + 2 = omega (arith, a.after, b.after) in
          (address_stands a.passes, port_stands (rw e at c.passes))
      chain_sound (is_local {at = at} a b) = name-stands at a.passes
      chain_sound (is_path {at = at} a p m b) = (m, names_stand at (name-stands at a.passes) a.after p)
      chain_sound (is_member {t = t} c a b) = (chain_sound c, name-stands t b.passes)
      chain_sound (is_call c l) =
          (chain_sound c, (there _ (plain l_paren) refl (opens ts l), l_paren_of (form _ (plain l_paren) refl (opens ts l))), list_sound l)

      slashed_sound : {d at next : ℕ} {e : Expr} → Slashed ts d at e next → SoundExpr ts e
      slashed_sound (is_chain c) = chain_sound c
      slashed_sound (is_slash c a r) = (slashed_sound c, chain_sound r)

      expr_sound : {d at next : ℕ} {e : Expr} → Expression ts d at e next → SoundExpr ts e
      expr_sound (is_expression c l) = slashed_sound c

      arg_sound : {d at next : ℕ} {g h : Args} → Argument ts d at g h next → SoundArgs ts g → SoundArgs ts h
      arg_sound (is_given f c) l = (l, expr_sound c)
      arg_sound (is_named_lem {at = at} a b c) l = (l, name-stands at a.passes, expr_sound c)

      args_sound : {d at next : ℕ} {g : Args} → Arguments ts d at g next → SoundArgs ts g
      args_sound is_none = tt
      args_sound (is_more g a b) = arg_sound a (args_sound g)

      list_sound : {d at next : ℕ} {g : Args} → Bracketed ts d at g next → SoundArgs ts g
      list_sound (is_closed a g b) = args_sound g
      list_sound (is_last a g c b) = arg_sound c (args_sound g)

    stmt_sound : {at next : ℕ} {s : Stmt} → Statement ts at s next → SoundStmt ts s
    stmt_sound (is_import {t = t} a b c) = name-stands t b.passes
    stmt_sound (is_let {t = t} a b c x o) = (name-stands t b.passes, expr_sound x)
    stmt_sound (is_expr x o) = expr_sound x

    program_sound : {at next : ℕ} {ss : List Stmt} → Program ts at ss next → Each (SoundStmt ts) ss
    program_sound (is_end e) = of_none
    program_sound (is_next x p) = of_both (of_one (stmt_sound x)) (program_sound p)

-- ---- the tokens of a source

-- a token of a name's kind is a name
source_name : (s : List ℕ) (t : ℕ) → is (contents (tokens s)) t (name []) ≡ true → NameStands (contents (tokens s)) t
source_name s t e =
    let l = before_end (contents (tokens s)) (name []) refl e in
    let k = eqb-true (content_kind (get_or (contents (tokens s)) t eof)) 13 e in
    let m = mem_at (tokens s) t (eof_token s) (omega (arith, as_many (tokens s), l)) in
    let n = name_kind s (token_of s t) m (rw (content_of_lem s t) at k) in
    (n.0, (l, content_of_lem s t ∙ n.1))

pub trees_sound : TreesSound
trees_sound s ss next x e = (program_sound (contents (tokens s)) (source_name s) ((grammar_met (contents (tokens s)) ss next).0 x e)).holds

-- What is found and held stands at tokens that are there, for those of the right kinds, and for parts of the table's text: a finding that shows a name
-- stands at one, a string that is held is one, and a function or module that is shown has a name in the table. A finding stands at a
-- token of the statement whose number it has, and those of a later statement come after those of an earlier one.
use Prim.Native.Nat.{ℕ, zero, suc, ◌+◌, ◌*◌, ◌≤◌, ◌<◌}
use mathlib.Core.Path.{◌≡◌, refl}
use mathlib.Core.Bool.{Bool, true, ◌&&◌}
use mathlib.Core.List.{List, [], ◌∷◌, ◌++◌, Memᴰ}
use mathlib.Core.Option.{Option, none, some}
use native.Mathlib.Omega.{arith}
use native.Mathlib.Decide.{dec_lt}
use lib.Dec.{ltb, leb, eqb}
use lib.ListN.{length}
use Rattle.language.specs.Lexemes.{Tok, l_paren, r_paren, dot, double_colon, colon, semi_colon, equals, comma, slash, import_keyword, let_keyword, identifier, boolean_literal, ipv4_literal, hex_literal, dec_literal, same}
use Rattle.language.specs.Tokens.{Content, eof, plain, name, string}
use Rattle.language.specs.Sentences.{Expr, Args, Stmt, first_of, Out, ok, no, is, program}
use Rattle.language.specs.Grammar.{PathNames, is_start, is_name_lem, Chain, is_literal_lem, is_address, is_sock4_lem, is_local, is_path, is_member, is_call, Slashed, is_chain, is_slash, Expression, is_expression, Argument, is_given, is_named_lem, Arguments, is_none, is_more, Bracketed, is_closed, is_last, Statement, is_import, is_let, is_expr, Program, is_end, is_next}
use Rattle.language.specs.Values.{Value, is_integer, is_bool, is_sized, is_ip4, is_sock4, is_string, is_text, is_function, Ty, ty_void, ty_bool, ty_int, ty_ip4, ty_sock4, ty_bytes, ty_pkt, ty_pkt_gen, ty_time_jump, ty_function, ty_integer, type_of, Entry, entry, table_text, entries, entry_at, entry_name, lookup_from, lookup}
use Rattle.language.specs.Terms.{Atom, constant, slot, Term, atom, called, divided, Terms, no_more, more, term_at, term_type, atom_of, function_of}
use Rattle.language.specs.Judgements.{What, unknown_name, unknown_item, unknown_module, not_imported, not_a_module, not_a_value, already_bound, no_members, operand_type, not_callable, too_many_args, too_few_args, arg_type, void_value, integral_too_large, multiple_imports, discarded_value, truncated, overflow, Diag, is_error, errors_in, Judged, val, err, poisoned, stopped, Judgement, and_then, Known, known, Import, Binding, Deed, lets, emits, waits, evals, discards, deed_of, Held, held, Turn, goes, refuses, Outcome, refused, first_named, find, find_import, compared, most_imports, most_names, content, name_at, tok_value, literal_value, narrowed, used, last_item, inner_item, walk, below, bound_to, called_name, judge, judge_args, imported, import_stmt, bound_as, bound, let_stmt, does, sized, told, stmt, onward, run, judge_all}
use Rattle.language.specs.Numbers.{statements_of, found_by, held_by}
use Rattle.language.specs.Checks.{PartOf, ModuleEntry, FunctionEntry}
use Rattle.language.specs.Told.{PlainTy}
use Rattle.language.specs.Slots.{Reads, ReadsAtom, ReadsAll, Makes, Slotted, none_held, one_held}
use Rattle.language.specs.Numbered.{ends, statement_at}
use Rattle.language.proofs.Tests.{never, both, each_side}
use Rattle.language.proofs.Each.{Each, of_none, of_one, of_both, each_also, Pairs, no_pair, pairs, pairs_both}
use Rattle.language.proofs.SentenceOutcomes.{Every, before_end}
use Rattle.language.proofs.GrammarSound.{found_program}
use Rattle.language.proofs.GrammarPlaces.{names_next, chain_on, slashed_on, expr_on, arg_on, args_on_lem, list_on, chain_first, slashed_first, expr_first}
use Rattle.language.proofs.StatementEnds.{before_most, stmt_inside, stmt_ended, stmt_held}
use Rattle.language.proofs.JudgementClaims.{one_error}
use Rattle.language.proofs.Judging.{If, Sound, Fine, alone, then_fine, AllTerms, Given, Rules, used_fine, narrowed_fine, next_fine, applied_fine, over_fine, membered_fine}
use Rattle.language.proofs.Table.{part, entry_all, gives_plain, takes_plain, params_named}

-- an entry of the table has a name
abbrev pub NamedEntry : ℕ → Type 0
NamedEntry k = PartOf table_text (entry_at k).start (entry_at k).end

-- a type that shows an entry
abbrev pub NamedTy : Ty → Type 0
NamedTy (ty_function k) = FunctionEntry k
NamedTy ty_void = Unit {0}
NamedTy ty_bool = Unit {0}
NamedTy (ty_int t) = Unit {0}
NamedTy ty_ip4 = Unit {0}
NamedTy ty_sock4 = Unit {0}
NamedTy ty_bytes = Unit {0}
NamedTy ty_pkt = Unit {0}
NamedTy ty_pkt_gen = Unit {0}
NamedTy ty_time_jump = Unit {0}
NamedTy ty_integer = Unit {0}

plain_named : (t : Ty) → PlainTy t → NamedTy t
plain_named (ty_function k) h = never (cc)
plain_named ty_void h = tt
plain_named ty_bool h = tt
plain_named (ty_int t) h = tt
plain_named ty_ip4 h = tt
plain_named ty_sock4 h = tt
plain_named ty_bytes h = tt
plain_named ty_pkt h = tt
plain_named ty_pkt_gen h = tt
plain_named ty_time_jump h = tt
plain_named ty_integer h = tt

function_named_lem : (t : Ty) (f : ℕ) → NamedTy t → function_of t ≡ some f → FunctionEntry f
function_named_lem (ty_function k) f h e = let q : k ≡ f = cc in rw q at h
function_named_lem ty_void f h e = never (cc)
function_named_lem ty_bool f h e = never (cc)
function_named_lem (ty_int t) f h e = never (cc)
function_named_lem ty_ip4 f h e = never (cc)
function_named_lem ty_sock4 f h e = never (cc)
function_named_lem ty_bytes f h e = never (cc)
function_named_lem ty_pkt f h e = never (cc)
function_named_lem ty_pkt_gen f h e = never (cc)
function_named_lem ty_time_jump f h e = never (cc)
function_named_lem ty_integer f h e = never (cc)

pub find_each : {A : Type 0} {P : A → Type 0} (name_of : A → List ℕ) (xs : List A) (w : List ℕ) → Each P xs → If P (first_named name_of xs w)
unfolding first_named
find_each name_of [] w h = tt
find_each {P = P} name_of (a ∷ xs) w h =
    each_side (If P) (same (name_of a) w) (h.holds a (Memᴰ.head refl))
    (find_each name_of xs w (record { holds = λ c m. h.holds c (Memᴰ.tail m) }))

-- each of the entries from k on has a name, by a test, so what is looked up has
all_named : List Entry → ℕ → Bool
all_named [] k = true
all_named (e ∷ es) k = (ltb (entry_at k).start (entry_at k).end && leb (entry_at k).end (length table_text)) && all_named es (suc k)

lookup_from_lem : (es : List Entry) (k m : ℕ) (w : List ℕ) → all_named es k ≡ true → If NamedEntry (lookup_from es k m w)
unfolding lookup_from all_named
lookup_from_lem [] k m w h = tt
lookup_from_lem (e ∷ es) k m w h =
    let b = both _ (all_named es (suc k)) h in
    each_side (If NamedEntry) (eqb e.inside m && same (entry_name e) w) (part (entry_at k).start (entry_at k).end b.0)
    (lookup_from_lem es (suc k) m w b.1)

lookup_named : (m : ℕ) (w : List ℕ) → If NamedEntry (lookup m w)
unfolding entries table_text all_named
lookup_named m w = lookup_from_lem entries 1 m w refl

-- what is looked up outside of every module is a module
root_module : (w : List ℕ) → If ModuleEntry (lookup 0 w)
unfolding entries table_text lookup_from
root_module w = each_side (If ModuleEntry) (same (entry_name (entry 0 0 5 none)) w) (record { named = part 0 5 refl; plain = refl }) tt

-- a statement of an expression makes no slot
makes_none : (m : ℕ) (t : Ty) → Makes m (deed_of t) m
makes_none m ty_pkt = refl
makes_none m ty_pkt_gen = refl
makes_none m ty_time_jump = refl
makes_none m ty_void = refl
makes_none m ty_bool = refl
makes_none m (ty_int t) = refl
makes_none m ty_ip4 = refl
makes_none m ty_sock4 = refl
makes_none m ty_bytes = refl
makes_none m (ty_function k) = refl
makes_none m ty_integer = refl

slotted_both : {a b c : ℕ} {hs gs : List Held} → Slotted a hs b → Slotted b gs c → Slotted a (hs ++ gs) c
slotted_both none_held h = h
slotted_both (one_held r m t) h = one_held r m (slotted_both t h)

-- a value that has parts is no function
slot_plain : (v : Term) → atom_of v ≡ none → PlainTy (term_type v)
slot_plain (atom p a) e = never (cc)
slot_plain (called p c f vs) e = gives_plain f
slot_plain (divided p a b) e = refl

-- ---- the order of findings

-- numbers do not fall, and of two errors they are not the same
pub record Follows (d e : Diag) : Type 0 where
  pub rises : d.statement ≤ e.statement
  pub one : d.statement ≡ e.statement → is_error d.what ≡ true → is_error e.what ≡ true → ⊥

counted_error : {d : Diag} {ds : List Diag} → Memᴰ d ds → is_error d.what ≡ true → 1 ≤ errors_in ds
unfolding errors_in
counted_error (Memᴰ.head q) p = rw (← q, p) (omega arith)
counted_error (Memᴰ.tail m) p = omega (arith, counted_error m p)

-- the findings of one statement, with one error at the most
one_statement : (n : ℕ) (ds : List Diag) → Each (λ d. d.statement ≡ n) ds → errors_in ds ≤ 1 → Pairs Follows ds
unfolding errors_in
one_statement n [] h l = no_pair
one_statement n (d ∷ ds) h l = pairs first (one_statement n ds rest (omega arith))
  where
    rest : Each (λ e. e.statement ≡ n) ds
    rest = record { holds = λ e m. h.holds e (Memᴰ.tail m) }

    first : Each (Follows d) ds
    first =
        let own = h.holds d (Memᴰ.head refl) in
        record {
          holds = λ e m.
              record {
                rises = omega (arith, own, rest.holds e m);
                one = λ _ p q. omega (arith, counted_error m q, rw p at l);
              };
        }

module _ (ts : List Content) where
  -- the kinds that show a name ask for one where they stand, those that show an entry of the table for its name
  abbrev pub Shown : What → ℕ → Type 0
  Shown unknown_name at = is ts at (name []) ≡ true
  Shown (unknown_item m) at = (is ts at (name []) ≡ true) × ModuleEntry m
  Shown unknown_module at = is ts at (name []) ≡ true
  Shown not_imported at = is ts at (name []) ≡ true
  Shown not_a_module at = is ts at (name []) ≡ true
  Shown not_a_value at = is ts at (name []) ≡ true
  Shown (already_bound t) at = (is ts at (name []) ≡ true) × (is ts t (name []) ≡ true)
  Shown multiple_imports at = is ts at (name []) ≡ true
  Shown (no_members t) at = NamedTy t
  Shown (operand_type s t u) at = PlainTy t × NamedTy u
  Shown (not_callable t) at = NamedTy t
  Shown (too_many_args f a b) at = FunctionEntry f
  Shown (too_few_args f a b) at = FunctionEntry f
  Shown (arg_type f i t u) at = FunctionEntry f × (i < length (entry_at f).params) × PlainTy t × NamedTy u
  Shown void_value at = Unit {0}
  Shown integral_too_large at = Unit {0}
  Shown (discarded_value t) at = NamedTy t
  Shown (truncated n t) at = NamedTy t
  Shown (overflow t u) at = NamedTy t × PlainTy u

  pub name_there : {at : ℕ} → is ts at (name []) ≡ true → at < length ts
  name_there e = before_end ts (name []) refl e

  -- a string is that of a string's token, bytes of the table are a part of its text, and a function has a name
  abbrev pub Right : Value → Type 0
  Right (is_string t) = (b : List ℕ) × (bs : List (List ℕ)) × (content ts t ≡ string b bs)
  Right (is_integer n) = Unit {0}
  Right (is_bool b) = Unit {0}
  Right (is_sized t n) = Unit {0}
  Right (is_ip4 n) = Unit {0}
  Right (is_sock4 n p) = Unit {0}
  Right (is_text a b) = PartOf table_text a b
  Right (is_function k) = FunctionEntry k

  -- ---- values

  type_named : (v : Value) → Right v → NamedTy (type_of v)
  type_named (is_integer n) h = tt
  type_named (is_bool b) h = tt
  type_named (is_sized t n) h = tt
  type_named (is_ip4 n) h = tt
  type_named (is_sock4 n p) h = tt
  type_named (is_string t) h = tt
  type_named (is_text a b) h = tt
  type_named (is_function k) h = h

  tok_right : (k : Tok) → Right (tok_value k)
  tok_right (boolean_literal b) = tt
  tok_right (ipv4_literal n) = tt
  tok_right (hex_literal n) = tt
  tok_right (dec_literal n) = tt
  tok_right l_paren = tt
  tok_right r_paren = tt
  tok_right dot = tt
  tok_right double_colon = tt
  tok_right colon = tt
  tok_right semi_colon = tt
  tok_right equals = tt
  tok_right comma = tt
  tok_right slash = tt
  tok_right import_keyword = tt
  tok_right let_keyword = tt
  tok_right identifier = tt

  literal_right : (t : ℕ) (c : Content) → content ts t ≡ c → Right (literal_value t c)
  literal_right t (string b bs) e = (b, bs, e)
  literal_right t (plain k) e = tok_right k
  literal_right t (name bs) e = tt
  literal_right t eof e = tt

  -- the constant table holds no string of the source, and its bytes are a part of its text
  entry_right : (k : ℕ) → If Right (entry_at k).value
  unfolding entries table_text
  entry_right k =
      entry_all (λ e. If Right e.value) tt (
        tt,
        (
          tt,
          (
            tt,
            (
              tt,
              (
                tt,
                (
                  part 24 26 refl,
                  (
                    function 7 26 30 refl refl refl refl,
                    (
                      tt,
                      (
                        tt,
                        (
                          function 10 38 43 refl refl refl refl,
                          (
                            function 11 47 52 refl refl refl refl,
                            (
                              function 12 58 62 refl refl refl refl,
                              (
                                function 13 64 68 refl refl refl refl,
                                (function 14 72 76 refl refl refl refl, tt),
                              ),
                            ),
                          ),
                        ),
                      ),
                    ),
                  ),
                ),
              ),
            ),
          ),
        ),
      ) k
    where
      function : (j a b : ℕ) → (entry_at j).start ≡ a → (entry_at j).end ≡ b → ltb a b && leb b (length table_text) ≡ true
          → (entry_at j).value ≡ some (is_function j) → FunctionEntry j
      function j a b x y h e = record { named = rw (x, y) (part a b h); itself = e; params = λ p m. (params_named j).holds p m }

  -- ---- expressions, whose places are such tokens, and which read the first m slots

  abbrev pub GoodAtom : ℕ → Atom → Type 0
  GoodAtom m (constant v) = Right v
  GoodAtom m (slot s t) = (s < m) × PlainTy t

  module _ (In : ℕ → Type 0) (m : ℕ) where
    abbrev mutual
      pub Good : Term → Type 0
      Good (atom p a) = In p × GoodAtom m a
      Good (called p c f vs) = In p × Good c × FunctionEntry f × GoodAll vs
      Good (divided p a b) = In p × Good a × Good b

      pub GoodAll : Terms → Type 0
      GoodAll no_more = Unit {0}
      GoodAll (more v vs) = Good v × GoodAll vs

    pub good_at : (v : Term) → Good v → In (term_at v)
    good_at (atom p a) h = h.0
    good_at (called p c f vs) h = h.0
    good_at (divided p a b) h = h.0

    good_all : (vs : Terms) → AllTerms Good vs → GoodAll vs
    good_all no_more h = tt
    good_all (more v vs) h = (h.0, good_all vs h.1)

    good_type : (v : Term) → Good v → NamedTy (term_type v)
    good_type (atom p (constant v)) h = type_named v h.1
    good_type (atom p (slot s t)) h = plain_named t h.1.1
    good_type (called p c f vs) h = plain_named (entry_at f).gives (gives_plain f)
    good_type (divided p a b) h = tt

    reads_atom : (a : Atom) → GoodAtom m a → ReadsAtom m a
    reads_atom (constant v) h = tt
    reads_atom (slot s t) h = h.0

    mutual
      good_reads : (v : Term) → Good v → Reads m v
      good_reads (atom p a) h = reads_atom a h.1
      good_reads (called p c f vs) h = (good_reads c h.1, all_read vs h.3)
      good_reads (divided p a b) h = (good_reads a h.1, good_reads b h.2)

      all_read : (vs : Terms) → GoodAll vs → ReadsAll m vs
      all_read no_more h = tt
      all_read (more v vs) h = (good_reads v h.0, all_read vs h.1)

    good_atom : (v : Term) (a : Atom) → Good v → atom_of v ≡ some a → GoodAtom m a
    good_atom (atom p b) a h e = let q : b ≡ a = cc in rw q at h.1
    good_atom (called p c f vs) a h e = never (cc)
    good_atom (divided p b c) a h e = never (cc)

  -- with one slot more
  atom_more : (m : ℕ) (a : Atom) → GoodAtom m a → GoodAtom (suc m) a
  atom_more m (constant v) h = h
  atom_more m (slot s t) h = (omega (arith, h.0), h.1)

  -- at more tokens
  module _ (In On : ℕ → Type 0) (m : ℕ) (on : (t : ℕ) → In t → On t) where
    mutual
      good_on : (v : Term) → Good In m v → Good On m v
      good_on (atom p a) h = (on p h.0, h.1)
      good_on (called p c f vs) h = (on p h.0, good_on c h.1, h.2, all_on vs h.3)
      good_on (divided p a b) h = (on p h.0, good_on a h.1, good_on b h.2)

      all_on : (vs : Terms) → GoodAll In m vs → GoodAll On m vs
      all_on no_more h = tt
      all_on (more v vs) h = (good_on v h.0, all_on vs h.1)

  -- ---- what is known

  abbrev Bound : ℕ → Binding → Type 0
  Bound m b = If (GoodAtom m) b.value × (is ts b.tok (name []) ≡ true)

  abbrev Found : Import → Type 0
  Found i = If ModuleEntry i.found

  -- values are right and bound to names, and modules are modules
  record Sure (k : Known) : Type 0 where
    values : Each (Bound k.slots) k.bindings
    modules : Each Found k.imports

  -- ---- what the statement numbered n finds, whose tokens are those from one to before another

  module _ (n from to : ℕ) where
    abbrev In : ℕ → Type 0
    In t = (from ≤ t) × (t < to)

    abbrev NameIn : ℕ → Type 0
    NameIn t = (is ts t (name []) ≡ true) × In t

    abbrev ShownIn : What → ℕ → Type 0
    ShownIn w at = Shown w at × In at

    abbrev Stands : Diag → Type 0
    Stands d = ShownIn d.what d.at × (d.statement ≡ n)

    abbrev Wrong : ℕ → What → Type 0
    Wrong at w = ShownIn w at

    abbrev Sounds : ℕ → Judged Term → Type 0
    Sounds m o = Sound Wrong In Stands (Good In m) o

    abbrev Fines : ℕ → Judgement Term → Type 0
    Fines m j = Fine Wrong In Stands (Good In m) j

    just : {A : Type 0} {P : A → Type 0} {o : Judged A} {ls : List ℕ} → Sound Wrong In Stands P o
        → Fine Wrong In Stands P (record { out = o; warns = []; looks = ls })
    just h = alone Wrong In Stands h

    rules : (m : ℕ) → Rules n In (Good In m) Wrong Stands FunctionEntry
    rules m =
        record {
          place = good_at In m;
          sized = λ p t i h. (h, tt);
          bool = λ p b h. (h, tt);
          sock = λ p i j h. (h, tt);
          called = λ p c f vs h i j k. (h, i, j, good_all In m vs k);
          divided = λ p a b h i j. (h, i, j);
          function = λ c f h e. function_named_lem (term_type c) f (good_type In m c h) e;
          cut = λ p t i h. ((tt, h), refl);
          wide = λ p v t h i. (((good_type In m v i, refl), h), refl);
          void = λ p h. (tt, h);
          large = λ p h. (tt, h);
          many = λ p f a b h i. (i, h);
          few = λ p f a b h i. (i, h);
          argument = λ p f i v h j k l. ((j, k, takes_plain f i, good_type In m v l), h);
          no_function = λ p v h i. (good_type In m v i, h);
          no_members_lem = λ p v h i. (good_type In m v i, h);
          left_type = λ p v h i. ((refl, good_type In m v i), h);
          right_type = λ p v h i. ((refl, good_type In m v i), h);
        }

    bound_sound : (m t : ℕ) (o : Option Binding) → NameIn t → If (Bound m) o → Sounds m (bound_to ts t o)
    bound_sound m t none a h = a
    bound_sound m t (some b) a h = by b.value h.0
      where
        by : (o : Option Atom) → If (GoodAtom m) o → Sounds m (elim o [ some x ↦ val (atom t x) | none ↦ poisoned ])
        by (some x) r = (a.1, r)
        by none r = tt

    -- ---- paths

    -- the names after the one at t, m of them
    abbrev Names : ℕ → ℕ → Type 0
    Names t m = (j : ℕ) → j < m → NameIn (t + 2 * suc j)

    names_at : {mid m next : ℕ} (at : ℕ) → mid ≡ at + 1 → from ≤ at → next ≤ to → PathNames ts mid m next → Names at m
    names_at at h f g is_start j l = absurd (omega arith)
    names_at at h f g (is_name_lem {n = m} {t = t} p a b) j l =
        elim (dec_lt j m) [
          | Dec.yes k ↦ names_at at h f (omega (arith, a.after, b.after)) p j k
          | Dec.no k ↦
              let last : t ≡ at + 2 * suc j = omega (arith, names_next ts p, a.after) in
              (rw last at b.passes, omega (arith, b.after))
        ]

    module _ (b p : ℕ) (first : In p) where
      last_sound : (t : ℕ) (o : Option Value) → NameIn t → If Right o → Sounds b (last_item ts p t o)
      last_sound t (some v) a h = (first, h)
      last_sound t none a h = a

      inner_sound : (t : ℕ) (o : Option Value) (j : Judged Term) → NameIn t → (o ≡ none → Sounds b j) → Sounds b (inner_item ts t o j)
      inner_sound t (some v) j a h = a
      inner_sound t none j a h = h refl

      walk_sound : (i m t : ℕ) → Names t i → ModuleEntry m → Sounds b (walk ts p i m t)
      unfolding walk
      walk_sound zero m t h e = tt
      walk_sound (suc zero) m t h e =
          elim (lookup m (name_at ts (t + 2)))
          as (λ o. Sounds b (elim o [ none ↦ err (t + 2) (unknown_item m) | some k ↦ last_item ts p (t + 2) (entry_at k).value ])) [
            | none ↦ let a = h 0 (omega arith) in ((a.0, e), a.1)
            | some k ↦ last_sound (t + 2) (entry_at k).value (h 0 (omega arith)) (entry_right k)
          ]
      walk_sound (suc (suc i)) m t h e =
          go (lookup m (name_at ts (t + 2))) (lookup_named m (name_at ts (t + 2))) (λ k. walk_sound (suc i) k (t + 2) (λ j l.
          let on : t + 2 * suc (suc j) ≡ t + 2 + 2 * suc j = omega arith in rw on at (h (suc j) (omega arith))))
        where
          go : (o : Option ℕ) → If NamedEntry o → ((k : ℕ) → ModuleEntry k → Sounds b (walk ts p (suc i) k (t + 2)))
              → Sounds b (elim o [
                | none ↦ err (t + 2) (unknown_item m)
                | some k ↦ inner_item ts (t + 2) (entry_at k).value (walk ts p (suc i) k (t + 2))
              ])
          go none l f = let a = h 0 (omega arith) in ((a.0, e), a.1)
          go (some k) l f = inner_sound (t + 2) (entry_at k).value (walk ts p (suc i) k (t + 2)) (h 0 (omega arith)) (λ p. f k (record { named = l; plain = p }))

    below_sound : (b t m : ℕ) (o : Option Import) → NameIn t → Names t m → If Found o → Sounds b (below ts t m o)
    below_sound b t m none a h f = a
    below_sound b t m (some i) a h f = go i.found f
      where
        go : (o : Option ℕ) → If ModuleEntry o → Sounds b (elim o [ none ↦ poisoned | some j ↦ walk ts t m j t ])
        go none l = tt
        go (some j) l = walk_sound b t a.1 m j t h l

    -- ---- expressions

    chain_in : {d at next : ℕ} {e : Expr} → Chain ts d at e next → from ≤ at → next ≤ to → In (first_of e)
    chain_in c f g = rw (chain_first ts c) (omega (arith, chain_on ts c))

    slashed_in : {d at next : ℕ} {e : Expr} → Slashed ts d at e next → from ≤ at → next ≤ to → In (first_of e)
    slashed_in c f g = rw (slashed_first ts c) (omega (arith, slashed_on ts c))

    expr_in_lem : {d at next : ℕ} {e : Expr} → Expression ts d at e next → from ≤ at → next ≤ to → In (first_of e)
    expr_in_lem (is_expression c l) f g = slashed_in c f g

    called_in : {d at next : ℕ} {e : Expr} → Chain ts d at e next → from ≤ at → next ≤ to → In (called_name e)
    called_in (is_literal_lem a) f g = omega (arith, a.after)
    called_in (is_address a b) f g = omega (arith, a.after)
    called_in (is_sock4_lem a b c) f g = omega (arith, a.after, b.after, c.after)
    called_in (is_local a b) f g = omega (arith, a.after)
    called_in (is_path a p l b) f g = omega (arith, a.after, names_next ts p)
    called_in (is_member c a b) f g = omega (arith, chain_on ts c, a.after, b.after)
    called_in (is_call {mid = mid} c l) f g = chain_in c f (omega (arith, list_on ts l))

    module _ (k : Known) (sure : Sure k) where
      abbrev Args_fine : Args → Type 0
      Args_fine g = Fine Wrong In Stands (Each (Given In (Good In k.slots))) (judge_args ts n k g)

      mutual
        unfolding judge judge_args

        chain_fine : {d at next : ℕ} {e : Expr} → Chain ts d at e next → from ≤ at → next ≤ to → Fines k.slots (judge ts n k e)
        chain_fine (is_literal_lem {at = at} a) f g = just (omega (arith, a.after), literal_right at (content ts at) refl)
        chain_fine (is_address {at = at} a b) f g = just (omega (arith, a.after), literal_right at (content ts at) refl)
        chain_fine (is_sock4_lem a b c) f g = just (omega (arith, a.after, b.after, c.after), tt)
        chain_fine (is_local {at = at} a b) f g =
            just (bound_sound k.slots at (find k.bindings (name_at ts at)) (a.passes, omega (arith, a.after))
            (find_each _ k.bindings (name_at ts at) sure.values))
        chain_fine (is_path {at = at} {n = m} a p l b) f g =
            just (below_sound k.slots at m (find_import k.imports (name_at ts at)) (a.passes, omega (arith, a.after, names_next ts p))
            (names_at at a.after f g p) (find_each _ k.imports (name_at ts at) sure.modules))
        chain_fine (is_member {mid = mid} {t = t} {e = e} c a b) f g =
            let i : mid ≤ to = omega (arith, a.after, b.after) in
            let j : In t = omega (arith, chain_on ts c, a.after, b.after) in
            then_fine Wrong In Stands (judge ts n k e) _ (chain_fine c f i) (λ v h. membered_fine (rules k.slots) t v j h)
        chain_fine (is_call {mid = mid} {e = e} {g = gs} c l) f g =
            let i : mid ≤ to = omega (arith, list_on ts l) in
            let j : In mid = omega (arith, chain_on ts c, list_on ts l) in
            then_fine Wrong In Stands (judge ts n k e) _ (chain_fine c f i) (λ v h.
            applied_fine (rules k.slots) (called_name e) mid gs (judge_args ts n k gs) v (called_in c f i) j
            (λ _. list_fine l (omega (arith, chain_on ts c)) g) h)

        slashed_fine : {d at next : ℕ} {e : Expr} → Slashed ts d at e next → from ≤ at → next ≤ to → Fines k.slots (judge ts n k e)
        slashed_fine (is_chain c) f g = chain_fine c f g
        slashed_fine (is_slash {mid = mid} {t} {e = e} {r} c a q) f g =
            let i : mid ≤ to = omega (arith, a.after, chain_on ts q) in
            let j : from ≤ t = omega (arith, a.after, slashed_on ts c) in
            then_fine Wrong In Stands (judge ts n k e) _ (slashed_fine c f i) (λ v h.
            over_fine (rules k.slots) (first_of e) (first_of r) (judge ts n k r) v (slashed_in c f i) (chain_in q j g) (chain_fine q j g) h)

        expr_fine : {d at next : ℕ} {e : Expr} → Expression ts d at e next → from ≤ at → next ≤ to → Fines k.slots (judge ts n k e)
        expr_fine (is_expression c l) f g = slashed_fine c f g

        arg_fine : {d at next : ℕ} {g h : Args} → Argument ts d at g h next → from ≤ at → next ≤ to → Args_fine g → Args_fine h
        arg_fine (is_given {g = gs} {e} o x) f g h =
            then_fine Wrong In Stands (judge_args ts n k gs) _ h (λ vs y.
            next_fine (rules k.slots) (first_of e) (judge ts n k e) vs (expr_in_lem x f g) (expr_fine x f g) y)
        arg_fine (is_named_lem {t = t} {g = gs} {e} a b x) f g h =
            let i : from ≤ t = omega (arith, a.after, b.after) in
            then_fine Wrong In Stands (judge_args ts n k gs) _ h (λ vs y.
            next_fine (rules k.slots) (first_of e) (judge ts n k e) vs (expr_in_lem x i g) (expr_fine x i g) y)

        args_fine : {d at next : ℕ} {g : Args} → Arguments ts d at g next → from ≤ at → next ≤ to → Args_fine g
        args_fine is_none f g = record { out = of_none; warns = of_none }
        args_fine (is_more x a b) f g =
            arg_fine a (omega (arith, args_on_lem ts x)) (omega (arith, b.after)) (args_fine x f (omega (arith, arg_on ts a, b.after)))

        list_fine : {d at next : ℕ} {g : Args} → Bracketed ts d at g next → from ≤ at → next ≤ to → Args_fine g
        list_fine (is_closed a x b) f g = args_fine x (omega (arith, a.after)) (omega (arith, b.after))
        list_fine (is_last a x y b) f g =
            arg_fine y (omega (arith, a.after, args_on_lem ts x)) (omega (arith, b.after))
            (args_fine x (omega (arith, a.after)) (omega (arith, arg_on ts y, b.after)))

      value_fine : {d at next : ℕ} {e : Expr} → Expression ts d at e next → from ≤ at → next ≤ to
          → Fines k.slots (and_then (judge ts n k e) used)
      value_fine {e = e} x f g =
          then_fine Wrong In Stands (judge ts n k e) _ (expr_fine x f g) (λ v h. used_fine (rules k.slots) v h)

    -- ---- statements

    abbrev Holds : ℕ → Held → Type 0
    Holds m h = Good In m h.term × In h.at

    -- there were m slots before
    abbrev Turned : ℕ → Turn → Type 0
    Turned m (goes k ds hs ls) = Sure k × Each Stands ds × Each (Holds m) hs × Slotted m hs k.slots
    Turned m (refuses i t) = In t

    module _ (k : Known) (sure : Sure k) where
      -- with a value or a module more
      more_values : (b : Binding) → Bound k.slots b → Sure (known k.imports (k.bindings ++ b ∷ []) k.slots)
      more_values b h = record { values = of_both sure.values (of_one h); modules = sure.modules }

      more_slots : (b : Binding) → Bound (suc k.slots) b → Sure (known k.imports (k.bindings ++ b ∷ []) (suc k.slots))
      more_slots b h =
          record { values = of_both (each_also sure.values (λ c i. (by c.value i.0, i.1))) (of_one h); modules = sure.modules }
        where
          by : (o : Option Atom) → If (GoodAtom k.slots) o → If (GoodAtom (suc k.slots)) o
          by (some a) i = atom_more k.slots a i
          by none i = tt

      more_modules : (i : Import) → Found i → Sure (known (k.imports ++ i ∷ []) k.bindings k.slots)
      more_modules i h = record { values = sure.values; modules = of_both sure.modules (of_one h) }

      imported_turned : (t : ℕ) (o : Option ℕ) → NameIn t → If ModuleEntry o → Turned k.slots (imported ts n k t o)
      imported_turned t (some m) a l = (more_modules _ l, of_none, of_none, none_held)
      imported_turned t none a l = (more_modules _ tt, of_one (a, refl), of_none, none_held)

      import_turned : (t : ℕ) (o : Option Import) → NameIn t → Turned k.slots (import_stmt ts n k t o)
      import_turned t (some i) a = (sure, of_one (a, refl), of_none, none_held)
      import_turned t none a =
          each_side (Turned k.slots) (ltb (length k.imports) most_imports)
          (imported_turned t (lookup 0 (name_at ts t)) a (root_module (name_at ts t))) a.1

      as_turned : (t : ℕ) (v : Term) (o : Option Atom) (ws : List Diag) (ls : List ℕ) → NameIn t → Good In k.slots v → atom_of v ≡ o
          → Each Stands ws → Turned k.slots (bound_as ts n k t v o ws ls)
      as_turned t v (some x) ws ls a h e l = (more_values _ (good_atom In k.slots v x h e, a.0), l, of_none, none_held)
      as_turned t v none ws ls a h e l = (
        more_slots _ ((omega arith, slot_plain v e), a.0),
        l,
        of_one (h, a.1),
        one_held {h = held t (lets k.slots) v} (good_reads In k.slots v h) (refl, refl) none_held,
      )

      bound_turned : (t : ℕ) (o : Judged Term) (ws : List Diag) (ls : List ℕ) → NameIn t → Sounds k.slots o → Each Stands ws
          → Turned k.slots (bound ts n k t o ws ls)
      bound_turned t (val v) ws ls a h l = as_turned t v (atom_of v) ws ls a h refl l
      bound_turned t (err at w) ws ls a h l = (more_values _ (tt, a.0), of_both l (of_one (h, refl)), of_none, none_held)
      bound_turned t poisoned ws ls a h l = (more_values _ (tt, a.0), l, of_none, none_held)
      bound_turned t (stopped p) ws ls a h l = h

      let_turned : (t : ℕ) (e : Expr) (l : ℕ) (o : Option Binding) → NameIn t → If (Bound k.slots) o
          → Fines k.slots (and_then (judge ts n k e) used) → Turned k.slots (let_stmt ts n k t e l o)
      let_turned t e l (some b) a h f = (sure, of_one (((a.0, h.1), a.1), refl), of_none, none_held)
      let_turned t e l none a h f =
          let j = and_then (judge ts n k e) used in
          each_side (Turned k.slots) (ltb (length k.bindings) most_names)
          (bound_turned t j.out j.warns (l ∷ j.looks) a f.out f.warns) a.1

      does_turned : (at : ℕ) (v : Term) (d : Deed) (ws : List Diag) (ls : List ℕ) → In at → Good In k.slots v → Each Stands ws
          → Makes k.slots d k.slots → Turned k.slots (does ts n k at v d ws ls)
      does_turned at v discards ws ls a h l m =
          (sure, of_both l (of_one ((good_type In k.slots v h, a), refl)), of_one (h, a), one_held (good_reads In k.slots v h) m none_held)
      does_turned at v (lets i) ws ls a h l m =
          (sure, of_both l of_none, of_one (h, a), one_held (good_reads In k.slots v h) m none_held)
      does_turned at v emits ws ls a h l m =
          (sure, of_both l of_none, of_one (h, a), one_held (good_reads In k.slots v h) m none_held)
      does_turned at v waits ws ls a h l m =
          (sure, of_both l of_none, of_one (h, a), one_held (good_reads In k.slots v h) m none_held)
      does_turned at v evals ws ls a h l m =
          (sure, of_both l of_none, of_one (h, a), one_held (good_reads In k.slots v h) m none_held)

      sized_turned : (at : ℕ) (o : Option Term) (ws : List Diag) (ls : List ℕ) → In at → If (Good In k.slots) o → Each Stands ws
          → Turned k.slots (sized ts n k at o ws ls)
      sized_turned at (some v) ws ls a h l = does_turned at v (deed_of (term_type v)) ws ls a h l (makes_none k.slots (term_type v))
      sized_turned at none ws ls a h l = (sure, of_both l (of_one ((tt, a), refl)), of_none, none_held)

      told_turned : (at : ℕ) (o : Judged Term) (ws : List Diag) (ls : List ℕ) → In at → Sounds k.slots o → Each Stands ws
          → Turned k.slots (told ts n k at o ws ls)
      told_turned at (val v) ws ls a h l = sized_turned at (narrowed v) ws ls a (narrowed_fine (rules k.slots) v h) l
      told_turned at (err p w) ws ls a h l = (sure, of_both l (of_one (h, refl)), of_none, none_held)
      told_turned at poisoned ws ls a h l = (sure, l, of_none, none_held)
      told_turned at (stopped p) ws ls a h l = h

      stmt_turned : {s : Stmt} → Statement ts from s to → Turned k.slots (stmt ts n k s)
      unfolding stmt
      stmt_turned (is_import {t = t} a b c) =
          import_turned t (find_import k.imports (name_at ts t)) (b.passes, omega (arith, a.after, b.after, c.after))
      stmt_turned (is_let {t = t} {e = e} a b c x o) =
          let i = expr_on ts x in
          let_turned t e (compared k.bindings (name_at ts t)) (find k.bindings (name_at ts t)) (b.passes, omega (arith, a.after, b.after, c.after, i, o.after))
          (find_each _ k.bindings (name_at ts t) sure.values)
          (value_fine k sure x (omega (arith, a.after, b.after, c.after)) (omega (arith, o.after)))
      stmt_turned (is_expr {mid = mid} {e = e} x o) =
          let i : mid ≤ to = omega (arith, o.after) in
          let f = expr_fine k sure x (omega arith) i in
          let a : In (first_of e) = rw (expr_first ts x) (omega (arith, expr_on ts x)) in
          told_turned (first_of e) (judge ts n k e).out (judge ts n k e).warns (judge ts n k e).looks a f.out f.warns

  -- ---- the run

  -- a finding stands at a token, which the statement that it names holds
  pub record Placed (d : Diag) : Type 0 where
    pub shown : Shown d.what d.at
    pub there : d.at < length ts
    pub own : d.statement ≡ statement_at ts d.at
    pub most : d.statement ≤ ends ts

  abbrev pub There : ℕ → Type 0
  There t = t < length ts

  pub record Kept (h : Held) : Type 0 where
    pub slots : ℕ
    pub right : Good There slots h.term
    pub there : h.at < length ts

  -- what was found and held before the statement numbered n, with m slots
  record Gathered (n m : ℕ) (ds : List Diag) (hs : List Held) : Type 0 where
    found : Each Placed ds
    earlier : Each (λ d. d.statement < n) ds
    order : Pairs Follows ds
    kept : Each Kept hs
    slots : Slotted 0 hs m

  pub record Grounded (o : Outcome) : Type 0 where
    pub found : Each Placed (found_by o)
    pub order : Pairs Follows (found_by o)
    pub kept : Each Kept (held_by o)
    pub slots : (m : ℕ) × Slotted 0 (held_by o) m
    pub stopped : (m t : ℕ) → o ≡ refused m t → t < length ts

  -- one statement, which is the one that its number says
  module _ {at next : ℕ} {s : Stmt} (x : Statement ts at s next) (n : ℕ) (numbered : n ≡ statement_at ts at) where
    placed : (d : Diag) → Stands n at next d → Placed d
    placed d h =
        let i = h.0.1 in
        record {
          shown = h.0.0;
          there = omega (arith, stmt_inside ts x);
          own = omega (arith, h.1, stmt_held ts x d.at i.0 i.1);
          most = omega (arith, h.1, stmt_ended ts x, before_most ts next);
        }

    held_there : (m : ℕ) (g : Held) → Holds n at next m g → Kept g
    held_there m g h =
        record {
          slots = m;
          right = good_on (In n at next) There m (λ t i. omega (arith, i.1, stmt_inside ts x)) g.term h.0;
          there = omega (arith, h.1.1, stmt_inside ts x);
        }

    -- its findings come after those before
    after : (d : Diag) → d.statement < n → (es : List Diag) → Each (Stands n at next) es → Each (Follows d) es
    after d l es h = each_also h (λ e i. record { rises = omega (arith, i.1); one = λ q. absurd (omega (arith, i.1)) })

    gathered : {m i : ℕ} {ds es : List Diag} {hs gs : List Held} → Gathered n m ds hs → Each (Stands n at next) es → errors_in es ≤ 1
        → Each (Holds n at next m) gs → Slotted m gs i → Gathered (suc n) i (ds ++ es) (hs ++ gs)
    gathered {m} {i} {ds} {es} a h l g z =
        record {
          found = of_both a.found (each_also h placed);
          earlier = of_both (each_also a.earlier (λ d i. omega arith)) (each_also h (λ d i. omega (arith, i.1)));
          order = pairs_both a.order (one_statement n es (each_also h (λ d i. i.1)) l)
              (each_also a.earlier (λ d i. after d i es h));
          kept = of_both a.kept (each_also g (held_there m));
          slots = slotted_both a.slots z;
        }

    onward_grounded : (m : ℕ) (t : Turn) (ds : List Diag) (hs : List Held) (ls : List ℕ) (f : Known → List Diag → List Held → List ℕ → Outcome) → Turned n at next m t
        → ((k : Known) (es : List Diag) (gs : List Held) (ms : List ℕ) → t ≡ goes k es gs ms → errors_in es ≤ 1) → Gathered n m ds hs
        → ((k : Known) (es : List Diag) (gs : List Held) (ms : List ℕ) → Sure k → Gathered (suc n) k.slots es gs → Grounded (f k es gs ms))
        → Grounded (onward ts t ds hs ls f)
    onward_grounded b (refuses m t) ds hs ls f h l a g =
        let i : t < length ts = omega (arith, h.1, stmt_inside ts x) in
        record { found = of_none; order = no_pair; kept = of_none; slots = (0, none_held); stopped = λ j u e. let z : t ≡ u = cc in rw z at i }
    onward_grounded b (goes k es gs ms) ds hs ls f h l a g =
        g k (ds ++ es) (hs ++ gs) (ls ++ ms) h.0 (gathered a h.1 (l k es gs ms refl) h.2 h.3)

  run_grounded : {at next : ℕ} {ss : List Stmt} → Program ts at ss next → (n : ℕ) (k : Known) (ds : List Diag) (hs : List Held) (ls : List ℕ)
      → n ≡ statement_at ts at → Sure k → Gathered n k.slots ds hs → Grounded (run ts ss n k ds hs ls)
  unfolding run
  run_grounded (is_end e) n k ds hs ls i sure a =
      record { found = a.found; order = a.order; kept = a.kept; slots = (k.slots, a.slots); stopped = λ m t f. never (cc) }
  run_grounded (is_next {at} {mid} {s = s} x p) n k ds hs ls i sure a =
      onward_grounded x n i k.slots (stmt ts n k s) ds hs ls _ (stmt_turned n at mid k sure x) (λ k' es gs ms. one_error ts n k k' s es gs ms) a
      (λ k' es gs ms c d. run_grounded p _ k' es gs ms (omega (arith, stmt_ended ts x)) c d)

  -- whatever the contents are, and if they are no program nothing is found
  parsed_grounded : (o : Out (List Stmt)) → Every (λ ss next x. Program ts 0 ss next) o → Grounded (judge_all ts (statements_of o))
  unfolding run ends
  parsed_grounded (ok ss at x) h =
      run_grounded h.holds 1 (known [] [] 0) [] [] [] refl (record { values = of_none; modules = of_none })
      (record { found = of_none; earlier = of_none; order = no_pair; kept = of_none; slots = none_held })
  parsed_grounded (no n m at) h = record { found = of_none; order = no_pair; kept = of_none; slots = (0, none_held); stopped = λ i t e. never (cc) }

  pub outcome_grounded : Grounded (judge_all ts (statements_of (program ts)))
  outcome_grounded = parsed_grounded (program ts) (found_program ts)

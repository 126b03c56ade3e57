-- Statements are refused at a name exactly when it is the first that is one too many.
use Prim.Native.Nat.{ℕ, suc, ◌<◌}
use mathlib.Core.Path.{◌≡◌, refl, sym, ap, ◌∙◌}
use mathlib.Core.Bool.{Bool, true, false, ◌||◌}
use mathlib.Core.List.{List, [], ◌∷◌, ◌++◌, map, append_assoc, append-nil}
use mathlib.Core.Option.{Option, none, some}
use mathlib.Core.Logic.{◌⊎◌, inl, inr}
use native.Mathlib.Omega.{arith}
use borrow.Author.Tests.{ltb-true, ltb-false}
use lib.Dec.{ltb}
use lib.ListN.{length, length-append}
use Rattle.language.specs.Choice.{if'}
use Rattle.language.specs.Lexemes.{same}
use Rattle.language.specs.Tokens.{Content}
use Rattle.language.specs.Sentences.{Expr, Stmt, import', let', expr', first_of}
use Rattle.language.specs.Values.{lookup}
use Rattle.language.specs.Terms.{Atom, slot, Term, term_type, atom_of}
use Rattle.language.specs.Judgements.{Diag, Judged, val, err, poisoned, stopped, and_then, Known, known, Import, Binding, Held, Turn, goes, refuses, Outcome, refused, named_number, names_number, first_named, find, find_import, compared, most_imports, most_names, name_at, narrowed, used, judge, imported, import_stmt, bind, bound_as, bound, let_stmt, sized, told, stmt, onward, run}
use Rattle.language.specs.Names.{let_names, import_names, TooMany, NamesRefused}
use Rattle.language.specs.Named.{RefusedFor}
use Rattle.language.proofs.Tests.{never, by_cases}
use Rattle.language.proofs.DistinctNames.{among, Kept, none_kept, repeated, added, filled}

-- ---- what is known, by name

abbrev is_found : {A : Type 0} → Option A → Bool
is_found none = false
is_found (some a) = true

abbrev binding_name : Binding → List ℕ
binding_name b = b.name

abbrev import_name : Import → List ℕ
import_name i = i.name

-- a name is found exactly if it is among them
found_among : {A : Type 0} (named : A → List ℕ) (w : List ℕ) (xs : List A) → among w (map named xs) ≡ is_found (first_named named xs w)
unfolding first_named among
found_among named w [] = refl
found_among named w (a ∷ xs) =
    elim (same (named a) w) as (λ t. t || among w (map named xs) ≡ is_found (if' t (some a) (first_named named xs w))) [
      | true ↦ refl
      | false ↦ found_among named w xs
    ]

module _ (ts : List Content) where
  -- after the statements us their distinct names are known
  pub record Knows (us : List Stmt) (k : Known) : Type 0 where
    pub lets : Kept binding_name most_names k.bindings (let_names ts us)
    imports : Kept import_name most_imports k.imports (import_names ts us)

  pub lets_append : (us vs : List Stmt) → let_names ts (us ++ vs) ≡ let_names ts us ++ let_names ts vs
  unfolding let_names
  lets_append [] vs = refl
  lets_append (let' t e ∷ us) vs = ap (λ (r : List (List ℕ)). name_at ts t ∷ r) (lets_append us vs)
  lets_append (import' t ∷ us) vs = lets_append us vs
  lets_append (expr' e ∷ us) vs = lets_append us vs

  imports_append : (us vs : List Stmt) → import_names ts (us ++ vs) ≡ import_names ts us ++ import_names ts vs
  unfolding import_names
  imports_append [] vs = refl
  imports_append (import' t ∷ us) vs = ap (λ (r : List (List ℕ)). name_at ts t ∷ r) (imports_append us vs)
  imports_append (let' t e ∷ us) vs = imports_append us vs
  imports_append (expr' e ∷ us) vs = imports_append us vs

  -- ---- one statement

  -- it goes on, and has no name that is one too many; or it stops, at that name, or at a call where there is none
  unfoldable pub After : List Stmt → Stmt → Turn → Type 0
  After us s (goes k ds hs ls) = Knows (us ++ s ∷ []) k × ((u : ℕ) → ¬ TooMany ts us s u)
  After us s (refuses m t) = ((m ≡ names_number) × TooMany ts us s t) ⊎ ((m ≡ named_number) × ((u : ℕ) → ¬ TooMany ts us s u))

  module _ (us : List Stmt) (k : Known) (h : Knows us k) where
    -- names of the other kind stay as they are
    lets_stay : (s : Stmt) → let_names ts (s ∷ []) ≡ [] → Kept binding_name most_names k.bindings (let_names ts (us ++ s ∷ []))
    lets_stay s e = rw (lets_append us (s ∷ []), e, append-nil) h.lets

    imports_stay : (s : Stmt) → import_names ts (s ∷ []) ≡ []
        → Kept import_name most_imports k.imports (import_names ts (us ++ s ∷ []))
    imports_stay s e = rw (imports_append us (s ∷ []), e, append-nil) h.imports

    module _ (n t : ℕ) where
      module _ (e : Expr) where
        let_knows : (bs : List Binding) (m : ℕ) → Kept binding_name most_names bs (let_names ts us ++ name_at ts t ∷ [])
            → Knows (us ++ let' t e ∷ []) (known k.imports bs m)
        unfolding let_names import_names
        let_knows bs j m = record { lets = rw (lets_append us (let' t e ∷ [])) m; imports = imports_stay (let' t e) refl }

        bound_after : (o : Judged Term) (ws : List Diag) (ls : List ℕ) → among (name_at ts t) (map binding_name k.bindings) ≡ false
            → length k.bindings < most_names → After us (let' t e) (bound ts n k t o ws ls)
        unfolding After
        bound_after o ws ls new room = go o
          where
            binds : (v : Option Atom) (m : ℕ) → Knows (us ++ let' t e ∷ []) (bind ts n k t v m) × ((u : ℕ) → ¬ TooMany ts us (let' t e) u)
            binds v j =
                let b : Binding = record { name = name_at ts t; tok = t; value = v } in
                let a = added binding_name h.lets b new room in
                (let_knows (k.bindings ++ b ∷ []) j a.0, λ u m. a.1 m.1)

            taken : (v : Term) (o : Option Atom) → After us (let' t e) (bound_as ts n k t v o ws ls)
            taken v (some a) = binds (some a) k.slots
            taken v none = binds (some (slot k.slots (term_type v))) (suc k.slots)

            go : (o : Judged Term) → After us (let' t e) (bound ts n k t o ws ls)
            go (val v) = taken v (atom_of v)
            go (err at w) = binds none k.slots
            go poisoned = binds none k.slots
            go (stopped p) = inr (refl, (binds none k.slots).1)

        let_after : (l : ℕ) (o : Option Binding) → find k.bindings (name_at ts t) ≡ o → After us (let' t e) (let_stmt ts n k t e l o)
        unfolding After
        let_after l (some b) f =
            let a = repeated binding_name h.lets (name_at ts t) (found_among binding_name (name_at ts t) k.bindings ∙ ap is_found f) in
            (let_knows k.bindings k.slots a.0, λ u m. a.1 m.1)
        let_after l none f =
            let new = found_among binding_name (name_at ts t) k.bindings ∙ ap is_found f in
            by_cases (After us (let' t e)) (ltb (length k.bindings) most_names)
            (λ r.
            let j = and_then (judge ts n k e) used in
            bound_after j.out j.warns (l ∷ j.looks) new (ltb-true (length k.bindings) most_names r))
            (λ r. inl (refl, (refl, filled binding_name h.lets (name_at ts t) new (ltb-false (length k.bindings) most_names r))))

      import_knows : (is : List Import) → Kept import_name most_imports is (import_names ts us ++ name_at ts t ∷ [])
          → Knows (us ++ import' t ∷ []) (known is k.bindings k.slots)
      unfolding let_names import_names
      import_knows is m = record { lets = lets_stay (import' t) refl; imports = rw (imports_append us (import' t ∷ [])) m }

      imported_after : (o : Option ℕ) → among (name_at ts t) (map import_name k.imports) ≡ false → length k.imports < most_imports
          → After us (import' t) (imported ts n k t o)
      unfolding After
      imported_after o new room = go o
        where
          adds : (v : Option ℕ)
              → Knows (us ++ import' t ∷ []) (known (k.imports ++ record { name = name_at ts t; found = v } ∷ []) k.bindings k.slots)
              × ((u : ℕ) → ¬ TooMany ts us (import' t) u)
          adds v =
              let i : Import = record { name = name_at ts t; found = v } in
              let a = added import_name h.imports i new room in
              (import_knows (k.imports ++ i ∷ []) a.0, λ u m. a.1 m.1)

          go : (o : Option ℕ) → After us (import' t) (imported ts n k t o)
          go (some m) = adds (some m)
          go none = adds none

      import_after : (o : Option Import) → find_import k.imports (name_at ts t) ≡ o → After us (import' t) (import_stmt ts n k t o)
      unfolding After
      import_after (some i) f =
          let a = repeated import_name h.imports (name_at ts t) (found_among import_name (name_at ts t) k.imports ∙ ap is_found f) in
          (import_knows k.imports a.0, λ u m. a.1 m.1)
      import_after none f =
          let new = found_among import_name (name_at ts t) k.imports ∙ ap is_found f in
          by_cases (After us (import' t)) (ltb (length k.imports) most_imports)
          (λ r. imported_after (lookup 0 (name_at ts t)) new (ltb-true (length k.imports) most_imports r))
          (λ r. inl (refl, (refl, filled import_name h.imports (name_at ts t) new (ltb-false (length k.imports) most_imports r))))

    module _ (n : ℕ) where
      told_after : (e : Expr) (o : Judged Term) (ws : List Diag) (ls : List ℕ) → After us (expr' e) (told ts n k (first_of e) o ws ls)
      unfolding After let_names import_names
      told_after e o ws ls = go o
        where
          stays : Knows (us ++ expr' e ∷ []) k × ((u : ℕ) → ¬ TooMany ts us (expr' e) u)
          stays = (record { lets = lets_stay (expr' e) refl; imports = imports_stay (expr' e) refl }, λ u m. m)

          narrowed_after : (v : Option Term) → After us (expr' e) (sized ts n k (first_of e) v ws ls)
          narrowed_after (some v) = stays
          narrowed_after none = stays

          go : (o : Judged Term) → After us (expr' e) (told ts n k (first_of e) o ws ls)
          go (val v) = narrowed_after (narrowed v)
          go (err at w) = stays
          go poisoned = stays
          go (stopped p) = inr (refl, λ u m. m)

      pub stmt_after : (s : Stmt) → After us s (stmt ts n k s)
      unfolding stmt
      stmt_after (import' t) = import_after n t (find_import k.imports (name_at ts t)) refl
      stmt_after (let' t e) = let_after n t e (compared k.bindings (name_at ts t)) (find k.bindings (name_at ts t)) refl
      stmt_after (expr' e) = told_after e (judge ts n k e).out (judge ts n k e).warns (judge ts n k e).looks

  -- ---- the run

  -- of the statements ss after us none has a name that is one too many
  abbrev Clear : List Stmt → List Stmt → Type 0
  Clear us ss = (vs : List Stmt) (s : Stmt) (ws : List Stmt) (u : ℕ) → ss ≡ vs ++ s ∷ ws → ¬ TooMany ts (us ++ vs) s u

  -- the first that has one stands among the statements ss after us
  record Reached (us ss : List Stmt) (t : ℕ) : Type 0 where
    before : List Stmt
    here : Stmt
    after : List Stmt
    order : ss ≡ before ++ here ∷ after
    too_many : TooMany ts (us ++ before) here t
    first : Clear us before

  module _ (us : List Stmt) (s : Stmt) where
    reached_here : {t : ℕ} (ss : List Stmt) → TooMany ts us s t → Reached us (s ∷ ss) t
    reached_here ss h =
        record {
          before = [];
          here = s;
          after = ss;
          order = refl;
          too_many = rw append-nil h;
          first = λ vs x ws u e m.
              let l : 0 ≡ length (vs ++ x ∷ ws) = ap length e in
              omega (arith, l, length-append vs (x ∷ ws));
        }

    clear_more : (ss : List Stmt) → ((u : ℕ) → ¬ TooMany ts us s u) → Clear (us ++ s ∷ []) ss → Clear us (s ∷ ss)
    clear_more ss h c [] x ws u e m =
        let q : s ≡ x = cc in
        h u (rw (append-nil, ← q) at m)
    clear_more ss h c (v ∷ vs) x ws u e m =
        let q : s ≡ v = cc in
        let r : ss ≡ vs ++ x ∷ ws = cc in
        c vs x ws u r (rw (q, append_assoc) m)

    clear_less : (ss : List Stmt) → Clear us (s ∷ ss) → ((u : ℕ) → ¬ TooMany ts us s u) × Clear (us ++ s ∷ []) ss
    clear_less ss c = (
      λ u m. c [] s ss u refl (rw append-nil m),
      λ vs x ws u e m. c (s ∷ vs) x ws u (ap (λ (r : List Stmt). s ∷ r) e) (rw append_assoc at m),
    )

    reached_later : {t : ℕ} (ss : List Stmt) → ((u : ℕ) → ¬ TooMany ts us s u) → Reached (us ++ s ∷ []) ss t → Reached us (s ∷ ss) t
    reached_later ss h r =
        record {
          before = s ∷ r.before;
          here = r.here;
          after = r.after;
          order = ap (λ (r : List Stmt). s ∷ r) r.order;
          too_many = rw append_assoc at r.too_many;
          first = clear_more r.before h r.first;
        }

  -- a run that is refused at a name has reached it; else it is refused at a call
  refused_reached : {m t : ℕ} (ss us : List Stmt) (n : ℕ) (k : Known) (ds : List Diag) (hs : List Held) (ls : List ℕ) → Knows us k
      → run ts ss n k ds hs ls ≡ refused m t → ((m ≡ names_number) × Reached us ss t) ⊎ (m ≡ named_number)
  unfolding run After
  refused_reached [] us n k ds hs ls h e = never (cc)
  refused_reached {m} {t} (s ∷ ss) us n k ds hs ls h e =
      by (stmt ts n k s) _ (stmt_after us k h n s) e (λ k' es gs ms. refused_reached ss (us ++ s ∷ []) _ k' es gs ms)
    where
      by : (o : Turn) (on : Known → List Diag → List Held → List ℕ → Outcome) → After us s o → onward ts o ds hs ls on ≡ refused m t
          → ((k' : Known) (es : List Diag) (gs : List Held) (ms : List ℕ) → Knows (us ++ s ∷ []) k' → on k' es gs ms ≡ refused m t
          → ((m ≡ names_number) × Reached (us ++ s ∷ []) ss t) ⊎ (m ≡ named_number))
          → ((m ≡ names_number) × Reached us (s ∷ ss) t) ⊎ (m ≡ named_number)
      by (refuses v u) on (inl a) f rest =
          let p : v ≡ m = cc in
          let q : u ≡ t = cc in
          inl (sym p ∙ a.0, reached_here us s ss (rw q at a.1))
      by (refuses v u) on (inr a) f rest = let p : v ≡ m = cc in inr (sym p ∙ a.0)
      by (goes k' es gs ms) on a f rest =
          elim (rest k' (ds ++ es) (hs ++ gs) (ls ++ ms) a.0 f) [
            | inl r ↦ inl (r.0, reached_later us s ss a.1 r.1)
            | inr r ↦ inr r
          ]

  -- a statement has one name at the most
  pub one_token : {u t : ℕ} (us : List Stmt) (s : Stmt) → TooMany ts us s u → TooMany ts us s t → u ≡ t
  one_token us (let' v e) a b = sym a.0 ∙ b.0
  one_token us (import' v) a b = sym a.0 ∙ b.0
  one_token us (expr' e) a b = absurd a

  -- refused at the name t, or at a call
  abbrev Stopped : Outcome → ℕ → Type 0
  Stopped o t = (o ≡ refused names_number t) ⊎ ((u : ℕ) × (o ≡ refused named_number u))

  -- a run that reaches a name is refused there, or at a call before
  reached_refused : {t : ℕ} (bs us : List Stmt) (s : Stmt) (ss : List Stmt) (n : ℕ) (k : Known) (ds : List Diag) (hs : List Held) (ls : List ℕ)
      → Knows us k → Clear us bs → TooMany ts (us ++ bs) s t → Stopped (run ts (bs ++ s ∷ ss) n k ds hs ls) t
  unfolding run After
  reached_refused {t} [] us s ss n k ds hs ls h c m = by (stmt ts n k s) _ (stmt_after us k h n s) (rw append-nil at m)
    where
      by : (o : Turn) (on : Known → List Diag → List Held → List ℕ → Outcome) → After us s o → TooMany ts us s t
          → Stopped (onward ts o ds hs ls on) t
      by (refuses v u) on (inl a) x = inl (rw (a.0, one_token us s a.1 x))
      by (refuses v u) on (inr a) x = absurd (a.1 t x)
      by (goes k' es gs ms) on a x = absurd (a.1 t x)
  reached_refused {t} (b ∷ bs) us s ss n k ds hs ls h c m =
      let l = clear_less us b bs c in
      by (stmt ts n k b) _ (stmt_after us k h n b) l.0
      (λ k' es gs ms i. reached_refused bs (us ++ b ∷ []) s ss _ k' es gs ms i l.1 (rw append_assoc m))
    where
      by : (o : Turn) (on : Known → List Diag → List Held → List ℕ → Outcome) → After us b o → ((u : ℕ) → ¬ TooMany ts us b u)
          → ((k' : Known) (es : List Diag) (gs : List Held) (ms : List ℕ) → Knows (us ++ b ∷ []) k' → Stopped (on k' es gs ms) t)
          → Stopped (onward ts o ds hs ls on) t
      by (refuses v u) on (inl a) x rest = absurd (x u a.1)
      by (refuses v u) on (inr a) x rest = inr (u, rw a.0)
      by (goes k' es gs ms) on a x rest = rest k' (ds ++ es) (hs ++ gs) (ls ++ ms) a.0

  pub none_known : Knows [] (known [] [] 0)
  unfolding let_names import_names
  none_known = record { lets = none_kept binding_name most_names; imports = none_kept import_name most_imports }

pub names_refused : NamesRefused
names_refused ts ss t = (
  λ e. elim (refused_reached ts ss [] 1 (known [] [] 0) [] [] [] (none_known ts) e) [
    | inl g ↦
        let r = g.1 in (
          record { before = r.before; here = r.here; after = r.after; order = r.order; too_many = r.too_many; first = r.first },
          λ u f. let z : ◌≡◌ {A = ℕ} 9 8 = cc in omega (arith, z),
        )
    | inr g ↦ absurd (omega (arith, g))
  ],
  λ h. let f = h.0 in
      elim (reached_refused ts f.before [] f.here f.after 1 (known [] [] 0) [] [] [] (none_known ts) f.first f.too_many) [
        | inl g ↦ rw f.order g
        | inr g ↦ absurd (h.1 g.0 (rw f.order g.1))
      ],
)

pub refused_for : RefusedFor
refused_for ts ss m t e =
    elim (refused_reached ts ss [] 1 (known [] [] 0) [] [] [] (none_known ts) e) [ inl g ↦ inr g.0 | inr g ↦ inl g ]

-- `.` and `/` with what their left came to.
use mathlib.Core.Path.{◌≡◌, refl, sym, ap, subst, ◌∙◌}
use mathlib.Core.Bool.{Bool, true, false}
use mathlib.Core.List.{List, [], ◌∷◌, ◌++◌}
use mathlib.Core.Option.{Option, none, some}
use Prim.Native.Nat.{ℕ, ◌+◌}
use native.Mathlib.Omega.{arith}
use borrow.Author.Tests.{eq-eqb, ne_eqb, eqb-true}
use lib.Dec.{eqb}
use lib.ListN.{length, length-append}
use Rattle.language.specs.Choice.{if'}
use Rattle.language.specs.Integers.{u16, low_bits}
use Rattle.language.specs.Tokens as tokens
use Rattle.language.specs.Tokens.{Content, contents}
use Rattle.language.specs.Sentences.{Expr, member, slash', first_of}
use Rattle.language.specs.Values.{Value, is_integer, is_bool, is_sized, is_ip4, is_sock4, is_string, is_text, is_function, is_integral, ty_ip4, ty_int, ty_kind, same_ty, type_of}
use Rattle.language.specs.Terms as terms
use Rattle.language.specs.Terms.{atom, constant, slot, called, divided, term_at, term_type, value_in, constant_of}
use Rattle.language.specs.Judgements as judgements
use Rattle.language.specs.Judgements.{left, right, operand_type, no_members, Judged, val, err, Judgement, judgement, fine, wrong, and_then, Known, used, ip4_of, integer_of, cut, widened, narrow_to, left_operand, right_operand, folded, known_ip4, known_integer, joined, judge}
use Rattle.language.specs.Findings.{value_kind, value_low, parts, part}
use Rattle.language.specs.Numbers.{token_of}
use Rattle.language.proofs.Tests.{never}
use Rattle.findings.specs.declared.Counts.{Counts}
use Rattle.rows.specs.declared.token.Token.{Token}
use Rattle.rows.specs.declared.types.Type.{«Type»}
use Rattle.rows.specs.Tokens.{token_as}
use Rattle.findings.specs.declared.Side.{Side}
use Rattle.findings.specs.declared.Side.TheVariants.{Left as LeftSide, Right as RightSide}
use Rattle.findings.specs.declared.What.TheVariants.{OperandType}
use Rattle.findings.specs.Findings.{at_token}
use Rattle.findings.proofs.Adds.{adds_none, adds_then}
use Rattle.findings.proofs.Rows.{no_rows}
use Rattle.values.specs.declared.Term.{Term}
use Rattle.values.specs.Values as code
use Rattle.std.specs.Prelude.{Ok, Err}
use Rattle.values.specs.declared.Halt.TheVariants.{Found}
use Rattle.values.specs.Values.{term_as, judged_as, TypeShown, Used}
use Rattle.values.proofs.Values.{TermOf, of_constant, term_form, place_as, ip4_is, judged_err}
use Rattle.holding.specs.Holding.{Step}
use Rattle.holding.specs.Holding.{put_held, Puts, Judges, Agrees}
use Rattle.holding.proofs.Rows.{held_two}
use Rattle.fitting.specs.Fitting.{Narrows}
use Rattle.arguments.proofs.Then.{goes as went}
use Rattle.judging.specs.Judging.{over_both, going, MemberIs, OperandIs, Left, Port, Spreads, Joins, Divides}
use Rattle.judging.proofs.Steps.{ended, fine_then, wrong_then, alike_as, alike_no, ends, by, as_val, no_val, void_ends, used_value}

-- ---- types by their numbers

-- a value that is known has the number of its type, but for bytes of the table
value_ip4 : (v : Value) → eqb 7 (value_kind v) ≡ eqb 7 (ty_kind (type_of v))
value_ip4 (is_integer n) = refl
value_ip4 (is_bool b) = refl
value_ip4 (is_sized t n) = refl
value_ip4 (is_ip4 n) = refl
value_ip4 (is_sock4 n p) = refl
value_ip4 (is_string t) = refl
value_ip4 (is_text a b) = refl
value_ip4 (is_function k) = refl

term_ip4 : (e : terms.Term) → eqb 7 (term_as e).kind ≡ same_ty ty_ip4 (term_type e)
term_ip4 (atom p (constant v)) = value_ip4 v
term_ip4 (atom p (slot n t)) = refl
term_ip4 (called p c f vs) = refl
term_ip4 (divided p a b) = refl

module _ {v : Term} (e : terms.Term) (q : v ≡ term_as e) where
  pub is_ip4_lem : v.kind ≡ 7 → same_ty ty_ip4 (term_type e) ≡ true
  is_ip4_lem h = sym (term_ip4 e) ∙ eq-eqb 7 (term_as e).kind (sym h ∙ ap (λ (w : Term). w.kind) q)

  pub no_ip4 : (v.kind ≡ 7 → ⊥) → same_ty ty_ip4 (term_type e) ≡ false
  no_ip4 h = sym (term_ip4 e) ∙ ne_eqb 7 (term_as e).kind (λ z. h (ap (λ (w : Term). w.kind) q ∙ sym z))

left_is : (e : terms.Term) → same_ty ty_ip4 (term_type e) ≡ true → left_operand e ≡ fine e
left_is e h = rw h

left_not : (e : terms.Term) → same_ty ty_ip4 (term_type e) ≡ false → left_operand e ≡ wrong (term_at e) (operand_type left ty_ip4 (term_type e))
left_not e h = rw h

-- ---- `.` and the left of `/`

module _ (s : List ℕ) (n : ℕ) (k : Known) {r : Step} {x u t : List ℕ} {c : Counts} {at : ℕ} where
  pub member_ends : {i : ℕ} {v : Term} {o : code.Judged} (d : Expr) (e : terms.Term) → MemberIs s i v o → v ≡ term_as e → r.out ≡ o → r.counts ≡ c
      → Agrees s r x x u t c at (going (contents (tokens.tokens s)) n k (member d i) e)
  member_ends {i} d e h q p g = ends (err i (no_members (term_type e))) (p ∙ h.is e q) (λ w z. never (cc)) g

  pub left_ends : {v : Term} {o : code.Judged} (a b : Expr) (e : terms.Term) → OperandIs s v LeftSide 7 o → v ≡ term_as e → (v.kind ≡ 7 → ⊥) → r.out ≡ o
      → r.counts ≡ c → Agrees s r x x u t c at (going (contents (tokens.tokens s)) n k (slash' a b) e)
  left_ends a b e h q f p g =
      rw (left_not e (no_ip4 e q f), wrong_then (term_at e) (operand_type left ty_ip4 (term_type e)) (λ ip. and_then (judge (contents (tokens.tokens s)) n k b) (over_both n (first_of a) (first_of b) ip)))
      (ends (err (term_at e) (operand_type left ty_ip4 (term_type e))) (p ∙ h.is e left ty_ip4 q refl refl) (λ w z. never (cc)) g)

module _ (s : List ℕ) (n : ℕ) (k : Known) where
  pub left_goes : {v : Term} (a b : Expr) (e : terms.Term) → v ≡ term_as e → v.kind ≡ 7
      → going (contents (tokens.tokens s)) n k (slash' a b) e ≡ and_then (judge (contents (tokens.tokens s)) n k b) (over_both n (first_of a) (first_of b) e)
  left_goes a b e q f = rw (left_is e (is_ip4_lem e q f), fine_then e (λ ip. and_then (judge (contents (tokens.tokens s)) n k b) (over_both n (first_of a) (first_of b) ip)))

-- ---- the right of `/`

-- what it comes to is known in 16 bits, or is as it was
stays_so : (n p q : ℕ) (o : judgements.What) (e d : terms.Term) → constant_of e ≡ none
    → (if' (is_integral (term_type e)) (judgement (val e) (widened n p u16 (term_type e))) (judgement (err q o) [])).out ≡ val d → Port d × (parts d ≡ parts e)
stays_so n p q o e d z = by (is_integral (term_type e))
  where
    by : (b : Bool) → (if' b (judgement (val e) (widened n p u16 (term_type e))) (judgement (err q o) [])).out ≡ val d → Port d × (parts d ≡ parts e)
    by true h = let w : e ≡ d = cc in rw (← w) ((λ c g. never (cc)), refl)
    by false h = never (cc)

port_is : (n p q : ℕ) (o : judgements.What) (e d : terms.Term) → (narrow_to n u16 p (judgement (err q o) []) e).out ≡ val d → Port d × (parts d ≡ parts e)
unfolding narrow_to parts
port_is n p q o (atom t (constant v)) d h = by (integer_of v) h
  where
    by : (i : Option ℕ) → (elim i as (λ _. Judgement terms.Term) [ some m ↦ judgement (val (atom t (constant (is_sized u16 (low_bits u16 m))))) (cut n p u16 m) | none ↦ judgement (err q o) [] ]).out ≡ val d
        → Port d × (parts d ≡ [])
    by (some m) z = let w : atom t (constant (is_sized u16 (low_bits u16 m))) ≡ d = cc in rw (← w) ((λ c g. (low_bits u16 m, cc)), refl)
    by none z = never (cc)
port_is n p q o (atom t (slot m ty)) d h = stays_so n p q o (atom t (slot m ty)) d refl h
port_is n p q o (called t c f vs) d h = stays_so n p q o (called t c f vs) d refl h
port_is n p q o (divided t a b) d h = stays_so n p q o (divided t a b) d refl h

-- the right operand is no void value
over_is : (n place p : ℕ) (a b : terms.Term) → used b ≡ fine b → over_both n place p a b ≡ and_then (right_operand n p b) (λ port. fine (joined place a port))
over_is n place p a b q = rw q (fine_then b (λ b. and_then (right_operand n p b) (λ port. fine (joined place a port))))

module _ {s : List ℕ} where
  -- a judgement that goes on with steps
  pub judged_goes : {J : code.Judgement} {x y : List ℕ} {c : Counts} (j : Judgement terms.Term) (f : terms.Term → Judgement terms.Term) → Judges s J x y c j
      → {e : terms.Term} → j.out ≡ val e → {R : Step} {z m w : List ℕ} {b : ℕ} → Agrees s R y z m w J.counts b (f e) → Agrees s R x z m w c b (and_then j f)
  judged_goes j f l q g =
      rw (went j f q) (record { out = g.out; adds = adds_then l.adds g.adds; next = g.next; rows = g.rows })

  pub judged_ends : {J : code.Judgement} {x y : List ℕ} {c : Counts} (j : Judgement terms.Term) (f : terms.Term → Judgement terms.Term) → Judges s J x y c j
      → ((w : Term) → J.out ≡ Ok w → ⊥) → {R : Step} → R.out ≡ J.out → R.counts ≡ J.counts → {m w : List ℕ} {b : ℕ} → Agrees s R x y m w c b (and_then j f)
  judged_ends j f l h q p =
      let g = ended j f (no_val s j.out l.out h) in
      record {
        out = q ∙ l.out ∙ alike_as s g.out;
        adds = rw (p, g.warns, g.looks) l.adds;
        next = λ v z. absurd (alike_no g.out v z);
        rows = λ v z. absurd (alike_no g.out v z);
      }

  -- and was narrowed
  module _ (p : ℕ) {d : Term} {other : code.Judged} {nr : code.Judgement} {c : Counts} {x y : List ℕ} (op : OperandIs s d RightSide 4 other) (na : Narrows s 4 p d other c x nr y) where
    narrowing : (n : ℕ) (b : terms.Term) → n ≡ c.number → d ≡ term_as b → Judges s nr x y c (right_operand n p b)
    narrowing n b num q = na.is n u16 b (err (term_at b) (operand_type right (ty_int u16) (term_type b))) num refl q (op.is b right (ty_int u16) q refl refl)

  module _ {place p at next end : ℕ} {v w : Term} {c : Counts} {x t : List ℕ} {o : code.Judged} (h : Used s w o) where
    pub divide_void : ((d : Term) → o ≡ Ok d → ⊥) → {r : Step} {z : List ℕ} → r.out ≡ o → r.counts ≡ c → Divides s place p at next v w end c x t r x z
    divide_void n q g = record { is = λ m a b u k num i l l'. void_ends _ b h l'.value n q g }

    module _ {d : Term} (e : o ≡ Ok d) {other : code.Judged} (op : OperandIs s d RightSide 4 other) {nr : code.Judgement} {y : List ℕ} (na : Narrows s 4 p d other c x nr y) where
      pub divide_ends : ((q : Term) → nr.out ≡ Ok q → ⊥) → {r : Step} {z : List ℕ} → r.out ≡ nr.out → r.counts ≡ nr.counts → Divides s place p at next v w end c x t r y z
      divide_ends n q g =
          record {
            is = λ m a b u k num i l l'.
                let z = used_value b h l'.value e in
                by (over_is m place p a b z.0) (judged_ends (right_operand m p b) (λ port. fine (joined place a port)) (narrowing p op na m b num z.1) n q g);
          }

      pub divide_goes : {port : Term} → nr.out ≡ Ok port → {r : Step} {z : List ℕ} → Joins s place at next v port end nr.counts t r z → Divides s place p at next v w end c x t r y z
      divide_goes {port} q j =
          record {
            is = λ m a b u k num i l l'.
                let z = used_value b h l'.value e in
                let na = narrowing p op na m b num z.1 in
                let f = as_val s (right_operand m p b).out (sym na.out ∙ q) in
                let g = port_is m p (term_at b) (operand_type right (ty_int u16) (term_type b)) b f.0 f.1 in
                let n : Left s k t next f.0 port end = record {
                  value = f.2;
                  free = l'.free ∙ rw g.1;
                  table = l'.table ∙ rw g.1;
                } in
                by (over_is m place p a b z.0) (judged_goes (right_operand m p b) (λ port. fine (joined place a port)) na f.1 (j.is a f.0 u k y i g.0 l n));
          }

-- ---- both operands

one_value : {A : Type 0} {a b : A} → val a ≡ val b → a ≡ b
one_value q = cc

module _ {s : List ℕ} {place at next end : ℕ} {v w : Term} {c : Counts} {t : List ℕ} where
  pub spread_is : {r : Step} {y z : List ℕ} → Puts s (at + 1) v.at 8 0 v t y → Puts s next w.at 9 0 w y z
      → r.out ≡ Ok (record { at = place; form = 4; kind = 8; lo = 0; hi = 0 }) → r.counts ≡ c → r.next ≡ end → Spreads s place at next v w end c t r z
  unfolding parts
  spread_is {r = r} {y} {z} f g o p q =
      record {
        is = λ a b u m x l l'.
            let va : v.at ≡ term_at a = ap (λ (k : Term). k.at) l.value ∙ place_as a in
            let wb : w.at ≡ term_at b = ap (λ (k : Term). k.at) l'.value ∙ place_as b in
            let long : length (part 8 0 a ∷ parts a ++ part 9 0 b ∷ parts b) ≡ 2 + length (parts a) + length (parts b) = simp length-append (omega arith) in
            let end_is : r.next ≡ at + 1 + length (part 8 0 a ∷ parts a ++ part 9 0 b ∷ parts b) = omega (arith, q, l.free, l'.free, long) in
            let rows_are : z ≡ put_held s u (at + 1) (part 8 0 a ∷ parts a ++ part 9 0 b ∷ parts b) =
            g.is b l'.value ∙ rw (f.is a l.value, l'.table, l.table, va, wb) (held_two s u (at + 1) next (part 8 0 a) (part 9 0 b) (parts a) (parts b) l.free) in
            record {
              out = o;
              adds = rw p (adds_none s c x);
              next = λ d k. subst (λ (i : terms.Term). r.next ≡ at + 1 + length (parts i)) (one_value k) end_is;
              rows = λ d k. subst (λ (i : terms.Term). z ≡ put_held s u (at + 1) (parts i)) (one_value k) rows_are;
            };
      }

not_known : (place : ℕ) {v : Term} (a b : terms.Term) → v ≡ term_as a → (v.form ≡ 1 → ⊥) → joined place a b ≡ divided place a b
not_known place (atom p (constant d)) b q h = absurd (h (ap (λ (k : Term). k.form) q))
not_known place (atom p (slot n ty)) b q h = refl
not_known place (called p d f vs) b q h = refl
not_known place (divided p d e) b q h = refl

right_folds : (place : ℕ) (a b : terms.Term) (o : Option ℕ) → folded place a b o none ≡ divided place a b
right_folds place a b none = refl
right_folds place a b (some i) = refl

right_not : (place : ℕ) {w : Term} (a b : terms.Term) → w ≡ term_as b → (w.form ≡ 1 → ⊥) → joined place a b ≡ divided place a b
right_not place a (atom p (constant d)) q h = absurd (h (ap (λ (k : Term). k.form) q))
right_not place a (atom p (slot n ty)) q h = right_folds place a (atom p (slot n ty)) (known_ip4 a)
right_not place a (called p d f vs) q h = right_folds place a (called p d f vs) (known_ip4 a)
right_not place a (divided p d e) q h = right_folds place a (divided p d e) (known_ip4 a)

folds : (place : ℕ) {v w : Term} {a b : terms.Term} → TermOf 1 a → TermOf 1 b → same_ty ty_ip4 (term_type a) ≡ true → Port b → v ≡ term_as a → w ≡ term_as b
    → (joined place a b ≡ atom place (constant (is_sock4 v.lo w.lo))) × (parts a ≡ []) × (parts b ≡ [])
unfolding parts
folds place {v} {w} (of_constant {p = s} {v = d}) (of_constant {p = t} {v = e}) i p q k = (is, refl, refl)
  where
    ip : ip4_of d ≡ some v.lo
    ip = ip4_is d (sym (eqb-true 7 (value_kind d) (value_ip4 d ∙ i))) ∙ ap (λ (n : ℕ). some n) (sym (ap (λ (z : Term). z.lo) q))

    port : integer_of e ≡ some w.lo
    port = let m = p e refl in ap integer_of m.1 ∙ ap (λ (z : Value). some (value_low z)) (sym m.1) ∙ ap (λ (n : ℕ). some n) (sym (ap (λ (z : Term). z.lo) k))

    is : joined place (atom s (constant d)) (atom t (constant e)) ≡ atom place (constant (is_sock4 v.lo w.lo))
    is = rw (ip, port)

module _ {s : List ℕ} {place at next end : ℕ} {v w : Term} {c : Counts} {t : List ℕ} where
  pub left_stays : {r : Step} {z : List ℕ} → (v.form ≡ 1 → ⊥) → Spreads s place at next v w end c t r z → Joins s place at next v w end c t r z
  left_stays h g = record { is = λ a b u m x i p l l'. by (ap fine (not_known place a b l.value h)) (g.is a b u m x l l') }

  pub right_stays : {r : Step} {z : List ℕ} → (w.form ≡ 1 → ⊥) → Spreads s place at next v w end c t r z → Joins s place at next v w end c t r z
  right_stays h g = record { is = λ a b u m x i p l l'. by (ap fine (right_not place a b l'.value h)) (g.is a b u m x l l') }

  pub both_fold : {r : Step} {n : Term} → v.form ≡ 1 → w.form ≡ 1 → n ≡ record { at = place; form = 1; kind = 8; lo = v.lo; hi = w.lo } → r.out ≡ Ok n → r.counts ≡ c
      → r.next ≡ at + 1 → Joins s place at next v w end c t r t
  unfolding parts
  both_fold {r = r} vf wf e o p q =
      record {
        is = λ a b u m x i port l l'.
            let z = folds place (term_form a l.value vf) (term_form b l'.value wf) i port l.value l'.value in
            let same : t ≡ u = l'.table ∙ rw z.2 (sym (no_rows _ m (next + 1))) ∙ l.table ∙ rw z.1 (sym (no_rows _ u (at + 1 + 1))) in
            by (ap fine z.0) (record {
              out = o ∙ ap Ok e;
              adds = rw p (adds_none s c x);
              next = λ d k. subst (λ (j : terms.Term). r.next ≡ at + 1 + length (parts j)) (one_value k) (omega (arith, q));
              rows = λ d k. subst (λ (j : terms.Term). t ≡ put_held s u (at + 1) (parts j)) (one_value k) (same ∙ no_rows _ u (at + 1));
            });
      }

-- ---- an operand of another type

pub operand_is : {s : List ℕ} {v : Term} {side : Side} {wanted : ℕ} {tok : Token} {ty : «Type»} {r : code.Judged} → tok ≡ token_as (token_of s v.at) → TypeShown v ty
    → r ≡ Err (Found (at_token tok (OperandType side wanted ty))) → OperandIs s v side wanted r
operand_is {s} {v} p h q =
    record {
      is = λ e d t g i j.
          let at : v.at ≡ term_at e = ap (λ (k : Term). k.at) g ∙ place_as e in
          q ∙ judged_err s v.at (operand_type d t (term_type e)) p (rw (i, j, h.is e g)) ∙ ap (λ (k : ℕ). judged_as s (err k (operand_type d t (term_type e)))) at;
    }

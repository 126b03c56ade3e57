-- A row is read as what it was, and as nothing where no finding has it.
use Prim.Native.Nat.{ℕ}
use mathlib.Core.Path.{◌≡◌, refl, sym, ap, ◌∙◌}
use mathlib.Core.Bool.{Bool, true, false, ◌&&◌}
use borrow.Author.Tests.{eq-eqb, eqb-true}
use lib.Dec.{eqb, ltb}
use Rattle.std.specs.Prelude.{Option, Some, None}
use Rattle.rows.specs.declared.layout.DiagnosticRow.{DiagnosticRow}
use Rattle.rows.specs.declared.types.Type.{«Type»}
use Rattle.language.specs.Choice.{if'}
use Rattle.language.proofs.Tests.{both, never}
use Rattle.constants.specs.Constants.{is_function_entry, function_named}
use Rattle.constants.proofs.Entries.{function_own}
use Rattle.findings.specs.declared.Side.TheVariants as side_is
use Rattle.findings.specs.declared.What.{What}
use Rattle.findings.specs.declared.What.TheVariants as what_is
use Rattle.findings.specs.declared.Diagnostic.{Diagnostic}
use Rattle.findings.specs.Findings.{severity_number, shows_name, placed, type_text, function_type, typed_row, row_of, numbered}
use Rattle.findings.specs.Reading.{is_plain, is_type, sound_type, sound_diagnostic, same_row, type_in, operand_in, truncated_in, guess_by, guess_of, found_in, confirmed, read_by, read_of, ReadsBack, ReadsOnly, ReadsNothing}

-- ---- rows word by word

same_rows : (a b : DiagnosticRow) → same_row a b ≡ true → numbered b.statement a ≡ b
unfolding same_row
same_rows a b h =
    let h10 = both _ _ h in
    let h9 = both _ _ h10.0 in
    let h8 = both _ _ h9.0 in
    let h7 = both _ _ h8.0 in
    let h6 = both _ _ h7.0 in
    let h5 = both _ _ h6.0 in
    let h4 = both _ _ h5.0 in
    let h3 = both _ _ h4.0 in
    let h2 = both _ _ h3.0 in
    let h1 = both _ _ h2.0 in
    rw (
      eqb-true a.line b.line h1.0,
      eqb-true a.column b.column h1.1,
      eqb-true a.severity b.severity h2.1,
      eqb-true a.kind b.kind h3.1,
      eqb-true a.text b.text h4.1,
      eqb-true a.start b.start h5.1,
      eqb-true a.end b.end h6.1,
      eqb-true a.ty b.ty h7.1,
      eqb-true a.first b.first h8.1,
      eqb-true a.second b.second h9.1,
      eqb-true a.third b.third h10.1,
    )

eqb_own : (n : ℕ) → eqb n n ≡ true
eqb_own n = eq-eqb n n refl

own_row : (n : ℕ) (a : DiagnosticRow) → same_row a (numbered n a) ≡ true
unfolding same_row
own_row n a = simp eqb_own

-- ---- a row's finding

confirmed_own : (n : ℕ) (d : Diagnostic) → sound_diagnostic d ≡ true → confirmed (numbered n (row_of d)) d ≡ Some d
unfolding confirmed
confirmed_own n d h = rw (h, own_row n (row_of d))

confirmed_only : (r : DiagnosticRow) (c d : Diagnostic) → confirmed r c ≡ Some d → (numbered r.statement (row_of d) ≡ r) × (sound_diagnostic d ≡ true)
unfolding confirmed
confirmed_only r c d = by (sound_diagnostic c && same_row (row_of c) r) refl
  where
    by : (b : Bool) → sound_diagnostic c && same_row (row_of c) r ≡ b → if' b (Some c) None ≡ Some d → (numbered r.statement (row_of d) ≡ r) × (sound_diagnostic d ≡ true)
    by true h e =
        let z : c ≡ d = cc in
        let t = both (sound_diagnostic c) (same_row (row_of c) r) h in
        rw (← z) (same_rows (row_of c) r t.1, t.0)
    by false h e = never (cc)

pub reads_only : ReadsOnly
unfolding read_of
reads_only r d = by (guess_of r)
  where
    by : (g : Option What) → read_by r g ≡ Some d → (numbered r.statement (row_of d) ≡ r) × (sound_diagnostic d ≡ true)
    by (Some w) e = confirmed_only r (found_in r w) d e
    by None e = never (cc)

-- ---- a finding's row

entry_own : (t : «Type») → sound_type t ≡ true → if' (eqb t.kind 14) (function_named (type_text t).start (type_text t).end) 0 ≡ t.entry
unfolding sound_type type_text
entry_own t h = by (eqb t.kind 14) refl h
  where
    by : (b : Bool) → eqb t.kind 14 ≡ b → if' b (is_function_entry t.entry) (is_plain t.kind && eqb t.entry 0) ≡ true
        → if' (eqb t.kind 14) (function_named (type_text t).start (type_text t).end) 0 ≡ t.entry
    by true e l = rw e (function_own t.entry l)
    by false e l = rw e (sym (eqb-true t.entry 0 (both (is_plain t.kind) (eqb t.entry 0) l).1))

type_own : (m : ℕ) (d : Diagnostic) (t : «Type») (a b c : ℕ) → sound_type t ≡ true → type_in (numbered m (typed_row d t a b c)) ≡ t
unfolding type_in
type_own m d t a b c h = rw (entry_own t h)

function_sound : (f : ℕ) → is_function_entry f ≡ true → sound_type (function_type f) ≡ true
unfolding sound_type
function_sound f h = h

abbrev found : ℕ → ℕ → ℕ → ℕ → What → Diagnostic
found l c a e w = record { line = l; column = c; start = a; end = e; what = w }

spanless : (l c a e : ℕ) (w : What) → eqb a 0 && eqb e 0 ≡ true → found l c 0 0 w ≡ found l c a e w
spanless l c a e w h =
    let t = both (eqb a 0) (eqb e 0) h in
    rw (eqb-true a 0 t.0, eqb-true e 0 t.1)

-- the row says which finding it was
record Own (m : ℕ) (d : Diagnostic) : Type 0 where
  guess : guess_of (numbered m (row_of d)) ≡ Some d.what
  found : found_in (numbered m (row_of d)) d.what ≡ d

-- a kind that shows a type
typed_own : (m l c a e : ℕ) (f : «Type» → What) (t : «Type») (x y z : ℕ) → let d = found l c a e (f t) in sound_type t ≡ true → eqb a 0 && eqb e 0 ≡ true
    → guess_of (numbered m (row_of d)) ≡ Some (f (type_in (numbered m (typed_row d t x y z)))) → found_in (numbered m (row_of d)) (f t) ≡ found l c 0 0 (f t) → Own m d
typed_own m l c a e f t x y z h n g p =
    record {
      guess = g ∙ ap (λ (u : «Type»). Some (f u)) (type_own m (found l c a e (f t)) t x y z h);
      found = p ∙ spanless l c a e (f t) n;
    }

-- one that shows a function, by its entry
function_own_row : (m l c a e : ℕ) (f : ℕ → What) (k x y : ℕ) → let d = found l c a e (f k) in is_function_entry k && (eqb a 0 && eqb e 0) ≡ true
    → guess_of (numbered m (row_of d)) ≡ Some (f (type_in (numbered m (typed_row d (function_type k) x y 0))).entry)
    → found_in (numbered m (row_of d)) (f k) ≡ found l c 0 0 (f k) → Own m d
function_own_row m l c a e f k x y h g p =
    let n = both (is_function_entry k) (eqb a 0 && eqb e 0) h in
    typed_own m l c a e (λ t. f t.entry) (function_type k) x y 0 (function_sound k n.0) n.1 g p

own : (m l c a e : ℕ) (w : What) → sound_diagnostic (found l c a e w) ≡ true → Own m (found l c a e w)
unfolding sound_diagnostic shows_name placed severity_number row_of guess_by operand_in truncated_in
own m l c a e what_is.UnknownName h = record { guess = refl; found = refl }
own m l c a e (what_is.UnknownItem k) h = record { guess = refl; found = refl }
own m l c a e what_is.UnknownModule h = record { guess = refl; found = refl }
own m l c a e what_is.NotImported h = record { guess = refl; found = refl }
own m l c a e what_is.NotAModule h = record { guess = refl; found = refl }
own m l c a e what_is.NotAValue h = record { guess = refl; found = refl }
own m l c a e (what_is.AlreadyBound x y) h = record { guess = refl; found = refl }
own m l c a e what_is.MultipleImports h = record { guess = refl; found = refl }
own m l c a e what_is.VoidValue h = record { guess = refl; found = spanless l c a e what_is.VoidValue h }
own m l c a e what_is.IntegralTooLarge h = record { guess = refl; found = spanless l c a e what_is.IntegralTooLarge h }
own m l c a e (what_is.NoMembers t) h =
    let p = both (sound_type t) (eqb a 0 && eqb e 0) h in
    typed_own m l c a e what_is.NoMembers t 0 0 0 p.0 p.1 refl refl
own m l c a e (what_is.NotCallable t) h =
    let p = both (sound_type t) (eqb a 0 && eqb e 0) h in
    typed_own m l c a e what_is.NotCallable t 0 0 0 p.0 p.1 refl refl
own m l c a e (what_is.TooManyArgs f x y) h = function_own_row m l c a e (λ k. what_is.TooManyArgs k x y) f x y h refl refl
own m l c a e (what_is.TooFewArgs f x y) h = function_own_row m l c a e (λ k. what_is.TooFewArgs k x y) f x y h refl refl
own m l c a e (what_is.ArgType f i w t) h =
    let p = both ((is_function_entry f && is_type w) && sound_type t) (eqb a 0 && eqb e 0) h in
    typed_own m l c a e (what_is.ArgType f i w) t f i w (both (is_function_entry f && is_type w) (sound_type t) p.0).1 p.1 refl refl
own m l c a e (what_is.DiscardedValue t) h =
    let p = both (sound_type t) (eqb a 0 && eqb e 0) h in
    typed_own m l c a e what_is.DiscardedValue t 0 0 0 p.0 p.1 refl refl
own m l c a e (what_is.Truncated n t) h =
    let p = both (ltb n.hi 9223372036854775808 && sound_type t) (eqb a 0 && eqb e 0) h in
    typed_own m l c a e (what_is.Truncated n) t n.lo n.hi 0 (both (ltb n.hi 9223372036854775808) (sound_type t) p.0).1 p.1 refl refl
own m l c a e (what_is.Overflow t w) h =
    let p = both (sound_type t && is_type w) (eqb a 0 && eqb e 0) h in
    typed_own m l c a e (λ u. what_is.Overflow u w) t w 0 0 (both (sound_type t) (is_type w) p.0).0 p.1 refl refl
own m l c a e (what_is.OperandType side_is.Left k t) h =
    let p = both (is_type k && sound_type t) (eqb a 0 && eqb e 0) h in
    typed_own m l c a e (what_is.OperandType side_is.Left k) t 1 k 1 (both (is_type k) (sound_type t) p.0).1 p.1 refl refl
own m l c a e (what_is.OperandType side_is.Right k t) h =
    let p = both (is_type k && sound_type t) (eqb a 0 && eqb e 0) h in
    typed_own m l c a e (what_is.OperandType side_is.Right k) t 2 k 1 (both (is_type k) (sound_type t) p.0).1 p.1 refl refl

pub reads_back : ReadsBack
unfolding read_of
reads_back m d h =
    let o = own m d.line d.column d.start d.end d.what h in
    ap (read_by (numbered m (row_of d))) o.guess ∙ ap (confirmed (numbered m (row_of d))) o.found ∙ confirmed_own m d h

pub reads_nothing : ReadsNothing
reads_nothing r d n h e =
    let b : read_of r ≡ Some d = rw (← e) (reads_back r.statement d h) in
    never (cc)

-- The rows of the table are the entries.
use Prim.Native.Nat.{ℕ, zero, suc, ◌+◌, ◌-◌, ◌*◌, ◌≤◌, ◌<◌}
use native.Mathlib.Omega.{arith}
use native.Mathlib.Decide.{dec_lt}
use mathlib.Core.Path.{◌≡◌, refl, ◌∙◌, sym, subst, ap}
use mathlib.Core.Bool.{Bool, true, false, not, ◌&&◌, ◌||◌, false≢true}
use mathlib.Core.List.{List}
use mathlib.Core.Option.{Option, none, some}
use borrow.Author.Tests.{eqb-true, ltb-true, ltb-false, lt-ltb, le-ltb}
use lib.Dec.{eqb, ltb}
use lib.ListN.{length, get_or, drop, get_or-eq_default, drop_of_length-le}
use lib.Seq.{drop-cons}
use Rattle.table.proofs.Laws.{flat_word}
use Rattle.language.specs.Choice.{if'}
use Rattle.language.specs.Lexemes.{same}
use Rattle.language.specs.Values.{Entry, entry, entries, entry_at, entry_name, table_text, lookup_from}
use Rattle.language.proofs.SpellingRuns.{up_to, up_to_lem, implied}
use Rattle.constants.specs.Constants.{entry_row, table_rows, kind_of, low_of, high_of, or_zero, entry_word, is_hit, is_module, is_function_entry, has_span, function_from, function_named}

abbrev pub nameless : Entry
nameless = entry 0 0 0 none

entries_long : length entries ≡ 14
unfolding entries
entries_long = refl

pub past_entry : (k : ℕ) → 14 ≤ k → get_or entries k nameless ≡ nameless
past_entry k h =
    let l : length entries ≤ k = omega (arith, entries_long, h) in
    get_or-eq_default entries nameless l

-- word j of row k is that of its entry's row
row_word : (k j : ℕ) → k < 14 → j < 6 → get_or table_rows (6 * k + j) 0 ≡ get_or (entry_row (get_or entries k nameless)) j 0
unfolding table_rows
row_word k j h l = flat_word entry_row 6 (λ e. refl) entries k j (omega (arith, entries_long, h)) l nameless

pub record Row (k : ℕ) (e : Entry) : Type 0 where
  pub inside : get_or table_rows (6 * k) 0 ≡ e.inside
  pub start : get_or table_rows (6 * k + 1) 0 ≡ e.start
  pub end : get_or table_rows (6 * k + 2) 0 ≡ e.end

pub row : (k : ℕ) → k < 14 → Row k (get_or entries k nameless)
row k h =
    let z : 6 * k + 0 ≡ 6 * k = omega arith in
    record {
      inside = ap (λ (n : ℕ). get_or table_rows n 0) (sym z) ∙ row_word k 0 h (omega arith);
      start = row_word k 1 h (omega arith);
      end = row_word k 2 h (omega arith);
    }

-- word j of an entry, also of one that is not there, whose words are 0
word_as : (k j : ℕ) → j < 6 → 0 ≡ get_or (entry_row nameless) j 0 → entry_word table_rows k j ≡ get_or (entry_row (entry_at k)) j 0
word_as zero j l z = z
word_as (suc k) j l z = go (ltb k 14) refl
  where
    go : (b : Bool) → ltb k 14 ≡ b → entry_word table_rows (suc k) j ≡ get_or (entry_row (entry_at (suc k))) j 0
    go true e = rw e (row_word k j (ltb-true k 14 e) l)
    go false e = rw e (z ∙ ap (λ (x : Entry). get_or (entry_row x) j 0) (sym (past_entry k (ltb-false k 14 e))))

-- every word of an entry
pub record Words (rows : List ℕ) (k : ℕ) (e : Entry) : Type 0 where
  pub start : entry_word rows k 1 ≡ e.start
  pub end : entry_word rows k 2 ≡ e.end
  pub kind : entry_word rows k 3 ≡ kind_of e.value
  pub low : entry_word rows k 4 ≡ low_of e.value
  pub high : entry_word rows k 5 ≡ high_of e.value

pub words : (k : ℕ) → Words table_rows k (entry_at k)
words k =
    record {
      start = word_as k 1 (omega arith) refl;
      end = word_as k 2 (omega arith) refl;
      kind = word_as k 3 (omega arith) refl;
      low = word_as k 4 (omega arith) refl;
      high = word_as k 5 (omega arith) refl;
    }

-- ---- the search: from the entry in row i on

module _ (m : ℕ) (bs : List ℕ) where
  abbrev pub from : ℕ → Option ℕ
  from i = lookup_from (drop i entries) (suc i) m bs

  hit_is : (i : ℕ) → i < 14 → is_hit table_rows table_text i m bs ≡ (eqb (get_or entries i nameless).inside m && same (entry_name (get_or entries i nameless)) bs)
  hit_is i h =
      let r = row i h in
      rw (r.inside, r.start, r.end)

  step_in : (es : List Entry) (i k : ℕ) → i < length es
      → lookup_from (drop i es) k m bs
      ≡ if' (eqb (get_or es i nameless).inside m && same (entry_name (get_or es i nameless)) bs) (some k) (lookup_from (drop (suc i) es) (suc k) m bs)
  unfolding lookup_from
  step_in es i k l = rw (drop-cons es i nameless l)

  step : (i : ℕ) → i < 14 → from i ≡ if' (is_hit table_rows table_text i m bs) (some (i + 1)) (from (i + 1))
  step i h =
      let l : i < length entries = omega (arith, entries_long, h) in
      let n : suc i ≡ i + 1 = omega arith in
      subst (λ (k : ℕ). from i ≡ if' (is_hit table_rows table_text i m bs) (some k) (from k)) n
      (step_in entries i (suc i) l ∙ ap (λ (b : Bool). if' b (some (suc i)) (from (suc i))) (sym (hit_is i h)))

  pub found : (i : ℕ) → i < 14 → is_hit table_rows table_text i m bs ≡ true → i + 1 ≡ or_zero (from i)
  found i h e = rw (step i h, e)

  pub missed : (i : ℕ) → i < 14 → is_hit table_rows table_text i m bs ≡ false → or_zero (from (i + 1)) ≡ or_zero (from i)
  missed i h e = rw (step i h, e)

  pub ended : (i : ℕ) → 14 ≤ i → 0 ≡ or_zero (from i)
  unfolding lookup_from
  ended i h =
      let l : length entries ≤ i = omega (arith, entries_long, h) in
      rw (drop_of_length-le entries l)

-- ---- a word of an entry

pub word_past : (rows : List ℕ) (k j : ℕ) → 14 < k → 0 ≡ entry_word rows k j
word_past rows zero j h = refl
word_past rows (suc k) j h =
    let l : 14 ≤ k = omega (arith, h) in
    rw (le-ltb k 14 l)

pub word_at : (rows : List ℕ) (k j : ℕ) → (k ≡ 0 → ⊥) → k ≤ 14 → get_or rows ((k - 1) * 6 + j) 0 ≡ entry_word rows k j
word_at rows zero j n h = absurd (n refl)
word_at rows (suc k) j n h =
    let l : k < 14 = omega (arith, h) in
    let e : (suc k - 1) * 6 + j ≡ 6 * k + j = omega arith in
    rw (lt-ltb k 14 l, e)

-- ---- what an entry is

module _ {rows : List ℕ} (e : rows ≡ table_rows) (k : ℕ) where
  word_is : (j n : ℕ) → entry_word table_rows k j ≡ n → {r : ℕ} → r ≡ entry_word rows k j → r ≡ n
  word_is j n w p = p ∙ ap (λ (t : List ℕ). entry_word t k j) e ∙ w

  pub module_is : {a b c : ℕ} → a ≡ entry_word rows k 1 → b ≡ entry_word rows k 2 → c ≡ entry_word rows k 3 → ltb a b && eqb c 0 ≡ is_module k
  unfolding is_module
  module_is p q r = rw (word_is 1 _ (words k).start p, word_is 2 _ (words k).end q, word_is 3 _ (words k).kind r)

  pub function_is : {a b : ℕ} → a ≡ entry_word rows k 3 → b ≡ entry_word rows k 4 → eqb a 14 && eqb b k ≡ is_function_entry k
  unfolding is_function_entry
  function_is p q = rw (word_is 3 _ (words k).kind p, word_is 4 _ (words k).low q)

  pub span_is : (start end : ℕ) {a b : ℕ} → a ≡ entry_word rows k 1 → b ≡ entry_word rows k 2 → eqb a start && eqb b end ≡ has_span k start end
  unfolding has_span
  span_is start end p q = rw (word_is 1 _ (words k).start p, word_is 2 _ (words k).end q)

-- ---- the search of a function: from the entry numbered k on

module _ (start end : ℕ) where
  function_step : (k : ℕ) → k ≤ 14
      → function_from (15 - k) k start end ≡ if' (is_function_entry k && has_span k start end) k (function_from (15 - (k + 1)) (k + 1) start end)
  unfolding function_from
  function_step k h =
      let a : 15 - k ≡ suc (14 - k) = omega arith in
      let b : 14 - k ≡ 15 - (k + 1) = omega arith in
      let c : suc k ≡ k + 1 = omega arith in
      rw (a, b, c)

  module _ {a b : Bool} (k : ℕ) (h : k ≤ 14) (p : a ≡ is_function_entry k) (q : b ≡ has_span k start end) where
    pub function_found : a && b ≡ true → k ≡ function_from (15 - k) k start end
    function_found e = rw (function_step k h, sym p, sym q, e)

    pub function_missed : a && b ≡ false → function_from (15 - (k + 1)) (k + 1) start end ≡ function_from (15 - k) k start end
    function_missed e = rw (function_step k h, sym p, sym q, e)

  pub function_ended : (k : ℕ) → 14 < k → 0 ≡ function_from (15 - k) k start end
  unfolding function_from
  function_ended k h = let a : 15 - k ≡ 0 = omega arith in rw a

  pub function_start : function_from (15 - 1) 1 start end ≡ function_named start end
  unfolding function_named
  function_start = refl

-- ---- no two functions have one name

own_name : ℕ → Bool
own_name k = not (is_function_entry k) || eqb (function_named (entry_at k).start (entry_at k).end) k

past_table : (k : ℕ) → 14 < k → is_function_entry k ≡ false
unfolding is_function_entry
past_table zero h = absurd (omega arith)
past_table (suc k) h = rw (past_entry k (omega arith))

own_names : up_to own_name 15 ≡ true
unfolding own_name is_function_entry function_named function_from has_span entries
own_names = refl

pub function_own : (k : ℕ) → is_function_entry k ≡ true → function_named (entry_at k).start (entry_at k).end ≡ k
unfolding own_name
function_own k e =
    elim (dec_lt k 15) [
      | yes lt ↦ eqb-true _ k (implied (is_function_entry k) _ e (up_to_lem own_name 15 own_names k lt))
      | no ge ↦ absurd (false≢true (sym (past_table k (omega arith)) ∙ e))
    ]

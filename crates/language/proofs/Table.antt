-- What holds of every entry of the constant table, by going through it once.
use Prim.Native.Nat.{ℕ, zero, suc, ◌≤◌}
use mathlib.Core.Path.{◌≡◌, refl}
use mathlib.Core.Bool.{true, ◌&&◌}
use mathlib.Core.List.{List, [], ◌∷◌}
use mathlib.Core.Option.{none}
use borrow.Author.Tests.{ltb-true, leb-true}
use lib.Dec.{ltb, leb}
use lib.ListN.{length, get_or}
use Rattle.language.specs.Values.{Entry, entry, table_text, entries, entry_at, FewParams}
use Rattle.language.specs.Terms.{function_of}
use Rattle.language.specs.Checks.{PartOf}
use Rattle.language.proofs.Tests.{both}
use Rattle.language.proofs.Each.{Each, All, each_all}
use Rattle.language.proofs.Judging.{no_param}

-- an entry past the end
abbrev pub no_entry : Entry
no_entry = entry 0 0 0 none

get_or_all : {A : Type 0} (P : A → Type 0) (xs : List A) (k : ℕ) (d : A) → P d → All P xs → P (get_or xs k d)
get_or_all P [] k d n h = n
get_or_all P (x ∷ xs) zero d n h = h.0
get_or_all P (x ∷ xs) (suc k) d n h = get_or_all P xs k d n h.1

pub entry_all : (P : Entry → Type 0) → P no_entry → All P entries → (k : ℕ) → P (entry_at k)
entry_all P n h zero = n
entry_all P n h (suc k) = get_or_all P entries k no_entry n h

-- a part of the table's text, by a test
pub part : (start end : ℕ) → ltb start end && leb end (length table_text) ≡ true → PartOf table_text start end
part start end e =
    let h = both (ltb start end) (leb end (length table_text)) e in
    (ltb-true start end h.0, leb-true end (length table_text) h.1)

-- ---- what functions take and give

-- "no function has more than two", by one computed test
few_by_test : (es : List Entry) → All (λ e. leb (length e.params) 2 ≡ true) es → All (λ e. length e.params ≤ 2) es
few_by_test [] h = tt
few_by_test (e ∷ es) h = (leb-true _ 2 h.0, few_by_test es h.1)

pub few_params : FewParams
unfolding entries
few_params k =
    entry_all (λ e. length e.params ≤ 2) (leb-true 0 2 refl)
    (few_by_test entries (refl, (refl, (refl, (refl, (refl, (refl, (refl, (refl, (refl, (refl, (refl, (refl, (refl, (refl, tt))))))))))))))) k

-- no function gives or takes a function
pub gives_plain : (k : ℕ) → function_of (entry_at k).gives ≡ none
unfolding entries
gives_plain k =
    entry_all (λ e. function_of e.gives ≡ none) refl
    (refl, (refl, (refl, (refl, (refl, (refl, (refl, (refl, (refl, (refl, (refl, (refl, (refl, (refl, tt)))))))))))))) k

pub takes_plain : (k i : ℕ) → function_of (get_or (entry_at k).params i no_param).type ≡ none
unfolding entries
takes_plain k i =
    get_or_all (λ p. function_of p.type ≡ none) (entry_at k).params i no_param refl
    (entry_all (λ e. All (λ p. function_of p.type ≡ none) e.params) tt
    (tt, (tt, (tt, (tt, (tt, (tt, ((refl, tt), (tt, (tt, ((refl, tt), ((refl, (refl, tt)), ((refl, tt), ((refl, tt), ((refl, tt), tt)))))))))))))) k)

-- each parameter has a name
pub params_named : (k : ℕ) → Each (λ p. PartOf table_text p.start p.end) (entry_at k).params
unfolding entries table_text
params_named k =
    each_all (entry_at k).params (entry_all (λ e. All (λ p. PartOf table_text p.start p.end) e.params) tt (
      tt,
      (
        tt,
        (
          tt,
          (
            tt,
            (
              tt,
              (
                tt,
                (
                  (part 52 54 refl, tt),
                  (
                    tt,
                    (
                      tt,
                      (
                        (part 43 47 refl, tt),
                        (
                          (part 52 54 refl, (part 54 58 refl, tt)),
                          ((part 62 64 refl, tt), ((part 68 72 refl, tt), ((part 76 82 refl, tt), tt))),
                        ),
                      ),
                    ),
                  ),
                ),
              ),
            ),
          ),
        ),
      ),
    ) k)

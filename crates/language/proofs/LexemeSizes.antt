-- Sizes: each lexeme has a byte at least, and ends within the line.
use Prim.Native.Nat.{ℕ, zero, suc, ◌+◌, ◌-◌, ◌≤◌, ◌<◌}
use mathlib.Core.Path.{◌≡◌, refl, ap}
use mathlib.Core.Bool.{Bool, true, false, or-true}
use mathlib.Core.List.{List, [], ◌∷◌}
use mathlib.Core.Option.{Option, none, some}
use native.Mathlib.Omega.{arith}
use native.Mathlib.Decide.{dec_lt}
use borrow.Author.Tests.{ltb-true, eqb-true, eqb-false}
use lib.Dec.{ltb, eqb}
use lib.ListN.{length, get_or, take, drop, length-append, length-drop, get_or-eq_default}
use Rattle.language.specs.Choice.{if'}
use Rattle.language.specs.Utf8.{Char, char, no_char, char_at}
use Rattle.language.specs.Lexemes.{Tok, Kind, Lexeme, lexeme_of, run, is_blank, blank_run, is_digit, is_word, is_word_start, is_body, not_newline, octet, joined, Quad, quad, not_quad, further, quad_from, quad_lexeme, number, string, punctuation, ascii, lexeme_at, lexeme, SizeFits}
use Rattle.language.proofs.Tests.{by_cases}
use Rattle.language.proofs.Utf8Rows.{not_empty, character_at}

-- ---- runs

-- a run ends within the list
pub run_fits : (p : ℕ → Bool) (s : List ℕ) → run p s ≤ length s
run_fits p [] = omega arith
run_fits p (b ∷ s) = by_cases (λ (n : ℕ). n ≤ suc (length s)) (p b) (λ _. omega (arith, run_fits p s)) (λ _. omega arith)

-- a run of blank characters ends within the list
blanks_fit : (skip : ℕ) (s : List ℕ) → blank_run skip s ≤ length s
unfolding blank_run
blanks_fit zero [] = omega arith
blanks_fit (suc skip) [] = omega arith
blanks_fit (suc skip) (b ∷ s) = omega (arith, blanks_fit skip s)
blanks_fit zero (b ∷ s) = go (char_at (b ∷ s)) refl (λ skip. blanks_fit skip s)
  where
    go : (c : Char) → char_at (b ∷ s) ≡ c → ((skip : ℕ) → blank_run skip s ≤ length s) → blank_run 0 (b ∷ s) ≤ suc (length s)
    go no_char e more = rw (e, blank_run) (omega arith)
    go (char n size) e more =
        rw (e, blank_run) (by_cases (λ (m : ℕ). m ≤ suc (length s)) (is_blank n) (λ _. omega (arith, more (size - 1))) (λ _. omega arith))

-- a byte that is not 0 stands within the list
pub stands : (s : List ℕ) (n c : ℕ) → ltb 0 c ≡ true → eqb (get_or s n 0) c ≡ true → n < length s
stands s n c h e =
    elim (dec_lt n (length s)) [
      | yes l ↦ l
      | no g ↦ absurd (omega (arith, ltb-true 0 c h, eqb-true (get_or s n 0) c e, get_or-eq_default s 0 {n = n} (omega arith)))
    ]

-- ---- quads

-- a quad that is found has a byte, and m at most
data QuadFits (m : ℕ) : Quad → Type 0 where
  fit : (n : ℕ) {a : Option ℕ} → 0 < n → n ≤ m → QuadFits m (quad n a)
  unfit : QuadFits m not_quad

-- n bytes, and a quad after them
further_fits : (n : ℕ) (s : List ℕ) {q : Quad} → n ≤ length s → QuadFits (length (drop n s)) q → QuadFits (length s) (further n q)
further_fits n s l (fit m h k) = let z = rw length-drop at k in fit (n + m) (omega arith) (omega arith)
further_fits n s l unfit = unfit

-- a quad ends within the list
quad_fits : (dots : ℕ) (a : Option ℕ) (s : List ℕ) → QuadFits (length s) (quad_from dots a s)
unfolding quad_from
quad_fits zero a s =
    let n = run is_digit s in
    by_cases (QuadFits (length s)) (eqb n 0) (λ _. unfit) (λ e. fit n (omega (arith, eqb-false n 0 e)) (run_fits is_digit s))
quad_fits (suc dots) a s =
    let n = run is_digit s in
    by_cases (QuadFits (length s)) (eqb n 0) (λ _. unfit)
    (λ _. by_cases (QuadFits (length s)) (eqb (get_or s n 0) 46)
    (λ e. further_fits (suc n) s (stands s n 46 refl e) (quad_fits dots (joined a (octet (take n s))) (drop (suc n) s))) (λ _. unfit))

-- ---- lexemes

-- a lexeme has a byte, and n at most
record Fits (n : ℕ) (l : Lexeme) : Type 0 where
  some_byte : 0 < l.size
  in_room : l.size ≤ n

-- a lexeme of m bytes
sized : {n : ℕ} {k : Kind} (m : ℕ) → 0 < m → m ≤ n → Fits n (lexeme_of k m)
sized m a z = record { some_byte = a; in_room = z }

-- where both branches fit, an `if'` does
fits : {n : ℕ} (t : Bool) {a b : Lexeme} → (t ≡ true → Fits n a) → (t ≡ false → Fits n b) → Fits n (if' t a b)
fits {n} t f g = by_cases (Fits n) t f g

-- a byte alone
alone : {k : Kind} (s : List ℕ) → Fits (suc (length s)) (lexeme_of k 1)
alone s = sized 1 (omega arith) (omega arith)

-- a byte, and a run after it
and_run : {k : Kind} (p : ℕ → Bool) (s : List ℕ) → Fits (suc (length s)) (lexeme_of k (1 + run p s))
and_run p s = sized (1 + run p s) (omega arith) (omega (arith, run_fits p s))

-- a byte, n more, and one that stands after them
closed : {k : Kind} (s : List ℕ) (n c : ℕ) → ltb 0 c ≡ true → eqb (get_or s n 0) c ≡ true → Fits (suc (length s)) (lexeme_of k (n + 2))
closed s n c h e = let z = stands s n c h e in sized (n + 2) (omega arith) (omega arith)

-- a run that the first byte begins
whole_run : {k : Kind} (p : ℕ → Bool) (b : ℕ) (s : List ℕ) → p b ≡ true → Fits (suc (length s)) (lexeme_of k (run p (b ∷ s)))
whole_run p b s e = sized (run p (b ∷ s)) (rw e (omega arith)) (run_fits p (b ∷ s))

-- a quad, and a run after it
quad_and_run : (n : ℕ) (a : Option ℕ) (more m : ℕ) → 0 < n → n + more ≤ m → Fits m (quad_lexeme n a more)
quad_and_run n (some a) zero m h l = sized n h (omega arith)
quad_and_run n (some a) (suc more) m h l = sized (n + suc more) (omega arith) l
quad_and_run n none more m h l = sized (n + more) (omega arith) l

-- what starts with a digit: a quad, or a word
number_fits : (b : ℕ) (s : List ℕ) → is_word b ≡ true → Fits (suc (length s)) (number (b ∷ s))
unfolding number
number_fits b s h = go refl (quad_fits 3 (some 0) (b ∷ s))
  where
    go : {q : Quad} → quad_from 3 (some 0) (b ∷ s) ≡ q → QuadFits (suc (length s)) q → Fits (suc (length s)) (number (b ∷ s))
    go e (fit n {a} k l) =
        let m = rw length-drop at (run_fits is_word (drop n (b ∷ s))) in
        rw (e, number) (quad_and_run n a (run is_word (drop n (b ∷ s))) (suc (length s)) k (omega arith))
    go e unfit = rw (e, number) (whole_run is_word b s h)

-- what a quote starts, before the rest s
string_fits : (s : List ℕ) → Fits (suc (length s)) (string s)
unfolding string
string_fits s =
    let n = run is_body s in
    fits (eqb (get_or s n 0) 34) (λ e. closed s n 34 refl e) (λ _. sized (n + 1) (omega arith) (omega (arith, run_fits is_body s)))

-- letters and digits are word characters
pub start_is_word : (b : ℕ) → is_word_start b ≡ true → is_word b ≡ true
unfolding is_word
start_is_word b e = rw e

pub digit_is_word : (b : ℕ) → is_digit b ≡ true → is_word b ≡ true
unfolding is_word
digit_is_word b e = rw e (or-true (is_word_start b))

-- what an ASCII character starts
ascii_fits : (o : Option Tok) (b : ℕ) (s : List ℕ) → punctuation b ≡ o → Fits (suc (length s)) (ascii b s)
unfolding ascii
ascii_fits (some t) b s e = rw (e, ascii) (alone s)
ascii_fits none b s e =
    rw (e, ascii)
    (fits (eqb b 35) (λ _. and_run not_newline s)
    (λ _. fits (eqb b 47) (λ _. fits (eqb (get_or s 0 0) 47) (λ _. and_run not_newline s) (λ _. alone s))
    (λ _. fits (eqb b 58) (λ _. fits (eqb (get_or s 0 0) 58) (λ h. closed s 0 58 refl h) (λ _. alone s))
    (λ _. fits (eqb b 34) (λ _. string_fits s)
    (λ _. fits (is_word_start b) (λ h. whole_run is_word b s (start_is_word b h))
    (λ _. fits (is_digit b) (λ h. number_fits b s (digit_is_word b h))
    (λ _. alone s)))))))

-- what a character starts
lexeme_at_fits : (c : Char) (b : ℕ) (s : List ℕ) → char_at (b ∷ s) ≡ c → Fits (suc (length s)) (lexeme_at c b s)
unfolding blank_run
lexeme_at_fits no_char b s e = alone s
lexeme_at_fits (char c size) b s e =
    let k = character_at (b ∷ s) c size e in
    fits (is_blank c) (λ h. sized (blank_run 0 (b ∷ s)) (rw (e, blank_run, h) (omega arith)) (blanks_fit 0 (b ∷ s)))
    (λ _. fits (ltb c 128) (λ _. ascii_fits (punctuation b) b s refl)
    (λ _. sized size (omega (arith, not_empty c k.0, k.1)) (omega (arith, k.1, simp length-append at (ap length k.2.1)))))

pub size_fits : SizeFits
unfolding lexeme
size_fits b s = let h = lexeme_at_fits (char_at (b ∷ s)) b s refl in (h.some_byte, h.in_room)

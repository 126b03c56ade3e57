-- A list of bytes before other bytes z: its first lexeme is the same as without them, or it goes on into them, and then
-- they do not start with byte 10.
use Prim.Native.Nat.{ℕ, zero, suc, ◌+◌, ◌-◌, ◌≤◌, ◌<◌}
use mathlib.Core.Path.{◌≡◌, refl, sym, ap, ◌∙◌}
use mathlib.Core.Bool.{Bool, true, false, false≢true}
use mathlib.Core.List.{List, [], ◌∷◌, ◌++◌}
use mathlib.Core.Option.{Option, none, some}
use native.Mathlib.Omega.{arith}
use native.Mathlib.Decide.{dec_lt}
use borrow.Author.Tests.{ltb-true, eqb-true, le-leb, ne_eqb}
use lib.Dec.{ltb, eqb}
use lib.ListN.{length, get_or, take, drop, length-append, length-drop, get_or-eq_default, get_or-append}
use lib.Seq.{take-append-le, drop-append-le, get_or-append-add}
use Rattle.language.specs.Choice.{if', within}
use Rattle.language.specs.Utf8.{encode, Char, char, no_char, lead_of, follow, begun, char_at}
use Rattle.language.specs.Lexemes.{Tok, word, Kind, trivia, tok, error, unexpected_char, Lexeme, lexeme_of, run, is_blank, blank_run, is_digit, is_word, is_word_start, is_body, not_newline, octet, joined, Quad, quad, not_quad, further, quad_from, quad_lexeme, integer, number, string, comment, punctuation, ascii, lexeme_at, lexeme}
use Rattle.language.proofs.Tests.{both_sides, inside, by_cases}
use Rattle.language.proofs.Utf8Rows.{at, Bounds, bounds, by_rows, character_at}

-- z has a first byte, and it is not 10
abbrev Goes : List ℕ → Type 0
Goes z = eqb (get_or z 0 10) 10 ≡ false

-- then it has a byte
goes_on_lem : (z : List ℕ) → Goes z → 0 < length z
goes_on_lem [] g = absurd (false≢true (sym g))
goes_on_lem (b ∷ z) g = omega arith

-- a is found in m bytes, and b in the same before z: b is a, or it ends in z
data Cut {A : Type 0} (size : A → ℕ) (m : ℕ) (z : List ℕ) : A → A → Type 0 where
  same : (a : A) → size a ≤ m → Cut size m z a a
  past : {a : A} (b : A) → m < size b → Goes z → Cut size m z a b

-- ---- runs

-- a run stops in m bytes, or takes all and goes on
data RunCut (m : ℕ) (z : List ℕ) : ℕ → ℕ → Type 0 where
  stays : (n : ℕ) → n ≤ m → RunCut m z n n
  leaves : (n : ℕ) → m < n → Goes z → RunCut m z m n

-- one more byte
run_more : {m a b : ℕ} {z : List ℕ} → RunCut m z a b → RunCut (suc m) z (suc a) (suc b)
run_more (stays n l) = stays (suc n) (omega arith)
run_more (leaves n l g) = leaves (suc n) (omega arith) g

-- a byte with p is not 10, where 10 is without
not_ten : (p : ℕ → Bool) (b : ℕ) → p 10 ≡ false → p b ≡ true → eqb b 10 ≡ false
not_ten p b h e = ne_eqb b 10 (λ f. false≢true (sym h ∙ ap p (sym f) ∙ e))

-- a run of bytes with p, where 10 is without
run_cut : (p : ℕ → Bool) (s z : List ℕ) → p 10 ≡ false → RunCut (length s) z (run p s) (run p (s ++ z))
run_cut p [] [] h = stays 0 (omega arith)
run_cut p [] (b ∷ z) h =
    by_cases (RunCut 0 (b ∷ z) 0) (p b) (λ e. leaves (suc (run p z)) (omega arith) (not_ten p b h e)) (λ _. stays 0 (omega arith))
run_cut p (b ∷ s) z h = both_sides (RunCut (suc (length s)) z) (p b) (λ _. run_more (run_cut p s z h)) (λ _. stays 0 (omega arith))

-- ---- one byte

-- the byte numbered n is, or is not, the one that is looked for; or it is the first of z
data Peek (n m : ℕ) (z : List ℕ) : Bool → Bool → Type 0 where
  found : n < m → Peek n m z true true
  missed : Peek n m z false false
  beyond : m ≤ n → Goes z → Peek n m z false true

-- what is looked for is not 10, nor the 0 that stands for no byte
peek : (s z : List ℕ) (n c : ℕ) → n ≤ length s → ltb 10 c ≡ true → Peek n (length s) z (eqb (get_or s n 0) c) (eqb (get_or (s ++ z) n 0) c)
peek s z n c l h =
    elim (dec_lt n (length s)) [
      | yes k ↦ rw (get_or-append s z 0 n k) (either_test (eqb (get_or s n 0) c) k)
      | no k ↦
          let e : n ≡ length s + 0 = omega arith in
          let f : get_or (s ++ z) n 0 ≡ get_or z 0 0 = rw (e, get_or-append-add) in
          rw (get_or-eq_default s 0 {n = n} (omega arith), f, ne_eqb 0 c (λ g. omega (arith, more))) (first z (omega arith))
    ]
  where
    more : 10 < c
    more = ltb-true 10 c h

    either_test : (t : Bool) → n < length s → Peek n (length s) z t t
    either_test true k = found k
    either_test false k = missed

    first : (z : List ℕ) → length s ≤ n → Peek n (length s) z false (eqb (get_or z 0 0) c)
    first [] k = rw (ne_eqb 0 c (λ g. omega (arith, more))) missed
    first (b ∷ z) k = go (eqb b c) refl
      where
        go : (t : Bool) → eqb b c ≡ t → Peek n (length s) (b ∷ z) false t
        go true e = beyond k (ne_eqb b 10 (λ g. omega (arith, more, eqb-true b c e)))
        go false e = missed

-- what a test of a byte chooses
peeked : {A : Type 0} (P : A → A → Type 0) {n m : ℕ} {z : List ℕ} {t u : Bool} {a b c d : A} → Peek n m z t u
    → (n < m → P a c) → P b d → (m ≤ n → Goes z → P b c) → P (if' t a b) (if' u c d)
peeked P (found l) f g h = f l
peeked P missed f g h = g
peeked P (beyond l k) f g h = h l k

-- ---- characters

-- a character is read, or none, or one that ends in z
data CharCut (m : ℕ) (z : List ℕ) : Char → Char → Type 0 where
  read : (n size : ℕ) → size ≤ m → CharCut m z (char n size) (char n size)
  unread : CharCut m z no_char no_char
  split : (n size : ℕ) → m < size → Goes z → CharCut m z no_char (char n size)

-- a character that ends past m bytes
far : {m : ℕ} {y : List ℕ} (size left low high bits : ℕ) (s : List ℕ) → m < size → Goes y
    → CharCut m y no_char (follow size left low high bits s)
unfolding follow
far size zero low high bits s l g = split bits size l g
far size (suc left) low high bits [] l g = unread
far {m} {y} size (suc left) low high bits (b ∷ s) l g =
    by_cases (CharCut m y no_char) (within low high b) (λ _. far size left 0x80 0xBF _ s l g) (λ _. unread)

-- the bytes that follow a first one, which are not 10
follow_cut : (m size left low high bits : ℕ) (s z : List ℕ) → 10 < low → size + length s ≡ left + m
    → CharCut m z (follow size left low high bits s) (follow size left low high bits (s ++ z))
unfolding follow
follow_cut m size zero low high bits s z h e = read bits size (omega arith)
follow_cut m size (suc left) low high bits [] [] h e = unread
follow_cut m size (suc left) low high bits [] (b ∷ z) h e =
    by_cases (CharCut m (b ∷ z) no_char) (within low high b)
    (λ k. far size left 0x80 0xBF _ z (omega arith) (ne_eqb b 10 (λ f. omega (arith, (inside low high b k).0)))) (λ _. unread)
follow_cut m size (suc left) low high bits (b ∷ s) z h e =
    both_sides (CharCut m z) (within low high b) (λ _. follow_cut m size left 0x80 0xBF _ s z (omega arith) (omega arith)) (λ _. unread)

-- the first character, by the rows of `lead_of`
char_cut : (b : ℕ) (s z : List ℕ) → CharCut (suc (length s)) z (char_at (b ∷ s)) (char_at (b ∷ s ++ z))
unfolding char_at
char_cut b s z =
    by_rows (λ o. CharCut (suc (length s)) z (begun o s) (begun o (s ++ z))) b
    (λ r a _. follow_cut (suc (length s)) _ r.tails r.next r.last _ s z (omega (arith, (at Bounds bounds a).tail_least)) (omega arith))
    unread

-- ---- blank characters

-- bytes to skip are stepped over
steps : (n skip : ℕ) (s : List ℕ) → n ≤ skip → n ≤ length s → n ≤ blank_run skip s
unfolding blank_run
steps n zero s h l = omega arith
steps n (suc skip) [] h l = omega arith
steps n (suc skip) (b ∷ s) h l = omega (arith, steps (n - 1) skip s (omega arith) (omega arith))

-- a blank character that ends in z
blank_far : (b n size : ℕ) (s z : List ℕ) → char_at (b ∷ s ++ z) ≡ char n size → is_blank n ≡ true → suc (length s) < size → Goes z
    → suc (length s) < blank_run 0 (b ∷ s ++ z)
unfolding blank_run
blank_far b n size s z e h l g =
    let k = goes_on_lem z g in
    rw (e, blank_run, h) (omega (arith, steps (suc (length s)) (size - 1) (s ++ z) (omega arith) (rw length-append (omega arith))))

-- a count is its own size
abbrev itself : ℕ → ℕ
itself n = n

-- one more byte
one_more_lem : {m a b : ℕ} {z : List ℕ} → Cut itself m z a b → Cut itself (suc m) z (suc a) (suc b)
one_more_lem (same a l) = same (suc a) (omega arith)
one_more_lem (past b l g) = past (suc b) (omega arith) g

-- the blank characters that z starts with: byte 10 is none
blank_first : (z : List ℕ) → Cut itself 0 z 0 (blank_run 0 z)
unfolding blank_run char_at lead_of follow is_blank
blank_first [] = same 0 (omega arith)
blank_first (b ∷ z) = go (eqb b 10) (blank_run 0 (b ∷ z)) refl refl
  where
    go : (t : Bool) (n : ℕ) → eqb b 10 ≡ t → blank_run 0 (b ∷ z) ≡ n → Cut itself 0 (b ∷ z) 0 n
    go t zero e f = same 0 (omega arith)
    go false (suc n) e f = past (suc n) (omega arith) e
    go true (suc n) e f = let k : blank_run 0 (b ∷ z) ≡ 0 = rw (eqb-true b 10 e) in absurd (omega arith)

-- a run of blank characters, after bytes to skip
blanks_cut : (skip : ℕ) (s z : List ℕ) → skip ≤ length s → Cut itself (length s) z (blank_run skip s) (blank_run skip (s ++ z))
unfolding blank_run
blanks_cut zero [] z l = blank_first z
blanks_cut (suc skip) [] z l = absurd (omega arith)
blanks_cut (suc skip) (b ∷ s) z l = one_more_lem (blanks_cut skip s z (omega arith))
blanks_cut zero (b ∷ s) z l = go refl refl (char_cut b s z) (λ skip. blanks_cut skip s z)
  where
    go : {c d : Char} → char_at (b ∷ s) ≡ c → char_at (b ∷ s ++ z) ≡ d → CharCut (suc (length s)) z c d
        → ((skip : ℕ) → skip ≤ length s → Cut itself (length s) z (blank_run skip s) (blank_run skip (s ++ z)))
        → Cut itself (suc (length s)) z (blank_run 0 (b ∷ s)) (blank_run 0 (b ∷ s ++ z))
    go e f (read n size k) more =
        rw (e, f, blank_run)
        (both_sides (Cut itself (suc (length s)) z) (is_blank n) (λ _. one_more_lem (more (size - 1) (omega arith))) (λ _. same 0 (omega arith)))
    go e f unread more = rw (e, f, blank_run) (same 0 (omega arith))
    go e f (split n size k g) more = far_blank (is_blank n) refl
      where
        far_blank : (t : Bool) → is_blank n ≡ t → Cut itself (suc (length s)) z (blank_run 0 (b ∷ s)) (blank_run 0 (b ∷ s ++ z))
        far_blank true h = past (blank_run 0 (b ∷ s ++ z)) (blank_far b n size s z f h k g) g
        far_blank false h = rw (e, f, blank_run, h) (same 0 (omega arith))

-- ---- quads

-- the bytes of a quad
abbrev quad_size : Quad → ℕ
quad_size (quad n a) = n
quad_size not_quad = 0

-- a quad after m bytes or more
unfinished : {m : ℕ} {z : List ℕ} (n : ℕ) (q : Quad) → m ≤ n → Goes z → Cut quad_size m z not_quad (further (suc n) q)
unfinished n (quad k a) l g = past (quad (suc n + k) a) (omega arith) g
unfinished n not_quad l g = same not_quad (omega arith)

-- n bytes, and a quad after them
further_cut : {m : ℕ} {z : List ℕ} {q r : Quad} (n k : ℕ) → n + m ≡ k → Cut quad_size m z q r
    → Cut quad_size k z (further n q) (further n r)
further_cut n k e (same (quad i a) l) = same (quad (n + i) a) (omega arith)
further_cut n k e (same not_quad l) = same not_quad (omega arith)
further_cut n k e (past (quad i a) l g) = past (quad (n + i) a) (omega arith) g
further_cut n k e (past not_quad l g) = absurd (omega arith)

-- no quad on both sides
none_found : {m : ℕ} {z : List ℕ} → Cut quad_size m z not_quad not_quad
none_found = same not_quad (omega arith)

-- no quad in both branches
neither : (t : Bool) → if' t not_quad not_quad ≡ not_quad
neither true = refl
neither false = refl

-- digits with dots between
quad_cut : (dots : ℕ) (a : Option ℕ) (s z : List ℕ) → Cut quad_size (length s) z (quad_from dots a s) (quad_from dots a (s ++ z))
unfolding quad_from is_digit
quad_cut zero a s z = go refl refl (run_cut is_digit s z refl)
  where
    go : {i j : ℕ} → run is_digit s ≡ i → run is_digit (s ++ z) ≡ j → RunCut (length s) z i j
        → Cut quad_size (length s) z (quad_from zero a s) (quad_from zero a (s ++ z))
    go e f (stays n l) =
        rw (e, f, take-append-le n s z)
        (by_cases (λ q. Cut quad_size (length s) z q q) (eqb n 0) (λ _. none_found) (λ _. same (quad n _) l))
    go e f (leaves n l g) = rw (f, ne_eqb n 0 (λ h. omega arith)) (past (quad n _) l g)
quad_cut (suc dots) a s z = go refl refl (run_cut is_digit s z refl) (λ o r. quad_cut dots o r z)
  where
    go : {i j : ℕ} → run is_digit s ≡ i → run is_digit (s ++ z) ≡ j → RunCut (length s) z i j
        → ((o : Option ℕ) (r : List ℕ) → Cut quad_size (length r) z (quad_from dots o r) (quad_from dots o (r ++ z)))
        → Cut quad_size (length s) z (quad_from (suc dots) a s) (quad_from (suc dots) a (s ++ z))
    go e f (stays n l) more =
        rw (e, f, take-append-le n s z)
        (both_sides (Cut quad_size (length s) z) (eqb n 0) (λ _. none_found)
        (λ _. peeked (Cut quad_size (length s) z) (peek s z n 46 l refl)
        (λ k. rw (drop-append-le (suc n) s z k) (further_cut (suc n) (length s) (rw length-drop (omega arith)) (more _ (drop (suc n) s))))
        none_found (λ k g. unfinished n (quad_from dots (joined a (octet (take n s))) (drop (suc n) (s ++ z))) k g)))
    go e f (leaves n l g) more =
        rw (e, f, get_or-eq_default s 0 {n = length s} (omega arith), neither (eqb (length s) 0))
        (by_cases (Cut quad_size (length s) z not_quad) (eqb n 0) (λ _. none_found)
        (λ _. by_cases (Cut quad_size (length s) z not_quad) (eqb (get_or (s ++ z) n 0) 46)
        (λ _. unfinished n (quad_from dots (joined a (octet (take n (s ++ z)))) (drop (suc n) (s ++ z))) (omega arith) g) (λ _. none_found)))

-- ---- lexemes

-- the bytes of a lexeme
abbrev size_of : Lexeme → ℕ
size_of l = l.size

-- the word that a list begins with, where f says what it is
abbrev word_of : (List ℕ → Kind) → List ℕ → Lexeme
word_of f s = lexeme_of (f (take (run is_word s) s)) (run is_word s)

-- a word
word_cut : (f : List ℕ → Kind) (s z : List ℕ) → Cut size_of (length s) z (word_of f s) (word_of f (s ++ z))
unfolding is_word is_word_start is_digit
word_cut f s z = go refl refl (run_cut is_word s z refl)
  where
    go : {i j : ℕ} → run is_word s ≡ i → run is_word (s ++ z) ≡ j → RunCut (length s) z i j
        → Cut size_of (length s) z (word_of f s) (word_of f (s ++ z))
    go d e (stays n l) = rw (d, e, take-append-le n s z) (same _ l)
    go d e (leaves n l g) = rw e (past (lexeme_of _ n) l g)

-- a quad takes its bytes and the word characters after it
quad_size_lem : (n : ℕ) (a : Option ℕ) (more : ℕ) → (quad_lexeme n a more).size ≡ n + more
quad_size_lem n (some a) zero = omega arith
quad_size_lem n (some a) (suc more) = refl
quad_size_lem n none more = refl

-- a quad that is found, and word characters
quad_word : (n : ℕ) (a : Option ℕ) (s z : List ℕ) → n ≤ length s
    → Cut size_of (length s) z (quad_lexeme n a (run is_word (drop n s))) (quad_lexeme n a (run is_word (drop n (s ++ z))))
unfolding is_word is_word_start is_digit
quad_word n a s z l = rw (drop-append-le n s z l) (go (run_cut is_word (drop n s) z refl))
  where
    go : {i j : ℕ} → RunCut (length (drop n s)) z i j → Cut size_of (length s) z (quad_lexeme n a i) (quad_lexeme n a j)
    go (stays i k) = let d = rw length-drop at k in same (quad_lexeme n a i) (omega (arith, quad_size_lem n a i))
    go (leaves i k g) = let d = rw length-drop at k in past (quad_lexeme n a i) (omega (arith, quad_size_lem n a i)) g

-- what starts with a digit
number_cut : (s z : List ℕ) → Cut size_of (length s) z (number s) (number (s ++ z))
unfolding number
number_cut s z = go refl refl (quad_cut 3 (some 0) s z)
  where
    go : {q r : Quad} → quad_from 3 (some 0) s ≡ q → quad_from 3 (some 0) (s ++ z) ≡ r → Cut quad_size (length s) z q r
        → Cut size_of (length s) z (number s) (number (s ++ z))
    go e f (same (quad n a) l) = rw (e, f, number) (quad_word n a s z l)
    go e f (same not_quad l) = rw (e, f, number) (word_cut integer s z)
    go e f (past (quad n a) l g) =
        let more = run is_word (drop n (s ++ z)) in rw (f, number) (past (quad_lexeme n a more) (omega (arith, quad_size_lem n a more)) g)
    go e f (past not_quad l g) = absurd (omega arith)

-- what a quote starts, before the rest s
string_cut : (s z : List ℕ) → Cut size_of (suc (length s)) z (string s) (string (s ++ z))
unfolding string is_body
string_cut s z = go refl refl (run_cut is_body s z refl)
  where
    go : {i j : ℕ} → run is_body s ≡ i → run is_body (s ++ z) ≡ j → RunCut (length s) z i j
        → Cut size_of (suc (length s)) z (string s) (string (s ++ z))
    go e f (stays n l) =
        rw (e, f, string)
        (peeked (Cut size_of (suc (length s)) z) (peek s z n 34 l refl)
        (λ k. same (lexeme_of _ (n + 2)) (omega arith)) (same (lexeme_of _ (n + 1)) (omega arith))
        (λ k g. past (lexeme_of _ (n + 2)) (omega arith) g))
    go e f (leaves n l g) =
        rw (f, string)
        (by_cases (Cut size_of (suc (length s)) z (string s)) (eqb (get_or (s ++ z) n 0) 34)
        (λ _. past (lexeme_of _ (n + 2)) (omega arith) g) (λ _. past (lexeme_of _ (n + 1)) (omega arith) g))

-- a comment after its first byte
comment_cut : (s z : List ℕ) → Cut size_of (suc (length s)) z (comment 1 s) (comment 1 (s ++ z))
unfolding not_newline
comment_cut s z = go (run_cut not_newline s z refl)
  where
    go : {i j : ℕ} → RunCut (length s) z i j → Cut size_of (suc (length s)) z (lexeme_of trivia (1 + i)) (lexeme_of trivia (1 + j))
    go (stays n l) = same (lexeme_of trivia (1 + n)) (omega arith)
    go (leaves n l g) = past (lexeme_of trivia (1 + n)) (omega arith) g

-- a comment that takes the first byte of z
comment_past : (k : Kind) (s z : List ℕ) → length s ≤ 0 → Goes z → Cut size_of (suc (length s)) z (lexeme_of k 1) (comment 1 (s ++ z))
unfolding not_newline
comment_past k [] [] l g = absurd (false≢true (sym g))
comment_past k [] (b ∷ z) l g = rw g (past (lexeme_of trivia (1 + suc (run not_newline z))) (omega arith) g)
comment_past k (b ∷ s) z l g = absurd (omega arith)

-- a byte alone
alone : {z : List ℕ} (k : Kind) (s : List ℕ) → Cut size_of (suc (length s)) z (lexeme_of k 1) (lexeme_of k 1)
alone k s = same (lexeme_of k 1) (omega arith)

-- what an ASCII character starts
ascii_cut : (o : Option Tok) (b : ℕ) (s z : List ℕ) → punctuation b ≡ o → Cut size_of (suc (length s)) z (ascii b s) (ascii b (s ++ z))
unfolding ascii
ascii_cut (some t) b s z e = rw (e, ascii) (alone (tok t) s)
ascii_cut none b s z e =
    let P : Lexeme → Lexeme → Type 0 = Cut size_of (suc (length s)) z in
    rw (e, ascii)
    (both_sides P (eqb b 35) (λ _. comment_cut s z)
    (λ _. both_sides P (eqb b 47)
    (λ _. peeked P (peek s z 0 47 (omega arith) refl) (λ _. comment_cut s z) (alone _ s) (λ l g. comment_past _ s z l g))
    (λ _. both_sides P (eqb b 58)
    (λ _. peeked P (peek s z 0 58 (omega arith) refl) (λ l. same (lexeme_of _ 2) (omega arith)) (alone _ s)
    (λ l g. past (lexeme_of _ 2) (omega arith) g))
    (λ _. both_sides P (eqb b 34) (λ _. string_cut s z)
    (λ _. both_sides P (is_word_start b) (λ _. word_cut (λ w. tok (word w)) (b ∷ s) z)
    (λ _. both_sides P (is_digit b) (λ _. number_cut (b ∷ s) z)
    (λ _. alone _ s)))))))

-- an ASCII character has one byte
ascii_size : (s : List ℕ) (c size : ℕ) → char_at s ≡ char c size → c < 128 → size ≡ 1
unfolding encode
ascii_size s c size e l = let k = character_at s c size e in sym k.1 ∙ rw (le-leb c 0x7F (omega arith))

-- what a character starts
lexeme_cut : (b : ℕ) (s z : List ℕ) → Cut size_of (suc (length s)) z (lexeme (b ∷ s)) (lexeme (b ∷ s ++ z))
unfolding lexeme
lexeme_cut b s z = go refl refl (char_cut b s z)
  where
    go : {c d : Char} → char_at (b ∷ s) ≡ c → char_at (b ∷ s ++ z) ≡ d → CharCut (suc (length s)) z c d
        → Cut size_of (suc (length s)) z (lexeme_at c b s) (lexeme_at d b (s ++ z))
    go e f (read n size l) =
        let P : Lexeme → Lexeme → Type 0 = Cut size_of (suc (length s)) z in
        both_sides P (is_blank n) (λ _. blank (blanks_cut 0 (b ∷ s) z (omega arith)))
        (λ _. both_sides P (ltb n 128) (λ _. ascii_cut (punctuation b) b s z refl) (λ _. same (lexeme_of _ size) l))
      where
        blank : {i j : ℕ} → Cut itself (suc (length s)) z i j → Cut size_of (suc (length s)) z (lexeme_of trivia i) (lexeme_of trivia j)
        blank (same i k) = same (lexeme_of trivia i) k
        blank (past j k g) = past (lexeme_of trivia j) k g
    go e f unread = alone _ s
    go e f (split n size l g) =
        let P : Lexeme → Type 0 = Cut size_of (suc (length s)) z (lexeme_at no_char b s) in
        by_cases P (is_blank n) (λ h. past (lexeme_of trivia (blank_run 0 (b ∷ s ++ z))) (blank_far b n size s z f h l g) g)
        (λ _. by_cases P (ltb n 128) (λ h. absurd (omega (arith, ascii_size (b ∷ s ++ z) n size f (ltb-true n 128 h))))
        (λ _. past (lexeme_of _ size) l g))

-- ---- the laws

-- a lexeme that ends within y does not depend on what follows y
pub cut : (y z : List ℕ) → 0 < length y → (lexeme (y ++ z)).size ≤ length y → lexeme y ≡ lexeme (y ++ z)
cut [] z h l = absurd (omega arith)
cut (b ∷ s) z h l = go l (lexeme_cut b s z)
  where
    go : {i j : Lexeme} → j.size ≤ suc (length s) → Cut size_of (suc (length s)) z i j → i ≡ j
    go l (same i k) = refl
    go l (past j k g) = absurd (omega arith)

-- before byte 10 a lexeme is what it is at the end of a line
pub before_newline : (x r : List ℕ) → 0 < length x → lexeme (x ++ 10 ∷ r) ≡ lexeme x
before_newline [] r h = absurd (omega arith)
before_newline (b ∷ s) r h = go (lexeme_cut b s (10 ∷ r))
  where
    go : {i j : Lexeme} → Cut size_of (suc (length s)) (10 ∷ r) i j → j ≡ i
    go (same i k) = refl
    go (past j k g) = absurd (false≢true (sym g))

-- byte 10 is a lexeme by itself
pub newline : (r : List ℕ) → lexeme (10 ∷ r) ≡ lexeme_of (error (unexpected_char 10)) 1
unfolding lexeme char_at lead_of follow is_blank ascii punctuation is_word_start is_digit
newline r = refl

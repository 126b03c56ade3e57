-- What starts at a place of a line, by the tests that the scanner makes there.
use mathlib.Core.Path.{◌≡◌, refl, sym, ap, ◌∙◌}
use mathlib.Core.Bool.{true, false, ◌||◌, false≢true}
use mathlib.Core.List.{List, ◌∷◌}
use mathlib.Core.Option.{Option, none, some}
use mathlib.Core.Logic.{⊎_elim}
use Prim.Native.Nat.{ℕ, ◌+◌, ◌-◌, ◌≤◌, ◌<◌}
use native.Mathlib.Nat.{add-zero, add_assoc}
use native.Mathlib.Omega.{arith}
use borrow.Author.Tests.{eq-eqb, ne_eqb, lt-ltb, le-ltb}
use lib.ListN.{length, get_or, take, drop}
use lib.Seq.{get_or-drop}
use Rattle.language.specs.Choice.{if', within}
use Rattle.language.specs.Utf8.{Char, char, no_char, char_at}
use Rattle.language.specs.Lexemes as language
use Rattle.language.specs.Lexemes.{slash, double_colon, colon, tok, error, unexpected_char, is_blank, is_digit, is_word_start, is_word, is_body, not_newline, run, word, number, lexeme_of, comment, string, punctuation, ascii, lexeme}
use Rattle.language.proofs.Tests.{inside, either, never}
use Rattle.runs.proofs.Places.{here}
use Rattle.utf8.specs.Decoding.{placed}
use Rattle.utf8.proofs.Places.{some_place}
use Rattle.utf8.specs.declared.Decoded.{Decoded}
use Rattle.rows.specs.declared.token.Tok.{Tok}
use Rattle.lexemes.specs.declared.Lexeme.{Lexeme}
use Rattle.lexemes.specs.declared.LexemeKind.{LexemeKind}
use Rattle.lexemes.specs.declared.LexemeKind.TheVariants as kind_is
use Rattle.lexemes.specs.declared.LexErrorKind.TheVariants as error_is
use Rattle.std.specs.Prelude.{Some, None}
use Rattle.lexemes.specs.Kinds.{lexeme_as}
use Rattle.rows.specs.Tokens.{tok_as}
use Rattle.classes.specs.Runs.{run_end}
use Rattle.runs.specs.Runs.{blank_end}
use Rattle.scan.specs.Scanning.{mark_as, word_at, sign_of, step_at}

-- a lexeme of the code, from its parts
abbrev pub made : ℕ → ℕ → LexemeKind → Lexeme
made at e k = record { start = at; end = e; kind = k }

-- ---- ASCII

-- a byte that begins a word or a number is none of the signs
module _ (b : ℕ) (from : 48 ≤ b) (gap : 58 ≤ b → 65 ≤ b) where
  no_mark : punctuation b ≡ none
  unfolding punctuation
  no_mark =
      rw (
        ne_eqb b 40 (omega arith),
        ne_eqb b 41 (omega arith),
        ne_eqb b 46 (omega arith),
        ne_eqb b 59 (λ z. let q = gap (omega arith) in omega arith),
        ne_eqb b 61 (λ z. let q = gap (omega arith) in omega arith),
        ne_eqb b 44 (omega arith),
      )

  not_sign : (s : List ℕ) → ascii b s ≡ if' (is_word_start b) (lexeme_of (tok (word (take (run is_word (b ∷ s)) (b ∷ s)))) (run is_word (b ∷ s))) (if' (is_digit b) (number (b ∷ s)) (lexeme_of (error (unexpected_char b)) 1))
  unfolding ascii
  not_sign s =
      rw (
        no_mark,
        ascii,
        ne_eqb b 35 (omega arith),
        ne_eqb b 47 (omega arith),
        ne_eqb b 58 (λ z. let q = gap (omega arith) in omega arith),
        ne_eqb b 34 (omega arith),
      )

word_start : (b : ℕ) → is_word_start b ≡ true → 65 ≤ b
unfolding is_word_start
word_start b e =
    ⊎_elim (λ x. let q = inside 97 122 b x in omega arith)
    (λ x. ⊎_elim (λ y. let q = inside 65 90 b y in omega arith)
    (λ y. ⊎_elim (λ z. let q = inside 95 95 b z in omega arith) (λ z. absurd (false≢true z)) (either (within 95 95 b) false y))
    (either (within 65 90 b) (within 95 95 b || false) x))
    (either (within 97 122 b) (within 65 90 b || (within 95 95 b || false)) e)

ascii_of_word : (b : ℕ) (s rest : List ℕ) → rest ≡ b ∷ s → is_word_start b ≡ true → ascii b s ≡ lexeme_of (tok (word (take (run is_word rest) rest))) (run is_word rest)
ascii_of_word b s rest e w = let h = word_start b w in rw e (not_sign b (omega arith) (λ x. h) s ∙ rw w)

ascii_of_digit : (b : ℕ) (s : List ℕ) → is_word_start b ≡ false → is_digit b ≡ true → ascii b s ≡ number (b ∷ s)
unfolding is_digit
ascii_of_digit b s w d = let h = inside 48 57 b d in not_sign b (omega arith) (λ x. omega arith) s ∙ rw (w, d)

ascii_of_mark : (b : ℕ) (s : List ℕ) (at : ℕ) (t : Tok) → Some t ≡ mark_as (punctuation b) → made at (at + 1) (kind_is.Tok t) ≡ lexeme_as at (ascii b s)
unfolding ascii
ascii_of_mark b s at t m = go (punctuation b) refl m
  where
    go : (o : Option language.Tok) → punctuation b ≡ o → Some t ≡ mark_as o → made at (at + 1) (kind_is.Tok t) ≡ lexeme_as at (ascii b s)
    go (some u) e k = let z : t ≡ tok_as u = cc in rw (z, e, ascii)
    go none e k = never (cc)

mark_none : (o : Option language.Tok) → None ≡ mark_as o → o ≡ none
mark_none (some u) k = never (cc)
mark_none none k = refl

module _ (line : List ℕ) (at : ℕ) where
  -- ---- strings and comments

  pub comment_is : (e : ℕ) → e ≡ run_end not_newline line (at + 1) → made at e kind_is.Trivia ≡ lexeme_as at (comment 1 (drop (at + 1) line))
  unfolding run_end
  comment_is e h = rw (h, add_assoc)

  pub string_closed : (e : ℕ) → e ≡ run_end is_body line (at + 1) → get_or line e 0 ≡ 34 → made at (e + 1) kind_is.Str ≡ lexeme_as at (string (drop (at + 1) line))
  unfolding run_end string
  string_closed e h q =
      let n = run is_body (drop (at + 1) line) in
      let m : e + 1 ≡ at + (n + 2) = omega arith in
      let k : get_or (drop (at + 1) line) n 0 ≡ 34 = get_or-drop (at + 1) line n 0 ∙ ap (λ (i : ℕ). get_or line i 0) (sym h) ∙ q in
      rw (m, eq-eqb _ _ k)

  pub string_open : (e : ℕ) → e ≡ run_end is_body line (at + 1) → (get_or line e 0 ≡ 34 → ⊥)
      → made at e (kind_is.Error error_is.UnterminatedString) ≡ lexeme_as at (string (drop (at + 1) line))
  unfolding run_end string
  string_open e h q =
      let n = run is_body (drop (at + 1) line) in
      let m : e ≡ at + (n + 1) = omega arith in
      let k : get_or (drop (at + 1) line) n 0 ≡ 34 → ⊥ = λ z. q (ap (λ (i : ℕ). get_or line i 0) h ∙ sym (get_or-drop (at + 1) line n 0) ∙ z) in
      rw (m, ne_eqb _ _ k)

  -- ---- signs

  module _ (b : ℕ) (is : b ≡ get_or line at 0) where
    pub sign_hash : b ≡ 35 → sign_of line at ≡ comment 1 (drop (at + 1) line)
    unfolding sign_of
    sign_hash h = rw (← is, eq-eqb _ _ h)

    module _ (no-hash : b ≡ 35 → ⊥) (next : ℕ) (then : next ≡ get_or line (at + 1) 0) where
      pub sign_slashes : b ≡ 47 → next ≡ 47 → sign_of line at ≡ comment 1 (drop (at + 1) line)
      unfolding sign_of
      sign_slashes h k = rw (← is, ← then, ne_eqb _ _ no-hash, eq-eqb _ _ h, eq-eqb _ _ k)

      pub sign_slash : b ≡ 47 → (next ≡ 47 → ⊥) → sign_of line at ≡ lexeme_of (tok slash) 1
      unfolding sign_of
      sign_slash h k = rw (← is, ← then, ne_eqb _ _ no-hash, eq-eqb _ _ h, ne_eqb _ _ k)

      module _ (no_slash : b ≡ 47 → ⊥) where
        pub sign_colons : b ≡ 58 → next ≡ 58 → sign_of line at ≡ lexeme_of (tok double_colon) 2
        unfolding sign_of
        sign_colons h k = rw (← is, ← then, ne_eqb _ _ no-hash, ne_eqb _ _ no_slash, eq-eqb _ _ h, eq-eqb _ _ k)

        pub sign_colon : b ≡ 58 → (next ≡ 58 → ⊥) → sign_of line at ≡ lexeme_of (tok colon) 1
        unfolding sign_of
        sign_colon h k = rw (← is, ← then, ne_eqb _ _ no-hash, ne_eqb _ _ no_slash, eq-eqb _ _ h, ne_eqb _ _ k)

        pub sign_quote : (b ≡ 58 → ⊥) → b ≡ 34 → sign_of line at ≡ string (drop (at + 1) line)
        unfolding sign_of
        sign_quote x h = rw (← is, ne_eqb _ _ no-hash, ne_eqb _ _ no_slash, ne_eqb _ _ x, eq-eqb _ _ h)

        pub sign_other : (b ≡ 58 → ⊥) → (b ≡ 34 → ⊥) → sign_of line at ≡ lexeme_of (error (unexpected_char b)) 1
        unfolding sign_of
        sign_other x k = rw (← is, ne_eqb _ _ no-hash, ne_eqb _ _ no_slash, ne_eqb _ _ x, ne_eqb _ _ k)

  -- ---- ASCII

  pub ascii_word : (e : ℕ) → at < length line → is_word_start (get_or line at 0) ≡ true → e ≡ run_end is_word line at
      → made at e (kind_is.Tok (word_at line at e)) ≡ lexeme_as at (ascii (get_or line at 0) (drop (at + 1) line))
  unfolding run_end
  ascii_word e h w r =
      let n : e - at ≡ run is_word (drop at line) = omega arith in
      rw (ascii_of_word (get_or line at 0) (drop (at + 1) line) (drop at line) (here line at h) w, n, r)

  -- the same from what the calls say of their results
  pub worded : (e : ℕ) (t : Tok) (r : Lexeme) → at < length line → is_word_start (get_or line at 0) ≡ true → e ≡ run_end is_word line at → t ≡ word_at line at e
      → r ≡ made at e (kind_is.Tok t) → r ≡ lexeme_as at (ascii (get_or line at 0) (drop (at + 1) line))
  worded e t r h w d x y = y ∙ ap (λ (u : Tok). made at e (kind_is.Tok u)) x ∙ ascii_word e h w d

  pub ascii_digit : at < length line → is_word_start (get_or line at 0) ≡ false → is_digit (get_or line at 0) ≡ true
      → number (drop at line) ≡ ascii (get_or line at 0) (drop (at + 1) line)
  ascii_digit h w d = rw (ascii_of_digit (get_or line at 0) (drop (at + 1) line) w d, ← here line at h)

  pub ascii_mark : (t : Tok) → Some t ≡ mark_as (punctuation (get_or line at 0)) → made at (at + 1) (kind_is.Tok t) ≡ lexeme_as at (ascii (get_or line at 0) (drop (at + 1) line))
  ascii_mark t m = ascii_of_mark (get_or line at 0) (drop (at + 1) line) at t m

  pub ascii_sign : is_word_start (get_or line at 0) ≡ false → is_digit (get_or line at 0) ≡ false → None ≡ mark_as (punctuation (get_or line at 0))
      → sign_of line at ≡ ascii (get_or line at 0) (drop (at + 1) line)
  unfolding sign_of ascii
  ascii_sign w d m = let z : get_or (drop (at + 1) line) 0 0 ≡ get_or line (at + 1) 0 = get_or-drop (at + 1) line 0 0 ∙ rw add-zero in rw (mark_none (punctuation (get_or line at 0)) m, ascii, w, d, z)

  -- ---- any character

  module _ (h : at < length line) where
    -- what the character that starts here says
    read : (d : Decoded) → Some d ≡ placed at (char_at (drop at line))
        → (size : ℕ) × (char_at (get_or line at 0 ∷ drop (at + 1) line) ≡ char d.number size) × (d.next ≡ at + size)
    read d r =
        let k = some_place at (char_at (drop at line)) d r in
        (k.0, rw (← here line at h) k.1, k.2)

    pub lexeme_blank : (d : Decoded) (e : ℕ) → Some d ≡ placed at (char_at (drop at line)) → is_blank d.number ≡ true → e ≡ blank_end line at
        → made at e kind_is.Trivia ≡ lexeme_as at (lexeme (drop at line))
    unfolding lexeme blank_end
    lexeme_blank d e r k b =
        let x = read d r in
        rw (here line at h, x.1, k, ← here line at h, b)

    pub lexeme_ascii : (d : Decoded) → Some d ≡ placed at (char_at (drop at line)) → is_blank d.number ≡ false → d.number < 128
        → ascii (get_or line at 0) (drop (at + 1) line) ≡ lexeme (drop at line)
    unfolding lexeme
    lexeme_ascii d r k l = let x = read d r in rw (here line at h, x.1, k, lt-ltb _ _ l)

    pub lexeme_other : (d : Decoded) → Some d ≡ placed at (char_at (drop at line)) → is_blank d.number ≡ false → 128 ≤ d.number
        → made at d.next (kind_is.Error (error_is.UnexpectedChar d.number)) ≡ lexeme_as at (lexeme (drop at line))
    unfolding lexeme
    lexeme_other d r k l =
        let c = d.number in
        let x = read d r in
        let z : lexeme (drop at line) ≡ lexeme_of (error (unexpected_char c)) x.0 = rw (here line at h, x.1, k, le-ltb _ _ l) in
        ap (λ (e : ℕ). made at e (kind_is.Error (error_is.UnexpectedChar c))) x.2 ∙ ap (lexeme_as at) (sym z)

    pub lexeme_none : None ≡ placed at (char_at (drop at line))
        → made at (at + 1) (kind_is.Error (error_is.UnexpectedChar (get_or line at 0))) ≡ lexeme_as at (lexeme (drop at line))
    unfolding lexeme
    lexeme_none r = go (char_at (drop at line)) refl r
      where
        go : (x : Char) → char_at (drop at line) ≡ x → None ≡ placed at x → made at (at + 1) (kind_is.Error (error_is.UnexpectedChar (get_or line at 0))) ≡ lexeme_as at (lexeme (drop at line))
        go (char n size) e k = never (cc)
        go no_char e k = let z : char_at (get_or line at 0 ∷ drop (at + 1) line) ≡ no_char = rw (← here line at h) e in rw (here line at h, z)

-- ---- the scanner

module _ (line : List ℕ) (at : ℕ) where
  pub step_found : (l : Lexeme) → at < length line → l ≡ lexeme_as at (lexeme (drop at line)) → Some l ≡ step_at line at
  unfolding step_at
  step_found l h e = rw (e, lt-ltb _ _ h)

  pub step_done : length line ≤ at → None ≡ step_at line at
  unfolding step_at
  step_done h = rw (le-ltb _ _ h)

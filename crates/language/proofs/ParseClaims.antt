-- Parsing goes by contents alone.
use Prim.Native.Nat.{ℕ, ◌/◌}
use mathlib.Core.Path.{◌≡◌, refl}
use mathlib.Core.Bool.{Bool, true, false}
use mathlib.Core.List.{List}
use borrow.Author.Tests.{le-ltb}
use lib.Dec.{ltb, eqb}
use lib.ListN.{length}
use Rattle.language.specs.Choice.{if'}
use Rattle.language.specs.Tokens.{most_bytes, Content, tokens, contents}
use Rattle.language.specs.Tables.{token_width}
use Rattle.language.specs.Sentences.{Out, ok, no, Stmt, program, nodes, node_width}
use Rattle.language.specs.Canonical.{text, Lexes}
use Rattle.language.specs.Numbers.{Verdict, verdict, lexed, lex_answer, lexed_within, Parsed, parsed, token_place, parsed_as, parse_answer, parse_nodes, nowhere, at_token_lem, SameVerdict, SameParse, ParsedByContents, TextParsed}
use Rattle.language.proofs.TokenContents.{as_many}
use Rattle.language.proofs.Canonical.{round_trip}

-- a source that lexes is refused by its number of tokens at most
lexed_within_lem : (s : List ℕ) → Lexes s → (room : ℕ) → lex_answer s room ≡ lexed_within room (length (tokens s))
unfolding lex_answer
lexed_within_lem s h room = rw (le-ltb most_bytes (length s) h.short, h.whole, h.good)

-- and then the grammar decides
parsed_after : List ℕ → ℕ → ℕ → List Content → Parsed
parsed_after s t n cs = if' (ltb t (length cs)) (parsed (verdict 4 0 0) 0 0) (parsed_as s n (length cs) (program cs))

-- the answer after lexing, by whether the tokens exceed the room
after_lexing : (over : Bool) (count : ℕ) (f : ℕ → Parsed)
    → let l = if' over (lexed (verdict 4 0 0) 0) (lexed (verdict 0 0 0) count) in
    if' (eqb l.verdict.number 0) (f l.count) (parsed l.verdict 0 0) ≡ if' over (parsed (verdict 4 0 0) 0 0) (f count)
after_lexing true count f = refl
after_lexing false count f = refl

parsed_by : (s : List ℕ) → Lexes s → (t n : ℕ) → parse_answer s t n ≡ parsed_after s t n (contents (tokens s))
unfolding parse_answer parsed_after
parsed_by s h t n =
    rw (lexed_within_lem s h t, ← as_many (tokens s))
    (after_lexing (ltb t (length (tokens s))) (length (tokens s)) (λ c. parsed_as s n c (program (contents (tokens s)))))

-- verdicts that name no place, and verdicts that name the same token
pub same_nowhere : {s u : List ℕ} (v : Verdict) → v.line ≡ 0 → v.column ≡ 0 → SameVerdict s u v v
same_nowhere v l c = record { number = refl; kind = refl; place = nowhere l c l c; character = refl }

pub same_token : (s u : List ℕ) (n k at : ℕ)
    → SameVerdict s u (record { number = n; kind = k; line = (token_place s at).line; column = (token_place s at).column; character = 0 })
    (record { number = n; kind = k; line = (token_place u at).line; column = (token_place u at).column; character = 0 })
same_token s u n k at = record { number = refl; kind = refl; place = at_token_lem at refl refl refl refl; character = refl }

same : {s u : List ℕ} (v : Verdict) (t n : ℕ) → v.line ≡ 0 → v.column ≡ 0 → SameParse s u (parsed v t n) (parsed v t n)
same v t n l c = record { verdict = same_nowhere v l c; tokens = refl; nodes = refl }

-- of the same contents the answers are the same
same_within : {s u : List ℕ} (over : Bool) (t n : ℕ)
    → let a = if' over (parsed (verdict 6 0 0) 0 0) (parsed (verdict 0 0 0) t n) in SameParse s u a a
same_within true t n = same (verdict 6 0 0) 0 0 refl refl
same_within false t n = same (verdict 0 0 0) t n refl refl

same_as : (s u : List ℕ) (n c : ℕ) (o : Out (List Stmt)) → SameParse s u (parsed_as s n c o) (parsed_as u n c o)
same_as s u n c (ok ss at x) = same_within (ltb n (length (nodes ss))) c (length (nodes ss))
same_as s u n c (no m k at) = record { verdict = same_token s u m k at; tokens = refl; nodes = refl }

same_after : (s u : List ℕ) (t n : ℕ) (cs : List Content) → SameParse s u (parsed_after s t n cs) (parsed_after u t n cs)
unfolding parsed_after
same_after s u t n cs = by (ltb t (length cs))
  where
    by : (over : Bool) → SameParse s u (if' over (parsed (verdict 4 0 0) 0 0) (parsed_as s n (length cs) (program cs)))
        (if' over (parsed (verdict 4 0 0) 0 0) (parsed_as u n (length cs) (program cs)))
    by true = same (verdict 4 0 0) 0 0 refl refl
    by false = same_as s u n (length cs) (program cs)

same_answer : (s u : List ℕ) → Lexes s → Lexes u → contents (tokens s) ≡ contents (tokens u) → (t n : ℕ)
    → SameParse s u (parse_answer s t n) (parse_answer u t n)
same_answer s u h l e t n = rw (parsed_by s h t n, parsed_by u l t n, e) (same_after s u t n (contents (tokens u)))

pub parsed_by_contents : ParsedByContents
unfolding parse_nodes
parsed_by_contents s u h l e = (
  λ t n.
      let same_number = (same_answer s u h l e (t / token_width) (n / node_width)).verdict.number in
      rw (same_number, e),
  λ t n. same_answer s u h l e t n,
)

pub text_parsed : TextParsed
text_parsed s f = let r = round_trip s f in parsed_by_contents (text s) s r.0 f.lexes r.1

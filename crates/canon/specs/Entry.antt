-- What the entry promises.
use Rattle.std.specs.Prelude.{◌≡◌, ◌/◌, List, ℕ, eqb, false, Result, Ok, Err}
use Rattle.language.specs.Numbers as numbers
use Rattle.language.specs.Numbers.{canonised, canon_answer}
use Rattle.language.specs.Tables.{token_width}
use Rattle.language.specs.Entries.{CanonPromise}
use Rattle.rows.specs.declared.verdict.Verdict.{Verdict}
use Rattle.rows.specs.Rows.{verdict_as}
use Rattle.lex.specs.Lexing as lexing
use Rattle.canon.specs.declared.Canonised.{Canonised}
use Rattle.canon.specs.declared.CanonError.{CanonError}
use Rattle.canon.specs.declared.CanonError.TheVariants.{Lex, TextRoom}

abbrev pub canonised_as : numbers.Canonised → Canonised
canonised_as a = record { verdict = verdict_as a.verdict; tokens = a.tokens; bytes = a.bytes }

-- of a source, a token table of t words and a text of n bytes: the answer r, and what is left in both
abbrev pub CanonSource : List ℕ → ℕ → ℕ → Canonised → List ℕ → List ℕ → Type 0
CanonSource source t n r toks left = CanonPromise canonised_as source t n r toks left

-- the numbers of a refusal
abbrev pub verdict_of : CanonError → Verdict
verdict_of (Lex e) = lexing.verdict_of e
verdict_of TextRoom = verdict_as (numbers.verdict 10 0 0)

-- a source is refused, and e says why
abbrev pub Refuses : List ℕ → ℕ → ℕ → CanonError → Type 0
Refuses source t n e =
    (v : numbers.Verdict) × (eqb v.number 0 ≡ false) × (canon_answer source (t / token_width) n ≡ canonised v 0 0) × (verdict_of e ≡ verdict_as v)

-- the same before a refusal is made an answer and clears both
abbrev pub CanonsInto : List ℕ → ℕ → ℕ → Result Canonised CanonError → List ℕ → List ℕ → Type 0
CanonsInto source t n (Ok r) toks left = CanonSource source t n r toks left
CanonsInto source t n (Err e) toks left = Refuses source t n e

-- The words that C gets, in their order: each answer's, as the header's structs have them (`tests/c/agree` compares the two).
-- proofs/Words.antt says that the structs of the code lie in memory so.
use Rattle.std.specs.Prelude.{ℕ, List, [], ◌∷◌, ◌++◌}
use Rattle.language.specs.Numbers.{Verdict, Scanned, Lexed, Parsed, Canonised, Checked}
use Rattle.terkinoha.specs.declared.Body.{Body}

abbrev pub verdict_words : Verdict → List ℕ
verdict_words v = v.number ∷ v.kind ∷ v.line ∷ v.column ∷ v.character ∷ []

abbrev pub scanned_words : Scanned → List ℕ
scanned_words a = verdict_words a.verdict ++ a.count ∷ []

abbrev pub lexed_words : Lexed → List ℕ
lexed_words a = verdict_words a.verdict ++ a.count ∷ []

abbrev pub parsed_words : Parsed → List ℕ
parsed_words a = verdict_words a.verdict ++ a.tokens ∷ a.nodes ∷ []

abbrev pub canonised_words : Canonised → List ℕ
canonised_words a = verdict_words a.verdict ++ a.tokens ∷ a.bytes ∷ []

abbrev pub checked_words : Checked → List ℕ
checked_words a = verdict_words a.verdict ++ a.tokens ∷ a.nodes ∷ a.errors ∷ a.warnings ∷ a.statements ∷ a.comparisons ∷ []

abbrev pub body_words : Body → List ℕ
body_words b = b.found ∷ b.start ∷ b.end ∷ b.next ∷ []

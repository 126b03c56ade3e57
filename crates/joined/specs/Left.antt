-- What calls count and leave (`Left.antt` of the crate `language`), said of what they answer: from the contract of each entry, for
-- its bytes and the sizes of the tables that were lent.
use Rattle.std.specs.Prelude.{ℕ, List}
use Rattle.language.specs.Left.{ScanLeaves, LexLeaves, ParseLeaves, CanonLeaves, CheckLeaves}
use Rattle.scan.specs.declared.Scanned.{Scanned}
use Rattle.scan.specs.Entry.{ScanLine}
use Rattle.lex.specs.declared.Lexed.{Lexed}
use Rattle.lex.specs.Entry.{LexSource}
use Rattle.parse.specs.declared.ParseAnswer.{ParseAnswer}
use Rattle.parse.specs.Entry.{ParseSource}
use Rattle.canon.specs.declared.Canonised.{Canonised}
use Rattle.canon.specs.Entry.{CanonSource}
use Rattle.checker.specs.declared.CheckAnswer.{CheckAnswer}
use Rattle.checker.specs.Entry.{CheckSource}

-- of the five calls
pub record CallsLeave : Type 0 where
  pub scan : (line : List ℕ) (n : ℕ) (r : Scanned) (left : List ℕ) → ScanLine line n r left
      → ScanLeaves line n r.verdict.number r.lexemes left
  pub lex : (source : List ℕ) (n : ℕ) (r : Lexed) (left : List ℕ) → LexSource source n r left
      → LexLeaves source n r.verdict.number r.tokens left
  pub parse : (source : List ℕ) (t n : ℕ) (r : ParseAnswer) (toks left : List ℕ) → ParseSource source t n r toks left
      → ParseLeaves source t n r.verdict.number r.tokens r.nodes toks left
  pub canon : (source : List ℕ) (t n : ℕ) (r : Canonised) (toks left : List ℕ) → CanonSource source t n r toks left
      → CanonLeaves source t n r.verdict.number r.tokens r.bytes toks left
  pub check : (source : List ℕ) (t n d k : ℕ) (r : CheckAnswer) (toks tree found held : List ℕ)
      → CheckSource source t n d k r toks tree found held
      → CheckLeaves source t n d k r.verdict.number r.tokens r.nodes r.errors r.warnings r.statements r.comparisons toks tree
      found held

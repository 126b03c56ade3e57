-- The entries leave no choice: two results that satisfy an entry's contract are equal.
use Rattle.std.specs.Prelude.{ℕ, Bool, List}
use Rattle.language.specs.Determined.{Determined, CallsDetermined}
use Rattle.constants.specs.Constants.{NameText}
use Rattle.scan.specs.Entry.{ScanLine}
use Rattle.lex.specs.Entry.{LexSource, StringBody}
use Rattle.parse.specs.Entry.{ParseSource}
use Rattle.canon.specs.Entry.{CanonSource}
use Rattle.checker.specs.Entry.{CheckSource}

abbrev pub EntriesDetermined : Type 0
EntriesDetermined = CallsDetermined ScanLine LexSource ParseSource CanonSource CheckSource

-- nor do the calls that hand back a part of a text: `string_body` and `name_text`
abbrev pub PartsDetermined : Type 0
PartsDetermined =
    ((s : List ℕ) (start e i : ℕ) → Determined (StringBody s start e i))
    × ((from_table : Bool) (source text : List ℕ) (a e : ℕ) → Determined (NameText from_table source text a e))

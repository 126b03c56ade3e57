-- Each contract is an equation for the answer and one for each table.
use Rattle.language.proofs.Determined.{determined, calls_determined}
use Rattle.scan.specs.Scanning.{scanned_as}
use Rattle.lex.specs.Lexing.{lexed_as}
use Rattle.parse.specs.Entry.{parsed_as}
use Rattle.canon.specs.Entry.{canonised_as}
use Rattle.checker.specs.Entry.{checked_as}
use Rattle.joined.specs.Determined.{EntriesDetermined, PartsDetermined}

pub entries_determined : EntriesDetermined
entries_determined = calls_determined scanned_as lexed_as parsed_as canonised_as checked_as

pub parts_determined : PartsDetermined
parts_determined = (λ _ _ _ _. determined (λ _ h. h), λ _ _ _ _ _. determined (λ _ h. h))

-- Each contract has an equation for the answer, and the language's answers go by the rows.
use Prim.Native.Nat.{◌/◌}
use Rattle.language.specs.Tables.{lexeme_width, token_width}
use Rattle.language.specs.Sentences.{node_width}
use Rattle.language.specs.Findings.{stmt_width}
use Rattle.language.proofs.Exactly.{scan_exactly, lex_exactly, parse_exactly, canon_exactly, check_exactly}
use Rattle.joined.specs.Exactly.{ScanGives, LexGives, ParseGives, CanonGives, CheckGives}

pub scan_gives : ScanGives
scan_gives line n r left c = rw c.answer (scan_exactly line (n / lexeme_width))

pub lex_gives : LexGives
lex_gives source n r left c = rw c.answer (lex_exactly source (n / token_width))

pub parse_gives : ParseGives
parse_gives source t n r toks left c = rw c.answer (parse_exactly source (t / token_width) (n / node_width))

pub canon_gives : CanonGives
canon_gives source t n r toks left c = rw c.answer (canon_exactly source (t / token_width) n)

pub check_gives : CheckGives
check_gives source t n d k r toks tree found held c =
    rw c.answer (check_exactly source (t / token_width) (n / node_width) (k / stmt_width))

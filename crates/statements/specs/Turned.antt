-- What a statement leads to, with the counts then.
use Rattle.std.specs.Prelude.{Result, Ok, Err}
use Rattle.findings.specs.declared.Counts.{Counts}
use Rattle.names.specs.declared.Entry.{Entry}
use Rattle.statements.specs.declared.Turn as code
use Rattle.statements.specs.declared.Turn.TheVariants as code_is
use Rattle.statements.specs.declared.Refusal.{Refusal}

pub data Turn : Type 0 where
  Went : Counts → Turn
  Binds : Counts → Entry → Turn
  Imports : Counts → Entry → Turn

abbrev pub told : Result code.Turn Refusal → Counts → Result Turn Refusal
told (Ok code_is.Went) c = Ok (Went c)
told (Ok (code_is.Binds e)) c = Ok (Binds c e)
told (Ok (code_is.Imports e)) c = Ok (Imports c e)
told (Err f) c = Err f

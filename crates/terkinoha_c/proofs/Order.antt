-- Each export is the call that it hands on, by place and not by name: what it asks and promises of its arguments, in their order, is
-- what the call of `terkinoha` asks and promises of them. So the order that is said there (`terkinoha/proofs/Words.antt`) is C's.
-- `clauses` is a function's contract over its arguments in their order: one that changes places changes it, and no name.
use mathlib.Core.Path.{◌≡◌, refl}
use seplogic.Ra.Ura.{Ura}
use base.Logic.{SProp}
use prog.Memory.{Memory}
use prog.Routine.{Routine}
use types.Logic.{Logic}
use contract.Lifetimes.{Lfts}
use contract.Monad.{Fun}
use denote.Triple.Entry.{Args}
use Rattle.terkinoha.specs.contracts as calls
use Rattle.terkinoha_c.specs.contracts as exports

module _ {M : Type 1} {𝓤 : Ura M} (𝓛 : Logic 𝓤) (mem : Memory → SProp 𝓤) (run : Routine → Fun 𝓤) where
  pub version_same : (κs : Lfts (calls.terkinoha_version.signature).lifetimes) (a : Args calls.terkinoha_version.signature κs)
      → exports.terkinoha_version.clauses 𝓛 mem run κs a ≡ calls.terkinoha_version.clauses 𝓛 mem run κs a
  version_same κs a = refl

  pub scan_same : (κs : Lfts (calls.terkinoha_scan_words.signature).lifetimes) (a : Args calls.terkinoha_scan_words.signature κs)
      → exports.terkinoha_scan_words.clauses 𝓛 mem run κs a ≡ calls.terkinoha_scan_words.clauses 𝓛 mem run κs a
  scan_same κs a = refl

  pub lex_same : (κs : Lfts (calls.terkinoha_lex_words.signature).lifetimes) (a : Args calls.terkinoha_lex_words.signature κs)
      → exports.terkinoha_lex_words.clauses 𝓛 mem run κs a ≡ calls.terkinoha_lex_words.clauses 𝓛 mem run κs a
  lex_same κs a = refl

  pub parse_same : (κs : Lfts (calls.terkinoha_parse_words.signature).lifetimes) (a : Args calls.terkinoha_parse_words.signature κs)
      → exports.terkinoha_parse_words.clauses 𝓛 mem run κs a ≡ calls.terkinoha_parse_words.clauses 𝓛 mem run κs a
  parse_same κs a = refl

  pub canon_same : (κs : Lfts (calls.terkinoha_canonicalise_words.signature).lifetimes) (a : Args calls.terkinoha_canonicalise_words.signature κs)
      → exports.terkinoha_canonicalise_words.clauses 𝓛 mem run κs a ≡ calls.terkinoha_canonicalise_words.clauses 𝓛 mem run κs a
  canon_same κs a = refl

  pub check_same : (κs : Lfts (calls.terkinoha_check_words.signature).lifetimes) (a : Args calls.terkinoha_check_words.signature κs)
      → exports.terkinoha_check_words.clauses 𝓛 mem run κs a ≡ calls.terkinoha_check_words.clauses 𝓛 mem run κs a
  check_same κs a = refl

  pub next_same : (κs : Lfts (calls.terkinoha_next_body.signature).lifetimes) (a : Args calls.terkinoha_next_body.signature κs)
      → exports.terkinoha_next_body.clauses 𝓛 mem run κs a ≡ calls.terkinoha_next_body.clauses 𝓛 mem run κs a
  next_same κs a = refl

  pub body_same : (κs : Lfts (calls.terkinoha_body_at.signature).lifetimes) (a : Args calls.terkinoha_body_at.signature κs)
      → exports.terkinoha_body_at.clauses 𝓛 mem run κs a ≡ calls.terkinoha_body_at.clauses 𝓛 mem run κs a
  body_same κs a = refl

-- What C gets by place and not by name. Claims on it stand here, for only proofs see how the prover lays a struct out and how it
-- counts parameters: `lowered` is a struct's value as its fields lie one after the other, `clauses` a function's contract over its
-- arguments in their order. A field or a parameter that changes places changes these, and no name.
use Prim.Native.Nat.{ℕ}
use mathlib.Core.Path.{◌≡◌, refl}
use mathlib.Core.List.{List, [], ◌∷◌, ◌++◌}
use lib.ListN.{length}
use seplogic.Ra.Ura.{Ura}
use base.Logic.{SProp}
use prog.Memory.{Memory}
use prog.Routine.{Routine}
use types.Logic.{Logic}
use contract.Lifetimes.{Lfts}
use contract.Monad.{Fun}
use contract.Notation.{connectives}
use denote.Triple.Entry.{Args, Res}
use denote.Triple.Clauses.{AtExit}
use mir.Val.{Val, vunit, vbool, vint, vfloat, vptr, vcode, vstruct, Vals, vnil, vcons}
use Rattle.language.specs.Numbers.{Scanned, Lexed, Parsed, Canonised, Checked}
use Rattle.scan.specs.Scanning.{scanned_as}
use Rattle.scan.specs.Entry.{ScanLine}
use Rattle.scan.proofs.Scanned.TheLaws as of_scan
use Rattle.lex.specs.Lexing.{lexed_as}
use Rattle.lex.specs.Entry.{LexSource}
use Rattle.lex.proofs.Lexed.TheLaws as of_lex
use Rattle.parse.specs.Entry.{parsed_as, ParseSource}
use Rattle.parse.proofs.ParseAnswer.TheLaws as of_parse
use Rattle.canon.specs.Entry.{canonised_as, CanonSource}
use Rattle.canon.proofs.Canonised.TheLaws as of_canon
use Rattle.checker.specs.Entry.{checked_as, CheckSource}
use Rattle.checker.proofs.CheckAnswer.TheLaws as of_check
use Rattle.terkinoha.specs.declared.Body.{Body}
use Rattle.terkinoha.specs.Bodies.{NextBody, BodyAt}
use Rattle.terkinoha.specs.Words.{scanned_words, lexed_words, parsed_words, canonised_words, checked_words, body_words}
use Rattle.terkinoha.proofs.Body.TheLaws as of_body
use Rattle.terkinoha.specs.contracts.terkinoha_scan_words as scan
use Rattle.terkinoha.specs.contracts.terkinoha_lex_words as lex
use Rattle.terkinoha.specs.contracts.terkinoha_parse_words as parse
use Rattle.terkinoha.specs.contracts.terkinoha_canonicalise_words as canon
use Rattle.terkinoha.specs.contracts.terkinoha_check_words as check
use Rattle.terkinoha.specs.contracts.terkinoha_next_body as next
use Rattle.terkinoha.specs.contracts.terkinoha_body_at as body

-- ---- answers

mutual
  -- the integers of a value, one after the other
  pub words_in : Val → List ℕ
  words_in vunit = []
  words_in (vbool b) = []
  words_in (vint w n) = n ∷ []
  words_in (vfloat f x) = []
  words_in (vptr b o) = []
  words_in (vcode c) = []
  words_in (vstruct vs) = all_words vs

  pub all_words : Vals → List ℕ
  all_words vnil = []
  all_words (vcons v vs) = words_in v ++ all_words vs

-- each answer's struct has the words of specs/Words.antt, in that order
pub record AnswersLie : Type 0 where
  pub scanned : (a : Scanned) → words_in (of_scan.lowered (scanned_as a)) ≡ scanned_words a
  pub lexed : (a : Lexed) → words_in (of_lex.lowered (lexed_as a)) ≡ lexed_words a
  pub parsed : (a : Parsed) → words_in (of_parse.lowered (parsed_as a)) ≡ parsed_words a
  pub canonised : (a : Canonised) → words_in (of_canon.lowered (canonised_as a)) ≡ canonised_words a
  pub checked : (a : Checked) → words_in (of_check.lowered (checked_as a)) ≡ checked_words a
  pub body : (b : Body) → words_in (of_body.lowered b) ≡ body_words b

pub answers_lie : AnswersLie
unfolding words_in all_words
answers_lie =
    record {
      scanned = λ _. refl;
      lexed = λ _. refl;
      parsed = λ _. refl;
      canonised = λ _. refl;
      checked = λ _. refl;
      body = λ _. refl;
    }

-- ---- parameters

-- each call promises its result of its arguments in the header's order: a is what it gets, e what stands there when it returns
module _ {M : Type 1} {𝓤 : Ura M} (𝓛 : Logic 𝓤) (mem : Memory → SProp 𝓤) (run : Routine → Fun 𝓤) where
  abbrev pub Says : Type 0 → SProp 𝓤
  Says P = (connectives 𝓤).⌜◌⌝ P

  pub scan_order : (κs : Lfts (scan.signature).lifetimes) (a : Args scan.signature κs) (r : Res scan.signature κs) (e : AtExit scan.ended κs)
      → (scan.clauses 𝓛 mem run κs a).ensures tt r e ≡ Says (ScanLine a.0.now (length a.1.0.now) r e.1.0.now)
  scan_order κs a r e = refl

  pub lex_order : (κs : Lfts (lex.signature).lifetimes) (a : Args lex.signature κs) (r : Res lex.signature κs) (e : AtExit lex.ended κs)
      → (lex.clauses 𝓛 mem run κs a).ensures tt r e ≡ Says (LexSource a.0.now (length a.1.0.now) r e.1.0.now)
  lex_order κs a r e = refl

  pub parse_order : (κs : Lfts (parse.signature).lifetimes) (a : Args parse.signature κs) (r : Res parse.signature κs)
      (e : AtExit parse.ended κs)
      → (parse.clauses 𝓛 mem run κs a).ensures tt r e
      ≡ Says (ParseSource a.0.now (length a.1.0.now) (length a.1.1.0.now) r e.1.0.now e.1.1.0.now)
  parse_order κs a r e = refl

  pub canon_order : (κs : Lfts (canon.signature).lifetimes) (a : Args canon.signature κs) (r : Res canon.signature κs)
      (e : AtExit canon.ended κs)
      → (canon.clauses 𝓛 mem run κs a).ensures tt r e
      ≡ Says (CanonSource a.0.now (length a.1.0.now) (length a.1.1.0.now) r e.1.0.now e.1.1.0.now)
  canon_order κs a r e = refl

  pub check_order : (κs : Lfts (check.signature).lifetimes) (a : Args check.signature κs) (r : Res check.signature κs)
      (e : AtExit check.ended κs)
      → (check.clauses 𝓛 mem run κs a).ensures tt r e
      ≡ Says (CheckSource a.0.now (length a.1.0.now) (length a.1.1.0.now) (length a.1.1.1.0.now)
      (length a.1.1.1.1.0.now) r e.1.0.now e.1.1.0.now e.1.1.1.0.now e.1.1.1.1.0.now)
  check_order κs a r e = refl

  pub next_order : (κs : Lfts (next.signature).lifetimes) (a : Args next.signature κs) (r : Res next.signature κs) (e : AtExit next.ended κs)
      → (next.clauses 𝓛 mem run κs a).ensures tt r e ≡ Says (NextBody a.0.now a.1.0 a.1.1.0 r)
  next_order κs a r e = refl

  pub body_order : (κs : Lfts (body.signature).lifetimes) (a : Args body.signature κs) (r : Res body.signature κs) (e : AtExit body.ended κs)
      → (body.clauses 𝓛 mem run κs a).ensures tt r e ≡ Says (BodyAt a.0.now a.1.0 a.1.1.0 a.1.1.1.0 r)
  body_order κs a r e = refl

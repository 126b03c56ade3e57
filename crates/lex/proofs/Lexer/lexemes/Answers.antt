use mathlib.Core.Path.{refl}
use Rattle.scan.proofs.Turns.{starts, steps, ended}
use Rattle.lex.proofs.Feeding.{begun, room, more, stopped, finished}
use native.Mathlib.Omega.{arith}
use Rattle.lex.proofs.Lexer.lexemes.Goals as goal

pub loop-found-init : goal.loop-found-init
loop-found-init c =
    let b = starts c.into_iter-found-iterator.ensures.into_iter_gives c.new-found-items.ensures in
    (b.0, begun _ _ _ _ c.requires.0 _ b.1)

pub loop-found-preserved-in-Trivia : goal.loop-found-preserved-in-Trivia
loop-found-preserved-in-Trivia c =
    let i = c.loop-found.invariant in
    let s = steps c.in-Some.ensures.steps i.0 in
    (s.0, more _ _ _ _ _ _ _ i.1 _ _ s.1 c.in-Trivia.is (refl, refl))

pub string-lexer-requires : goal.string-lexer-requires
string-lexer-requires c =
    let i = c.loop-found.invariant in
    let r = room _ _ _ _ _ _ _ i.1 _ _ (steps c.in-Some.ensures.steps i.0).1 c.requires.1 in
    (r.0, r.1, omega arith)

pub loop-found-preserved-in-Str : goal.loop-found-preserved-in-Str
loop-found-preserved-in-Str c =
    let i = c.loop-found.invariant in
    let s = steps c.in-Some.ensures.steps i.0 in
    (s.0, more _ _ _ _ _ _ _ i.1 _ _ s.1 c.in-Str.is (c.string-lexer.ensures, refl))

pub token-lexer-requires : goal.token-lexer-requires
token-lexer-requires c =
    let i = c.loop-found.invariant in
    room _ _ _ _ _ _ _ i.1 _ _ (steps c.in-Some.ensures.steps i.0).1 c.requires.1

pub loop-found-preserved : goal.loop-found-preserved
loop-found-preserved c =
    let i = c.loop-found.invariant in
    let s = steps c.in-Some.ensures.steps i.0 in
    (s.0, more _ _ _ _ _ _ _ i.1 _ _ s.1 c.in-Tok.is c.token-lexer.ensures)

pub overflow_add-column : goal.overflow_add-column
overflow_add-column c =
    let i = c.loop-found.invariant in
    let r = room _ _ _ _ _ _ _ i.1 _ _ (steps c.in-Some.ensures.steps i.0).1 c.requires.1 in
    omega arith

pub returns-in-Error : goal.returns-in-Error
returns-in-Error c =
    let i = c.loop-found.invariant in
    stopped _ _ _ _ _ _ _ i.1 _ _ (steps c.in-Some.ensures.steps i.0).1 _ c.in-Error.is

pub returns : goal.returns
returns c =
    let i = c.loop-found.invariant in
    finished _ _ _ _ _ _ _ i.1 (ended c.in-None.ensures.steps i.0)

use Rattle.std.proofs.Common.{◌≡◌, ◌+◌, ◌-◌, ◌∙◌, sym, arith}
use borrow.Author.Rules.{rules}
use Rattle.language.proofs.Tests.{both}
use Rattle.utf8.proofs.Places.{stay, block_passed}
use Rattle.utf8.proofs.ascii_blocks.Goals as goal

pub loop-i-init : goal.loop-i-init
loop-i-init c = search (rules, stay)

pub loop-i-preserved : goal.loop-i-preserved
loop-i-preserved c =
    let k = both c.all_of-first.result c.all_of-second.result c.if-not-first-second.false in
    let n : c.loop-i.i + 16 - c.loop-i.i ≡ 16 = omega arith in
    let m : c.loop-i.i + 32 - (c.loop-i.i + 16) ≡ 16 = omega arith in
    let next : c.loop-i.i + 16 + 16 ≡ c.loop-i.i + 32 = omega arith in
    let half = block_passed 16 c.loop-i.invariant (omega arith) (sym (rw n at c.all_of-first.ensures) ∙ k.0) in
    rw next at (block_passed 16 half (omega arith) (sym (rw m at c.all_of-second.ensures) ∙ k.1))

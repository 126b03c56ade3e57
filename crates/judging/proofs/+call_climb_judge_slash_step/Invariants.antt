use Prim.Native.Nat.{◌+◌, ◌*◌, ◌≤◌}
use lib.ListN.{length}
use mathlib.Core.Path.{◌≡◌}
use mathlib.Core.List.{List}
use Rattle.language.specs.Sentences.{Expr}
use Rattle.language.specs.Tokens.{tokens, contents}
use Rattle.language.specs.Judgements.{Known, judge as judge'}
use Rattle.findings.specs.declared.Counts.{Counts}
use Rattle.std.specs.Prelude.{Ok}
use Rattle.holding.specs.Holding.{Agrees, stepped}
use Rattle.arguments.specs.Arguments.{Near}
use Rattle.judging.specs.Judging.{Ready, Knows, Passed, RepAt, ArgsAt, Down, ArgsFit}
use Rattle.judging.proofs.Trees.{left}
use Rattle.judging.proofs.Climbing.{Climbs}
use Rattle.judging.proofs.Passing.{Walk}
use Prim.Native.Nat.{ℕ}
use Rattle.judging.proofs.+call_climb_judge_slash_step.Given as goal

abbrev pub decreases-call : goal.decreases-call
decreases-call l = 5 * l.i

abbrev pub decreases-climb : goal.decreases-climb
decreases-climb l = 5 * l.i + 3

abbrev pub decreases-judge : goal.decreases-judge
decreases-judge l = 5 * l.i + 4

abbrev pub decreases-slash : goal.decreases-slash
decreases-slash l = 5 * l.i + 1

abbrev pub decreases-step : goal.decreases-step
decreases-step l = 5 * l.i + 2

abbrev pub invariant-call-loop-next : goal.invariant-call-loop-next
invariant-call-loop-next l =
    Ready l.scope.toks.now l.scope.bindings.now l.scope.imports.now l.counts × ArgsFit l.scope.nodes.now l.i l.next l.row l.counts × Near l.kept
    × ((n : ℕ) (k : Known) (ps : List Passed) → n ≡ l.initial.counts.number → Knows l.scope.toks.now l.scope.bindings.now l.scope.imports.now l.initial.counts k
    → ArgsAt l.scope.nodes.now l.i l.initial.next ps
    → Walk l.scope.toks.now n k l.scope.nodes.now l.i l.initial.row l.initial.counts l.initial.diags l.initial.stmts ps l.kept l.row l.counts l.next l.diags l.stmts)

abbrev pub decreases-call-loop-next : goal.decreases-call-loop-next
decreases-call-loop-next l = left l.i l.next

abbrev pub invariant-climb-loop-depth : goal.invariant-climb-loop-depth
invariant-climb-loop-depth l =
    (l.depth ≤ 64) × Ready l.scope.toks.now l.scope.bindings.now l.scope.imports.now l.counts
    × ((n : ℕ) (k : Known) (e d : Expr) (row : ℕ) (x u : List ℕ) (co : Counts) → n ≡ co.number → Knows l.scope.toks.now l.scope.bindings.now l.scope.imports.now co k
    → RepAt l.scope.nodes.now l.i e → Down l.scope.nodes.now l.rows l.i e l.initial.depth row d
    → Agrees l.scope.toks.now (stepped (Ok l.initial.then) l.initial.counts) x l.initial.diags u l.initial.stmts co (l.at + l.initial.depth)
    (judge' (contents (tokens l.scope.toks.now)) n k d)
    → Climbs l.scope.toks.now n k l.scope.nodes.now l.rows l.i e l.depth l.at (stepped (Ok l.then) l.counts) x l.diags u l.stmts co)

abbrev pub decreases-climb-loop-depth : goal.decreases-climb-loop-depth
decreases-climb-loop-depth l = l.depth

use Prim.Native.Nat.{ℕ, ◌+◌, ◌-◌, ◌*◌, ◌≤◌, ◌<◌}
use mathlib.Core.Path.{◌≡◌}
use mathlib.Core.List.{List, []}
use lib.ListN.{length}
use Rattle.language.specs.Tables.{token_width}
use Rattle.language.specs.Tokens.{Content}
use Rattle.language.specs.Sentences.{Stmt, stmts_from, program, nodes_from}
use Rattle.parse.specs.Parsing.{Rep, Holds}
use Rattle.parse.proofs.program.Given as goal

abbrev pub invariant-loop-nodes : goal.invariant-loop-nodes
invariant-loop-nodes l = (token_width * l.at ≤ length l.toks) × (l.have ≤ 2 * l.at) × (length l.nodes ≡ length l.initial.nodes)
    × ((ts : List Content) → Rep l.toks ts → Holds l.initial.nodes [] → (ss : List Stmt) × (k : ℕ) × (length (nodes_from 0 ss) ≡ l.have) × Holds l.nodes (nodes_from 0 ss) × (length ts < l.at + k)
    × (program ts ≡ stmts_from ts k ss l.at))

abbrev pub decreases-loop-nodes : goal.decreases-loop-nodes
decreases-loop-nodes l = length l.toks - l.at

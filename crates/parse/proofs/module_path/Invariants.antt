use Prim.Native.Nat.{ℕ, ◌+◌, ◌-◌, ◌*◌, ◌≤◌, ◌<◌}
use mathlib.Core.Path.{◌≡◌}
use lib.ListN.{length}
use Rattle.language.specs.Tables.{token_width}
use Rattle.language.specs.Sentences.{named'}
use Rattle.parse.specs.Parsing.{After}
use Rattle.parse.proofs.Nodes.{Names}
use Rattle.parse.proofs.Steps.{path_from}
use Rattle.parse.proofs.module_path.Given as goal

abbrev pub invariant-loop-at : goal.invariant-loop-at
invariant-loop-at l = (l.next ≡ l.at + 1 + 2 * l.names) × (l.have ≡ l.count + l.names) × (token_width * l.next ≤ length l.toks) × (length l.nodes ≡ length l.initial.nodes)
    × After l.toks l.initial.nodes l.count (λ ts ns. (k : ℕ) × (length ts < l.next + k) × (named' ts l.at l.steps ≡ path_from ts l.at k l.names l.next l.steps) × Names l.nodes ns l.at l.names l.have)

abbrev pub decreases-loop-at : goal.decreases-loop-at
decreases-loop-at l = length l.toks - l.next

-- The cycle of calls. Its measure is what is left of the tokens, and at one token the order arg, expr, slashes, chain, links, list:
-- a list goes on from the token after its `(`. Each loop's invariant: how far it went, in numbers, and that what the definition
-- gives from here on, after the tree so far, is what it gives from the start. `links` and `slashes` measure their steps, `list`
-- what is left of the tokens.
use Prim.Native.Nat.{ℕ, ◌+◌, ◌-◌, ◌*◌, ◌≤◌, ◌<◌}
use mathlib.Core.Path.{◌≡◌}
use lib.ListN.{length}
use Rattle.language.specs.Tables.{token_width}
use Rattle.language.specs.Sentences as grammar
use Rattle.language.specs.Sentences.{Expr, Args, expr_at, chain_at, list_at, args_of}
use Rattle.parse.specs.Parsing.{row_plus, Stands, Lists, After, AfterExpr}
use Prim.Native.Nat.{ℕ, ◌<◌}
use Rattle.parse.proofs.+arg_chain_expr_links_list_slashes.Given as goal

abbrev pub decreases-arg : goal.decreases-arg
decreases-arg l = 6 * (length l.toks.now - token_width * l.at) + 5

abbrev pub decreases-chain : goal.decreases-chain
decreases-chain l = 6 * (length l.toks.now - token_width * l.at) + 2

abbrev pub decreases-expr : goal.decreases-expr
decreases-expr l = 6 * (length l.toks.now - token_width * l.at) + 4

abbrev pub decreases-links : goal.decreases-links
decreases-links l = 6 * (length l.toks.now - token_width * l.start) + 1

abbrev pub invariant-links-loop-p : goal.invariant-links-loop-p
invariant-links-loop-p l = (l.start ≤ l.at) × (token_width * l.at ≤ length l.toks) × (l.count ≤ l.have) × (l.have + 2 * l.start ≤ l.count + 2 * l.at) × (l.more ≤ l.p.steps) × (length l.nodes ≡ length l.initial.nodes)
    × AfterExpr l.toks l.initial.nodes l.count l.p.first (λ ts ns e. (f : Expr) × Stands l.nodes ns f l.have l.p.first
    × (grammar.links ts (list_at ts l.p.lists) l.p.steps e l.start ≡ grammar.links ts (list_at ts l.p.lists) l.more f l.at))

abbrev pub decreases-links-loop-p : goal.decreases-links-loop-p
decreases-links-loop-p l = l.more

abbrev pub decreases-list : goal.decreases-list
decreases-list l = 6 * (length l.toks.now - token_width * l.start)

abbrev pub invariant-list-loop-nodes : goal.invariant-list-loop-nodes
invariant-list-loop-nodes l = (l.start < l.at) × (token_width * l.at ≤ length l.toks) × (l.count ≤ l.have) × (l.have + 2 * l.start + 2 ≤ l.count + 2 * l.at) × (row_plus l.first ≤ l.have) × (length l.nodes ≡ length l.initial.nodes)
    × After l.toks l.initial.nodes l.count (λ ts ns. (g : Args) × (k : ℕ) × Lists l.nodes ns g l.have (row_plus l.first) × (length ts < l.at + k)
    × (list_at ts l.left l.start ≡ args_of ts (expr_at ts (l.left - 1)) k g l.at))

abbrev pub decreases-list-loop-nodes : goal.decreases-list-loop-nodes
decreases-list-loop-nodes l = length l.toks - l.at

abbrev pub decreases-slashes : goal.decreases-slashes
decreases-slashes l = 6 * (length l.toks.now - token_width * l.start) + 3

abbrev pub invariant-slashes-loop-p : goal.invariant-slashes-loop-p
invariant-slashes-loop-p l = (l.start ≤ l.at) × (token_width * l.at ≤ length l.toks) × (l.count ≤ l.have) × (l.have + 2 * l.start ≤ l.count + 2 * l.at) × (l.more ≤ l.p.steps) × (length l.nodes ≡ length l.initial.nodes)
    × AfterExpr l.toks l.initial.nodes l.count l.p.first (λ ts ns e. (k : ℕ) → l.p.steps < k → (f : Expr) × (k' : ℕ) × Stands l.nodes ns f l.have l.p.first × (l.more < k')
    × (grammar.slashes ts (chain_at ts l.p.lists) k e l.start l.p.steps ≡ grammar.slashes ts (chain_at ts l.p.lists) k' f l.at l.more))

abbrev pub decreases-slashes-loop-p : goal.decreases-slashes-loop-p
decreases-slashes-loop-p l = l.more

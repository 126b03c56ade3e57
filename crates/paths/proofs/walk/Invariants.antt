use mathlib.Core.Path.{◌≡◌}
use Rattle.language.specs.Tokens.{tokens, contents}
use Rattle.language.specs.Judgements.{walk}
use Rattle.paths.proofs.walk.Given as goal

abbrev pub invariant-loop-left : goal.invariant-loop-left
invariant-loop-left l = walk (contents (tokens l.toks)) l.t l.left l.inside l.at ≡ walk (contents (tokens l.toks)) l.t l.names l.top l.t

abbrev pub decreases-loop-left : goal.decreases-loop-left
decreases-loop-left l = l.left

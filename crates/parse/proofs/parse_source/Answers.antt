use Rattle.lex.proofs.Left.{lexes}
use Rattle.parse.proofs.Entry.{bounds, as_before, no_nodes, not_lexed}
use Rattle.parse.proofs.parse_source.Goals as goal

pub returns-then-verdict-ne-DONE : goal.returns-then-verdict-ne-DONE
returns-then-verdict-ne-DONE c = not_lexed _ _ _ c.lex_source-lexed.ensures c.if-verdict-ne-DONE.true c.refused.ensures c.clear.ensures

pub parse_tokens-requires : goal.parse_tokens-requires
parse_tokens-requires c = bounds c.lex_source-lexed.ensures c.if-verdict-ne-DONE.false

pub returns : goal.returns
returns c = as_before c.lex_source-lexed.ensures c.if-verdict-ne-DONE.false (no_nodes c.clear.ensures).1
    (c.parse_tokens.ensures _ (lexes c.lex_source-lexed.ensures c.if-verdict-ne-DONE.false) (no_nodes c.clear.ensures).0)

-- Each contract has an equation for the answer and one for each table, and the language's leave just that.
use Rattle.language.proofs.Left.{scan_left, lex_left, parse_left, canon_left, check_left}
use Rattle.joined.specs.Left.{CallsLeave}

pub calls_leave : CallsLeave
calls_leave =
    record {
      scan = λ line n r left c. rw (c.answer, c.table) (scan_left line n);
      lex = λ source n r left c. rw (c.answer, c.table) (lex_left source n);
      parse = λ source t n r toks left c. rw (c.answer, c.tokens, c.nodes) (parse_left source t n);
      canon = λ source t n r toks left c. rw (c.answer, c.table, c.text) (canon_left source t n);
      check = λ source t n d k r toks tree found held c.
          rw (c.answer, c.tokens, c.nodes, c.diags, c.stmts) (check_left source t n d k);
    }

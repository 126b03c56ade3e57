-- 01's starred samples, by computation.
use mathlib.Core.Path.{refl}
use Rattle.language.specs.Utf8.{encode, char_at, lead_of, follow, bad_from}
use Rattle.language.specs.Integers.{smallest}
use Rattle.language.specs.Lexemes.{lexeme, scan_from, is_blank, is_digit, is_word_start, is_word, is_body, not_newline, blank_run, word, digit_of, read_digits, starts_hex, starts_zero, integer, octet, quad_from, number, string, punctuation, ascii}
use Rattle.language.specs.Tokens.{lines_from, items_from, items, tokens_from, tokens, first_wrong, place_from}
use Rattle.language.specs.Sentences.{program, stmts_from, stmt_at, let_at, import_at, expr_of, chain_of, list_at, args_of, arg_of, slashes, links, primary, address, named', names_from, nodes_from}
use Rattle.language.specs.Values.{entries, lookup_from, table_text}
use Rattle.language.specs.Judgements.{run, stmt, judge, judge_args, next_arg, used, narrowed, narrow_to, fit, bind_from, applied, over, membered, and_then, walk, first_named, errors_in, warnings_in}
use Rattle.language.specs.Findings.{parts, arg_parts, rows_of}
use Rattle.language.specs.Numbers.{lex_answer, parse_answer, checked, check_answer}
use Rattle.language.specs.Samples.{bytes, known_after, SamplesHold}

pub samples_hold : SamplesHold
unfolding bytes encode char_at lead_of follow bad_from smallest lexeme scan_from is_blank is_digit is_word_start is_word is_body not_newline blank_run word digit_of read_digits starts_hex starts_zero integer octet quad_from number string punctuation ascii lines_from items_from items tokens_from tokens first_wrong place_from program stmts_from stmt_at let_at import_at expr_of chain_of list_at args_of arg_of slashes links primary address named' names_from nodes_from entries lookup_from table_text run stmt judge judge_args next_arg used narrowed narrow_to fit bind_from applied over membered and_then walk first_named errors_in warnings_in lex_answer parse_answer checked parts arg_parts rows_of check_answer known_after
samples_hold = refl

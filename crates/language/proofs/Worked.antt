-- The worked rows, by computation.
use mathlib.Core.Path.{refl}
use Rattle.language.specs.Utf8.{encode, char_at, lead_of, follow, bad_from}
use Rattle.language.specs.Integers.{smallest}
use Rattle.language.specs.Lexemes.{lexeme, scan_from, is_blank, is_digit, is_word_start, is_word, is_body, not_newline, blank_run, word, digit_of, read_digits, starts_hex, starts_zero, integer, octet, quad_from, number, string, punctuation, ascii}
use Rattle.language.specs.Tokens.{lines_from, items_from, items, tokens_from, tokens, first_wrong, place_from}
use Rattle.language.specs.Sentences.{program, stmts_from, stmt_at, let_at, import_at, expr_of, chain_of, list_at, args_of, arg_of, slashes, links, primary, address, named', names_from, nodes_from, node_row}
use Rattle.language.specs.Values.{entries, lookup_from, table_text}
use Rattle.language.specs.Judgements.{run, stmt, judge, judge_args, next_arg, used, narrowed, narrow_to, fit, bind_from, applied, over, membered, and_then, walk, first_named, compared, errors_in, warnings_in}
use Rattle.language.specs.Numbers.{scan_answer, scan_table, lex_answer, lex_table, parse_answer, checked, check_answer, check_nodes, check_diags, check_stmts}
use Rattle.language.specs.Samples.{bytes}
use Rattle.table.specs.Table.{pad_to, tabled}
use Rattle.language.specs.Tables.{lexeme_row, token_row}
use Rattle.language.specs.Findings.{diag_row, parts, arg_parts, rows_of, stmt_row}
use Rattle.language.specs.Worked.{RowsWorked, CallsWorked, BlanksWorked}
use Rattle.language.specs.Comparisons.{LooksWorked}

pub rows_worked : RowsWorked
unfolding bytes encode char_at lead_of follow bad_from smallest lexeme scan_from is_blank is_digit is_word_start is_word is_body not_newline blank_run word digit_of read_digits starts_hex starts_zero integer octet quad_from number string punctuation ascii lines_from items_from items tokens_from tokens first_wrong place_from program stmts_from stmt_at let_at import_at expr_of chain_of list_at args_of arg_of slashes links primary address named' names_from nodes_from entries lookup_from table_text run stmt judge judge_args next_arg used narrowed narrow_to fit bind_from applied over membered and_then walk first_named errors_in warnings_in lex_answer parse_answer checked check_answer pad_to tabled lexeme_row token_row node_row diag_row parts arg_parts rows_of stmt_row scan_answer scan_table lex_table check_nodes check_diags check_stmts
rows_worked = (refl, refl, (refl, refl, refl), refl, refl)

pub calls_worked : CallsWorked
unfolding bytes encode char_at lead_of follow bad_from smallest lexeme scan_from is_blank is_digit is_word_start is_word is_body not_newline blank_run word digit_of read_digits starts_hex starts_zero integer octet quad_from number string punctuation ascii lines_from items_from items tokens_from tokens first_wrong place_from program stmts_from stmt_at let_at import_at expr_of chain_of list_at args_of arg_of slashes links primary address named' names_from nodes_from entries lookup_from table_text run stmt judge judge_args next_arg used narrowed narrow_to fit bind_from applied over membered and_then walk first_named errors_in warnings_in lex_answer parse_answer checked check_answer pad_to tabled lexeme_row token_row node_row diag_row parts arg_parts rows_of stmt_row scan_answer scan_table lex_table check_nodes check_diags check_stmts
calls_worked = ((refl, refl), (refl, refl), (refl, refl), (refl, refl), (refl, refl), refl, refl, (refl, refl))

pub blanks_worked : BlanksWorked
unfolding is_blank
blanks_worked = (refl, refl)

pub looks_worked : LooksWorked
unfolding bytes encode char_at lead_of follow bad_from smallest lexeme scan_from is_blank is_digit is_word_start is_word is_body not_newline blank_run word digit_of read_digits starts_hex starts_zero integer octet quad_from number string punctuation ascii lines_from items_from items tokens_from tokens first_wrong place_from program stmts_from stmt_at let_at import_at expr_of chain_of list_at args_of arg_of slashes links primary address named' names_from nodes_from entries lookup_from table_text run stmt judge judge_args next_arg used narrowed narrow_to fit bind_from applied over membered and_then walk first_named compared checked
looks_worked = refl

-- Judgements of examples.
use mathlib.Core.Path.{◌≡◌, refl}
use mathlib.Core.Bool.{true}
use mathlib.Core.List.{[], ◌∷◌}
use Rattle.language.specs.Integers.{u8, u16, u32, smallest}
use Rattle.language.specs.Lexemes.{dot, double_colon, semi_colon, equals, slash, import_keyword, let_keyword, ipv4_literal, dec_literal, boolean_literal}
use Rattle.language.specs.Tokens.{Content, eof, plain, name, string}
use Rattle.language.specs.Sentences.{let', expr', import', literal, local, path, member, slash'}
use Rattle.language.specs.Values.{is_bool, is_sized, is_sock4, ty_bool, ty_int, ty_ip4, ty_sock4, ty_bytes, ty_integer, entries, lookup_from, table_text}
use Rattle.language.specs.Terms.{constant, atom}
use Rattle.language.specs.Judgements.{compared, unknown_name, unknown_item, unknown_module, not_imported, not_a_module, not_a_value, already_bound, no_members, operand_type, left, right, integral_too_large, multiple_imports, discarded_value, truncated, diag, held, discards, judged, judge_all, run, stmt, judge, used, narrowed, narrow_to, over, membered, and_then, walk, first_named}

a : Content
a = name (97 ∷ [])

bench : Content
bench = name (98 ∷ 101 ∷ 110 ∷ 99 ∷ 104 ∷ [])

BIG : Content
BIG = name (66 ∷ 73 ∷ 71 ∷ [])

deep : Content
deep = name (100 ∷ 101 ∷ 101 ∷ 112 ∷ [])

-- let a = a ; a ; let a = 1 ;
failed : judge_all (plain let_keyword ∷ a ∷ plain equals ∷ a ∷ plain semi_colon ∷ a ∷ plain semi_colon ∷ plain let_keyword ∷ a ∷ plain equals ∷ plain (dec_literal 1) ∷ plain semi_colon ∷ eof ∷ [])
    (let' 1 (local 3) ∷ expr' (local 5) ∷ let' 8 (literal 10) ∷ [])
    ≡ judged (diag 1 3 unknown_name ∷ diag 3 8 (already_bound 1) ∷ []) [] (0 ∷ 0 ∷ 1 ∷ 1 ∷ [])
unfolding a run stmt judge used narrowed narrow_to over membered and_then first_named compared
failed = refl

-- 255 ; 256 ; 18446744073709551616 ; true ;
sized : judge_all (plain (dec_literal 255) ∷ plain semi_colon ∷ plain (dec_literal 256) ∷ plain semi_colon ∷ plain (dec_literal 18446744073709551616) ∷ plain semi_colon ∷ plain (boolean_literal true) ∷ plain semi_colon ∷ eof ∷ [])
    (expr' (literal 0) ∷ expr' (literal 2) ∷ expr' (literal 4) ∷ expr' (literal 6) ∷ [])
    ≡ judged (diag 1 0 (discarded_value (ty_int u8)) ∷ diag 2 2 (discarded_value (ty_int u16)) ∷ diag 3 4 integral_too_large ∷ diag 4 6 (discarded_value ty_bool) ∷ [])
    (held 0 discards (atom 0 (constant (is_sized u8 255))) ∷ held 2 discards (atom 2 (constant (is_sized u16 256))) ∷ held 6 discards (atom 6 (constant (is_bool true))) ∷ []) []
unfolding run stmt judge used narrowed narrow_to over membered and_then smallest
sized = refl

-- 1.2.3.4 / 18446744073709551696 ;
cut : judge_all (plain (ipv4_literal 0x01020304) ∷ plain slash ∷ plain (dec_literal 18446744073709551696) ∷ plain semi_colon ∷ eof ∷ []) (expr' (slash' (literal 0) (literal 2)) ∷ [])
    ≡ judged (diag 1 2 (truncated 18446744073709551696 (ty_int u16)) ∷ diag 1 0 (discarded_value ty_sock4) ∷ []) (held 0 discards (atom 0 (constant (is_sock4 0x01020304 80))) ∷ []) []
unfolding run stmt judge used narrowed narrow_to over membered and_then
cut = refl

-- import bench ; 1.2.3.4 / bench :: BIG ; bench :: deep ; bench :: deep :: BIG ; bench :: BIG :: a ; import bench ; import a ; a :: a ; deep :: a ; bench :: a . a ;
paths : judge_all (plain import_keyword ∷ bench ∷ plain semi_colon ∷ plain (ipv4_literal 7) ∷ plain slash ∷ bench ∷ plain double_colon ∷ BIG ∷ plain semi_colon ∷ bench ∷ plain double_colon ∷ deep ∷ plain semi_colon ∷ bench ∷ plain double_colon ∷ deep ∷ plain double_colon ∷ BIG ∷ plain semi_colon ∷ bench ∷ plain double_colon ∷ BIG ∷ plain double_colon ∷ a ∷ plain semi_colon ∷ plain import_keyword ∷ bench ∷ plain semi_colon ∷ plain import_keyword ∷ a ∷ plain semi_colon ∷ a ∷ plain double_colon ∷ a ∷ plain semi_colon ∷ deep ∷ plain double_colon ∷ a ∷ plain semi_colon ∷ bench ∷ plain double_colon ∷ BIG ∷ plain dot ∷ a ∷ plain semi_colon ∷ eof ∷ [])
    (import' 1 ∷ expr' (slash' (literal 3) (path 5 1)) ∷ expr' (path 9 1) ∷ expr' (path 13 2) ∷ expr' (path 19 2) ∷ import' 26 ∷ import' 29 ∷ expr' (path 31 1) ∷ expr' (path 35 1) ∷ expr' (member (path 39 1) 43) ∷ [])
    ≡ judged (diag 2 5 (truncated 70000 (ty_int u16)) ∷ diag 2 3 (discarded_value ty_sock4) ∷ diag 3 11 not_a_value ∷ diag 4 17 (unknown_item 8) ∷ diag 5 21 not_a_module ∷ diag 6 26 multiple_imports ∷ diag 7 29 unknown_module ∷ diag 9 35 not_imported ∷ diag 10 43 (no_members (ty_int u32)) ∷ [])
    (held 3 discards (atom 3 (constant (is_sock4 7 4464))) ∷ []) []
unfolding a bench BIG deep run stmt judge used narrowed narrow_to over membered and_then first_named walk lookup_from entries table_text
paths = refl

-- 1.2.3.4 / 65536 / 1 ; 1 / a ; 1.2.3.4 / "" ;
operands : judge_all (plain (ipv4_literal 7) ∷ plain slash ∷ plain (dec_literal 65536) ∷ plain slash ∷ plain (dec_literal 1) ∷ plain semi_colon ∷ plain (dec_literal 1) ∷ plain slash ∷ a ∷ plain semi_colon ∷ plain (ipv4_literal 7) ∷ plain slash ∷ string [] [] ∷ plain semi_colon ∷ eof ∷ [])
    (expr' (slash' (slash' (literal 0) (literal 2)) (literal 4)) ∷ expr' (slash' (literal 6) (local 8)) ∷ expr' (slash' (literal 10) (literal 12)) ∷ [])
    ≡ judged (diag 1 2 (truncated 65536 (ty_int u16)) ∷ diag 1 0 (operand_type left ty_ip4 ty_sock4) ∷ diag 2 6 (operand_type left ty_ip4 ty_integer) ∷ diag 3 12 (operand_type right (ty_int u16) ty_bytes) ∷ []) [] []
unfolding a run stmt judge used narrowed narrow_to over membered and_then first_named
operands = refl

-- Trees of examples, and refusals.
use mathlib.Core.Path.{◌≡◌, refl}
use mathlib.Core.List.{List, [], ◌∷◌}
use mathlib.Core.Option.{none, some}
use Prim.Native.Nat.{ℕ, zero, suc}
use Rattle.language.specs.Lexemes.{l_paren, r_paren, dot, double_colon, colon, semi_colon, equals, comma, slash, let_keyword, ipv4_literal, dec_literal, hex_literal}
use Rattle.language.specs.Tokens.{Content, eof, plain, name}
use Rattle.language.specs.Bounds.{program_in, alone, stmts_in, stmt_in, let_in, expr_in, list_in}
use Rattle.language.specs.Counted.{turn, too_many_from, too_many}
use Rattle.language.specs.Sentences.{ok, no, let', expr', literal, sock4, local, path, member, call, slash', none_given, given, named, program, stmts_from, stmt_at, let_at, import_at, expr_of, chain_of, list_at, args_of, arg_of, slashes, links, primary, address, named', names_from, nodes, nodes_from, node}

a : Content
a = name (97 ∷ [])

-- let a = 1.2.3.4 : 80 / a . a ;
lets : program (plain let_keyword ∷ a ∷ plain equals ∷ plain (ipv4_literal 0x01020304) ∷ plain colon ∷ plain (dec_literal 80) ∷ plain slash ∷ a ∷ plain dot ∷ a ∷ plain semi_colon ∷ eof ∷ [])
    ≡ ok (let' 1 (slash' (sock4 3) (member (local 7) 9)) ∷ []) 11 0
unfolding a program stmts_from stmt_at let_at import_at expr_of chain_of list_at args_of arg_of slashes links primary address named' names_from
lets = refl

-- a :: a ( a , a : 1 , ) ;
calls : program (a ∷ plain double_colon ∷ a ∷ plain l_paren ∷ a ∷ plain comma ∷ a ∷ plain colon ∷ plain (dec_literal 1) ∷ plain comma ∷ plain r_paren ∷ plain semi_colon ∷ eof ∷ [])
    ≡ ok (expr' (call (path 0 1) 3 (named (given none_given (local 4)) 6 (literal 8))) ∷ []) 12 0
unfolding a program stmts_from stmt_at let_at import_at expr_of chain_of list_at args_of arg_of slashes links primary address named' names_from
calls = refl

-- a ( , ) ;
lone : program (a ∷ plain l_paren ∷ plain comma ∷ plain r_paren ∷ plain semi_colon ∷ eof ∷ []) ≡ no 5 1 2
unfolding a program stmts_from stmt_at let_at import_at expr_of chain_of list_at args_of arg_of slashes links primary address named' names_from
lone = refl

-- 1.2.3.4 : 65536 and 1.2.3.4 : 0x50
large : program (plain (ipv4_literal 1) ∷ plain colon ∷ plain (dec_literal 65536) ∷ plain semi_colon ∷ eof ∷ []) ≡ no 5 2 2
unfolding a program stmts_from stmt_at let_at import_at expr_of chain_of list_at args_of arg_of slashes links primary address named' names_from
large = refl

hex : program (plain (ipv4_literal 1) ∷ plain colon ∷ plain (hex_literal 80) ∷ plain semi_colon ∷ eof ∷ []) ≡ no 5 1 2
unfolding a program stmts_from stmt_at let_at import_at expr_of chain_of list_at args_of arg_of slashes links primary address named' names_from
hex = refl

-- the nodes of the call above: a name, the path, an argument with its value, another, the call, the statement
call_nodes : nodes (expr' (call (path 0 1) 3 (named (given none_given (local 4)) 6 (literal 8))) ∷ [])
    ≡ node 1 2 0 0 0 ∷ node 5 0 1 0 0 ∷ node 4 4 0 0 0 ∷ node 9 4 2 6 0 ∷ node 2 8 0 0 0 ∷ node 10 6 4 0 0 ∷ node 8 0 1 4 3 ∷ node 13 0 6 0 0 ∷ []
unfolding nodes_from
call_nodes = refl

-- ---- the bounds

-- two tokens so many times, and then some tokens
times : ℕ → Content → Content → List Content → List Content
times zero c d ts = ts
times (suc n) c d ts = c ∷ d ∷ times n c d ts

-- `a` with 65 steps, and then a `,`: the 65th step is refused, before the token that the grammar alone refuses
step : (program (a ∷ times 65 (plain dot) a (plain comma ∷ eof ∷ [])) ≡ no 7 0 129)
    × (alone (a ∷ times 65 (plain dot) a (plain comma ∷ eof ∷ [])) ≡ no 5 1 131)
unfolding a times program program_in stmts_from stmts_in stmt_at stmt_in let_at let_in import_at expr_of expr_in chain_of list_at list_in args_of arg_of slashes links primary address named' names_from
step = (refl, refl)

-- `a (` 33 times, and then a `;`: so is the 33rd list
deep : (program (times 33 a (plain l_paren) (plain semi_colon ∷ eof ∷ [])) ≡ no 7 0 65)
    × (alone (times 33 a (plain l_paren) (plain semi_colon ∷ eof ∷ [])) ≡ no 5 1 66)
unfolding a times program program_in stmts_from stmts_in stmt_at stmt_in let_at let_in import_at expr_of expr_in chain_of list_at list_in args_of arg_of slashes links primary address named' names_from
deep = (refl, refl)

-- the `,` before the 65 steps: it is refused
comma_first : program (a ∷ plain comma ∷ a ∷ times 65 (plain dot) a (plain semi_colon ∷ eof ∷ [])) ≡ no 5 1 1
unfolding a times program stmts_from stmt_at let_at import_at expr_of chain_of list_at args_of arg_of slashes links primary address named' names_from
comma_first = refl

-- the count of lists and steps over the tokens: of `step` and `deep`, and of 65 `/`
counted : (too_many (a ∷ times 65 (plain dot) a (plain comma ∷ eof ∷ [])) ≡ some 129)
    × (too_many (times 33 a (plain l_paren) (plain semi_colon ∷ eof ∷ [])) ≡ some 65)
    × (too_many (a ∷ times 65 (plain slash) a (plain semi_colon ∷ eof ∷ [])) ≡ some 129)
unfolding a times turn too_many_from
counted = (refl, refl, refl)

-- `a ( a` with 64 steps `)`, n steps more, and `;`: the `(` is the outer expression's first, so the 64th more is one too many
inside : ℕ → List Content
inside n = a ∷ plain l_paren ∷ a ∷ times 64 (plain dot) a (plain r_paren ∷ times n (plain dot) a (plain semi_colon ∷ eof ∷ []))

mixed : (too_many (inside 64) ≡ some 258) × (program (inside 64) ≡ no 7 0 258) × (too_many (inside 63) ≡ none)
unfolding a times inside turn too_many_from program stmts_from stmt_at let_at import_at expr_of chain_of list_at args_of arg_of slashes links primary address named' names_from
mixed = (refl, refl, refl)

-- each argument and each statement starts anew: `a (` and then an `a` with 64 steps, `,` and the same, `)`, `;` and the same
anew : too_many (a ∷ plain l_paren ∷ a ∷ times 64 (plain dot) a (plain comma ∷ a ∷ times 64 (plain slash) a
    (plain r_paren ∷ plain semi_colon ∷ a ∷ times 64 (plain dot) a (plain semi_colon ∷ eof ∷ []))))
    ≡ none
unfolding a times turn too_many_from
anew = refl

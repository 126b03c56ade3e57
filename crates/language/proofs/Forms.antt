-- The forms of tokens, contents and values by the numbers of their kinds: a case over a number has only the forms with it.
use Prim.Native.Nat.{ℕ}
use mathlib.Core.Path.{◌≡◌, refl, subst}
use mathlib.Core.Bool.{Bool}
use mathlib.Core.List.{List}
use Rattle.language.specs.Integers.{u8, u16, u32, u64}
use Rattle.language.specs.Lexemes.{Tok, l_paren, r_paren, dot, double_colon, colon, semi_colon, equals, comma, slash, import_keyword, let_keyword, identifier, boolean_literal, ipv4_literal, hex_literal, dec_literal}
use Rattle.language.specs.Tokens.{Content, eof, plain, name, string}
use Rattle.language.specs.Tables.{tok_kind, content_kind}
use Rattle.language.specs.Sentences.{port, port_of}
use Rattle.language.specs.Values.{Value, is_integer, is_bool, is_sized, is_ip4, is_sock4, is_string, is_text, is_function}
use Rattle.language.specs.Findings.{value_kind}
use Rattle.language.proofs.Tests.{never}

-- ---- tokens

pub data TokOf : ℕ → Tok → Type 0 where
  of_l_paren : TokOf 2 l_paren
  of_r_paren : TokOf 3 r_paren
  of_dot : TokOf 4 dot
  of_double_colon : TokOf 5 double_colon
  of_colon : TokOf 6 colon
  of_semi_colon : TokOf 7 semi_colon
  of_equals : TokOf 8 equals
  of_comma : TokOf 9 comma
  of_slash : TokOf 10 slash
  of_import : TokOf 11 import_keyword
  of_let : TokOf 12 let_keyword
  of_identifier : TokOf 13 identifier
  of_boolean : {b : Bool} → TokOf 14 (boolean_literal b)
  of_ipv4 : {n : ℕ} → TokOf 15 (ipv4_literal n)
  of_hex : {n : ℕ} → TokOf 17 (hex_literal n)
  of_dec : {n : ℕ} → TokOf 18 (dec_literal n)

own_tok : (t : Tok) → TokOf (tok_kind t) t
own_tok l_paren = of_l_paren
own_tok r_paren = of_r_paren
own_tok dot = of_dot
own_tok double_colon = of_double_colon
own_tok colon = of_colon
own_tok semi_colon = of_semi_colon
own_tok equals = of_equals
own_tok comma = of_comma
own_tok slash = of_slash
own_tok import_keyword = of_import
own_tok let_keyword = of_let
own_tok identifier = of_identifier
own_tok (boolean_literal b) = of_boolean
own_tok (ipv4_literal n) = of_ipv4
own_tok (hex_literal n) = of_hex
own_tok (dec_literal n) = of_dec

pub tok_form : (t : Tok) {k : ℕ} → tok_kind t ≡ k → TokOf k t
tok_form t e = subst (λ k. TokOf k t) e (own_tok t)

-- a string is no token of one lexeme, and neither is the end
pub no_string : {t : Tok} → TokOf 16 t → ⊥
no_string x = elim x [ ]

pub no_end : {t : Tok} → TokOf 1 t → ⊥
no_end x = elim x [ ]

-- ---- contents

pub data ContentOf : ℕ → Content → Type 0 where
  of_eof : ContentOf 1 eof
  of_plain : {k : ℕ} {t : Tok} → TokOf k t → ContentOf k (plain t)
  of_name : {bs : List ℕ} → ContentOf 13 (name bs)
  of_string : {b : List ℕ} {bs : List (List ℕ)} → ContentOf 16 (string b bs)

own_content : (c : Content) → ContentOf (content_kind c) c
own_content eof = of_eof
own_content (plain t) = of_plain (own_tok t)
own_content (name bs) = of_name
own_content (string b bs) = of_string

pub content_form : (c : Content) {k : ℕ} → content_kind c ≡ k → ContentOf k c
content_form c e = subst (λ k. ContentOf k c) e (own_content c)

-- a port is a decimal token
pub port_kind : (c : Content) → port_of c ≡ port → content_kind c ≡ 18
port_kind (plain (dec_literal n)) e = refl
port_kind eof e = never (cc)
port_kind (plain l_paren) e = never (cc)
port_kind (plain r_paren) e = never (cc)
port_kind (plain dot) e = never (cc)
port_kind (plain double_colon) e = never (cc)
port_kind (plain colon) e = never (cc)
port_kind (plain semi_colon) e = never (cc)
port_kind (plain equals) e = never (cc)
port_kind (plain comma) e = never (cc)
port_kind (plain slash) e = never (cc)
port_kind (plain import_keyword) e = never (cc)
port_kind (plain let_keyword) e = never (cc)
port_kind (plain identifier) e = never (cc)
port_kind (plain (boolean_literal b)) e = never (cc)
port_kind (plain (ipv4_literal n)) e = never (cc)
port_kind (plain (hex_literal n)) e = never (cc)
port_kind (name bs) e = never (cc)
port_kind (string b bs) e = never (cc)

-- ---- values

pub data ValueOf : ℕ → Value → Type 0 where
  of_bool : {b : Bool} → ValueOf 2 (is_bool b)
  of_u8 : {n : ℕ} → ValueOf 3 (is_sized u8 n)
  of_u16 : {n : ℕ} → ValueOf 4 (is_sized u16 n)
  of_u32 : {n : ℕ} → ValueOf 5 (is_sized u32 n)
  of_u64 : {n : ℕ} → ValueOf 6 (is_sized u64 n)
  of_ip4 : {n : ℕ} → ValueOf 7 (is_ip4 n)
  of_sock4 : {n p : ℕ} → ValueOf 8 (is_sock4 n p)
  of_bytes : {t : ℕ} → ValueOf 9 (is_string t)
  of_function_lem : {k : ℕ} → ValueOf 14 (is_function k)
  of_integer : {n : ℕ} → ValueOf 16 (is_integer n)
  of_text : {a b : ℕ} → ValueOf 17 (is_text a b)

own_value : (v : Value) → ValueOf (value_kind v) v
own_value (is_integer n) = of_integer
own_value (is_bool b) = of_bool
own_value (is_sized u8 n) = of_u8
own_value (is_sized u16 n) = of_u16
own_value (is_sized u32 n) = of_u32
own_value (is_sized u64 n) = of_u64
own_value (is_ip4 n) = of_ip4
own_value (is_sock4 n p) = of_sock4
own_value (is_string t) = of_bytes
own_value (is_text a b) = of_text
own_value (is_function k) = of_function_lem

pub value_form : (v : Value) {k : ℕ} → value_kind v ≡ k → ValueOf k v
value_form v e = subst (λ k. ValueOf k v) e (own_value v)

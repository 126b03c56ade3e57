-- What a row shows is a part of the source or of the table's text.
use Prim.Native.Nat.{ℕ, ◌≤◌, ◌<◌}
use mathlib.Core.Path.{◌≡◌, refl, sym, ap, ◌∙◌}
use mathlib.Core.Bool.{true}
use mathlib.Core.List.{List, []}
use native.Mathlib.Omega.{arith}
use lib.ListN.{length}
use Rattle.language.specs.Tokens.{Content, name, string, tokens, contents}
use Rattle.language.specs.Sentences.{is}
use Rattle.language.specs.Values.{Value, is_integer, is_bool, is_sized, is_ip4, is_sock4, is_string, is_text, is_function, Ty, ty_void, ty_bool, ty_int, ty_ip4, ty_sock4, ty_bytes, ty_pkt, ty_pkt_gen, ty_time_jump, ty_function, ty_integer, ty_kind, table_text, entry_at}
use Rattle.language.specs.Terms.{constant, Term, atom, called, Terms}
use Rattle.language.specs.Judgements.{What, unknown_name, unknown_item, unknown_module, not_imported, not_a_module, not_a_value, already_bound, no_members, operand_type, not_callable, too_many_args, too_few_args, arg_type, void_value, integral_too_large, multiple_imports, discarded_value, truncated, overflow, diag}
use Rattle.language.specs.Findings.{what_kind, ty_entry, ty_text, named, typed, detail, value_text, shown_low, shown_high}
use Rattle.language.specs.Numbers.{checked, held_by, token_of}
use Rattle.language.specs.Checks.{PartOf, ModuleEntry, FunctionEntry, NameShown, TextShown, NamesShown}
use Rattle.language.proofs.Tests.{never}
use Rattle.language.proofs.TokensAt.{content_of_lem}
use Rattle.language.proofs.TokenTexts.{name_shown, bodies_shown, part_shown}
use Rattle.language.proofs.FindingTokens.{NamedTy, Shown, Right, Good, There, outcome_grounded}
use Rattle.language.proofs.HeldRows.{rows_good}
use Rattle.language.proofs.CheckClaims.{no_source}

-- a type's text is none, or the name of a function
text_known : (t : Ty) → ty_text t ≤ 2
text_known ty_void = omega arith
text_known ty_bool = omega arith
text_known ty_pkt = omega arith
text_known ty_pkt_gen = omega arith
text_known ty_time_jump = omega arith
text_known (ty_int t) = omega arith
text_known ty_ip4 = omega arith
text_known ty_sock4 = omega arith
text_known ty_bytes = omega arith
text_known (ty_function k) = omega arith
text_known ty_integer = omega arith

text_named : (t : Ty) → NamedTy t → ty_text t ≡ 2 → PartOf table_text (entry_at (ty_entry t)).start (entry_at (ty_entry t)).end
text_named (ty_function k) h e = h.named
text_named ty_void h e = absurd (omega arith)
text_named ty_bool h e = absurd (omega arith)
text_named ty_pkt h e = absurd (omega arith)
text_named ty_pkt_gen h e = absurd (omega arith)
text_named ty_time_jump h e = absurd (omega arith)
text_named (ty_int t) h e = absurd (omega arith)
text_named ty_ip4 h e = absurd (omega arith)
text_named ty_sock4 h e = absurd (omega arith)
text_named ty_bytes h e = absurd (omega arith)
text_named ty_integer h e = absurd (omega arith)

module _ (s : List ℕ) where
  abbrev cs : List Content
  cs = contents (tokens s)

  -- ---- findings

  module _ (n at : ℕ) where
    -- the name of a token, and no other
    shows_name_lem : (w : What) (a b : ℕ) → is cs at (name []) ≡ true → ((m : ℕ) → w ≡ unknown_item m → ModuleEntry a) → (what_kind w ≡ 19 → ⊥)
        → NameShown s (diag n at w) (named w (token_of s at) a b)
    shows_name_lem w a b h more o =
        record {
          known = omega arith;
          source = λ _. (part_shown s at (name []) refl h, name_shown s at h);
          table = λ e. absurd (omega arith);
          inside = more;
          argument = λ f i t u e. absurd (o (ap what_kind e));
        }

    -- a type
    shows_type_lem : (w : What) (t : Ty) (a b c : ℕ) → (what_kind w ≡ 2 → ⊥)
        → ((f i : ℕ) (t u : Ty) → w ≡ arg_type f i t u → FunctionEntry a × (b < length (entry_at a).params)) → NamedTy t
        → NameShown s (diag n at w) (typed w t a b c)
    shows_type_lem w t a b c o more h =
        record {
          known = text_known t;
          source = λ e. absurd (no_source t e);
          table = text_named t h;
          inside = λ m e. absurd (o (ap what_kind e));
          argument = more;
        }

    finding_shown : (w : What) → Shown cs w at → NameShown s (diag n at w) (detail (token_of s) at w)
    finding_shown unknown_name h = shows_name_lem unknown_name 0 0 h (λ m e. never (cc)) (omega arith)
    finding_shown (unknown_item m) h = shows_name_lem (unknown_item m) m 0 h.0 (λ k e. h.1) (omega arith)
    finding_shown unknown_module h = shows_name_lem unknown_module 0 0 h (λ m e. never (cc)) (omega arith)
    finding_shown not_imported h = shows_name_lem not_imported 0 0 h (λ m e. never (cc)) (omega arith)
    finding_shown not_a_module h = shows_name_lem not_a_module 0 0 h (λ m e. never (cc)) (omega arith)
    finding_shown not_a_value h = shows_name_lem not_a_value 0 0 h (λ m e. never (cc)) (omega arith)
    finding_shown multiple_imports h = shows_name_lem multiple_imports 0 0 h (λ m e. never (cc)) (omega arith)
    finding_shown (already_bound t) h = shows_name_lem (already_bound t) _ _ h.0 (λ m e. never (cc)) (omega arith)
    finding_shown (no_members t) h = shows_type_lem (no_members t) t 0 0 0 (omega arith) (λ f i x y e. never (cc)) h
    finding_shown (operand_type x t f) h = shows_type_lem (operand_type x t f) f _ _ 1 (omega arith) (λ f i x y e. never (cc)) h.1
    finding_shown (not_callable t) h = shows_type_lem (not_callable t) t 0 0 0 (omega arith) (λ f i x y e. never (cc)) h
    finding_shown (too_many_args f a b) h = shows_type_lem (too_many_args f a b) (ty_function f) a b 0 (omega arith) (λ f i x y e. never (cc)) h
    finding_shown (too_few_args f a b) h = shows_type_lem (too_few_args f a b) (ty_function f) a b 0 (omega arith) (λ f i x y e. never (cc)) h
    finding_shown (arg_type f i t u) h = shows_type_lem (arg_type f i t u) u f i (ty_kind t) (omega arith) (λ g j x y e. (h.0, h.1)) h.3
    finding_shown (discarded_value t) h = shows_type_lem (discarded_value t) t 0 0 0 (omega arith) (λ f i x y e. never (cc)) h
    finding_shown (truncated k t) h = shows_type_lem (truncated k t) t _ _ 0 (omega arith) (λ f i x y e. never (cc)) h
    finding_shown (overflow t u) h = shows_type_lem (overflow t u) t (ty_kind u) 0 0 (omega arith) (λ f i x y e. never (cc)) h.0
    finding_shown void_value h =
        record {
          known = omega arith;
          source = λ e. absurd (omega arith);
          table = λ e. absurd (omega arith);
          inside = λ m e. never (cc);
          argument = λ f i x y e. never (cc);
        }
    finding_shown integral_too_large h =
        record {
          known = omega arith;
          source = λ e. absurd (omega arith);
          table = λ e. absurd (omega arith);
          inside = λ m e. never (cc);
          argument = λ f i x y e. never (cc);
        }

  -- ---- statements

  -- no text
  no_text : (v : Value) → value_text v ≡ 0 → TextShown s v
  no_text v e =
      record { known = omega arith; source = λ f. absurd (omega arith); table = λ f. absurd (omega arith) }

  -- a part of the table's text
  table_text_lem : (v : Value) → value_text v ≡ 2 → PartOf table_text (shown_low v) (shown_high v) → TextShown s v
  table_text_lem v e h = record { known = omega arith; source = λ f. absurd (omega arith); table = λ _. h }

  held_shown : (v : Value) → Right cs v → TextShown s v
  held_shown (is_string t) (b, bs, h) =
      record {
        known = omega arith;
        source = λ _. (b, bs, sym (content_of_lem s t) ∙ h, bodies_shown s t b bs h, part_shown s t (string b bs) refl (rw h));
        table = λ e. absurd (omega arith);
      }
  held_shown (is_text a b) h = table_text_lem (is_text a b) refl h
  held_shown (is_function k) h = table_text_lem (is_function k) refl h.named
  held_shown (is_integer n) h = no_text (is_integer n) refl
  held_shown (is_bool b) h = no_text (is_bool b) refl
  held_shown (is_sized t n) h = no_text (is_sized t n) refl
  held_shown (is_ip4 n) h = no_text (is_ip4 n) refl
  held_shown (is_sock4 n p) h = no_text (is_sock4 n p) refl

-- the expression of a row
good_constant : (ts : List Content) (m p : ℕ) (v : Value) (t : Term) → Good ts (There ts) m t → t ≡ atom p (constant v) → Right ts v
good_constant ts m p v t h e = (rw e at h).1

good_called : (ts : List Content) (m p f : ℕ) (c : Term) (vs : Terms) (t : Term) → Good ts (There ts) m t → t ≡ called p c f vs → FunctionEntry f
good_called ts m p f c vs t h e = (rw e at h).2

pub names_shown : NamesShown
unfolding checked
names_shown s =
    let g = outcome_grounded (contents (tokens s)) in
    let rows = rows_good (contents (tokens s)) (held_by (checked s)) g.kept in (
      λ d m. finding_shown s d.statement d.at d.what (g.found.holds d m).shown,
      λ r m p v e. let h = rows.holds r m in held_shown s v (good_constant (contents (tokens s)) h.slots p v r.term h.good e),
      λ r m p f c vs e. let h = rows.holds r m in good_called (contents (tokens s)) h.slots p f c vs r.term h.good e,
    )

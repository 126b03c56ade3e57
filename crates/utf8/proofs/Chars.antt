-- The character at a place of a source, as `decode` finds it.
use mathlib.Core.Path.{◌≡◌, refl, sym, ap, ◌∙◌}
use mathlib.Core.List.{List}
use mathlib.Core.Option as math
use mathlib.Core.Option.{none, some}
use Prim.Native.Nat.{ℕ, suc, ◌+◌, ◌≤◌, ◌<◌}
use native.Mathlib.Numerals.{add-one}
use lib.ListN.{length, get_or, drop, drop_of_length-le}
use lib.Seq.{drop-cons}
use Rattle.language.specs.Utf8.{Lead, char, no_char, lead_of, follow, begun, char_at}
use Rattle.language.proofs.Tests.{never}
use Rattle.std.specs.Prelude.{Option, Some, None}
use Rattle.utf8.specs.declared.Decoded.{Decoded}
use Rattle.utf8.specs.declared.Lead as code
use Rattle.utf8.specs.Decoding.{placed, leading}
use Rattle.utf8.proofs.Leads.{row_ascii}

-- what a first octet says tells how to go on
pub goes_on_lem : (o : math.Option Lead) (l : code.Lead) (s : List ℕ) → Some l ≡ leading o → begun o s ≡ follow (suc l.tails) l.tails l.low l.high l.bits s
goes_on_lem none l s e = never (cc)
goes_on_lem (some o) l s e =
    let p : l ≡ record { tails = o.tails; low = o.low; high = o.high; bits = o.bits } = cc in
    rw p

pub goes_nowhere : (o : math.Option Lead) (s : List ℕ) → None ≡ leading o → begun o s ≡ no_char
goes_nowhere none s e = refl
goes_nowhere (some o) s e = never (cc)

module _ (s : List ℕ) (at : ℕ) where
  pub past_end : length s ≤ at → None ≡ placed at (char_at (drop at s))
  unfolding char_at
  past_end h = rw drop_of_length-le

  module _ (in_source : at < length s) where
    at_first : char_at (drop at s) ≡ begun (lead_of (get_or s at 0)) (drop (at + 1) s)
    unfolding char_at
    at_first = rw (add-one, drop-cons s at 0)

    pub longer_char : (l : code.Lead) → Some l ≡ leading (lead_of (get_or s at 0))
        → char_at (drop at s) ≡ follow (suc l.tails) l.tails l.low l.high l.bits (drop (at + 1) s)
    longer_char l e = at_first ∙ goes_on_lem (lead_of (get_or s at 0)) l (drop (at + 1) s) e

    pub ascii_char : get_or s at 0 < 0x80 → char_at (drop at s) ≡ char (get_or s at 0) 1
    unfolding follow
    ascii_char h = longer_char (record { tails = 0; low = 0x80; high = 0xBF; bits = get_or s at 0 }) (row_ascii _ _ refl h)

    pub ascii_place : (n : ℕ) → n ≡ get_or s at 0 → get_or s at 0 < 0x80 → Some (record { number = n; next = at + 1 }) ≡ placed at (char_at (drop at s))
    ascii_place n e h = rw (e, ascii_char h)

    pub longer_place : (r : Option Decoded) (l : code.Lead)
        → r ≡ placed at (follow (suc l.tails) l.tails l.low l.high l.bits (drop (at + 1) s))
        → Some l ≡ leading (lead_of (get_or s at 0))
        → r ≡ placed at (char_at (drop at s))
    longer_place r l k e = k ∙ ap (placed at) (sym (longer_char l e))

    pub not_place : None ≡ leading (lead_of (get_or s at 0)) → None ≡ placed at (char_at (drop at s))
    not_place e = ap (placed at) (sym (at_first ∙ goes_nowhere (lead_of (get_or s at 0)) (drop (at + 1) s) e))

-- Arguments that are judged and not yet fitted: what is kept of them, the rows of their parts, and what fitting them comes to.
use Rattle.std.specs.Prelude.{ℕ, ◌+◌, ◌<◌, ◌≡◌, List, [], ◌∷◌, ltb, length, get_or, Ok}
use Rattle.table.specs.Table.{put_row}
use Rattle.language.specs.Choice.{if'}
use Rattle.language.specs.Values.{Ty, ty_kind, Param, entry_at}
use Rattle.language.specs.Terms as terms
use Rattle.language.specs.Terms.{Terms, called, term_type}
use Rattle.language.specs.Judgements as judgements
use Rattle.language.specs.Judgements.{too_many_args, arg_type, val, err, wrong, fine, and_then, fit, Arg, bind_all}
use Rattle.language.specs.Findings.{part, parts, arg_parts, stmt_row}
use Rattle.language.specs.Numbers.{token_of}
use Rattle.constants.specs.Constants.{no_param}
use Rattle.findings.specs.declared.Counts.{Counts}
use Rattle.findings.specs.Findings.{Adds}
use Rattle.values.specs.declared.Term.{Term}
use Rattle.values.specs.Values.{Judgement}
use Rattle.values.specs.Values.{Judged, term_as, judged_as}
use Rattle.holding.specs.Holding.{Step, most_rows, put_held, Judges}
use Rattle.arguments.specs.declared.Given.{Given}
use Rattle.arguments.specs.declared.Kept.{Kept}

abbrev pub given_as : Arg → ℕ → Given
given_as a row = record { term = term_as a.term; row = row; first = a.at }

-- the row after an argument for which the row k is kept
abbrev pub after : ℕ → Arg → ℕ
after k a = k + 1 + length (parts a.term)

-- and after some arguments
unfoldable pub end : ℕ → List Arg → ℕ
end k [] = k
end k (a ∷ as') = end (after k a) as'

-- the table with the rows of their parts, the first argument's own row kept at k
unfoldable pub spread : List ℕ → List ℕ → ℕ → List Arg → List ℕ
spread s u k [] = u
spread s u k (a ∷ as') = spread s (put_held s u (k + 1) (parts a.term)) (after k a) as'

-- of the arguments, the first one's row at k, the first two are kept, where the third starts, and how many there are
pub record Keeps (k : ℕ) (as' : List Arg) (r : Kept) : Type 0 where
  pub count : r.count ≡ length as'
  pub first : (a : Arg) (bs : List Arg) → as' ≡ a ∷ bs → r.first ≡ given_as a k
  pub second : (a b : Arg) (bs : List Arg) → as' ≡ a ∷ b ∷ bs → r.second ≡ given_as b (after k a)
  pub third : (a b d : Arg) (bs : List Arg) → as' ≡ a ∷ b ∷ d ∷ bs → r.third ≡ d.at

-- the rows of those that are kept can be stored
pub record Near (r : Kept) : Type 0 where
  pub first : r.first.row < most_rows
  pub second : r.second.row < most_rows

-- ---- one argument, to a parameter

-- what the argument a comes to as the parameter p, numbered i, of the function f
abbrev pub fitted_as : ℕ → ℕ → ℕ → Param → Arg → judgements.Judgement terms.Term
fitted_as n f i p a = fit n p.type a.at (wrong a.at (arg_type f i p.type (term_type a.term))) a.term

-- what it comes to where it has another type than is wanted
pub record WrongType (s : List ℕ) (f i wanted : ℕ) (g : Given) (r : Judged) : Type 0 where
  pub is : (row : ℕ) (a : Arg) (ty : Ty) → g ≡ given_as a row → wanted ≡ ty_kind ty → r ≡ judged_as s (err a.at (arg_type f i ty (term_type a.term)))

-- r is what the judgement j says, and where that is a value the argument's row is written: the table of what is held goes from t to v
pub record Placed (s : List ℕ) (r : Judgement) (x y t v : List ℕ) (c : Counts) (row i : ℕ) (j : judgements.Judgement terms.Term) : Type 0 where
  pub judges : Judges s r x y c j
  pub held : (e : terms.Term) → j.out ≡ val e → v ≡ put_row t row (stmt_row (token_of s) (part 7 i e))

-- the argument g of the function f, whose parameters are ps, for the one numbered i
pub record Takes (s : List ℕ) (f i : ℕ) (ps : List Param) (g : Given) (c : Counts) (x t : List ℕ) (r : Judgement) (y v : List ℕ) : Type 0 where
  pub is : (n row : ℕ) (a : Arg) → n ≡ c.number → g ≡ given_as a row → Placed s r x y t v c row i (fitted_as n f i (get_or ps i no_param) a)

-- ---- all of them

-- the call at the token `at` of the function f, with its arguments
abbrev pub call_as : ℕ → ℕ → ℕ → Term
call_as at f many = record { at = at; form = 3; kind = ty_kind (entry_at f).gives; lo = f; hi = many }

-- after the last of the `wanted` parameters of the function f, which is given `many` arguments: the call at the token `at`, or an error
-- at the token `over`, where the first argument that is too many starts
unfoldable pub finished : List ℕ → ℕ → ℕ → ℕ → ℕ → ℕ → Judged
finished s at f many wanted over = if' (ltb wanted many) (judged_as s (err over (too_many_args f many wanted))) (Ok (call_as at f wanted))

-- what binding comes to, from the row k on
pub record Bound (s : List ℕ) (r : Step) (x y u v : List ℕ) (c : Counts) (at f k : ℕ) (j : judgements.Judgement Terms) : Type 0 where
  pub out : (d : terms.Term) → r.out ≡ judged_as s (and_then j (λ vs. fine (called at d f vs))).out
  pub adds : Adds s c x r.counts y j.warns j.looks
  pub next : (vs : Terms) → j.out ≡ val vs → r.next ≡ k + length (arg_parts 0 vs)
  pub rows : (vs : Terms) → j.out ≡ val vs → v ≡ put_held s u k (arg_parts 0 vs)

-- the call at the token `at` of the function f, after its arguments were judged: `row` is the next free one
pub record Binds (s : List ℕ) (at f : ℕ) (kept : Kept) (row : ℕ) (c : Counts) (x t : List ℕ) (r : Step) (y v : List ℕ) : Type 0 where
  pub is : (n k : ℕ) (u : List ℕ) (as' : List Arg) → n ≡ c.number → Keeps k as' kept → row ≡ end k as' → t ≡ spread s u k as'
      → Bound s r x y u v c at f k (bind_all n at f as')

use native.Mathlib.Omega.{arith}
use mathlib.Core.Path.{refl, sym, ◌∙◌}
use Rattle.std.proofs.lemmas.Result.{err_from_is_err_and}
use Rattle.language.specs.Tokens.{tokens, contents}
use Rattle.language.specs.Judgements.{judge as judge'}
use Rattle.language.specs.Sentences.{none_given}
use Rattle.rows.proofs.TokenRows.{some_row}
use Rattle.judging.specs.Judging.{known_in, value_of, passed}
use Rattle.judging.proofs.Trees.{row_in, first_at, at_slash, at_call, call_kind_lem, slash_parts, at_row, at_arg, next_falls}
use Rattle.judging.proofs.Steps.{by, stays, left_as, used_value, stepped_as}
use Rattle.findings.proofs.Adds.{adds_number}
use Rattle.judging.proofs.Climbing.{ready_both, few_back, down_rep, down_near, down_size, down_up, knows_on, ready_on, known_few, fits_down, climb_ends, climb_fits, climbed, climbs_as, at_top, climb_start, above}
use Rattle.judging.proofs.Slashes.{left_ends, left_goes}
use Rattle.judging.proofs.Ways.{way_void, way_member, way_slash, way_call_ends, way_call_goes, slash_goes, fits_right, after_right, fits_args}
use Rattle.judging.proofs.Passing.{start_walk, walk_fails, walk_void, walk_on, walk_done, calls_err, few_kept, fits_value, row_near, fits_on}
use Rattle.arguments.proofs.Outs.{halted}
use Rattle.judging.proofs.+call_climb_judge_slash_step.Goals as goal

pub call-node_word-next-requires : goal.call-node_word-next-requires
call-node_word-next-requires t c = (row_in c.requires.call_fits.0.rep, omega arith)

pub call-loop-next-init : goal.call-loop-next-init
call-loop-next-init t c = (c.requires.ready, rw c.node_word-next.ensures c.requires.call_fits.1, c.none_kept-kept.ensures.1, λ n k ps num kn rep. start_walk rep (c.none_kept-kept.ensures.0 _))

pub call-overflow_sub-j : goal.call-overflow_sub-j
call-overflow_sub-j t c = omega (arith, c.loop-next-test.true)

pub call-node_word-e-requires : goal.call-node_word-e-requires
call-node_word-e-requires t c = let p = at_arg c.loop-next.invariant.1.rep c.loop-next-test.true refl in (p.inside, omega arith)

pub call-judge-requires : goal.call-judge-requires
call-judge-requires t c = let p = at_arg c.loop-next.invariant.1.rep c.loop-next-test.true refl in (omega (arith, p.near, p.below, c.node_word-e.ensures, c.decreases), (c.loop-next.invariant.0, fits_value c.loop-next.invariant.1 p c.node_word-e.ensures))

pub call-returns-in_err-value : goal.call-returns-in_err-value
call-returns-in_err-value t c =
    let x = err_from_is_err_and c.from_residual-in_err-value.result c.from_residual-in_err-value.ensures.1 in
    rw (x.1, x.2)
    (λ n k ps num kn rep. let w = c.loop-next.invariant.3 n k ps num kn (rw c.node_word-next.ensures rep) in let p = at_arg w.rep c.loop-next-test.true refl in walk_fails w p (stepped_as _ c.in_err-value.was (c.judge.ensures n k (value_of p.arg) (num ∙ sym (adds_number w.adds)) (knows_on w.adds kn) (at_row c.node_word-e.ensures p.rep))) (halted refl))

pub call-returns-in_err-term : goal.call-returns-in_err-term
call-returns-in_err-term t c =
    let x = err_from_is_err_and c.from_residual-in_err-term.result c.from_residual-in_err-term.ensures.1 in
    rw (x.1, x.2)
    (λ n k ps num kn rep. let w = c.loop-next.invariant.3 n k ps num kn (rw c.node_word-next.ensures rep) in let p = at_arg w.rep c.loop-next-test.true refl in walk_void w p (stepped_as _ c.in_ok-value.was (c.judge.ensures n k (value_of p.arg) (num ∙ sym (adds_number w.adds)) (knows_on w.adds kn) (at_row c.node_word-e.ensures p.rep))) refl (c.used.ensures _ c.rows-in-loop-next.ensures) (halted c.in_err-term.was) (sym c.in_err-term.was) refl)

pub call-node_word-first-requires : goal.call-node_word-first-requires
call-node_word-first-requires t c = let p = at_arg c.loop-next.invariant.1.rep c.loop-next-test.true refl in (row_in (at_row c.node_word-e.ensures p.rep), omega arith)

pub call-keep-kept-requires : goal.call-keep-kept-requires
call-keep-kept-requires t c = let p = at_arg c.loop-next.invariant.1.rep c.loop-next-test.true refl in (omega (arith, few_kept (c.loop-next.invariant.3 c.args.counts.now.number (known_in c.args.scope.now.toks.now c.args.scope.now.bindings.now c.args.scope.now.imports.now c.args.counts.now) c.requires.call_fits.1.args refl (record { is = refl }) (rw c.node_word-next.ensures c.requires.call_fits.1.rep)), row_near c.loop-next.invariant.1 p), c.loop-next.invariant.2, row_near c.loop-next.invariant.1 p)

pub call-node_word-next-requires-in-loop-next : goal.call-node_word-next-requires-in-loop-next
call-node_word-next-requires-in-loop-next t c = let p = at_arg c.loop-next.invariant.1.rep c.loop-next-test.true refl in (p.inside, omega arith)

pub call-loop-next-smaller : goal.call-loop-next-smaller
call-loop-next-smaller t c = let p = at_arg c.loop-next.invariant.1.rep c.loop-next-test.true refl in next_falls refl c.loop-next-test.true p.below c.node_word-next-in-loop-next.ensures p.onward

pub call-loop-next-preserved : goal.call-loop-next-preserved
call-loop-next-preserved t c =
    let p = at_arg c.loop-next.invariant.1.rep c.loop-next-test.true refl in
    let j = (stepped_as _ c.in_ok-value.was (c.judge.ensures c.loop-next.counts.number (known_in c.args.scope.now.toks.now c.args.scope.now.bindings.now c.args.scope.now.imports.now c.loop-next.counts) (value_of p.arg) refl (record { is = refl }) (at_row c.node_word-e.ensures p.rep))) in (
      ready_on j.adds c.loop-next.invariant.0,
      fits_on c.loop-next.invariant.1 p c.args.scope.now.toks.now c.loop-next.counts.number (known_in c.args.scope.now.toks.now c.args.scope.now.bindings.now c.args.scope.now.imports.now c.loop-next.counts) (known_few c.loop-next.invariant.0) j refl c.node_word-next-in-loop-next.ensures,
      c.keep-kept.ensures.1,
      λ n k ps num kn rep. let w = c.loop-next.invariant.3 n k ps num kn rep in let p = at_arg w.rep c.loop-next-test.true refl in walk_on w p (stepped_as _ c.in_ok-value.was (c.judge.ensures n k (value_of p.arg) (num ∙ sym (adds_number w.adds)) (knows_on w.adds kn) (at_row c.node_word-e.ensures p.rep))) refl (c.used.ensures _ c.rows-in-loop-next.ensures) c.in_ok-term.was (c.node_word-first.ensures ∙ first_at (at_row c.node_word-e.ensures p.rep)) (λ gs z. c.keep-kept.ensures.0 _ gs z) c.node_word-next-in-loop-next.ensures,
    )

pub call-used-requires : goal.call-used-requires
call-used-requires t c = some_row c.rows-in-loop-next.ensures

pub call-bind-requires : goal.call-bind-requires
call-bind-requires t c = (some_row c.rows.ensures, omega (arith, c.requires.call_fits.1.room), c.none_kept-kept.ensures.1)

pub call-returns-in_err-none : goal.call-returns-in_err-none
call-returns-in_err-none t c =
    let x = err_from_is_err_and c.from_residual.result c.from_residual.ensures.1 in
    rw (x.1, x.2)
    (λ n k ps num kn rep. calls_err n k (passed none_given ps) (rw c.in_err-none.was at (walk_done (start_walk {k = k} {start = c.args.left.next} rep (c.none_kept-kept.ensures.0 _)) (sym c.node_word-next.ensures ∙ c.if-next-eq0.true) num (c.bind.ensures _ c.rows.ensures _))))

pub call-returns-then-next-eq0 : goal.call-returns-then-next-eq0
call-returns-then-next-eq0 t c = λ n k ps num kn rep. rw c.in_ok-none.was at (walk_done (start_walk {k = k} {start = c.args.left.next} rep (c.none_kept-kept.ensures.0 _)) (sym c.node_word-next.ensures ∙ c.if-next-eq0.true) num (c.bind.ensures _ c.rows.ensures _))

pub call-bind-requires-2 : goal.call-bind-requires-2
call-bind-requires-2 t c = (some_row c.rows-2.ensures, omega (arith, c.loop-next.invariant.1.room), c.loop-next.invariant.2)

pub call-returns-in_err-term-2 : goal.call-returns-in_err-term-2
call-returns-in_err-term-2 t c =
    let x = err_from_is_err_and c.from_residual-in_err-term-2.result c.from_residual-in_err-term-2.ensures.1 in
    rw (x.1, x.2)
    (λ n k ps num kn rep. let w = c.loop-next.invariant.3 n k ps num kn (rw c.node_word-next.ensures rep) in calls_err n k (passed none_given ps) (rw c.in_err-term-2.was at (walk_done w c.loop-next-test.false (num ∙ sym (adds_number w.adds)) (c.bind-2.ensures _ c.rows-2.ensures _))))

pub call-returns : goal.call-returns
call-returns t c = λ n k ps num kn rep. let w = c.loop-next.invariant.3 n k ps num kn (rw c.node_word-next.ensures rep) in rw c.in_ok-term-2.was at (walk_done w c.loop-next-test.false (num ∙ sym (adds_number w.adds)) (c.bind-2.ensures _ c.rows-2.ensures _))

pub climb-loop-depth-init : goal.climb-loop-depth-init
climb-loop-depth-init t c = (c.requires.ready.1, c.requires.ready.0, λ n k e d row x u co num kn rep dn a. record { row = row; tree = d; down = dn; agrees = a })

pub climb-overflow_sub-depth : goal.climb-overflow_sub-depth
climb-overflow_sub-depth t c = omega (arith, c.loop-depth-test.true)

pub climb-offset_bounds-rows-depth : goal.climb-offset_bounds-rows-depth
climb-offset_bounds-rows-depth t c = omega (arith, c.loop-depth.invariant.0)

pub climb-bounds-rows-depth : goal.climb-bounds-rows-depth
climb-bounds-rows-depth t c = omega (arith, c.loop-depth.invariant.0, c.loop-depth-test.true)

pub climb-overflow_add-at : goal.climb-overflow_add-at
climb-overflow_add-at t c = let q = c.loop-depth.invariant.2 c.requires.climb_fits.counts.number (known_in c.args.scope.now.toks.now c.args.scope.now.bindings.now c.args.scope.now.imports.now c.requires.climb_fits.counts) c.requires.climb_fits.fits.tree c.requires.climb_fits.below c.requires.climb_fits.row c.requires.climb_fits.found c.requires.climb_fits.held c.requires.climb_fits.counts refl (record { is = refl }) c.requires.climb_fits.fits.rep c.requires.climb_fits.down c.requires.climb_fits.agrees in omega (arith, down_size c.requires.climb_fits.fits.rep q.down, c.requires.climb_fits.fits.rows)

pub climb-step-requires : goal.climb-step-requires
climb-step-requires t c =
    let q = c.loop-depth.invariant.2 c.requires.climb_fits.counts.number (known_in c.args.scope.now.toks.now c.args.scope.now.bindings.now c.args.scope.now.imports.now c.requires.climb_fits.counts) c.requires.climb_fits.fits.tree c.requires.climb_fits.below c.requires.climb_fits.row c.requires.climb_fits.found c.requires.climb_fits.held c.requires.climb_fits.counts refl (record { is = refl }) c.requires.climb_fits.fits.rep c.requires.climb_fits.down c.requires.climb_fits.agrees in
    let p = down_up q.down c.loop-depth-test.true refl in
    (omega (arith, down_near c.requires.climb_fits.fits.rep p.down, c.decreases), (c.loop-depth.invariant.1, climb_fits c.args.scope.now.toks.now c.requires.climb_fits.counts.number (known_in c.args.scope.now.toks.now c.args.scope.now.bindings.now c.args.scope.now.imports.now c.requires.climb_fits.counts) c.requires.climb_fits.fits.rep q p (omega (arith, c.loop-depth-test.true)) (few_back q.agrees.adds c.loop-depth.invariant.1) c.requires.climb_fits.fits refl refl))

pub climb-loop-depth-smaller : goal.climb-loop-depth-smaller
climb-loop-depth-smaller t c = omega (arith, c.loop-depth-test.true)

pub climb-returns-in_err-then : goal.climb-returns-in_err-then
climb-returns-in_err-then t c =
    let x = err_from_is_err_and c.from_residual.result c.from_residual.ensures.1 in
    rw (x.1, x.2)
    (λ n k e d row x u co num kn rep dn a. let q = c.loop-depth.invariant.2 n k e d row x u co num kn rep dn a in let p = down_up q.down c.loop-depth-test.true refl in climb_ends c.args.scope.now.toks.now n k rep (climbs_as _ c.in_err-then.was (climbed c.args.scope.now.toks.now n k rep q p (omega (arith, c.loop-depth-test.true)) refl (λ b l. c.step.ensures n k p.above b _ (num ∙ sym (adds_number q.agrees.adds)) (knows_on q.agrees.adds kn) (above c.args.scope.now.toks.now n k rep q p (omega (arith, c.loop-depth-test.true))) l))) (halted refl))

pub climb-loop-depth-preserved : goal.climb-loop-depth-preserved
climb-loop-depth-preserved t c = (
  omega (arith, c.loop-depth.invariant.0),
  (let q = c.loop-depth.invariant.2 c.requires.climb_fits.counts.number (known_in c.args.scope.now.toks.now c.args.scope.now.bindings.now c.args.scope.now.imports.now c.requires.climb_fits.counts) c.requires.climb_fits.fits.tree c.requires.climb_fits.below c.requires.climb_fits.row c.requires.climb_fits.found c.requires.climb_fits.held c.requires.climb_fits.counts refl (record { is = refl }) c.requires.climb_fits.fits.rep c.requires.climb_fits.down c.requires.climb_fits.agrees in let p = down_up q.down c.loop-depth-test.true refl in ready_both q.agrees.adds (climbs_as _ c.in_ok-then.was (climbed c.args.scope.now.toks.now c.requires.climb_fits.counts.number (known_in c.args.scope.now.toks.now c.args.scope.now.bindings.now c.args.scope.now.imports.now c.requires.climb_fits.counts) c.requires.climb_fits.fits.rep q p (omega (arith, c.loop-depth-test.true)) refl (λ b l. c.step.ensures c.requires.climb_fits.counts.number (known_in c.args.scope.now.toks.now c.args.scope.now.bindings.now c.args.scope.now.imports.now c.requires.climb_fits.counts) p.above b _ (sym (adds_number q.agrees.adds)) (knows_on q.agrees.adds (record { is = refl })) (above c.args.scope.now.toks.now c.requires.climb_fits.counts.number (known_in c.args.scope.now.toks.now c.args.scope.now.bindings.now c.args.scope.now.imports.now c.requires.climb_fits.counts) c.requires.climb_fits.fits.rep q p (omega (arith, c.loop-depth-test.true))) l))).agrees.adds c.loop-depth.invariant.1),
  λ n k e d row x u co num kn rep dn a. let q = c.loop-depth.invariant.2 n k e d row x u co num kn rep dn a in let p = down_up q.down c.loop-depth-test.true refl in climbs_as _ c.in_ok-then.was (climbed c.args.scope.now.toks.now n k rep q p (omega (arith, c.loop-depth-test.true)) refl (λ b l. c.step.ensures n k p.above b _ (num ∙ sym (adds_number q.agrees.adds)) (knows_on q.agrees.adds kn) (above c.args.scope.now.toks.now n k rep q p (omega (arith, c.loop-depth-test.true))) l)),
)

pub climb-returns : goal.climb-returns
climb-returns t c = λ n k e d row x u co num kn rep dn a. let q = c.loop-depth.invariant.2 n k e d row x u co num kn rep dn a in at_top c.args.scope.now.toks.now n k rep q c.loop-depth-test.false

pub judge-node_word-requires : goal.judge-node_word-requires
judge-node_word-requires t c = (row_in c.requires.fits.rep, omega arith)

pub judge-lowest-requires : goal.judge-lowest-requires
judge-lowest-requires t c = record { ready = c.requires.ready; fits = (c.requires.fits, omega (arith, c.node_word.ensures, c.if-node_word-lt-MEMBER.true)) }

pub judge-returns-then-node_word-lt-MEMBER : goal.judge-returns-then-node_word-lt-MEMBER
judge-returns-then-node_word-lt-MEMBER t c = λ n k e num kn rep. c.lowest.ensures n k e _ _ kn rep

pub judge-descend-s-requires : goal.judge-descend-s-requires
judge-descend-s-requires t c = record { tree_at = record { tree = c.requires.fits.tree; rep = c.requires.fits.rep }; rows_len = refl }

pub judge-overflow_add-below : goal.judge-overflow_add-below
judge-overflow_add-below t c = let d = c.descend-s.ensures.walks c.requires.fits.tree c.requires.fits.rep in omega (arith, down_size c.requires.fits.rep d.down, c.requires.fits.rows)

pub judge-node_word-requires-2 : goal.judge-node_word-requires-2
judge-node_word-requires-2 t c = let d = c.descend-s.ensures.walks c.requires.fits.tree c.requires.fits.rep in (row_in (down_rep c.requires.fits.rep d.down), omega arith)

pub judge-lowest-requires-then-node_word-lt-MEMBER-2 : goal.judge-lowest-requires-then-node_word-lt-MEMBER-2
judge-lowest-requires-then-node_word-lt-MEMBER-2 t c = let d = c.descend-s.ensures.walks c.requires.fits.tree c.requires.fits.rep in record { ready = c.requires.ready; fits = (fits_down c.requires.fits d.down, omega (arith, c.node_word-2.ensures, c.if-node_word-lt-MEMBER-2.true)) }

pub judge-returns-in_err-bottom : goal.judge-returns-in_err-bottom
judge-returns-in_err-bottom t c =
    let x = err_from_is_err_and c.from_residual.result c.from_residual.ensures.1 in
    rw (x.1, x.2)
    (λ n k e num kn rep. let d = c.descend-s.ensures.walks e rep in climb_ends c.args.scope.now.toks.now n k rep (record { row = _; tree = d.tree; down = d.down; agrees = stepped_as _ c.in_err-bottom.was (c.lowest-then-node_word-lt-MEMBER-2.ensures n k d.tree _ _ kn (down_rep rep d.down)) }) (halted refl))

pub judge-climb-requires : goal.judge-climb-requires
judge-climb-requires t c =
    let d = c.descend-s.ensures.walks c.requires.fits.tree c.requires.fits.rep in
    let a = stepped_as _ c.in_ok-bottom.was (c.lowest-then-node_word-lt-MEMBER-2.ensures c.args.counts.now.number (known_in c.args.scope.now.toks.now c.args.scope.now.bindings.now c.args.scope.now.imports.now c.args.counts.now) d.tree _ _ (record { is = refl }) (down_rep c.requires.fits.rep d.down)) in
    (omega (arith, c.decreases), ((ready_on a.adds c.requires.ready, c.descend-s.ensures.long), climb_start c.requires.fits d.down a))

pub judge-returns-then-node_word-lt-MEMBER-2 : goal.judge-returns-then-node_word-lt-MEMBER-2
judge-returns-then-node_word-lt-MEMBER-2 t c = λ n k e num kn rep. let d = c.descend-s.ensures.walks e rep in c.climb.ensures n k e d.tree _ _ _ _ num kn rep d.down (stepped_as _ c.in_ok-bottom.was (c.lowest-then-node_word-lt-MEMBER-2.ensures n k d.tree _ _ kn (down_rep rep d.down)))

pub judge-judge-requires : goal.judge-judge-requires
judge-judge-requires t c = let d = c.descend-s.ensures.walks c.requires.fits.tree c.requires.fits.rep in (omega (arith, down_near c.requires.fits.rep d.down, c.descend-s.ensures.ends (omega (arith, c.node_word-2.ensures, c.if-node_word-lt-MEMBER-2.false)), c.decreases), (c.requires.ready, fits_down c.requires.fits d.down))

pub judge-returns-in_err-bottom-2 : goal.judge-returns-in_err-bottom-2
judge-returns-in_err-bottom-2 t c =
    let x = err_from_is_err_and c.from_residual-in_err-bottom-2.result c.from_residual-in_err-bottom-2.ensures.1 in
    rw (x.1, x.2)
    (λ n k e num kn rep. let d = c.descend-s.ensures.walks e rep in climb_ends c.args.scope.now.toks.now n k rep (record { row = _; tree = d.tree; down = d.down; agrees = stepped_as _ c.in_err-bottom-2.was (c.judge.ensures n k d.tree num kn (down_rep rep d.down)) }) (halted refl))

pub judge-climb-requires-2 : goal.judge-climb-requires-2
judge-climb-requires-2 t c =
    let d = c.descend-s.ensures.walks c.requires.fits.tree c.requires.fits.rep in
    let a = stepped_as _ c.in_ok-bottom-2.was (c.judge.ensures c.args.counts.now.number (known_in c.args.scope.now.toks.now c.args.scope.now.bindings.now c.args.scope.now.imports.now c.args.counts.now) d.tree refl (record { is = refl }) (down_rep c.requires.fits.rep d.down)) in
    (omega (arith, c.decreases), ((ready_on a.adds c.requires.ready, c.descend-s.ensures.long), climb_start c.requires.fits d.down a))

pub judge-returns : goal.judge-returns
judge-returns t c = λ n k e num kn rep. let d = c.descend-s.ensures.walks e rep in c.climb-2.ensures n k e d.tree _ _ _ _ num kn rep d.down (stepped_as _ c.in_ok-bottom-2.was (c.judge.ensures n k d.tree num kn (down_rep rep d.down)))

pub slash-returns-then-left-ne-IP4 : goal.slash-returns-then-left-ne-IP4
slash-returns-then-left-ne-IP4 t c = λ n k a b d u num kn rep l. left_ends c.args.scope.now.toks.now n k a b d c.operand.ensures l.value c.if-left-ne-IP4.true refl refl

pub slash-node_word-b-requires : goal.slash-node_word-b-requires
slash-node_word-b-requires t c = (row_in c.requires.step_fits.0.rep, omega arith)

pub slash-judge-requires : goal.slash-judge-requires
slash-judge-requires t c = let p = at_slash c.requires.step_fits.0.rep c.requires.step_fits.1 in (omega (arith, p.near, c.node_word-b.ensures, c.decreases), (c.requires.ready, fits_right c.requires.step_fits.0 p c.node_word-b.ensures))

pub slash-returns-in_err-right : goal.slash-returns-in_err-right
slash-returns-in_err-right t c =
    let x = err_from_is_err_and c.from_residual.result c.from_residual.ensures.1 in
    rw (x.1, x.2)
    (λ n k a b d u num kn rep l. by (left_goes c.args.scope.now.toks.now n k a b d l.value c.if-left-ne-IP4.false) (stays (judge' (contents (tokens c.args.scope.now.toks.now)) n k b) (stepped_as _ c.in_err-right.was (c.judge.ensures n k b num kn (at_row c.node_word-b.ensures (slash_parts rep).2))) _ (halted refl)))

pub slash-node_word-requires : goal.slash-node_word-requires
slash-node_word-requires t c = (row_in c.requires.step_fits.0.rep, omega arith)

pub slash-node_word-requires-2 : goal.slash-node_word-requires-2
slash-node_word-requires-2 t c = let p = at_slash c.requires.step_fits.0.rep c.requires.step_fits.1 in (row_in (at_row c.node_word-b.ensures p.right_rep), omega arith)

pub slash-divide-requires : goal.slash-divide-requires
slash-divide-requires t c = let p = at_slash c.requires.step_fits.0.rep c.requires.step_fits.1 in after_right c.requires.step_fits.0 p c.args.scope.now.toks.now c.args.counts.now.number (known_in c.args.scope.now.toks.now c.args.scope.now.bindings.now c.args.scope.now.imports.now c.args.counts.now) (stepped_as _ c.in_ok-right.was (c.judge.ensures c.args.counts.now.number (known_in c.args.scope.now.toks.now c.args.scope.now.bindings.now c.args.scope.now.imports.now c.args.counts.now) p.right refl (record { is = refl }) (at_row c.node_word-b.ensures p.right_rep)))

pub slash-returns : goal.slash-returns
slash-returns t c = λ n k a b d u num kn rep l. slash_goes c.args.scope.now.toks.now n k a b d (c.node_word.ensures ∙ (slash_parts rep).0) (c.node_word-2.ensures ∙ first_at (at_row c.node_word-b.ensures (slash_parts rep).2)) num c.if-left-ne-IP4.false l (stepped_as _ c.in_ok-right.was (c.judge.ensures n k b num kn (at_row c.node_word-b.ensures (slash_parts rep).2))) refl c.divide.ensures

pub step-used-requires : goal.step-used-requires
step-used-requires t c = some_row c.rows.ensures

pub step-returns-in_err-term : goal.step-returns-in_err-term
step-returns-in_err-term t c =
    let x = err_from_is_err_and c.from_residual.result c.from_residual.ensures.1 in
    rw (x.1, x.2)
    (λ n k e d u num kn rep l. way_void n k rep d c.requires.step_fits.inner (c.used.ensures _ c.rows.ensures) l.value (halted c.in_err-term.was) (sym c.in_err-term.was) refl)

pub step-node_word-requires : goal.step-node_word-requires
step-node_word-requires t c = (row_in c.requires.step_fits.rep, omega arith)

pub step-node_word-requires-in-6 : goal.step-node_word-requires-in-6
step-node_word-requires-in-6 t c = (row_in c.requires.step_fits.rep, omega arith)

pub step-returns-in-6 : goal.step-returns-in-6
step-returns-in-6 t c = λ n k e d u num kn rep l. let z = used_value d (c.used.ensures _ c.rows.ensures) l.value c.in_ok-term.was in way_member n k rep d (sym c.node_word.ensures ∙ c.in-6.is) z.0 c.node_word-in-6.ensures c.member.ensures z.1 refl refl

pub step-slash-requires : goal.step-slash-requires
step-slash-requires t c = (omega (arith, c.decreases), (c.requires.ready, (c.requires.step_fits, sym c.node_word.ensures ∙ c.in-7.is)))

pub step-returns-in-7 : goal.step-returns-in-7
step-returns-in-7 t c = λ n k e d u num kn rep l. let z = used_value d (c.used.ensures _ c.rows.ensures) l.value c.in_ok-term.was in way_slash n k rep d (sym c.node_word.ensures ∙ c.in-7.is) z.0 (λ a b rp. c.slash.ensures n k a b d u num kn rp (left_as z.1 l))

pub step-callable-requires : goal.step-callable-requires
step-callable-requires t c = (omega (arith, c.requires.step_fits.behind, c.requires.step_fits.rows), record { tree = c.requires.step_fits.tree; rep = c.requires.step_fits.rep; kind = (call_kind_lem c.requires.step_fits.rep c.requires.step_fits.inner (λ q. c.in_default.in_default-own.rest.0.1 (c.node_word.ensures ∙ q)) (λ q. c.in_default.in_default-own.rest.1 (c.node_word.ensures ∙ q))) })

pub step-returns-in_err-f-in_default : goal.step-returns-in_err-f-in_default
step-returns-in_err-f-in_default t c =
    let x = err_from_is_err_and c.from_residual-in_err-f-in_default.result c.from_residual-in_err-f-in_default.ensures.1 in
    rw (x.1, x.2)
    (λ n k e d u num kn rep l. let z = used_value d (c.used.ensures _ c.rows.ensures) l.value c.in_ok-term.was in way_call_ends n k rep d (call_kind_lem rep c.requires.step_fits.inner (λ q. c.in_default.in_default-own.rest.0.1 (c.node_word.ensures ∙ q)) (λ q. c.in_default.in_default-own.rest.1 (c.node_word.ensures ∙ q))) z.0 z.1 (left_as z.1 l) c.callable.ensures c.in_err-f-in_default.was refl refl)

pub step-call-requires : goal.step-call-requires
step-call-requires t c = (omega (arith, c.decreases), (c.requires.ready, (record { tree = c.requires.step_fits.tree; rep = c.requires.step_fits.rep; kind = (call_kind_lem c.requires.step_fits.rep c.requires.step_fits.inner (λ q. c.in_default.in_default-own.rest.0.1 (c.node_word.ensures ∙ q)) (λ q. c.in_default.in_default-own.rest.1 (c.node_word.ensures ∙ q))) }, fits_args c.requires.step_fits (at_call c.requires.step_fits.rep (call_kind_lem c.requires.step_fits.rep c.requires.step_fits.inner (λ q. c.in_default.in_default-own.rest.0.1 (c.node_word.ensures ∙ q)) (λ q. c.in_default.in_default-own.rest.1 (c.node_word.ensures ∙ q)))))))

pub step-returns-in_ok-f-in_default : goal.step-returns-in_ok-f-in_default
step-returns-in_ok-f-in_default t c = λ n k e d u num kn rep l. let z = used_value d (c.used.ensures _ c.rows.ensures) l.value c.in_ok-term.was in way_call_goes n k rep d (call_kind_lem rep c.requires.step_fits.inner (λ q. c.in_default.in_default-own.rest.0.1 (c.node_word.ensures ∙ q)) (λ q. c.in_default.in_default-own.rest.1 (c.node_word.ensures ∙ q))) z.0 z.1 (left_as z.1 l) c.callable.ensures c.in_ok-f-in_default.was (λ ps ar. c.call.ensures n k ps num kn ar)

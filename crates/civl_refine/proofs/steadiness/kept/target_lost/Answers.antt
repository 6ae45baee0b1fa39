use Rattle.std.specs.Prelude.{not}
use Rattle.std.proofs.Common.{Bool, arith}
use Rattle.civl_tree.specs.declared.expr.Sort.TheVariants.{Bool as Truth}
use Rattle.civl_terms.proofs.Growing.{grows_trans}
use Rattle.civl_states.specs.formula_parts.Said.{Env}
use Rattle.civl_states.proofs.formula_parts.Saying.{sort_stays, test_stays}
use Rattle.civl_states.proofs.formula_parts.Listing.{sorts_stay, said_stay}
use Rattle.civl_refine.specs.inner.steadiness.Kept.{kept_before, kept_after}
use Rattle.civl_refine.proofs.steadiness.Aiming.{frame_stays, other_stays}
use Rattle.civl_refine.proofs.steadiness.kept.target_lost.Goals as goal

pub kept_after-requires-clause-kept : goal.kept_after-requires-clause-kept
kept_after-requires-clause-kept c = frame_stays _ _ c.args.program.now c.args.kept.now c.in_ok-first.ensures.grows c.requires.kept

pub kept_after-requires-clause-globals : goal.kept_after-requires-clause-globals
kept_after-requires-clause-globals c = sorts_stay _ _ _ _ c.in_ok-first.ensures.grows c.requires.after

pub returns-in_err-then-clause-grows : goal.returns-in_err-then-clause-grows
returns-in_err-then-clause-grows c = grows_trans _ _ _ c.in_ok-first.ensures.grows c.in_err-then.ensures.grows

pub returns-in_err-fails-clause-grows : goal.returns-in_err-fails-clause-grows
returns-in_err-fails-clause-grows c = grows_trans _ _ _ c.in_ok-first.ensures.grows (grows_trans _ _ _ c.in_ok-then.ensures.grows c.in_err-fails.ensures.grows)

pub both-requires-clause-a : goal.both-requires-clause-a
both-requires-clause-a c = sort_stays _ _ _ Truth (grows_trans _ _ _ c.in_ok-then.ensures.grows c.in_ok-fails.ensures.grows) c.in_ok-first.ensures.sorted

pub returns-in_err-id-clause-grows : goal.returns-in_err-id-clause-grows
returns-in_err-id-clause-grows c = grows_trans _ _ _ c.in_ok-first.ensures.grows (grows_trans _ _ _ c.in_ok-then.ensures.grows (grows_trans _ _ _ c.in_ok-fails.ensures.grows c.in_err-id.ensures.grows))

pub returns-clause-grows : goal.returns-clause-grows
returns-clause-grows c = grows_trans _ _ _ c.in_ok-first.ensures.grows (grows_trans _ _ _ c.in_ok-then.ensures.grows (grows_trans _ _ _ c.in_ok-fails.ensures.grows c.in_ok-id.ensures.grows))

pub returns-clause-tells : goal.returns-clause-tells
returns-clause-tells c = λ o g h s t u.
    let p = c.args.program.now in
    let k = c.args.kept.now in
    let one = c.in_ok-first.ensures.grows in
    let more = grows_trans _ _ _ c.in_ok-then.ensures.grows c.in_ok-fails.ensures.grows in
    let before : Env → Bool = λ env. kept_before p k (o env) (g env) in
    let after : Env → Bool = λ env. kept_after p c.args.step k (o env) (h env) in
    let said_after = c.in_ok-then.ensures.tells o h (other_stays _ _ k o one s) (said_stay _ _ _ _ _ one u) in
    c.in_ok-id.ensures.test before (λ env. not (after env)) (test_stays _ _ _ before more (c.in_ok-first.ensures.tells o g s t)) (c.in_ok-fails.ensures.test after said_after)

pub returns-clause-weighs : goal.returns-clause-weighs
returns-clause-weighs c = omega (arith, c.in_ok-first.ensures.weighs c.args.step, c.in_ok-then.ensures.weighs, c.in_ok-fails.ensures.weighs, c.in_ok-id.ensures.weighs)

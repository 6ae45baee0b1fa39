use Rattle.std.specs.Prelude.{◌&&◌}
use Rattle.std.proofs.Common.{◌∙◌, sym, arith}
use Rattle.civl_terms.proofs.Growing.{grows_trans}
use Rattle.civl_actions.proofs.Listing.{item_at}
use Rattle.civl_states.proofs.formula_parts.Saying.{test_as}
use Rattle.civl_states.proofs.formula_parts.Listing.{sorts_stay, said_stay}
use Rattle.civl_states.specs.Stores.{global_sorts}
use Rattle.civl_refine.specs.Assuming.{holds_at}
use Rattle.civl_refine.proofs.Typing.{invariant_typed, invariant_truth}
use Rattle.civl_refine.proofs.Assuming.{hold_next, weigh_next, hold_end}
use Rattle.civl_refine.proofs.invariants.with_invariants.Goals as goal

pub with_invariant-requires-clause-typed : goal.with_invariant-requires-clause-typed
with_invariant-requires-clause-typed c =
    invariant_typed c.args.program.now c.requires.rules c.loop-invariant.invariant-index c.invariant-item.result
    (item_at c.args.program.now.invariants c.as_slice-invariant-items.result.now c.loop-invariant.invariant-index c.invariant-item.result c.as_slice-invariant-items.ensures (omega arith) c.invariant-item.is)

pub with_invariant-requires-clause-truth : goal.with_invariant-requires-clause-truth
with_invariant-requires-clause-truth c =
    invariant_truth c.args.program.now c.requires.rules c.loop-invariant.invariant-index c.invariant-item.result
    (item_at c.args.program.now.invariants c.as_slice-invariant-items.result.now c.loop-invariant.invariant-index c.invariant-item.result c.as_slice-invariant-items.ensures (omega arith) c.invariant-item.is)

pub with_invariant-requires-clause-globals : goal.with_invariant-requires-clause-globals
with_invariant-requires-clause-globals c = sorts_stay _ _ _ _ c.loop-invariant.invariant.0 c.requires.globals

pub returns-in_err-id-clause-grows : goal.returns-in_err-id-clause-grows
returns-in_err-id-clause-grows c = grows_trans _ _ _ c.loop-invariant.invariant.0 c.in_err-id.ensures.grows

pub loop-invariant-preserved : goal.loop-invariant-preserved
loop-invariant-preserved c =
    let p = c.args.program.now in
    let is = c.as_slice-invariant-items.result.now in
    let k = c.loop-invariant.invariant-index in
    let i = c.invariant-item.result in
    let inv = c.loop-invariant.invariant in
    let step = c.args.step in (
      grows_trans _ _ _ inv.0 c.in_ok-id.ensures.grows,
      c.in_ok-id.ensures.sorted,
      weigh_next p step is k i (omega arith) c.invariant-item.is _ _ _ _ inv.2 c.in_ok-id.ensures.weighs,
      λ f g t s.
          let h = inv.3 f g t s in (
            λ env. h.0 env && holds_at p step (g env) i,
            c.in_ok-id.ensures.test h.0 g h.1 (said_stay _ _ _ (global_sorts p) _ inv.0 s),
            λ env. hold_next p step is k i (omega arith) c.invariant-item.is (g env) (h.0 env) ∙ h.2 env,
          ),
    )

pub returns-clause-test : goal.returns-clause-test
returns-clause-test c = λ f g t s.
    let p = c.args.program.now in
    let is = c.as_slice-invariant-items.result.now in
    let h = c.loop-invariant.invariant.3 f g t s in
    test_as _ _ h.0 _ (λ env. sym (hold_end p c.args.step is c.loop-invariant.invariant-index (omega arith) (g env) (h.0 env)) ∙ h.2 env) h.1

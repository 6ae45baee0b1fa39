use Rattle.std.proofs.Common.{arith}
use Rattle.civl_firing.specs.Fired.{store_after, outs_after}
use Rattle.civl_terms.proofs.Growing.{grows_trans}
use Rattle.civl_states.proofs.formula_parts.Listing.{sorts_stay, said_stay}
use Rattle.civl_states.proofs.formula_parts.Carrying.{carried_stays, can_carry_stays}
use Rattle.civl_states.specs.Items.{comes_in}
use Rattle.civl_states.proofs.Runs.{ready_stays, invoked_stays, run_stays}
use Rattle.civl_movers.proofs.Runs.{tested_stays}
use Rattle.civl_movers.proofs.items.run_with_items.Goals as goal

pub run-requires-clause-globals : goal.run-requires-clause-globals
run-requires-clause-globals c = sorts_stay _ _ _ _ c.in_ok-coming.ensures.grows c.requires.globals

pub run-requires-clause-x : goal.run-requires-clause-x
run-requires-clause-x c = ready_stays _ _ _ _ c.in_ok-coming.ensures.grows c.requires.x

pub outgoing-requires-clause-x : goal.outgoing-requires-clause-x
outgoing-requires-clause-x c = ready_stays _ _ _ _ (grows_trans _ _ _ c.in_ok-coming.ensures.grows c.in_ok-made.ensures.grows) c.requires.x

pub returns-clause-is : goal.returns-clause-is
returns-clause-is c =
    let p = c.args.program.now in
    let u = c.in_ok-coming.ensures.grows in
    let v = c.in_ok-made.ensures.grows in
    let w = c.in_ok-going.ensures.grows in
    record {
      runs = λ a g i e s x. run_stays _ _ p a c.in_ok-made.made g i e w (c.in_ok-made.ensures.runs a g i e (said_stay _ _ _ _ _ u s) (invoked_stays _ _ _ _ a i e u x));
      coming = λ a g i e s x. carried_stays (λ env. comes_in p a (g env) (i env)) (grows_trans _ _ _ v w) (c.in_ok-coming.ensures.carried a g i e s x);
      going = λ a g i e s x.
          let r = c.in_ok-made.ensures.runs a g i e (said_stay _ _ _ _ _ u s) (invoked_stays _ _ _ _ a i e u x) in
          c.in_ok-going.ensures.carried a (λ env. store_after p.globals (g env) a (i env) (e env)) i e (λ env. outs_after p.globals (g env) a (i env) (e env)) r.store
          (invoked_stays _ _ _ _ a i e (grows_trans _ _ _ u v) x) r.outs;
    }

pub returns-clause-tested : goal.returns-clause-tested
returns-clause-tested c = tested_stays _ _ _ c.in_ok-going.ensures.grows (record { gate = c.in_ok-made.ensures.gate; guard = c.in_ok-made.ensures.guard })

pub returns-clause-coming : goal.returns-clause-coming
returns-clause-coming c = can_carry_stays (grows_trans _ _ _ c.in_ok-made.ensures.grows c.in_ok-going.ensures.grows) c.in_ok-coming.ensures.sorted

pub returns-clause-weighs : goal.returns-clause-weighs
returns-clause-weighs c = λ a e. omega (arith, c.in_ok-coming.ensures.weighs a e, c.in_ok-made.ensures.weighs a e, c.in_ok-going.ensures.weighs a e)

pub returns-clause-grows : goal.returns-clause-grows
returns-clause-grows c = grows_trans _ _ _ c.in_ok-coming.ensures.grows (grows_trans _ _ _ c.in_ok-made.ensures.grows c.in_ok-going.ensures.grows)

pub returns-in_err-made-clause-grows : goal.returns-in_err-made-clause-grows
returns-in_err-made-clause-grows c = grows_trans _ _ _ c.in_ok-coming.ensures.grows c.in_err-made.ensures.grows

pub returns-in_err-going-clause-grows : goal.returns-in_err-going-clause-grows
returns-in_err-going-clause-grows c = grows_trans _ _ _ c.in_ok-coming.ensures.grows (grows_trans _ _ _ c.in_ok-made.ensures.grows c.in_err-going.ensures.grows)

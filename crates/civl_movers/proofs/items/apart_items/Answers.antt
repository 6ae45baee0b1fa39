use Rattle.std.proofs.Common.{◌++◌, ◌+◌, ap, append_assoc, arith}
use Rattle.civl_terms.proofs.Growing.{grows_trans}
use Rattle.civl_meaning.specs.Permissions.{of_params, pairwise_disjoint}
use Rattle.civl_conditions.specs.Permissions.{in_store}
use Rattle.civl_conditions.specs.Weights.{linear_inputs}
use Rattle.civl_states.proofs.formula_parts.Saying.{test_as}
use Rattle.civl_states.specs.Items.{comes_in, number_coming}
use Rattle.civl_states.proofs.Runs.{ready_stays, invoked_stays}
use Rattle.civl_states.proofs.Picking.{items_small, permissions_some}
use Rattle.civl_movers.proofs.items.apart_items.Goals as goal

pub input_items-requires-clause-x : goal.input_items-requires-clause-x
input_items-requires-clause-x c = ready_stays _ _ _ _ c.in_ok-first.ensures.grows c.requires.y

pub returns-clause-tells : goal.returns-clause-tells
returns-clause-tells c = λ a b g i e j d s x y.
    let p = c.args.program.now in
    test_as c.input_items.new.terms c.in_ok-both.both.apart (λ env. pairwise_disjoint (comes_in p a (g env) (i env) ++ of_params b.params (j env))) _
    (λ env. ap pairwise_disjoint (append_assoc (in_store p (g env)) (of_params a.params (i env)) (of_params b.params (j env))))
    (c.in_ok-both.ensures.carried b (λ env. comes_in p a (g env) (i env)) j d (c.in_ok-first.ensures.carried a g i e s x) (invoked_stays _ _ _ _ b j d c.in_ok-first.ensures.grows y)).apart

pub returns-clause-weighs : goal.returns-clause-weighs
returns-clause-weighs c = λ a b q r.
    let p = c.args.program.now in
    omega (arith, c.in_ok-first.ensures.weighs a q, c.in_ok-both.ensures.weighs b (number_coming p a) r (c.in_ok-first.ensures.number a q), items_small p (number_coming p a + linear_inputs b.params) (permissions_some p c.requires.rules))

pub returns-clause-grows : goal.returns-clause-grows
returns-clause-grows c = grows_trans _ _ _ c.in_ok-first.ensures.grows c.in_ok-both.ensures.grows

pub returns-in_err-both-clause-grows : goal.returns-in_err-both-clause-grows
returns-in_err-both-clause-grows c = grows_trans _ _ _ c.in_ok-first.ensures.grows c.in_err-both.ensures.grows

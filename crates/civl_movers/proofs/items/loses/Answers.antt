use Rattle.std.specs.Prelude.{All}
use Rattle.std.proofs.Common.{List, [], ◌∷◌, ℕ, Bool, not, ◌&&◌, sym, ap, subst, arith, length}
use Rattle.civl_tree.specs.declared.expr.Sort.TheVariants.{Bool as Truth}
use Rattle.civl_firing.specs.Fired.{gate_holds, guard_holds, store_after, outs_after}
use Rattle.civl_terms.proofs.Growing.{grows_trans}
use Rattle.civl_meaning.specs.Permissions.{pairwise_disjoint}
use Rattle.civl_conditions.specs.Permissions.{included}
use Rattle.civl_states.specs.formula_parts.Said.{Env, AreTests, all_true}
use Rattle.civl_states.proofs.formula_parts.Saying.{sort_stays, test_stays, test_as, IsBool, four_bools, four_tests}
use Rattle.civl_states.specs.Items.{comes_in, number_coming}
use Rattle.civl_movers.specs.Items.{goes_out, number_going}
use Rattle.civl_states.proofs.Picking.{items_small, permissions_some}
use Rattle.civl_movers.proofs.Losing.{loses_is}
use Rattle.civl_movers.proofs.items.loses.Goals as goal

pub all_of-requires : goal.all_of-requires
all_of-requires c =
    let o = c.run_with_items.new.terms in
    let n = c.are_lost.new.terms in
    let r = c.in_ok-items.items in
    let h = c.in_ok-items.ensures in
    let w = c.in_ok-lost.ensures.grows in
    subst (λ (xs : List ℕ). All (IsBool n) xs) (sym c.as_slice.ensures)
    (four_bools n r.coming.apart r.made.gate r.made.guard c.in_ok-lost.lost (sort_stays o n r.coming.apart Truth w h.coming.apart) (sort_stays o n r.made.gate Truth w h.tested.gate) (sort_stays o n r.made.guard Truth w h.tested.guard) c.in_ok-lost.ensures.sorted)

pub returns-clause-tells : goal.returns-clause-tells
returns-clause-tells c = λ a g i e s x.
    let p = c.args.program.now in
    let o = c.run_with_items.new.terms in
    let n = c.are_lost.new.terms in
    let r = c.in_ok-items.items in
    let w = c.in_ok-lost.ensures.grows in
    let incoming : Env → List (List ℕ) = λ env. comes_in p a (g env) (i env) in
    let outgoing : Env → List (List ℕ) = λ env. goes_out p a (store_after p.globals (g env) a (i env) (e env)) (i env) (outs_after p.globals (g env) a (i env) (e env)) in
    let f0 : Env → Bool = λ env. pairwise_disjoint (incoming env) in
    let f1 : Env → Bool = λ env. gate_holds p.globals (g env) a (i env) in
    let f2 : Env → Bool = λ env. guard_holds p.globals (g env) a (i env) (e env) in
    let f3 : Env → Bool = λ env. not (pairwise_disjoint (outgoing env) && included (outgoing env) (incoming env)) in
    let fs : List (Env → Bool) = f0 ∷ f1 ∷ f2 ∷ f3 ∷ [] in
    let ran = c.in_ok-items.ensures.is.runs a g i e s x in
    let coming = c.in_ok-items.ensures.is.coming a g i e s x in
    let going = c.in_ok-items.ensures.is.going a g i e s x in
    let tests = four_tests n r.coming.apart r.made.gate r.made.guard c.in_ok-lost.lost f0 f1 f2 f3 (test_stays o n r.coming.apart f0 w coming.apart) (test_stays o n r.made.gate f1 w ran.gate) (test_stays o n r.made.guard f2 w ran.guard) (c.in_ok-lost.ensures.test outgoing incoming going coming) in
    test_as c.all_of.new.terms c.in_ok-id.id (all_true fs) _ (λ env. loses_is p (g env) a (i env) (e env))
    (c.in_ok-id.ensures.test fs (subst (λ (xs : List ℕ). AreTests n xs fs) (sym c.as_slice.ensures) tests))

pub returns-clause-weighs : goal.returns-clause-weighs
returns-clause-weighs c = λ a q.
    let p = c.args.program.now in
    omega (
      arith,
      c.in_ok-items.ensures.weighs a q,
      c.in_ok-lost.ensures.weighs (number_going p a) (c.in_ok-items.ensures.number a q),
      c.in_ok-id.ensures.weighs,
      ap (λ (xs : List ℕ). length xs) c.as_slice.ensures,
      items_small p (number_coming p a) (permissions_some p c.requires.rules),
      items_small p (number_going p a) (permissions_some p c.requires.rules),
    )

pub returns-clause-grows : goal.returns-clause-grows
returns-clause-grows c = grows_trans _ _ _ c.in_ok-items.ensures.grows (grows_trans _ _ _ c.in_ok-lost.ensures.grows c.in_ok-id.ensures.grows)

pub returns-in_err-lost-clause-grows : goal.returns-in_err-lost-clause-grows
returns-in_err-lost-clause-grows c = grows_trans _ _ _ c.in_ok-items.ensures.grows c.in_err-lost.ensures.grows

pub returns-in_err-id-clause-grows : goal.returns-in_err-id-clause-grows
returns-in_err-id-clause-grows c = grows_trans _ _ _ c.in_ok-items.ensures.grows (grows_trans _ _ _ c.in_ok-lost.ensures.grows c.in_err-id.ensures.grows)

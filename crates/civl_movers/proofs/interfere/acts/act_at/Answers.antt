use Rattle.std.specs.Prelude.{All}
use Rattle.std.proofs.Common.{List, [], ◌∷◌, ◌++◌, ℕ, Bool, sym, subst}
use Rattle.civl_tree.specs.declared.expr.Sort.TheVariants.{Bool as Truth}
use Rattle.civl_firing.specs.Fired.{gate_holds, guard_holds, store_after}
use Rattle.civl_meaning.specs.Permissions.{pairwise_disjoint}
use Rattle.civl_terms.proofs.Growing.{grows_trans}
use Rattle.civl_conditions.specs.Invariants.{invariants_hold, invariant_lost}
use Rattle.civl_states.specs.formula_parts.Said.{Env, AreTests, all_true}
use Rattle.civl_states.proofs.formula_parts.Saying.{sort_stays, test_stays, test_as, IsBool}
use Rattle.civl_states.specs.Items.{comes_in}
use Rattle.civl_states.specs.Stores.{AreStore}
use Rattle.civl_movers.proofs.interfere.Telling.{act_is}
use Rattle.civl_movers.proofs.interfere.acts.act_at.Goals as goal
use Rattle.civl_movers.proofs.Alike.{five_bools}

pub returns-in_err-lost-clause-grows : goal.returns-in_err-lost-clause-grows
returns-in_err-lost-clause-grows c = grows_trans _ _ _ c.in_ok-acting.ensures.grows c.in_err-lost.ensures.grows

pub returns-in_err-id-clause-grows : goal.returns-in_err-id-clause-grows
returns-in_err-id-clause-grows c = grows_trans _ _ _ c.in_ok-acting.ensures.grows (grows_trans _ _ _ c.in_ok-lost.ensures.grows c.in_err-id.ensures.grows)

pub returns-clause-grows : goal.returns-clause-grows
returns-clause-grows c = grows_trans _ _ _ c.in_ok-acting.ensures.grows (grows_trans _ _ _ c.in_ok-lost.ensures.grows c.in_ok-id.ensures.grows)

pub all_of-requires : goal.all_of-requires
all_of-requires c =
    let o = c.act.new.terms in
    let n = c.lost_at.new.terms in
    let r = c.in_ok-acting.acting in
    let h = c.in_ok-acting.ensures in
    let w = c.in_ok-lost.ensures.grows in
    subst (λ (xs : List ℕ). All (IsBool n) xs) (sym c.as_slice-2.ensures)
    (five_bools n r.holds r.made.gate r.apart r.made.guard c.in_ok-lost.lost (sort_stays o n r.holds Truth w h.holds) (sort_stays o n r.made.gate Truth w h.gate) (sort_stays o n r.apart Truth w h.apart) (sort_stays o n r.made.guard Truth w h.guard) c.in_ok-lost.ensures.sorted)

pub returns-clause-tells : goal.returns-clause-tells
returns-clause-tells c = λ a g i e s x.
    let p = c.args.program.now in
    let k = c.args.step in
    let o = c.act.new.terms in
    let n = c.lost_at.new.terms in
    let r = c.in_ok-acting.acting in
    let h = c.in_ok-acting.ensures.is in
    let w = c.in_ok-lost.ensures.grows in
    let ran = h.runs a g i e s x in
    let f0 : Env → Bool = λ env. invariants_hold p k (g env) in
    let f1 : Env → Bool = λ env. gate_holds p.globals (g env) a (i env) in
    let f2 : Env → Bool = λ env. pairwise_disjoint (comes_in p a (g env) (i env) ++ []) in
    let f3 : Env → Bool = λ env. guard_holds p.globals (g env) a (i env) (e env) in
    let f4 : Env → Bool = λ env. invariant_lost p k c.args.place (store_after p.globals (g env) a (i env) (e env)) in
    let fs : List (Env → Bool) = f0 ∷ f1 ∷ f2 ∷ f3 ∷ f4 ∷ [] in
    let lost = c.in_ok-lost.ensures.tells (λ env. store_after p.globals (g env) a (i env) (e env)) (subst (λ (ids : List ℕ). AreStore o p ids (λ env. store_after p.globals (g env) a (i env) (e env))) (sym c.as_slice.ensures) ran.store) in
    let tests : AreTests n (r.holds ∷ r.made.gate ∷ r.apart ∷ r.made.guard ∷ c.in_ok-lost.lost ∷ []) fs =
    (test_stays o n r.holds f0 w (h.holds g s), (test_stays o n r.made.gate f1 w ran.gate, (test_stays o n r.apart f2 w (h.apart a g i e s x), (test_stays o n r.made.guard f3 w ran.guard, (lost, tt))))) in
    test_as c.all_of.new.terms c.in_ok-id.id (all_true fs) _ (λ env. act_is p k c.args.place (g env) a (i env) (e env))
    (c.in_ok-id.ensures.test fs (subst (λ (xs : List ℕ). AreTests n xs fs) (sym c.as_slice-2.ensures) tests))

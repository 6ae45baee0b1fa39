use Rattle.std.specs.Prelude.{◌+◌, ℕ, List, [], ◌∷◌, length, All}
use Rattle.std.proofs.Common.{Bool, sym, ap, subst, arith}
use Rattle.civl_tree.specs.declared.expr.Sort.TheVariants.{Bool as Truth}
use Rattle.civl_firing.specs.Fired.{guard_holds, store_after, outs_after}
use Rattle.civl_conditions.specs.footprints.Agreement.{exists_at}
use Rattle.civl_terms.proofs.Growing.{grows_trans}
use Rattle.civl_actions.specs.Actions.{values_at}
use Rattle.civl_conditions.specs.Values.{same_values, same_stores}
use Rattle.civl_states.specs.formula_parts.Said.{Env, IsTest, AreTests, all_true}
use Rattle.civl_states.specs.formula_parts.Lists.{AreAlike, bits_at}
use Rattle.civl_states.proofs.formula_parts.Saying.{IsBool, sort_stays, test_stays, test_as}
use Rattle.civl_states.proofs.formula_parts.Listing.{alike_stay, said_stay, bits_stay}
use Rattle.civl_movers.proofs.Alike.{five_bools, same_outs, end_alike_is}
use Rattle.civl_movers.proofs.ends.end_alike.Goals as goal

pub all_same-requires : goal.all_same-requires
all_same-requires c =
    let n = c.same_globals.new.terms in
    subst (λ (ys : List ℕ). AreAlike n c.as_slice.result.now ys) (sym c.as_slice-2.ensures)
    (subst (λ (xs : List ℕ). AreAlike n xs c.args.back.now.second.outs) (sym c.as_slice.ensures) (alike_stay c.args.terms.now n _ _ c.in_ok-stores.ensures.grows c.requires.firsts))

pub all_same-requires-2 : goal.all_same-requires-2
all_same-requires-2 c =
    let n = c.all_same.new.terms in
    let w = grows_trans _ _ _ c.in_ok-stores.ensures.grows c.in_ok-firsts.ensures.grows in
    subst (λ (ys : List ℕ). AreAlike n c.as_slice-3.result.now ys) (sym c.as_slice-4.ensures)
    (subst (λ (xs : List ℕ). AreAlike n xs c.args.back.now.first.outs) (sym c.as_slice-3.ensures) (alike_stay c.args.terms.now n _ _ w c.requires.seconds))

pub all_of-requires : goal.all_of-requires
all_of-requires c =
    let o = c.args.terms.now in
    let n1 = c.same_globals.new.terms in
    let n2 = c.all_same.new.terms in
    let n = c.all_same-2.new.terms in
    let back = c.args.back.now in
    let w1 = c.in_ok-stores.ensures.grows in
    let w3 = c.in_ok-seconds.ensures.grows in
    let w23 = grows_trans n1 n2 n c.in_ok-firsts.ensures.grows w3 in
    let w = grows_trans o n1 n w1 w23 in
    subst (λ (xs : List ℕ). All (IsBool n) xs) (sym c.as_slice-5.ensures)
    (five_bools n back.first.guard back.second.guard c.in_ok-stores.stores c.in_ok-firsts.firsts c.in_ok-seconds.seconds
    (sort_stays o n back.first.guard Truth w c.requires.first.guard) (sort_stays o n back.second.guard Truth w c.requires.second.guard)
    (sort_stays n1 n c.in_ok-stores.stores Truth w23 c.in_ok-stores.ensures.sorted) (sort_stays n2 n c.in_ok-firsts.firsts Truth w3 c.in_ok-firsts.ensures.sorted) c.in_ok-seconds.ensures.sorted)

pub returns-clause-tells : goal.returns-clause-tells
returns-clause-tells c = λ a b g i e j d h.
    let p = c.args.program.now in
    let gs = p.globals in
    let o = c.args.terms.now in
    let n1 = c.same_globals.new.terms in
    let n2 = c.all_same.new.terms in
    let n = c.all_same-2.new.terms in
    let there = c.args.there.now in
    let back = c.args.back.now in
    let w1 = c.in_ok-stores.ensures.grows in
    let w2 = c.in_ok-firsts.ensures.grows in
    let w3 = c.in_ok-seconds.ensures.grows in
    let w12 = grows_trans o n1 n2 w1 w2 in
    let w23 = grows_trans n1 n2 n w2 w3 in
    let w = grows_trans o n1 n w1 w23 in
    let f0 : Env → Bool = λ env. guard_holds gs (g env) b (j env) (d env) in
    let f1 : Env → Bool = λ env. guard_holds gs (store_after gs (g env) b (j env) (d env)) a (i env) (e env) in
    let f2 : Env → Bool = λ env. same_stores (exists_at c.args.layer) p (store_after gs (store_after gs (g env) a (i env) (e env)) b (j env) (d env)) (store_after gs (store_after gs (g env) b (j env) (d env)) a (i env) (e env)) in
    let f3 : Env → Bool = λ env. same_values (outs_after gs (g env) a (i env) (e env)) (outs_after gs (store_after gs (g env) b (j env) (d env)) a (i env) (e env)) in
    let f4 : Env → Bool = λ env. same_values (outs_after gs (store_after gs (g env) a (i env) (e env)) b (j env) (d env)) (outs_after gs (g env) b (j env) (d env)) in
    let fs : List (Env → Bool) = f0 ∷ f1 ∷ f2 ∷ f3 ∷ f4 ∷ [] in
    let t2 = c.in_ok-stores.ensures.tells _ _ h.second.store h.second_back.store in
    let u3 = subst (λ (ys : List ℕ). IsTest n2 c.in_ok-firsts.firsts (λ env. same_values (values_at env n1 there.first.outs) (values_at env n1 ys))) c.as_slice-2.ensures
    (subst (λ (xs : List ℕ). IsTest n2 c.in_ok-firsts.firsts (λ env. same_values (values_at env n1 xs) (values_at env n1 c.as_slice-2.result.now))) c.as_slice.ensures c.in_ok-firsts.ensures.test) in
    let t3 = same_outs n1 n2 there.first.outs back.second.outs c.in_ok-firsts.firsts a _ _ w2 u3 (said_stay o n1 _ _ _ w1 h.first.outs) (said_stay o n1 _ _ _ w1 h.second_back.outs) in
    let u4 = subst (λ (ys : List ℕ). IsTest n c.in_ok-seconds.seconds (λ env. same_values (values_at env n2 there.second.outs) (values_at env n2 ys))) c.as_slice-4.ensures
    (subst (λ (xs : List ℕ). IsTest n c.in_ok-seconds.seconds (λ env. same_values (values_at env n2 xs) (values_at env n2 c.as_slice-4.result.now))) c.as_slice-3.ensures c.in_ok-seconds.ensures.test) in
    let t4 = same_outs n2 n there.second.outs back.first.outs c.in_ok-seconds.seconds b _ _ w3 u4 (said_stay o n2 _ _ _ w12 h.second.outs) (said_stay o n2 _ _ _ w12 h.first_back.outs) in
    let tests : AreTests n (back.first.guard ∷ back.second.guard ∷ c.in_ok-stores.stores ∷ c.in_ok-firsts.firsts ∷ c.in_ok-seconds.seconds ∷ []) fs =
    (test_stays o n back.first.guard f0 w h.first_back.guard, (test_stays o n back.second.guard f1 w h.second_back.guard, (test_stays n1 n c.in_ok-stores.stores f2 w23 t2, (test_stays n2 n c.in_ok-firsts.firsts f3 w3 t3, (t4, tt))))) in
    test_as c.all_of.new.terms c.in_ok-id.id (all_true fs) _ (λ env. end_alike_is p c.args.layer (g env) a (i env) (e env) b (j env) (d env))
    (c.in_ok-id.ensures.test fs (subst (λ (xs : List ℕ). AreTests n xs fs) (sym c.as_slice-5.ensures) tests))

pub returns-clause-weighs : goal.returns-clause-weighs
returns-clause-weighs c =
    let o = c.args.terms.now in
    let n1 = c.same_globals.new.terms in
    let n2 = c.all_same.new.terms in
    let there = c.args.there.now in
    let w1 = c.in_ok-stores.ensures.grows in
    let w12 = grows_trans o n1 n2 w1 c.in_ok-firsts.ensures.grows in
    omega (
      arith,
      c.in_ok-stores.ensures.weighs,
      c.in_ok-firsts.ensures.weighs,
      c.in_ok-seconds.ensures.weighs,
      c.in_ok-id.ensures.weighs,
      ap (λ (xs : List ℕ). bits_at n1 xs + length xs) c.as_slice.ensures,
      ap (λ (xs : List ℕ). bits_at n2 xs + length xs) c.as_slice-3.ensures,
      ap (λ (xs : List ℕ). length xs) c.as_slice-5.ensures,
      bits_stay o n1 there.first.outs _ w1 c.requires.firsts.first,
      bits_stay o n2 there.second.outs _ w12 c.requires.seconds.first,
    )

pub returns-in_err-firsts-clause-grows : goal.returns-in_err-firsts-clause-grows
returns-in_err-firsts-clause-grows c = grows_trans _ _ _ c.in_ok-stores.ensures.grows c.in_err-firsts.ensures.grows

pub returns-in_err-seconds-clause-grows : goal.returns-in_err-seconds-clause-grows
returns-in_err-seconds-clause-grows c = grows_trans _ _ _ c.in_ok-stores.ensures.grows (grows_trans _ _ _ c.in_ok-firsts.ensures.grows c.in_err-seconds.ensures.grows)

pub returns-in_err-id-clause-grows : goal.returns-in_err-id-clause-grows
returns-in_err-id-clause-grows c = grows_trans _ _ _ c.in_ok-stores.ensures.grows (grows_trans _ _ _ c.in_ok-firsts.ensures.grows (grows_trans _ _ _ c.in_ok-seconds.ensures.grows c.in_err-id.ensures.grows))

pub returns-clause-grows : goal.returns-clause-grows
returns-clause-grows c = grows_trans _ _ _ c.in_ok-stores.ensures.grows (grows_trans _ _ _ c.in_ok-firsts.ensures.grows (grows_trans _ _ _ c.in_ok-seconds.ensures.grows c.in_ok-id.ensures.grows))

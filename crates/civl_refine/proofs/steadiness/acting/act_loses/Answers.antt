use Rattle.std.specs.Prelude.{All, map}
use Rattle.std.proofs.Common.{◌≡◌, ◌∙◌, List, [], ◌∷◌, ◌++◌, ◌+◌, ℕ, Bool, length, sym, ap, subst, arith, Some}
use Rattle.civl_tree.specs.declared.expr.Sort.TheVariants.{Bool as Truth, Word}
use Rattle.civl_firing.specs.Fired.{gate_holds, guard_holds, store_after}
use Rattle.civl_meaning.specs.Permissions.{pairwise_disjoint, permissions_of_word}
use Rattle.civl_terms.specs.Graphs.{sort_at}
use Rattle.civl_terms.proofs.Growing.{grows_trans}
use Rattle.civl_actions.specs.Actions.{values_at}
use Rattle.civl_conditions.specs.Invariants.{invariants_hold}
use Rattle.civl_conditions.specs.Weights.{lin, linear_globals, linear_inputs}
use Rattle.civl_states.specs.formula_parts.Said.{Env, AreTests, all_true}
use Rattle.civl_states.proofs.formula_parts.Saying.{sort_stays, test_stays, test_as, test_where, IsBool}
use Rattle.civl_states.proofs.formula_parts.Listing.{sorts_stay, said_stay}
use Rattle.civl_states.specs.Items.{comes_in}
use Rattle.civl_movers.proofs.Alike.{five_bools}
use Rattle.civl_refine.specs.inner.steadiness.Kept.{is_lost, words_of, words_count}
use Rattle.civl_refine.proofs.steadiness.Aiming.{frame_stays, other_stays, words_there, words_sorted, words_long, words_carry}
use Rattle.civl_refine.proofs.steadiness.Ending.{act_tests}
use Rattle.civl_refine.proofs.steadiness.acting.act_loses.Goals as goal

pub word_ids-requires : goal.word_ids-requires
word_ids-requires c = words_there c.args.terms.now c.args.program.now c.args.kept.now c.requires.kept

pub act-requires-clause-owned : goal.act-requires-clause-owned
act-requires-clause-owned c =
    let items = c.as_slice.ensures.value ∙ c.in_ok-owned.ensures in
    subst (λ (xs : List ℕ). All (λ i. sort_at c.args.terms.now i ≡ Some (Word c.args.program.now.permissions)) xs) (sym items) (words_sorted c.args.terms.now c.args.program.now c.args.kept.now c.requires.kept)

pub target_lost-requires-clause-kept : goal.target_lost-requires-clause-kept
target_lost-requires-clause-kept c = frame_stays _ _ c.args.program.now c.args.kept.now c.in_ok-acting.ensures.grows c.requires.kept

pub target_lost-requires-clause-before : goal.target_lost-requires-clause-before
target_lost-requires-clause-before c = sorts_stay _ _ _ _ c.in_ok-acting.ensures.grows c.requires.globals

pub returns-in_err-lost-clause-grows : goal.returns-in_err-lost-clause-grows
returns-in_err-lost-clause-grows c = grows_trans _ _ _ c.in_ok-acting.ensures.grows c.in_err-lost.ensures.grows

pub returns-in_err-id-clause-grows : goal.returns-in_err-id-clause-grows
returns-in_err-id-clause-grows c = grows_trans _ _ _ c.in_ok-acting.ensures.grows (grows_trans _ _ _ c.in_ok-lost.ensures.grows c.in_err-id.ensures.grows)

pub returns-clause-grows : goal.returns-clause-grows
returns-clause-grows c = grows_trans _ _ _ c.in_ok-acting.ensures.grows (grows_trans _ _ _ c.in_ok-lost.ensures.grows c.in_ok-id.ensures.grows)

pub all_of-requires : goal.all_of-requires
all_of-requires c =
    let o = c.act.new.terms in
    let n = c.target_lost.new.terms in
    let r = c.in_ok-acting.acting in
    let h = c.in_ok-acting.ensures in
    let w = c.in_ok-lost.ensures.grows in
    subst (λ (xs : List ℕ). All (IsBool n) xs) (sym c.as_slice-2.ensures)
    (five_bools n r.holds r.made.gate r.apart r.made.guard c.in_ok-lost.lost (sort_stays o n r.holds Truth w h.holds) (sort_stays o n r.made.gate Truth w h.gate) (sort_stays o n r.apart Truth w h.apart) (sort_stays o n r.made.guard Truth w h.guard) c.in_ok-lost.ensures.sorted)

pub returns-clause-tells : goal.returns-clause-tells
returns-clause-tells c = λ a g i e o s x k.
    let p = c.args.program.now in
    let step = c.args.step in
    let kept = c.args.kept.now in
    let old = c.args.terms.now in
    let m = c.act.new.terms in
    let n = c.target_lost.new.terms in
    let r = c.in_ok-acting.acting in
    let h = c.in_ok-acting.ensures.is in
    let u = c.in_ok-acting.ensures.grows in
    let w = c.in_ok-lost.ensures.grows in
    let items = c.as_slice.ensures.value ∙ c.in_ok-owned.ensures in
    let ran = h.runs a g i e s x in
    let f0 : Env → Bool = λ env. invariants_hold p step (g env) in
    let f1 : Env → Bool = λ env. gate_holds p.globals (g env) a (i env) in
    let f2 : Env → Bool = λ env. pairwise_disjoint (comes_in p a (g env) (i env) ++ words_of kept (o env)) in
    let f3 : Env → Bool = λ env. guard_holds p.globals (g env) a (i env) (e env) in
    let f4 : Env → Bool = λ env. is_lost p step kept (o env) (g env) (store_after p.globals (g env) a (i env) (e env)) in
    let fs : List (Env → Bool) = f0 ∷ f1 ∷ f2 ∷ f3 ∷ f4 ∷ [] in
    let apart = test_where m r.apart (λ env. pairwise_disjoint (comes_in p a (g env) (i env) ++ map permissions_of_word (values_at env old c.as_slice.result.now))) f2
    (λ env fits. ap (λ (ps : List (List ℕ)). pairwise_disjoint (comes_in p a (g env) (i env) ++ ps))
    (ap (λ (xs : List ℕ). map permissions_of_word (values_at env old xs)) items ∙ words_carry old kept o (words_there old p kept c.requires.kept) k env (u.fits env fits)))
    (h.apart a g i e s x) in
    let lost = c.in_ok-lost.ensures.tells o g (λ env. store_after p.globals (g env) a (i env) (e env)) (other_stays old m kept o u k) (said_stay old m _ _ _ u s) ran.store in
    let tests : AreTests n (r.holds ∷ r.made.gate ∷ r.apart ∷ r.made.guard ∷ c.in_ok-lost.lost ∷ []) fs =
    (test_stays m n r.holds f0 w (h.holds g s), (test_stays m n r.made.gate f1 w ran.gate, (test_stays m n r.apart f2 w apart, (test_stays m n r.made.guard f3 w ran.guard, (lost, tt))))) in
    test_as c.all_of.new.terms c.in_ok-id.id (all_true fs) _ (λ env. act_tests p step kept (o env) (g env) a (i env) (e env))
    (c.in_ok-id.ensures.test fs (subst (λ (xs : List ℕ). AreTests n xs fs) (sym c.as_slice-2.ensures) tests))

pub returns-clause-weighs : goal.returns-clause-weighs
returns-clause-weighs c = λ a e.
    let p = c.args.program.now in
    let items = c.as_slice.ensures.value ∙ c.in_ok-owned.ensures in
    let long : length c.as_slice.result.now ≡ words_count c.args.kept.now = ap length items ∙ words_long c.args.kept.now in
    omega (arith, c.in_ok-acting.ensures.weighs a e, ap (λ (n : ℕ). lin p (linear_globals p + linear_inputs a.params + n)) long, c.in_ok-lost.ensures.weighs, c.in_ok-id.ensures.weighs, ap length c.as_slice-2.ensures)

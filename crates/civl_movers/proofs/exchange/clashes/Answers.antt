use Rattle.std.specs.Prelude.{◌-◌, ℕ, List, [], ◌∷◌, length, All}
use Rattle.std.proofs.Common.{Bool, not, sym, ap, subst, arith}
use Rattle.civl_tree.specs.declared.expr.Sort.TheVariants.{Bool as Truth}
use Rattle.civl_firing.specs.Fired.{gate_holds, guard_holds, store_after}
use Rattle.civl_terms.proofs.Growing.{grows_trans}
use Rattle.civl_states.specs.formula_parts.Said.{Env, IsTest, AreTests, all_true}
use Rattle.civl_states.proofs.formula_parts.Saying.{IsBool, sort_stays, test_stays, test_as}
use Rattle.civl_states.proofs.formula_parts.Listing.{sorts_stay, said_stay}
use Rattle.civl_states.specs.Runs.{out_sorts}
use Rattle.civl_states.specs.Same.{layer_sorts, same_weight}
use Rattle.civl_movers.specs.inner.Ends.{end_alike}
use Rattle.civl_states.proofs.Runs.{ready_stays, invoked_stays, run_stays}
use Rattle.civl_states.proofs.Choosing.{same_weighs}
use Rattle.civl_movers.proofs.Alike.{six_bools}
use Rattle.civl_movers.proofs.Telling.{clashes_is}
use Rattle.civl_movers.proofs.exchange.clashes.Goals as goal

pub run_in_turn-requires-2-clause-globals : goal.run_in_turn-requires-2-clause-globals
run_in_turn-requires-2-clause-globals c = sorts_stay _ _ _ _ c.in_ok-there.ensures.grows c.requires.globals

pub run_in_turn-requires-2-clause-x : goal.run_in_turn-requires-2-clause-x
run_in_turn-requires-2-clause-x c = ready_stays _ _ _ _ c.in_ok-there.ensures.grows c.requires.y

pub run_in_turn-requires-2-clause-y : goal.run_in_turn-requires-2-clause-y
run_in_turn-requires-2-clause-y c = ready_stays _ _ _ _ c.in_ok-there.ensures.grows c.requires.x

pub end_alike-requires-clause-there : goal.end_alike-requires-clause-there
end_alike-requires-clause-there c = sorts_stay _ _ _ _ c.in_ok-back.ensures.grows c.in_ok-there.ensures.store

pub end_alike-requires-clause-firsts : goal.end_alike-requires-clause-firsts
end_alike-requires-clause-firsts c =
    let r = c.requires.x in
    record { sorts = out_sorts r.action; first = sorts_stay _ _ _ _ c.in_ok-back.ensures.grows (c.in_ok-there.ensures.first_outs r.action r.is); second = c.in_ok-back.ensures.second_outs r.action r.is }

pub end_alike-requires-clause-seconds : goal.end_alike-requires-clause-seconds
end_alike-requires-clause-seconds c =
    let r = c.requires.y in
    record { sorts = out_sorts r.action; first = sorts_stay _ _ _ _ c.in_ok-back.ensures.grows (c.in_ok-there.ensures.second_outs r.action r.is); second = c.in_ok-back.ensures.first_outs r.action r.is }

pub all_of-requires : goal.all_of-requires
all_of-requires c =
    let n1 = c.run_in_turn.new.terms in
    let n2 = c.run_in_turn-2.new.terms in
    let n3 = c.end_alike.new.terms in
    let n = c.negated.new.terms in
    let there = c.in_ok-there.there in
    let back = c.in_ok-back.back in
    let w2 = grows_trans n2 n3 n c.in_ok-alike.ensures.grows c.in_ok-differ.ensures.grows in
    let w1 = grows_trans n1 n2 n c.in_ok-back.ensures.grows w2 in
    subst (λ (xs : List ℕ). All (IsBool n) xs) (sym c.as_slice.ensures)
    (six_bools n there.first.gate back.first.gate there.first.guard there.second.gate there.second.guard c.in_ok-differ.differ
    (sort_stays n1 n _ Truth w1 c.in_ok-there.ensures.first.gate) (sort_stays n2 n _ Truth w2 c.in_ok-back.ensures.first.gate) (sort_stays n1 n _ Truth w1 c.in_ok-there.ensures.first.guard)
    (sort_stays n1 n _ Truth w1 c.in_ok-there.ensures.second.gate) (sort_stays n1 n _ Truth w1 c.in_ok-there.ensures.second.guard) c.in_ok-differ.ensures.sorted)

pub returns-clause-tells : goal.returns-clause-tells
returns-clause-tells c = λ a b g i e j d sg hx hy.
    let p = c.args.program.now in
    let gs = p.globals in
    let o = c.args.terms.now in
    let n1 = c.run_in_turn.new.terms in
    let n2 = c.run_in_turn-2.new.terms in
    let n3 = c.end_alike.new.terms in
    let n = c.negated.new.terms in
    let there = c.in_ok-there.there in
    let back = c.in_ok-back.back in
    let v1 = c.in_ok-there.ensures.grows in
    let v2 = c.in_ok-back.ensures.grows in
    let w2 = grows_trans n2 n3 n c.in_ok-alike.ensures.grows c.in_ok-differ.ensures.grows in
    let w1 = grows_trans n1 n2 n v2 w2 in
    let tf = c.in_ok-there.ensures.ran.first a g i e sg hx in
    let ts = c.in_ok-there.ensures.ran.second a b g i e j d sg hx hy in
    let sg1 = said_stay o n1 _ _ _ v1 sg in
    let hx1 = invoked_stays o n1 _ _ a i e v1 hx in
    let hy1 = invoked_stays o n1 _ _ b j d v1 hy in
    let bf = c.in_ok-back.ensures.ran.first b g j d sg1 hy1 in
    let bs = c.in_ok-back.ensures.ran.second b a g j d i e sg1 hy1 hx1 in
    let alike = subst (λ (k : ℕ). IsTest n3 c.in_ok-alike.alike (λ env. end_alike p k (g env) a (i env) (e env) b (j env) (d env))) c.saturating_sub-layer.ensures (c.in_ok-alike.ensures.tells a b g i e j d (record {
      first = run_stays n1 n2 p a there.first g i e v2 tf;
      second = run_stays n1 n2 p b there.second _ j d v2 ts;
      first_back = bf;
      second_back = bs;
    })) in
    let f0 : Env → Bool = λ env. gate_holds gs (g env) a (i env) in
    let f1 : Env → Bool = λ env. gate_holds gs (g env) b (j env) in
    let f2 : Env → Bool = λ env. guard_holds gs (g env) a (i env) (e env) in
    let f3 : Env → Bool = λ env. gate_holds gs (store_after gs (g env) a (i env) (e env)) b (j env) in
    let f4 : Env → Bool = λ env. guard_holds gs (store_after gs (g env) a (i env) (e env)) b (j env) (d env) in
    let f5 : Env → Bool = λ env. not (end_alike p (c.args.step - 1) (g env) a (i env) (e env) b (j env) (d env)) in
    let fs : List (Env → Bool) = f0 ∷ f1 ∷ f2 ∷ f3 ∷ f4 ∷ f5 ∷ [] in
    let tests : AreTests n (there.first.gate ∷ back.first.gate ∷ there.first.guard ∷ there.second.gate ∷ there.second.guard ∷ c.in_ok-differ.differ ∷ []) fs =
    (test_stays n1 n _ f0 w1 tf.gate, (test_stays n2 n _ f1 w2 bf.gate, (test_stays n1 n _ f2 w1 tf.guard, (test_stays n1 n _ f3 w1 ts.gate, (test_stays n1 n _ f4 w1 ts.guard, (c.in_ok-differ.ensures.test _ alike, tt)))))) in
    test_as c.all_of.new.terms c.in_ok-id.id (all_true fs) _ (λ env. clashes_is p c.args.step (g env) a b (i env) (e env) (j env) (d env))
    (c.in_ok-id.ensures.test fs (subst (λ (xs : List ℕ). AreTests n xs fs) (sym c.as_slice.ensures) tests))

pub returns-clause-weighs : goal.returns-clause-weighs
returns-clause-weighs c = λ a b p q.
    let n1 = c.run_in_turn.new.terms in
    let n2 = c.run_in_turn-2.new.terms in
    let v2 = c.in_ok-back.ensures.grows in
    omega (
      arith,
      c.in_ok-there.ensures.weighs a b p q,
      c.in_ok-back.ensures.weighs b a q p,
      c.in_ok-alike.ensures.weighs,
      c.in_ok-differ.ensures.weighs,
      c.in_ok-id.ensures.weighs,
      ap (λ (xs : List ℕ). length xs) c.as_slice.ensures,
      ap (λ (k : ℕ). same_weight (layer_sorts c.args.program.now k)) c.saturating_sub-layer.ensures,
      same_weighs n2 _ (out_sorts a) (sorts_stay n1 n2 _ _ v2 (c.in_ok-there.ensures.first_outs a p)),
      same_weighs n2 _ (out_sorts b) (sorts_stay n1 n2 _ _ v2 (c.in_ok-there.ensures.second_outs b q)),
    )

pub returns-clause-grows : goal.returns-clause-grows
returns-clause-grows c =
    grows_trans _ _ _ c.in_ok-there.ensures.grows (grows_trans _ _ _ c.in_ok-back.ensures.grows (grows_trans _ _ _ c.in_ok-alike.ensures.grows (grows_trans _ _ _ c.in_ok-differ.ensures.grows c.in_ok-id.ensures.grows)))

pub returns-in_err-back-clause-grows : goal.returns-in_err-back-clause-grows
returns-in_err-back-clause-grows c = grows_trans _ _ _ c.in_ok-there.ensures.grows c.in_err-back.ensures.grows

pub returns-in_err-alike-clause-grows : goal.returns-in_err-alike-clause-grows
returns-in_err-alike-clause-grows c = grows_trans _ _ _ c.in_ok-there.ensures.grows (grows_trans _ _ _ c.in_ok-back.ensures.grows c.in_err-alike.ensures.grows)

pub returns-in_err-differ-clause-grows : goal.returns-in_err-differ-clause-grows
returns-in_err-differ-clause-grows c =
    grows_trans _ _ _ c.in_ok-there.ensures.grows (grows_trans _ _ _ c.in_ok-back.ensures.grows (grows_trans _ _ _ c.in_ok-alike.ensures.grows c.in_err-differ.ensures.grows))

pub returns-in_err-id-clause-grows : goal.returns-in_err-id-clause-grows
returns-in_err-id-clause-grows c =
    grows_trans _ _ _ c.in_ok-there.ensures.grows (grows_trans _ _ _ c.in_ok-back.ensures.grows (grows_trans _ _ _ c.in_ok-alike.ensures.grows (grows_trans _ _ _ c.in_ok-differ.ensures.grows c.in_err-id.ensures.grows)))

use Rattle.std.proofs.Common.{List, [], ◌∷◌, ℕ, Bool, not, sym, ap, subst, arith, length}
use Rattle.std.specs.Prelude.{All}
use Rattle.civl_tree.specs.declared.expr.Sort.TheVariants.{Bool as Truth}
use Rattle.civl_firing.specs.Fired.{gate_holds, guard_holds, store_after}
use Rattle.civl_terms.proofs.Growing.{grows_trans}
use Rattle.civl_states.specs.formula_parts.Said.{Env, AreTests, all_true}
use Rattle.civl_states.proofs.formula_parts.Saying.{sort_stays, test_stays, test_as, IsBool, four_bools, four_tests}
use Rattle.civl_movers.proofs.Telling.{spoils_is}
use Rattle.civl_movers.proofs.pairs.spoils.Goals as goal

pub all_of-requires : goal.all_of-requires
all_of-requires c =
    let o = c.meet.new.terms in
    let n = c.negated.new.terms in
    let r = c.in_ok-met.met in
    let h = c.in_ok-met.ensures in
    let w = c.in_ok-spoiled.ensures.grows in
    subst (λ (xs : List ℕ). All (IsBool n) xs) (sym c.as_slice.ensures)
    (four_bools n r.first.gate r.before r.first.guard c.in_ok-spoiled.spoiled (sort_stays o n r.first.gate Truth w h.gate) (sort_stays o n r.before Truth w h.before) (sort_stays o n r.first.guard Truth w h.guard) c.in_ok-spoiled.ensures.sorted)

pub returns-clause-tells : goal.returns-clause-tells
returns-clause-tells c = λ a b g i e j d sg hx hy.
    let p = c.args.program.now in
    let o = c.meet.new.terms in
    let n = c.negated.new.terms in
    let r = c.in_ok-met.met in
    let h = c.in_ok-met.ensures.met in
    let w = c.in_ok-spoiled.ensures.grows in
    let f0 : Env → Bool = λ env. gate_holds p.globals (g env) a (i env) in
    let f1 : Env → Bool = λ env. gate_holds p.globals (g env) b (j env) in
    let f2 : Env → Bool = λ env. guard_holds p.globals (g env) a (i env) (e env) in
    let f3 : Env → Bool = λ env. not (gate_holds p.globals (store_after p.globals (g env) a (i env) (e env)) b (j env)) in
    let fs : List (Env → Bool) = f0 ∷ f1 ∷ f2 ∷ f3 ∷ [] in
    let first = h.first a g i e sg hx in
    let tests = four_tests n r.first.gate r.before r.first.guard c.in_ok-spoiled.spoiled f0 f1 f2 f3 (test_stays o n r.first.gate f0 w first.gate) (test_stays o n r.before f1 w (h.before b g j sg hy.is hy.inputs)) (test_stays o n r.first.guard f2 w first.guard) (c.in_ok-spoiled.ensures.test (λ env. gate_holds p.globals (store_after p.globals (g env) a (i env) (e env)) b (j env)) (h.later a b g i e j d sg hx hy)) in
    test_as c.all_of.new.terms c.in_ok-id.id (all_true fs) _ (λ env. spoils_is p (g env) a b (i env) (e env) (j env) (d env))
    (c.in_ok-id.ensures.test fs (subst (λ (xs : List ℕ). AreTests n xs fs) (sym c.as_slice.ensures) tests))

pub returns-clause-weighs : goal.returns-clause-weighs
returns-clause-weighs c = λ a b p q. omega (arith, c.in_ok-met.ensures.weighs a b p q, c.in_ok-spoiled.ensures.weighs, c.in_ok-id.ensures.weighs, ap (λ (xs : List ℕ). length xs) c.as_slice.ensures)

pub returns-clause-grows : goal.returns-clause-grows
returns-clause-grows c = grows_trans _ _ _ c.in_ok-met.ensures.grows (grows_trans _ _ _ c.in_ok-spoiled.ensures.grows c.in_ok-id.ensures.grows)

pub returns-in_err-spoiled-clause-grows : goal.returns-in_err-spoiled-clause-grows
returns-in_err-spoiled-clause-grows c = grows_trans _ _ _ c.in_ok-met.ensures.grows c.in_err-spoiled.ensures.grows

pub returns-in_err-id-clause-grows : goal.returns-in_err-id-clause-grows
returns-in_err-id-clause-grows c = grows_trans _ _ _ c.in_ok-met.ensures.grows (grows_trans _ _ _ c.in_ok-spoiled.ensures.grows c.in_err-id.ensures.grows)

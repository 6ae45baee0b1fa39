use Rattle.std.specs.Prelude.{map, filter, All, IsTrue, length}
use Rattle.std.proofs.Common.{◌∙◌, ℕ, List, sym, ap, subst, arith}
use Rattle.std.proofs.lemmas.List.{length-map}
use Rattle.civl_tree.specs.declared.program.Global.{Global}
use Rattle.civl_firing.specs.values.Values.{is_sort}
use Rattle.civl_terms.proofs.Growing.{lengthens_trans, lengthened}
use Rattle.civl_actions.specs.Scopes.{AreOf}
use Rattle.civl_actions.specs.Actions.{values_at}
use Rattle.civl_states.specs.formula_parts.Lists.{AreSaid}
use Rattle.civl_states.specs.formula_parts.Given.{given, bits_of_sorts}
use Rattle.civl_conditions.specs.Values.{spread}
use Rattle.civl_states.specs.Existing.{passes, existing_sorts}
use Rattle.civl_states.proofs.Given.{stand_within, stand_counted}
use Rattle.civl_states.proofs.Limits.{global_sorts_are}
use Rattle.civl_states.proofs.Spreading.{each_limited, spread_said}
use Rattle.civl_states.proofs.stores.store.Goals as goal

pub variables-requires-clause-within : goal.variables-requires-clause-within
variables-requires-clause-within c =
    let w = c.args.which in
    let p = c.args.program.now in
    omega (arith, stand_within c.args.sorts.now c.args.first (existing_sorts w p) c.requires.stand, c.existing_count-count.ensures, length-map (filter (passes w) p.globals) (λ g. g.sort))

pub spread-requires-clause-limits : goal.spread-requires-clause-limits
spread-requires-clause-limits c =
    subst (λ (gs : List Global). All (λ g. IsTrue (is_sort g.sort)) gs) (sym c.as_slice.ensures) (each_limited c.args.program.now.globals (global_sorts_are c.args.program.now c.requires.rules))

pub spread-requires-clause-given : goal.spread-requires-clause-given
spread-requires-clause-given c =
    let w = c.args.which in
    let p = c.args.program.now in
    let m = c.variables.new.terms in
    let group = stand_counted c.args.sorts.now c.args.first (existing_sorts w p) _ (length-map (filter (passes w) p.globals) (λ g. g.sort) ∙ sym c.existing_count-count.ensures) c.requires.stand in
    subst (λ (gs : List Global). AreOf m c.as_slice-2.result.now (map (λ g. g.sort) (filter (passes w) gs))) (sym c.as_slice.ensures)
    (subst (λ (xs : List ℕ). AreOf m xs (existing_sorts w p)) (sym c.as_slice-2.ensures) (subst (AreOf m c.in_ok-given.given) group c.in_ok-given.ensures.said.sorted))

pub returns-in_err-ids-clause-lengthens : goal.returns-in_err-ids-clause-lengthens
returns-in_err-ids-clause-lengthens c = lengthens_trans _ _ _ c.in_ok-given.ensures.lengthens (lengthened _ _ c.in_err-ids.ensures.grows)

pub returns-clause-store : goal.returns-clause-store
returns-clause-store c =
    let w = c.args.which in
    let p = c.args.program.now in
    let m = c.variables.new.terms in
    let n = c.spread.new.terms in
    let first = c.args.first in
    let s0 = subst (λ (gs : List Global). AreSaid n c.in_ok-ids.ids.items (map (λ g. g.sort) gs) (λ env. spread (passes w) gs (values_at env m c.as_slice-2.result.now))) c.as_slice.ensures c.in_ok-ids.ensures.spread in
    let s1 = subst (λ (xs : List ℕ). AreSaid n c.in_ok-ids.ids.items (map (λ g. g.sort) p.globals) (λ env. spread (passes w) p.globals (values_at env m xs))) c.as_slice-2.ensures s0 in
    let s2 = spread_said m n (passes w) p.globals c.in_ok-ids.ids.items c.in_ok-given.given (λ env. given env first (length (filter (passes w) p.globals))) c.in_ok-ids.ensures.grows s1
    (λ env fits. c.in_ok-given.ensures.said.are env fits ∙ ap (given env first) c.existing_count-count.ensures) in
    subst (λ (xs : List ℕ). AreSaid n xs (map (λ g. g.sort) p.globals) (λ env. spread (passes w) p.globals (given env first (length (filter (passes w) p.globals))))) (sym c.from_vec.ensures) s2

pub returns-clause-lengthens : goal.returns-clause-lengthens
returns-clause-lengthens c = lengthens_trans _ _ _ c.in_ok-given.ensures.lengthens (lengthened _ _ c.in_ok-ids.ensures.grows)

pub returns-clause-weighs : goal.returns-clause-weighs
returns-clause-weighs c =
    let w = c.args.which in
    let p = c.args.program.now in
    let group = stand_counted c.args.sorts.now c.args.first (existing_sorts w p) _ (length-map (filter (passes w) p.globals) (λ g. g.sort) ∙ sym c.existing_count-count.ensures) c.requires.stand in
    omega (arith, c.in_ok-given.ensures.weighs, c.in_ok-ids.ensures.weighs, ap bits_of_sorts group)

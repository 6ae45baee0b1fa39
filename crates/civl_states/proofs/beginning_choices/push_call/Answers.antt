use Rattle.std.specs.Prelude.{map}
use Rattle.std.proofs.Common.{◌<◌, ℕ, length, subst, arith}
use Rattle.std.proofs.lemmas.List.{length-map}
use Rattle.civl_tree.specs.declared.action.Choice.{Choice}
use Rattle.civl_states.specs.formula_parts.Given.{given}
use Rattle.civl_states.specs.formula_parts.Lists.{AreSaid}
use Rattle.civl_states.proofs.Given.{stand_within, given_group, group_bits}
use Rattle.civl_states.proofs.Calling.{choose_one}
use Rattle.civl_states.proofs.beginning_choices.push_call.Goals as goal

pub variables-requires-clause-within : goal.variables-requires-clause-within
variables-requires-clause-within c = omega (arith, stand_within c.args.sorts.now c.args.first (map (λ x. x.sort) c.args.choices.now) c.requires.stand, length-map c.args.choices.now (λ x. x.sort))

pub returns-clause-chosen : goal.returns-clause-chosen
returns-clause-chosen c =
    let choices = c.args.choices.now in
    let sorts = map (λ (x : Choice). x.sort) choices in
    let new = c.variables.new.terms in
    let some : 0 < length choices = omega (arith, c.if-choices-eq0.false) in
    let made = c.in_ok-choices.ensures in
    let said = given_group new c.in_ok-choices.choices c.args.sorts.now c.args.first sorts (length choices) (length-map choices (λ x. x.sort)) c.requires.stand made.said in
    let here = subst (λ (n : ℕ). AreSaid new c.in_ok-choices.choices sorts (λ env. given env c.args.first n)) (length-map choices (λ x. x.sort)) said in
    choose_one c.args.terms.now new c.args.calls.now.items c.push.new.self.items (record { statement = c.args.statement; choices = c.in_ok-choices.choices }) c.args.first choices some made.lengthens here c.in_ok-push.ensures.items

pub returns-clause-weighs : goal.returns-clause-weighs
returns-clause-weighs c =
    let choices = c.args.choices.now in
    omega (arith, c.in_ok-choices.ensures.weighs, group_bits c.args.sorts.now c.args.first (map (λ x. x.sort) choices) (length choices) (length-map choices (λ x. x.sort)) c.requires.stand)

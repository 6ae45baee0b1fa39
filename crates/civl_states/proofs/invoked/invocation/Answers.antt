use Rattle.std.specs.Prelude.{◌+◌, ℕ, length}
use Rattle.std.proofs.Common.{◌∙◌, ap, ap₂, arith}
use Rattle.civl_terms.proofs.Growing.{lengthens_trans}
use Rattle.civl_states.specs.formula_parts.Given.{bits_of_sorts, sorts_from}
use Rattle.civl_states.proofs.formula_parts.Giving.{bits-append}
use Rattle.civl_meaning.specs.Config.{choice_sorts}
use Rattle.civl_states.specs.Runs.{param_sorts}
use Rattle.civl_states.proofs.Limits.{action_few}
use Rattle.civl_states.proofs.Picking.{same_some}
use Rattle.civl_states.proofs.Invoking.{inputs_within, choices_within, inputs_are, choices_are, made_invoked, made_ready}
use Rattle.civl_states.proofs.invoked.invocation.Goals as goal

pub overflow_cast-params : goal.overflow_cast-params
overflow_cast-params c = omega (arith, c.len-params.ensures, action_few c.args.program.now c.requires.rules c.args.action c.get-found.result.now c.get-found.ensures)

pub overflow_cast-choices : goal.overflow_cast-choices
overflow_cast-choices c = omega (arith, c.len-choices.ensures, action_few c.args.program.now c.requires.rules c.args.action c.get-found.result.now c.get-found.ensures)

pub variables-requires-clause-within : goal.variables-requires-clause-within
variables-requires-clause-within c =
    let a = c.get-found.result.now in
    omega (arith, c.len-params.ensures, inputs_within c.args.sorts.now c.args.first a (c.requires.stand a c.get-found.ensures))

pub variables-requires-clause-small : goal.variables-requires-clause-small
variables-requires-clause-small c =
    let a = c.get-found.result.now in
    omega (arith, c.len-params.ensures, c.requires.small, inputs_within c.args.sorts.now c.args.first a (c.requires.stand a c.get-found.ensures))

pub overflow_add-first : goal.overflow_add-first
overflow_add-first c =
    let a = c.get-found.result.now in
    omega (arith, c.len-params.ensures, c.requires.small, inputs_within c.args.sorts.now c.args.first a (c.requires.stand a c.get-found.ensures))

pub variables-requires-2-clause-within : goal.variables-requires-2-clause-within
variables-requires-2-clause-within c =
    let a = c.get-found.result.now in
    omega (arith, c.len-params.ensures, c.len-choices.ensures, choices_within c.args.sorts.now c.args.first a (c.requires.stand a c.get-found.ensures))

pub variables-requires-2-clause-small : goal.variables-requires-2-clause-small
variables-requires-2-clause-small c =
    let a = c.get-found.result.now in
    omega (arith, c.len-params.ensures, c.len-choices.ensures, c.requires.small, choices_within c.args.sorts.now c.args.first a (c.requires.stand a c.get-found.ensures))

pub returns-in_err-choices-clause-lengthens : goal.returns-in_err-choices-clause-lengthens
returns-in_err-choices-clause-lengthens c = lengthens_trans _ _ _ c.in_ok-inputs.ensures.lengthens c.in_err-choices.ensures.lengthens

pub returns-clause-lengthens : goal.returns-clause-lengthens
returns-clause-lengthens c = lengthens_trans _ _ _ c.in_ok-inputs.ensures.lengthens c.in_ok-choices.ensures.lengthens

pub returns-clause-invoked : goal.returns-clause-invoked
returns-clause-invoked c = λ a at.
    made_invoked c.args.sorts.now c.args.first a (c.requires.stand a at) c.variables.new.terms c.variables-2.new.terms c.args.program.now _ c.len-params.result c.len-choices.result
    (c.len-params.ensures ∙ ap (λ b. length b.params) (same_some _ _ a c.get-found.ensures at)) (c.len-choices.ensures ∙ ap (λ b. length b.choices) (same_some _ _ a c.get-found.ensures at))
    c.in_ok-choices.ensures.lengthens at c.in_ok-inputs.ensures.said c.in_ok-choices.ensures.said

pub returns-clause-ready : goal.returns-clause-ready
returns-clause-ready c =
    let a = c.get-found.result.now in
    let at = c.get-found.ensures in
    made_ready c.variables-2.new.terms c.args.program.now _ a _ _
    (made_invoked c.args.sorts.now c.args.first a (c.requires.stand a at) c.variables.new.terms c.variables-2.new.terms c.args.program.now _ c.len-params.result c.len-choices.result
    c.len-params.ensures c.len-choices.ensures
    c.in_ok-choices.ensures.lengthens at c.in_ok-inputs.ensures.said c.in_ok-choices.ensures.said)

pub returns-clause-weighs : goal.returns-clause-weighs
returns-clause-weighs c = λ a at.
    let s = c.args.sorts.now in
    let f = c.args.first in
    let n = c.len-params.ensures ∙ ap (λ b. length b.params) (same_some _ _ a c.get-found.ensures at) in
    let m = c.len-choices.ensures ∙ ap (λ b. length b.choices) (same_some _ _ a c.get-found.ensures at) in
    omega (
      arith,
      c.in_ok-inputs.ensures.weighs,
      c.in_ok-choices.ensures.weighs,
      ap bits_of_sorts (ap (sorts_from s f) n ∙ inputs_are s f a (c.requires.stand a at)),
      ap bits_of_sorts (ap₂ (λ (i j : ℕ). sorts_from s (f + i) j) n m ∙ choices_are s f a (c.requires.stand a at)),
      bits-append (param_sorts a) (choice_sorts a),
    )

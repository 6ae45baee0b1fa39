-- An action whose parameters and choices are variables.
use Rattle.std.specs.Prelude.{slice_get}
use Rattle.std.proofs.Common.{◌≡◌, ℕ, ◌+◌, ◌≤◌, List, length, subst, arith, Some}
use Rattle.std.proofs.lemmas.List.{length-map}
use Rattle.civl_tree.specs.declared.expr.Sort.{Sort}
use Rattle.civl_tree.specs.declared.action.Action.{Action}
use Rattle.civl_tree.specs.declared.program.Program.{Program}
use Rattle.civl_terms.specs.declared.node.Node.{Node}
use Rattle.civl_terms.specs.Building.{Lengthens}
use Rattle.civl_states.specs.formula_parts.Lists.{AreSaid}
use Rattle.civl_states.specs.formula_parts.Given.{given, sorts_from}
use Rattle.civl_states.proofs.formula_parts.Listing.{said_after}
use Rattle.civl_states.specs.declared.invoked.Invoked.{Invoked}
use Rattle.civl_meaning.specs.Config.{choice_sorts}
use Rattle.civl_states.specs.Runs.{param_sorts, instance_sorts, IsReady, IsInvoked}
use Rattle.civl_states.specs.Groups.{StandFrom}
use Rattle.civl_states.proofs.Given.{stand_within, stand_counted, stand_front, stand_past}

module _ (sorts : List Sort) (first : ℕ) (a : Action) (s : StandFrom sorts first (instance_sorts a)) where
  params_long : length (param_sorts a) ≡ length a.params
  params_long = length-map a.params (λ p. p.sort)

  choices_long : length (choice_sorts a) ≡ length a.choices
  choices_long = length-map a.choices (λ c. c.sort)

  inputs_stand : StandFrom sorts first (param_sorts a)
  inputs_stand = stand_front sorts first (param_sorts a) (choice_sorts a) s

  choices_stand : StandFrom sorts (first + length a.params) (choice_sorts a)
  choices_stand = stand_past sorts first (param_sorts a) (choice_sorts a) (length a.params) params_long s

  pub inputs_within : first + length a.params ≤ length sorts
  inputs_within = omega (arith, stand_within sorts first (param_sorts a) inputs_stand, params_long)

  pub choices_within : first + length a.params + length a.choices ≤ length sorts
  choices_within = omega (arith, stand_within sorts (first + length a.params) (choice_sorts a) choices_stand, choices_long)

  pub inputs_are : sorts_from sorts first (length a.params) ≡ param_sorts a
  inputs_are = stand_counted sorts first (param_sorts a) (length a.params) params_long inputs_stand

  pub choices_are : sorts_from sorts (first + length a.params) (length a.choices) ≡ choice_sorts a
  choices_are = stand_counted sorts (first + length a.params) (choice_sorts a) (length a.choices) choices_long choices_stand

  -- variables for both, one group behind the other
  pub made_invoked : (mid new : List Node) (program : Program) (x : Invoked) (n m : ℕ) → n ≡ length a.params → m ≡ length a.choices → Lengthens mid new → slice_get program.actions x.action ≡ Some a
      → AreSaid mid x.inputs (sorts_from sorts first n) (λ env. given env first n) → AreSaid new x.choices (sorts_from sorts (first + n) m) (λ env. given env (first + n) m)
      → IsInvoked new program x a (λ env. given env first (length a.params)) (λ env. given env (first + length a.params) (length a.choices))
  made_invoked mid new program x n m e f w at p q = record {
    is = at;
    inputs = subst (λ (ss : List Sort). AreSaid new x.inputs ss (λ env. given env first (length a.params))) inputs_are
        (subst (λ (k : ℕ). AreSaid new x.inputs (sorts_from sorts first k) (λ env. given env first k)) e (said_after mid new x.inputs _ _ w p));
    choices = subst (λ (ss : List Sort). AreSaid new x.choices ss (λ env. given env (first + length a.params) (length a.choices))) choices_are
        (subst (λ (k : ℕ). AreSaid new x.choices (sorts_from sorts (first + length a.params) k) (λ env. given env (first + length a.params) k)) f
        (subst (λ (k : ℕ). AreSaid new x.choices (sorts_from sorts (first + k) m) (λ env. given env (first + k) m)) e q));
  }

pub made_ready : (ns : List Node) (program : Program) (x : Invoked) (a : Action) (i c : _) → IsInvoked ns program x a i c → IsReady ns program x
made_ready ns program x a i c h = record { action = a; is = h.is; inputs = h.inputs.sorted; choices = h.choices.sorted }

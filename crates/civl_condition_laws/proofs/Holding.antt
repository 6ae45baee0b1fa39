-- The conditions on paths that hold say of all states what they say of the values of their variables.
use Rattle.std.proofs.Common.{◌≡◌, ℕ, false, List, [], ◌++◌, append-nil, sym, ap, ◌∙◌, subst}
use Rattle.std.specs.Prelude.{slice_get}
use Rattle.std.specs.List.{Contains}
use Rattle.std.specs.Option.{option_map_or}
use Rattle.civl_bits.specs.declared.value.Value.{Value}
use Rattle.civl_tree.specs.declared.program.Proc.{Proc}
use Rattle.civl_tree.specs.declared.program.Program.{Program}
use Rattle.civl_layers.specs.declared.cut.Cut.{Cut}
use Rattle.civl_layers.specs.Cuts.{proc_cuts}
use Rattle.civl_layers.specs.Layered.{IsLayered}
use Rattle.civl_conditions.specs.declared.condition.Condition.TheVariants.{Path, Block}
use Rattle.civl_conditions.specs.declared.condition.Part.{Part}
use Rattle.civl_conditions.specs.declared.condition.Target.{Target}
use Rattle.civl_conditions.specs.Steps.{of_cut}
use Rattle.civl_conditions.specs.Listed.{targets}
use Rattle.civl_conditions.specs.Variables.{variables, path_variables, other_variables}
use Rattle.civl_conditions.specs.Values.{Begun, layout, begun}
use Rattle.civl_conditions.specs.Parts.{path_fails}
use Rattle.civl_conditions.specs.Targets.{block_fails}
use Rattle.civl_conditions.specs.Violated.{violated, Holds}
use Rattle.civl_condition_laws.specs.States.{IsBegun, AreOthersOf, IsCutOf, PathsOfStates}
use Rattle.civl_condition_laws.proofs.Gathering.{Fit, fit_more}
use Rattle.civl_condition_laws.proofs.Losing.{target_is}
use Rattle.civl_condition_laws.proofs.Lasting.{act_of_states}
use Rattle.civl_condition_laws.proofs.Failing.{path_same, block_same, block_there}
use Rattle.civl_condition_laws.proofs.Beginning.{begun_values, begun_fit, at_behind, begun_alike}

module _ (program : Program) (layered : IsLayered program) (step q c : ℕ) (proc : Proc) (cut : Cut) (is : IsCutOf program step q c proc cut) where
  -- what the cut has
  of_its : {A : Type 0} (none : A) (f : Proc → Cut → A) → of_cut program q c none f ≡ f proc cut
  of_its none f = ap (λ o. option_map_or (λ p. option_map_or (f p) (slice_get (proc_cuts p) c) none) o none) is.of_proc.there ∙ ap (λ o. option_map_or (f proc) o none) is.there

  module _ (b : Begun) (fit : IsBegun program step proc cut b) where
    abbrev with_others : List Value → List Value
    with_others others = begun_values program layered step proc cut b fit ++ others

    its_fit : Fit (begun_values program layered step proc cut b fit) (of_cut program q c [] (path_variables program step))
    its_fit = subst (Fit (begun_values program layered step proc cut b fit)) (sym (of_its [] (path_variables program step))) (begun_fit program layered step proc cut b fit)

    path_says : (part : Part) → Holds program (Path part step q c) → path_fails program step part proc c cut (begun program step proc cut (with_others [])) ≡ false
    unfolding violated variables
    path_says part holds =
        sym (of_its false (λ p k. path_fails program step part p c k (begun program step p k (with_others []))))
        ∙ holds (with_others []) (subst (λ (vs : List Value). Fit vs (of_cut program q c [] (path_variables program step))) (sym (append-nil (begun_values program layered step proc cut b fit))) its_fit)

    path_of_states : (part : Part) → Holds program (Path part step q c) → path_fails program step part proc c cut b ≡ false
    path_of_states part holds =
        path_same program layered step q c proc cut is part b (begun program step proc cut (with_others [])) (begun_alike program layered step proc cut b fit []) ∙ path_says part holds

    block_says : (t : Target) (others : List Value) → AreOthersOf program t others → Holds program (Block step q c t) →
        block_fails program step proc c cut (begun program step proc cut (with_others others)) t (with_others others) (layout program step proc cut).behind ≡ false
    unfolding violated variables
    block_says t others of holds =
        sym (of_its false (λ p k. block_fails program step p c k (begun program step p k (with_others others)) t (with_others others) (layout program step p k).behind))
        ∙ holds (with_others others) (fit_more (begun_values program layered step proc cut b fit) others (of_cut program q c [] (path_variables program step)) (other_variables program t) its_fit of)

    block_of_states : (t : Target) (others : List Value) → Contains (targets program step) t → AreOthersOf program t others → Holds program (Block step q c t) → block_fails program step proc c cut b t others 0 ≡ false
    block_of_states t others among of holds =
        sym (block_there program layered step q c proc cut is t (with_others others) others (layout program step proc cut).behind (at_behind program layered step proc cut b fit others) b)
        ∙ (block_same program layered step q c proc cut is t (target_is program step t among) (with_others others) (layout program step proc cut).behind b (begun program step proc cut (with_others others))
        (begun_alike program layered step proc cut b fit others)
        ∙ block_says t others of holds)

pub paths_of_states : PathsOfStates
paths_of_states program layered = record {
  paths = λ part step q c proc cut b holds is fit. path_of_states program layered step q c proc cut is b fit part holds;
  blocks = λ step q c proc cut b t others holds is fit among of. block_of_states program layered step q c proc cut is b fit t others among of holds;
  acts = λ step x g a t others holds fit is through among of. act_of_states program layered step x a is through g fit t others of among holds;
}

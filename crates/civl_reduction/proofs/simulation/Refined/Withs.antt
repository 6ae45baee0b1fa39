-- The expressions behind `with` have values of the sorts of the refined action's choices.
use Rattle.std.proofs.Common.{◌≡◌, ℕ, Bool, false, List, length, map, sym, ap, ◌∙◌, subst, Option, Some}
use Rattle.std.proofs.lemmas.Bool.{or_parts, not-false, eqb-true}
use Rattle.std.proofs.lemmas.List.{length-map}
use Rattle.civl_bits.specs.declared.value.Value.{Value}
use Rattle.civl_firing.specs.values.Values.{HaveSorts}
use Rattle.civl_tree.specs.declared.action.Action.{Action}
use Rattle.civl_tree.specs.declared.program.Proc.{Proc}
use Rattle.civl_tree.specs.declared.program.Refines.{Refines}
use Rattle.civl_tree.specs.declared.program.Program.{Program}
use Rattle.civl_tree.specs.rules.Names.{action_named}
use Rattle.civl_tree.specs.rules.Scopes.{note_scope}
use Rattle.civl_tree.specs.rules.Uses.{Use, argument_uses, chosen_sorts, with_uses}
use Rattle.civl_tree.specs.rules.Arity.{with_arity, refines_arity}
use Rattle.civl_tree.specs.rules.Sorted.{any_missorted}
use Rattle.civl_tree.specs.rules.Width.{any_width}
use Rattle.civl_tree.specs.rules.Index.{any_index}
use Rattle.civl_tree.specs.rules.Typing.{typing_rules, width_rule, sort_rule, index_rule, arity_rule}
use Rattle.civl_tree.proofs.Kept.{proc_kept, width_among, sort_among, index_among, arity_among}
use Rattle.civl_firing.specs.declared.store.Store.{Store}
use Rattle.civl_firing.specs.Eval.{values_of}
use Rattle.civl_firing.specs.Stores.{IsStore}
use Rattle.civl_firing.proofs.Having.{args_have_sorts}
use Rattle.civl_meaning.specs.Config.{frame_sorts}
use Rattle.civl_layers.specs.Layered.{IsLayered}
use Rattle.civl_conditions.specs.paths.NoteValues.{plain_note_values}
use Rattle.civl_conditions.specs.paths.Seen.{IsProcOf}
use Rattle.civl_conditions.specs.Assumed.{with_of}
use Rattle.civl_reduction.proofs.open_blocks.Open.Introducing.{note_sorted}

module _ (program : Program) (number step : ℕ) (proc : Proc) (layered : IsLayered program) (of : IsProcOf program number step proc) where
  uses_so : (f : Option Refines → Bool) → f proc.refines ≡ false → f (Some of.refines) ≡ false
  uses_so f e = ap f (sym of.refined) ∙ e

  sorted : any_missorted (with_uses program proc (Some of.refines)) ≡ false
  sorted = uses_so (λ o. any_missorted (with_uses program proc o)) (proc_kept typing_rules program layered.rules sort_rule sort_among number proc of.there)

  narrow : any_width (with_uses program proc (Some of.refines)) ≡ false
  narrow = uses_so (λ o. any_width (with_uses program proc o)) (or_parts _ _ (or_parts _ _ (proc_kept typing_rules program layered.rules width_rule width_among number proc of.there)).1).1

  low : any_index (with_uses program proc (Some of.refines)) ≡ false
  low = uses_so (λ o. any_index (with_uses program proc o)) (or_parts _ _ (or_parts _ _ (proc_kept typing_rules program layered.rules index_rule index_among number proc of.there)).1).1

  counted : (action : Action) → action_named program of.refines.action ≡ Some action → length of.refines.with ≡ length (map (λ c. c.sort) action.choices)
  counted action named =
      let differs : with_arity of.refines.with (action_named program of.refines.action) ≡ false = uses_so (λ o. refines_arity program o) (proc_kept typing_rules program layered.rules arity_rule arity_among number proc of.there) in
      eqb-true (length of.refines.with) (length action.choices) (not-false _ (subst (λ (o : Option Action). with_arity of.refines.with o ≡ false) named differs))
      ∙ sym (length-map action.choices (λ c. c.sort))

  pub withs_sorted : (action : Action) → action_named program of.refines.action ≡ Some action → (store : Store) (locals : List Value) → IsStore program.globals store → HaveSorts locals (frame_sorts proc)
      → HaveSorts (values_of (plain_note_values program.globals proc store locals) (with_of proc.refines)) (map (λ c. c.sort) action.choices)
  withs_sorted action named store locals hs h =
      subst (λ (o : Option Refines). HaveSorts (values_of (plain_note_values program.globals proc store locals) (with_of o)) (map (λ c. c.sort) action.choices)) (sym of.refined)
      (args_have_sorts (plain_note_values program.globals proc store locals) (note_scope program proc) (note_sorted program step number proc layered of.there store locals hs h) of.refines.with (map (λ c. c.sort) action.choices)
      (uses_at (λ us. any_missorted us) action named sorted) (uses_at (λ us. any_width us) action named narrow) (uses_at (λ us. any_index us) action named low) (counted action named))
    where
      uses_at : (f : List Use → Bool) (action : Action) → action_named program of.refines.action ≡ Some action → f (with_uses program proc (Some of.refines)) ≡ false → f (argument_uses (note_scope program proc) of.refines.with (map (λ c. c.sort) action.choices)) ≡ false
      uses_at f action named e = ap (λ (o : Option Action). f (argument_uses (note_scope program proc) of.refines.with (chosen_sorts o))) (sym named) ∙ e

-- How many outputs an action leaves.
use Rattle.std.proofs.Common.{◌≡◌, ◌∙◌, Bool, true, false, List, [], ◌∷◌, length, refl, sym, ap}
use Rattle.std.specs.Prelude.{Option, None, Some, slice_set, if◌then◌else◌}
use Rattle.std.proofs.lemmas.List.{length-set, length-map}
use Rattle.std.proofs.lemmas.Option.{same_Some}
use Rattle.civl_bits.specs.declared.value.Value.{Value}
use Rattle.civl_tree.specs.declared.name.Name.{Name}
use Rattle.civl_tree.specs.declared.action.Update.{Update}
use Rattle.civl_tree.specs.declared.program.Program.{Program}
use Rattle.civl_firing.specs.declared.scope.Scope.{Scope}
use Rattle.civl_firing.specs.declared.store.Store.{Store}
use Rattle.civl_firing.specs.Eval.{value_of}
use Rattle.civl_firing.specs.Truth.{place_of}
use Rattle.civl_firing.specs.Fired.{guard_holds, updated, store_after, outs_after, fires}
use Rattle.civl_conditions.specs.Values.{Invoked}
use Rattle.civl_conditions.specs.Movers.{fires_of}

updated_length : (names : List Name) (values : List Value) (scope : Scope) (us : List Update) → length (updated names values scope us) ≡ length values
updated_length names values scope [] = refl
updated_length names values scope (u ∷ us) = updated_length names (slice_set values (place_of names u.target) (value_of scope u.expr)) scope us ∙ length-set values (place_of names u.target) (value_of scope u.expr)

pub outs_length : (program : Program) (g : Store) (x : Invoked) (a : Store × List Value) → fires_of program g x ≡ Some a → length a.1 ≡ length x.action.outs
unfolding fires
outs_length program g x a e = go (guard_holds program.globals g x.action x.inputs x.chosen) e
  where
    all : length (outs_after program.globals g x.action x.inputs x.chosen) ≡ length x.action.outs
    all = updated_length _ _ _ x.action.updates ∙ length-map x.action.outs _

    go : (b : Bool) → if◌then◌else◌ {A = Option (Store × List Value)} b (Some (store_after program.globals g x.action x.inputs x.chosen, outs_after program.globals g x.action x.inputs x.chosen)) None ≡ Some a → length a.1 ≡ length x.action.outs
    go true h = ap (λ (b : Store × List Value). length b.1) (sym (same_Some (store_after program.globals g x.action x.inputs x.chosen, outs_after program.globals g x.action x.inputs x.chosen) a h)) ∙ all
    go false h = absurd cc

-- what one action leaves behind two stores has as many outputs
pub same_length : (program : Program) (g h : Store) (x : Invoked) (a b : Store × List Value) → fires_of program g x ≡ Some a → fires_of program h x ≡ Some b → length a.1 ≡ length b.1
same_length program g h x a b e f = outs_length program g x a e ∙ sym (outs_length program h x b f)

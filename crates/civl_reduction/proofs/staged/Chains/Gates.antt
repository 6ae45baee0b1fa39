-- The gate of a refined action sees the globals of the procedure's layer alone.
use Rattle.std.proofs.Common.{◌≡◌, ℕ, true, false, ◌&&◌, map, refl, sym, ap, ◌∙◌, subst, Option, None, Some, arith, slice_get, inl, inr}
use Rattle.std.specs.Prelude.{nat_lt, nat_le}
use Rattle.std.specs.Option.{option_map_or}
use Rattle.std.proofs.lemmas.Bool.{ltb-true, not-false, or_cases}
use Rattle.std.proofs.lemmas.Option.{same_Some, none-some}
use Rattle.civl_tree.specs.declared.action.Action.{Action}
use Rattle.civl_tree.specs.declared.program.Refines.{Refines}
use Rattle.civl_tree.specs.rules.Names.{action_named}
use Rattle.civl_tree.proofs.Kept.{proc_kept}
use Rattle.civl_firing.specs.Fired.{gate_holds}
use Rattle.civl_firing.specs.Truth.{place_of}
use Rattle.civl_firing.proofs.Finding.{found_at}
use Rattle.civl_meaning.specs.Meaning.{refined, meaning_of_action}
use Rattle.civl_layers.specs.Ranges.{exists_in, exists_through}
use Rattle.civl_layers.specs.Names.{action_range}
use Rattle.civl_layers.specs.NotThere.{action_missing, refines_missing}
use Rattle.civl_layers.specs.LayerRules.{layer_rules, not_there_rule}
use Rattle.civl_conditions.specs.footprints.Agreement.{exists_at}
use Rattle.civl_conditions.proofs.footprints.Acting.{acts_alike}
use Rattle.civl_conditions.proofs.footprints.Existing.{uses_what_exists}
use Rattle.civl_conditions.specs.paths.Choices.{action_meant}
use Rattle.civl_conditions.specs.Assumed.{inputs_of}
use Rattle.civl_reduction.specs.staged.Chains.{GatesStay}
use Rattle.civl_reduction.proofs.mover_laws.Moving.{agree_in}

-- an action that exists through one layer exists in it
pub exists_there : (layer : ℕ) (action : Action) → action_missing layer layer (Some action) ≡ false → exists_in layer (action_range action) ≡ true
exists_there layer action e = elim (or_cases (nat_lt layer layer) (nat_le action.first layer && nat_le layer action.last) (not-false (exists_through layer layer (action_range action)) e)) [
  | inl q ↦ let l = ltb-true layer layer q in absurd (omega (arith, l))
  | inr q ↦ q
]

pub gates_stay : GatesStay
gates_stay program number step proc before after locals layered of hs ks same = by_refines proc.refines refl
  where
    missing : refines_missing program proc.refines ≡ false
    missing = proc_kept layer_rules program layered.layers not_there_rule (3, omega arith, refl) number proc of.there

    by_action : (r : Refines) → proc.refines ≡ Some r → r.layer ≡ step → (o : Option Action) → action_named program r.action ≡ o
        → option_map_or (λ a. gate_holds program.globals after a (inputs_of proc locals)) (action_meant (meaning_of_action o)) false ≡ option_map_or (λ a. gate_holds program.globals before a (inputs_of proc locals)) (action_meant (meaning_of_action o)) false
    by_action r is l None e = refl
    by_action r is l (Some a) e =
        let there : action_missing step step (Some a) ≡ false =
        subst (λ (k : ℕ). action_missing k k (Some a) ≡ false) l (subst (λ (o : Option Action). action_missing r.layer r.layer o ≡ false) e (subst (λ (o : Option Refines). refines_missing program o ≡ false) is missing)) in
        let at : slice_get program.actions (place_of (map (λ x. x.name) program.actions) r.action) ≡ Some a = found_at (λ (x : Action). x.name) program.actions r.action ∙ e in
        (acts_alike (exists_at step) program.globals after before a (inputs_of proc locals) (agree_in (exists_at step) program.globals after.values before.values ks hs same)
        (uses_what_exists program (place_of (map (λ x. x.name) program.actions) r.action) step a layered at (exists_there step a there))).gate

    by_refines : (o : Option Refines) → proc.refines ≡ o → option_map_or (λ a. gate_holds program.globals after a (inputs_of proc locals)) (action_meant (refined program proc.refines)) false ≡ option_map_or (λ a. gate_holds program.globals before a (inputs_of proc locals)) (action_meant (refined program proc.refines)) false
    by_refines None e = absurd (none-some of.refines (sym e ∙ of.refined))
    by_refines (Some r) e =
        subst (λ (o : Option Refines). option_map_or (λ a. gate_holds program.globals after a (inputs_of proc locals)) (action_meant (refined program o)) false ≡ option_map_or (λ a. gate_holds program.globals before a (inputs_of proc locals)) (action_meant (refined program o)) false) (sym e)
        (by_action r e (ap (λ (x : Refines). x.layer) (same_Some r of.refines (sym e ∙ of.refined)) ∙ of.layered) (action_named program r.action) refl)

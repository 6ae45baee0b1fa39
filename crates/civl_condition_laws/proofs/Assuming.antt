-- What is assumed at a cut sees the globals of the two programs of the step.
use Rattle.std.proofs.Common.{◌≡◌, ℕ, Bool, true, false, not, ◌||◌, List, ◌++◌, Option, Some, None, refl, sym, ap, ◌∙◌, subst, arith}
use Rattle.std.specs.Prelude.{slice_get, nat_le}
use Rattle.std.specs.List.{Contains}
use Rattle.std.specs.Option.{option_map_or}
use Rattle.std.proofs.lemmas.Bool.{and_from, not-false, le-leb}
use Rattle.std.proofs.lemmas.List.Folds.{find_at}
use Rattle.civl_bits.specs.declared.value.Value.{Value}
use Rattle.civl_tree.specs.declared.action.Action.{Action}
use Rattle.civl_tree.specs.declared.action.Choice.{Choice}
use Rattle.civl_tree.specs.declared.program.Refines.{Refines}
use Rattle.civl_tree.specs.declared.program.Proc.{Proc}
use Rattle.civl_tree.specs.declared.program.Program.{Program}
use Rattle.civl_tree.specs.rules.Names.{same_name, action_named}
use Rattle.civl_tree.proofs.Kept.{proc_kept}
use Rattle.civl_firing.specs.declared.store.Store.{Store}
use Rattle.civl_firing.specs.Fired.{gate_holds}
use Rattle.civl_meaning.specs.Meaning.{meaning_of_action, refined}
use Rattle.civl_meaning.specs.Permissions.{pairwise_disjoint}
use Rattle.civl_layers.specs.declared.cut.Cut.{Cut}
use Rattle.civl_layers.specs.Ranges.{exists_in, exists_through}
use Rattle.civl_layers.specs.Names.{action_range}
use Rattle.civl_layers.specs.NotThere.{action_missing, refines_missing}
use Rattle.civl_layers.specs.LayerRules.{layer_rules, not_there_rule}
use Rattle.civl_layers.specs.Layered.{IsLayered}
use Rattle.civl_conditions.specs.footprints.Agreement.{names_other, action_uses}
use Rattle.civl_conditions.specs.footprints.Laws.{ActsAlike}
use Rattle.civl_conditions.proofs.footprints.Acting.{acts_alike}
use Rattle.civl_conditions.proofs.footprints.Existing.{through_in}
use Rattle.civl_conditions.specs.paths.Seen.{IsProcOf, exists_near}
use Rattle.civl_conditions.specs.paths.Choices.{action_meant}
use Rattle.civl_conditions.specs.Variables.{passed_choices}
use Rattle.civl_conditions.specs.Values.{Begun}
use Rattle.civl_conditions.specs.Permissions.{held_at, of_held}
use Rattle.civl_conditions.specs.Assumed.{layer_invariant, cut_invariant, refined_action, inputs_of, owned, assumed}
use Rattle.civl_condition_laws.proofs.Carrying.{same_and, same_linear}
use Rattle.civl_condition_laws.proofs.Nearby.{above_near, Near, action_near, linear_near, invariants_same, note_holds_same, invariant_shown, said_shown, layer_within}

-- ---- two beginnings

-- with other stores and choices
abbrev pub moved : Begun → Store → Store → (ℕ → List Value) → Begun
moved b store old chosen = record { store = store; locals = b.locals; done = b.done; old = old; old_outs = b.old_outs; old_done = b.old_done; chosen = chosen }

-- they differ in globals of neither program, and in choices that no path reads
pub record BegunAlike (program : Program) (layered : IsLayered program) (step : ℕ) (proc : Proc) (cut : Cut) (b c : Begun) : Type 0 where
  pub store : Near program layered step b.store c.store
  pub locals : b.locals ≡ c.locals
  pub done : b.done ≡ c.done
  pub old : Near program layered step b.old c.old
  pub old_outs : b.old_outs ≡ c.old_outs
  pub old_done : b.old_done ≡ c.old_done
  pub chosen : (q : ℕ × List Choice) → Contains (passed_choices program step proc cut) q → b.chosen q.0 ≡ c.chosen q.0

pub moved_is : (program : Program) (layered : IsLayered program) (step : ℕ) (proc : Proc) (cut : Cut) (b c : Begun) → BegunAlike program layered step proc cut b c → b ≡ moved c b.store b.old b.chosen
moved_is program layered step proc cut b c alike =
    ap (λ (vs : List Value). record { store = b.store; locals = vs; done = b.done; old = b.old; old_outs = b.old_outs; old_done = b.old_done; chosen = b.chosen }) alike.locals
    ∙ (ap (λ (d : Bool). record { store = b.store; locals = c.locals; done = d; old = b.old; old_outs = b.old_outs; old_done = b.old_done; chosen = b.chosen }) alike.done
    ∙ (ap (λ (vs : List Value). record { store = b.store; locals = c.locals; done = c.done; old = b.old; old_outs = vs; old_done = b.old_done; chosen = b.chosen }) alike.old_outs
    ∙ ap (λ (d : Bool). record { store = b.store; locals = c.locals; done = c.done; old = b.old; old_outs = c.old_outs; old_done = d; chosen = b.chosen }) alike.old_done))

module _ (program : Program) (layered : IsLayered program) (step number : ℕ) (proc : Proc) (of : IsProcOf program number step proc) where
  -- ---- the refined action

  -- an action, where there is one, uses globals of the two programs alone
  abbrev pub ActionNear : Option Action → Type 0
  ActionNear None = Unit {0}
  ActionNear (Some a) = action_uses (names_other (exists_near step) program.globals) a ≡ false

  not_there_among : Contains layer_rules not_there_rule
  not_there_among = (3, omega arith, refl)

  -- a range that has all layers from one to itself has that one
  itself_in : (a : Action) → exists_through step step (action_range a) ≡ true → exists_in step (action_range a) ≡ true
  itself_in a h = through_in step (record { first = step; last = step }) (action_range a) (and_from (nat_le step step) (nat_le step step) (le-leb step step (omega arith)) (le-leb step step (omega arith))) h

  named_near : (o : Option Action) → (k : ℕ) → slice_get program.actions k ≡ o → action_missing step step o ≡ false → ActionNear (action_meant (meaning_of_action o))
  named_near None k e h = tt
  named_near (Some a) k e h = action_near program layered step step k a (above_near step) e (itself_in a (not-false (exists_through step step (action_range a)) h))

  pub refined_near : ActionNear (refined_action program proc)
  refined_near =
      subst (λ (o : Option Refines). ActionNear (action_meant (refined program o))) (sym of.refined)
      (named_near (action_named program of.refines.action) _ (sym (find_at (λ (a : Action). same_name of.refines.action a.name) program.actions))
      (sym (ap (λ (k : ℕ). action_missing k k (action_named program of.refines.action)) of.layered)
      ∙ sym (ap (λ (o : Option Refines). refines_missing program o) of.refined)
      ∙ proc_kept layer_rules program layered.layers not_there_rule not_there_among number proc of.there))

  pub refined_acts : (a : Action) → ActionNear (Some a) → (s t : Store) → Near program layered step s t → (inputs : List Value) → ActsAlike (exists_near step) program.globals s t a inputs
  refined_acts a h s t near inputs = acts_alike (exists_near step) program.globals s t a inputs near h

  gate_same : (s t : Store) → Near program layered step s t → (inputs : List Value) (o : Option Action) → ActionNear o →
      option_map_or (λ a. gate_holds program.globals s a inputs) o false ≡ option_map_or (λ a. gate_holds program.globals t a inputs) o false
  gate_same s t near inputs None h = refl
  gate_same s t near inputs (Some a) h = (refined_acts a h s t near inputs).gate

  -- ---- the whole

  pub owned_same : (c : ℕ) (b : Begun) (s t o u : Store) (f h : ℕ → List Value) → Near program layered step s t → owned program proc c (moved b s o f) ≡ owned program proc c (moved b t u h)
  owned_same c b s t o u f h near =
      ap (λ (ps : List (List ℕ)). ps ++ of_held (held_at program proc c) b.locals) (same_linear (exists_near step) program.globals s.values t.values (linear_near program layered step (layer_within program layered step number proc of).1) near)

  assumed_moved : (c : ℕ) (cut : Cut) (b : Begun) (s t o u : Store) (f h : ℕ → List Value) → Near program layered step s t → Near program layered step o u →
      assumed program step proc c cut (moved b s o f) ≡ assumed program step proc c cut (moved b t u h)
  assumed_moved c cut b s t o u f h near far =
      same_and _ _ _ _ (invariants_same program layered step o u far)
      (same_and _ _ _ _
      (note_holds_same program layered step proc s t b.locals b.done o u b.old_outs b.old_done (cut_invariant proc cut)
      (said_shown program layered step number proc of layer_invariant (invariant_shown program layered step) cut.statement cut.kind) near far)
      (same_and _ _ _ _ (ap (λ (g : Bool). b.old_done || g) (gate_same o u far (inputs_of proc b.locals) (refined_action program proc) refined_near))
      (same_and (not b.old_done || b.done) _ _ _ refl (ap pairwise_disjoint (owned_same c b s t o u f h near)))))

  pub assumed_same : (c : ℕ) (cut : Cut) (b d : Begun) → BegunAlike program layered step proc cut b d → assumed program step proc c cut b ≡ assumed program step proc c cut d
  assumed_same c cut b d alike =
      ap (assumed program step proc c cut) (moved_is program layered step proc cut b d alike) ∙ assumed_moved c cut d b.store d.store b.old d.old b.chosen d.chosen alike.store alike.old

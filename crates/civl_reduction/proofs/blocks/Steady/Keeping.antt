-- Conditions that hold: initial stores, actions and blocks.
use Rattle.std.proofs.Common.{ℕ, ◌≡◌, Bool, true, false, not, ◌&&◌, List, ◌++◌, Option, sym, ap, ◌∙◌, subst, Contains}
use Rattle.std.specs.Option.{option_map_or}
use Rattle.std.proofs.lemmas.List.{append_assoc}
use Rattle.std.proofs.lemmas.Bool.{not-false}
use Rattle.civl_bits.specs.declared.value.Value.{Value}
use Rattle.civl_tree.specs.declared.expr.Expr.{Expr}
use Rattle.civl_tree.proofs.Bools.{not_second}
use Rattle.civl_firing.specs.declared.store.Store.{Store}
use Rattle.civl_meaning.specs.Permissions.{pairwise_disjoint}
use Rattle.civl_meaning.specs.Initial.{initial_permissions}
use Rattle.civl_conditions.specs.paths.Paths.{progress_of}
use Rattle.civl_conditions.specs.paths.Ends.{ends_block}
use Rattle.civl_conditions.specs.declared.condition.Condition.TheVariants.{Start, Block, Act}
use Rattle.civl_conditions.specs.declared.condition.Target.{Target}
use Rattle.civl_conditions.specs.Steps.{step_invariants}
use Rattle.civl_conditions.specs.Listed.{targets}
use Rattle.civl_conditions.specs.Permissions.{in_store, of_inputs}
use Rattle.civl_conditions.specs.Invariants.{holds_of_globals, invariant_lost, invariants_hold, meets_init}
use Rattle.civl_conditions.specs.Movers.{on_some, gate_of}
use Rattle.civl_conditions.specs.Assumed.{owned, assumed}
use Rattle.civl_conditions.specs.Parts.{outcome_of}
use Rattle.civl_conditions.specs.Targets.{target_owned, target_lost}
use Rattle.civl_condition_laws.specs.States.{AreOthersOf}
use Rattle.civl_condition_laws.proofs.Meeting.{actions_of_states}
use Rattle.civl_condition_laws.proofs.Holding.{paths_of_states}
use Rattle.civl_reduction.specs.blocks.Steady.{InvariantsBegin, ActionsAreSteady, BlocksAreSteady}
use Rattle.civl_reduction.proofs.blocks.Steady.Listing.{start_listed, block_listed, act_listed}
use Rattle.civl_reduction.proofs.blocks.Steady.Losing.{all_of, is_steady}

pub invariants_begin : InvariantsBegin
invariants_begin program step store h initial = all_of (holds_of_globals program store) (step_invariants program step) (λ i e at.
    let says = (actions_of_states program h.layered).starts step i store (h.hold (Start step i) (start_listed program step h.low h.high i e at)) initial.store_fits in
    let is : meets_init program store ≡ true = ap (λ (b : Bool). b && pairwise_disjoint (initial_permissions program store)) initial.init_holds ∙ initial.disjoint in
    not-false (holds_of_globals program store e)
    (sym (ap (λ (o : Option Expr). option_map_or (λ x. not (holds_of_globals program store x)) o false) at) ∙ not_second (meets_init program store) (invariant_lost program step i store) is says))

pub actions_are_steady : ActionsAreSteady
actions_are_steady program step number store x after h fit is through holds gate fires = is_steady program step (in_store program store ++ of_inputs x) store after.0 keeps
  where
    keeps : (t : Target) (others : List Value) → Contains (targets program step) t → AreOthersOf program t others → pairwise_disjoint ((in_store program store ++ of_inputs x) ++ target_owned program t others 0) ≡ true → target_lost program step t others 0 store after.0 ≡ false
    keeps t others among of apart =
        let says = (paths_of_states program h.layered).acts step number store x t others (h.hold (Act step number t) (act_listed program step h.low h.high number x.action t is.action through among)) fit is through among of in
        let whole : pairwise_disjoint (in_store program store ++ (of_inputs x ++ target_owned program t others 0)) ≡ true =
        subst (λ (ps : List (List ℕ)). pairwise_disjoint ps ≡ true) (append_assoc (in_store program store) (of_inputs x) (target_owned program t others 0)) apart in
        sym (ap (λ (o : Option (Store × List Value)). on_some o (λ a. target_lost program step t others 0 store a.0)) fires)
        ∙ not_second _ _ whole (not_second (gate_of program store x) _ gate (not_second (invariants_hold program step store) _ holds says))

pub blocks_are_steady : BlocksAreSteady
blocks_are_steady program step q c proc cut b end h is begun assumes there ends = is_steady program step (owned program proc c b) b.old (progress_of (outcome_of program step proc cut b)).store keeps
  where
    keeps : (t : Target) (others : List Value) → Contains (targets program step) t → AreOthersOf program t others → pairwise_disjoint (owned program proc c b ++ target_owned program t others 0) ≡ true
        → target_lost program step t others 0 b.old (progress_of (outcome_of program step proc cut b)).store ≡ false
    keeps t others among of apart =
        let says = (paths_of_states program h.layered).blocks step q c proc cut b t others (h.hold (Block step q c t) (block_listed program step h.low h.high q c proc cut t is among)) is begun among of in
        let lost = not_second _ _ apart (not_second (assumed program step proc c cut b) _ assumes says) in
        not_second (ends_block proc end) _ ends
        (sym (ap (λ (o : Option ℕ). on_some o (λ n. ends_block proc n && target_lost program step t others 0 b.old (progress_of (outcome_of program step proc cut b)).store)) there) ∙ lost)

-- Blocks that are refined, one behind the other.
use Rattle.std.proofs.Common.{◌≡◌, ℕ, Bool, true, false, List, map, refl, sym, ap, ◌∙◌, subst, arith, Option, None, Some, slice_get, Contains}
use Rattle.std.proofs.lemmas.Bool.{false≢true}
use Rattle.std.proofs.lemmas.Option.{none-some, same_Some}
use Rattle.civl_bits.specs.declared.value.Value.{Value}
use Rattle.civl_tree.specs.declared.action.Action.{Action}
use Rattle.civl_tree.specs.declared.program.Proc.{Proc}
use Rattle.civl_tree.specs.declared.program.Refines.{Refines}
use Rattle.civl_tree.specs.declared.program.Program.{Program}
use Rattle.civl_tree.specs.rules.Names.{action_named}
use Rattle.civl_tree.proofs.Kept.{proc_kept}
use Rattle.civl_firing.specs.declared.store.Store.{Store}
use Rattle.civl_firing.specs.Fired.{fires}
use Rattle.civl_firing.specs.Stores.{IsStore}
use Rattle.civl_conditions.specs.footprints.Agreement.{StoresAgree, exists_at}
use Rattle.civl_conditions.specs.footprints.Laws.{FireAlike, ActsAlike}
use Rattle.civl_conditions.proofs.footprints.Acting.{acts_alike}
use Rattle.civl_conditions.proofs.footprints.Keeping.{agree_self, agree_then}
use Rattle.civl_conditions.proofs.footprints.Existing.{uses_what_exists}
use Rattle.civl_firing.specs.Truth.{place_of}
use Rattle.civl_firing.proofs.Finding.{found_at}
use Rattle.civl_meaning.specs.Meaning.{meaning_of_action, refined}
use Rattle.civl_layers.specs.Ranges.{exists_in}
use Rattle.civl_layers.specs.Names.{action_range}
use Rattle.civl_layers.specs.NotThere.{action_missing, refines_missing}
use Rattle.civl_layers.specs.LayerRules.{layer_rules, not_there_rule}
use Rattle.civl_layers.specs.Layered.{IsLayered}
use Rattle.civl_conditions.specs.paths.Choices.{action_meant}
use Rattle.civl_conditions.specs.paths.Seen.{IsProcOf}
use Rattle.civl_conditions.specs.Assumed.{refined_action}
use Rattle.civl_reduction.specs.simulation.Refined.{Sight, Acts, IsRefined}
use Rattle.civl_reduction.specs.simulation.Joined.{NothingIsRefined, RefinedJoin}
use Rattle.civl_reduction.proofs.staged.Chains.Gates.{exists_there}

-- the same, and that blocks join, however the choices are picked
abbrev pub NothingAnyhow : Type 1
NothingAnyhow = (picked : List Value → Type 0) (program : Program) (layer : ℕ) (proc : Proc) (inputs : List Value) (here : Sight) → IsStore program.globals here.store → IsRefined picked program layer proc inputs here here

abbrev pub JoinAnyhow : Type 1
JoinAnyhow =
    (picked : List Value → Type 0) (program : Program) (number layer : ℕ) (proc : Proc) (inputs : List Value) (first second third : Sight) → IsLayered program → IsProcOf program number layer proc
    → IsRefined picked program layer proc inputs first second → IsRefined picked program layer proc inputs second third → IsRefined picked program layer proc inputs first third

pub nothing_anyhow : NothingAnyhow
nothing_anyhow picked program layer proc inputs here fits = record {
  stays = λ e. e;
  same = λ e. agree_self (exists_at layer) program.globals here.store.values fits;
  outs = λ e. refl;
  acts = λ e f. absurd (false≢true (sym e ∙ f));
}

-- with choices that are picked so, and so in another way
pub refined_weaker : (one other : List Value → Type 0) → ((chosen : List Value) → one chosen → other chosen) → (program : Program) (layer : ℕ) (proc : Proc) (inputs : List Value) (before after : Sight)
    → IsRefined one program layer proc inputs before after → IsRefined other program layer proc inputs before after
refined_weaker one other so program layer proc inputs before after r = record {
  stays = r.stays;
  same = r.same;
  outs = r.outs;
  acts = λ e f. weaker (r.acts e f);
}
  where
    weaker : Acts one program layer proc inputs before after → Acts other program layer proc inputs before after
    weaker a = record {
      action = a.action;
      refined = a.refined;
      gate = a.gate;
      chosen = a.chosen;
      picks = so a.chosen a.picks;
      values = a.values;
      fit = a.fit;
      to = a.to;
      fires = a.fires;
      globals = a.globals;
    }

-- ---- the refined action

-- it is one of the program, which exists in the layer
pub record InLayer (program : Program) (layer : ℕ) (action : Action) : Type 0 where
  pub number : ℕ
  pub at : slice_get program.actions number ≡ Some action
  pub exists : exists_in layer (action_range action) ≡ true

pub in_layer : (program : Program) (number layer : ℕ) (proc : Proc) (action : Action) → IsLayered program → IsProcOf program number layer proc → refined_action program proc ≡ Some action → InLayer program layer action
in_layer program number layer proc action layered of e =
    let r = of.refines in
    let named = by_name (action_named program r.action) refl (sym (ap (λ (o : Option Refines). action_meant (refined program o)) of.refined) ∙ e) in
    let missing : refines_missing program proc.refines ≡ false = proc_kept layer_rules program layered.layers not_there_rule (3, omega arith, refl) number proc of.there in
    let there : action_missing r.layer r.layer (Some action) ≡ false = subst (λ (o : Option Action). action_missing r.layer r.layer o ≡ false) named (subst (λ (o : Option Refines). refines_missing program o ≡ false) of.refined missing) in
    record {
      number = place_of (map (λ x. x.name) program.actions) r.action;
      at = found_at (λ (x : Action). x.name) program.actions r.action ∙ named;
      exists = exists_there layer action (subst (λ (k : ℕ). action_missing k k (Some action) ≡ false) of.layered there);
    }
  where
    by_name : (o : Option Action) → action_named program of.refines.action ≡ o → action_meant (meaning_of_action o) ≡ Some action → action_named program of.refines.action ≡ Some action
    by_name None q h = absurd (none-some action h)
    by_name (Some a) q h = q ∙ ap (λ (x : Action). Some x) (same_Some a action h)

module _ (picked : List Value → Type 0) (program : Program) (number layer : ℕ) (proc : Proc) (inputs : List Value) (layered : IsLayered program) (of : IsProcOf program number layer proc) where
  abbrev Agree : Sight → Sight → Type 0
  Agree a b = StoresAgree (exists_at layer) program.globals a.store b.store

  -- from a sight that agrees with the first one
  acts_before : (first second third : Sight) → Agree first second → Acts picked program layer proc inputs second third → Acts picked program layer proc inputs first third
  acts_before first second third near a = go (fires program.globals first.store a.action inputs a.chosen) refl (subst (FireAlike (exists_at layer) program.globals (fires program.globals first.store a.action inputs a.chosen)) a.fires (alike.fired a.chosen))
    where
      alike : ActsAlike (exists_at layer) program.globals first.store second.store a.action inputs
      alike =
          let i = in_layer program number layer proc a.action layered of a.refined in
          acts_alike (exists_at layer) program.globals first.store second.store a.action inputs near (uses_what_exists program i.number layer a.action layered i.at i.exists)

      go : (o : Option (Store × List Value)) → fires program.globals first.store a.action inputs a.chosen ≡ o → FireAlike (exists_at layer) program.globals o (Some (a.to, third.outs)) → Acts picked program layer proc inputs first third
      go None e f = absurd f
      go (Some p) e f = record {
        action = a.action;
        refined = a.refined;
        gate = alike.gate ∙ a.gate;
        chosen = a.chosen;
        picks = a.picks;
        values = a.values;
        fit = a.fit;
        to = p.0;
        fires = e ∙ ap (λ (os : List Value). Some (p.0, os)) f.1;
        globals = agree_then (exists_at layer) program.globals p.0.values a.to.values third.store.values f.0 a.globals;
      }

  -- to a sight that agrees with the last one
  acts_behind : (first second third : Sight) → Agree second third → third.outs ≡ second.outs → Acts picked program layer proc inputs first second → Acts picked program layer proc inputs first third
  acts_behind first second third near outs a = record {
    action = a.action;
    refined = a.refined;
    gate = a.gate;
    chosen = a.chosen;
    picks = a.picks;
    values = a.values;
    fit = a.fit;
    to = a.to;
    fires = a.fires ∙ ap (λ (os : List Value). Some (a.to, os)) (sym outs);
    globals = agree_then (exists_at layer) program.globals a.to.values second.store.values third.store.values a.globals near;
  }

  pub joined : (first second third : Sight) → IsRefined picked program layer proc inputs first second → IsRefined picked program layer proc inputs second third → IsRefined picked program layer proc inputs first third
  joined first second third a b = record {
    stays = λ e. b.stays (a.stays e);
    same = λ e. same first.done second.done third.done refl refl refl e;
    outs = λ e. b.outs (a.stays e) ∙ a.outs e;
    acts = λ e f. acts second.done refl e f;
  }
    where
      two : second.done ≡ first.done → third.done ≡ second.done → Agree first third
      two e f = agree_then (exists_at layer) program.globals first.store.values second.store.values third.store.values (a.same e) (b.same f)

      same : (x y z : Bool) → first.done ≡ x → second.done ≡ y → third.done ≡ z → third.done ≡ first.done → Agree first third
      same true y z p q r e = two (a.stays p ∙ sym p) (b.stays (a.stays p) ∙ sym (a.stays p))
      same false false z p q r e = two (q ∙ sym p) (e ∙ (p ∙ sym q))
      same false true z p q r e = absurd (false≢true (sym p ∙ (sym e ∙ b.stays q)))

      acts : (y : Bool) → second.done ≡ y → first.done ≡ false → third.done ≡ true → Acts picked program layer proc inputs first third
      acts true q e f = acts_behind first second third (b.same (f ∙ sym q)) (b.outs q) (a.acts e q)
      acts false q e f = acts_before first second third (a.same (q ∙ sym e)) (b.acts q f)

pub joins_anyhow : JoinAnyhow
joins_anyhow picked program number layer proc inputs first second third layered of a b = joined picked program number layer proc inputs layered of first second third a b

pub nothing_refined : NothingIsRefined
nothing_refined offered program layer proc inputs here fits = nothing_anyhow (Contains offered) program layer proc inputs here fits

pub refined_join : RefinedJoin
refined_join offered program number layer proc inputs first second third layered of a b = joins_anyhow (Contains offered) program number layer proc inputs first second third layered of a b

-- From terms for the beginning of a path to what a sweep over all that is to run draws.
use Rattle.std.specs.Prelude.{not}
use Rattle.std.proofs.Common.{◌≡◌, ◌∙◌, ℕ, ◌-◌, Bool, true, false, List, [], refl, sym, ap, subst, Some}
use Rattle.std.proofs.lemmas.List.Elements.{All-nil}
use Rattle.civl_bits.specs.declared.value.Value.{Value}
use Rattle.civl_tree.specs.declared.expr.Sort.TheVariants.{Bool as Truth}
use Rattle.civl_tree.specs.declared.program.Proc.{Proc}
use Rattle.civl_tree.specs.declared.program.Program.{Program}
use Rattle.civl_layers.specs.declared.cut.Cut.{Cut}
use Rattle.civl_layers.specs.Layered.{IsLayered}
use Rattle.civl_firing.specs.declared.store.Store.{Store}
use Rattle.civl_terms.specs.declared.node.Node.{Node}
use Rattle.civl_terms.specs.Graphs.{value_at, sort_at, Fits, IsGraph}
use Rattle.civl_terms.specs.Building.{Grows}
use Rattle.civl_terms.proofs.Soundness.{zeros, zeros_fit, nodes_have_their_sorts}
use Rattle.civl_actions.specs.Actions.{values_at, store_at}
use Rattle.civl_actions.proofs.Building.{truth_value}
use Rattle.civl_actions.proofs.Staying.{are_stay, values_stay}
use Rattle.civl_conditions.specs.paths.Paths.{Course, Progress}
use Rattle.civl_conditions.specs.paths.Flows.{flow_from}
use Rattle.civl_states.specs.Notes.{IsProcIn}
use Rattle.civl_moves.specs.sweeps.Sweeps.{Swept, sweep_from, sweep_begins}
use Rattle.civl_moves.specs.sweeps.Draws.{Draws}
use Rattle.civl_moves.specs.sweeps.Flowing.{numbers_of}
use Rattle.civl_moves.proofs.sweeps.Sweeping.{sweeps_draw_paths}
use Rattle.civl_moves.proofs.sweeps.Stopping.{sweeps_stop_at_ends}
use Rattle.civl_conditions.specs.Parts.{outcome_of}
use Rattle.civl_conditions.specs.Values.{Begun}
use Rattle.civl_states.specs.formula_parts.Said.{Env, IsTest}
use Rattle.civl_states.proofs.formula_parts.Saying.{sort_stays, test_stays}
use Rattle.civl_moves.specs.declared.sweep.Sweep.{Sweep}
use Rattle.civl_moves.specs.States.{bool_at, IsBool, swept_at, CanStop, CanSweep}
use Rattle.civl_moves.proofs.States.{test_value, test_bool}
use Rattle.civl_states.specs.declared.beginning.Beginning.{Beginning}
use Rattle.civl_states.specs.Beginnings.{AreBegun, CanBegin}
use Rattle.civl_body.specs.Passing.{course_in, SaysChoices, ReadyFrom, Passes}
use Rattle.civl_body.specs.inner.Ways.{sweep_of}
use Rattle.civl_body.proofs.Passing.{has_stay, says_stay, own_choices}
use Rattle.civl_body.proofs.Listing.{numbers}
use Rattle.civl_body.proofs.Drawn.{numbers_same}

-- a sweep that begins in this state, with this for true
abbrev begun_with : Bool → Store → List Value → Bool → Swept
begun_with b g v done = record { onward = true; live = b; store = g; locals = v; done = done; broken = not b; again = not b; stops = [] }

-- a path that begins in this state
abbrev pub progress_with : Store → List Value → Bool → Progress
progress_with g v done = record { store = g; locals = v; done = done; again = false }

-- what terms for a beginning say
abbrev pub progress_at : Env → List Node → Beginning → Progress
progress_at env ns t = progress_with (store_at env ns t.globals) (values_at env ns t.locals) (bool_at env ns t.done)

begins_swept : (ns : List Node) (sure : ℕ) (t : Beginning) → IsTest ns sure (λ env. true) → (env : Env) → Fits env ns → swept_at env ns (sweep_of sure t) ≡ sweep_begins (progress_at env ns t)
begins_swept ns sure t h env fits = ap (λ (b : Bool). begun_with b (store_at env ns t.globals) (values_at env ns t.locals) (bool_at env ns t.done)) (test_value ns sure _ h env fits)

sorted_bool : (ns : List Node) (id : ℕ) → IsGraph ns → sort_at ns id ≡ Some Truth → IsBool ns id
sorted_bool ns id graph s = record { sorted = s; is = λ env fits. truth_value (value_at env ns id) (nodes_have_their_sorts ns graph env fits id Truth s) }

module _ (program : Program) (step : ℕ) (proc : Proc) (cut : Cut) (t : Beginning) (old mid : List Node) (grows : Grows old mid) (graph : IsGraph mid) (can : CanBegin old program step proc cut t) (sure : ℕ) (true_is : IsTest mid sure (λ env. true)) where
  abbrev s0 : Sweep
  s0 = sweep_of sure t

  begins_can : CanSweep mid program proc s0
  begins_can = record {
    live = test_bool mid sure _ true_is;
    globals = are_stay old mid t.globals _ can.globals grows;
    locals = are_stay old mid t.locals _ can.locals grows;
    done = sorted_bool mid t.done graph (sort_stays old mid t.done Truth grows can.done);
    safe = test_bool mid sure _ true_is;
    once = test_bool mid sure _ true_is;
    stops = All-nil (CanStop mid program proc);
  }

  pub begins_ready : IsLayered program → IsProcIn program proc → (s : Sweep) → s ≡ s0 → (layer : ℕ) → layer ≡ step - 1 → ReadyFrom mid program layer proc t.chosen s cut
  begins_ready layered there s e layer l =
      subst (λ (n : ℕ). ReadyFrom mid program n proc t.chosen s cut) (sym l) (subst (λ (x : Sweep). ReadyFrom mid program (step - 1) proc t.chosen x cut) (sym e) (record {
        layered = layered;
        there = there;
        can = begins_can;
        on = refl;
        choices = has_stay old mid program (step - 1) t.chosen _ grows can.chosen;
      }))

  module _ (new : List Node) (grows2 : Grows mid new) (graph2 : IsGraph new) (s s1 : Sweep) (e : s ≡ s0) (layer : ℕ) (l : layer ≡ step - 1)
      (passes : Passes mid new program layer proc t.chosen s s1 (flow_from proc cut).passed (λ c. sweep_from c cut)) where
    p : Passes mid new program (step - 1) proc t.chosen s0 s1 (flow_from proc cut).passed (λ c. sweep_from c cut)
    p = subst (λ (n : ℕ). Passes mid new program n proc t.chosen s0 s1 (flow_from proc cut).passed (λ c. sweep_from c cut)) l (subst (λ (x : Sweep). Passes mid new program layer proc t.chosen x s1 (flow_from proc cut).passed (λ c. sweep_from c cut)) e passes)

    abbrev own : Env → ℕ → List Value
    own = own_choices program (step - 1) proc t.chosen mid

    pub ends_can : CanSweep new program proc s1
    ends_can = (p own (λ o q a c h env f. refl)).can

    abbrev env0 : Env
    env0 = zeros new

    abbrev c0 : Course
    c0 = course_in program (step - 1) proc (own env0)

    fits0 : Fits env0 new
    fits0 = zeros_fit new graph2

    ends_swept : swept_at env0 new s1 ≡ sweep_from c0 cut (sweep_begins (progress_at env0 mid t))
    ends_swept = (p own (λ o q a c h env f. refl)).is env0 fits0 ∙ ap (sweep_from c0 cut) (begins_swept mid sure t true_is env0 (grows2.fits env0 fits0))

    pub stops_are : numbers s1.stops ≡ (flow_from proc cut).ends
    stops_are = sym (numbers_same env0 new s1.stops) ∙ ap (λ (d : Swept). numbers_of d.stops) ends_swept ∙ (sweeps_stop_at_ends c0 cut (progress_at env0 mid t)).0

    pub onward_is : s1.onward ≡ (flow_from proc cut).onward
    onward_is = ap (λ (d : Swept). d.onward) ends_swept ∙ (sweeps_stop_at_ends c0 cut (progress_at env0 mid t)).1

    -- ---- where they say a beginning

    module _ (b : Env → Begun) (begun : AreBegun old program step proc cut t b) where
      abbrev chosen : Env → ℕ → List Value
      chosen env = (b env).chosen

      says : SaysChoices mid program (step - 1) t.chosen (flow_from proc cut).passed chosen
      says = says_stay old mid program (step - 1) t.chosen _ chosen grows can.chosen (λ q a c h env f. (begun.chosen q a c h).are env f)

      abbrev progress : Env → Progress
      progress env = progress_with (b env).store (b env).locals (b env).done

      progress_is : (env : Env) → Fits env mid → progress_at env mid t ≡ progress env
      progress_is env fits =
          let before = grows.fits env fits in
          let g : values_at env mid t.globals ≡ (b env).store.values = values_stay env old mid t.globals _ can.globals grows ∙ begun.globals.are env before in
          let v : values_at env mid t.locals ≡ (b env).locals = values_stay env old mid t.locals _ can.locals grows ∙ begun.locals.are env before in
          let done : bool_at env mid t.done ≡ (b env).done = test_value mid t.done _ (test_stays old mid t.done _ grows begun.done) env fits in
          ap (λ (vs : List Value). progress_with (record { values = vs }) (values_at env mid t.locals) (bool_at env mid t.done)) g
          ∙ ap (λ (vs : List Value). progress_with (b env).store vs (bool_at env mid t.done)) v
          ∙ ap (progress_with (b env).store (b env).locals) done

      pub drawn : (env : Env) → Fits env new → Draws (outcome_of program step proc cut (b env)) (swept_at env new s1)
      drawn env fits =
          let before = grows2.fits env fits in
          let c = course_in program (step - 1) proc (chosen env) in
          let is = (p chosen (λ o. says)).is env fits ∙ ap (sweep_from c cut) (begins_swept mid sure t true_is env before ∙ ap sweep_begins (progress_is env before)) in
          subst (Draws (outcome_of program step proc cut (b env))) (sym is) (sweeps_draw_paths c cut (progress env))

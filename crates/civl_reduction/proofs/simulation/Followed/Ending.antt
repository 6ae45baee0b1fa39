-- A block that is refined is followed by no step, or by one of the refined action.
use Rattle.std.proofs.Common.{◌≡◌, ℕ, ◌+◌, Bool, true, false, List, [], ◌∷◌, refl, sym, ap, ◌∙◌, subst, None, Some, slice_get, slice_set, inl, inr, ◌⊎◌}
use Rattle.std.specs.Prelude.{if◌then◌else◌}
use Rattle.std.proofs.lemmas.Bool.{false≢true}
use Rattle.std.proofs.lemmas.List.{append-nil}
use Rattle.std.proofs.lemmas.Option.{same_Some}
use Rattle.civl_bits.specs.declared.value.Value.{Value}
use Rattle.civl_tree.specs.declared.action.Action.{Action}
use Rattle.civl_tree.specs.declared.program.Proc.{Proc}
use Rattle.civl_tree.specs.declared.program.Program.{Program}
use Rattle.civl_tree.proofs.Lists.{get_other, get_same}
use Rattle.civl_firing.specs.declared.store.Store.{Store}
use Rattle.civl_meaning.specs.declared.config.Plain.{Plain}
use Rattle.civl_meaning.specs.declared.config.Activation.{Activation}
use Rattle.civl_meaning.specs.declared.config.Config as meaning
use Rattle.civl_meaning.specs.declared.config.Running.{Running}
use Rattle.civl_meaning.specs.declared.config.Change.TheVariants as change
use Rattle.civl_meaning.specs.Change.{with_results, Doing, doing}
use Rattle.civl_meaning.specs.Config.{IsOf}
use Rattle.civl_meaning.specs.Layers.{program_at}
use Rattle.civl_meaning.specs.Step.{thread_after}
use Rattle.civl_conditions.specs.footprints.Agreement.{StoresAgree, exists_at}
use Rattle.civl_conditions.proofs.footprints.Keeping.{agree_back, agree_then}
use Rattle.civl_conditions.specs.Assumed.{inputs_of}
use Rattle.civl_reduction.specs.interleavings.Runs.{SystemRuns}
use Rattle.civl_reduction.specs.interleavings.Threads.{Threads, Config, Move, stepping_of, outcome, config_with, step_of}
use Rattle.civl_meaning.specs.Change as does
use Rattle.civl_reduction.specs.exchanges.Interleavings.{Chosen, Call, whole, as_config}
use Rattle.civl_reduction.specs.permissions.Apart.{SpawnsStandInRoots}
use Rattle.civl_reduction.specs.checked.Checked.{IsChecked}
use Rattle.civl_reduction.specs.blocks.Blocks.{inside}
use Rattle.civl_reduction.specs.blocks.Cuts.{frame_at}
use Rattle.civl_reduction.specs.blocks.Shadow.{Shadowed}
use Rattle.civl_reduction.specs.blocks.Reduces.{plain_config, layer_threads}
use Rattle.civl_reduction.specs.simulation.Meets.{behind}
use Rattle.civl_reduction.proofs.simulation.Meets.Above.{Instead}
use Rattle.civl_reduction.specs.simulation.Refined.{Sight, Acts, IsRefined, sight, sight_before, last_frame}
use Rattle.civl_reduction.proofs.simulation.Followed.Steps.{makes, Fires, calls_so}
use Rattle.civl_reduction.proofs.simulation.Followed.Acting.{same_gate, fires_too}
use Rattle.civl_reduction.proofs.simulation.Followed.Known.{Known, does_known}
use Rattle.civl_reduction.proofs.simulation.Followed.Along.{OthersSame}
use Rattle.civl_reduction.proofs.simulation.Followed.Outside.{of_next, calls_there, within_upper}

module _ (program : Program) (layer : ℕ) (store : Store) (k : IsChecked program layer store) (roots : SpawnsStandInRoots program) where
  abbrev upper : Plain
  upper = program_at program (layer + 1)

  abbrev Q : Threads Store Running Call Chosen (List Value)
  Q = layer_threads program (layer + 1) store

  -- the caller before the call, or behind the refined action's
  abbrev pub stands_beside : Running → Sight → Running
  stands_beside caller sight = if sight.done then behind caller (doing upper caller) sight.outs else caller

  -- no move, where no new commit was passed, and else one with choices that are picked so
  abbrev pub HowMoved : (List Value → Type 0) → ℕ → Sight → Sight → List (Move Chosen) → Type 0
  HowMoved picked t before after moves =
      ((after.done ≡ before.done) × (moves ≡ []))
      ⊎ ((before.done ≡ false) × (after.done ≡ true) × (chosen : Chosen) × picked chosen.0 × (moves ≡ record { thread = t; chosen = chosen } ∷ []))

  -- how a block, or a step outside the layer's procedures, is followed: the step by itself; a block by HowMoved
  abbrev pub HowFollowed : (Proc × Activation → List Value → Type 0) → Shadowed → Shadowed → Shadowed → Move Chosen → List (Move Chosen) → Type 0
  HowFollowed picked from last to m ns =
      ((last_frame (frame_at program (layer + 1) to.config.threads m.thread) (frame_at program (layer + 1) last.config.threads m.thread) ≡ None) × (ns ≡ m ∷ []))
      ⊎ ((f : Proc × Activation) × (last_frame (frame_at program (layer + 1) to.config.threads m.thread) (frame_at program (layer + 1) last.config.threads m.thread) ≡ Some f)
      × HowMoved (picked f) m.thread (sight_before program layer from m.thread (frame_at program (layer + 1) from.config.threads m.thread)) (sight program layer to m.thread f) ns)

  -- a run of the upper program from x, behind which the caller stands so and the stores agree
  pub record Followed (picked : List Value → Type 0) (x : meaning.Config) (t : ℕ) (caller : Running) (before after : Sight) : Type 0 where
    pub moves : List (Move Chosen)
    pub end : Config Store Running
    pub runs : SystemRuns (stepping_of Q) moves (as_config x) end
    pub of_upper : IsOf upper (plain_config end)
    pub near : StoresAgree (exists_at (layer + 1)) program.globals after.store end.store
    pub others : OthersSame t x.threads end.threads
    pub there : slice_get end.threads t ≡ Some (stands_beside caller after)
    pub how : HowMoved picked t before after moves

  module _ (picked : List Value → Type 0) (x : meaning.Config) (of_upper : IsOf upper x) (t : ℕ) (caller : Running) (before after : Sight) (high : slice_get x.threads t ≡ Some (stands_beside caller before)) (near : StoresAgree (exists_at (layer + 1)) program.globals before.store x.store)
      (f : Proc × Activation) (inst : Instead program layer f caller) (r : IsRefined picked program (layer + 1) f.0 (inputs_of f.0 f.1.locals) before after) where
    -- no step
    waits : after.done ≡ before.done → stands_beside caller before ≡ stands_beside caller after → Followed picked x t caller before after
    waits e same = record {
      moves = [];
      end = as_config x;
      runs = refl;
      of_upper = of_upper;
      near = agree_then (exists_at (layer + 1)) program.globals after.store.values before.store.values x.store.values (agree_back (exists_at (layer + 1)) program.globals before.store.values after.store.values (r.same e)) near;
      others = λ u n. refl;
      there = high ∙ ap (λ (q : Running). Some q) same;
      how = inl (e, refl);
    }

    -- the step of the action
    acts_so : (slice_get x.threads t ≡ Some caller) → before.done ≡ false → Acts picked program (layer + 1) f.0 (inputs_of f.0 f.1.locals) before after → after.done ≡ true → Followed picked x t caller before after
    acts_so at n a d =
        let inputs = inputs_of f.0 f.1.locals in
        let same : a.action ≡ inst.action = same_Some a.action inst.action (sym a.refined ∙ inst.refined) in
        let calls : doing upper caller ≡ does.Calls inst.names inst.locals inst.results inst.next a.action inputs = inst.calls ∙ ap (λ (c : Action). does.Calls inst.names inst.locals inst.results inst.next c inputs) (sym same) in
        let known : Known program (does.Calls inst.names inst.locals inst.results inst.next a.action inputs) = subst (Known program) calls (does_known upper caller) in
        let there = calls_there program layer store k roots (layer + 1) (within_upper program layer store k roots) x of_upper t caller at inst.names inst.locals inst.results inst.next a.action inputs calls in
        let gate = sym (same_gate program layer k.layered known.0 a.action known.1 there before.store x.store near inputs) ∙ a.gate in
        let too = fires_too program layer k.layered known.0 a.action known.1 there before.store x.store near inputs a.chosen a.to after.outs a.fires in
        let chosen : Chosen = (a.chosen, a.values) in
        let fired : Fires upper x.store chosen a.action inputs = record { gate = gate; fit = a.fit; to = too.to_store; outs = after.outs; fires = too.fires } in
        let new : Running = thread_after caller (change.Goes (with_results inst.names inst.locals inst.results after.outs) inst.next) in
        let comes = calls_so upper store (inside program (layer + 1)) caller x.store chosen inst.names inst.locals inst.results inst.next a.action inputs fired in
        let move : Move Chosen = record { thread = t; chosen = chosen } in
        let end : Config Store Running = config_with (as_config x) t (too.to_store, new, []) in
        let step = goes move chosen calls at too.to_store new comes in
        record {
          moves = move ∷ [];
          end = end;
          runs = (end, step, refl);
          how = inr (n, d, chosen, a.picks, refl);
          of_upper = of_next program layer store k roots (layer + 1) (as_config x) move end step of_upper;
          near = agree_then (exists_at (layer + 1)) program.globals after.store.values a.to.values too.to_store.values (agree_back (exists_at (layer + 1)) program.globals a.to.values after.store.values a.globals) too.agree;
          others = λ u n. ap (λ (l : List Running). slice_get l u) (append-nil (slice_set x.threads t new)) ∙ get_other x.threads t u new n;
          there =
              ap (λ (l : List Running). slice_get l t) (append-nil (slice_set x.threads t new)) ∙ (get_same x.threads t new caller at
              ∙ ap (λ (q : Running). Some q) (ap (λ (D : Doing). behind caller D after.outs) (sym calls) ∙ ap (λ (b : Bool). if b then behind caller (doing upper caller) after.outs else caller) (sym d)));
        }
      where
        goes : (move : Move Chosen) (chosen : Chosen) → {D : Doing} → doing upper caller ≡ D → slice_get x.threads t ≡ Some caller → (to : Store) (new : Running) → outcome Q (whole caller D) x.store chosen ≡ Some (to, new, [])
            → step_of Q (as_config x) (record { thread = t; chosen = chosen }) ≡ Some (config_with (as_config x) t (to, new, []))
        goes move chosen e there to new comes =
            makes upper store (inside program (layer + 1)) (as_config x) (record { thread = t; chosen = chosen }) caller (to, new, []) there (ap (λ (E : Doing). outcome Q (whole caller E) x.store chosen) e ∙ comes)

    pub followed : Followed picked x t caller before after
    followed = go before.done after.done refl refl
      where
        go : (b a : Bool) → before.done ≡ b → after.done ≡ a → Followed picked x t caller before after
        go false false e d = waits (d ∙ sym e) (ap (λ (c : Bool). if c then behind caller (doing upper caller) before.outs else caller) e ∙ sym (ap (λ (c : Bool). if c then behind caller (doing upper caller) after.outs else caller) d))
        go true true e d =
            waits (d ∙ sym e)
            (ap (λ (c : Bool). if c then behind caller (doing upper caller) before.outs else caller) e
            ∙ (ap (λ (vs : List Value). behind caller (doing upper caller) vs) (sym (r.outs e)) ∙ sym (ap (λ (c : Bool). if c then behind caller (doing upper caller) after.outs else caller) d)))
        go true false e d = absurd (false≢true (sym d ∙ r.stays e))
        go false true e d = acts_so (high ∙ ap (λ (q : Running). Some q) (ap (λ (c : Bool). if c then behind caller (doing upper caller) before.outs else caller) e)) e (r.acts e d) d

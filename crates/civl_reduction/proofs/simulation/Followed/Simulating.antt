-- Block runs of a layer's program are followed by the program of the next layer; so the next one can fail where it can, and the
-- topmost one where the lowest can.
use Rattle.std.proofs.Common.{◌≡◌, ℕ, zero, suc, ◌+◌, ◌≤◌, ◌<◌, Bool, true, false, List, [], ◌∷◌, ◌++◌, map, refl, sym, ap, ◌∙◌, subst, arith, add-one, Option, None, Some, slice_get}
use Rattle.std.specs.Prelude.{nat_eq, if◌then◌else◌}
use Rattle.std.proofs.lemmas.Bool.{false≢true, true≢false}
use Rattle.civl_bits.specs.declared.value.Value.{Value}
use Rattle.civl_firing.specs.values.Values.{HaveSorts}
use Rattle.civl_tree.specs.declared.program.Global.{Global}
use Rattle.civl_tree.specs.declared.program.Proc.{Proc}
use Rattle.civl_tree.specs.declared.program.Thread.{Thread}
use Rattle.civl_tree.specs.declared.program.Program.{Program}
use Rattle.civl_firing.specs.declared.store.Store.{Store}
use Rattle.civl_firing.proofs.Having.{rest_sorts}
use Rattle.civl_meaning.specs.declared.config.Plain.{Plain}
use Rattle.civl_meaning.specs.declared.config.Activation.{Activation}
use Rattle.civl_meaning.specs.declared.config.Config as meaning
use Rattle.civl_meaning.specs.declared.config.Running.{Running}
use Rattle.civl_meaning.specs.Failing.{CanFail}
use Rattle.civl_meaning.specs.Initial.{IsInitial}
use Rattle.civl_meaning.specs.Layers.{program_at}
use Rattle.civl_meaning.specs.Step.{begun, start}
use Rattle.civl_meaning.proofs.Begun.{start_is_of}
use Rattle.civl_layers.proofs.PlainPrograms.{layered_is_plain}
use Rattle.civl_conditions.specs.footprints.Agreement.{AgreeOn, exists_at}
use Rattle.civl_reduction.specs.interleavings.Systems.{System, Failing}
use Rattle.civl_reduction.specs.interleavings.Runs.{SystemRuns, Staged, Opens}
use Rattle.civl_reduction.specs.interleavings.Threads.{Threads, Config, Move, stepping_of, fails_in}
use Rattle.civl_reduction.proofs.interleavings.Simulating.{simulated}
use Rattle.civl_reduction.specs.exchanges.Interleavings.{Chosen, Call, as_config}
use Rattle.civl_reduction.proofs.exchanges.Reducing.{can_fail_back}
use Rattle.civl_reduction.specs.permissions.Apart.{SpawnsStandInRoots}
use Rattle.civl_reduction.specs.checked.Checked.{SpawnsAreInRoots, IsChecked}
use Rattle.civl_reduction.specs.blocks.Blocks.{frame_of_layer, inside}
use Rattle.civl_reduction.specs.blocks.Reduces.{plain_move, plain_config, layer_threads, layer_system}
use Rattle.civl_reduction.specs.staged.Reduction.{CheckedReduce}
use Rattle.civl_reduction.specs.blocks.Cuts.{frame_in}
use Rattle.civl_reduction.specs.blocks.Shadow.{Shadowed, merged_values, shadowed_step, shadowed_from, shadowed}
use Rattle.civl_reduction.specs.blocks.Challenged.{challenged}
use Rattle.civl_reduction.specs.simulation.Meets.{ThreadMeets, MeetsBeside, Meets}
use Rattle.civl_reduction.specs.simulation.Refined.{IsPicked, BlockIsRefined}
use Rattle.civl_reduction.specs.simulation.Sound.{BlocksAreSound}
use Rattle.civl_reduction.specs.simulation.Followed.{LayerIsFollowed, CheckedLayersAreFollowed, LayersAreSound, AcceptedPreserve}
use Rattle.civl_reduction.proofs.simulation.Followed.Failing.{challenged_fail, outside_fail}
use Rattle.civl_reduction.proofs.simulation.Followed.Blocks.{to_leads}
use Rattle.civl_reduction.proofs.simulation.Followed.Following.{all_follow, block_shadows, last_shadow}

-- the store with its own values for introduced globals
merged_self : (first : ℕ) (test : Global → Bool) (gs : List Global) (vs : List Value) → HaveSorts vs (map (λ g. g.sort) gs) → AgreeOn test gs (merged_values first gs vs vs) vs
merged_self first test [] [] h = tt
merged_self first test [] (v ∷ vs) h = absurd (false≢true h.are)
merged_self first test (g ∷ gs) [] h = absurd (false≢true h.are)
merged_self first test (g ∷ gs) (v ∷ vs) h = ((λ e. same (nat_eq g.first first)), merged_self first test gs vs (rest_sorts v g.sort vs (map (λ g. g.sort) gs) h))
  where
    same : (b : Bool) → (if b then v else v) ≡ v
    same true = refl
    same false = refl

module _ (spawns_are_in_roots : SpawnsAreInRoots) (program : Program) (layer : ℕ) (store : Store) (k : IsChecked program layer store) (sound : BlocksAreSound program layer store) where
  abbrev lower : Plain
  lower = program_at program layer

  abbrev upper : Plain
  upper = program_at program (layer + 1)

  abbrev P : Threads Store Running Call Chosen (List Value)
  P = layer_threads program layer store

  abbrev Q : Threads Store Running Call Chosen (List Value)
  Q = layer_threads program (layer + 1) store

  abbrev S : System (Config Store Running) (Move Chosen)
  S = layer_system program layer store (challenged program layer store)

  roots : SpawnsStandInRoots program
  roots = spawns_are_in_roots program k.yields

  abbrev at_moves : List (Move Chosen) → Shadowed
  at_moves ms = shadowed program layer store (map plain_move ms)

  abbrev MeetsAt : List (Move Chosen) → Config Store Running → Config Store Running → Type 0
  MeetsAt ms c x = Meets program layer store (map plain_move ms) (plain_config c) (plain_config x)

  -- ---- the start

  begun_meet : (done : ℕ → Bool) (threads : List Thread) (u : ℕ) → ThreadMeets program layer (done u) (slice_get (map (begun program store) threads) u) (slice_get (map (begun program store) threads) u)
  begun_meet done [] u = tt
  begun_meet done (t ∷ ts) zero = refl
  begun_meet done (t ∷ ts) (suc u) = begun_meet (λ v. done (suc v)) ts u

  pub starts_meet : MeetsAt [] (as_config (start lower store)) (as_config (start upper store))
  starts_meet = record {
    leads = refl;
    meets = record {
      of_lower = start_is_of lower store (layered_is_plain program k.layered layer) k.initial.store_fits;
      of_upper = start_is_of upper store (layered_is_plain program k.layered (layer + 1)) k.initial.store_fits;
      fits = k.initial.store_fits;
      stores = merged_self (layer + 1) (exists_at (layer + 1)) program.globals store.values k.initial.store_fits;
      threads = λ u. begun_meet (λ t. false) program.threads u;
    };
  }

  -- ---- blocks

  follows : (ps ms : List (Move Chosen)) (m : Move Chosen) (c e d x : Config Store Running) → Staged S ps None c → MeetsAt ps c x → Opens S m.thread ms c e → S.step e m ≡ Some d → S.inside d m.thread ≡ false
      → (ns : List (Move Chosen)) × (y : Config Store Running) × SystemRuns (stepping_of Q) ns x y × MeetsAt (ps ++ (ms ++ m ∷ [])) d y
  follows ps ms m c e d x g meets o step out =
      let s = at_moves ps in
      let last = block_shadows program layer store ps ms in
      let to = block_shadows program layer store ps (ms ++ m ∷ []) ∙ last_shadow program layer ms m (at_moves ps) in
      let refined = subst (λ (q : Shadowed). BlockIsRefined program layer (at_moves ps) (shadowed_from program layer (map plain_move ms) (at_moves ps)) q m.thread) to (subst (λ (q : Shadowed). BlockIsRefined program layer (at_moves ps) q (at_moves (ps ++ (ms ++ m ∷ []))) m.thread) last (sound.refined ps ms m c e d g o step out)) in
      let f = all_follow program layer store k roots (challenged program layer store) (at_moves ps) (plain_config x) meets.meets m c d meets.leads (IsPicked program layer (at_moves ps) (shadowed_step program layer (shadowed_from program layer (map plain_move ms) (at_moves ps)) (plain_move m)) m.thread) ms e o step refined in (
        f.0,
        f.1,
        f.2,
        record {
          leads = ap (λ (q : Shadowed). q.config) to ∙ to_leads program layer store k roots (challenged program layer store) (at_moves ps) (plain_config x) meets.meets ms m c e d meets.leads o step;
          meets = subst (λ (q : Shadowed). MeetsBeside program layer q (plain_config f.1)) (sym to) f.3;
        },
      )

  -- ---- the ends

  pub failing : (ps : List (Move Chosen)) (c x : Config Store Running) → Staged S ps None c → MeetsAt ps c x → Failing S.steps c → Failing (stepping_of Q) x
  failing ps c x g meets f = go (slice_get c.threads f.0) refl f.1
    where
      by_frame : (low : Running) → slice_get c.threads f.0 ≡ Some low → fails_in P c.store (Some low) ≡ true → (o : Option (Proc × Activation)) → frame_of_layer program (layer + 1) low ≡ o → Failing (stepping_of Q) x
      by_frame low at e None q =
          outside_fail program layer store k roots (at_moves ps) (plain_config x) meets.meets f.0 low (ap (λ (y : meaning.Config). slice_get y.threads f.0) meets.leads ∙ at) q (ap (λ (y : meaning.Config). fails_in P y.store (Some low)) meets.leads ∙ e)
      by_frame low at e (Some h) q = absurd (true≢false (sym e ∙ (ap (fails_in P c.store) (sym at) ∙ sound.safe_between ps c f.0 h g (ap (frame_in program (layer + 1)) at ∙ q))))

      go : (o : Option Running) → slice_get c.threads f.0 ≡ o → fails_in P c.store o ≡ true → Failing (stepping_of Q) x
      go None at e = absurd (false≢true e)
      go (Some low) at e = by_frame low at e (frame_of_layer program (layer + 1) low) refl

  pub followed_so : LayerIsFollowed program layer store
  followed_so = record {
    meets_first = starts_meet;
    meets_on = λ ps ms m t c e d x g meets o w step out.
        follows ps ms m c e d x g meets (subst (λ (u : ℕ). Opens S u ms c e) (sym w) o) step (subst (λ (u : ℕ). S.inside d u ≡ false) (sym w) out);
    challenged_fails = λ ps c x run meets e. ([], x, refl, challenged_fail program layer store k roots (at_moves ps) (plain_config x) meets.meets e);
    failing_fails = λ ps c x g meets f. ([], x, refl, failing ps c x g meets f);
  }

pub layers_followed : SpawnsAreInRoots → CheckedLayersAreFollowed
layers_followed roots program layer store k sound = followed_so roots program layer store k sound

pub layers_sound : SpawnsAreInRoots → CheckedReduce → LayersAreSound
layers_sound roots reduce program layer store k sound fails =
    can_fail_back (program_at program (layer + 1)) store (inside program (layer + 1))
    (simulated (layer_system program layer store (challenged program layer store)) (stepping_of (layer_threads program (layer + 1) store)) (λ moves c x. Meets program layer store (map plain_move moves) (plain_config c) (plain_config x))
    (layers_followed roots program layer store k sound) (reduce program layer store (challenged program layer store) k sound.safe_inside sound.ends_inside fails))

-- ---- over all layers

pub accepted_preserve : LayersAreSound → AcceptedPreserve
accepted_preserve step program a initial sound = record { starts = initial; preserved = λ store i fails. climb store i fails program.layers (omega arith) }
  where
    climb : (store : Store) → IsInitial program store → CanFail (program_at program 0) store → (n : ℕ) → n ≤ program.layers → CanFail (program_at program n) store
    climb store i fails zero h = fails
    climb store i fails (suc n) h =
        let below : n < program.layers = omega (arith, h) in
        let k : IsChecked program n store = record { written = a.written; layered = a.layered; linear = a.linear; yields = a.yields; hold = a.hold; below = below; initial = i } in
        subst (λ (j : ℕ). CanFail (program_at program j) store) (add-one n) (step program n store k (sound n store below i) (climb store i fails n (omega (arith, h))))

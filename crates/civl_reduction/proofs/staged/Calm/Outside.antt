-- All is calm at the start, and behind steps outside the procedures of the layer above.
use Rattle.std.proofs.Common.{◌≡◌, ◌≢◌, ℕ, zero, suc, ◌+◌, ◌≤◌, Bool, true, false, List, [], ◌∷◌, ◌++◌, map, refl, sym, ap, ◌∙◌, subst, arith, Option, None, Some, slice_get, nat_eq, inl, inr, ◌⊎◌}
use Rattle.std.specs.Prelude.{if◌then◌else◌, IsTrue, All, nat_le, ◌&&◌, flat_map}
use Rattle.std.proofs.lemmas.Bool.{eqb-true, eq-eqb, ne_eqb, false≢true, le-leb, leb-true, lt-ltb, and_parts}
use Rattle.std.proofs.lemmas.Option.{none-some}
use Rattle.civl_bits.specs.declared.value.Value.{Value}
use Rattle.civl_firing.specs.values.Values.{HaveSorts}
use Rattle.civl_tree.specs.declared.program.Global.{Global}
use Rattle.civl_tree.specs.declared.program.Proc.{Proc}
use Rattle.civl_tree.specs.declared.program.Program.{Program}
use Rattle.civl_tree.specs.declared.program.Thread.{Thread}
use Rattle.civl_firing.specs.declared.store.Store.{Store}
use Rattle.civl_meaning.specs.declared.config.Activation.{Activation}
use Rattle.civl_meaning.specs.declared.config.Move.{Move}
use Rattle.civl_meaning.specs.declared.config.Plain.{Plain}
use Rattle.civl_meaning.specs.declared.config.Running.{Running}
use Rattle.civl_meaning.specs.declared.config.Config.{Config}
use Rattle.civl_meaning.specs.declared.config.Stepped.{Stepped}
use Rattle.civl_meaning.specs.declared.config.Stepped.TheVariants.{Moved}
use Rattle.civl_meaning.specs.Permissions.{pairwise_disjoint}
use Rattle.civl_meaning.specs.Step.{begun, start, step_of}
use Rattle.civl_meaning.specs.Run.{RunsTo}
use Rattle.civl_meaning.specs.Failing.{IsMove}
use Rattle.civl_meaning.specs.Layers.{program_at}
use Rattle.civl_meaning.specs.Config.{ThreadIsSorted, IsStacked}
use Rattle.civl_layers.specs.Ranges.{exists_in}
use Rattle.civl_layers.specs.Names.{action_range}
use Rattle.civl_layers.proofs.PlainPrograms.{layered_is_plain}
use Rattle.civl_soundness.proofs.Fitting.{all_at}
use Rattle.civl_conditions.specs.Steps.{lasts_through}
use Rattle.civl_conditions.specs.Values.{Invoked}
use Rattle.civl_conditions.specs.Permissions.{in_store, of_inputs, held_at, of_held}
use Rattle.civl_conditions.specs.Invariants.{invariants_hold}
use Rattle.civl_condition_laws.specs.States.{IsInvoked, frame_sorts}
use Rattle.civl_reduction.specs.permissions.Apart.{StandsBefore}
use Rattle.civl_reduction.proofs.permissions.Staying.{IsKept}
use Rattle.civl_reduction.proofs.permissions.Reaching.{are_writable, meant_begins}
use Rattle.civl_reduction.proofs.permissions.Calls.{before_owns, next_exists}
use Rattle.civl_reduction.specs.checked.Checked.{IsChecked, ActionsKeepPermissions, SpawnsAreInRoots}
use Rattle.civl_reduction.specs.blocks.Blocks.{frame_of_layer}
use Rattle.civl_reduction.specs.blocks.Cuts.{frame_in, frame_at}
use Rattle.civl_reduction.specs.blocks.Shadow.{Shadowed, merged_values, merged, seen, with_done, begun_with, before_frame, after_frame, shadowed_step}
use Rattle.civl_reduction.specs.blocks.Steady.{IsSteady, HoldsAt}
use Rattle.civl_reduction.proofs.blocks.Steady.Keeping.{invariants_begin, actions_are_steady}
use Rattle.civl_reduction.proofs.staged.Pausing.Cutting.{topmost}
use Rattle.civl_reduction.proofs.staged.Pausing.Apart.{kept, run_is_kept, known, pauses_are_apart}
use Rattle.civl_reduction.proofs.permissions.Counting.{carriers_joined, counts_of, disjoint_by}
use Rattle.civl_reduction.proofs.permissions.Staying.{one_own}
use Rattle.civl_reduction.specs.permissions.Owned.{owned}
use Rattle.civl_meaning.specs.Permissions.{of_globals}
use Rattle.civl_reduction.proofs.blocks.Merged.Merging.{merged_fit, merged_carry, actions_act_as_there}
use Rattle.civl_reduction.specs.staged.Calm.{FrameIsCalm, IsCalm, AllIsCalm, StartsAreCalm, StepsOutsideKeepCalm}
use Rattle.civl_reduction.proofs.staged.Calm.Stepping.{Fires, Leaves, leaves}
use Rattle.civl_reduction.proofs.staged.Calm.Above.{next_above}

pub holds_at : (program : Program) (layer : ℕ) (store : Store) → IsChecked program layer store → HoldsAt program (layer + 1)
holds_at program layer store c = let b = c.below in record { layered = c.layered; hold = c.hold; low = omega arith; high = omega (arith, b) }

-- ---- the start

same_either : (b : Bool) (v : Value) → (if b then v else v) ≡ v
same_either true v = refl
same_either false v = refl

merged_self : (first : ℕ) (gs : List Global) (vs : List Value) → merged_values first gs vs vs ≡ vs
merged_self first [] vs = refl
merged_self first (g ∷ gs) [] = refl
merged_self first (g ∷ gs) (v ∷ vs) = ap (λ (x : Value). x ∷ merged_values first gs vs vs) (same_either (nat_eq g.first first) v) ∙ ap (λ (xs : List Value). v ∷ xs) (merged_self first gs vs)

start_frames : (program : Program) (step : ℕ) (store : Store) (ts : List Thread) (u : ℕ) → frame_in program step (slice_get (map (begun program store) ts) u) ≡ None
start_frames program step store [] u = refl
start_frames program step store (t ∷ ts) zero = refl
start_frames program step store (t ∷ ts) (suc u) = start_frames program step store ts u

pub starts_are_calm : StartsAreCalm
starts_are_calm program layer store c =
    let same : merged program layer store store ≡ store = ap (λ (vs : List Value). record { values = vs }) (merged_self (layer + 1) program.globals store.values) in
    record {
      fits = c.initial.store_fits;
      calm = record {
        invariants = subst (λ (g : Store). IsTrue (invariants_hold program (layer + 1) g)) (sym same) (invariants_begin program (layer + 1) store (holds_at program layer store c) c.initial);
        frames = λ u n. subst (FrameIsCalm program (layer + 1) (merged program layer store store) false) (sym (start_frames program (layer + 1) store program.threads u)) tt;
      };
    }

-- ---- threads and their frames

-- the thread of a frame
pub thread_of : (program : Program) (step : ℕ) (threads : List Running) (u : ℕ) (f : Proc × Activation) → frame_at program step threads u ≡ Some f → (thread : Running) × (slice_get threads u ≡ Some thread) × (frame_of_layer program step thread ≡ Some f)
thread_of program step threads u f e = go (slice_get threads u) refl e
  where
    go : (o : Option Running) → slice_get threads u ≡ o → frame_in program step o ≡ Some f → (thread : Running) × (slice_get threads u ≡ Some thread) × (frame_of_layer program step thread ≡ Some f)
    go None q h = absurd (none-some f h)
    go (Some r) q h = (r, q, h)

-- no thread but this one
pub cases_of : (u t : ℕ) → (u ≡ t) ⊎ (u ≢ t)
cases_of u t = go (nat_eq u t) refl
  where
    go : (b : Bool) → nat_eq u t ≡ b → (u ≡ t) ⊎ (u ≢ t)
    go true q = inl (eqb-true u t q)
    go false q = inr (λ e. false≢true (sym q ∙ eq-eqb u t e))

pub done_other : (done : ℕ → Bool) (t : ℕ) (value : Bool) (u : ℕ) → u ≢ t → with_done done t value u ≡ done u
done_other done t value u n = ap (λ (b : Bool). if b then value else done u) (ne_eqb u t n)

-- ---- a step outside

-- the shadow behind it
pub outside_shadow : (program : Program) (layer : ℕ) (s : Shadowed) (m : Move) (d : Config) → step_of (program_at program layer) s.config m ≡ (Moved, d) → frame_at program (layer + 1) s.config.threads m.thread ≡ None → frame_at program (layer + 1) d.threads m.thread ≡ None
    → shadowed_step program layer s m ≡ record { config = d; shadow = begun_with m.thread None s.shadow }
outside_shadow program layer s m d e none after =
    ap (λ (r : Stepped × Config). behind r.1 (frame_at program (layer + 1) s.config.threads m.thread) (frame_at program (layer + 1) r.1.threads m.thread)) e
    ∙ (ap (λ (o : Option (Proc × Activation)). behind d o (frame_at program (layer + 1) d.threads m.thread)) none ∙ ap (behind d None) after)
  where
    behind : Config → Option (Proc × Activation) → Option (Proc × Activation) → Shadowed
    behind x o p = record { config = x; shadow = after_frame program layer m.thread x.store (begun_with m.thread o (before_frame program layer m.thread s.config.store s.shadow o)) p }

module _ (keep : ActionsKeepPermissions) (in_roots : SpawnsAreInRoots) (program : Program) (layer : ℕ) (store : Store) (moves : List Move) (s : Shadowed) (m : Move) (c : IsChecked program layer store)
    (fit : All IsMove moves) (runs : RunsTo (program_at program layer) moves (start (program_at program layer) store) s.config) (mv : IsMove m) where
  abbrev plain : Plain
  plain = program_at program layer

  abbrev config_kept : IsKept (program_at program layer) s.config
  config_kept = run_is_kept keep program layer store c moves s.config fit runs

  -- the action of a thread outside, as the conditions speak of it
  module _ (fits : HaveSorts s.shadow.store.values (map (λ (g : Global). g.sort) program.globals)) (d : Config) (thread : Running) (at : slice_get s.config.threads m.thread ≡ Some thread) (outside : frame_of_layer program (layer + 1) thread ≡ None) (f : Fires (program_at program layer) s.config.store m.choices thread d.store) where
    abbrev x : Invoked
    x = record { action = f.action; inputs = f.args; chosen = m.choices }

    abbrev before : StandsBefore program layer s.config m.thread (record { action = f.action; inputs = f.args; chosen = m.choices })
    before = record { thread = thread; there = at; next = f.next }

    -- the action is one of the program, and is in both programs of the step
    pub record Lasts : Type 0 where
      pub number : ℕ
      pub invoked : IsInvoked program number (record { action = f.action; inputs = f.args; chosen = m.choices })
      pub lasts : lasts_through (layer + 1) f.action ≡ true
      pub exists : exists_in layer (action_range f.action) ≡ true

    lasting : Lasts
    lasting =
        let own = before_owns program layer s.config c.linear (are_writable program c.written) (layered_is_plain program c.layered layer) (kept keep program layer store c) config_kept m.thread (record { action = f.action; inputs = f.args; chosen = m.choices }) before in
        let n = meant_begins program c.layered layer f.action own.meant_so in
        let b = c.below in
        let sorted = all_at (ThreadIsSorted plain) s.config.threads m.thread thread at config_kept.of_plain.sorted in
        let stacked = all_at (IsStacked plain) s.config.threads m.thread thread at config_kept.of_plain.stacked in
        let above = next_above program c.layered layer (omega (arith, b)) (in_roots program c.yields) c.linear thread sorted stacked outside f.action f.args f.next in
        let last : layer + 1 ≤ f.action.last = leb-true (layer + 1) f.action.last (and_parts (nat_le f.action.first (layer + 1)) (nat_le (layer + 1) f.action.last) above).1 in
        let first = n.2 in
        record {
          number = n.0;
          invoked = record { action = n.1; inputs = own.sorted; chosen = record { fit = mv; are = f.fit } };
          lasts = ap (λ (z : Bool). z && nat_le (layer + 1) f.action.last) (lt-ltb f.action.first (layer + 1) (omega (arith, first))) ∙ le-leb (layer + 1) f.action.last last;
          exists = next_exists program c.layered layer (omega (arith, b)) (in_roots program c.yields) c.linear thread sorted stacked f.action f.args f.next;
        }

    pub steady : IsTrue (invariants_hold program (layer + 1) (seen program layer s)) → IsSteady program (layer + 1) (in_store program (seen program layer s) ++ of_inputs x) (seen program layer s) (merged program layer d.store s.shadow.store)
    steady holds =
        let l = lasting in
        let there = actions_act_as_there program layer l.number s.config.store s.shadow.store f.action f.args m.choices c.layered l.invoked.action l.exists config_kept.of_plain.store fits in
        actions_are_steady program (layer + 1) l.number (seen program layer s) x (merged program layer d.store s.shadow.store, f.outs) (holds_at program layer store c)
        (merged_fit program layer s.config.store s.shadow.store config_kept.of_plain.store fits) l.invoked l.lasts holds (there.gate ∙ f.gate) (there.fires d.store f.outs f.fires)

  -- the permissions of the linear globals are those of the configuration
  carried : IsTrue (invariants_hold program (layer + 1) (seen program layer s)) → HaveSorts s.shadow.store.values (map (λ (g : Global). g.sort) program.globals) → in_store program (seen program layer s) ≡ in_store program s.config.store
  carried holds fits = let b = c.below in merged_carry program layer s.config.store s.shadow.store c.layered (omega (arith, b)) config_kept.of_plain.store fits

-- what a thread hands over to an action is apart from what the linear globals carry
one_apart : ActionsKeepPermissions → (program : Program) (layer : ℕ) (store : Store) (moves : List Move) (config : Config) → IsChecked program layer store → All IsMove moves → RunsTo (program_at program layer) moves (start (program_at program layer) store) config
    → (t : ℕ) (x : Invoked) → StandsBefore program layer config t x → pairwise_disjoint (in_store program config.store ++ of_inputs x) ≡ true
one_apart keep program layer store moves config c fit runs t x before =
    let h = run_is_kept keep program layer store c moves config fit runs in
    let own = before_owns program layer config c.linear (are_writable program c.written) (layered_is_plain program c.layered layer) (kept keep program layer store c) h t x before in
    disjoint_by (in_store program config.store ++ of_inputs x) (λ p.
    let all = counts_of (of_globals program.globals config.store.values ++ flat_map (owned program) config.threads) h.parted p in
    let a = carriers_joined p (of_globals program.globals config.store.values) (flat_map (owned program) config.threads) in
    let b = carriers_joined p (of_globals program.globals config.store.values) (of_inputs x) in
    let k = own.owned_all p in
    let z = one_own program config.threads t before.thread before.there p in
    omega (arith, all, a, b, k, z))

pub steps_outside_keep_calm : ActionsKeepPermissions → SpawnsAreInRoots → StepsOutsideKeepCalm
steps_outside_keep_calm keep in_roots program layer store moves s m d c fit runs mv e none after calm =
    subst (AllIsCalm program layer) (sym (outside_shadow program layer s m d e none after)) (record { fits = calm.fits; calm = behind })
  where
    plain : Plain
    plain = program_at program layer

    step : ℕ
    step = layer + 1

    next : Store
    next = merged program layer d.store s.shadow.store

    left : Leaves (program_at program layer) s.config m d
    left = leaves (program_at program layer) s.config m d e

    outside : frame_of_layer program (layer + 1) left.thread ≡ None
    outside = sym (ap (frame_in program (layer + 1)) left.there) ∙ none

    -- what other threads rely on
    frame_kept : (u : ℕ) → u ≢ m.thread → (f : Proc × Activation) → frame_at program (layer + 1) s.config.threads u ≡ Some f → Fires (program_at program layer) s.config.store m.choices left.thread d.store
        → FrameIsCalm program (layer + 1) (merged program layer d.store s.shadow.store) (s.shadow.done u) (Some f)
    frame_kept u n f is fires y cut stands =
        let r = thread_of program (layer + 1) s.config.threads u f is in
        let x : Invoked = record { action = fires.action; inputs = fires.args; chosen = m.choices } in
        let top = topmost program (layer + 1) r.0.state f r.2 in
        let h = run_is_kept keep program layer store c moves s.config fit runs in
        let k = known program layer s.config c.layered c.linear h u r.0 top.below f r.1 top.is top.of.there in
        let sorts = subst (λ (q : Proc). HaveSorts f.1.locals (frame_sorts q)) k.proc k.locals.locals in
        let apart = pauses_are_apart keep program layer store moves s.config c fit runs m.thread u x r.0 f y cut (λ q. n (sym q)) (record { thread = left.thread; there = left.there; next = fires.next }) r.1 r.2 stands in
        let carry = carried keep in_roots program layer store moves s m c fit runs mv calm.calm.invariants calm.fits in
        (steady keep in_roots program layer store moves s m c fit runs mv calm.fits d left.thread left.there outside fires calm.calm.invariants).yields f.1.procedure y f.0 cut (record { locals = f.1.locals; done = s.shadow.done u })
        (record { at = stands.at; yields = stands.yields; locals = sorts })
        (subst (λ (ps : List (List ℕ)). pairwise_disjoint ((ps ++ of_inputs x) ++ of_held (held_at program f.0 y) f.1.locals) ≡ true) (sym carry) apart)
        (subst (λ (o : Option (Proc × Activation)). FrameIsCalm program (layer + 1) (seen program layer s) (s.shadow.done u) o) is (calm.calm.frames u (λ q. none-some u q)) y cut stands)

    -- of each other thread, in either case
    frame_calm : (u : ℕ) → u ≢ m.thread → FrameIsCalm program (layer + 1) (merged program layer d.store s.shadow.store) (s.shadow.done u) (frame_at program (layer + 1) s.config.threads u)
    frame_calm u n = go left.store
      where
        by_frame : Fires (program_at program layer) s.config.store m.choices left.thread d.store → (o : Option (Proc × Activation)) → frame_at program (layer + 1) s.config.threads u ≡ o → FrameIsCalm program (layer + 1) (merged program layer d.store s.shadow.store) (s.shadow.done u) o
        by_frame fires None is = tt
        by_frame fires (Some f) is = frame_kept u n f is fires

        go : (d.store ≡ s.config.store) ⊎ Fires (program_at program layer) s.config.store m.choices left.thread d.store → FrameIsCalm program (layer + 1) (merged program layer d.store s.shadow.store) (s.shadow.done u) (frame_at program (layer + 1) s.config.threads u)
        go (inl same) = subst (λ (g : Store). FrameIsCalm program (layer + 1) (merged program layer g s.shadow.store) (s.shadow.done u) (frame_at program (layer + 1) s.config.threads u)) (sym same) (calm.calm.frames u (λ q. none-some u q))
        go (inr fires) = by_frame fires (frame_at program (layer + 1) s.config.threads u) refl

    all_hold : IsTrue (invariants_hold program (layer + 1) (merged program layer d.store s.shadow.store))
    all_hold = go left.store
      where
        go : (d.store ≡ s.config.store) ⊎ Fires (program_at program layer) s.config.store m.choices left.thread d.store → IsTrue (invariants_hold program (layer + 1) (merged program layer d.store s.shadow.store))
        go (inl same) = subst (λ (g : Store). IsTrue (invariants_hold program (layer + 1) (merged program layer g s.shadow.store))) (sym same) calm.calm.invariants
        go (inr fires) = (steady keep in_roots program layer store moves s m c fit runs mv calm.fits d left.thread left.there outside fires calm.calm.invariants).invariants apart
          where
            apart : pairwise_disjoint (in_store program (seen program layer s) ++ of_inputs (record { action = fires.action; inputs = fires.args; chosen = m.choices })) ≡ true
            apart =
                subst (λ (ps : List (List ℕ)). pairwise_disjoint (ps ++ of_inputs (record { action = fires.action; inputs = fires.args; chosen = m.choices })) ≡ true) (sym (carried keep in_roots program layer store moves s m c fit runs mv calm.calm.invariants calm.fits))
                (one_apart keep program layer store moves s.config c fit runs m.thread (record { action = fires.action; inputs = fires.args; chosen = m.choices }) (record { thread = left.thread; there = left.there; next = fires.next }))

    behind : IsCalm program (layer + 1) (merged program layer d.store s.shadow.store) (with_done s.shadow.done m.thread false) d.threads None
    behind = record {
      invariants = all_hold;
      frames = λ u q. by_thread u (cases_of u m.thread);
    }
      where
        by_thread : (u : ℕ) → (u ≡ m.thread) ⊎ (u ≢ m.thread) → FrameIsCalm program (layer + 1) (merged program layer d.store s.shadow.store) (with_done s.shadow.done m.thread false u) (frame_at program (layer + 1) d.threads u)
        by_thread u (inl same) =
            subst (FrameIsCalm program (layer + 1) (merged program layer d.store s.shadow.store) (with_done s.shadow.done m.thread false u)) (sym (ap (frame_at program (layer + 1) d.threads) same ∙ after)) tt
        by_thread u (inr n) =
            subst (λ (b : Bool). FrameIsCalm program (layer + 1) (merged program layer d.store s.shadow.store) b (frame_at program (layer + 1) d.threads u)) (sym (done_other s.shadow.done m.thread false u n))
            (subst (FrameIsCalm program (layer + 1) (merged program layer d.store s.shadow.store) (s.shadow.done u)) (sym (left.others (layer + 1) u n)) (frame_calm u n))

-- What an outline says stays along runs of the topmost program, and where it holds nothing fails.
use Rattle.std.proofs.Common.{◌≡◌, ℕ, zero, suc, ◌≤◌, Bool, true, false, not, ◌||◌, List, [], ◌∷◌, ◌++◌, map, Option, Some, None, refl, sym, ap, ◌∙◌, subst, inl, inr, arith}
use Rattle.std.specs.Prelude.{slice_get, slice_set, All, flat_map}
use Rattle.std.specs.List.{list_any}
use Rattle.std.specs.Option.{option_map, option_map_or}
use Rattle.std.proofs.lemmas.Bool.{and_from, lt-ltb, false≢true, true≢false, not-false}
use Rattle.std.proofs.lemmas.Option.{same_Some}
use Rattle.std.proofs.lemmas.List.Elements.{All-nil, All-head, All-tail, All-push, All-map}
use Rattle.civl_bits.specs.Value.{IsValue}
use Rattle.civl_bits.specs.declared.value.Value.{Value}
use Rattle.civl_firing.specs.values.Values.{HaveSorts}
use Rattle.civl_tree.specs.declared.action.Action.{Action}
use Rattle.civl_tree.specs.declared.program.Proc.{Proc}
use Rattle.civl_tree.specs.declared.program.Program.{Program}
use Rattle.civl_tree.specs.declared.program.Thread.{Thread}
use Rattle.civl_tree.specs.Numbering.{sizes_of, statement_at}
use Rattle.civl_tree.specs.rules.Names.{proc_named}
use Rattle.civl_tree.specs.rules.Rules.{Keeps}
use Rattle.civl_tree.specs.rules.Uses.{param_sorts}
use Rattle.civl_tree.proofs.Bools.{not_second}
use Rattle.civl_tree.proofs.Lists.{all_by_get}
use Rattle.civl_outlines.specs.declared.outline.Outline.{Outline}
use Rattle.civl_firing.specs.declared.store.Store.{Store}
use Rattle.civl_firing.specs.Stores.{IsStore}
use Rattle.civl_firing.specs.Eval.{values_of}
use Rattle.civl_firing.specs.Scope.{global_values}
use Rattle.civl_meaning.specs.declared.config.Move.{Move}
use Rattle.civl_meaning.specs.declared.config.Plain.{Plain}
use Rattle.civl_meaning.specs.declared.config.Activation.{Activation}
use Rattle.civl_meaning.specs.declared.config.State.{State}
use Rattle.civl_meaning.specs.declared.config.State.TheVariants.{Before, Inside, After}
use Rattle.civl_meaning.specs.declared.config.Running.{Running}
use Rattle.civl_meaning.specs.declared.config.Config.{Config}
use Rattle.civl_meaning.specs.declared.config.Stepped.{Stepped}
use Rattle.civl_meaning.specs.declared.config.Change.{Change}
use Rattle.civl_meaning.specs.declared.config.Change.TheVariants.{Stays, Goes, Acts, Enters, Leaves, Spawns}
use Rattle.civl_meaning.specs.Initial.{IsInitial}
use Rattle.civl_meaning.specs.Permissions.{pairwise_disjoint}
use Rattle.civl_meaning.specs.Places.{Spot, spot_at}
use Rattle.civl_meaning.specs.Meaning.{Meaning, Runs, proc_number, meaning_of}
use Rattle.civl_meaning.specs.Layers.{topmost}
use Rattle.civl_meaning.specs.Change.{new_frame, done_by, call_doing, spot_doing, proc_doing, state_doing, change_of}
use Rattle.civl_meaning.specs.Step.{begun, start, goes_on, enters, left, moves_on, thread_after, step_with, step_in, step_of}
use Rattle.civl_meaning.specs.Run.{RunsTo}
use Rattle.civl_meaning.specs.Failing.{IsMove, CanFail, fails_at, thread_fails, is_failing}
use Rattle.civl_meaning.specs.Config.{IsPlain, IsBegun, HasLocals, IsPlaced, IsBodyOf, StateIsSorted, StateIsStacked, ThreadIsSorted, IsStacked, frame_sorts}
use Rattle.civl_meaning.proofs.Begun.{proc_is}
use Rattle.civl_layers.specs.Layered.{IsLayered}
use Rattle.civl_layers.proofs.PlainPrograms.{layered_is_plain}
use Rattle.civl_linear.specs.LinearRules.{linear_rules}
use Rattle.civl_yields.specs.YieldRules.{yield_rules}
use Rattle.civl_conditions.specs.Permissions.{in_store}
use Rattle.civl_conditions.specs.Invariants.{meets_init}
use Rattle.civl_conditions.specs.Movers.{on_some}
use Rattle.civl_condition_laws.proofs.Gathering.{fit_named}
use Rattle.civl_soundness.proofs.Fitting.{all_at}
use Rattle.civl_soundness.proofs.Scopes.{new_locals}
use Rattle.civl_reduction.specs.permissions.Apart.{SpawnsStandInRoots}
use Rattle.civl_reduction.specs.permissions.Owned as owned
use Rattle.civl_reduction.specs.permissions.Stay.{KeepsPermissions}
use Rattle.civl_reduction.proofs.permissions.Counting.{carriers}
use Rattle.civl_reduction.proofs.permissions.Changing.{Meant, AreWritable, owns, Kept}
use Rattle.civl_reduction.proofs.permissions.Threads.{thread_kept}
use Rattle.civl_reduction.proofs.permissions.Staying.{IsKept, step_kept}
use Rattle.civl_reduction.proofs.permissions.Reaching.{start_kept}
use Rattle.civl_goals.specs.declared.goal.Goal.TheVariants as goal
use Rattle.civl_goals.specs.Outlines.{invariant_holds, note_holds}
use Rattle.civl_goals.specs.Variables.{variables, choices_at}
use Rattle.civl_goals.specs.Listed.{is_root, has_statement, begins}
use Rattle.civl_goals.specs.Failed as failing
use Rattle.civl_goals.specs.Failed.{owned_in, does, failed}
use Rattle.civl_safety.specs.Outlined.{IsOutlined}
use Rattle.civl_safety.specs.Stands.{StateStands, ThreadStands, Stands}
use Rattle.civl_safety.proofs.Listing.{set_all}
use Rattle.civl_safety.proofs.Fitting.{written}
use Rattle.civl_safety.proofs.Listed.{invariant_listed, thread_listed}
use Rattle.civl_safety.proofs.Rooting.{root_runs, root_spot, callee_root}
use Rattle.civl_safety.proofs.Owning.{owned_less, frame_apart, frames_apart}
use Rattle.civl_safety.proofs.Concluding.{IsAssumed}
use Rattle.civl_safety.proofs.Stepping.{by_note, offered, stays, Here, LedTo, led, safe}

none_any : {A : Type 0} (test : A → Bool) (xs : List A) → ((i : ℕ) (x : A) → slice_get xs i ≡ Some x → test x ≡ false) → list_any test xs ≡ false
none_any test [] h = refl
none_any test (x ∷ xs) h = go (test x) (h zero x refl) (none_any test xs (λ i y e. h (suc i) y e))
  where
    go : (b : Bool) → b ≡ false → list_any test xs ≡ false → (b || list_any test xs) ≡ false
    go true e k = absurd (true≢false e)
    go false e k = k

module _ (program : Program) (outline : Outline) (layered : IsLayered program) (linear : Keeps linear_rules program) (yields : Keeps yield_rules program) (writable : AreWritable program)
    (roots : SpawnsStandInRoots program) (keeps : (action : Action) → Meant (topmost program) action → KeepsPermissions program action) (o : IsOutlined program outline) where
  abbrev plain : Plain
  plain = topmost program

  ok : IsPlain (topmost program)
  ok = layered_is_plain program layered program.layers

  -- ---- threads and their frames

  -- a thread's procedure is a root
  begins_root : (thread : Running) (b : IsBegun plain thread) → is_root b.proc ≡ true
  begins_root thread b = callee_root program layered o.flat roots thread.callee b.begins b.proc b.there

  begins_body : (thread : Running) (b : IsBegun plain thread) → meaning_of plain thread.callee ≡ Runs thread.callee b.proc
  begins_body thread b = root_runs program layered thread.callee b.proc b.there (begins_root thread b)

  -- so is that of its frame
  frame_root : (thread : Running) (frame : Activation) (b : IsBegun plain thread) → IsBodyOf frame.procedure (meaning_of plain thread.callee) → (proc : Proc) → slice_get program.procs frame.procedure ≡ Some proc → is_root proc ≡ true
  frame_root thread frame b body proc at =
      let number : thread.callee ≡ frame.procedure = subst (IsBodyOf frame.procedure) (begins_body thread b) body in
      callee_root program layered o.flat roots thread.callee b.begins proc (ap (slice_get program.procs) number ∙ at)

  -- a thread before its first step owns what its first frame will
  first_owned : (store : Store) → IsStore program.globals store → (thread : Running) (b : IsBegun plain thread) → (proc : Proc) → slice_get program.procs thread.callee ≡ Some proc → (p : ℕ) → carriers p (owned_in program (new_frame thread.callee proc thread.args)) ≤ owns program thread Before p
  first_owned store fit thread b proc at p =
      let same : b.proc ≡ proc = same_Some b.proc proc (sym b.there ∙ at) in
      let sorts = new_locals program layered.rules thread.callee proc at thread.args (subst (λ (q : Proc). HaveSorts thread.args (param_sorts q.params)) same b.args) in
      let less = owned_less program (new_frame thread.callee proc thread.args) proc at sorts p in
      let enters = subst (λ (m : Meaning). Kept program store waiting Before (done_by plain store [] (call_doing [] [] [] 0 0 m thread.args))) (begins_body thread b ∙ ap (Runs thread.callee) same)
      (thread_kept plain ok linear writable keeps store fit [] (All-nil IsValue) waiting (record { proc = b.proc; there = b.there; args = b.args; begins = b.begins }) tt tt) in
      let more = enters.0 p in
      omega (arith, less, more)
    where
      waiting : Running
      waiting = record { callee = thread.callee; args = thread.args; state = Before }

  -- ---- one step

  module _ (store : Store) (fit : IsStore program.globals store) (threads : List Running) (invariant : invariant_holds program outline store ≡ true)
      (parted : pairwise_disjoint (in_store program store ++ flat_map (owned.owned program) threads) ≡ true) (sorted : All (ThreadIsSorted plain) threads) (stacked : All (IsStacked plain) threads) (stand : All (ThreadStands program outline store) threads)
      (t : ℕ) (thread : Running) (at : slice_get threads t ≡ Some thread) (chosen : List Value) (fits : All IsValue chosen) where
    abbrev Facts : State → Change → Type 0
    Facts state (Stays a) = Unit {0}
    Facts state (Goes locals place) = StateStands program outline store thread (goes_on state locals place)
    Facts state (Acts after locals place) =
        (invariant_holds program outline after ≡ true) × StateStands program outline after thread (goes_on state locals place)
        × ((u : ℕ) (other : Running) → (u ≡ t → ⊥) → slice_get threads u ≡ Some other → ThreadStands program outline after other)
    Facts state (Enters frame place) = StateStands program outline store thread (enters state frame place)
    Facts state (Leaves frame) = StateStands program outline store thread (left state frame)
    Facts state (Spawns new place) = StateStands program outline store thread (moves_on state place) × ThreadStands program outline store new

    -- another thread still stands at a place whose note holds
    module _ (frame : Activation) (own : (p : ℕ) → carriers p (owned_in program frame) ≤ owns program thread thread.state p) (after : Store)
        (kept : (k s : ℕ) (other : Proc) (rest : List Value) → slice_get program.procs k ≡ Some other → HaveSorts rest (frame_sorts other) → note_holds program outline store (record { procedure = k; place = s; locals = rest }) ≡ true
        → pairwise_disjoint (in_store program store ++ (owned_in program frame ++ owned_in program (record { procedure = k; place = s; locals = rest }))) ≡ true → note_holds program outline after (record { procedure = k; place = s; locals = rest }) ≡ true) where
      other_state : (u : ℕ) (other : Running) → (u ≡ t → ⊥) → slice_get threads u ≡ Some other → (state : State) → ((p : ℕ) → owns program other state p ≤ owns program other other.state p) → StateIsSorted plain other state → StateStands program outline store other state → StateStands program outline after other state
      other_state u other n there Before less b h =
          λ proc is.
          let same : b.proc ≡ proc = same_Some b.proc proc (sym b.there ∙ is) in
          let sorts = new_locals program layered.rules other.callee proc is other.args (subst (λ (q : Proc). HaveSorts other.args (param_sorts q.params)) same b.args) in
          kept other.callee 0 proc _ is sorts (h proc is)
          (frames_apart program store threads parted t u thread other frame (new_frame other.callee proc other.args) (λ q. n (sym q)) at there own
          (λ p. let one = first_owned store fit other b proc is p in let two = less p in omega (arith, one, two)))
      other_state u other n there (Inside [] beside) less b h =
          let l = b.2 in (
            refl,
            kept beside.procedure beside.place l.proc beside.locals l.there l.locals h.1
                (frames_apart program store threads parted t u thread other frame beside (λ q. n (sym q)) at there own
                (λ p. let one = owned_less program beside l.proc l.there l.locals p in let two = less p in omega (arith, one, two))),
          )
      other_state u other n there (Inside (x ∷ xs) beside) less b h = absurd (let e = h.0 in cc)
      other_state u other n there After less b h = tt

      others_stand : (u : ℕ) (other : Running) → (u ≡ t → ⊥) → slice_get threads u ≡ Some other → ThreadStands program outline after other
      others_stand u other n there =
          other_state u other n there other.state (λ p. omega arith) (all_at (ThreadIsSorted plain) threads u other there sorted) (all_at (ThreadStands program outline store) threads u other there stand)

    -- a thread in its frame
    module _ (frame : Activation) (own : (p : ℕ) → owns program thread (Inside [] frame) p ≤ owns program thread thread.state p) (b : IsBegun plain thread) (has : HasLocals plain frame) (placed : IsPlaced plain frame)
        (body : IsBodyOf frame.procedure (meaning_of plain thread.callee)) (noted : note_holds program outline store frame ≡ true) where
      root : is_root has.proc ≡ true
      root = frame_root thread frame b body has.proc has.there

      less : (p : ℕ) → carriers p (owned_in program frame) ≤ owns program thread thread.state p
      less p = let one = owned_less program frame has.proc has.there has.locals p in let two = own p in omega (arith, one, two)

      within : frame.place ≤ sizes_of has.proc.body
      within = subst (λ (q : Proc). frame.place ≤ sizes_of q.body) (same_Some placed.proc has.proc (sym placed.there ∙ has.there)) placed.place

      module _ (spot : Spot) (found : spot_at has.proc.body frame.place ≡ Some spot) where
        stood : statement_at has.proc.body frame.place ≡ Some spot.stmt
        stood = (root_spot program layered yields frame.procedure has.proc has.there root frame.place within spot found).1

        is : IsAssumed program layered outline o frame.procedure has.proc has.there root frame.place spot found stood store fit frame.locals has.locals
        is = record { invariant = invariant; note = noted; apart = frame_apart program store threads parted t thread frame at less }

        by_led : (cs : List Value) (choices : HaveSorts cs (map (λ c. c.sort) (choices_at program frame.procedure frame.place))) (c : Change) → LedTo program layered outline o frame.procedure has.proc has.there root frame.place spot found stood store fit frame.locals has.locals is o.flat cs choices c → Facts (Inside [] frame) c
        by_led cs choices (Stays a) h = tt
        by_led cs choices (Goes locals place) h = (refl, h)
        by_led cs choices (Acts after locals place) h = (h.0, (refl, h.1), others_stand frame less after h.2)
        by_led cs choices (Enters top place) h = absurd h
        by_led cs choices (Leaves k) h = subst (λ (f : Option Activation). StateStands program outline store thread (left (Inside [] frame) f)) (sym h) tt
        by_led cs choices (Spawns new place) h = ((refl, h.0), subst (StateStands program outline store new) (sym h.1) h.2)

        by_stays : (c : Change) → stays program layered outline o frame.procedure has.proc has.there root frame.place spot found stood store fit frame.locals has.locals is c ≡ true → Facts (Inside [] frame) c
        by_stays (Stays a) h = tt
        by_stays _ h = absurd (false≢true h)

        step_facts : Facts (Inside [] frame) (does program store frame chosen)
        step_facts = by_offer (offered program layered outline o frame.procedure has.proc has.there root frame.place spot found stood store fit frame.locals has.locals is chosen fits)
          where
            by_offer : Here program layered outline o frame.procedure has.proc has.there root frame.place spot found stood store fit frame.locals has.locals is chosen → Facts (Inside [] frame) (does program store frame chosen)
            by_offer (inl h) = by_stays (does program store frame chosen) h
            by_offer (inr c) =
                subst (Facts (Inside [] frame)) (sym c.1)
                (by_led c.0.0 c.0.1 (does program store frame c.0.0) (led program layered outline o frame.procedure has.proc has.there root frame.place spot found stood store fit frame.locals has.locals is o.flat c.0.0 c.0.1))

        spot_safe : fails_at plain store (proc_doing plain None frame (slice_get program.procs frame.procedure)) ≡ false
        spot_safe = safe program layered outline o frame.procedure has.proc has.there root frame.place spot found stood store fit frame.locals has.locals is

      frame_facts : Facts (Inside [] frame) (does program store frame chosen)
      frame_facts = by_spot (spot_at has.proc.body frame.place) refl
        where
          by_spot : (q : Option Spot) → spot_at has.proc.body frame.place ≡ q → Facts (Inside [] frame) (does program store frame chosen)
          by_spot (Some spot) e = step_facts spot e
          by_spot None e =
              subst (Facts (Inside [] frame)) (sym (ap (λ (x : Option Proc). done_by plain store chosen (proc_doing plain None frame x)) has.there ∙ ap (λ (x : Option Spot). done_by plain store chosen (spot_doing plain None frame has.proc x)) e)) tt

      frame_safe : fails_at plain store (proc_doing plain None frame (slice_get program.procs frame.procedure)) ≡ false
      frame_safe = by_spot (spot_at has.proc.body frame.place) refl
        where
          by_spot : (q : Option Spot) → spot_at has.proc.body frame.place ≡ q → fails_at plain store (proc_doing plain None frame (slice_get program.procs frame.procedure)) ≡ false
          by_spot (Some spot) e = spot_safe spot e
          by_spot None e = ap (λ (x : Option Proc). fails_at plain store (proc_doing plain None frame x)) has.there ∙ ap (λ (x : Option Spot). fails_at plain store (spot_doing plain None frame has.proc x)) e

    facts : (state : State) → ((p : ℕ) → owns program thread state p ≤ owns program thread thread.state p) → StateIsSorted plain thread state → StateIsStacked plain thread.callee state → StateStands program outline store thread state → Facts state (done_by plain store chosen (state_doing plain thread state))
    facts Before own b s h = subst (λ (m : Meaning). Facts Before (done_by plain store chosen (call_doing [] [] [] 0 0 m thread.args))) (sym (begins_body thread b)) (refl, h b.proc b.there)
    facts (Inside [] frame) own b s h = frame_facts frame own b.0 b.2 s.topmost s.first h.1
    facts (Inside (x ∷ xs) frame) own b s h = absurd (let e = h.0 in cc)
    facts After own b s h = tt

    thread_facts : Facts thread.state (change_of plain store chosen thread)
    thread_facts = facts thread.state (λ p. omega arith) (all_at (ThreadIsSorted plain) threads t thread at sorted) (all_at (IsStacked plain) threads t thread at stacked) (all_at (ThreadStands program outline store) threads t thread at stand)

    safe_state : (state : State) → ((p : ℕ) → owns program thread state p ≤ owns program thread thread.state p) → StateIsSorted plain thread state → StateIsStacked plain thread.callee state → StateStands program outline store thread state → fails_at plain store (state_doing plain thread state) ≡ false
    safe_state Before own b s h = ap (λ (m : Meaning). fails_at plain store (call_doing [] [] [] 0 0 m thread.args)) (begins_body thread b)
    safe_state (Inside [] frame) own b s h = frame_safe frame own b.0 b.2 s.topmost s.first h.1
    safe_state (Inside (x ∷ xs) frame) own b s h = absurd (let e = h.0 in cc)
    safe_state After own b s h = refl

    thread_safe : thread_fails plain store thread ≡ false
    thread_safe = safe_state thread.state (λ p. omega arith) (all_at (ThreadIsSorted plain) threads t thread at sorted) (all_at (IsStacked plain) threads t thread at stacked) (all_at (ThreadStands program outline store) threads t thread at stand)

    -- ---- the configuration behind it

    abbrev Leads : Config → Type 0
    Leads config = (invariant_holds program outline config.store ≡ true) × All (ThreadStands program outline config.store) config.threads

    put : (new : Running) → ThreadStands program outline store new → All (ThreadStands program outline store) (slice_set threads t new)
    put new h = set_all (ThreadStands program outline store) threads t new h (λ u x n e. all_at (ThreadStands program outline store) threads u x e stand)

    leads : (c : Change) → Facts thread.state c → Leads (step_with (record { store = store; threads = threads }) t thread c).1
    leads (Stays a) h = (invariant, stand)
    leads (Goes locals place) h = (invariant, put (thread_after thread (Goes locals place)) h)
    leads (Acts after locals place) h = (h.0, set_all (ThreadStands program outline after) threads t (thread_after thread (Acts after locals place)) h.1 h.2)
    leads (Enters frame place) h = (invariant, put (thread_after thread (Enters frame place)) h)
    leads (Leaves frame) h = (invariant, put (thread_after thread (Leaves frame)) h)
    leads (Spawns new place) h = (invariant, All-push (ThreadStands program outline store) (slice_set threads t (thread_after thread (Spawns new place))) new (put (thread_after thread (Spawns new place)) h.0) h.1)

    pub step_leads : Leads (step_with (record { store = store; threads = threads }) t thread (change_of plain store chosen thread)).1
    step_leads = leads (change_of plain store chosen thread) thread_facts

  -- ---- configurations

  pub record Holds (config : Config) : Type 0 where
    pub kept : IsKept plain config
    pub invariant : invariant_holds program outline config.store ≡ true
    pub stand : All (ThreadStands program outline config.store) config.threads

  abbrev There : Config → Type 0
  There c = (invariant_holds program outline c.store ≡ true) × All (ThreadStands program outline c.store) c.threads

  pub step_holds : (config : Config) (move : Move) → IsMove move → Holds config → Holds (step_of plain config move).1
  step_holds config move fits h = record { kept = kept; invariant = there.0; stand = there.1 }
    where
      kept : IsKept plain (step_of plain config move).1
      kept = step_kept plain ok linear writable keeps config move fits h.kept

      in_there : (q : Option Running) → slice_get config.threads move.thread ≡ q → There (step_in plain config move q).1
      in_there None e = (h.invariant, h.stand)
      in_there (Some thread) e = step_leads config.store h.kept.of_plain.store config.threads h.invariant h.kept.parted h.kept.of_plain.sorted h.kept.of_plain.stacked h.stand move.thread thread e move.choices fits

      there : There (step_of plain config move).1
      there = in_there (slice_get config.threads move.thread) refl

  pub run_holds : (moves : List Move) (from to : Config) → All IsMove moves → RunsTo plain moves from to → Holds from → Holds to
  run_holds [] from to fits r h = subst Holds r h
  run_holds (m ∷ ms) from to fits r h =
      let k : Holds r.0 = subst (λ (s : Stepped × Config). Holds s.1) r.1 (step_holds from m (All-head IsMove m ms fits) h) in
      run_holds ms r.0 to (All-tail IsMove m ms fits) r.2 k

  -- nothing fails
  pub holds_safe : (config : Config) → Holds config → is_failing plain config ≡ false
  holds_safe config h =
      none_any (thread_fails plain config.store) config.threads (λ t thread at.
      thread_safe config.store h.kept.of_plain.store config.threads h.invariant h.kept.parted h.kept.of_plain.sorted h.kept.of_plain.stacked h.stand t thread at [] (All-nil IsValue))

  -- ---- the start

  module _ (store : Store) (initial : IsInitial program store) where
    starts : meets_init program store ≡ true
    starts = and_from _ _ initial.init_holds initial.disjoint

    start_invariant : invariant_holds program outline store ≡ true
    unfolding failed variables
    start_invariant =
        not-false (invariant_holds program outline store)
        (not_second (meets_init program store) _ starts (o.hold goal.Invariant (invariant_listed program outline) store.values (fit_named (λ x. x.name) (λ x. x.sort) [] program.globals store.values initial.store_fits)))

    thread_goal : (i : ℕ) (thread : Thread) → slice_get program.threads i ≡ Some thread → begins program thread.callee ≡ true → failing.thread_fails program outline store thread ≡ false
    unfolding failed variables
    thread_goal i thread at b =
        sym (ap (λ (q : Option Thread). option_map_or (failing.thread_fails program outline store) q false) at)
        ∙ not_second (meets_init program store) _ starts
        (o.hold (goal.Thread i) (thread_listed program outline i thread at b) store.values (fit_named (λ x. x.name) (λ x. x.sort) [] program.globals store.values initial.store_fits))

    begun_stands : (i : ℕ) (thread : Thread) → slice_get program.threads i ≡ Some thread → ThreadStands program outline store (begun program store thread)
    begun_stands i thread at =
        λ proc there.
        by_note program outline store (new_frame (proc_number program thread.callee) proc (values_of (global_values program.globals store) thread.args)) proc there (λ note w.
        let known = written program outline o.fits (proc_number program thread.callee) 0 proc there note w in
        let named : proc_named program thread.callee ≡ Some proc = sym (proc_is program thread.callee) ∙ there in
        let some : begins program thread.callee ≡ true = ap (λ (p : Option Proc). option_map_or has_statement p false) named ∙ lt-ltb 0 (sizes_of proc.body) known.within in
        not-false _
        (sym (ap (λ (p : Option Proc). on_some (option_map (λ q. new_frame (proc_number program thread.callee) q (values_of (global_values program.globals store) thread.args)) p) (λ first. not (note_holds program outline store first))) there)
        ∙ thread_goal i thread at some))

    pub start_holds : Holds (start plain store)
    start_holds = record {
      kept = start_kept program program.layers store layered initial;
      invariant = start_invariant;
      stand = All-map (ThreadStands program outline store) (begun program store) program.threads (all_by_get (λ (t : Thread). ThreadStands program outline store (begun program store t)) program.threads begun_stands);
    }

  -- ---- runs

  pub what_stands : (store : Store) → IsInitial program store → (moves : List Move) (config : Config) → All IsMove moves → RunsTo plain moves (start plain store) config → Stands program outline config
  what_stands store initial moves config fits runs =
      let h = run_holds moves (start plain store) config fits runs (start_holds store initial) in
      record { invariant = h.invariant; parted = h.kept.parted; threads = h.stand }

  pub cannot_fail : (store : Store) → IsInitial program store → CanFail plain store → ⊥
  cannot_fail store initial f =
      let end = run_holds f.0 (start plain store) f.1 f.2 f.3 (start_holds store initial) in
      true≢false (sym f.4 ∙ holds_safe f.1 end)

-- Configurations stay parted.
use Rattle.std.proofs.Common.{◌≡◌, ℕ, zero, suc, ◌+◌, ◌-◌, ◌<◌, ◌≤◌, true, List, [], ◌∷◌, ◌++◌, refl, sym, ap, subst, arith, Option, None, Some, slice_get, slice_set}
use Rattle.std.specs.Prelude.{All, flat_map}
use Rattle.std.proofs.lemmas.Option.{same_Some, none-some}
use Rattle.std.proofs.lemmas.List.Elements.{All-head, All-tail, All-set, All-push}
use Rattle.std.proofs.lemmas.Grind.{flat_map-append}
use Rattle.civl_tree.specs.declared.action.Action.{Action}
use Rattle.civl_tree.specs.declared.program.Program.{Program}
use Rattle.civl_tree.specs.rules.Rules.{Keeps}
use Rattle.civl_firing.specs.declared.store.Store.{Store}
use Rattle.civl_meaning.specs.declared.config.Move.{Move}
use Rattle.civl_meaning.specs.declared.config.Plain.{Plain}
use Rattle.civl_meaning.specs.declared.config.Running.{Running}
use Rattle.civl_meaning.specs.declared.config.Config.{Config}
use Rattle.civl_meaning.specs.declared.config.Stepped.{Stepped}
use Rattle.civl_meaning.specs.declared.config.Change.{Change}
use Rattle.civl_meaning.specs.declared.config.Change.TheVariants.{Stays, Goes, Acts, Enters, Leaves, Spawns}
use Rattle.civl_meaning.specs.Permissions.{pairwise_disjoint, of_globals}
use Rattle.civl_meaning.specs.Change.{change_of}
use Rattle.civl_meaning.specs.Step.{thread_after, step_with, step_in, step_of}
use Rattle.civl_meaning.specs.Run.{RunsTo}
use Rattle.civl_meaning.specs.Failing.{IsMove}
use Rattle.civl_meaning.specs.Config.{IsPlain, IsOf, ThreadIsSorted, IsStacked}
use Rattle.civl_linear.specs.LinearRules.{linear_rules}
use Rattle.civl_soundness.proofs.Fitting.{all_at}
use Rattle.civl_soundness.proofs.Soundness.{step_is_of}
use Rattle.civl_reduction.specs.permissions.Owned.{owned, IsParted}
use Rattle.civl_reduction.specs.permissions.Stay.{KeepsPermissions}
use Rattle.civl_reduction.proofs.permissions.Counting.{carriers, carriers_joined, counts_of, disjoint_by, step_keeps}
use Rattle.civl_reduction.proofs.permissions.Lending.{StateIsLent}
use Rattle.civl_reduction.proofs.permissions.Changing.{Meant, AreWritable, owns, Kept}
use Rattle.civl_reduction.proofs.permissions.Threads.{thread_kept}

-- how often all threads together carry a permission
abbrev pub all_own : Program → List Running → ℕ → ℕ
all_own program threads p = carriers p (flat_map (owned program) threads)

-- one thread put in the place of another
set_owns : (program : Program) (threads : List Running) (t : ℕ) (thread new : Running) → slice_get threads t ≡ Some thread → (p : ℕ) → all_own program (slice_set threads t new) p + owns program thread thread.state p ≡ all_own program threads p + owns program new new.state p
set_owns program [] t thread new e p = absurd (none-some thread e)
set_owns program (r ∷ rs) zero thread new e p =
    let one = carriers_joined p (owned program new) (flat_map (owned program) rs) in
    let two = carriers_joined p (owned program r) (flat_map (owned program) rs) in
    let same : carriers p (owned program r) ≡ carriers p (owned program thread) = ap (λ (x : Running). carriers p (owned program x)) (same_Some r thread e) in
    omega (arith, one, two, same)
set_owns program (r ∷ rs) (suc t) thread new e p =
    let one = carriers_joined p (owned program r) (flat_map (owned program) (slice_set rs t new)) in
    let two = carriers_joined p (owned program r) (flat_map (owned program) rs) in
    let ih = set_owns program rs t thread new e p in
    omega (arith, one, two, ih)

push_owns : (program : Program) (threads : List Running) (new : Running) (p : ℕ) → all_own program (threads ++ new ∷ []) p ≡ all_own program threads p + owns program new new.state p
push_owns program threads new p =
    let one = ap (carriers p) (flat_map-append (owned program) threads (new ∷ [])) in
    let two = carriers_joined p (flat_map (owned program) threads) (owned program new ++ []) in
    let three = carriers_joined p (owned program new) [] in
    omega (arith, one, two, three)

-- what one thread owns
pub one_own : (program : Program) (rs : List Running) (u : ℕ) (thread : Running) → slice_get rs u ≡ Some thread → (p : ℕ) → owns program thread thread.state p ≤ all_own program rs p
one_own program [] u thread e p = absurd (none-some thread e)
one_own program (r ∷ rs) zero thread e p =
    let joined = carriers_joined p (owned program r) (flat_map (owned program) rs) in
    let is : carriers p (owned program r) ≡ carriers p (owned program thread) = ap (λ (x : Running). carriers p (owned program x)) (same_Some r thread e) in
    omega (arith, joined, is)
one_own program (r ∷ rs) (suc u) thread e p =
    let joined = carriers_joined p (owned program r) (flat_map (owned program) rs) in
    let ih = one_own program rs u thread e p in
    omega (arith, joined, ih)

abbrev globals_of : Program → Store → List (List ℕ)
globals_of program store = of_globals program.globals store.values

module _ (program : Program) (store : Store) (threads : List Running) (parted : pairwise_disjoint (globals_of program store ++ flat_map (owned program) threads) ≡ true) where
  counted : (p : ℕ) → carriers p (globals_of program store) + all_own program threads p ≤ 1
  counted p =
      let one = counts_of (globals_of program store ++ flat_map (owned program) threads) parted p in
      let two = carriers_joined p (globals_of program store) (flat_map (owned program) threads) in
      omega (arith, one, two)

  by_counts : (after : Store) (others : List Running) → ((p : ℕ) → carriers p (globals_of program after) + all_own program others p ≤ 1) → pairwise_disjoint (globals_of program after ++ flat_map (owned program) others) ≡ true
  by_counts after others h = disjoint_by (globals_of program after ++ flat_map (owned program) others) (λ p.
      let one = h p in
      let two = carriers_joined p (globals_of program after) (flat_map (owned program) others) in
      omega (arith, one, two))

  module _ (t : ℕ) (thread : Running) (at : slice_get threads t ≡ Some thread) where
    -- a step that leaves the store
    pub still_parted : (new : Running) → ((p : ℕ) → owns program new new.state p ≤ owns program thread thread.state p) → pairwise_disjoint (globals_of program store ++ flat_map (owned program) (slice_set threads t new)) ≡ true
    still_parted new less = by_counts store (slice_set threads t new) (λ p.
        let one = counted p in
        let two = set_owns program threads t thread new at p in
        let three = less p in
        omega (arith, one, two, three))

    -- a spawn
    pub spawned_parted : (new other : Running) → ((p : ℕ) → owns program new new.state p + owns program other other.state p ≤ owns program thread thread.state p) → pairwise_disjoint (globals_of program store ++ flat_map (owned program) (slice_set threads t new ++ other ∷ [])) ≡ true
    spawned_parted new other less = by_counts store (slice_set threads t new ++ other ∷ []) (λ p.
        let one = counted p in
        let two = set_owns program threads t thread new at p in
        let three = push_owns program (slice_set threads t new) other p in
        let four = less p in
        omega (arith, one, two, three, four))

    -- a step of an action
    pub acted_parted : (after : Store) (new : Running) (rest : ℕ → ℕ) (taken given : List (List ℕ)) → ((p : ℕ) → rest p + carriers p taken ≤ owns program thread thread.state p) → ((p : ℕ) → owns program new new.state p ≤ rest p + carriers p given)
        → (pairwise_disjoint (globals_of program store ++ taken) ≡ true → (pairwise_disjoint (globals_of program after ++ given) ≡ true) × ((p : ℕ) → 0 < carriers p (globals_of program after ++ given) → 0 < carriers p (globals_of program store ++ taken)))
        → pairwise_disjoint (globals_of program after ++ flat_map (owned program) (slice_set threads t new)) ≡ true
    acted_parted after new rest taken given low high keeps = by_counts after (slice_set threads t new) (λ p.
        let one = set_owns program threads t thread new at p in
        let two = others p in
        let three = high p in
        let four = carriers_joined p (globals_of program after) given in
        let five = low p in
        let six = counted p in
        let seven = own_there p in
        omega (arith, one, two, three, four, five, six, seven))
      where
        own_there : (p : ℕ) → owns program thread thread.state p ≤ all_own program threads p
        own_there p = one_own program threads t thread at p

        apart : pairwise_disjoint (globals_of program store ++ taken) ≡ true
        apart = disjoint_by (globals_of program store ++ taken) (λ p.
            let one = carriers_joined p (globals_of program store) taken in
            let two = low p in
            let three = counted p in
            let four = own_there p in
            omega (arith, one, two, three, four))

        -- with what the other threads own, and what this one keeps
        others : (p : ℕ) → carriers p (globals_of program after ++ given) + (rest p + (all_own program threads p - owns program thread thread.state p)) ≤ 1
        others p = step_keeps (globals_of program store ++ taken) (globals_of program after ++ given) (λ q. rest q + (all_own program threads q - owns program thread thread.state q)) (keeps apart).0 (keeps apart).1
            (λ q.
            let one = carriers_joined q (globals_of program store) taken in
            let two = low q in
            let three = counted q in
            let four = own_there q in
            omega (arith, one, two, three, four)) p

-- ---- configurations

-- a configuration of the program that is parted, whose frames are lent
pub record IsKept (plain : Plain) (config : Config) : Type 0 where
  pub of_plain : IsOf plain config
  pub parted : IsParted plain.program config
  pub lent : All (λ (thread : Running). StateIsLent plain.program thread.state) config.threads

module _ (plain : Plain) (ok : IsPlain plain) (linear : Keeps linear_rules plain.program) (writable : AreWritable plain.program) (keeps : (action : Action) → Meant plain action → KeepsPermissions plain.program action) where
  abbrev program : Program
  program = plain.program

  abbrev Lent : Running → Type 0
  Lent thread = StateIsLent program thread.state

  -- what a change leaves
  abbrev Left : Config → Type 0
  Left config = IsParted program config × All Lent config.threads

  changed : (config : Config) (t : ℕ) (thread : Running) → slice_get config.threads t ≡ Some thread → IsKept plain config → (change : Change) → Kept program config.store thread thread.state change → Left (step_with config t thread change).1
  changed config t thread at h (Stays a) k = (h.parted, h.lent)
  changed config t thread at h (Goes locals place) k =
      (still_parted program config.store config.threads h.parted t thread at (thread_after thread (Goes locals place)) k.0, All-set Lent config.threads t (thread_after thread (Goes locals place)) k.1 h.lent)
  changed config t thread at h (Enters frame place) k =
      (still_parted program config.store config.threads h.parted t thread at (thread_after thread (Enters frame place)) k.0, All-set Lent config.threads t (thread_after thread (Enters frame place)) k.1 h.lent)
  changed config t thread at h (Leaves frame) k =
      (still_parted program config.store config.threads h.parted t thread at (thread_after thread (Leaves frame)) k.0, All-set Lent config.threads t (thread_after thread (Leaves frame)) k.1 h.lent)
  changed config t thread at h (Acts after locals place) k =
      (acted_parted program config.store config.threads h.parted t thread at after (thread_after thread (Acts after locals place)) k.0.0 k.0.1 k.0.2 k.0.3 k.0.4 k.0.5, All-set Lent config.threads t (thread_after thread (Acts after locals place)) k.1 h.lent)
  changed config t thread at h (Spawns other place) k = (
    spawned_parted program config.store config.threads h.parted t thread at (thread_after thread (Spawns other place)) other k.0.0,
    All-push Lent (slice_set config.threads t (thread_after thread (Spawns other place))) other (All-set Lent config.threads t (thread_after thread (Spawns other place)) k.1 h.lent) (subst (StateIsLent program) (sym k.0.1) tt),
  )

  in_kept : (config : Config) (move : Move) → IsMove move → IsKept plain config → (o : Option Running) → slice_get config.threads move.thread ≡ o → Left (step_in plain config move o).1
  in_kept config move fit h None e = (h.parted, h.lent)
  in_kept config move fit h (Some thread) e =
      changed config move.thread thread e h (change_of plain config.store move.choices thread)
      (thread_kept plain ok linear writable keeps config.store h.of_plain.store move.choices fit thread
      (all_at (ThreadIsSorted plain) config.threads move.thread thread e h.of_plain.sorted) (all_at (IsStacked plain) config.threads move.thread thread e h.of_plain.stacked) (all_at Lent config.threads move.thread thread e h.lent))

  pub step_kept : (config : Config) (move : Move) → IsMove move → IsKept plain config → IsKept plain (step_of plain config move).1
  step_kept config move fit h =
      let k = in_kept config move fit h (slice_get config.threads move.thread) refl in
      record { of_plain = step_is_of plain config move ok fit h.of_plain; parted = k.0; lent = k.1 }

  pub run_kept : (moves : List Move) (from to : Config) → All IsMove moves → RunsTo plain moves from to → IsKept plain from → IsKept plain to
  run_kept [] from to fit r h = subst (IsKept plain) r h
  run_kept (m ∷ ms) from to fit r h =
      let k : IsKept plain r.0 = subst (λ (s : Stepped × Config). IsKept plain s.1) r.1 (step_kept from m (All-head IsMove m ms fit) h) in
      run_kept ms r.0 to (All-tail IsMove m ms fit) r.2 k

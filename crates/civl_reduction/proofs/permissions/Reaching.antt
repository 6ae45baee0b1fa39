-- Every configuration that a run of a layer's program reaches from an initial store is parted.
use Rattle.std.proofs.Common.{◌≡◌, ℕ, ◌≤◌, true, false, ◌&&◌, List, [], ◌∷◌, ◌++◌, map, refl, sym, ap, ◌∙◌, subst, arith, Option, None, Some, slice_get, inl, inr, ◌⊎◌}
use Rattle.std.specs.Prelude.{All, flat_map, nat_le, nat_lt, ◌==◌}
use Rattle.std.specs.List.{list_all}
use Rattle.std.proofs.lemmas.Bool.{not-false, leb-true, ltb-true, ltb-false, or_cases, and_parts}
use Rattle.std.proofs.lemmas.Option.{same_Some}
use Rattle.std.proofs.lemmas.List.Elements.{All-nil, All-cons}
use Rattle.civl_tree.specs.declared.action.Action.{Action}
use Rattle.civl_tree.specs.declared.stmt.Stmt.{Stmt}
use Rattle.civl_tree.specs.declared.stmt.Stmt.TheOpen.{Stmt-F}
use Rattle.civl_tree.specs.declared.program.Proc.{Proc}
use Rattle.civl_tree.specs.declared.program.Refines.{Refines}
use Rattle.civl_tree.specs.declared.program.Program.{Program}
use Rattle.civl_tree.specs.declared.program.Thread.{Thread}
use Rattle.civl_tree.specs.SpellingDomain.{allows_global, allows_invariant, allows_name, allows_expr, allows_param, allows_action, allows_proc, allows_program}
use Rattle.civl_tree.specs.rules.Names.{action_named, proc_named}
use Rattle.civl_tree.proofs.Kept.{statement_kept, proc_kept}
use Rattle.civl_tree.proofs.Lists.{all_get}
use Rattle.civl_firing.specs.declared.store.Store.{Store}
use Rattle.civl_firing.specs.Truth.{place_of}
use Rattle.civl_firing.proofs.Finding.{found_at}
use Rattle.civl_meaning.specs.declared.config.Plain.{Plain}
use Rattle.civl_meaning.specs.declared.config.Running.{Running}
use Rattle.civl_meaning.specs.Permissions.{pairwise_disjoint, of_globals}
use Rattle.civl_meaning.specs.Initial.{of_thread, IsInitial}
use Rattle.civl_meaning.specs.Meaning.{Does, proc_number, meaning_of, meaning_else, refined}
use Rattle.civl_meaning.specs.Layers.{means_body, program_at}
use Rattle.civl_meaning.specs.Step.{begun, start}
use Rattle.civl_meaning.proofs.Begun.{start_is_of}
use Rattle.civl_meaning.proofs.Bodies.{bodies_at}
use Rattle.civl_layers.specs.Ranges.{exists_through, life_end}
use Rattle.civl_layers.specs.Names.{action_range}
use Rattle.civl_layers.specs.NotThere.{action_missing, call_missing, form_missing, stmt_missing, refines_missing}
use Rattle.civl_layers.specs.LayerRules.{layer_rules, not_there_rule}
use Rattle.civl_layers.specs.Layered.{IsLayered}
use Rattle.civl_layers.proofs.PlainPrograms.{layered_is_plain}
use Rattle.civl_reduction.specs.permissions.Owned.{owned}
use Rattle.civl_reduction.specs.permissions.Stay.{PermissionsStay}
use Rattle.civl_reduction.proofs.permissions.Meant.{does_by, does_refined}
use Rattle.civl_reduction.proofs.permissions.Lending.{StateIsLent}
use Rattle.civl_reduction.proofs.permissions.Changing.{Meant, AreWritable}
use Rattle.civl_reduction.proofs.permissions.Staying.{IsKept, run_kept}

-- ---- what the grammar can write

pub are_writable : (program : Program) → allows_program program ≡ true → AreWritable program
are_writable program h = (actions, procs)
  where
    parts : (list_all (allows_action (program.version == 2)) program.actions ≡ true) × (list_all (allows_proc (program.version == 2)) program.procs ≡ true)
    parts =
        let a = and_parts (list_all allows_global program.globals) _ h in
        let b = and_parts (allows_expr (program.version == 2) program.init) _ a.1 in
        let c = and_parts (list_all (allows_invariant (program.version == 2)) program.invariants) _ b.1 in
        let d = and_parts (list_all (allows_action (program.version == 2)) program.actions) _ c.1 in
        (d.0, (and_parts (list_all (allows_proc (program.version == 2)) program.procs) _ d.1).0)

    actions : (place : ℕ) (action : Action) → slice_get program.actions place ≡ Some action → list_all allows_param action.params ≡ true
    actions place action at = (and_parts (list_all allows_param action.params) _ (and_parts (allows_name action.name) _ (all_get (allows_action (program.version == 2)) program.actions place action parts.0 at)).1).0

    procs : (place : ℕ) (proc : Proc) → slice_get program.procs place ≡ Some proc → list_all allows_param proc.params ≡ true
    procs place proc at = (and_parts (list_all allows_param proc.params) _ (and_parts (allows_name proc.name) _ (all_get (allows_proc (program.version == 2)) program.procs place proc parts.1 at)).1).0

-- ---- which actions are called

-- an action that exists from a layer on has begun there
begun_by : (from to : ℕ) (action : Action) → from ≤ to → action_missing from to (Some action) ≡ false → action.first ≤ from
begun_by from to action h e = go (or_cases (nat_lt to from) (nat_le action.first from && nat_le to action.last) (not-false (exists_through from to (action_range action)) e))
  where
    go : (nat_lt to from ≡ true) ⊎ ((nat_le action.first from && nat_le to action.last) ≡ true) → action.first ≤ from
    go (inl q) = let l = ltb-true to from q in absurd (omega (arith, h, l))
    go (inr q) = leb-true action.first from (and_parts (nat_le action.first from) (nat_le to action.last) q).0

module _ (program : Program) (src : IsLayered program) (layer : ℕ) where
  abbrev plain : Plain
  plain = program_at program layer

  number_begins : (k : ℕ) (action : Action) → meaning_of plain k ≡ Does action → (number : ℕ) × (slice_get program.actions number ≡ Some action) × (action.first ≤ layer)
  number_begins k action e = by_proc (does_by program (slice_get plain.bodies k) k (slice_get program.procs k) action e)
    where
      by_proc : (proc : Proc) × (slice_get program.procs k ≡ Some proc) × (slice_get plain.bodies k ≡ Some false) × (refined program proc.refines ≡ Does action) → (number : ℕ) × (slice_get program.actions number ≡ Some action) × (action.first ≤ layer)
      by_proc d =
          let r = does_refined program d.0 d.0.refines action d.3 in
          let body : means_body layer d.0.refines ≡ false = same_Some (means_body layer d.0.refines) false (sym (bodies_at layer program.procs k d.0 d.1) ∙ d.2) in
          let low : nat_lt layer r.0.layer ≡ false = subst (λ (o : Option Refines). means_body layer o ≡ false) r.1 body in
          let kept : refines_missing program d.0.refines ≡ false = proc_kept layer_rules program src.layers not_there_rule (3, omega arith, refl) k d.0 d.1 in
          let there : action_missing r.0.layer r.0.layer (Some action) ≡ false = subst (λ (o : Option Action). action_missing r.0.layer r.0.layer o ≡ false) r.2 (subst (λ (o : Option Refines). refines_missing program o ≡ false) r.1 kept) in
          let first = begun_by r.0.layer r.0.layer action (omega arith) there in
          let below = ltb-false layer r.0.layer low in
          (place_of (map (λ a. a.name) program.actions) r.0.action, found_at (λ (a : Action). a.name) program.actions r.0.action ∙ r.2, omega (arith, first, below))

  pub meant_begins : (action : Action) → Meant plain action → (number : ℕ) × (slice_get program.actions number ≡ Some action) × (action.first ≤ layer)
  meant_begins action (inr m) = number_begins m.0 action m.1
  meant_begins action (inl m) = by_action (action_named program m.4) refl m.10
    where
      by_action : (o : Option Action) → action_named program m.4 ≡ o → meaning_else plain m.4 o ≡ Does action → (number : ℕ) × (slice_get program.actions number ≡ Some action) × (action.first ≤ layer)
      by_action None q e = number_begins (proc_number program m.4) action e
      by_action (Some a) q e =
          let same : a ≡ action = cc in
          let named : action_named program m.4 ≡ Some action = q ∙ ap (λ (b : Action). Some b) same in
          let kept : stmt_missing program m.2 m.3 ≡ false = statement_kept layer_rules program src.layers not_there_rule (3, omega arith, refl) (stmt_missing program m.2) m.0 m.2 m.7 refl m.1 m.3 m.8 in
          let to = life_end program m.2.refines in
          let form : call_missing program to (action_named program m.4) (proc_named program m.4) ≡ false = subst (λ (d : Stmt-F Stmt). form_missing program to d ≡ false) m.9 kept in
          let there : action_missing 0 to (Some action) ≡ false = subst (λ (o : Option Action). call_missing program to o (proc_named program m.4) ≡ false) named form in
          let first = begun_by 0 to action (omega arith) there in
          (place_of (map (λ b. b.name) program.actions) m.4, found_at (λ (b : Action). b.name) program.actions m.4 ∙ named, omega (arith, first))

-- ---- the start

start_owns : (program : Program) (store : Store) (threads : List Thread) → flat_map (owned program) (map (begun program store) threads) ≡ flat_map (of_thread program store) threads
start_owns program store [] = refl
start_owns program store (t ∷ ts) = ap (λ (l : List (List ℕ)). of_thread program store t ++ l) (start_owns program store ts)

start_lent : (program : Program) (store : Store) (threads : List Thread) → All (λ (thread : Running). StateIsLent program thread.state) (map (begun program store) threads)
start_lent program store [] = All-nil (λ (thread : Running). StateIsLent program thread.state)
start_lent program store (t ∷ ts) = All-cons (λ (thread : Running). StateIsLent program thread.state) (begun program store t) (map (begun program store) ts) tt (start_lent program store ts)

pub start_kept : (program : Program) (layer : ℕ) (store : Store) → IsLayered program → IsInitial program store → IsKept (program_at program layer) (start (program_at program layer) store)
start_kept program layer store src initial = record {
  of_plain = start_is_of (program_at program layer) store (layered_is_plain program src layer) initial.store_fits;
  parted = ap (λ (l : List (List ℕ)). pairwise_disjoint (of_globals program.globals store.values ++ l)) (start_owns program store program.threads) ∙ initial.disjoint;
  lent = start_lent program store program.threads;
}

pub permissions_stay : PermissionsStay
permissions_stay program layer store moves config allowed src linear keeps initial fit runs =
    (run_kept (program_at program layer) (layered_is_plain program src layer) linear (are_writable program allowed)
    (λ action meant. let m = meant_begins program src layer action meant in keeps m.0 action m.1 m.2)
    moves (start (program_at program layer) store) config fit runs (start_kept program layer store src initial)).parted

-- The configurations of a layer's program are as the reduction asks: the calls before which threads stand are of the layer's
-- actions, and those of two threads are apart.
use Rattle.std.proofs.Common.{◌≡◌, ℕ, ◌≤◌, Bool, List, [], ap, subst, Some, slice_get}
use Rattle.std.specs.Prelude.{IsTrue}
use Rattle.civl_bits.specs.declared.value.Value.{Value}
use Rattle.civl_tree.specs.declared.action.Action.{Action}
use Rattle.civl_tree.specs.declared.program.Program.{Program}
use Rattle.civl_tree.specs.SpellingDomain.{allows_program}
use Rattle.civl_tree.specs.rules.Rules.{Keeps}
use Rattle.civl_firing.specs.declared.store.Store.{Store}
use Rattle.civl_meaning.specs.declared.config.Move.{Move}
use Rattle.civl_meaning.specs.declared.config.Plain.{Plain}
use Rattle.civl_meaning.specs.declared.config.Running.{Running}
use Rattle.civl_meaning.specs.declared.config.Config.{Config}
use Rattle.civl_meaning.specs.declared.config.Stepped.{Stepped}
use Rattle.civl_meaning.specs.Change.{doing}
use Rattle.civl_meaning.specs.Layers.{program_at}
use Rattle.civl_meaning.specs.Initial.{IsInitial}
use Rattle.civl_meaning.specs.Config.{ThreadIsSorted, IsStacked}
use Rattle.civl_soundness.specs.Stepped.{called_in, next_action}
use Rattle.civl_soundness.proofs.Fitting.{all_at}
use Rattle.civl_layers.specs.Layered.{IsLayered}
use Rattle.civl_layers.proofs.PlainPrograms.{layered_is_plain}
use Rattle.civl_linear.specs.LinearRules.{linear_rules}
use Rattle.civl_conditions.specs.Values.{Invoked}
use Rattle.civl_reduction.specs.interleavings.Threads.{Parted}
use Rattle.civl_reduction.specs.interleavings.Threads as threads
use Rattle.civl_reduction.specs.exchanges.Interleavings.{Chosen, Call, whole, program_threads}
use Rattle.civl_reduction.proofs.exchanges.Exchanging.{config_of, steps_back, called_so}
use Rattle.civl_reduction.specs.permissions.Stay.{KeepsPermissions}
use Rattle.civl_reduction.specs.permissions.Apart.{SpawnsStandInRoots, StandsBefore}
use Rattle.civl_reduction.proofs.permissions.Changing.{Meant}
use Rattle.civl_reduction.proofs.permissions.Staying.{IsKept, step_kept}
use Rattle.civl_reduction.proofs.permissions.Reaching.{are_writable, meant_begins, start_kept}
use Rattle.civl_reduction.proofs.permissions.Calls.{before_owns, two_apart, next_exists}
use Rattle.civl_reduction.proofs.mover_laws.Instance.{Met, Apart}

-- the call that a thread makes next
pub next_is : (plain : Plain) (r : Running) (x : Call) (f : List Value → Running) → whole r (doing plain r) ≡ threads.Calls x f → next_action plain r ≡ Some x
next_is plain r x f e =
    let c = called_so r (doing plain r) x f e in
    ap called_in c.4

-- ---- the invariant

module _ (program : Program) (layer : ℕ) (allowed : IsTrue (allows_program program)) (src : IsLayered program) (linear : Keeps linear_rules program) (roots : SpawnsStandInRoots program) (within : layer ≤ program.layers)
    (keeps : (number : ℕ) (action : Action) → slice_get program.actions number ≡ Some action → action.first ≤ layer → KeepsPermissions program action)
    (store : Store) (initial : IsInitial program store) (inside : Running → Bool) where
  abbrev plain : Plain
  plain = program_at program layer

  abbrev pub Holds : threads.Config Store Running → Type 0
  Holds c = IsKept plain (config_of c)

  pub kept : (action : Action) → Meant plain action → KeepsPermissions program action
  kept action meant = let m = meant_begins program src layer action meant in keeps m.0 action m.1 m.2

  holds_on : (c d : threads.Config Store Running) (m : threads.Move Chosen) → Holds c → threads.step_of (program_threads plain store inside) c m ≡ Some d → Holds d
  holds_on c d m h e =
      let move : Move = record { thread = m.thread; choices = m.chosen.0 } in
      let made = steps_back plain store inside (config_of c) move m.chosen.1 d e in
      subst (λ (s : Stepped × Config). IsKept plain s.1) made
      (step_kept plain (layered_is_plain program src layer) linear (are_writable program allowed) kept (config_of c) move m.chosen.1 h)

  before : (c : threads.Config Store Running) (t : ℕ) (r : Running) (x : Call) (f : List Value → Running) → slice_get c.threads t ≡ Some r → whole r (doing plain r) ≡ threads.Calls x f → StandsBefore program layer (config_of c) t (record { action = x.0; inputs = x.1; chosen = [] })
  before c t r x f there e = record { thread = r; there = there; next = next_is plain r x f e }

  met : (c : threads.Config Store Running) (t : ℕ) (r : Running) (x : Call) (f : List Value → Running) → Holds c → slice_get c.threads t ≡ Some r → whole r (doing plain r) ≡ threads.Calls x f → Met program layer c.store x
  met c t r x f h there e =
      let invoked : Invoked = record { action = x.0; inputs = x.1; chosen = [] } in
      let own = before_owns program layer (config_of c) linear (are_writable program allowed) (layered_is_plain program src layer) kept h t invoked (before c t r x f there e) in
      let m = meant_begins program src layer x.0 own.meant_so in
      record {
        sorted = h.of_plain.store;
        number = m.0;
        action = m.1;
        exists = next_exists program src layer within roots linear r (all_at (ThreadIsSorted plain) c.threads t r there h.of_plain.sorted) (all_at (IsStacked plain) c.threads t r there h.of_plain.stacked) x.0 x.1 (next_is plain r x f e);
        inputs = own.sorted;
      }

  pub are_parted : Parted Store Running Call Chosen (List Value) (program_threads plain store inside) (Met program layer) (Apart program layer) Holds
  are_parted = record {
    holds_first = start_kept program layer store src initial;
    holds_on = holds_on;
    apart = λ c t u r q x y f e h n a b i j. record {
      one = met c t r x f h a i;
      other = met c u q y e h b j;
      disjoint = two_apart program layer (config_of c) linear (are_writable program allowed) (layered_is_plain program src layer) kept h t u (record { action = x.0; inputs = x.1; chosen = [] }) (record { action = y.0; inputs = y.1; chosen = [] }) n (before c t r x f a i) (before c u q y e b j);
    };
    met = met;
  }

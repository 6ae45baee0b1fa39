-- An action that runs beside other threads, as terms: what is assumed of the store in which it begins, and what comes of it.
use Rattle.std.specs.Prelude.{ℕ, List, [], ◌++◌, map}
use Rattle.civl_bits.specs.declared.value.Value.{Value}
use Rattle.civl_tree.specs.declared.action.Action.{Action}
use Rattle.civl_tree.specs.declared.program.Program.{Program}
use Rattle.civl_firing.specs.declared.store.Store.{Store}
use Rattle.civl_meaning.specs.Permissions.{pairwise_disjoint, permissions_of_word}
use Rattle.civl_terms.specs.declared.node.Node.{Node}
use Rattle.civl_actions.specs.Actions.{values_at}
use Rattle.civl_conditions.specs.declared.condition.Target.{Target}
use Rattle.civl_conditions.specs.Invariants.{invariants_hold}
use Rattle.civl_conditions.specs.Targets.{act_fails}
use Rattle.civl_states.specs.formula_parts.Said.{Env, IsTest}
use Rattle.civl_states.specs.declared.invoked.Invoked.{Invoked}
use Rattle.civl_states.specs.Stores.{AreStore}
use Rattle.civl_states.specs.Runs.{IsInvoked, Runs}
use Rattle.civl_states.specs.Items.{comes_in}
use Rattle.civl_movers.specs.declared.interfere.acting.Acting.{Acting}

-- the term says whether what goes into the action, and these words beside it, are pairwise disjoint
abbrev pub TellsApart : List Node → List Node → Program → List ℕ → Invoked → List ℕ → ℕ → Type 0
TellsApart old new program globals x owned id =
    (a : Action) (g : Env → Store) (i c : Env → List Value) → AreStore old program globals g → IsInvoked old program x a i c
    → IsTest new id (λ env. pairwise_disjoint (comes_in program a (g env) (i env) ++ map permissions_of_word (values_at env old owned)))

-- the invariants of the step hold before it; what goes in is disjoint; and the terms of the action
pub record IsActing (old new : List Node) (program : Program) (step : ℕ) (globals : List ℕ) (x : Invoked) (owned : List ℕ) (acting : Acting) : Type 0 where
  pub holds : (g : Env → Store) → AreStore old program globals g → IsTest new acting.holds (λ env. invariants_hold program step (g env))
  pub apart : TellsApart old new program globals x owned acting.apart
  pub runs : Runs old new program globals x acting.made

-- the term says whether the action, from a store in which the invariants of the step hold, loses this target
abbrev pub TellsActed : List Node → List Node → Program → ℕ → List ℕ → Invoked → Target → ℕ → Type 0
TellsActed old new program step globals x target id =
    (a : Action) (g : Env → Store) (i c : Env → List Value) → AreStore old program globals g → IsInvoked old program x a i c
    → IsTest new id (λ env. act_fails program step (g env) (record { action = a; inputs = i env; chosen = c env }) target [] 0)

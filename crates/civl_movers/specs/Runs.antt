-- Two actions at terms, and what a term tells of actions.
use Rattle.std.specs.Prelude.{◌≡◌, ℕ, Bool, List, [], Some}
use Rattle.civl_bits.specs.declared.value.Value.{Value}
use Rattle.civl_tree.specs.declared.expr.Sort.TheVariants.{Bool as Truth}
use Rattle.civl_tree.specs.declared.action.Action.{Action}
use Rattle.civl_tree.specs.declared.program.Program.{Program}
use Rattle.civl_firing.specs.declared.store.Store.{Store}
use Rattle.civl_firing.specs.Fired.{gate_holds, guard_holds, offers, store_after}
use Rattle.civl_terms.specs.declared.node.Node.{Node}
use Rattle.civl_terms.specs.Graphs.{sort_at}
use Rattle.civl_actions.specs.declared.made.Instance.{Instance}
use Rattle.civl_conditions.specs.Values.{Invoked as Meant}
use Rattle.civl_conditions.specs.Movers.{waits}
use Rattle.civl_states.specs.formula_parts.Said.{Env, IsTest}
use Rattle.civl_states.specs.declared.invoked.Invoked.{Invoked}
use Rattle.civl_states.specs.Stores.{AreStore}
use Rattle.civl_states.specs.Runs.{IsInvoked, IsRun, Runs, TellsGate}
use Rattle.civl_movers.specs.declared.meeting.Meeting.{Meeting}
use Rattle.civl_movers.specs.declared.sequence.Sequence.{Sequence}

abbrev pub invoke : Action → List Value → List Value → Meant
invoke a inputs chosen = record { action = a; inputs = inputs; chosen = chosen }

-- whether the guard holds with the choices that are offered
abbrev pub guard_offered : Program → Store → Action → List Value → Bool
guard_offered program g b j = guard_holds program.globals g b j (offers program.globals g b j)

-- K8 at these inputs: the choices, which have no variables, take no part
abbrev pub waits_at : Program → Store → Action → List Value → Bool
waits_at program g b j = waits program g (record { action = b; inputs = j; chosen = [] })

-- ---- two actions

-- the terms of a first action, of the second one's gate before it, and of that after it
pub record HaveMet (old new : List Node) (program : Program) (globals : List ℕ) (x y : Invoked) (met : Meeting) : Type 0 where
  pub first : Runs old new program globals x met.first
  pub before : TellsGate old new program globals y.action y.inputs met.before
  pub later : (a b : Action) (g : Env → Store) (i c j d : Env → List Value) → AreStore old program globals g → IsInvoked old program x a i c → IsInvoked old program y b j d
      → IsTest new met.later (λ env. gate_holds program.globals (store_after program.globals (g env) a (i env) (c env)) b (j env))

-- the terms of a first action, and of a second one after it
pub record HaveRun (old new : List Node) (program : Program) (globals : List ℕ) (x y : Invoked) (ran : Sequence) : Type 0 where
  pub first : Runs old new program globals x ran.first
  pub second : (a b : Action) (g : Env → Store) (i c j d : Env → List Value) → AreStore old program globals g → IsInvoked old program x a i c → IsInvoked old program y b j d
      → IsRun new program b ran.second (λ env. store_after program.globals (g env) a (i env) (c env)) j d

-- the terms of a gate and a guard are bools
pub record AreTested (ns : List Node) (made : Instance) : Type 0 where
  pub gate : sort_at ns made.gate ≡ Some Truth
  pub guard : sort_at ns made.guard ≡ Some Truth

-- ---- what a term tells

-- the term says this of the store and of an action, whatever they are
abbrev pub TellsOne : List Node → List Node → Program → List ℕ → Invoked → (Store → Meant → Bool) → ℕ → Type 0
TellsOne old new program globals x says id =
    (a : Action) (g : Env → Store) (i c : Env → List Value) → AreStore old program globals g → IsInvoked old program x a i c → IsTest new id (λ env. says (g env) (invoke a (i env) (c env)))

-- the term says this of the store and of two actions, whatever they are
abbrev pub TellsTwo : List Node → List Node → Program → List ℕ → Invoked → Invoked → (Store → Meant → Meant → Bool) → ℕ → Type 0
TellsTwo old new program globals x y says id =
    (a b : Action) (g : Env → Store) (i c j d : Env → List Value) →
    AreStore old program globals g → IsInvoked old program x a i c → IsInvoked old program y b j d →
    IsTest new id (λ env. says (g env) (invoke a (i env) (c env)) (invoke b (j env) (d env)))

-- A condition that holds says of all states what it says of the values of its variables: of whole stores, whatever the
-- globals have that are no variables of it, and of all other values of their sorts.
use Rattle.std.specs.Prelude.{ℕ, ◌≡◌, false, List, ◌++◌, length, drop, map, Some, slice_get, IsTrue, Contains}
use Rattle.civl_bits.specs.declared.value.Value.{Value}
use Rattle.civl_firing.specs.values.Values.{HaveSorts}
use Rattle.civl_tree.specs.declared.expr.Sort.{Sort}
use Rattle.civl_tree.specs.declared.action.Choice.{Choice}
use Rattle.civl_tree.specs.declared.program.Proc.{Proc}
use Rattle.civl_tree.specs.declared.program.Program.{Program}
use Rattle.civl_firing.specs.declared.store.Store.{Store}
use Rattle.civl_firing.specs.Stores.{IsStore}
use Rattle.civl_firing.specs.Scope.{zeros_of_params, zeros_of_locals}
use Rattle.civl_meaning.specs.Change.{outs_in}
use Rattle.civl_layers.specs.declared.cut.Cut.{Cut}
use Rattle.civl_layers.specs.declared.cut.CutKind.{CutKind}
use Rattle.civl_layers.specs.declared.cut.CutKind.TheVariants as kind
use Rattle.civl_layers.specs.Cuts.{proc_cuts}
use Rattle.civl_layers.specs.Layered.{IsLayered}
use Rattle.civl_conditions.specs.paths.Seen.{IsProcOf}
use Rattle.civl_conditions.specs.declared.condition.Condition.TheVariants.{Start, Keep, Pair, Fire, Path, Block, Act}
use Rattle.civl_conditions.specs.declared.condition.Part.{Part}
use Rattle.civl_conditions.specs.declared.condition.Target.{Target}
use Rattle.civl_conditions.specs.Steps.{begins_below, meet_below, lasts_through}
use Rattle.civl_conditions.specs.Listed.{targets}
use Rattle.civl_conditions.specs.Variables.{passed_choices, other_variables}
use Rattle.civl_conditions.specs.Values.{Invoked, Begun}
use Rattle.civl_conditions.specs.Parts.{path_fails}
use Rattle.civl_conditions.specs.Targets.{block_fails, act_fails}
use Rattle.civl_conditions.specs.Invariants.{start_fails}
use Rattle.civl_conditions.specs.Movers.{loses, waits, pair_fails}
use Rattle.civl_conditions.specs.Violated.{Holds}

-- the action with this number, with inputs and choices of its sorts
pub record IsInvoked (program : Program) (number : ℕ) (x : Invoked) : Type 0 where
  pub action : slice_get program.actions number ≡ Some x.action
  pub inputs : HaveSorts x.inputs (map (λ p. p.sort) x.action.params)
  pub chosen : HaveSorts x.chosen (map (λ c. c.sort) x.action.choices)

-- K1 to K8 of states
pub record HoldsOfStates (program : Program) : Type 0 where
  pub starts : (step i : ℕ) (g : Store) → Holds program (Start step i) → IsStore program.globals g → start_fails program step i g ≡ false
  pub keeps : (step x : ℕ) (g : Store) (a : Invoked) → Holds program (Keep step x) → IsStore program.globals g → IsInvoked program x a → IsTrue (begins_below step a.action) → loses program g a ≡ false
  pub pairs : (number step x y : ℕ) (g : Store) (a b : Invoked) → Holds program (Pair number step x y) → IsStore program.globals g → IsInvoked program x a → IsInvoked program y b → IsTrue (meet_below step a.action b.action) → pair_fails program number step g a b ≡ false
  pub fires : (step x : ℕ) (g : Store) (a : Invoked) → Holds program (Fire step x) → IsStore program.globals g → IsInvoked program x a → IsTrue (begins_below step a.action) → waits program g a ≡ false

abbrev pub ActionsOfStates : Type 0
ActionsOfStates = (program : Program) → IsLayered program → HoldsOfStates program

-- ---- K9 to K11

-- the values for a frame of the procedure: its parameters, outputs and locals
abbrev pub frame_sorts : Proc → List Sort
frame_sorts proc = map (λ p. p.sort) proc.params ++ (map (λ p. p.sort) proc.outs ++ map (λ l. l.sort) proc.locals)

-- the present is the old
pub record IsFresh (proc : Proc) (b : Begun) : Type 0 where
  pub store : b.old ≡ b.store
  pub outs : b.old_outs ≡ outs_in proc b.locals
  pub done : b.old_done ≡ b.done

-- the outputs and locals are zeros, and `done` is false
pub record IsNew (proc : Proc) (b : Begun) : Type 0 where
  pub rest : drop (length proc.params) b.locals ≡ zeros_of_params proc.outs ++ zeros_of_locals proc.locals
  pub done : b.done ≡ false

abbrev pub BeginsAs : Proc → CutKind → Begun → Type 0
BeginsAs proc kind.Entry b = IsNew proc b × IsFresh proc b
BeginsAs proc kind.Yield b = IsFresh proc b
BeginsAs proc kind.YieldLoop b = IsFresh proc b
BeginsAs proc kind.RankLoop b = Unit {0}

-- a path's beginning at a cut: all values are of their sorts, and so are the choices of each statement that some path passes
pub record IsBegun (program : Program) (step : ℕ) (proc : Proc) (cut : Cut) (b : Begun) : Type 0 where
  pub store : IsStore program.globals b.store
  pub locals : HaveSorts b.locals (frame_sorts proc)
  pub old : IsStore program.globals b.old
  pub old_outs : HaveSorts b.old_outs (map (λ p. p.sort) proc.outs)
  pub chosen : (number : ℕ) (choices : List Choice) → Contains (passed_choices program step proc cut) (number, choices) → HaveSorts (b.chosen number) (map (λ c. c.sort) choices)
  pub begins : BeginsAs proc cut.kind b

-- values for the other thread's frame at a target
abbrev pub AreOthersOf : Program → Target → List Value → Type 0
AreOthersOf program target values = HaveSorts values (map (λ v. v.sort) (other_variables program target))

-- the cut with this number of the procedure with this number, which has the step's layer
pub record IsCutOf (program : Program) (step q c : ℕ) (proc : Proc) (cut : Cut) : Type 0 where
  pub of_proc : IsProcOf program q step proc
  pub there : slice_get (proc_cuts proc) c ≡ Some cut

pub record PathsHoldOfStates (program : Program) : Type 0 where
  pub paths : (part : Part) (step q c : ℕ) (proc : Proc) (cut : Cut) (b : Begun) → Holds program (Path part step q c) → IsCutOf program step q c proc cut → IsBegun program step proc cut b → path_fails program step part proc c cut b ≡ false
  pub blocks : (step q c : ℕ) (proc : Proc) (cut : Cut) (b : Begun) (target : Target) (others : List Value) → Holds program (Block step q c target) → IsCutOf program step q c proc cut → IsBegun program step proc cut b → Contains (targets program step) target → AreOthersOf program target others → block_fails program step proc c cut b target others 0 ≡ false
  pub acts : (step x : ℕ) (g : Store) (a : Invoked) (target : Target) (others : List Value) → Holds program (Act step x target) → IsStore program.globals g → IsInvoked program x a → IsTrue (lasts_through step a.action) → Contains (targets program step) target → AreOthersOf program target others → act_fails program step g a target others 0 ≡ false

abbrev pub PathsOfStates : Type 0
PathsOfStates = (program : Program) → IsLayered program → PathsHoldOfStates program

-- What paths and steps see of a store: in a layered program the path of a procedure of layer k sees the globals of the two
-- programs of step k alone, and a step in its body those of the lower one (frame properties: O'Hearn, Reynolds, Yang, 2001).
use Rattle.std.specs.Prelude.{ℕ, ◌-◌, ◌≡◌, Bool, List, Some, slice_get, Contains}
use Rattle.civl_bits.specs.declared.value.Value.{Value}
use Rattle.civl_tree.specs.declared.stmt.Stmt.{Stmt, out-Stmt}
use Rattle.civl_tree.specs.declared.program.Global.{Global}
use Rattle.civl_tree.specs.declared.program.Refines.{Refines}
use Rattle.civl_tree.specs.declared.program.Proc.{Proc}
use Rattle.civl_tree.specs.declared.program.Program.{Program}
use Rattle.civl_tree.specs.Numbering.{statements_of}
use Rattle.civl_firing.specs.declared.store.Store.{Store}
use Rattle.civl_meaning.specs.declared.config.Change.{Change}
use Rattle.civl_meaning.specs.declared.config.Change.TheVariants.{Acts}
use Rattle.civl_meaning.specs.Change.{done_by, statement_doing}
use Rattle.civl_meaning.specs.Layers.{program_at}
use Rattle.civl_layers.specs.declared.cut.Cut.{Cut}
use Rattle.civl_layers.specs.Ranges.{exists_around}
use Rattle.civl_layers.specs.Names.{global_range}
use Rattle.civl_layers.specs.Cuts.{proc_cuts}
use Rattle.civl_layers.specs.Layered.{IsLayered}
use Rattle.civl_conditions.specs.footprints.Agreement.{StoresAgree, exists_at}
use Rattle.civl_conditions.specs.paths.Paths.{Course, Progress, Outcome, Past, Comes, Fails, Stops, path_from}

-- a procedure of a program, with this number and of this layer
pub record IsProcOf (program : Program) (number layer : ℕ) (proc : Proc) : Type 0 where
  pub there : slice_get program.procs number ≡ Some proc
  pub refines : Refines
  pub refined : proc.refines ≡ Some refines
  pub layered : refines.layer ≡ layer

-- a body on its way in the lower program of a step
abbrev pub lower_course : Program → ℕ → Proc → (ℕ → List Value) → Course
lower_course program step proc chosen = record { plain = program_at program (step - 1); proc = proc; chosen = chosen }

-- ---- paths

-- the global is in one of the two programs of the step
abbrev pub exists_near : ℕ → Global → Bool
exists_near step global = exists_around step (global_range global)

-- the states agree on the globals that pass the test, and in all else
pub record StatesAgree (test : Global → Bool) (globals : List Global) (p q : Progress) : Type 0 where
  pub stores : StoresAgree test globals p.store q.store
  pub locals : p.locals ≡ q.locals
  pub done : p.done ≡ q.done
  pub again : p.again ≡ q.again

-- two paths end alike, and there the states agree
abbrev pub OutcomesAgree : (Global → Bool) → List Global → Outcome → Outcome → Type 0
OutcomesAgree test globals (Past p) (Past q) = StatesAgree test globals p q
OutcomesAgree test globals (Comes m p) (Comes n q) = (m ≡ n) × StatesAgree test globals p q
OutcomesAgree test globals (Fails p) (Fails q) = StatesAgree test globals p q
OutcomesAgree test globals (Stops p) (Stops q) = StatesAgree test globals p q
OutcomesAgree test globals _ _ = ⊥

-- from a cut of a procedure of this layer, from two states that agree on the globals of the step
abbrev pub PathsSeeTheirGlobals : Type 0
PathsSeeTheirGlobals =
    (program : Program) (number step : ℕ) (proc : Proc) (cut : Cut) (chosen : ℕ → List Value) (p q : Progress) →
    IsLayered program → IsProcOf program number step proc → Contains (proc_cuts proc) cut → StatesAgree (exists_near step) program.globals p q →
    OutcomesAgree (exists_near step) program.globals (path_from (lower_course program step proc chosen) cut p) (path_from (lower_course program step proc chosen) cut q)

-- ---- steps

-- two steps do alike: both stay for the same reason, or go on with the same locals to the same place, in stores that agree
abbrev pub ChangesAgree : (Global → Bool) → List Global → Change → Change → Type 0
ChangesAgree test globals (Acts s locals place) (Acts t others next) = StoresAgree test globals s t × (locals ≡ others) × (place ≡ next)
ChangesAgree test globals (Acts s locals place) _ = ⊥
ChangesAgree test globals _ (Acts t others next) = ⊥
ChangesAgree test globals a b = a ≡ b

-- each statement of a procedure of this layer does the same in two stores that agree on the globals of the lower program
abbrev pub StepsSeeTheirGlobals : Type 0
StepsSeeTheirGlobals =
    (program : Program) (number step : ℕ) (proc : Proc) (stmt : Stmt) (chosen locals : List Value) (at next : ℕ) (s t : Store) →
    IsLayered program → IsProcOf program number step proc → Contains (statements_of proc.body) stmt → StoresAgree (exists_at (step - 1)) program.globals s t →
    ChangesAgree (exists_at (step - 1)) program.globals
    (done_by (program_at program (step - 1)) s chosen (statement_doing (program_at program (step - 1)) proc locals at next (out-Stmt stmt)))
    (done_by (program_at program (step - 1)) t chosen (statement_doing (program_at program (step - 1)) proc locals at next (out-Stmt stmt)))

-- Serves private functions: what is worked out once of a program and its outline.
use Rattle.std.specs.Prelude.{ℕ, ◌≡◌, ◌+◌, ◌*◌, ◌<◌, true, List, [], length, Option, None, Some, slice_get, ⊤}
use Rattle.std.specs.List.{AllZip}
use Rattle.civl_tree.specs.declared.stmt.Stmt.{Stmt, out-Stmt}
use Rattle.civl_tree.specs.declared.program.Proc.{Proc}
use Rattle.civl_tree.specs.declared.program.Program.{Program}
use Rattle.civl_tree.specs.Numbering.{sizes_of, statement_at}
use Rattle.civl_outlines.specs.declared.outline.Outline.{Outline}
use Rattle.civl_meaning.specs.Layers.{topmost}
use Rattle.civl_meaning.specs.Places.{Spot, spot_at}
use Rattle.civl_conditions.specs.Variables.{of_globals, layer_choices}
use Rattle.civl_conditions.specs.Weights.{bits_of_variables, globals_bits, linear_globals, initial_own, lin}
use Rattle.civl_goals.specs.declared.goal.Goal.{Goal}
use Rattle.civl_goals.specs.declared.goal.Goal.TheVariants as goal
use Rattle.civl_goals.specs.Listed.{is_root}
use Rattle.civl_goals.specs.Failed.{held_before}
use Rattle.civl_goals.specs.Variables.{of_names, of_statement}
use Rattle.civl_goals.specs.Weights.{invariant_weight, note_before_weight, form_weight, form_begins, form_reaches, summed_at, items_at, statement_weight, weight}
use Rattle.civl_weighing.specs.declared.weight.Weight.{Weight}
use Rattle.civl_weighing.specs.Bits.{choices_bits}
use Rattle.civl_weighing.specs.Weighing.{Weighs}
use Rattle.civl_weights.specs.sums.Sums.{OfAction}
use Rattle.civl_outlined.specs.declared.statements.StatementSums.{StatementSums}
use Rattle.civl_outlined.specs.declared.roots.ProcSums.{ProcSums}
use Rattle.civl_outlined.specs.declared.weights.Sums.{Sums}
use Rattle.civl_outlined.specs.declared.weights.Found.{Found}
use Rattle.civl_outlined.specs.inner.Said.{IsSaid}

-- ---- statements

-- these are the sums of the statement with this number of the procedure with this number
pub record OfStatement (program : Program) (outline : Outline) (r s : ℕ) (proc : Proc) (stmt : Stmt) (next : ℕ) (sums : StatementSums) : Type 0 where
  pub base : Weighs sums.base (invariant_weight program outline + note_before_weight program outline r s + form_weight program proc (out-Stmt stmt))
  pub note : Weighs sums.note (note_before_weight program outline r s)
  pub begins : Weighs sums.begins (form_begins program outline (out-Stmt stmt))
  pub reaches : Weighs sums.reaches (summed_at (note_before_weight program outline r) (form_reaches s next (out-Stmt stmt)))
  pub items : Weighs sums.items (length (held_before program proc s))
  pub choices : Weighs sums.choices (choices_bits (layer_choices (topmost program) (out-Stmt stmt)))

-- the statement with this number stands there, and these are its sums
pub record IsThere (program : Program) (outline : Outline) (r s : ℕ) (proc : Proc) (all : List StatementSums) : Type 0 where
  pub stmt : Stmt
  pub next : ℕ
  pub sums : StatementSums
  pub spot : spot_at proc.body s ≡ Some (record { number = s; stmt = stmt; next = next })
  pub statement : statement_at proc.body s ≡ Some stmt
  pub found : slice_get all s ≡ Some sums
  pub own : OfStatement program outline r s proc stmt next sums

-- the first statements of a procedure, so many, stand there
pub record AreThere (program : Program) (outline : Outline) (r : ℕ) (proc : Proc) (count : ℕ) (all : List StatementSums) : Type 0 where
  pub each : (s : ℕ) → s < count → IsThere program outline r s proc all

-- ---- procedures

-- the bits of a frame, and of a root the sums of each statement
pub record OfProc (program : Program) (outline : Outline) (r : ℕ) (proc : Proc) (sums : ProcSums) : Type 0 where
  pub frame : (front : List ℕ) → Weighs sums.frame (bits_of_variables (of_names front proc))
  pub statements : is_root proc ≡ true → AreThere program outline r proc (sizes_of proc.body) sums.statements

-- the procedure with this number has sums
pub record HasProc (program : Program) (outline : Outline) (r : ℕ) (proc : Proc) (all : List ProcSums) : Type 0 where
  pub sums : ProcSums
  pub found : slice_get all r ≡ Some sums
  pub own : OfProc program outline r proc sums

-- the first procedures, so many, have sums
pub record AreProcs (program : Program) (outline : Outline) (count : ℕ) (all : List ProcSums) : Type 0 where
  pub each : (r : ℕ) (proc : Proc) → r < count → slice_get program.procs r ≡ Some proc → HasProc program outline r proc all

-- ---- all

-- all that the weights of goals are added up from
pub record OfSums (sums : Sums) : Type 0 where
  pub said : IsSaid sums.said
  pub bits : Weighs sums.bits (bits_of_variables (of_globals [] sums.said.program.now.globals))
  pub top : Weighs sums.top (globals_bits sums.said.program.now sums.said.program.now.layers)
  pub globals : Weighs sums.globals (linear_globals sums.said.program.now)
  pub initial : Weighs sums.initial (initial_own sums.said.program.now)
  pub actions : AllZip (OfAction sums.said.program.now) sums.said.program.now.actions sums.actions
  pub procs : AreProcs sums.said.program.now sums.said.outline.now (length sums.said.program.now.procs) sums.procs

-- ---- goals

-- a statement of a root
abbrev pub IsOfRoot : Program → ℕ → ℕ → Type 0
IsOfRoot program r s = (proc : Proc) × (slice_get program.procs r ≡ Some proc) × (is_root proc ≡ true) × (s < sizes_of proc.body)

-- the statements that a goal names are of roots
abbrev pub NamesRoots : Program → Goal → Type 0
NamesRoots program (goal.Safe r s) = IsOfRoot program r s
NamesRoots program (goal.Keep r s) = IsOfRoot program r s
NamesRoots program (goal.Spawn r s) = IsOfRoot program r s
NamesRoots program (goal.Next r s) = IsOfRoot program r s
NamesRoots program (goal.Other r s q t) = IsOfRoot program r s × IsOfRoot program q t
NamesRoots program _ = ⊤

-- it is of a statement of a root
pub record OfFound (program : Program) (outline : Outline) (r s : ℕ) (found : Found) : Type 0 where
  pub proc : Proc
  pub stmt : Stmt
  pub next : ℕ
  pub there : slice_get program.procs r ≡ Some proc
  pub spot : spot_at proc.body s ≡ Some (record { number = s; stmt = stmt; next = next })
  pub statement : statement_at proc.body s ≡ Some stmt
  pub own : OfStatement program outline r s proc stmt next found.own
  pub frame : (front : List ℕ) → Weighs found.frame (bits_of_variables (of_names front proc))

abbrev pub IsFound : Program → Outline → ℕ → ℕ → Option Found → Type 0
IsFound program outline r s None = ⊥
IsFound program outline r s (Some found) = OfFound program outline r s found

-- ---- weights

-- the bits of the variables, twice what is said, so many items, and 1
pub record AreTogether (program : Program) (variables says items w : Weight) : Type 0 where
  pub is : (v b n : ℕ) → Weighs variables v → Weighs says b → Weighs items n → Weighs w (v + (2 * b + lin program n + 1))

-- the bits of the variables of a statement's goals
pub record IsVariables (sums : Sums) (found : Found) (w : Weight) : Type 0 where
  pub is : (r s : ℕ) → OfSums sums → OfFound sums.said.program.now sums.said.outline.now r s found → Weighs w (bits_of_variables (of_statement sums.said.program.now r s))

-- the weight of a goal of a statement that names this too
pub record IsStatementGoal (sums : Sums) (found : Found) (named w : Weight) : Type 0 where
  pub is : (r s : ℕ) (f : Spot → ℕ) (of : OfFound sums.said.program.now sums.said.outline.now r s found) → Weighs named (f (record { number = s; stmt = of.stmt; next = of.next }))
      → Weighs w (bits_of_variables (of_statement sums.said.program.now r s) + statement_weight sums.said.program.now sums.said.outline.now r s (items_at sums.said.program.now r s) f)

-- the weight of a goal of a statement and another thread
pub record IsOther (sums : Sums) (found other : Found) (w : Weight) : Type 0 where
  pub is : (r s q t : ℕ) → OfFound sums.said.program.now sums.said.outline.now r s found → OfFound sums.said.program.now sums.said.outline.now q t other → Weighs w (weight sums.said.program.now sums.said.outline.now (goal.Other r s q t))

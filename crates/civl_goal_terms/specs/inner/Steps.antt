-- Serves private functions: what a statement makes of a state, where the path is there.
use Rattle.std.specs.Prelude.{ℕ, not, false, List}
use Rattle.civl_bits.specs.declared.value.Value.{Value}
use Rattle.civl_tree.specs.declared.program.Proc.{Proc}
use Rattle.civl_tree.specs.declared.program.Program.{Program}
use Rattle.civl_tree.specs.declared.stmt.Stmt.{Stmt, out-Stmt}
use Rattle.civl_tree.specs.declared.stmt.Stmt.TheOpen.{Stmt-F, Assign, Assert, Call}
use Rattle.civl_meaning.specs.Config.{frame_sorts}
use Rattle.civl_terms.specs.declared.node.Node.{Node}
use Rattle.civl_conditions.specs.paths.Paths.{Course, tested}
use Rattle.civl_moves.specs.sweeps.Sweeps.{Swept, gated, standing, sweep_begins, with_assign, with_call}
use Rattle.civl_states.specs.formula_parts.Said.{Env, IsTest}
use Rattle.civl_states.specs.formula_parts.Lists.{AreSaid}
use Rattle.civl_states.specs.Stores.{AreStore}
use Rattle.civl_moves.specs.declared.sweep.Sweep.{Sweep}
use Rattle.civl_body.specs.Passing.{course_in}
use Rattle.civl_goal_terms.specs.declared.places.At.{At}
use Rattle.civl_goal_terms.specs.inner.Settings.{Here}

-- a statement with this number; where it only leads on, the state stays
abbrev pub moved : Course → ℕ → Stmt-F Stmt → Swept → Swept
moved c at (Assign x e) d = with_assign c x e d
moved c at (Assert e) d = gated (tested c e (standing d)) d
moved c at (Call f es rs) d = with_call c f es rs at d
moved c at _ d = d

-- in the topmost program, with these values for the choices
abbrev pub moved_at : Program → At → List Value → Swept → Swept
moved_at program at chosen d = moved (course_in program program.layers at.proc.now (λ number. chosen)) at.number (out-Stmt at.stmt.now) d

-- before the statement
abbrev pub begun : Here → Swept
begun here = sweep_begins (record { store = here.store; locals = here.locals; done = false; again = false })

-- behind it
abbrev pub swept_by : Program → At → Here → Swept
swept_by program at here = moved_at program at here.chosen (begun here)

-- the terms say so
pub record SaysSwept (ns : List Node) (program : Program) (proc : Proc) (sweep : Sweep) (d : Env → Swept) : Type 0 where
  pub live : IsTest ns sweep.live (λ env. (d env).live)
  pub safe : IsTest ns sweep.safe (λ env. not (d env).broken)
  pub globals : AreStore ns program sweep.globals (λ env. (d env).store)
  pub locals : AreSaid ns sweep.locals (frame_sorts proc) (λ env. (d env).locals)

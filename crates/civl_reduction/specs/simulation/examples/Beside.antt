-- What stands beside a thread of the flag program, whose only thread calls Q, which refines Do:
--
--   civl 1; layers 1; permissions 1;
--   global f : bool layers 0 to 1;
--   global s : bool layers 1 to 1;
--   action Do() -> () choose () layers 1 to 1 atomic gate s guard true { f := true; }
--   proc Q() -> () refines Do with () layer 1 { call Set() -> (); commit; }
--   thread Q();
use Rattle.std.specs.Prelude.{ℕ, ◌≡◌, true, false, [], ◌∷◌, codes}
use Rattle.civl_tree.specs.declared.program.Proc.{Proc}
use Rattle.civl_tree.specs.declared.program.Program.{Program}
use Rattle.civl_tree.specs.declared.stmt.Stmt as stmt
use Rattle.civl_firing.specs.examples.Written.{refines, proc}
use Rattle.civl_meaning.specs.declared.config.Activation.{Activation}
use Rattle.civl_meaning.specs.declared.config.State.TheVariants.{Before, After}
use Rattle.civl_meaning.specs.declared.config.State.{State}
use Rattle.civl_meaning.specs.declared.config.Running.{Running}
use Rattle.civl_meaning.specs.Layers.{program_at}
use Rattle.civl_meaning.specs.Change.{Enters, doing}
use Rattle.civl_reduction.specs.blocks.examples.Blocks.{set, program_with}
use Rattle.civl_reduction.specs.simulation.Meets.{beside}

abbrev pub flag : Program
flag = program_with (set ∷ stmt.Commit ∷ [])

abbrev pub q : Proc
q = proc (codes "Q") [] [] (refines (codes "Do") 1) [] (set ∷ stmt.Commit ∷ [])

-- the thread, in this state
abbrev pub thread_in : State → Running
thread_in state = record { callee = 0; args = []; state = state }

-- Q's frame at a place of its body
abbrev pub frame_at : ℕ → Activation
frame_at place = record { procedure = 0; place = place; locals = [] }

-- in the lower program the call makes the frame
abbrev pub TheCallEnters : Type 0
TheCallEnters = doing (program_at flag 0) (thread_in Before) ≡ Enters (frame_at 0) 0

-- before the commit the thread stands beside before its call, and behind it the call has been made
abbrev pub BesideTheFrame : Type 0
BesideTheFrame = (beside flag 0 false (q, frame_at 0) (thread_in Before) ≡ thread_in Before) × (beside flag 0 true (q, frame_at 1) (thread_in Before) ≡ thread_in After)

-- Serves private functions: the variables of another thread's frame, which stand behind all others.
use Rattle.std.specs.Prelude.{◌≡◌, ◌+◌, ◌-◌, ℕ, List, ◌++◌, length, map}
use Rattle.civl_tree.specs.declared.expr.Sort.{Sort}
use Rattle.civl_tree.specs.declared.program.Proc.{Proc}
use Rattle.civl_tree.specs.declared.program.Program.{Program}
use Rattle.civl_firing.specs.values.Values.{is_true}
use Rattle.civl_meaning.specs.Config.{frame_sorts}
use Rattle.civl_terms.specs.declared.node.Node.{Node}
use Rattle.civl_conditions.specs.declared.condition.Target.{Target}
use Rattle.civl_conditions.specs.Targets.{frame_size}
use Rattle.civl_conditions.specs.Variables.{other_variables}
use Rattle.civl_states.specs.formula_parts.Said.{IsTest}
use Rattle.civl_states.specs.formula_parts.Lists.{AreSaid}
use Rattle.civl_states.specs.formula_parts.Given.{given}
use Rattle.civl_refine.specs.declared.steadiness.yielding.Frame.{Frame}

-- the last of these sorts are those of the frame's variables
pub record EndWith (sorts : List Sort) (program : Program) (target : Target) : Type 0 where
  pub front : List Sort
  pub is : sorts ≡ front ++ map (λ v. v.sort) (other_variables program target)

-- so many stand before them
abbrev pub others_from : List Sort → Program → Target → ℕ
others_from sorts program target = length sorts - length (other_variables program target)

-- the terms say the variables from a number on
pub record IsFrameFrom (ns : List Node) (proc : Proc) (first : ℕ) (frame : Frame) : Type 0 where
  pub locals : AreSaid ns frame.locals (frame_sorts proc) (λ env. given env first (frame_size proc))
  pub done : IsTest ns frame.done (λ env. is_true (env (first + frame_size proc)))

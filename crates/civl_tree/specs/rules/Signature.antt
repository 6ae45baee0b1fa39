-- E34, Signature: a procedure whose parameters or outputs differ from those of the action that it refines, in number,
-- mode or sort. Their names may differ.
use Rattle.std.specs.Prelude.{Bool, true, false, not, ◌&&◌, List, [], ◌∷◌, Option, None, Some}
use Rattle.civl_tree.specs.declared.action.Mode.{Mode}
use Rattle.civl_tree.specs.declared.action.Mode.TheVariants.{Val, Lend, Take, Give}
use Rattle.civl_tree.specs.declared.action.Param.{Param}
use Rattle.civl_tree.specs.declared.action.Action.{Action}
use Rattle.civl_tree.specs.declared.program.Refines.{Refines}
use Rattle.civl_tree.specs.declared.program.Proc.{Proc}
use Rattle.civl_tree.specs.declared.program.Program.{Program}
use Rattle.civl_tree.specs.rules.Names.{action_named}
use Rattle.civl_tree.specs.rules.Sorts.{same_sort}

abbrev pub same_mode : Mode → Mode → Bool
same_mode Val Val = true
same_mode Lend Lend = true
same_mode Take Take = true
same_mode Give Give = true
same_mode first second = false

-- the same number, each with the mode and the sort of the other in its place
abbrev pub same_params : List Param → List Param → Bool
same_params [] [] = true
same_params [] (other ∷ others) = false
same_params (param ∷ params) [] = false
same_params (param ∷ params) (other ∷ others) = same_mode param.mode other.mode && (same_sort param.sort other.sort && same_params params others)

-- the procedure's signature isn't that of this action, where there is one
abbrev pub signature_differs : Proc → Option Action → Bool
signature_differs proc None = false
signature_differs proc (Some action) = not (same_params proc.params action.params && same_params proc.outs action.outs)

-- a root refines nothing
abbrev pub refined_differs : Program → Proc → Option Refines → Bool
refined_differs program proc None = false
refined_differs program proc (Some refines) = signature_differs proc (action_named program refines.action)

abbrev pub proc_signature_differs : Program → Proc → Bool
proc_signature_differs program proc = refined_differs program proc proc.refines

-- What belongs to the procedures of a program, whatever the condition.
use Rattle.std.specs.Prelude.{◌≡◌, ℕ, List, map}
use Rattle.std.specs.List.{AllZip}
use Rattle.std.specs.List.Sorted.{IsStrictlyIncreasing}
use Rattle.civl_tree.specs.declared.program.Proc.{Proc}
use Rattle.civl_tree.specs.declared.program.Program.{Program}
use Rattle.civl_tree.specs.Numbering.{statements_of}
use Rattle.civl_layers.specs.declared.cut.Cut.{Cut}
use Rattle.civl_layers.specs.Cuts.{proc_cuts}
use Rattle.civl_conditions.specs.paths.Flows.{flow_from}
use Rattle.civl_bodies.specs.declared.body.Body.{Body}
use Rattle.civl_bodies.specs.declared.body.Bodies.{Bodies}

-- the numbers of the statements that some path from a cut passes, which rise
pub record ArePassed (proc : Proc) (cut : Cut) (numbers : List ℕ) : Type 0 where
  pub are : numbers ≡ map (λ q. q.0) (flow_from proc cut).passed
  pub rise : IsStrictlyIncreasing numbers

-- all statements of a procedure in text order; its cuts in their order; and of each cut what the paths pass
pub record IsBody (proc : Proc) (body : Body) : Type 0 where
  pub statements : map (λ s. s.now) body.statements.items ≡ statements_of proc.body
  pub cuts : body.cuts ≡ proc_cuts proc
  pub passed : AllZip (ArePassed proc) (proc_cuts proc) body.passed.items

-- one for each procedure, in their order
abbrev pub AreBodies : Program → Bodies → Type 0
AreBodies program bodies = AllZip IsBody program.procs bodies.procs.items

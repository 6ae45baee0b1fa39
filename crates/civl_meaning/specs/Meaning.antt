-- Part of the claim: docs/CLAIM.md.
-- What a name that is called means in a plain program: an action, or a procedure with its body.
use Rattle.std.specs.Prelude.{ℕ, Bool, true, false, map, Option, None, Some, slice_get}
use Rattle.civl_tree.specs.declared.name.Name.{Name}
use Rattle.civl_tree.specs.declared.action.Action.{Action}
use Rattle.civl_tree.specs.declared.program.Proc.{Proc}
use Rattle.civl_tree.specs.declared.program.Refines.{Refines}
use Rattle.civl_tree.specs.declared.program.Program.{Program}
use Rattle.civl_tree.specs.rules.Names.{action_named}
use Rattle.civl_meaning.specs.declared.config.Plain.{Plain}
use Rattle.civl_firing.specs.Truth.{place_of}

-- an action, or the body of the procedure with this number; a name that isn't declared means nothing
pub data Meaning : Type 0 where
  Does : Action → Meaning
  Runs : ℕ → Proc → Meaning
  Missing : Meaning

-- the number of the procedure of this name
abbrev pub proc_number : Program → Name → ℕ
proc_number program name = place_of (map (λ p. p.name) program.procs) name

abbrev pub meaning_of_action : Option Action → Meaning
meaning_of_action None = Missing
meaning_of_action (Some action) = Does action

-- the action that a procedure refines
abbrev pub refined : Program → Option Refines → Meaning
refined program None = Missing
refined program (Some r) = meaning_of_action (action_named program r.action)

-- a procedure means its body where `bodies` says so, and else the action that it refines
abbrev pub meaning_by : Program → Option Bool → ℕ → Option Proc → Meaning
meaning_by program body number None = Missing
meaning_by program (Some true) number (Some proc) = Runs number proc
meaning_by program (Some false) number (Some proc) = refined program proc.refines
meaning_by program None number (Some proc) = Missing

-- what a call of the procedure with this number means
abbrev pub meaning_of : Plain → ℕ → Meaning
meaning_of plain number = meaning_by plain.program (slice_get plain.bodies number) number (slice_get plain.program.procs number)

abbrev pub meaning_else : Plain → Name → Option Action → Meaning
meaning_else plain name (Some action) = Does action
meaning_else plain name None = meaning_of plain (proc_number plain.program name)

-- what a call of this name means
abbrev pub called : Plain → Name → Meaning
called plain name = meaning_else plain name (action_named plain.program name)

-- Serves private functions: the first frame of a procedure, by its name, and the note before its first statement.
use Rattle.std.specs.Prelude.{Bool, not, List, [], slice_get}
use Rattle.std.specs.Option.{option_map}
use Rattle.civl_bits.specs.declared.value.Value.{Value}
use Rattle.civl_tree.specs.declared.name.Name.{Name}
use Rattle.civl_tree.specs.declared.expr.Sort.{Sort}
use Rattle.civl_tree.specs.declared.program.Program.{Program}
use Rattle.civl_tree.specs.rules.Uses.{param_sorts}
use Rattle.civl_outlines.specs.declared.outline.Outline.{Outline}
use Rattle.civl_firing.specs.declared.store.Store.{Store}
use Rattle.civl_meaning.specs.Change.{new_frame}
use Rattle.civl_meaning.specs.Meaning.{proc_number}
use Rattle.civl_conditions.specs.Movers.{on_some}
use Rattle.civl_conditions.specs.Steps.{of_proc}
use Rattle.civl_goals.specs.Outlines.{note_holds}

-- the sorts of the parameters of the procedure of this name
abbrev pub named_sorts : Program → Name → List Sort
named_sorts program name = of_proc program (proc_number program name) [] (λ proc. param_sorts proc.params)

-- called with these arguments, it begins where its first note isn't true
abbrev pub begins_astray : Program → Outline → Name → Store → List Value → Bool
begins_astray program outline name g args =
    on_some (option_map (λ proc. new_frame (proc_number program name) proc args) (slice_get program.procs (proc_number program name))) (λ first. not (note_holds program outline g first))

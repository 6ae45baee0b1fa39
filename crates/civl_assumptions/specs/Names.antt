-- The names of what carries permissions in a condition, as the condition's variables have them (linear permissions: Kragl, Qadeer, CAV
-- 2018).
use Rattle.std.specs.Prelude.{ℕ, Bool, true, ◌&&◌, List, [], ◌++◌, map, filter, codes, slice_get}
use Rattle.std.specs.List.{flat_map}
use Rattle.std.specs.Option.{option_map_or}
use Rattle.civl_tree.specs.declared.name.Name.{Name}
use Rattle.civl_tree.specs.declared.action.Action.{Action}
use Rattle.civl_tree.specs.declared.action.Param.{Param}
use Rattle.civl_tree.specs.declared.program.Global.{Global}
use Rattle.civl_tree.specs.declared.program.Proc.{Proc}
use Rattle.civl_tree.specs.declared.program.Thread.{Thread}
use Rattle.civl_tree.specs.declared.program.Program.{Program}
use Rattle.civl_tree.specs.rules.Names.{names_in_proc}
use Rattle.civl_tree.specs.rules.Width.{is_linear}
use Rattle.civl_meaning.specs.Meaning.{proc_number}
use Rattle.civl_conditions.specs.declared.condition.Target.{Target}
use Rattle.civl_conditions.specs.declared.condition.Target.TheVariants as target
use Rattle.civl_conditions.specs.Permissions.{held_at}
use Rattle.civl_conditions.specs.Steps.{of_proc}
use Rattle.civl_path_stories.specs.Paths.{name_at}

-- a linear global that passes the test
abbrev pub is_among : (Global → Bool) → Global → Bool
is_among test g = test g && g.linear

-- the names of the linear globals that pass the test
abbrev pub of_globals : (Global → Bool) → List Global → List (List ℕ)
of_globals test globals = map (λ g. g.name.bytes) (filter (is_among test) globals)

-- those of the linear parameters, each behind a word
abbrev pub of_params : List ℕ → List Param → List (List ℕ)
of_params word params = map (λ p. word ++ p.name.bytes) (filter (λ p. is_linear p.mode) params)

-- those of the names of a procedure that have these numbers
abbrev pub of_numbers : List ℕ → Proc → List ℕ → List (List ℕ)
of_numbers word proc numbers = map (λ n. word ++ (name_at (names_in_proc proc) n).bytes) numbers

-- `PROC.name`, of the linear parameters of a procedure
abbrev pub of_callee : Proc → List (List ℕ)
of_callee proc = of_params (proc.name.bytes ++ codes ".") proc.params

-- those of the procedure that a declared thread calls
abbrev pub of_thread : Program → Thread → List (List ℕ)
of_thread program thread = option_map_or of_callee (slice_get program.procs (proc_number program thread.callee)) []

-- all linear globals, and the linear arguments of the declared threads
abbrev pub at_start : Program → List (List ℕ)
at_start program = of_globals (λ g. true) program.globals ++ flat_map (of_thread program) program.threads

-- `other.name`, of what another thread holds at the target
abbrev pub of_target : Program → Target → List (List ℕ)
of_target program (target.Invariant i) = []
of_target program (target.Yield r y) = of_proc program r [] (λ proc. of_numbers (codes "other.") proc (held_at program proc y))

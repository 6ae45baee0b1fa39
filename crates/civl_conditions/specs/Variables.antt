-- The variables of conditions, in their order, with their printed names.
use Rattle.std.specs.Prelude.{ℕ, ◌-◌, Bool, not, if◌then◌else◌, List, [], ◌∷◌, ◌++◌, map, filter, flat_map, codes, decimal}
use Rattle.civl_tree.specs.declared.name.Name.{Name}
use Rattle.civl_tree.specs.declared.expr.Sort.{Sort}
use Rattle.civl_tree.specs.declared.expr.Sort.TheVariants as sort
use Rattle.civl_tree.specs.declared.stmt.Stmt.{Stmt, out-Stmt}
use Rattle.civl_tree.specs.declared.stmt.Stmt.TheOpen as stmt
use Rattle.civl_tree.specs.declared.action.Param.{Param}
use Rattle.civl_tree.specs.declared.action.Choice.{Choice}
use Rattle.civl_tree.specs.declared.action.Action.{Action}
use Rattle.civl_tree.specs.declared.program.Global.{Global}
use Rattle.civl_tree.specs.declared.program.Local.{Local}
use Rattle.civl_tree.specs.declared.program.Proc.{Proc}
use Rattle.civl_tree.specs.declared.program.Program.{Program}
use Rattle.civl_meaning.specs.declared.config.Plain.{Plain}
use Rattle.civl_meaning.specs.Meaning.{Meaning, Does, Runs, Missing, called}
use Rattle.civl_meaning.specs.Layers.{program_at}
use Rattle.civl_layers.specs.declared.cut.Cut.{Cut}
use Rattle.civl_conditions.specs.paths.Flows.{flow_from}
use Rattle.civl_conditions.specs.paths.Ends.{is_entry, is_rank_loop}
use Rattle.civl_conditions.specs.footprints.Agreement.{exists_at}
use Rattle.civl_conditions.specs.paths.Seen.{exists_near}
use Rattle.civl_conditions.specs.declared.condition.Variable.{Variable}
use Rattle.civl_conditions.specs.declared.condition.Condition.{Condition}
use Rattle.civl_conditions.specs.declared.condition.Condition.TheVariants.{Start, Keep, Pair, Fire, Path, Block, Act}
use Rattle.civl_conditions.specs.declared.condition.Target.{Target}
use Rattle.civl_conditions.specs.declared.condition.Target.TheVariants as target
use Rattle.civl_conditions.specs.Steps.{of_action, of_proc, of_cut}

-- a variable, with what stands before its name
abbrev pub variable : List ℕ → Name → Sort → Variable
variable front name sort = record { name = record { bytes = front ++ name.bytes }; sort = sort }

abbrev pub flag : List ℕ → Variable
flag bytes = record { name = record { bytes = bytes }; sort = sort.Bool }

abbrev pub of_globals : List ℕ → List Global → List Variable
of_globals front globals = map (λ g. variable front g.name g.sort) globals

abbrev pub of_params : List ℕ → List Param → List Variable
of_params front params = map (λ p. variable front p.name p.sort) params

abbrev pub of_choices : List ℕ → List Choice → List Variable
of_choices front choices = map (λ c. variable front c.name c.sort) choices

abbrev pub of_locals : List ℕ → List Local → List Variable
of_locals front locals = map (λ l. variable front l.name l.sort) locals

-- those of one kind, where the cut has them
abbrev pub where_has : Bool → List Variable → List Variable
where_has has variables = if has then variables else []

-- ---- actions

abbrev pub lower_globals : Program → ℕ → List Variable
lower_globals program step = of_globals [] (filter (exists_at (step - 1)) program.globals)

abbrev pub near_globals : List ℕ → Program → ℕ → List Variable
near_globals front program step = of_globals front (filter (exists_near step) program.globals)

-- the parameters and choices of an action
abbrev pub of_instance : List ℕ → Action → List Variable
of_instance front a = of_params front a.params ++ of_choices front a.choices

-- ---- paths

-- what a call of this name does in a plain program: the choices of the action
abbrev pub choices_of : Meaning → List Choice
choices_of (Does action) = action.choices
choices_of (Runs number proc) = []
choices_of Missing = []

abbrev pub layer_choices : Plain → stmt.Stmt-F Stmt → List Choice
layer_choices plain (stmt.Call f es rs) = choices_of (called plain f)
layer_choices plain _ = []

-- the statements that have choices: each passed statement, with its number and its choices
abbrev pub passed_choices : Program → ℕ → Proc → Cut → List (ℕ × List Choice)
passed_choices program step proc cut = map (λ q. (q.0, layer_choices (program_at program (step - 1)) (out-Stmt q.1))) (flow_from proc cut).passed

abbrev pub call_front : ℕ → List ℕ
call_front number = codes "call" ++ decimal number ++ codes "."

abbrev pub of_passed : List (ℕ × List Choice) → List Variable
of_passed calls = flat_map (λ q. of_choices (call_front q.0) q.1) calls

-- from a cut: the globals; the old ones at a rank loop; the parameters; but for the entry the outputs and locals; the old outputs
-- at a rank loop; `done`, but for the entry; the old one at a rank loop; and the choices of each call that some path passes
abbrev pub path_variables : Program → ℕ → Proc → Cut → List Variable
path_variables program step proc cut =
    near_globals [] program step
    ++ (where_has (is_rank_loop cut.kind) (near_globals (codes "old.") program step)
    ++ (of_params [] proc.params
    ++ (where_has (not (is_entry cut.kind)) (of_params [] proc.outs ++ of_locals [] proc.locals)
    ++ (where_has (is_rank_loop cut.kind) (of_params (codes "old.") proc.outs)
    ++ (where_has (not (is_entry cut.kind)) (flag (codes "done") ∷ [])
    ++ (where_has (is_rank_loop cut.kind) (flag (codes "old.done") ∷ [])
    ++ of_passed (passed_choices program step proc cut)))))))

-- the other thread's frame at a yield
abbrev pub other_variables : Program → Target → List Variable
other_variables program (target.Invariant i) = []
other_variables program (target.Yield r y) =
    of_proc program r [] (λ proc. of_params (codes "other.") proc.params ++ (of_params (codes "other.") proc.outs ++ (of_locals (codes "other.") proc.locals ++ flag (codes "other.done") ∷ [])))

unfoldable pub variables : Program → Condition → List Variable
variables program (Start step i) = of_globals [] program.globals
variables program (Keep step x) = lower_globals program step ++ of_action program x [] (of_instance (codes "X."))
variables program (Pair number step x y) = lower_globals program step ++ (of_action program x [] (of_instance (codes "X.")) ++ of_action program y [] (of_instance (codes "Y.")))
variables program (Fire step x) = lower_globals program step ++ of_action program x [] (λ a. of_params (codes "X.") a.params)
variables program (Path part step q c) = of_cut program q c [] (path_variables program step)
variables program (Block step q c target) = of_cut program q c [] (path_variables program step) ++ other_variables program target
variables program (Act step x target) = near_globals [] program step ++ (of_action program x [] (of_instance (codes "X.")) ++ other_variables program target)
